-- What stands for the kept pages at each moment since an earlier one.
use Rattle.std.specs.Prelude.{◌≡◌, ℕ, List, [], ◌++◌, length, take, drop}
use Rattle.std.specs.List.{All}
use Rattle.gx_device.specs.Content.{Moment, Content}
use Rattle.gx_device.specs.Crash.{EachImage}
use Rattle.gx_device.specs.Quiet.{IsPrefix, IsQuiet}
use Rattle.gx_layout.specs.Layout.{View, Shows, AtRest, head_of, home, with_said}

-- At rest now, and since an earlier content each image stands for the view's pages and head, has
-- said what was said then, and no more than what is said now.
pub record Calm (start : Content) (v : View) (c : Content) : Type 0 where
  pub since : List Moment
  pub past : c.past ≡ start.past ++ since
  pub each : All (EachImage (IsQuiet (Shows v.size v.head v.pages) start.now c.now.said)) since
  pub now : AtRest c.now (with_said v c.now.said)
  pub begun : IsPrefix start.now.said c.now.said
  pub shelf : v.shelf ≡ start.now.shelf

-- the pages at home as they read, and the head
abbrev pub kept_view : ℕ → Content → View
kept_view P c =
    record {
      size = length c.now.blocks;
      pages = take P (drop (home (length c.now.blocks) P 0) c.now.blocks);
      head = head_of c.now.blocks;
      said = [];
      shelf = c.now.shelf;
    }

-- reads, which change nothing and keep what is calm
pub record OnlyReads (old new : Content) : Type 0 where
  pub now : new.now ≡ old.now
  pub script : new.script ≡ old.script
  pub aside : new.aside ≡ old.aside
  pub calm : (start : Content) (v : View) → Calm start v old → Calm start v new
