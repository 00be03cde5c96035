-- What a crash leaves, from the maps of leaves to states.
use Rattle.std.proofs.Common.{◌≡◌, inl, inr, ℕ, List, Bool, true, false, Result, refl, sym}
use Rattle.std.proofs.lemmas.Bool.{true≢false}
use Rattle.gx_device.specs.Content.{Moment, Content}
use Rattle.gx_device.specs.Crash.{Image, EachImage, LeavesOnly}
use Rattle.gx_device.specs.Quiet.{QuietSince, IsOldOrNew}
use Rattle.gx_device.proofs.RunLemmas.{weakened}
use Rattle.gx_commands.specs.declared.command.Command.{Command}
use Rattle.gx_commands.specs.declared.command.Command.TheVariants as command
use Rattle.gx_ports.specs.declared.view.View.{Ghosts}
use Rattle.gx_ports.specs.Calls.{Keeps, Talks}
use Rattle.gx_ports.specs.Calm.{StandsForKept, StandsForWorking, StaysKept, Replaces}
use Rattle.gx_ports.specs.QuietLaws.{quiet_weaker}
use Rattle.gx_ports.proofs.ImageLemmas.{replaced_weaker, stays_kept, keeps_images, kept_since}
use Rattle.gx_model.specs.Play.{Playing, seen_state, after_command}
use Rattle.gx_engine.specs.declared.engine.Engine.{Engine}
use Rattle.gx_edits.specs.Edits.{is_edit}
use Rattle.gx_engine.specs.Steps.{IsAt, schema_of, leaves_of, is_commit}
use Rattle.gx_engine.specs.Crashes.{HoldsFor, LeavesStates}

-- a command that changes records or links commits nothing
pub edit_alone : (c : Command) → is_edit c ≡ true → is_commit c ≡ false
edit_alone command.Commit is = absurd (true≢false (sym is))
edit_alone _ is = refl

pub commit_only : (c : Command) → is_commit c ≡ true → c ≡ command.Commit
commit_only command.Commit is = refl
commit_only _ is = absurd (true≢false (sym is))

-- where the old and the new are one
old_alone : (stands : List (List ℕ) → Type 0) (start : Moment) (a b : Content)
    → LeavesOnly (IsOldOrNew stands stands start) a b
    → LeavesOnly (IsOldOrNew stands (λ blocks. ⊥) start) a b
old_alone stands start a b run =
    weakened (EachImage (IsOldOrNew stands stands start))
    (EachImage (IsOldOrNew stands (λ blocks. ⊥) start))
    (λ m leaves image is. one image (leaves image is)) a b run
  where
    one : (image : Image) → IsOldOrNew stands stands start image
        → IsOldOrNew stands (λ blocks. ⊥) start image
    one image q = record {
      is = elim q.is [
        | inl s ↦ inl s
        | inr s ↦ inl s
      ];
      said = q.said;
      shelf = q.shelf;
    }

module _ {S : Type 0} (g : Ghosts S) where
  -- blocks that stand for the kept maps hold the kept state
  pub kept_state : (p : Playing) (e : Engine S) → IsAt g p e → (blocks : List (List ℕ))
      → StandsForKept g (leaves_of e) blocks → HoldsFor g e p.kept blocks
  kept_state p e at blocks stored = record {
    maps = g.kept (leaves_of e);
    internal = at.stands.kept_is;
    is = stored.is;
    laid = stored.laid_is at.kept_whole_is;
  }

  -- and those that stand for the working ones the state that commands see
  pub seen_held : (p : Playing) (e : Engine S) → IsAt g p e → (blocks : List (List ℕ))
      → StandsForWorking g (leaves_of e) blocks → HoldsFor g e (seen_state p) blocks
  seen_held p e at blocks stored = record {
    maps = g.working (leaves_of e);
    internal = at.stands.working_is;
    is = stored.is;
    laid = stored.laid_is at.whole_is;
  }

  -- a commit: the state that was kept, or the one that was to be
  pub commit_states : {T E : Type 0} (p : Playing) (old new : Engine S) (result : Result T E)
      (failed : Bool) → IsAt g p old → Replaces g (leaves_of old) (leaves_of new) result
      → ((start : Content) → g.calm (leaves_of old) start → failed ≡ false
      → g.calm (leaves_of new) (g.content (leaves_of new)))
      → (start : Content) → g.calm (leaves_of old) start
      → LeavesStates g p command.Commit old new failed
  commit_states p old new result failed at replaces goes start calm = record {
    images = replaced_weaker (StandsForKept g (leaves_of old)) (StandsForWorking g (leaves_of old))
        (HoldsFor g old p.kept) (HoldsFor g old (seen_state p)) (kept_state p old at)
        (seen_held p old at) (g.content (leaves_of old)).now (g.content (leaves_of old))
        (g.content (leaves_of new)) (replaces.images start calm);
    calm = goes start calm;
  }

  module _ (means : (l : S) (start : Content) → g.calm l start → StaysKept g l start)
      (goes_on : (l : S) (start : Content) → g.calm l start → g.calm l (g.content l)) where
    -- any other command, and one that is given up: the state that was kept
    pub keeps_states : (p : Playing) (c : Command) (old new : Engine S) (failed : Bool)
        → IsAt g p old → Keeps g (leaves_of old) (leaves_of new) → (start : Content)
        → g.calm (leaves_of old) start → LeavesStates g p c old new failed
    keeps_states p c old new failed at keeps start calm = record {
      images = replaced_weaker (StandsForKept g (leaves_of old)) (λ blocks. ⊥)
          (HoldsFor g old p.kept) (HoldsFor g old (after_command (schema_of old) p c).kept)
          (kept_state p old at) (λ blocks none. absurd none) (g.content (leaves_of old)).now
          (g.content (leaves_of old)) (g.content (leaves_of new))
          (old_alone (StandsForKept g (leaves_of old)) (g.content (leaves_of old)).now
          (g.content (leaves_of old)) (g.content (leaves_of new))
          (keeps_images g means goes_on (leaves_of old) (leaves_of new) keeps start calm));
      calm = λ none. goes_on (leaves_of new) start (keeps.calm start calm);
    }

    -- nothing happened
    pub still_states : (p : Playing) (c : Command) (e : Engine S) (failed : Bool) → IsAt g p e
        → (start : Content) → g.calm (leaves_of e) start → LeavesStates g p c e e failed
    still_states p c e failed at start calm = keeps_states p c e e failed at (record {
      leaves = refl;
      kept = refl;
      kept_whole = (λ h. h, λ h. h);
      limit = refl;
      head = refl;
      calm = λ s h. h;
      silent = record { said = refl; shelf = refl; script = refl; aside = refl };
    }) start calm

    -- hearing and saying
    pub talks_states : (p : Playing) (old new : Engine S) → IsAt g p old
        → Talks g (leaves_of old) (leaves_of new) → (start : Content) → g.calm (leaves_of old) start
        → QuietSince (HoldsFor g old p.kept) (g.content (leaves_of old)) (g.content (leaves_of new))
    talks_states p old new at talks start calm =
        quiet_weaker (StandsForKept g (leaves_of new)) (HoldsFor g old p.kept)
        (λ blocks stored. kept_state p old at blocks
        (kept_since g means goes_on (leaves_of old) (leaves_of new) talks.head talks.kept
        talks.kept_whole.0 blocks stored))
        (g.content (leaves_of old)) (g.content (leaves_of new))
        (stays_kept g means goes_on (leaves_of old) (leaves_of new) talks.calm start calm)
