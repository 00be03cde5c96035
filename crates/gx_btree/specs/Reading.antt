-- What a call that reads a page of a tree gives.
use Rattle.std.specs.Prelude.{◌≡◌, ◌↔◌, ℕ, Bool, true, false, List, length, None, Result, IsTrue, OnOk, IfOk, IsErrOf}
use Rattle.gx_bytes.specs.declared.page.TheConstants.{PAGE_LEN}
use Rattle.gx_ports.specs.declared.page_view.PageView.{Ghosts}
use Rattle.gx_ports.specs.declared.stop.Stop.{Stop}
use Rattle.gx_ports.specs.declared.stop.Stop.TheVariants.{Full, NoMemory}
use Rattle.gx_ports.specs.Files.{EndsFile}
use Rattle.gx_ports.specs.PageCalls.{ReadsPages}
use Rattle.gx_ports.specs.Sheets.{IsPast, bytes_at}
use Rattle.gx_slots.specs.Page.{entries_of}
use Rattle.gx_slots.specs.Spots.{IsSought}
use Rattle.gx_bnode.specs.declared.leading.Fork.{Fork}
use Rattle.gx_bnode.specs.Page.{IsInnerPage, HasRoom, first_of, branches_of, separators_of}
use Rattle.gx_btree.specs.declared.reading.Shape.{Shape}
use Rattle.gx_btree.specs.declared.reading.Shape.TheVariants as shape
use Rattle.gx_btree.specs.declared.reading.Step.{Step}
use Rattle.gx_btree.specs.declared.reading.Step.TheVariants as step
use Rattle.gx_btree.specs.Bplus.{IsTreePage, Shows, Seems}
use Rattle.gx_btree.specs.Tree.{child_for, bound_for}

-- bytes that were tested have this shape: the whole of them was tested, or their header alone
abbrev pub Passes : Bool → Shape → List ℕ → Type 0
Passes true = Shows
Passes false = Seems

-- where an inner page leads for a key, and whether it has room for a separator
pub record IsLed (key bytes : List ℕ) (fork : Fork) : Type 0 where
  pub child : fork.child ≡ child_for (first_of bytes) (branches_of bytes) key
  pub last : IsTrue fork.is_last ↔ (bound_for (branches_of bytes) key None ≡ None)
  pub room : IsTrue fork.has_room ↔ HasRoom (separators_of bytes)

-- bytes that were tested as a whole have this step of a search for a key
abbrev pub Tells : List ℕ → Step → List ℕ → Type 0
Tells key (step.Entries sought) bytes =
    Shows shape.Entries bytes × IsSought key (entries_of bytes) sought
Tells key (step.Inner fork) bytes = IsInnerPage bytes × IsLed key bytes fork

-- The bytes of a page past the table are read, with what a test found of them: `HasShape` says how
-- far they are tested.
pub record ReadsTreePage {S T : Type 0} (g : Ghosts S) (HasShape : T → List ℕ → Type 0) (page : ℕ)
    (bytes_read : List ℕ) (old new : S) (result : Result T Stop) : Type 0
  where
    pub bytes : length bytes_read ≡ PAGE_LEN
    pub past : OnOk result (IsPast (g.ground old) page)
    pub shape : IfOk result (λ shape. HasShape shape bytes_read)
    pub read : IsTrue g.tells → OnOk result (bytes_at (g.working old) page ≡ bytes_read)
    pub reads : ReadsPages g old new
    pub ends : EndsFile g
        (IsTrue g.tells × IsTreePage (g.ground old) (g.working old) page) old new result
    pub not_full : ¬ IsErrOf result Full
    pub frugal : ¬ IsErrOf result NoMemory
