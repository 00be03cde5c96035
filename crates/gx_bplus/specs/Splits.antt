-- Pages that are given to the parts of a page without room.
use Rattle.std.specs.Prelude.{◌≡◌, ◌⊎◌, ℕ, List, [], ◌∷◌, Result, IsTrue, IsErrOf}
use Rattle.gx_ports.specs.declared.page_view.PageView.{Ghosts}
use Rattle.gx_ports.specs.declared.stop.Stop.{Stop}
use Rattle.gx_ports.specs.declared.stop.Stop.TheVariants.{Full, NoMemory}
use Rattle.gx_ports.specs.Files.{EndsFile}
use Rattle.gx_ports.specs.PageCalls.{KeepsPages}
use Rattle.gx_ports.specs.Sheets.{Sheets, Ground, IsClaimed, HasNone}
use Rattle.gx_bnode.specs.Page.{first_of, branches_of}
use Rattle.gx_btree.specs.Bplus.{IsWritten}
use Rattle.gx_btree.specs.Tree.{ShowsInner, with_branch}

-- A free page was given to the right part of the child on the way to a key. The child's page holds
-- the left part, and the page above has both, with the separator between.
pub record IsDivided (ground : Ground) (owner at child : ℕ) (page key separator left right : List ℕ)
    (old new : Sheets) (fresh : ℕ) : Type 0 where
  pub above : List ℕ
  pub shows : ShowsInner above (first_of page)
      (with_branch (branches_of page) key (record { separator = separator; child = fresh }))
  pub one : Sheets
  pub claimed : IsClaimed fresh owner ground old one
  pub two : Sheets
  pub right_is : IsWritten fresh right one two
  pub three : Sheets
  pub left_is : IsWritten child left two three
  pub above_is : IsWritten at above three new

-- Two free pages were given to the two parts of the root, which has both as its children, with the
-- separator between.
pub record IsRaised (ground : Ground) (owner root : ℕ) (separator left right : List ℕ)
    (old new : Sheets) (first second : ℕ) : Type 0 where
  pub top : List ℕ
  pub shows : ShowsInner top first (record { separator = separator; child = second } ∷ [])
  pub one : Sheets
  pub claimed : IsClaimed first owner ground old one
  pub two : Sheets
  pub claimed_too : IsClaimed second owner ground one two
  pub three : Sheets
  pub left_is : IsWritten first left two three
  pub four : Sheets
  pub right_is : IsWritten second right three four
  pub top_is : IsWritten root top four new

-- no page but the owner's has changed, which may have one more
abbrev pub MayHaveClaimed : Ground → ℕ → Sheets → Sheets → Type 0
MayHaveClaimed ground owner old new =
    (new ≡ old) ⊎ ((page : ℕ) × IsClaimed page owner ground old new)

-- What a call that claims two pages for an owner at most keeps, and when it is given up. `Full`: it
-- may have one of them.
pub record ClaimsTwoPages {S T : Type 0} (g : Ghosts S) (owner : ℕ) (old new : S)
    (result : Result T Stop) : Type 0
  where
    pub full : IsTrue g.tells → IsErrOf result Full → HasNone (g.ground old) (g.working new)
    pub claimed : IsTrue g.tells
        → IsErrOf result Full
        → MayHaveClaimed (g.ground old) owner (g.working old) (g.working new)
    pub keeps : KeepsPages g old new
    pub ends : EndsFile g (Unit {0}) old new result
    pub frugal : ¬ IsErrOf result NoMemory
