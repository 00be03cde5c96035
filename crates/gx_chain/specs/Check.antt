-- What is found of a chain that is checked.
use Rattle.std.specs.Prelude.{◌≡◌, ◌≢◌, ◌↔◌, ◌⊎◌, ℕ, Bool, true, List, ◌++◌, ◌∷◌, slice_get, Some, IsTrue}
use Rattle.std.specs.Global.{Vec}
use Rattle.std.specs.List.{Contains, list_any}
use Rattle.std.specs.Ordering.{eq_by_cmp}
use Rattle.gx_ports.specs.declared.page_view.PageView.{Ghosts}
use Rattle.gx_ports.specs.Sheets.{Sheets, Ground}
use Rattle.gx_ports.specs.Keyed.{key_cmp}
use Rattle.gx_slots.specs.Entries.{Entry}
use Rattle.gx_chain.specs.declared.check.Visits.{Visits}
use Rattle.gx_chain.specs.Chain.{AreFitPages, IsChain, IsOn}

-- a chain stands there, and its owner has no other page
pub record IsWholeChain (ground : Ground) (owner : ℕ) (sheets : Sheets) (first : ℕ) : Type 0 where
  pub pages : List ℕ
  pub chain : IsChain ground owner sheets first pages
  pub owned : (page : ℕ) → slice_get sheets.owners page ≡ Some owner → Contains pages page

-- the pages tell what the device holds, and such a chain stands there
pub record HasWholeChain {S : Type 0} (g : Ghosts S) (p : S) (owner first : ℕ) : Type 0 where
  pub told : IsTrue g.tells
  pub whole : IsWholeChain (g.ground p) owner (g.working p) first

-- whether a key is among these
abbrev pub has_key : List (Vec ℕ) → List ℕ → Bool
has_key keys key = list_any (λ k. eq_by_cmp key_cmp key k.items) keys

-- an entry has the key
abbrev pub IsKeyOf : List Entry → List ℕ → Type 0
IsKeyOf entries key = (body : List ℕ) × Contains entries (record { key = key; body = body })

-- the keys of the entries, which were not among the old ones, are among the new ones
pub record HasAddedKeys (entries : List Entry) (old new : List (Vec ℕ)) : Type 0 where
  pub fresh : (key : List ℕ) → IsKeyOf entries key → has_key old key ≢ true
  pub those : (key : List ℕ)
      → (has_key new key ≡ true) ↔ (IsKeyOf entries key ⊎ (has_key old key ≡ true))

-- one of the entries has a key that is among these
pub record SharesKey (entries : List Entry) (keys : List (Vec ℕ)) : Type 0 where
  pub key : List ℕ
  pub among : IsKeyOf entries key
  pub shared : has_key keys key ≡ true

-- marked are those that were marked before, and these pages
abbrev pub AreSeen : List Bool → List ℕ → List Bool → Type 0
AreSeen before pages seen =
    (page : ℕ)
    → (slice_get seen page ≡ Some true) ↔
    ((slice_get before page ≡ Some true) ⊎ Contains pages page)

-- these are the keys of the entries on the pages
abbrev pub AreKeysOn : Sheets → List ℕ → List (Vec ℕ) → Type 0
AreKeysOn sheets pages keys =
    (key : List ℕ) → (has_key keys key ≡ true) ↔ ((body : List ℕ) × IsOn sheets pages key body)

-- These pages are fit for a chain, and they and their keys are noted.
pub record AreVisited (ground : Ground) (owner : ℕ) (sheets : Sheets) (first : ℕ)
    (before : List Bool) (pages : List ℕ) (visits : Visits) : Type 0 where
  pub fit : AreFitPages ground owner sheets first pages
  pub seen : AreSeen before pages visits.seen.items
  pub keys : AreKeysOn sheets pages visits.keys.keys

-- none of these pages is marked
abbrev pub AreUnseen : List Bool → List ℕ → Type 0
AreUnseen seen pages = (page : ℕ) → Contains pages page → slice_get seen page ≢ Some true

-- The pages tell what the device holds, these pages are visited, and a chain of the owner, of which
-- none was marked before, has them
-- and then this one.
pub record IsNext {S : Type 0} (g : Ghosts S) (p : S) (owner first : ℕ) (visits : Visits)
    (page : ℕ) : Type 0 where
  pub told : IsTrue g.tells
  pub before : List Bool
  pub front : List ℕ
  pub visited : AreVisited (g.ground p) owner (g.working p) first before front visits
  pub all : List ℕ
  pub chain : IsChain (g.ground p) owner (g.working p) first all
  pub unseen : AreUnseen before all
  pub rest : List ℕ
  pub is : all ≡ front ++ page ∷ rest

-- One chain stands there. Its pages are marked beside those that were marked before, and its keys
-- are noted.
pub record IsVisitedChain (ground : Ground) (owner : ℕ) (sheets : Sheets) (first : ℕ)
    (before : List Bool) (visits : Visits) : Type 0 where
  pub pages : List ℕ
  pub chain : IsChain ground owner sheets first pages
  pub only : (other : List ℕ) → IsChain ground owner sheets first other → other ≡ pages
  pub seen : AreSeen before pages visits.seen.items
  pub keys : AreKeysOn sheets pages visits.keys.keys

-- the pages tell what the device holds, and a chain of the owner stands there of which no page is
-- marked
pub record HasUnseenChain {S : Type 0} (g : Ghosts S) (p : S) (owner first : ℕ) (seen : List Bool) :
    Type 0 where
  pub told : IsTrue g.tells
  pub pages : List ℕ
  pub chain : IsChain (g.ground p) owner (g.working p) first pages
  pub unseen : AreUnseen seen pages
