-- Where an entry is to be put.
use Rattle.std.specs.Prelude.{◌≡◌, ◌≢◌, ◌↔◌, ℕ, ◌<◌, List, [], ◌∷◌, ◌++◌, length, slice_get, Option, Some, is_some, if◌then◌else◌, IsTrue, MatchOption}
use Rattle.std.specs.List.{All, Contains, HoldsAt, insert, remove}
use Rattle.gx_ports.specs.declared.page_view.PageView.{Ghosts}
use Rattle.gx_ports.specs.Sheets.{Sheets, Ground, IsPast, bytes_at}
use Rattle.gx_slots.specs.Entries.{Entry}
use Rattle.gx_slots.specs.Page.{IsEntryPage, entries_of, next_of}
use Rattle.gx_chain.specs.declared.walk.Trial.{Trial}
use Rattle.gx_chain.specs.declared.walk.Trial.TheVariants.{Replaced, Crowded, Room, Other}
use Rattle.gx_chain.specs.declared.walk.Away.{Away}
use Rattle.gx_chain.specs.declared.walk.Spot.{Spot}
use Rattle.gx_chain.specs.declared.walk.Spot.TheVariants as spot
use Rattle.gx_chain.specs.Chain.{entries_at, next_at, IsChain, IsOn}
use Rattle.gx_chain.specs.Changes.{HasRoomFor}

-- the entry with the key has another body
pub record IsExchanged (old new : List Entry) (key body : List ℕ) : Type 0 where
  pub place : ℕ
  pub within : place < length old
  pub there : HoldsAt (λ entry. entry.key ≡ key) old place
  pub is : new ≡ insert (remove old place) place (record { key = key; body = body })

-- one of several entries has the key
pub record IsCrowded (entries : List Entry) (key : List ℕ) : Type 0 where
  pub place : ℕ
  pub within : place < length entries
  pub there : HoldsAt (λ entry. entry.key ≡ key) entries place
  pub more : 1 < length entries

-- what a page was found to be
abbrev pub IsTrial : Trial → List Entry → List Entry → List ℕ → List ℕ → Type 0
IsTrial Replaced old new key body = IsExchanged old new key body
IsTrial Crowded old new key body = IsCrowded old key
IsTrial Room old new key body = HasRoomFor old key body
IsTrial Other old new key body = All (λ entry. entry.key ≢ key) old

-- what is known once a page was tried
abbrev pub noted : Away → Trial → Away
noted away Replaced = away
noted away Crowded = record away { old = Some away.last }
noted away Room = if is_some away.room then away else record away { room = Some away.last }
noted away Other = away

-- no page has the key
abbrev pub LackKey : Sheets → List ℕ → List ℕ → Type 0
LackKey sheets pages key =
    (page : ℕ) → Contains pages page → All (λ entry. entry.key ≢ key) (entries_at sheets page)

-- on pages of these: the one with the old entry, if any has it, and one with room
pub record AreNoted (sheets : Sheets) (key body : List ℕ) (pages : List ℕ) (old room : Option ℕ) :
    Type 0 where
  pub old_is : MatchOption old (LackKey sheets pages key)
      (λ page. Contains pages page × IsCrowded (entries_at sheets page) key)
  pub room_is : MatchOption room (Unit {0})
      (λ page. Contains pages page × HasRoomFor (entries_at sheets page) key body)

-- the bytes of a page with the entry in the place of the old one
pub record IsReplacing (sheets : Sheets) (key body : List ℕ) (page : ℕ) (bytes : List ℕ) : Type 0
  where
    pub is_page : IsEntryPage bytes
    pub entries_are : IsExchanged (entries_at sheets page) (entries_of bytes) key body
    pub next_is : next_of bytes ≡ next_at sheets page

-- where the entry is to be put on a chain of these pages
abbrev pub IsSpot : Sheets → List ℕ → List ℕ → List ℕ → List ℕ → Spot → Type 0
IsSpot sheets key body pages bytes (spot.Here page) =
    Contains pages page × IsReplacing sheets key body page bytes
IsSpot sheets key body pages bytes (spot.Away away) =
    AreNoted sheets key body pages away.old away.room
    × ((front : List ℕ) × (pages ≡ front ++ away.last ∷ []))

-- the pages of a spot lie past the table
pub record IsAwayPast (ground : Ground) (away : Away) : Type 0 where
  pub old : MatchOption away.old (Unit {0}) (IsPast ground)
  pub room : MatchOption away.room (Unit {0}) (IsPast ground)
  pub last : IsPast ground away.last

abbrev pub AreSpots : Ground → Spot → Type 0
AreSpots ground (spot.Here page) = IsPast ground page
AreSpots ground (spot.Away away) = IsAwayPast ground away

-- The entry with a key was taken from a chain, if it had one. Pages that lacked the key stay.
pub record IsDropped (ground : Ground) (owner first : ℕ) (key : List ℕ) (old new : Sheets)
    (pages : List ℕ) : Type 0 where
  pub chain : IsChain ground owner new first pages
  pub entries : (k b : List ℕ) → IsOn new pages k b ↔ ((k ≢ key) × IsOn old pages k b)
  pub owners : new.owners ≡ old.owners
  pub same : (page : ℕ) → All (λ entry. entry.key ≢ key) (entries_at old page)
      → bytes_at new page ≡ bytes_at old page
  pub beside : (page : ℕ) → ¬ Contains pages page
      → slice_get new.bytes page ≡ slice_get old.bytes page

-- an old entry on these pages
abbrev pub HasOld : Sheets → List ℕ → List ℕ → Option ℕ → Type 0
HasOld sheets key pages old =
    MatchOption old (LackKey sheets pages key)
    (λ page. Contains pages page × IsCrowded (entries_at sheets page) key)

-- the pages tell what the device holds, and a chain of the owner has this old entry
pub record IsReadyToDrop {S : Type 0} (g : Ghosts S) (p : S) (key : List ℕ) (old : Option ℕ) : Type
    0 where
  pub told : IsTrue g.tells
  pub owner : ℕ
  pub first : ℕ
  pub pages : List ℕ
  pub chain : IsChain (g.ground p) owner (g.working p) first pages
  pub has : HasOld (g.working p) key pages old

-- a chain of the owner on which an entry goes to where it was noted
pub record IsReady (ground : Ground) (owner : ℕ) (sheets : Sheets) (first : ℕ) (key body : List ℕ)
    (away : Away) (pages : List ℕ) : Type 0 where
  pub chain : IsChain ground owner sheets first pages
  pub noted : AreNoted sheets key body pages away.old away.room
  pub front : List ℕ
  pub ended : pages ≡ front ++ away.last ∷ []

pub record IsReadyToPut {S : Type 0} (g : Ghosts S) (p : S) (owner : ℕ) (key body : List ℕ)
    (away : Away) : Type 0 where
  pub told : IsTrue g.tells
  pub first : ℕ
  pub pages : List ℕ
  pub ready : IsReady (g.ground p) owner (g.working p) first key body away pages
