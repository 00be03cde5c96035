-- Where an entry stands on a chain.
use Rattle.std.specs.Prelude.{◌≡◌, ℕ, ◌<◌, List, [], ◌∷◌, ◌++◌, length, Option, MatchOption}
use Rattle.std.specs.List.{HoldsAt}
use Rattle.gx_ports.specs.Sheets.{Sheets, Ground, IsPast, bytes_at}
use Rattle.gx_slots.specs.Page.{IsEntryPage, entries_of}
use Rattle.gx_chain.specs.declared.seek.Found.{Found}
use Rattle.gx_chain.specs.Chain.{entries_at}
use Rattle.gx_chain.specs.Walk.{LackKey}

-- the last of the pages before one, if there are any
abbrev pub IsPrevious : List ℕ → Option ℕ → Type 0
IsPrevious front previous =
    MatchOption previous (front ≡ []) (λ page. (others : List ℕ) × (front ≡ others ++ page ∷ []))

-- an entry with the key stands there on these pages, and these are the bytes of its page
pub record IsFoundAt (sheets : Sheets) (key : List ℕ) (pages bytes : List ℕ) (found : Found) : Type
    0 where
  pub front : List ℕ
  pub rest : List ℕ
  pub is : pages ≡ front ++ found.number ∷ rest
  pub previous : IsPrevious front found.previous
  pub bytes_are : bytes ≡ bytes_at sheets found.number
  pub within : found.place < length (entries_at sheets found.number)
  pub there : HoldsAt (λ entry. entry.key ≡ key) (entries_at sheets found.number) found.place

abbrev pub IsSought : Sheets → List ℕ → List ℕ → List ℕ → Option Found → Type 0
IsSought sheets key pages bytes found =
    MatchOption found (LackKey sheets pages key) (IsFoundAt sheets key pages bytes)

-- what was found lies past the table, on an entry page
pub record IsFoundWithin (ground : Ground) (bytes : List ℕ) (found : Found) : Type 0 where
  pub number : IsPast ground found.number
  pub previous : MatchOption found.previous (Unit {0}) (IsPast ground)
  pub is_page : IsEntryPage bytes
  pub place : found.place < length (entries_of bytes)

abbrev pub IsFoundPast : Ground → List ℕ → Option Found → Type 0
IsFoundPast ground bytes found = MatchOption found (Unit {0}) (IsFoundWithin ground bytes)
