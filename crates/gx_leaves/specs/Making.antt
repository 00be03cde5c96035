-- How leaves come to pages.
use Rattle.std.specs.Prelude.{◌≡◌, ℕ, ◌<◌, ◌≤◌, List, slice_get, Some, Result, Ok, Err}
use Rattle.std.specs.FinMap.{empty}
use Rattle.gx_device.specs.Faults.{Rose}
use Rattle.gx_ports.specs.declared.pages.Place.{Place}
use Rattle.gx_ports.specs.declared.stop.Stop.{Stop}
use Rattle.gx_ports.specs.declared.stop.Stop.TheVariants as stop
use Rattle.gx_ports.specs.Sheets.{Sheets, Ground, IsPast}
use Rattle.gx_leaves.specs.Kinds.{IsFileAt}
use Rattle.gx_leaves.specs.Wholeness.{table_owner}

-- the table is its own, and each page past it is free
pub record IsAllFree (base : Ground) (sheets : Sheets) : Type 0 where
  pub own : (page : ℕ) → page < base.tables → page < base.size
      → slice_get sheets.owners page ≡ Some table_owner
  pub free : (page : ℕ) → IsPast base page → slice_get sheets.owners page ≡ Some 0

-- So many of the leaves have been made, each empty. All pages from the root of the next one on are
-- free.
pub record AreMade (base : Ground) (places : List Place) (count : ℕ)
    (sheets : Sheets) : Type 0 where
  pub made : (leaf : ℕ) (place : Place) → leaf < count → slice_get places leaf ≡ Some place
      → IsFileAt base place sheets empty
  pub own : (page : ℕ) → page < base.tables → slice_get sheets.owners page ≡ Some table_owner
  pub taken : (page owner : ℕ) → IsPast base page → slice_get sheets.owners page ≡ Some owner
      → owner ≤ count
  pub free : (leaf : ℕ) (place : Place) → count ≤ leaf → slice_get places leaf ≡ Some place
      → (page : ℕ) → place.root ≤ page → page < base.size → slice_get sheets.owners page ≡ Some 0

-- why leaves weren't made: the outside failed, or there was no memory
abbrev pub HasMakeCause : ℕ → ℕ → Stop → Type 0
HasMakeCause before now stop.Fault = (before ≤ now) × Rose before now
HasMakeCause before now stop.NoMemory = now ≡ before
HasMakeCause before now stop.Full = ⊥
HasMakeCause before now (stop.Damaged block) = ⊥

-- the pages, also where they are handed back
abbrev pub pages_left : {T P : Type 0} → (T → P) → Result T (P × Stop) → P
pages_left pages (Ok l) = pages l
pages_left pages (Err e) = e.0
