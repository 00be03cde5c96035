-- The cells of a leaf in memory, what the open transaction replaced in them, and the maps that they
-- stand for.
use Rattle.std.specs.Prelude.{◌≡◌, ℕ, List, [], ◌∷◌, Bool, true, false, Option, Some, None, is_some, length, take, if◌then◌else◌}
use Rattle.std.specs.List.{AllByRecursion, filter_map}
use Rattle.std.specs.List.Sorted.{IsStrictlySortedBy}
use Rattle.std.specs.Map.{keys_of}
use Rattle.std.specs.Option.{option_map}
use Rattle.std.specs.Ordering.{is_le}
use Rattle.std.specs.FinMap.{FinMap, from_entries, entries, get, insert, remove}
use Rattle.gx_values.specs.Keys.{is_inside}
use Rattle.gx_ports.specs.LeafMaps.{LeafMap}
use Rattle.gx_ports.specs.Keyed.{key_cmp}
use Rattle.gx_ports.specs.declared.leaves.Entry.{Entry}
use Rattle.gx_memory_leaves.specs.declared.undo.Undo.{Undo}
use Rattle.gx_memory_leaves.specs.declared.undo.End.{End}
use Rattle.gx_memory_leaves.specs.declared.undo.End.TheVariants.{Commit, Abort}

-- the body at a key, or none where the open transaction took it away
abbrev pub Cell : Type 0
Cell = Option (List ℕ)

abbrev pub Cells : Type 0
Cells = FinMap key_cmp Cell

abbrev pub body_entry : List ℕ × Cell → Option (List ℕ × List ℕ)
body_entry e = option_map (λ b. (e.0, b)) e.1

-- an ordered map of cells as a finite map
abbrev pub cells_of : List (List ℕ × Cell) → Cells
cells_of = from_entries

-- the keys ascend
abbrev pub IsAscending : List (List ℕ × Cell) → Type 0
IsAscending es = IsStrictlySortedBy key_cmp (keys_of es)

-- the cells that have a body
abbrev pub bodies : Cells → LeafMap
bodies cells = from_entries (filter_map body_entry (entries cells))

-- one change is taken back
abbrev pub put_back : Undo → Cells → Cells
put_back undo cells = insert cells undo.key undo.before

-- all of them are, the last one first
abbrev pub undone : List Undo → Cells → Cells
undone [] cells = cells
undone (undo ∷ undos) cells = put_back undo (undone undos cells)

-- without the cells that were made, the last one first
abbrev pub without : List (List ℕ) → Cells → Cells
without [] cells = cells
without (key ∷ keys) cells = remove (without keys cells) key

-- what a transaction that made these cells, and then changed some, began with
abbrev pub kept_cells : List (List ℕ) → List Undo → Cells → Cells
kept_cells made undos cells = without made (undone undos cells)

-- a key's cell with its body taken away, where it has one
abbrev pub emptied : Cells → List ℕ → Cell → Cells
emptied cells key None = cells
emptied cells key (Some body) = insert cells key None

-- a key has a cell
abbrev pub HasCell : Cells → List ℕ → Type 0
HasCell cells key = is_some (get cells key) ≡ true

-- each change is of a cell that is there, so that it can be taken back without a new one
abbrev pub CanUndo : List Undo → Cells → Type 0
CanUndo [] cells = Unit {0}
CanUndo (undo ∷ undos) cells = HasCell cells undo.key × CanUndo undos cells

-- the keys ascend, and the changes can be taken back
pub record IsOpen (es : List (List ℕ × Cell)) (undos : List Undo) : Type 0 where
  pub ascending : IsAscending es
  pub can : CanUndo undos (cells_of es)

-- one leaf, as contracts see it
pub record LeafPair : Type 0 where
  pub working : LeafMap
  pub kept : LeafMap

abbrev pub pair_of : Cells → List (List ℕ) → List Undo → LeafPair
pair_of cells made undos =
    record { working = bodies cells; kept = bodies (kept_cells made undos cells) }

-- a leaf once a transaction has ended
abbrev pub ended : End → LeafPair → LeafPair
ended Commit l = record { working = l.working; kept = l.working }
ended Abort l = record { working = l.kept; kept = l.kept }

-- the key is past each of theirs
abbrev pub IsPastAll : List ℕ → List (List ℕ × Cell) → Type 0
IsPastAll key es = AllByRecursion (λ k. is_le (key_cmp key k) ≡ false) (keys_of es)

-- the first bytes of the key, as many as hi has, are at most hi
abbrev pub is_up_to : List ℕ → List ℕ → Bool
is_up_to hi key = is_le (key_cmp (take (length hi) key) hi)

-- the entry of a body inside a span
abbrev pub picked_body : List ℕ → List ℕ → List ℕ → Cell → List Entry
picked_body lo hi key None = []
picked_body lo hi key (Some body) =
    if is_inside lo hi key then record { key = key; body = body } ∷ [] else []

abbrev pub picked : List ℕ → List ℕ → List ℕ × Cell → List Entry
picked lo hi e = picked_body lo hi e.0 e.1
