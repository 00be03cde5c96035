-- Records whose data fields stand each alone in a leaf of its own.
use Rattle.std.specs.Prelude.{[], ◌≡◌, ℕ, ◌<◌, List, ◌∷◌, length, get_or, map}
use Rattle.gx_ports.specs.declared.leaves.Entry.{Entry}
use Rattle.gx_ports.specs.LeafMaps.{entry_of}
use Rattle.gx_mapping.specs.Rule.{In}
use Rattle.gx_split.specs.TransposeRules.{transpose_rule}
use Rattle.gx_stack.specs.Tree.{Tree, Kids, layer, kid, no_kids, tree_form}
use Rattle.gx_types.specs.declared.any.AnyMapping.{AnyMapping}
use Rattle.gx_types.specs.Any.{any_rule}
use Rattle.gx_model.specs.States.{Row}
use Rattle.gx_scan.specs.declared.places.Place.{Place}
use Rattle.gx_scan.specs.Entries.{ArePlaces, entry_of_row}
use Rattle.gx_values.specs.Values.{no_value}

-- the records of each child stand whole in one leaf, at the place of its number
abbrev pub ArePlacesOfKids : Kids AnyMapping → List Place → Type 0
ArePlacesOfKids no_kids [] = Unit {0}
ArePlacesOfKids no_kids (p ∷ places) = ⊥
ArePlacesOfKids (kid t kids) [] = ⊥
ArePlacesOfKids (kid t kids) (p ∷ places) =
    ArePlaces 0 t (p ∷ []) × ArePlacesOfKids kids places

-- A transposition splits the tree's records, and each of their data fields, of which there is at
-- least one, stands in one leaf, at the place of its number.
pub record AreColumns (t : Tree AnyMapping) (places : List Place) : Type 0 where
  pub mapping : AnyMapping
  pub kids : Kids AnyMapping
  pub tree : t ≡ layer mapping kids
  pub splits : any_rule mapping ≡ transpose_rule (tree_form any_rule t)
  pub some : 0 < length places
  pub long : length places ≡ length (tree_form any_rule t).fields
  pub each : ArePlacesOfKids kids places

-- no column stands by a code
abbrev pub ArePlainColumns : List Place → Type 0
ArePlainColumns places = (p : Place) → In p places → p.codes ≡ []

-- the key and the value of one data field
abbrev pub column_row : ℕ → Row → Row
column_row column r = (r.0, get_or r.1 column no_value ∷ [])

-- the entry of a record in the column of that number, which stands at this place
abbrev pub column_entry : Place → ℕ → Row → List ℕ × List ℕ
column_entry p column r = entry_of_row p.lengths p.codes (column_row column r)

-- these are the entries of the records in each column
pub record AreColumnEntries (places : List Place) (columns : List (List Entry))
    (rs : List Row) : Type 0 where
  pub long : length columns ≡ length places
  pub each : (column : ℕ) (p : Place) → column < length places → p ≡ get_or places column p
      → get_or columns column [] ≡ map (λ r. entry_of (column_entry p column r)) rs
