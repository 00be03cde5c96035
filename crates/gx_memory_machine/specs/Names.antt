-- An ordered map from names to sequences, as contracts see it.
use Rattle.std.specs.Prelude.{ℕ, List, map}
use Rattle.std.specs.Ordering.{nat_cmp}
use Rattle.std.specs.Cmp.Lexicographic.{slice_cmp}
use Rattle.std.specs.FinMap.{FinMap, from_entries}
use Rattle.std.specs.Global.{Vec}

module _ {A : Type 0} where
  -- the bytes of a name, and what stands under it
  abbrev pub named_entry : Vec ℕ × Vec A → List ℕ × List A
  named_entry e = (e.0.items, e.1.items)

  abbrev pub by_name : List (Vec ℕ × Vec A) → FinMap (slice_cmp nat_cmp) (List A)
  by_name es = from_entries (map named_entry es)
