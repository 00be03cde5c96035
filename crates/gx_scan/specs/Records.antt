-- The record at a key of a file.
use Rattle.std.specs.Prelude.{[], List, ◌∷◌, Option, Some, None}
use Rattle.std.specs.Option.{option_map}
use Rattle.std.specs.FinMap as fin
use Rattle.gx_values.specs.declared.values.Value.{Value}
use Rattle.gx_values.specs.declared.records.Rec.{Rec}
use Rattle.gx_model.specs.States.{File}
use Rattle.gx_scan.specs.Files.{rec_of}

abbrev pub record_at : File → Value → Option Rec
record_at f k = option_map (λ values. rec_of (k, values)) (fin.get f k)

-- one item, or none
abbrev pub list_of_one : {A : Type 0} → Option A → List A
list_of_one None = []
list_of_one (Some x) = x ∷ []
