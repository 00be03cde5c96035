-- The texts of answers, each line with its LF.
use Rattle.std.specs.Prelude.{ℕ, List, [], ◌∷◌, ◌++◌, length, codes}
use Rattle.std.specs.List.{flat_map}
use Rattle.std.specs.Fmt.{decimal, signed_decimal}
use Rattle.gx_tokens.specs.Quotes.{quoted_text}
use Rattle.gx_values.specs.declared.values.Value.{Value}
use Rattle.gx_values.specs.declared.values.Value.TheVariants as value
use Rattle.gx_schema.specs.declared.schema.FileDef.{FileDef}
use Rattle.gx_model.specs.States.{Row}

-- an int in digits, a text in quotes with each quote in it twice
abbrev pub value_text : Value → List ℕ
value_text (value.Int n) = signed_decimal n
value_text (value.Text text) = quoted_text text
value_text (value.Bytes bytes) = []

-- the file's name and the values in the schema's order, with one space between
abbrev pub row_text : FileDef → Row → List ℕ
row_text file r = file.name ++ flat_map (λ v. codes " " ++ value_text v) (r.0 ∷ r.1) ++ codes "\n"

abbrev pub rows_text : FileDef → List Row → List ℕ
rows_text file rows =
    flat_map (row_text file) rows ++ codes "found " ++ decimal (length rows) ++ codes "\n"
