-- Fields and their names. How many bytes fields take within a body is a word of `actual`.
use Rattle.std.specs.Prelude.{ℕ, Bool, List, nat_eq}
use Rattle.std.specs.List.{list_any}
use Rattle.std.specs.Cmp.Lexicographic.{pointwise}
use Rattle.gx_values.specs.declared.values.Kind.{Kind}
use Rattle.gx_values.specs.declared.records.Field.{Field}
pub use Rattle.gx_actual.specs.Bodies.{field_width as body_width, field_widths as body_widths}

abbrev pub field : List ℕ → Kind → Field
field name kind = record { name = name; kind = kind }

-- the name is one of these
abbrev pub has_name : List (List ℕ) → List ℕ → Bool
has_name names name = list_any (λ n. pointwise nat_eq n name) names
