-- Names that files, links and fields have.
use Rattle.std.specs.Prelude.{ℕ, Bool, false, ◌&&◌, List, [], ◌∷◌, Option, nat_eq, nat_le, position}
use Rattle.std.specs.List.{list_any}
use Rattle.std.specs.Cmp.Lexicographic.{pointwise}
use Rattle.gx_values.specs.declared.records.Field.{Field}
use Rattle.gx_schema.specs.declared.schema.FileDef.{FileDef}
use Rattle.gx_schema.specs.declared.schema.LinkDef.{LinkDef}

-- the first byte is a letter
abbrev pub starts_with_letter : List ℕ → Bool
starts_with_letter [] = false
starts_with_letter (b ∷ bs) = nat_le 97 b && nat_le b 122

-- a field has the name
abbrev pub has_field : List Field → List ℕ → Bool
has_field fields name = list_any (λ f. pointwise nat_eq f.name name) fields

-- a file has the name
abbrev pub has_file : List FileDef → List ℕ → Bool
has_file files name = list_any (λ f. pointwise nat_eq f.name name) files

-- a link has the name
abbrev pub has_link : List LinkDef → List ℕ → Bool
has_link links name = list_any (λ l. pointwise nat_eq l.name name) links

-- the number, counted from 0, of the first file that has the name
abbrev pub file_position : List FileDef → List ℕ → Option ℕ
file_position files name = position (λ f. pointwise nat_eq f.name name) files

-- likewise of the first link
abbrev pub link_position : List LinkDef → List ℕ → Option ℕ
link_position links name = position (λ l. pointwise nat_eq l.name name) links
