-- Typing of sides.
use Rattle.std.specs.Prelude.{ℕ, List, Result, Err}
use Rattle.gx_values.specs.declared.values.Kind.{Kind}
use Rattle.gx_values.specs.declared.records.Form.{Form}
use Rattle.gx_equation.specs.Trees.{kids_from, SideTree, file_side, link_side}
use Rattle.gx_typing.specs.declared.reasons.TypeWhy.TheVariants as why
use Rattle.gx_typing.specs.declared.dues.Stored.{Stored}
use Rattle.gx_typing.specs.declared.dues.Stored.TheVariants as stored
use Rattle.gx_typing.specs.declared.typing.Typing.{Typing}
use Rattle.gx_forms.specs.Forms.{link_form}
use Rattle.gx_typing.specs.Typing.{Mistake, here, other_lines, typed_at, kids_typed}

-- Where a file has the side of a link, or a link that of a file, the line is that of the side's
-- first head.
abbrev pub file_typed : ℕ → Form → SideTree → List ℕ → Typing → Result (List ℕ × Typing) Mistake
file_typed owner form (file_side t) lines typing = typed_at owner form t lines typing
file_typed owner form (link_side linkset ts) lines typing = Err (here lines, why.Linkset)

abbrev pub link_typed : ℕ → Kind → Kind → SideTree → List ℕ → Typing
    → Result (List ℕ × Typing) Mistake
link_typed owner o m (file_side t) lines typing = Err (here lines, why.Linkset)
link_typed owner o m (link_side linkset ts) lines typing =
    kids_typed owner (link_form linkset o m) 0 (kids_from ts) (other_lines lines) typing

abbrev pub side_typed : ℕ → Stored → SideTree → List ℕ → Typing → Result (List ℕ × Typing) Mistake
side_typed owner (stored.File form) side lines typing = file_typed owner form side lines typing
side_typed owner (stored.Link o m) side lines typing = link_typed owner o m side lines typing
