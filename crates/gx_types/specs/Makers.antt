-- What the makers of mappings ask of the form and of the head's arguments.
use Rattle.std.specs.Prelude.{ℕ, ◌<◌, ◌≤◌, List, length, slice_index_or}
use Rattle.gx_values.specs.declared.values.Kind.{Kind}
use Rattle.gx_values.specs.declared.records.Field.{Field}
use Rattle.gx_values.specs.declared.records.Form.{Form}
use Rattle.gx_values.specs.Values.{no_field}
use Rattle.gx_mapping.specs.Rule.{first_in}
use Rattle.gx_actual.specs.Bodies.{field_widths, AreShortTexts}
use Rattle.gx_divide.specs.Forms.{IsDivide}
use Rattle.gx_encode.specs.Forms.{IsEncode}
use Rattle.gx_index.specs.Forms.{CanIndex}
use Rattle.gx_partition.specs.Bounds.{IsPartition}
use Rattle.gx_equation.specs.declared.heads.Head.{Head}
use Rattle.gx_equation.specs.declared.heads.Head.TheVariants as heads
use Rattle.gx_types.specs.HeadRules.{place_in}

-- the kind of the data field with the number
abbrev pub kind_of : List Field → ℕ → Kind
kind_of fs i = (slice_index_or fs i no_field).kind

pub record CanActual (form : Form) : Type 0 where
  pub texts : AreShortTexts form.fields
  pub narrow : field_widths form.fields ≤ 65535

pub record CanTranspose (form : Form) : Type 0 where
  pub some : 0 < length form.fields
  pub few : length form.fields ≤ 65535

abbrev pub CanMake : Head → Form → Type 0
CanMake (heads.Leaf kind) form = Unit {0}
CanMake heads.Actual form = CanActual form
CanMake (heads.Encode name c) form = IsEncode form (first_in form.fields name) c
CanMake (heads.Segment names) form = length form.fields ≤ 65535
CanMake heads.Transpose form = CanTranspose form
CanMake (heads.Partition name bounds) form = IsPartition form (place_in form name) bounds
CanMake (heads.Divide size) form = IsDivide form size
CanMake (heads.Index name) form = CanIndex form (first_in form.fields name)
