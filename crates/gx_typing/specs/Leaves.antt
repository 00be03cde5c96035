-- What the leaves of an equation are, and how many pages they need.
use Rattle.gx_values.specs.Values.{first_kind}
use Rattle.gx_values.specs.Keys.{widths}
use Rattle.gx_values.specs.declared.records.Form.{Form}
use Rattle.gx_ports.specs.declared.kinds.LeafKind.{LeafKind}
use Rattle.gx_ports.specs.declared.kinds.LeafSpec.{LeafSpec}
pub use Rattle.gx_ports.specs.Roots.{roots_of, root_pages}

-- a leaf of the kind with the form
abbrev pub leaf_spec : LeafKind → Form → LeafSpec
leaf_spec kind form =
    record { kind = kind; first = first_kind form.keys; key_width = widths form.keys }
