-- The bytes that the forms of keys and of bodies stand for.
use Rattle.std.specs.Prelude.{◌≡◌, ℕ, List, Option, Some, None}
use Rattle.std.specs.Rc.{rc_slice_items}
use Rattle.gx_memory_leaves.specs.Fronts.{padded}
use Rattle.gx_memory_leaves.specs.declared.bytes.Form.{Form}
use Rattle.gx_memory_leaves.specs.declared.bytes.Form.TheVariants as body
use Rattle.gx_memory_leaves.specs.declared.key.KeyForm.{KeyForm}
use Rattle.gx_memory_leaves.specs.declared.key.KeyForm.TheVariants as key

abbrev pub form_bytes : Form → Option (List ℕ)
form_bytes body.None = None
form_bytes (body.Short bytes) = Some bytes
form_bytes (body.Long bytes) = Some bytes.items

abbrev pub key_bytes : KeyForm → List ℕ
key_bytes (key.Short bytes) = bytes
key_bytes (key.Long front bytes) = rc_slice_items bytes

-- the first bytes of a long key are those that stand beside it
abbrev pub HasFront : KeyForm → Type 0
HasFront (key.Short bytes) = Unit {0}
HasFront (key.Long front bytes) = front ≡ padded 8 (rc_slice_items bytes)
