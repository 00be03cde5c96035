-- What a member that comes changes: the record that leads to it, and its own.
use Rattle.std.specs.Prelude.{Option, Some, None}
use Rattle.gx_values.specs.declared.values.Value.{Value}
use Rattle.gx_stack.specs.Tree.{Tree}
use Rattle.gx_links.specs.declared.changes.Change.{Change}
use Rattle.gx_links.specs.Changes.{coming}
use Rattle.gx_ring.specs.Ring.{head_rec, chain_rec, head_if}

-- the node with the record that leads to a member: of its owner, or of the member before it
abbrev pub leading : {M : Type 0} → Tree M → Tree M → Option Value → Tree M
leading heads nexts None = heads
leading heads nexts (Some before) = nexts

abbrev pub lead_change : Value → Value → Option Value → Option Value → Change
lead_change owner member None next =
    record { old = head_if owner next; new = Some (head_rec owner member) }
lead_change owner member (Some before) next =
    record
    { old = Some (chain_rec owner before next); new = Some (chain_rec owner before (Some member)) }

abbrev pub own_change : Value → Value → Option Value → Change
own_change owner member next = coming (chain_rec owner member next)
