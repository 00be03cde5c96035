use Rattle.std.proofs.Common.{arith}
use Rattle.gx_typing.proofs.Missing.{missing}
use Rattle.gx_typing.proofs.whole.definitions_typed.Goals as goal

pub returns-in_default-due-2 : goal.returns-in_default-due-2
returns-in_default-due-2 c =
    missing _ c.loop-rest.due.now c.loop-rest.rest.now c.loop-rest.left.now _ c.loop-rest.typing _
    (omega (arith, c.in_default-due-2.len_at_least)) (omega (arith, c.in_default.len_below))
    c.here-in_default-due-2.ensures c.loop-rest.invariant.goes_on
