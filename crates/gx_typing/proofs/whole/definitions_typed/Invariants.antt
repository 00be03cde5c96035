use Rattle.std.proofs.Common.{◌≡◌, ◌+◌, ◌<◌, ◌^◌, length}
use Rattle.gx_equation.specs.Seen.{definitions_of}
use Rattle.gx_typing.specs.Whole.{definitions_typed, no_leaves}
use Rattle.gx_typing.proofs.whole.definitions_typed.Given as goal

abbrev pub invariant-loop-rest : goal.invariant-loop-rest
invariant-loop-rest l = record {
  few : l.number + length l.due < 2 ^ 16;
  goes_on : definitions_typed l.number l.due (definitions_of l.rest) l.left l.typing
      ≡ definitions_typed 0 l.dues (definitions_of l.definitions) l.lines no_leaves;
}

abbrev pub decreases-loop-rest : goal.decreases-loop-rest
decreases-loop-rest l = length l.rest
