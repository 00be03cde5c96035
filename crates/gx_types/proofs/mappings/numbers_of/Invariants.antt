use Rattle.std.proofs.Common.{◌≡◌, ◌++◌, drop}
use Rattle.gx_types.specs.HeadRules.{named_in, numbers_from, numbers_in}
use Rattle.gx_types.proofs.mappings.numbers_of.Given as goal

abbrev pub invariant-loop-i : goal.invariant-loop-i
invariant-loop-i l = l.numbers.items ++ numbers_from l.i (named_in (drop l.i l.fields) l.names)
    ≡ numbers_in l.fields l.names
