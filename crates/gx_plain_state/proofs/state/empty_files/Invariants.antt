use Rattle.std.proofs.Common.{◌≡◌}
use Rattle.std.specs.Prelude.{replicate}
use Rattle.std.specs.FinMap as fin
use Rattle.gx_plain_state.proofs.state.empty_files.Given as goal

abbrev pub invariant-loop : goal.invariant-loop
invariant-loop l = l.files.items ≡ replicate l.counter fin.empty
