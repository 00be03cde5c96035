use Rattle.std.proofs.Common.{ap, arith, length}
use Rattle.gx_memory_machine.specs.Log.{first}
use Rattle.gx_memory_machine.specs.Names.{by_name}
use Rattle.gx_memory_machine.specs.Trace.{Traced}
use Rattle.gx_memory_machine.proofs.ReplayLemmas.{earlier_count}
use Rattle.gx_memory_machine.proofs.trace.Trace.moments.Goals as goal

pub returns : goal.returns
returns c =
    let t = c.self.inside in
    omega (
      arith,
      earlier_count (first (by_name t.start.entries)) t.steps.items t.written.items,
      ap (λ (x : Traced). length x.past) c.self.view_is,
    )
