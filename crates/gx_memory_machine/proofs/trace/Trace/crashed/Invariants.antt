use Rattle.gx_memory_machine.proofs.ReplayLemmas.{Replays}
use Rattle.gx_memory_machine.proofs.trace.Trace.crashed.Given as goal

abbrev pub invariant-loop-i : goal.invariant-loop-i
invariant-loop-i l = Replays l.self.past l.self.now l.self-inside.steps.items
    l.self-inside.written.items l.moment l.i l.used l.trace.now l.trace.calls l.trace.bytes
    l.synced.items
