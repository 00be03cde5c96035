use Rattle.gx_bytes.proofs.ScanLemmas.{Scanned}
use Rattle.gx_slots.specs.Entries.{IsFit, entry_bytes}
use Rattle.gx_slots.proofs.order.do_ascend.Given as goal

abbrev pub invariant-loop : goal.invariant-loop
invariant-loop l = Scanned entry_bytes IsFit (λ entry. entry.key) l.bytes l.counter l.rest l.last
