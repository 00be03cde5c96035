use Rattle.gx_slots.proofs.ScanLemmas.{Scanned}
use Rattle.gx_slots.proofs.validity.are_entries.Given as goal

abbrev pub invariant-loop-place : goal.invariant-loop-place
invariant-loop-place l = Scanned l.bytes l.place l.rest l.seen
