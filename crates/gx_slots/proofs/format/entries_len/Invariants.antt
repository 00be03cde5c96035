use Rattle.gx_bytes.proofs.RecordLemmas.{Passed}
use Rattle.gx_slots.specs.Entries.{IsFit, entry_bytes, entries_in}
use Rattle.gx_slots.proofs.format.entries_len.Given as goal

abbrev pub invariant-loop : goal.invariant-loop
invariant-loop l =
    Passed entry_bytes IsFit (entries_in l.count l.bytes) l.counter l.bytes l.rest
