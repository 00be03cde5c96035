use Rattle.std.proofs.Common.{length, sym, ap, ◌∙◌, arith, rules}
use Rattle.gx_bytes.proofs.RecordLemmas.{holds_first, count_behind, records-next}
use Rattle.gx_slots.specs.Entries.{lent}
use Rattle.gx_slots.proofs.EntryLemmas.{entry_format}
use Rattle.gx_slots.proofs.iter.EntriesIterator.next.Goals as goal

pub returns-in_err-entry-clause-steps : goal.returns-in_err-entry-clause-steps
returns-in_err-entry-clause-steps c =
    let all = c.self.invariant in
    absurd (holds_first entry_format all.held c.self.inside.bytes.now all.holds
    (omega (arith, all.count)) c.in_err-entry.ensures)

pub invariant_of-self : goal.invariant_of-self
invariant_of-self c =
    let found = c.in_ok-entry.ensures in
    count_behind entry_format c.self.inside.left (lent c.in_ok-entry.entry) c.self.inside.bytes.now
    c.in_ok-entry.rest.now c.self.invariant (omega arith) found.0 found.1

pub returns-clause-steps : goal.returns-clause-steps
returns-clause-steps c =
    let found = c.in_ok-entry.ensures in
    sym c.self.view_is
    ∙ records-next entry_format c.self.inside.left (lent c.in_ok-entry.entry)
    c.self.inside.bytes.now c.in_ok-entry.rest.now (omega arith) found.0 found.1

pub returns-clause-goes : goal.returns-clause-goes
returns-clause-goes c =
    let found = c.in_ok-entry.ensures in
    let shorter = ap length
    (sym c.self.view_is ∙ records-next entry_format c.self.inside.left (lent c.in_ok-entry.entry)
    c.self.inside.bytes.now
    c.in_ok-entry.rest.now (omega arith) found.0 found.1) in
    search rules
