use Rattle.std.proofs.Common.{length, ap, sym, ◌∙◌, arith}
use Rattle.gx_slots.specs.Entries.{entries_in}
use Rattle.gx_bytes.proofs.RecordLemmas.{records-held}
use Rattle.gx_slots.proofs.EntryLemmas.{entry_format}
use Rattle.gx_slots.proofs.SearchLemmas.{none_found}
use Rattle.gx_slots.proofs.validity.is_new.Goals as goal

pub place_of-requires : goal.place_of-requires
place_of-requires c =
    let all = c.requires.held in
    let bytes = c.args.bytes.now in
    let count =
    ap length (c.new.ensures ∙ ap (λ n. entries_in n bytes) (sym all.count)
    ∙ records-held entry_format all.held bytes all.holds) ∙ all.count in
    omega (arith, count)

pub returns-then-seen-hash-clause-other : goal.returns-then-seen-hash-clause-other
returns-then-seen-hash-clause-other c =
    none_found c.place_of.result c.is_none.result (entries_in c.args.place c.args.bytes.now)
    c.new.result c.args.key.now c.is_none.ensures c.place_of.ensures.found
    c.place_of.ensures.missing c.new.ensures
