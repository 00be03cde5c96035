use Rattle.std.proofs.Common.{◌≢◌, ℕ, List, sym, ◌∙◌, arith}
use Rattle.std.proofs.lemmas.Bool.Decides.{Decides-eqb}
use Rattle.std.proofs.lemmas.Bool.{false≢true}
use Rattle.std.proofs.lemmas.Slice.Eq.{slice_eq-Decides}
use Rattle.gx_bytes.proofs.SearchLemmas.{at_next, passed_start, passed_more, passed_end}
use Rattle.gx_slots.specs.Entries.{Entry, lent}
use Rattle.gx_slots.proofs.SearchLemmas.{at_found}
use Rattle.gx_slots.proofs.iter.place_of.Goals as goal

abbrev HasOther : List ℕ → Entry → Type 0
HasOther key entry = entry.key ≢ key

pub loop-found-init : goal.loop-found-init
loop-found-init c =
    passed_start (HasOther c.args.key.now) c.args.entries c.into_iter-found-iterator.result
    c.into_iter-found-iterator.ensures.into_iter_gives

pub returns-then-eq-clause-found : goal.returns-then-eq-clause-found
returns-then-eq-clause-found c =
    let same = (slice_eq-Decides Decides-eqb _ _ _ c.eq.ensures).0 c.if-eq.true in
    at_found c.args.entries c.args.key.now c.loop-found.place c.loop-found.found-iterator
    (lent (c.in-Some.found, c.in-Some.field-0-1)) c.next.new.self c.loop-found.invariant.at
    c.in-Some.ensures.steps same

pub overflow_add-place : goal.overflow_add-place
overflow_add-place c =
    let next = at_next c.args.entries c.loop-found.place c.loop-found.found-iterator
    (lent (c.in-Some.found, c.in-Some.field-0-1)) c.next.new.self c.loop-found.invariant.at
    c.in-Some.ensures.steps in
    omega (arith, next.0, c.requires)

pub loop-found-preserved : goal.loop-found-preserved
loop-found-preserved c =
    passed_more (HasOther c.args.key.now) c.args.entries c.loop-found.place
    c.loop-found.found-iterator
    (lent (c.in-Some.found, c.in-Some.field-0-1)) c.next.new.self c.loop-found.invariant
    c.in-Some.ensures.steps
    (λ same. false≢true
    (sym c.if-eq.false ∙ (slice_eq-Decides Decides-eqb _ _ _ c.eq.ensures).1 same))

pub returns-clause-missing : goal.returns-clause-missing
returns-clause-missing c =
    passed_end (HasOther c.args.key.now) c.args.entries c.loop-found.place
    c.loop-found.found-iterator
    c.loop-found.invariant c.in-None.ensures.steps.0
