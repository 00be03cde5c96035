use Rattle.std.proofs.Common.{refl}
use Rattle.std.proofs.lemmas.Bool.{false≢true}
use Rattle.gx_slots.specs.Entries.{lent}
use Rattle.gx_slots.proofs.ScanLemmas.{scanned_seen, scanned_more, no_more, twice}
use Rattle.gx_slots.proofs.validity.are_entries.Goals as goal

pub returns-in_default : goal.returns-in_default
returns-in_default c = (
  λ bad. absurd (false≢true bad),
  λ held. absurd
      (no_more c.args.bytes.now c.loop-place.place c.loop-place.rest.now c.loop-place.seen
      c.args.count c.loop-place.invariant
      c.loop-place-test.true c.in_default.ensures held),
)

pub is_new-requires-clause-seen : goal.is_new-requires-clause-seen
is_new-requires-clause-seen c =
    scanned_seen c.args.bytes.now c.loop-place.place c.loop-place.rest.now c.loop-place.seen
    c.loop-place.invariant

pub returns-then-not-is_new : goal.returns-then-not-is_new
returns-then-not-is_new c =
    let found = c.in-Some.ensures in (
      λ bad. absurd (false≢true bad),
      λ held. absurd
          (twice c.args.bytes.now c.loop-place.place c.loop-place.rest.now c.loop-place.seen
          c.args.count
          (lent (c.in-Some.key, c.in-Some.field-0-0-1)) c.in-Some.behind.now c.loop-place.invariant
          c.loop-place-test.true found.0 found.1
          (λ all. false≢true (c.if-not-is_new.ensures.other.1 all)) held),
    )

pub loop-place-preserved : goal.loop-place-preserved
loop-place-preserved c =
    let found = c.in-Some.ensures in
    let new = c.if-not-is_new.ensures in
    scanned_more c.args.bytes.now c.loop-place.place c.loop-place.rest.now c.loop-place.seen
    (lent (c.in-Some.key, c.in-Some.field-0-0-1)) c.in-Some.behind.now c.is_new.new.seen
    c.loop-place.invariant found.0 found.1
    (new.other.0 refl) new.kept (new.added refl) c.is_new.auto.seen
