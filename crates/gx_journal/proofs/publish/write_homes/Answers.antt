use Rattle.std.proofs.Common.{◌≡◌, ◌<◌, ℕ, Ok, Err, IsTrue, rules, get_or, length, subst, ap, sym, ◌∙◌, arith}
use Rattle.std.proofs.lemmas.List.{get_or_default}
use Rattle.gx_layout.specs.Layout.{slot, home}
use Rattle.gx_device.specs.Content.{block_of}
use Rattle.gx_journal.specs.DeviceCalls.{WritesOnly}
use Rattle.gx_journal.specs.Publishing.{IsInSlot}
use Rattle.gx_journal.specs.Sources.{IsHomeOf}
use Rattle.gx_journal.proofs.DeviceLemmas.{residents_joined, still_in_slot, writes_failed, writes_joined, writes_more}
use Rattle.gx_journal.proofs.PublishLemmas.{more_homes}
use Rattle.gx_journal.proofs.publish.write_homes.Goals as goal

pub loop-i-preserved : goal.loop-i-preserved
loop-i-preserved g c =
    let inv = c.loop-i.invariant in
    let written = c.in_ok-write_home.ensures in
    let listed = c.args.listed.now.items in
    let N = g.D.Device.size c.args.device.now in
    let P = c.args.pages in
    let i = c.loop-i.i in
    let p = c.index.result.now in
    let lt : i < length listed = search rules in
    let is : p ≡ get_or listed i 0 = c.index.ensures ∙ get_or_default listed i p 0 lt in
    let before = g.D.Device.content c.args.device.now in
    let mid = g.D.Device.content c.loop-i.device in
    let after = g.D.Device.content c.write_home.new.device in
    let below = subst (λ (k : ℕ). k < P) (sym is) (c.requires.listed.below i lt) in
    let size = inv.writes.touches.size in
    let more = subst (λ (n : ℕ). WritesOnly g.D.Device (λ k. k ≡ home n P p) c.loop-i.device
    c.write_home.new.device (Ok (tt {0}))) size written.writes in
    let brought : IsTrue g.D.Device.tells → block_of after.now (home N P p)
    ≡ block_of mid.now (slot N p) = λ told. subst (λ (n : ℕ). block_of after.now (home n P p)
    ≡ block_of mid.now (slot n p)) size (written.home told) in
    record {
      frames = residents_joined inv.frames c.write_home.ensures.frames;
      writes = writes_joined g.D.Device inv.writes
          (writes_more g.D.Device (λ n. n ≡ home N P p) (IsHomeOf N P listed)
          (λ n e. record { place = i; below = lt; is = e ∙ ap (home N P) is }) more);
      homes = λ told. more_homes N P listed i p is lt below before mid after inv.writes.touches.rest
          more.touches.rest (brought told) (inv.homes told);
    }

pub returns-in_err-write_home-clause-writes : goal.returns-in_err-write_home-clause-writes
returns-in_err-write_home-clause-writes g c =
    let listed = c.args.listed.now.items in
    let N = g.D.Device.size c.args.device.now in
    let P = c.args.pages in
    let i = c.loop-i.i in
    let p = c.index.result.now in
    let lt : i < length listed = search rules in
    let is : p ≡ get_or listed i 0 = c.index.ensures ∙ get_or_default listed i p 0 lt in
    let failed = subst (λ (n : ℕ). WritesOnly g.D.Device {T = Unit {0}} (λ k. k ≡ home n P p)
    c.loop-i.device c.write_home.new.device (Err c.in_err-write_home.field-0.0))
    c.loop-i.invariant.writes.touches.size
    c.in_err-write_home.ensures.writes in
    writes_failed g.D.Device c.from_residual.result c.from_residual.ensures.0
    (writes_joined g.D.Device c.loop-i.invariant.writes
    (writes_more g.D.Device (λ n. n ≡ home N P p) (IsHomeOf N P listed)
    (λ n e. record { place = i; below = lt; is = e ∙ ap (home N P) is })
    failed))

pub returns-in_err-write_home-clause-frames : goal.returns-in_err-write_home-clause-frames
returns-in_err-write_home-clause-frames g c =
    residents_joined c.loop-i.invariant.frames c.write_home.ensures.frames

pub write_home-requires-clause-slot : goal.write_home-requires-clause-slot
write_home-requires-clause-slot g c =
    let listed = c.args.listed.now.items in
    let N = g.D.Device.size c.args.device.now in
    let P = c.args.pages in
    let i = c.loop-i.i in
    let p = c.index.result.now in
    let lt : i < length listed = search rules in
    let is : p ≡ get_or listed i 0 = c.index.ensures ∙ get_or_default listed i p 0 lt in
    let below = subst (λ (k : ℕ). k < P) (sym is) (c.requires.listed.below i lt) in
    still_in_slot g.D.Device p c.args.frames.now c.loop-i.frames c.args.device.now c.loop-i.device
    (subst (λ (k : ℕ). IsInSlot g.D.Device k c.args.frames.now
    c.args.device.now) (sym is) (c.requires.listed.slots i lt))
    c.loop-i.invariant.frames c.loop-i.invariant.writes.touches.size
    (c.loop-i.invariant.writes.touches.rest.blocks (slot N p)
    (λ (x : IsHomeOf N P listed (slot N p)). (let e = x.is in absurd (omega (arith, e, below)))))
