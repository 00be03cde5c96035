use Rattle.std.proofs.Common.{◌≡◌, ◌<◌, ◌≤◌, ◌+◌, ◌∙◌, ℕ, List, take, drop, length, ap, sym, subst, refl, arith}
use Rattle.gx_device.specs.Content.{Moment}
use Rattle.gx_memory_machine.specs.Crash.{moment_at, IsLeft, IsSpoiled}
use Rattle.gx_memory_machine.specs.Log.{first, uses}
use Rattle.gx_memory_machine.specs.Names.{by_name}
use Rattle.gx_memory_machine.specs.Trace.{Traced, AreFew}
use Rattle.gx_memory_machine.proofs.ReplayLemmas.{Replays, earlier_count, begun, next_fits, goes_on, is_left, if_ok_more}
use Rattle.gx_memory_machine.proofs.trace.Trace.crashed.Goals as goal

pub of_devices-trace-requires-clause-few : goal.of_devices-trace-requires-clause-few
of_devices-trace-requires-clause-few c =
    subst AreFew (sym c.in_ok-others.ensures) c.self.invariant.start_few

pub loop-i-init : goal.loop-i-init
loop-i-init c =
    let t = c.self.inside in
    let m = first (by_name t.start.entries) in
    let now : c.reserve.new.self.now ≡ m = c.in_ok-reserve.ensures.now
    ∙ c.of_devices-trace.ensures.now ∙ ap first c.in_ok-others.ensures in
    subst (λ (x : Traced). Replays x.past x.now t.steps.items t.written.items c.args.moment 0 0
    c.reserve.new.self.now c.reserve.new.self.calls c.reserve.new.self.bytes
    c.new-synced.result.items) c.self.view_is
    (begun m t.steps.items t.written.items _ _ c.args.moment c.self.invariant.total refl
    c.self.invariant.is c.reserve.new.self.now c.reserve.new.self.calls c.reserve.new.self.bytes
    c.new-synced.result.items now refl refl c.in_ok-reserve.ensures.calls
    (omega (arith, c.in_ok-reserve.ensures.bytes)) c.new-synced.ensures.items)

pub index-step-requires : goal.index-step-requires
index-step-requires c =
    let t = c.self.inside in
    omega (
      arith,
      earlier_count (first (by_name t.start.entries)) t.steps.items t.written.items,
      ap (λ (x : Traced). length x.past) c.self.view_is,
    )

pub part-bytes-requires : goal.part-bytes-requires
part-bytes-requires c =
    let t = c.self.inside in
    let below : c.loop-i.i < length t.steps.items = omega (
      arith,
      earlier_count (first (by_name t.start.entries)) t.steps.items t.written.items,
      ap (λ (x : Traced). length x.past) c.self.view_is,
    ) in
    let step = c.index-step.result.now in
    let fits : c.loop-i.used + uses step ≤ length t.written.items =
    next_fits (first (by_name t.start.entries)) t.steps.items t.written.items _ _ c.args.moment
    c.self.invariant.total refl c.self.invariant.is c.loop-i.i c.loop-i.used step below
    c.index-step.ensures c.loop-i.invariant.used_is in
    omega (arith, fits, c.uses.ensures, c.deref.ensures.len)

pub loop-i-preserved : goal.loop-i-preserved
loop-i-preserved c =
    let t = c.self.inside in
    let below : c.loop-i.i < length t.steps.items = omega (
      arith,
      earlier_count (first (by_name t.start.entries)) t.steps.items t.written.items,
      ap (λ (x : Traced). length x.past) c.self.view_is,
    ) in
    let step = c.index-step.result.now in
    let piece : c.part-bytes.result.now ≡ take (uses step) (drop c.loop-i.used t.written.items) =
    c.part-bytes.ensures.value
    ∙ ap (λ (k : ℕ). take k (drop c.loop-i.used c.deref.result.now)) c.uses.ensures
    ∙ ap (λ (l : List ℕ). take (uses step) (drop c.loop-i.used l)) c.deref.ensures.value in
    let r = subst (λ (x : Traced). Replays x.past x.now t.steps.items t.written.items c.args.moment
    c.loop-i.i c.loop-i.used c.loop-i.trace.now c.loop-i.trace.calls c.loop-i.trace.bytes
    c.loop-i.synced.items) (sym c.self.view_is) c.loop-i.invariant in
    subst (λ (x : Traced). Replays x.past x.now t.steps.items t.written.items c.args.moment
    (c.loop-i.i + 1) (c.loop-i.used + length c.part-bytes.result.now) c.repeat.new.self.now
    c.repeat.new.self.calls c.repeat.new.self.bytes c.repeat.new.synced.items) c.self.view_is
    (goes_on (first (by_name t.start.entries)) t.steps.items t.written.items _ _ c.args.moment
    c.self.invariant.total refl c.self.invariant.is c.loop-i.i c.loop-i.used c.loop-i.trace
    c.repeat.new.self c.loop-i.synced.items c.repeat.new.synced.items step
    c.part-bytes.result.now below c.index-step.ensures piece
    (c.part-bytes.ensures.long ∙ c.uses.ensures) c.in_ok-repeat.ensures.adds
    c.in_ok-repeat.ensures.count c.in_ok-repeat.ensures.kept r)

pub returns-clause-left : goal.returns-clause-left
returns-clause-left c =
    let at : ℕ → Moment = moment_at c.args.self.now.past c.args.self.now.now in
    let end : c.loop-i.i ≡ c.args.moment = omega arith in
    if_ok_more c.left.result (λ after spoiled. subst (λ (k : ℕ).
    IsLeft at k c.args.choice after.now) end (is_left at c.loop-i.i c.args.choice
    c.loop-i.synced.items c.loop-i.trace.now after.now c.loop-i.invariant.now_is
    (subst (λ (l : List (List ℕ)). IsSpoiled c.args.choice l c.loop-i.trace.now after.now)
    c.deref-2.ensures.value spoiled) c.loop-i.invariant.kept)) c.left.ensures.devices
