use Rattle.std.proofs.Common.{◌≡◌, ◌<◌, ◌^◌, ◌∙◌, ℕ, Bool, List, length, vec_len, ap, sym, subst, arith}
use Rattle.std.specs.Option.{option_map}
use Rattle.gx_device.specs.Content.{Moment, Devices, devices_of, with_named}
use Rattle.gx_memory_machine.specs.Crash.{AreSpoiled, IsSpoiled}
use Rattle.gx_memory_machine.specs.Log.{first}
use Rattle.gx_memory_machine.specs.Names.{by_name}
use Rattle.gx_memory_machine.specs.Trace.{Traced, AreFew, shelf_of}
use Rattle.gx_memory_machine.proofs.ReplayLemmas.{written_back}
use Rattle.gx_memory_machine.proofs.ShelfLemmas.{all_kept, all_few}
use Rattle.gx_memory_machine.proofs.trace.Trace.left.Goals as goal

pub of_devices-requires-clause-few : goal.of_devices-requires-clause-few
of_devices-requires-clause-few c =
    let t = c.self.inside in
    let devices : Devices = by_name t.others.entries in
    let blocks : List (List ℕ) = c.spoil_all.new.blocks in
    let m : Moment = record {
      blocks = blocks;
      pending = t.pending.items;
      said = t.said.items;
      shelf = shelf_of t.name devices;
    } in
    let same : c.deref-2.result.now ≡ blocks = c.deref-2.ensures.value
    ∙ written_back (vec_len t.blocks) blocks t.blocks.items (omega arith) (omega arith) in
    let kept : by_name c.keep.new.others.entries ≡ with_named (option_map (λ v. v.items) t.name)
    blocks devices = c.in_ok-keep.ensures.kept ∙ ap (λ (l : List (List ℕ)).
    with_named (option_map (λ v. v.items) t.name) l devices) same in
    let on : by_name c.keep.new.others.entries ≡ devices_of m =
    kept ∙ all_kept t.name devices blocks in
    let few : length blocks < 2 ^ 32 = omega arith in
    subst AreFew (sym on) (all_few m c.self.invariant.each_few few)

pub returns-clause-devices : goal.returns-clause-devices
returns-clause-devices c =
    let t = c.self.inside in
    let devices : Devices = by_name t.others.entries in
    let blocks : List (List ℕ) = c.spoil_all.new.blocks in
    let same : c.deref-2.result.now ≡ blocks = c.deref-2.ensures.value
    ∙ written_back (vec_len t.blocks) blocks t.blocks.items (omega arith) (omega arith) in
    let kept : by_name c.keep.new.others.entries ≡ with_named (option_map (λ v. v.items) t.name)
    blocks devices = c.in_ok-keep.ensures.kept ∙ ap (λ (l : List (List ℕ)).
    with_named (option_map (λ v. v.items) t.name) l devices) same in
    let are : AreSpoiled c.args.choice c.args.synced.now t.pending.items t.blocks.items blocks =
    subst (λ (l : List Bool). AreSpoiled c.args.choice c.args.synced.now l t.blocks.items blocks)
    c.deref.ensures.value (subst (λ (l : List (List ℕ)). AreSpoiled c.args.choice c.args.synced.now
    c.deref.result.now l blocks) c.deref_mut.ensures.value c.spoil_all.ensures) in
    subst (λ (x : Traced). IsSpoiled c.args.choice c.args.synced.now x.now c.of_devices.result.now)
    c.self.view_is (record {
      blocks = blocks;
      are = are;
      devices = c.of_devices.ensures.now ∙ ap first (kept ∙ all_kept t.name devices blocks);
    })
