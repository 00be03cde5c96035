use Rattle.std.proofs.Common.{◌≡◌, ◌∙◌, rules, refl, sym, subst, List}
use Rattle.gx_ports.specs.declared.kinds.LeafSpec.{LeafSpec}
use Rattle.gx_ports.specs.LeafMaps.{LeafMap}
use Rattle.gx_leaves.specs.Paged.{working_of, kept_of, head_of, IsWhole}
use Rattle.gx_store.specs.Device.{IsHeadOf, IsSettled}
use Rattle.gx_store.specs.Opening.{HaveDatabase, IsUnopened}
use Rattle.gx_store.specs.Store.{machine_of}
use Rattle.gx_play.specs.Endings.{IsEnded, EndsThrough}
use Rattle.gx_operations.proofs.EndedLemmas.{keeps_opened, keeps_attached}
use Rattle.gx_operations.proofs.InspectLemmas.{IsSeen, examined_kept, unopened_kept, given_texts}
use Rattle.gx_operations.proofs.WrongLemmas.{IsTried}
use Rattle.gx_operations.proofs.inspecting.inspect.Goals as goal

pub returns-in-Ok-clause-promised : goal.returns-in-Ok-clause-promised
returns-in-Ok-clause-promised g c = λ can given of.
    let content = g.M.Device.content in
    let x = c.args.stored in
    let device = c.args.device.now in
    let old = content c.args.machine in
    let store = c.in-Ok.store in
    let opened = content (machine_of store) in
    let mid = content c.examine_store-found.result.1 in
    let new = content c.tell-status.new.machine in
    let schema = c.as_slice.result.now in
    let equation = c.as_slice-2.result.now in
    let specs = c.deref.result.now in
    let whole = IsWhole store in
    let found = c.examine_store-found.result.0 in
    let o = c.in-Ok.ensures.opened can in
    let seen = given_texts given x of
    (IsSeen x device old opened mid (working_of store) whole found) schema equation specs
    c.as_slice.ensures c.as_slice-2.ensures (search rules) (record {
      attaches = c.in-Ok.ensures.attaches can;
      opens = o.opens;
      first = o.is.first;
      had = o.is.opened;
      alike = (o.is.replayed _ (record {
        said = refl;
        shelf = refl;
        count = refl;
        same = λ n below firm. refl;
      })).alike;
      holds = λ others reopens.
          let is = c.in-Ok.ensures.holds can _ others o.opens.was reopens in
          (is.whole, sym is.working);
      reopens = o.is.settled;
      reads = c.examine_store-found.ensures.replayed can.told o.is.calm;
      silent = c.examine_store-found.ensures.silent;
      examined = c.examine_store-found.ensures.examined can.told o.is.just_opened.steady;
      damage = c.examine_store-found.ensures.damage can.told;
      settled = λ whole.
          subst (λ (ms : List LeafMap). IsSettled schema equation specs ms mid.now.blocks)
          o.is.just_opened.kept_is
          (subst (λ (k : List LeafSpec). IsSettled schema equation k (kept_of store) mid.now.blocks)
          c.in-Ok.ensures.specs
          (c.examine_store-found.ensures.settled (schema, equation)
          (subst (λ k. IsHeadOf schema equation k (head_of store)) (sym c.in-Ok.ensures.specs)
          o.is.head) (o.is.just_opened.was_whole whole)));
    }) in
    examined_kept given x of c.requires device old opened mid (working_of store) whole found seen new
    c.tell-status.result (c.tell-status.ensures.told can.told)
    (c.tell-status.ensures.moments can.told) c.tell-status.ensures.devices
    c.tell-status.ensures.rest.script

pub returns-in-Err-clause-promised : goal.returns-in-Err-clause-promised
returns-in-Err-clause-promised g c = λ can given of.
    let content = g.M.Device.content in
    let x = c.args.stored in
    let device = c.args.device.now in
    let old = content c.args.machine in
    let mid = content c.in-Err.machine in
    let new = content c.end-status.new.machine in
    let why = c.in-Err.why in
    let built : c.deref.result.now ≡ x.built.specs = search rules in
    let kinds : c.deref.result.now ≡ given.typing.specs = built ∙ of.specs in
    let un = given_texts given x of
    (λ schema equation specs. IsUnopened device schema equation specs old why)
    c.as_slice.result.now c.as_slice-2.result.now c.deref.result.now c.as_slice.ensures
    c.as_slice-2.ensures built (c.in-Err.ensures.unopened can) in
    let left = c.in-Err.ensures.left can in
    let t : IsTried given device old mid why = record {
      unopened = un;
      kept = left.kept;
      recovered = left.recovered;
      no_database = λ goes blocks there none. left.no_database goes blocks there
          (subst (λ (ks : List LeafSpec). ¬ HaveDatabase ks blocks) (sym kinds) none);
      absent = left.absent;
      crash = left.crash;
      refused = left.refused;
      attaches = c.in-Err.ensures.attaches can;
    } in
    unopened_kept given device old mid new why c.end-status.result t c.end-status.ensures.devices
    (subst (λ w. IsEnded w mid new c.end-status.result) c.unopened_ending.ensures
    (record { due = c.end-status.ensures.due; words = c.end-status.ensures.words can.told }))
    (subst (λ w. EndsThrough w mid new) c.unopened_ending.ensures
    (c.end-status.ensures.moments can.told))

pub returns-in-Ok-clause-keeps : goal.returns-in-Ok-clause-keeps
returns-in-Ok-clause-keeps g c = λ can.
    let content = g.M.Device.content in
    let silent = c.examine_store-found.ensures.silent in
    keeps_opened c.args.device.now (content c.args.machine) (content (machine_of c.in-Ok.store))
    (content c.tell-status.new.machine) (c.in-Ok.ensures.attaches can)
    (c.in-Ok.ensures.opened can).opens.named (c.tell-status.ensures.devices.shelf ∙ silent.shelf)
    (c.tell-status.ensures.rest.aside ∙ silent.aside)

pub returns-in-Err-clause-keeps : goal.returns-in-Err-clause-keeps
returns-in-Err-clause-keeps g c = λ can.
    let content = g.M.Device.content in
    keeps_attached c.args.device.now (content c.args.machine) (content c.in-Err.machine)
    (content c.end-status.new.machine) (c.in-Err.ensures.attaches can) c.end-status.ensures.devices
    c.end-status.ensures.rest.aside
