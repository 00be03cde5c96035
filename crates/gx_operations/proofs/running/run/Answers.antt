use Rattle.std.proofs.Common.{◌≡◌, rules, ℕ, false, List, Some, length, sym, ap, subst, ◌∙◌}
use Rattle.gx_device.specs.Crash.{EachImage}
use Rattle.gx_ports.specs.declared.kinds.LeafSpec.{LeafSpec}
use Rattle.gx_ports.specs.LeafMaps.{LeafMap}
use Rattle.gx_leaves.specs.Paged.{pages_of, places_in, head_of}
use Rattle.gx_leaves.specs.Wholeness.{limits_of}
use Rattle.gx_pages.specs.Paged.{ground_of}
use Rattle.gx_pages.specs.View.{journal_of}
use Rattle.gx_schema.specs.declared.schema.Schema.{Schema}
use Rattle.gx_store.specs.Device.{IsHeadOf}
use Rattle.gx_store.specs.Opening.{IsUnopened, HaveDatabase}
use Rattle.gx_store.specs.Store.{HoldsMaps, machine_of}
use Rattle.gx_model.specs.States.{State}
use Rattle.gx_play.specs.Readings.{EndsAs}
use Rattle.gx_play.specs.Endings.{IsEnded, EndsThrough, is_fault}
use Rattle.gx_play.specs.Overs.{IsPlayedOf}
use Rattle.gx_operations.specs.Held.{StoreState}
use Rattle.gx_operations.specs.Kinds.{IsEndOfKind, over_play}
use Rattle.gx_operations.specs.Settled.{IsSettledIn, limits_on}
use Rattle.gx_operations.proofs.EndedLemmas.{keeps_opened, keeps_attached}
use Rattle.gx_operations.proofs.RunOnLemmas.{AreOf, under_of, run_opened, run_unopened}
use Rattle.gx_operations.proofs.StoreLemmas.{limit_on}
use Rattle.gx_operations.proofs.running.run.Goals as goal

pub returns-in-Ok-clause-promised : goal.returns-in-Ok-clause-promised
returns-in-Ok-clause-promised g c = λ can given of.
    let content = g.M.Device.content in
    let x = c.args.stored in
    let device = c.args.device.now in
    let old = content c.args.machine in
    let store = c.in-Ok.store in
    let opened = content (machine_of store) in
    let mid = content c.play_stored-machine.result.1 in
    let played = c.play_stored-machine.result.0 in
    let schema = c.as_slice.result.now in
    let equation = c.as_slice-2.result.now in
    let specs = c.deref.result.now in
    let o = c.in-Ok.ensures.opened can in
    let attaches = c.in-Ok.ensures.attaches can in
    let base = ground_of (journal_of (pages_of store)) in
    let limit = limits_of base (places_in store) in
    let built : specs ≡ x.built.specs = first_of (search rules, cc) in
    let specs_are : specs ≡ given.typing.specs = built ∙ of.specs in
    run_opened c.args.kind given device x.schema x.built schema equation specs
    (head_of store) limit (λ (maps : List LeafMap). HoldsMaps maps store) old opened mid played
    (record {
      schema_is = of.schema;
      trees = of.trees;
      of = record {
        schema_is = c.as_slice.ensures ∙ of.schema_text;
        equation_is = c.as_slice-2.ensures ∙ of.equation_text;
        specs_are = specs_are;
      };
      opens = o.opens;
      first = o.is.first;
      attaches = attaches;
      were = o.is.opened;
      ground = o.is.ground;
      is_head = o.is.head;
      limit_is = λ blocks there. limit_on device old blocks base (places_in store) specs there
          (o.opens.middle.now.blocks, o.opens.was, o.is.ground) c.in-Ok.ensures.specs
          ∙ ap (λ (k : List LeafSpec). limits_on k (length blocks)) specs_are;
      holds = λ blocks maps there reopens. c.in-Ok.ensures.holds can blocks maps there reopens;
      answered = λ s maps reaches internal.
          subst (λ k. IsPlayedOf
          (over_play c.args.kind x.schema x.built (Some limit) s opened.script)
          (λ (kept : State). IsSettledIn x.schema x.built schema equation k mid.now.blocks kept
          × (is_fault played ≡ false → EachImage (λ image. StoreState x.schema x.built (head_of store)
          kept image.blocks) mid.now)) opened.now.said mid.now.said played)
          c.in-Ok.ensures.specs
          (c.play_stored-machine.ensures.answered can.told s maps reaches internal
          (schema, equation)
          (subst (λ k. IsHeadOf schema equation k (head_of store)) (sym c.in-Ok.ensures.specs)
          o.is.head) o.is.calm);
      images = λ s maps reaches internal. c.play_stored-machine.ensures.crash can.told s maps reaches
          internal o.is.calm;
      heard = c.play_stored-machine.ensures.heard can.told;
      reads =
          subst (λ (k : Schema). EndsAs (IsEndOfKind c.args.kind k old.script) played) of.schema
          (subst (λ (t : List ℕ). EndsAs (IsEndOfKind c.args.kind x.schema t) played)
          attaches.script
          (c.play_stored-machine.ensures.reads can.told));
      stays = c.play_stored-machine.ensures.stays can.told;
      play = c.play_stored-machine.ensures.ending;
      damage = c.play_stored-machine.ensures.damage can.told;
    }) (content c.finish-status.new.machine) c.finish-status.result c.finish-status.ensures.devices
    (c.finish-status.ensures.finished can.told) (c.finish-status.ensures.moments can.told)

pub returns-in-Err-clause-promised : goal.returns-in-Err-clause-promised
returns-in-Err-clause-promised g c = λ can given of.
    let content = g.M.Device.content in
    let x = c.args.stored in
    let device = c.args.device.now in
    let old = content c.args.machine in
    let mid = content c.in-Err.machine in
    let new = content c.end-status.new.machine in
    let why = c.in-Err.why in
    let schema = c.as_slice.result.now in
    let equation = c.as_slice-2.result.now in
    let specs = c.deref.result.now in
    let left = c.in-Err.ensures.left can in
    let built : specs ≡ x.built.specs = first_of (search rules, cc) in
    let specs_are : specs ≡ given.typing.specs = built ∙ of.specs in
    let told : AreOf given schema equation specs = record {
      schema_is = c.as_slice.ensures ∙ of.schema_text;
      equation_is = c.as_slice-2.ensures ∙ of.equation_text;
      specs_are = specs_are;
    } in
    run_unopened c.args.kind given device old mid new why c.end-status.result
    (record {
      unopened = under_of given schema equation specs told (λ t e k. IsUnopened device t e k old why)
          (c.in-Err.ensures.unopened can);
      kept = left.kept;
      recovered = left.recovered;
      no_database = λ goes blocks there none. left.no_database goes blocks there
          (subst (λ (ks : List LeafSpec). ¬ HaveDatabase ks blocks) (sym specs_are) none);
      absent = left.absent;
      crash = left.crash;
      refused = left.refused;
      attaches = c.in-Err.ensures.attaches can;
    }) c.end-status.ensures.devices
    (subst (λ w. IsEnded w mid new c.end-status.result) c.unopened_ending.ensures
    (record { due = c.end-status.ensures.due; words = c.end-status.ensures.words can.told }))
    (subst (λ w. EndsThrough w mid new) c.unopened_ending.ensures
    (c.end-status.ensures.moments can.told))

pub returns-in-Ok-clause-keeps : goal.returns-in-Ok-clause-keeps
returns-in-Ok-clause-keeps g c = λ can.
    let content = g.M.Device.content in
    let stays = c.play_stored-machine.ensures.stays can.told in
    keeps_opened c.args.device.now (content c.args.machine) (content (machine_of c.in-Ok.store))
    (content c.finish-status.new.machine) (c.in-Ok.ensures.attaches can)
    (c.in-Ok.ensures.opened can).opens.named
    (c.finish-status.ensures.devices.shelf ∙ stays.shelf)
    (c.finish-status.ensures.rest.aside ∙ stays.aside)

pub returns-in-Err-clause-keeps : goal.returns-in-Err-clause-keeps
returns-in-Err-clause-keeps g c = λ can.
    let content = g.M.Device.content in
    keeps_attached c.args.device.now (content c.args.machine) (content c.in-Err.machine)
    (content c.end-status.new.machine) (c.in-Err.ensures.attaches can) c.end-status.ensures.devices
    c.end-status.ensures.rest.aside
