use Rattle.std.proofs.Common.{ℕ, List, Some, Err, length, sym, ap, subst, ◌∙◌}
use Rattle.gx_device.specs.Crash.{EachImage, LeavesOnly}
use Rattle.gx_device.specs.Quiet.{IsPrefix}
use Rattle.gx_leaves.specs.Paged.{places_in, pages_of, kept_of, head_of, WasWhole}
use Rattle.gx_leaves.specs.Places.{specs_of}
use Rattle.gx_leaves.specs.Wholeness.{limits_of}
use Rattle.gx_pages.specs.Paged.{ground_of}
use Rattle.gx_pages.specs.View.{journal_of}
use Rattle.gx_ports.specs.Heads.{Head}
use Rattle.gx_ports.specs.LeafMaps.{LeafMap}
use Rattle.gx_store.specs.Store.{machine_of}
use Rattle.gx_model.specs.States.{State}
use Rattle.gx_states.specs.Internal.{AreInternal}
use Rattle.gx_play.specs.Overs.{IsPlayedOf, IsImageOf}
use Rattle.gx_play.specs.Readings.{EndsAs}
use Rattle.gx_play.specs.Plays.{IsHolding}
use Rattle.gx_operations.specs.Damage.{IsDamageBelow}
use Rattle.gx_operations.specs.Held.{StoreState}
use Rattle.gx_operations.specs.Kinds.{IsEndOfKind, over_play}
use Rattle.gx_operations.specs.Settled.{IsSettledIn}
use Rattle.gx_operations.proofs.StoreLemmas.{settled_from}
use Rattle.gx_operations.proofs.RunStoreLemmas.{store_images, play_leaves, store_played, store_stopped}
use Rattle.gx_operations.proofs.DamageLemmas.{damage_kept}
use Rattle.gx_operations.proofs.running.play_stored.Goals as goal

pub returns-in-Ok-clause-answered : goal.returns-in-Ok-clause-answered
returns-in-Ok-clause-answered g c = λ told s maps reaches internal texts head calm.
    let content = g.M.Device.content in
    let left = c.play_as-store.result.1 in
    let schema = c.args.schema in
    let built = c.args.built in
    let old = content (machine_of c.args.store) in
    let now = content c.close-machine.result in
    let play = over_play c.args.kind schema built (Some (limits_of (ground_of (journal_of
    (pages_of c.args.store))) (places_in c.args.store))) s old.script in
    let holding : IsHolding _ schema built s c.args.store = record {
      working_is = subst (λ (w : List LeafMap). AreInternal schema built w s) (sym reaches.working)
          internal;
      kept_same = reaches.kept ∙ sym reaches.working;
      whole_is = reaches.whole;
      kept_whole_is = reaches.was_whole;
    } in
    store_played play
    (λ (k : State). AreInternal schema built (kept_of left) k × WasWhole left)
    (λ (k : State). IsSettledIn schema built texts.0 texts.1 (specs_of (places_in c.args.store))
    now.now.blocks k)
    (λ (k : State). EachImage (λ image. StoreState schema built (head_of c.args.store) k
    image.blocks) now.now)
    old.now.said now.now.said c.play_as-store.result.0
    (subst (λ m. IsPlayedOf play
    (λ (k : State). AreInternal schema built (kept_of left) k × WasWhole left)
    old.now.said (content m).now.said c.play_as-store.result.0)
    (sym c.close-machine.ensures.machine)
    (c.play_as-store.ensures.answered told s holding))
    (λ k held. settled_from schema built texts.0 texts.1 (head_of c.args.store) (head_of left)
    (kept_of left) now.now.blocks k c.play_as-store.ensures.keeps.head head
    (λ is. c.close-machine.ensures.settled texts.0 texts.1 is held.1) held.0)
    (λ firm k held. subst (λ m. EachImage (λ image. StoreState schema built (head_of c.args.store) k
    image.blocks) (content m).now) (sym c.close-machine.ensures.machine)
    (store_images (journal_of (pages_of left)) (places_in left) _ _ schema built k
    (head_of c.args.store) c.play_as-store.ensures.keeps.head
    (g.met.M.Device.sized (machine_of left) told)
    ((c.play_as-store.ensures.crash told s holding _ calm).calm firm) left.laid_out.places_are
    held.1 held.0))
    _ c.in-Ok.is

pub returns-in-Ok-clause-crash : goal.returns-in-Ok-clause-crash
returns-in-Ok-clause-crash g c = λ told s maps reaches internal calm.
    let content = g.M.Device.content in
    let left = c.play_as-store.result.1 in
    let old = content (machine_of c.args.store) in
    let play = over_play c.args.kind c.args.schema c.args.built (Some (limits_of (ground_of
    (journal_of (pages_of c.args.store))) (places_in c.args.store))) s old.script in
    subst (λ m. LeavesOnly (IsImageOf play
    (StoreState c.args.schema c.args.built (head_of c.args.store)) old.now) old (content m))
    (sym c.close-machine.ensures.machine)
    (play_leaves _ c.args.schema c.args.built play _ c.args.store left
    (λ head maps blocks is. is) (λ head blocks is. is)
    (c.play_as-store.ensures.crash told s (record {
      working_is = subst (λ (w : List LeafMap). AreInternal c.args.schema c.args.built w s)
          (sym reaches.working) internal;
      kept_same = reaches.kept ∙ sym reaches.working;
      whole_is = reaches.whole;
      kept_whole_is = reaches.was_whole;
    }) _ calm))

pub returns-in-Ok-clause-stays : goal.returns-in-Ok-clause-stays
returns-in-Ok-clause-stays g c = λ told.
    let content = g.M.Device.content in
    let left = c.play_as-store.result.1 in
    record {
      begins = subst (IsPrefix (content (machine_of c.args.store)).now.said)
          (ap (λ m. (content m).now.said) (sym c.close-machine.ensures.machine))
          (c.play_as-store.ensures.keeps.begins told);
      shelf = ap (λ m. (content m).now.shelf) c.close-machine.ensures.machine
          ∙ c.play_as-store.ensures.keeps.shelf;
      aside = ap (λ m. (content m).aside) c.close-machine.ensures.machine
          ∙ c.play_as-store.ensures.keeps.aside;
      count = ap (λ m. length (content m).now.blocks) c.close-machine.ensures.machine
          ∙ sym (g.met.M.Device.sized (machine_of left) told)
          ∙ ap (λ (h : Head). h.base.blocks) c.play_as-store.ensures.keeps.head
          ∙ g.met.M.Device.sized (machine_of c.args.store) told;
    }

pub returns-in-Err-clause-answered : goal.returns-in-Err-clause-answered
returns-in-Err-clause-answered g c = λ told s maps reaches internal texts head calm.
    let content = g.M.Device.content in
    let left = c.play_as-store.result.1 in
    let schema = c.args.schema in
    let built = c.args.built in
    let old = content (machine_of c.args.store) in
    let now = content c.close-machine.result in
    let play = over_play c.args.kind schema built (Some (limits_of (ground_of (journal_of
    (pages_of c.args.store))) (places_in c.args.store))) s old.script in
    let holding : IsHolding _ schema built s c.args.store = record {
      working_is = subst (λ (w : List LeafMap). AreInternal schema built w s) (sym reaches.working)
          internal;
      kept_same = reaches.kept ∙ sym reaches.working;
      whole_is = reaches.whole;
      kept_whole_is = reaches.was_whole;
    } in
    store_stopped play
    (λ (k : State). AreInternal schema built (kept_of left) k × WasWhole left)
    (λ (k : State). IsSettledIn schema built texts.0 texts.1 (specs_of (places_in c.args.store))
    now.now.blocks k)
    (λ (k : State). EachImage (λ image. StoreState schema built (head_of c.args.store) k
    image.blocks) now.now)
    old.now.said now.now.said c.play_as-store.result.0
    (subst (λ m. IsPlayedOf play
    (λ (k : State). AreInternal schema built (kept_of left) k × WasWhole left)
    old.now.said (content m).now.said c.play_as-store.result.0)
    (sym c.close-machine.ensures.machine)
    (c.play_as-store.ensures.answered told s holding))
    (λ k held. settled_from schema built texts.0 texts.1 (head_of c.args.store) (head_of left)
    (kept_of left) now.now.blocks k c.play_as-store.ensures.keeps.head head
    (λ is. c.close-machine.ensures.settled texts.0 texts.1 is held.1) held.0)
    (λ firm k held. subst (λ m. EachImage (λ image. StoreState schema built (head_of c.args.store) k
    image.blocks) (content m).now) (sym c.close-machine.ensures.machine)
    (store_images (journal_of (pages_of left)) (places_in left) _ _ schema built k
    (head_of c.args.store) c.play_as-store.ensures.keeps.head
    (g.met.M.Device.sized (machine_of left) told)
    ((c.play_as-store.ensures.crash told s holding _ calm).calm firm) left.laid_out.places_are
    held.1 held.0))
    _ _ c.in-Err.is c.damage_on-why.ensures.same

pub returns-in-Err-clause-crash : goal.returns-in-Err-clause-crash
returns-in-Err-clause-crash g c = λ told s maps reaches internal calm.
    let content = g.M.Device.content in
    let left = c.play_as-store.result.1 in
    let old = content (machine_of c.args.store) in
    let play = over_play c.args.kind c.args.schema c.args.built (Some (limits_of (ground_of
    (journal_of (pages_of c.args.store))) (places_in c.args.store))) s old.script in
    subst (λ m. LeavesOnly (IsImageOf play
    (StoreState c.args.schema c.args.built (head_of c.args.store)) old.now) old (content m))
    (sym c.close-machine.ensures.machine)
    (play_leaves _ c.args.schema c.args.built play _ c.args.store left
    (λ head maps blocks is. is) (λ head blocks is. is)
    (c.play_as-store.ensures.crash told s (record {
      working_is = subst (λ (w : List LeafMap). AreInternal c.args.schema c.args.built w s)
          (sym reaches.working) internal;
      kept_same = reaches.kept ∙ sym reaches.working;
      whole_is = reaches.whole;
      kept_whole_is = reaches.was_whole;
    }) _ calm))

pub returns-in-Err-clause-stays : goal.returns-in-Err-clause-stays
returns-in-Err-clause-stays g c = λ told.
    let content = g.M.Device.content in
    let left = c.play_as-store.result.1 in
    record {
      begins = subst (IsPrefix (content (machine_of c.args.store)).now.said)
          (ap (λ m. (content m).now.said) (sym c.close-machine.ensures.machine))
          (c.play_as-store.ensures.keeps.begins told);
      shelf = ap (λ m. (content m).now.shelf) c.close-machine.ensures.machine
          ∙ c.play_as-store.ensures.keeps.shelf;
      aside = ap (λ m. (content m).aside) c.close-machine.ensures.machine
          ∙ c.play_as-store.ensures.keeps.aside;
      count = ap (λ m. length (content m).now.blocks) c.close-machine.ensures.machine
          ∙ sym (g.met.M.Device.sized (machine_of left) told)
          ∙ ap (λ (h : Head). h.base.blocks) c.play_as-store.ensures.keeps.head
          ∙ g.met.M.Device.sized (machine_of c.args.store) told;
    }

pub returns-in-Ok-clause-reads : goal.returns-in-Ok-clause-reads
returns-in-Ok-clause-reads g c = λ told.
    subst (EndsAs (IsEndOfKind c.args.kind c.args.schema
    (g.M.Device.content (machine_of c.args.store)).script)) c.in-Ok.is
    (c.play_as-store.ensures.reads told)

pub returns-in-Err-clause-reads : goal.returns-in-Err-clause-reads
returns-in-Err-clause-reads g c = λ told.
    let ends = IsEndOfKind c.args.kind c.args.schema
    (g.M.Device.content (machine_of c.args.store)).script in
    damage_kept (λ w. EndsAs ends (Err w)) (λ block other is. tt) _ c.damage_on-why.result
    c.damage_on-why.ensures.same
    (subst (EndsAs ends) c.in-Err.is (c.play_as-store.ensures.reads told))

pub returns-in-Err-clause-damage : goal.returns-in-Err-clause-damage
returns-in-Err-clause-damage g c = λ told.
    subst (λ (n : ℕ). IsDamageBelow n c.damage_on-why.result)
    (c.blocks-in-Err.ensures.count ∙ g.met.M.Device.sized c.close-machine.result told)
    c.damage_on-why.ensures.below
