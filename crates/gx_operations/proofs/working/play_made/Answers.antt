use Rattle.std.proofs.Common.{rules, ◌≡◌, refl, List, Some, Err, replicate, length, ap, sym, subst, ◌∙◌}
use Rattle.std.specs.FinMap.{empty}
use Rattle.gx_ports.specs.declared.kinds.LeafSpec.{LeafSpec}
use Rattle.gx_ports.specs.Heads.{Head}
use Rattle.gx_ports.specs.LeafMaps.{LeafMap}
use Rattle.gx_leaves.specs.Paged.{pages_of, places_in, kept_of, head_of, WasWhole}
use Rattle.gx_leaves.specs.Wholeness.{limits_of}
use Rattle.gx_pages.specs.Paged.{ground_of}
use Rattle.gx_pages.specs.View.{journal_of}
use Rattle.gx_model.specs.States.{State, empty_state}
use Rattle.gx_states.specs.Internal.{AreInternal}
use Rattle.gx_states.proofs.StartLemmas.{start_state}
use Rattle.gx_work.specs.Schema.{work_schema}
use Rattle.gx_store.specs.Device.{IsHeadOf, Reopens}
use Rattle.gx_store.specs.Store.{machine_of}
use Rattle.gx_schema.specs.declared.schema.Schema.{Schema}
use Rattle.gx_operations.specs.Settled.{IsSettledIn}
use Rattle.gx_play.specs.Endings.{is_fault}
use Rattle.gx_operations.specs.Working.{IsPlayedOn, EachReopens, LeavesWorking}
use Rattle.gx_operations.proofs.LeavingLemmas.{opened_images, work_images, work_each, stored_opens, each_ok}
use Rattle.gx_operations.proofs.StoreLemmas.{settled_from}
use Rattle.gx_operations.proofs.WorkingLemmas.{empty_still, never_unopened, played_on, sliced_texts, told_settled, told_unopened, limit_of, same_blocks}
use Rattle.gx_operations.proofs.working.play_made.Goals as goal

pub returns-in-Ok-clause-worked : goal.returns-in-Ok-clause-worked
returns-in-Ok-clause-worked g c = λ told reopens.
    let content = g.M.Device.content in
    let x = c.args.stored in
    let store = c.in-Ok.store in
    let left = c.play_work-worked.result.1 in
    let schema = c.as_slice.result.now in
    let equation = c.as_slice-2.result.now in
    let specs = c.deref.result.now in
    let blocks = (content c.args.machine).now.blocks in
    let after = (content c.close.result).now.blocks in
    let start = empty_state work_schema in
    let opens : Reopens schema equation specs (replicate (length x.built.specs) empty) blocks =
    sliced_texts x schema equation specs (λ t e ks. Reopens t e ks
    (replicate (length x.built.specs) empty) blocks) c.as_slice.ensures c.as_slice-2.ensures
    (search rules) reopens in
    let holds = c.in-Ok.ensures.holds told (replicate (length x.built.specs) empty) opens in
    let internal : AreInternal x.schema x.built (replicate (length x.built.specs) empty) start =
    subst (λ (k : Schema). AreInternal x.schema x.built (replicate (length x.built.specs) empty)
    (empty_state k)) c.requires.schema
    (start_state x.schema x.built (length x.built.specs)
    (length x.built.specs) c.requires.stored.can_play.0) in
    let head = subst (λ k. IsHeadOf schema equation k (head_of store)) (sym c.in-Ok.ensures.specs)
    (c.in-Ok.ensures.opened told).head in
    let limit = Some (limits_of (ground_of (journal_of (pages_of store))) (places_in store)) in
    played_on x (length blocks) c.args.records after limit
    (λ (k : State). AreInternal work_schema x.built (kept_of left) k × WasWhole left)
    c.play_work-worked.result.0
    (limit_of blocks (ground_of (journal_of (pages_of store))) (places_in store) x.built.specs
    (c.in-Ok.ensures.opened told).ground (c.in-Ok.ensures.specs ∙ (search rules)))
    (λ k held. told_settled x schema equation specs after k c.as_slice.ensures c.as_slice-2.ensures
    (search rules)
    (subst (λ (ks : List LeafSpec). IsSettledIn x.schema x.built schema equation ks after k)
    c.in-Ok.ensures.specs
    (settled_from x.schema x.built schema equation (head_of store) (head_of left)
    (kept_of left) after k c.play_work-worked.ensures.head head
    (λ is. c.close.ensures.settled schema equation is held.1)
    (subst (λ (s : Schema). AreInternal s x.built (kept_of left) k) (sym c.requires.schema)
    held.0))))
    (c.play_work-worked.ensures.worked start (record {
      working_is = subst (λ (w : List LeafMap). AreInternal x.schema x.built w start)
          (sym holds.working) internal;
      kept_same = holds.kept ∙ sym holds.working;
      whole_is = holds.whole;
      kept_whole_is = holds.was_whole;
    }))

pub returns-clause-worked : goal.returns-clause-worked
returns-clause-worked g c = λ told reopens.
    let x = c.args.stored in
    let blocks = (g.M.Device.content c.args.machine).now.blocks in
    subst (λ w. IsPlayedOn x (length blocks) c.args.records
    (g.M.Device.content c.in-Err.machine).now.blocks
    (Err w)) (sym c.unopened_ending.ensures)
    (never_unopened x (length blocks) c.args.records x.schema_text x.equation_text x.built.specs
    (replicate (length x.built.specs) empty) blocks (g.M.Device.content c.in-Err.machine).now.blocks
    c.in-Err.why reopens
    (told_unopened x c.as_slice.result.now c.as_slice-2.result.now c.deref.result.now blocks
    c.in-Err.why
    c.as_slice.ensures c.as_slice-2.ensures (search rules) (c.in-Err.ensures.unopened told))
    (λ goes. empty_still x blocks (g.M.Device.content c.in-Err.machine).now.blocks
    (c.in-Err.ensures.left told).kept reopens))

-- ---- how many blocks there are

pub returns-in-Ok-clause-count : goal.returns-in-Ok-clause-count
returns-in-Ok-clause-count g c = λ told.
    let store = c.in-Ok.store in
    let left = c.play_work-worked.result.1 in
    let was = limits_of (ground_of (journal_of (pages_of store))) (places_in store) in
    let is = limits_of (ground_of (journal_of (pages_of left))) (places_in left) in
    ap (λ m. length (g.M.Device.content m).now.blocks) c.close.ensures.machine
    ∙ sym (g.met.M.Device.sized (machine_of left) told)
    ∙ same_blocks is was c.play_work-worked.ensures.limit
    ∙ g.met.M.Device.sized (machine_of store) told ∙ (c.in-Ok.ensures.left told).recovered.count

pub returns-clause-count : goal.returns-clause-count
returns-clause-count g c = λ told. (c.in-Err.ensures.left told).recovered.count

-- ---- what a crash leaves

pub returns-in-Ok-clause-left : goal.returns-in-Ok-clause-left
returns-in-Ok-clause-left g c = λ told each.
    let content = g.M.Device.content in
    let x = c.args.stored in
    let store = c.in-Ok.store in
    let left = c.play_work-worked.result.1 in
    let r = c.play_work-worked.result.0 in
    let schema = c.as_slice.result.now in
    let equation = c.as_slice-2.result.now in
    let specs = c.deref.result.now in
    let old = content c.args.machine in
    let blocks = old.now.blocks in
    let start = empty_state work_schema in
    let empties = replicate (length x.built.specs) empty in
    let same : specs ≡ x.built.specs = search rules in
    let reopens = each (record { blocks = blocks; said = old.now.said; shelf = old.now.shelf })
    (record { said = refl; shelf = refl; count = refl; same = λ n below firm. refl }) in
    let opens : Reopens schema equation specs empties blocks =
    sliced_texts x schema equation specs (λ t e ks. Reopens t e ks empties blocks)
    c.as_slice.ensures c.as_slice-2.ensures same reopens in
    let holds = c.in-Ok.ensures.holds told empties opens in
    let opened = c.in-Ok.ensures.opened told in
    let internal : AreInternal x.schema x.built empties start =
    subst (λ (k : Schema). AreInternal x.schema x.built empties (empty_state k))
    c.requires.schema
    (start_state x.schema x.built (length x.built.specs) (length x.built.specs)
    c.requires.stored.can_play.0) in
    let work = c.play_work-worked.ensures.crash start (record {
      working_is = subst (λ (w : List LeafMap). AreInternal x.schema x.built w start)
          (sym holds.working) internal;
      kept_same = holds.kept ∙ sym holds.working;
      whole_is = holds.whole;
      kept_whole_is = holds.was_whole;
    })
    (content (machine_of store))
    opened.calm in
    let first = opened_images x c.args.records old (content (machine_of store)) each
    (c.in-Ok.ensures.left told).images in
    let images = work_images x c.args.records c.requires.schema (is_fault r) store left work
    (λ maps bs is laid. stored_opens x schema equation specs c.as_slice.ensures
    c.as_slice-2.ensures same (head_of store) blocks opened.ground opened.head opened.opened.size
    maps (Unit {0}) tt bs (record { is = is; laid_is = λ w. laid }))
    old c.in-Ok.ensures.silent first in
    let head = c.play_work-worked.ensures.head in
    let kept = each_ok r (EachReopens x (content (machine_of left)))
    (λ (k : State). AreInternal work_schema x.built (kept_of left) k × WasWhole left) x.built _ start
    c.args.records (c.play_work-worked.ensures.worked start (record {
      working_is = subst (λ (w : List LeafMap). AreInternal x.schema x.built w start)
          (sym holds.working) internal;
      kept_same = holds.kept ∙ sym holds.working;
      whole_is = holds.whole;
      kept_whole_is = holds.was_whole;
    }))
    (λ k held none. work_each x c.args.records c.requires.schema (is_fault r) store left work
    (λ bs stored. stored_opens x schema equation specs c.as_slice.ensures c.as_slice-2.ensures same
    (head_of left) blocks (ap (λ (h : Head). h.base) head ∙ opened.ground)
    (subst (λ (h : Head). IsHeadOf schema equation specs h) (sym head) opened.head)
    opened.opened.size (kept_of left) (WasWhole left) held.1 bs stored) none) in
    subst (λ m. LeavesWorking x c.args.records old (content m) r) (sym c.close.ensures.machine)
    (record { images = images; each = kept })

pub returns-clause-left : goal.returns-clause-left
returns-clause-left g c = λ told each.
    let content = g.M.Device.content in
    record {
      images = opened_images c.args.stored c.args.records (content c.args.machine)
          (content c.in-Err.machine) each (c.in-Err.ensures.left told).images;
      each = tt;
    }
