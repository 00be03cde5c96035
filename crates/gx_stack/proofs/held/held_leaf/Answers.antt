use Rattle.std.proofs.Common.{◌≡◌, ◌++◌, ◌∙◌, List, Err, ap, sym, subst, length}
use Rattle.gx_ports.specs.declared.leaves.Entry.{Entry}
use Rattle.gx_ports.specs.LeafMaps.{map_at, selected}
use Rattle.gx_mapping.specs.Rule.{In}
use Rattle.gx_stack.specs.Held.{AreLeafHeld, AreCounts}
use Rattle.gx_stack.proofs.CountLemmas.{selected_whole, count_noted}
use Rattle.gx_stack.proofs.LeafRead.{none_unread}
use Rattle.gx_stack.proofs.StepLemmas.{few_read}
use Rattle.gx_stack.proofs.WholeLeaf.{found_map, leaf_in_order}
use Rattle.gx_stack.proofs.held.held_leaf.Goals as goal

pub returns-in-Ok-clause-held : goal.returns-in-Ok-clause-held
returns-in-Ok-clause-held g c =
    let b = g.B.View in
    let m = map_at (b.working c.args.leaves.now) c.args.leaf in
    let span = c.whole_span.result in
    let r = c.in-Ok.ensures.read in
    let all : c.read_records.new.out ≡ r.found =
    r.appended ∙ ap (λ zs. zs ++ r.found) c.new-found.ensures in
    let entries_is : b.whole c.args.leaves.now → c.select.new.out ≡ selected span.lo span.hi m =
    λ whole. c.in_ok-select.ensures.ok whole
    ∙ ap (λ zs. zs ++ selected span.lo span.hi m) c.new-entries.ensures in
    subst (AreLeafHeld c.args.form.now (b.whole c.args.leaves.now) m) (sym all) (record {
      fit = r.fit;
      in_order = λ whole. leaf_in_order c.args.form.now c.requires.form m span
          c.whole_span.ensures.lo c.whole_span.ensures.hi r.found r.fit (r.same ∙ entries_is whole);
      held = λ whole. found_map c.args.form.now c.requires.form m span c.whole_span.ensures.lo
          c.whole_span.ensures.hi r.found r.fit (r.same ∙ entries_is whole);
    })

pub returns-in-Err-Damaged-clause-held : goal.returns-in-Err-Damaged-clause-held
returns-in-Err-Damaged-clause-held g c = λ whole s.
    let b = g.B.View in
    let m = map_at (b.working c.args.leaves.now) c.args.leaf in
    let span = c.whole_span.result in
    let entries_is : c.select.new.out ≡ selected span.lo span.hi m = c.in_ok-select.ensures.ok whole
    ∙ ap (λ zs. zs ++ selected span.lo span.hi m) c.new-entries.ensures in
    let d = c.read_records.ensures.damaged c.in-Err-Damaged.field-0-0 (c.in-Err-Damaged.is
    ∙ ap Err c.in-Err-Damaged.field-0-is) in
    none_unread c.args.form.now c.requires.form m span s.0 s.1 s.2 d.0
    (subst (In d.0) entries_is d.1) d.2

pub returns-in-Ok-clause-few_steps : goal.returns-in-Ok-clause-few_steps
returns-in-Ok-clause-few_steps g c = λ whole.
    let b = g.B.View in
    let m = map_at (b.working c.args.leaves.now) c.args.leaf in
    few_read (b.work c.args.leaves.now) (b.work c.select.new.self) (length c.new-entries.result)
    c.whole_span.result.lo c.whole_span.result.hi m c.select.new.out
    c.in_ok-select.ensures.steps (c.in_ok-select.ensures.ok whole
    ∙ ap (λ zs. zs ++ selected c.whole_span.result.lo c.whole_span.result.hi m)
    c.new-entries.ensures)

pub returns-in-Err-Damaged-clause-few_steps : goal.returns-in-Err-Damaged-clause-few_steps
returns-in-Err-Damaged-clause-few_steps g c = λ whole.
    let b = g.B.View in
    let m = map_at (b.working c.args.leaves.now) c.args.leaf in
    few_read (b.work c.args.leaves.now) (b.work c.select.new.self) (length c.new-entries.result)
    c.whole_span.result.lo c.whole_span.result.hi m c.select.new.out
    c.in_ok-select.ensures.steps (c.in_ok-select.ensures.ok whole
    ∙ ap (λ zs. zs ++ selected c.whole_span.result.lo c.whole_span.result.hi m)
    c.new-entries.ensures)

pub returns-in-Ok-clause-counts : goal.returns-in-Ok-clause-counts
returns-in-Ok-clause-counts g c = λ whole are.
    let maps = g.B.View.working c.args.leaves.now in
    let m = map_at maps c.args.leaf in
    let span = c.whole_span.result in
    let all : c.select.new.out ≡ selected span.lo span.hi m = c.in_ok-select.ensures.ok whole
    ∙ ap (λ zs. zs ++ selected span.lo span.hi m) c.new-entries.ensures in
    let count = c.len.ensures ∙ ap (λ (es : List Entry). length es) all
    ∙ selected_whole m span.lo span.hi c.whole_span.ensures.lo c.whole_span.ensures.hi in
    subst (AreCounts maps) (sym c.note_count.ensures)
    (count_noted maps c.args.counts.now c.args.leaf c.len.result count are)

pub returns-in-Err-Damaged-clause-counts : goal.returns-in-Err-Damaged-clause-counts
returns-in-Err-Damaged-clause-counts g c = λ whole are.
    let maps = g.B.View.working c.args.leaves.now in
    let m = map_at maps c.args.leaf in
    let span = c.whole_span.result in
    let all : c.select.new.out ≡ selected span.lo span.hi m = c.in_ok-select.ensures.ok whole
    ∙ ap (λ zs. zs ++ selected span.lo span.hi m) c.new-entries.ensures in
    let count = c.len.ensures ∙ ap (λ (es : List Entry). length es) all
    ∙ selected_whole m span.lo span.hi c.whole_span.ensures.lo c.whole_span.ensures.hi in
    subst (AreCounts maps) (sym c.note_count.ensures)
    (count_noted maps c.args.counts.now c.args.leaf c.len.result count are)

pub returns-clause-counts : goal.returns-clause-counts
returns-clause-counts g c = λ whole are.
    let maps = g.B.View.working c.args.leaves.now in
    let m = map_at maps c.args.leaf in
    let span = c.whole_span.result in
    let all : c.select.new.out ≡ selected span.lo span.hi m = c.in_ok-select.ensures.ok whole
    ∙ ap (λ zs. zs ++ selected span.lo span.hi m) c.new-entries.ensures in
    let count = c.len.ensures ∙ ap (λ (es : List Entry). length es) all
    ∙ selected_whole m span.lo span.hi c.whole_span.ensures.lo c.whole_span.ensures.hi in
    subst (AreCounts maps) (sym c.note_count.ensures)
    (count_noted maps c.args.counts.now c.args.leaf c.len.result count are)
