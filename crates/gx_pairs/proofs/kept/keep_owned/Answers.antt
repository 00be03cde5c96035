use Rattle.std.proofs.Common.{rules, ◌≡◌, ◌≤◌, ◌∙◌, ◌+◌, ◌*◌, ◌++◌, ◌∷◌, List, length, true, false, inr, refl, sym, ap, subst, arith}
use Rattle.std.specs.Prelude.{filter}
use Rattle.std.specs.FinMap as fin
use Rattle.std.specs.Vec.Iter.{into_iter_items}
use Rattle.std.proofs.lemmas.Grind.{common_steps}
use Rattle.gx_values.specs.declared.values.Value.{Value}
use Rattle.gx_values.specs.Values.{Fits}
use Rattle.gx_ports.specs.LeafMaps.{LeafMap}
use Rattle.gx_ports.proofs.CallLemmas.{reads_itself, reads_joined}
use Rattle.gx_mapping.specs.Rule.{In}
use Rattle.gx_mapping.proofs.RuleLemmas.{all_in}
use Rattle.gx_model.specs.States.{Row}
use Rattle.gx_model.specs.Found.{is_owner}
use Rattle.gx_stack.proofs.PassLemmas.{reads_given_after}
use Rattle.gx_pairs.specs.Stored.{IsStoredLinkset}
use Rattle.gx_pairs.specs.Members.{is_member_of}
use Rattle.gx_pairs.proofs.MemberLemmas.{row_kept, row_dropped, row_steps}
use Rattle.gx_scan.proofs.CallLemmas.{reads_passed}
use Rattle.gx_pairs.proofs.SearchLemmas.{looks_stopped}
use Rattle.gx_pairs.proofs.kept.keep_owned.Goals as goal

pub loop-row-init : goal.loop-row-init
loop-row-init g c =
    let given : into_iter_items c.into_iter-row-iterator.result ≡ c.args.rows.items =
    search rules in
    let rule = g.L.Linkset.rule c.args.linkset.now in
    let b = g.B.View in
    let maps = b.working c.args.leaves.now in
    record {
      many = search rules;
      fit = λ r h. all_in (λ (q : Row). Fits rule.member q.0) c.args.rows.items r c.requires.members
          (subst (In r) given h);
      those = λ link whole is held. λ i. c.new-kept.ensures.items i ++ filter
          (is_member_of link c.args.owner.now) (given i);
      steps = λ link most whole is held few. subst
          (λ (rs : List Row). b.work c.args.leaves.now + length rs * (most + length maps)
          ≤ b.work c.args.leaves.now + length c.args.rows.items * (most + length maps)) (sym given)
          (omega arith);
      reads = reads_itself g.B.View c.args.leaves.now;
      whole = λ h. h;
      counted = refl;
    }

pub is_owned-requires-clause-stored : goal.is_owned-requires-clause-stored
is_owned-requires-clause-stored g c =
    subst (λ (maps : List LeafMap). IsStoredLinkset g.L.Linkset.rule g.L.Linkset.valid
    c.args.linkset.now (length maps)) (sym c.loop-row.invariant.reads.working) c.requires.stored

pub returns-in_err-is_owned : goal.returns-in_err-is_owned
returns-in_err-is_owned g c =
    let held = g.L.Linkset.held in
    let l = c.args.linkset.now in
    let inv = c.loop-row.invariant in
    looks_stopped g.B.View g.L.Linkset.rule held l _ _ _ (length c.args.rows.items) _
    c.from_residual.result c.from_residual.ensures.1
    (reads_given_after g.B.View c.from_residual.result c.from_residual.ensures.1
    (record { reads = inv.reads; whole = inv.whole; counted = inv.counted })
    (λ sound. (
      inv.whole sound.0,
      (
        sound.1.0,
        sound.1.1,
        subst (λ (maps : List LeafMap). held l sound.1.0 maps) (sym inv.reads.working) sound.1.2,
      ),
    ))
    c.in_err-is_owned.ensures.answer.reads)

pub loop-row-preserved-in-Continue-branch-2 : goal.loop-row-preserved-in-Continue-branch-2
loop-row-preserved-in-Continue-branch-2 g c =
    let b = g.B.View in
    let inv = c.loop-row.invariant in
    let e = c.in_ok-is_owned.ensures in
    let held = g.L.Linkset.held c.args.linkset.now in
    let r = c.in-Some.row in
    let rest = into_iter_items c.next.new.self in
    let steps : into_iter_items c.loop-row.row-iterator ≡ r ∷ rest = c.in-Some.ensures.steps.0 in
    let key : c.row.inside.key ≡ r.0 = ap (λ (q : Row). q.0) c.row.view_is in
    record {
      many = search rules;
      fit = λ q h. inv.fit q (subst (In q) (sym steps) (inr h));
      those = λ link whole is h.
          let test = is_member_of link c.args.owner.now in
          let found = e.answer.found link (inv.whole whole) is
          (subst (held link) (sym inv.reads.working) h) in
          let owned : test r ≡ true = ap (λ (k : Value). is_owner c.args.owner.now (fin.get link k))
          (sym key) ∙ sym found ∙ c.if-branch.true in
          row_kept test c.loop-row.kept.items _ rest r owned c.in_ok-push.ensures.items
          ∙ ap (λ (l : List Row). c.loop-row.kept.items ++ filter test l) (sym steps)
          ∙ inv.those link whole is h;
      steps = λ link most whole is h few.
          let now = e.steps link most (inv.whole whole) is
          (subst (held link) (sym inv.reads.working) h) few in
          row_steps rest r (into_iter_items c.loop-row.row-iterator)
          (most + length (b.working c.args.leaves.now)) _ (b.work c.loop-row.leaves)
          (b.work c.is_owned.new.leaves) (length c.args.rows.items) steps
          (inv.steps link most whole is h few)
          (subst (λ (maps : List LeafMap). b.work c.is_owned.new.leaves
          ≤ b.work c.loop-row.leaves + 1 * (most + length maps)) inv.reads.working now);
      reads = reads_joined b inv.reads e.answer.reads.reads;
      whole = λ h. e.answer.reads.ends.whole (inv.whole h);
      counted = e.answer.reads.ends.counted refl ∙ inv.counted;
    }

pub loop-row-preserved : goal.loop-row-preserved
loop-row-preserved g c =
    let b = g.B.View in
    let inv = c.loop-row.invariant in
    let e = c.in_ok-is_owned.ensures in
    let held = g.L.Linkset.held c.args.linkset.now in
    let r = c.in-Some.row in
    let rest = into_iter_items c.next.new.self in
    let steps : into_iter_items c.loop-row.row-iterator ≡ r ∷ rest = c.in-Some.ensures.steps.0 in
    let key : c.row.inside.key ≡ r.0 = ap (λ (q : Row). q.0) c.row.view_is in
    record {
      many = search rules;
      fit = λ q h. inv.fit q (subst (In q) (sym steps) (inr h));
      those = λ link whole is h.
          let test = is_member_of link c.args.owner.now in
          let found = e.answer.found link (inv.whole whole) is
          (subst (held link) (sym inv.reads.working) h) in
          let other : test r ≡ false = ap
          (λ (k : Value). is_owner c.args.owner.now (fin.get link k)) (sym key) ∙ sym found
          ∙ c.if-branch.false in
          row_dropped test c.loop-row.kept.items rest r other
          ∙ ap (λ (l : List Row). c.loop-row.kept.items ++ filter test l) (sym steps)
          ∙ inv.those link whole is h;
      steps = λ link most whole is h few.
          let now = e.steps link most (inv.whole whole) is
          (subst (held link) (sym inv.reads.working) h) few in
          row_steps rest r (into_iter_items c.loop-row.row-iterator)
          (most + length (b.working c.args.leaves.now)) _ (b.work c.loop-row.leaves)
          (b.work c.is_owned.new.leaves) (length c.args.rows.items) steps
          (inv.steps link most whole is h few)
          (subst (λ (maps : List LeafMap). b.work c.is_owned.new.leaves
          ≤ b.work c.loop-row.leaves + 1 * (most + length maps)) inv.reads.working now);
      reads = reads_joined b inv.reads e.answer.reads.reads;
      whole = λ h. e.answer.reads.ends.whole (inv.whole h);
      counted = e.answer.reads.ends.counted refl ∙ inv.counted;
    }

pub returns : goal.returns
returns g c =
    let inv = c.loop-row.invariant in
    record {
      answer = record {
        found = λ link whole is held. grind (arith, common_steps, inv.those link whole is held);
        reads = reads_passed g.B.View _
            (record { reads = inv.reads; whole = inv.whole; counted = inv.counted });
      };
      steps = λ link most whole is held few. omega (arith, inv.steps link most whole is held few);
    }
