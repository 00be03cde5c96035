use Rattle.std.proofs.Common.{rules, ◌∙◌, ◌++◌, ◌+◌, [], List, length, refl, sym, ap, subst, arith, append-nil, append_assoc}
use Rattle.gx_ports.specs.LeafMaps.{LeafMap}
use Rattle.gx_ports.proofs.CallLemmas.{reads_itself, reads_joined}
use Rattle.gx_stack.specs.Tree.{leaves_of}
use Rattle.gx_stack.specs.Seen.{tree_of}
use Rattle.gx_gather.proofs.Lists.{in_read}
use Rattle.gx_model.specs.States.{Row}
use Rattle.gx_model.specs.Found.{meets_conds}
use Rattle.gx_scan.specs.Files.{IsInternal}
use Rattle.gx_scan.proofs.CallLemmas.{sound_after}
use Rattle.gx_stack.proofs.PassLemmas.{reads_given_after}
use Rattle.gx_scan.proofs.StepLemmas.{taken_more, taken_all}
use Rattle.gx_scan.proofs.WhereLemmas.{rows_next, rows_done}
use Rattle.gx_scan.proofs.by_index.add_by_keys.Goals as goal

pub loop-key-init : goal.loop-key-init
loop-key-init g c = record {
  rows = λ f whole is. refl;
  steps = λ f most whole is few. omega arith;
  front = ([], sym (append-nil c.args.rows.now.items));
  reads = reads_itself g.B.View c.args.leaves.now;
  whole = λ h. h;
  counted = refl;
}

pub add_by_key-requires-clause-fit : goal.add_by_key-requires-clause-fit
add_by_key-requires-clause-fit g c =
    let keys = c.args.keys.now in
    let i = c.loop-key.key-index in
    let key = c.key-item.result in
    c.requires.fit key (in_read keys i key c.key-item.is c.loop-key-test.true)

pub loop-key-preserved : goal.loop-key-preserved
loop-key-preserved g c =
    let t = tree_of c.args.node.now in
    let keys = c.args.keys.now in
    let i = c.loop-key.key-index in
    let key = c.key-item.result in
    let inv = c.loop-key.invariant in
    let e = c.in_ok-add_by_key.ensures in record {
      rows = λ f whole is.
          let now = e.rows f (inv.whole whole)
          (subst (λ (maps : List LeafMap). IsInternal c.args.file.now t maps f)
          (sym inv.reads.working) is) in
          rows_next f (meets_conds c.args.conds.now) keys i key _ _ _ c.key-item.is
          c.loop-key-test.true now (inv.rows f whole is);
      steps = λ f most whole is few.
          let now = e.steps f most (inv.whole whole)
          (subst (λ (maps : List LeafMap). IsInternal c.args.file.now t maps f)
          (sym inv.reads.working) is) few in
          taken_more keys i (length (leaves_of t) + most) _ _ _ c.loop-key-test.true
          (inv.steps f most whole is few) now;
      front = (
        inv.front.0 ++ e.front.0,
        e.front.1 ∙ ap (λ (l : List Row). l ++ e.front.0) inv.front.1
            ∙ append_assoc c.args.rows.now.items inv.front.0 e.front.0,
      );
      reads = reads_joined g.B.View inv.reads e.reads.reads;
      whole = λ h. e.reads.ends.whole (inv.whole h);
      counted = e.reads.ends.counted refl ∙ inv.counted;
    }

pub returns-in_err-add_by_key : goal.returns-in_err-add_by_key
returns-in_err-add_by_key g c = record {
  rows = search rules;
  steps = search rules;
  front =
      let front = c.loop-key.invariant.front in
      let more = c.in_err-add_by_key.ensures.front in (
        front.0 ++ more.0,
        more.1 ∙ ap (λ (l : List Row). l ++ more.0) front.1
            ∙ append_assoc c.args.rows.now.items front.0 more.0,
      );
  reads =
      let inv = c.loop-key.invariant in
      reads_given_after g.B.View c.from_residual.result c.from_residual.ensures.1
      (record { reads = inv.reads; whole = inv.whole; counted = inv.counted })
      (sound_after g.B.View c.args.file.now (tree_of c.args.node.now) _ _ inv.reads
      inv.whole)
      c.in_err-add_by_key.ensures.reads;
}

pub returns : goal.returns
returns g c = record {
  rows = λ f whole is.
      rows_done f (meets_conds c.args.conds.now) c.args.keys.now c.loop-key.key-index _ _
      (omega (arith, c.loop-key-test.false)) (c.loop-key.invariant.rows f whole is);
  steps = λ f most whole is few.
      taken_all c.args.keys.now c.loop-key.key-index
      (length (leaves_of (tree_of c.args.node.now)) + most) _ _
      (c.loop-key.invariant.steps f most whole is few);
  front = c.loop-key.invariant.front;
  reads = search rules;
}
