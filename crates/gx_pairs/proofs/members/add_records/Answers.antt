use Rattle.std.proofs.Common.{rules, ◌∙◌, ◌+◌, List, length, refl, sym, subst, arith}
use Rattle.std.proofs.lemmas.Bool.{true≢false}
use Rattle.gx_ports.specs.LeafMaps.{LeafMap}
use Rattle.gx_ports.proofs.CallLemmas.{reads_itself, reads_joined}
use Rattle.gx_stack.specs.Tree.{leaves_of}
use Rattle.gx_gather.proofs.Lists.{in_read}
use Rattle.gx_model.specs.Found.{meets_conds}
use Rattle.gx_scan.specs.Files.{IsInternal}
use Rattle.gx_stack.proofs.PassLemmas.{reads_given_after}
use Rattle.gx_scan.proofs.StepLemmas.{taken_more, taken_all}
use Rattle.gx_pairs.specs.Stored.{file_of, node_tree, IsStoredFile}
use Rattle.gx_pairs.proofs.MemberLemmas.{next_row, last_row}
use Rattle.gx_pairs.proofs.members.add_records.Goals as goal

pub loop-key-init : goal.loop-key-init
loop-key-init g c = record {
  rows = λ f whole is. refl;
  steps = λ f most whole is few. omega arith;
  reads = reads_itself g.B.View c.args.leaves.now;
  whole = λ h. h;
  counted = refl;
}

pub add_record-requires-clause-fit : goal.add_record-requires-clause-fit
add_record-requires-clause-fit g c =
    let keys = c.args.keys.now in
    let i = c.loop-key.key-index in
    let key = c.key-item.result in
    c.requires.fit key (in_read keys i key c.key-item.is c.loop-key-test.true)

pub add_record-requires-clause-stored : goal.add_record-requires-clause-stored
add_record-requires-clause-stored g c =
    subst (λ (maps : List LeafMap). IsStoredFile c.args.stored.now (length maps))
    (sym c.loop-key.invariant.reads.working) c.requires.stored

pub loop-key-preserved : goal.loop-key-preserved
loop-key-preserved g c =
    let s = c.args.stored.now in
    let keys = c.args.keys.now in
    let i = c.loop-key.key-index in
    let key = c.key-item.result in
    let inv = c.loop-key.invariant in
    let e = c.in_ok-add_record.ensures in record {
      rows = λ f whole is.
          let at = subst (λ (maps : List LeafMap). IsInternal (file_of s) (node_tree s) maps f)
          (sym inv.reads.working) is in
          let now = (e.looks.found f (inv.whole whole) at).1 in
          next_row f (meets_conds c.args.conds.now) keys i key _ _ _ c.key-item.is
          c.loop-key-test.true now (inv.rows f whole is);
      steps = λ f most whole is few.
          let at = subst (λ (maps : List LeafMap). IsInternal (file_of s) (node_tree s) maps f)
          (sym inv.reads.working) is in
          let now = e.looks.steps f most (inv.whole whole) at few in
          taken_more keys i (length (leaves_of (node_tree s)) + most) _ _ _ c.loop-key-test.true
          (inv.steps f most whole is few) now;
      reads = reads_joined g.B.View inv.reads e.looks.reads.reads;
      whole = λ h. e.looks.reads.ends.whole (inv.whole h);
      counted = e.looks.reads.ends.counted refl ∙ inv.counted;
    }

pub returns-then-not-branch-clause-reads : goal.returns-then-not-branch-clause-reads
returns-then-not-branch-clause-reads g c =
    let inv = c.loop-key.invariant in
    let e = c.in_ok-add_record.ensures in record {
      reads = reads_joined g.B.View inv.reads e.looks.reads.reads;
      ends = record {
        whole = search rules;
        later = omega (arith, inv.counted, e.looks.reads.ends.counted refl);
        fault = search rules;
        counted = search rules;
        damaged = λ block is sound.
            let s = c.args.stored.now in
            let keys = c.args.keys.now in
            let key = c.key-item.result in
            let f = sound.1.0 in
            let at = subst (λ (maps : List LeafMap). IsInternal (file_of s) (node_tree s) maps f)
            (sym inv.reads.working) sound.1.1 in
            let there = sound.1.2 key (in_read keys c.loop-key.key-index key c.key-item.is
            c.loop-key-test.true) in
            let answer = (e.looks.found f (inv.whole sound.0) at).0 in
            true≢false (sym there ∙ sym answer ∙ c.if-not-branch.true);
      };
      block = search rules;
      not_full = search rules;
    }

pub returns-in_err-add_record-clause-reads : goal.returns-in_err-add_record-clause-reads
returns-in_err-add_record-clause-reads g c =
    let s = c.args.stored.now in
    let inv = c.loop-key.invariant in
    reads_given_after g.B.View c.from_residual.result c.from_residual.ensures.1
    (record { reads = inv.reads; whole = inv.whole; counted = inv.counted })
    (λ sound. (
      inv.whole sound.0,
      (
        sound.1.0,
        subst (λ (maps : List LeafMap). IsInternal (file_of s)
            (node_tree s) maps sound.1.0) (sym inv.reads.working) sound.1.1,
      ),
    ))
    c.in_err-add_record.ensures.looks.reads

pub returns-clause-rows : goal.returns-clause-rows
returns-clause-rows g c = λ f whole is.
    last_row f (meets_conds c.args.conds.now) c.args.keys.now c.loop-key.key-index _ _
    (omega (arith, c.loop-key-test.false)) (c.loop-key.invariant.rows f whole is)

pub returns-clause-steps : goal.returns-clause-steps
returns-clause-steps g c = λ f most whole is few.
    taken_all c.args.keys.now c.loop-key.key-index
    (length (leaves_of (node_tree c.args.stored.now)) + most) _ _
    (c.loop-key.invariant.steps f most whole is few)
