use Rattle.std.proofs.Common.{length}
use Rattle.std.proofs.lemmas.Result.{on_ok_weaker}
use Rattle.gx_stack.specs.Tree.{leaves_of}
use Rattle.gx_stack.specs.Seen.{tree_of}
use Rattle.gx_scan.proofs.KeyLemmas.{added_at_key, steps_at_key}
use Rattle.gx_scan.proofs.by_entries.add_at_key.Goals as goal

pub returns-clause-adds : goal.returns-clause-adds
returns-clause-adds g c = record {
  rows = λ f whole is.
      let storable = c.requires.storable in
      let span = c.set_key.ensures in
      on_ok_weaker c.add_by_entries.result
      (added_at_key c.args.file.now f c.args.key.now c.set_key.new.span storable.key c.requires.key
      is.fit span.lo span.hi c.args.conds.now c.args.rows.now.items c.add_by_entries.new.rows.items)
      (c.add_by_entries.ensures.adds.rows f whole is);
  steps = λ f most whole is few.
      let b = g.B.View in
      let storable = c.requires.storable in
      let span = c.set_key.ensures in
      on_ok_weaker c.add_by_entries.result
      (steps_at_key c.args.file.now f c.args.key.now c.set_key.new.span storable.key c.requires.key
      is.fit span.lo span.hi (length (leaves_of (tree_of c.args.node.now))) most
      (b.work c.args.leaves.now) (b.work c.add_by_entries.new.leaves))
      (c.add_by_entries.ensures.adds.steps f most whole is few);
  front = c.add_by_entries.ensures.adds.front;
  reads = c.add_by_entries.ensures.adds.reads;
}
