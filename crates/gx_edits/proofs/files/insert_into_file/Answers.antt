use Rattle.std.proofs.Common.{rules}
use Rattle.gx_stack.specs.Seen.{tree_of}
use Rattle.gx_scan.proofs.CallLemmas.{ok_one, ends_so}
use Rattle.gx_edits.proofs.HomeLemmas.{insert_above, insert_short}
use Rattle.gx_edits.proofs.files.insert_into_file.Goals as goal

pub insert_record-requires-clause-can : goal.insert_record-requires-clause-can
insert_record-requires-clause-can g c = record {
  tree = c.home_of-home.ensures.tree _ c.requires.can.tree;
  storable = c.requires.can.storable;
  key_fits = c.requires.can.key_fits;
}

pub returns : goal.returns
returns g c = record {
  inserted = λ f whole is.
      let t = tree_of c.args.node.now in
      let u = tree_of c.home_of-home.result.now in
      let home = c.home_of-home.ensures in
      let h = home.held _ f is in
      let part = c.insert_record.ensures.inserted h.part whole h.held in
      ok_one c.insert_record.result _ _ part
      (λ why done. insert_above c.args.file.now c.args.key t u home _ c.requires.can.tree
      c.requires.can.storable _ _ f is h why c.args.values done);
  keeps = search rules;
  ends = ends_so g.B.View _ _ _ _ _
      (λ sound.
      let h = c.home_of-home.ensures.held _ sound.1.0 sound.1.1 in
      (sound.0, (h.part, h.held))) c.insert_record.ensures.ends;
  block = search rules;
  full = λ f whole is stops.
      let t = tree_of c.args.node.now in
      let u = tree_of c.home_of-home.result.now in
      let home = c.home_of-home.ensures in
      let h = home.held _ f is in
      let limit = g.B.View.limit c.args.leaves.now in
      let short = c.insert_record.ensures.full h.part whole h.held stops in
      insert_short c.args.file.now c.args.key t u home _ c.requires.can.tree c.requires.can.storable
      limit _ f h c.args.values c.requires.values short;
}
