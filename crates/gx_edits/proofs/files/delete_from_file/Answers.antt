use Rattle.std.proofs.Common.{rules}
use Rattle.gx_stack.specs.Seen.{tree_of}
use Rattle.gx_scan.proofs.CallLemmas.{ok_one, ends_so}
use Rattle.gx_edits.proofs.HomeLemmas.{delete_above}
use Rattle.gx_edits.proofs.files.delete_from_file.Goals as goal

pub delete_record-requires : goal.delete_record-requires
delete_record-requires g c = record {
  can = record {
    tree = c.home_of-home.ensures.tree _ c.requires.can.tree;
    storable = c.requires.can.storable;
    key_fits = c.requires.can.key_fits;
  };
}

pub returns : goal.returns
returns g c = record {
  deleted = λ f whole is.
      let t = tree_of c.args.node.now in
      let u = tree_of c.home_of-home.result.now in
      let home = c.home_of-home.ensures in
      let h = home.held _ f is in
      let part = c.delete_record.ensures.deleted h.part whole h.held in
      ok_one c.delete_record.result _ _ part
      (λ why done. delete_above c.args.file.now c.args.key t u home _ c.requires.can.tree
      c.requires.can.storable _ _ f is h why done);
  keeps = search rules;
  ends = ends_so g.B.View _ _ _ _ _
      (λ sound.
      let h = c.home_of-home.ensures.held _ sound.1.0 sound.1.1 in
      (sound.0, (h.part, h.held))) c.delete_record.ensures.ends;
  block = search rules;
  not_full = search rules;
}
