use Rattle.std.proofs.Common.{rules, ◌<◌, ◌∙◌, List, length, refl, sym, ap, subst}
use Rattle.std.specs.FinMap as fin
use Rattle.std.specs.Prelude.{not, is_some}
use Rattle.gx_ports.specs.LeafMaps.{LeafMap, map_at}
use Rattle.gx_stack.specs.Seen.{tree_of}
use Rattle.gx_stack.specs.Internal.{IsSet, IsInternal as IsHeld}
use Rattle.gx_types.specs.Any.{any_rule}
use Rattle.gx_model.specs.Commands.{no_record}
use Rattle.gx_scan.specs.Files.{rec_of, file_records}
use Rattle.gx_scan.proofs.FileLemmas.{set_of, there_in}
use Rattle.gx_edits.proofs.RecordLemmas.{is_done, delete_edit}
use Rattle.gx_states.proofs.LinkLemmas.{some_there}
use Rattle.gx_edits.proofs.records.delete_own.Goals as goal

pub take_own-requires-clause-can : goal.take_own-requires-clause-can
take_own-requires-clause-can g c = record {
  valid = c.requires.can.tree.valid;
  below = λ n h. subst (λ (maps : List LeafMap). n < length maps)
      (sym c.is_there.ensures.reads.reads.working) (c.requires.can.tree.below n h);
  bytes_are = search rules;
}

pub returns : goal.returns
returns g c = record {
  deleted = λ f whole is.
      let t = tree_of c.args.node.now in
      let same = c.is_there.ensures.reads.reads.working in
      let key = c.args.key.now in
      let some = sym (c.in_ok-is_there.ensures.there f whole is) in
      let one = some_there (fin.get f key) (some ∙ c.if-not-branch.false) in
      let values = one.0 in
      let after = c.in_ok-is_there.ensures.reads.ends.whole whole in
      let set = subst (λ form. IsSet form (file_records f)) (sym c.requires.can.tree.form)
      (set_of c.args.file.now f c.requires.can.storable.keyed is.fit) in
      let held = subst (λ (maps : List LeafMap). IsHeld any_rule t (file_records f) maps) (sym same)
      is.held in
      let done = c.in_ok-take_own.ensures.internal (file_records f) (rec_of (key, values)) after
      refl
      set (there_in f key values one.1) held in
      is_done c.args.file.now t _ _ f _ no_record _ (ap (λ o. not (is_some o)) one.1)
      (delete_edit c.args.file.now t _ _ f key values (rec_of (key, values))
      c.requires.can.tree.valid is refl done
      (λ n out. c.in_ok-take_own.ensures.others n after (λ e. cc) out
      ∙ ap (λ (maps : List LeafMap). map_at maps n) same));
  keeps = search rules;
  ends = search rules;
  block = search rules;
  not_full = search rules;
}
