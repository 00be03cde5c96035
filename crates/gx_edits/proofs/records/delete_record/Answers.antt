use Rattle.std.proofs.Common.{rules, ◌≡◌, ◌<◌, ◌∙◌, List, Some, length, sym, ap, subst}
use Rattle.std.specs.Prelude.{IfSome, not, is_some}
use Rattle.std.specs.FinMap as fin
use Rattle.gx_values.specs.declared.records.Rec.{Rec}
use Rattle.gx_values.specs.Values.{AreFit}
use Rattle.gx_schema.specs.Lookups.{data_fields}
use Rattle.gx_mapping.specs.Rule.{In, IsOf}
use Rattle.gx_ports.specs.LeafMaps.{LeafMap, map_at}
use Rattle.gx_stack.specs.Seen.{tree_of}
use Rattle.gx_stack.specs.Internal.{IsSet, IsInternal as IsHeld}
use Rattle.gx_types.specs.Any.{any_rule}
use Rattle.gx_scan.specs.Files.{file_records}
use Rattle.gx_scan.proofs.FileLemmas.{set_of, there_in, row_fits}
use Rattle.gx_model.specs.Commands.{no_record}
use Rattle.gx_entries.specs.Entries.{AreOwnLeaves}
use Rattle.gx_edits.proofs.RecordLemmas.{is_done, delete_edit}
use Rattle.gx_edits.proofs.records.delete_record.Goals as goal

pub replace-requires-clause-below : goal.replace-requires-clause-below
replace-requires-clause-below g c =
    λ n h. subst (λ (maps : List LeafMap). n < length maps)
    (sym c.find_values.ensures.reads.reads.working) (c.requires.can.tree.below n h)

pub replace-requires-clause-old_fits : goal.replace-requires-clause-old_fits
replace-requires-clause-old_fits g c =
    let file = c.args.file.now in
    let values = c.in-Some-2.values in
    let fits = subst (λ o. IfSome o (AreFit (data_fields file))) c.in-Some-2.is
    c.in_ok-values.ensures.fits in
    subst (λ form. IsOf form c.in_ok-old.old) (sym c.requires.can.tree.form)
    (subst (IsOf _) (sym c.in_ok-old.ensures)
    (row_fits file (c.args.key, values) c.requires.can.storable.keyed
    (c.requires.can.key_fits, fits)))

pub returns : goal.returns
returns g c = record {
  deleted = λ f whole is.
      let t = tree_of c.args.node.now in
      let same = c.find_values.ensures.reads.reads.working in
      let key = c.args.key in
      let values = c.in-Some-2.values in
      let was = c.in_ok-old.ensures in
      let there : fin.get f key ≡ Some values = sym
      (sym c.in-Some-2.is ∙ c.in_ok-values.ensures.found f whole is) in
      let after = c.in_ok-values.ensures.reads.ends.whole whole in
      let set = subst (λ form. IsSet form (file_records f)) (sym c.requires.can.tree.form)
      (set_of c.args.file.now f c.requires.can.storable.keyed is.fit) in
      let held = subst (λ (maps : List LeafMap). IsHeld any_rule t (file_records f) maps) (sym same)
      is.held in
      let done = c.in_ok-replace.ensures.internal (file_records f) after set
      (subst (λ (r : Rec). In r (file_records f)) (sym was) (there_in f key values there)) held in
      is_done c.args.file.now t _ _ f _ no_record _ (ap (λ o. not (is_some o)) there)
      (delete_edit c.args.file.now t _ _ f key values c.in_ok-old.old c.requires.can.tree.valid is
      was done (λ n out. c.in_ok-replace.ensures.replaces.others n after (λ e. cc) out
      ∙ ap (λ (maps : List LeafMap). map_at maps n) same));
  keeps = search rules;
  ends = search rules;
  block = search rules;
  not_full = search rules;
}

-- ---- records in their own leaves

pub delete_own-requires-clause-own : goal.delete_own-requires-clause-own
delete_own-requires-clause-own g c =
    subst (λ o. IfSome o (λ own. AreOwnLeaves (tree_of c.args.node.now) own.first own.second))
    c.in-Some.is c.own_leaves.ensures
