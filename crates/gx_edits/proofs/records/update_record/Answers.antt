use Rattle.std.proofs.Common.{rules, ◌≡◌, ◌<◌, ◌∙◌, List, Some, length, refl, sym, ap, subst}
use Rattle.std.specs.Prelude.{IfSome, not, is_some}
use Rattle.std.specs.FinMap as fin
use Rattle.gx_values.specs.declared.values.Value.{Value}
use Rattle.gx_values.specs.declared.records.Rec.{Rec}
use Rattle.gx_values.specs.Values.{AreFit}
use Rattle.gx_schema.specs.Lookups.{data_fields}
use Rattle.gx_mapping.specs.Rule.{In, IsOf}
use Rattle.gx_ports.specs.LeafMaps.{LeafMap, map_at}
use Rattle.gx_stack.specs.Seen.{tree_of}
use Rattle.gx_stack.specs.Internal.{IsSet, IsInternal as IsHeld}
use Rattle.gx_types.specs.Any.{any_rule}
use Rattle.gx_typing.specs.Dues.{file_form}
use Rattle.gx_model.specs.States.{Row}
use Rattle.gx_model.specs.Commands.{with_changes, no_record}
use Rattle.gx_scan.specs.Files.{rec_of, file_records}
use Rattle.gx_scan.proofs.FileLemmas.{set_of, there_in, row_fits}
use Rattle.gx_entries.specs.Entries.{AreOwnLeaves}
use Rattle.gx_edits.specs.OneRecord.{StandsBefore}
use Rattle.gx_edits.specs.Records.{IsEdited}
use Rattle.gx_edits.proofs.RecordLemmas.{is_done, update_edit, updated_is, rec_made}
use Rattle.gx_edits.proofs.records.update_record.Goals as goal

pub entries_of-requires-clause-of_form : goal.entries_of-requires-clause-of_form
entries_of-requires-clause-of_form g c =
    let file = c.args.file.now in
    let values = c.in-Some.values in
    let fits = subst (λ o. IfSome o (AreFit (data_fields file))) c.in-Some.is
    c.in_ok-values.ensures.fits in
    subst (λ form. IsOf form c.in_ok-old.old) (sym c.requires.can.tree.form)
    (subst (IsOf _) (sym c.in_ok-old.ensures)
    (row_fits file (c.args.key, values) c.requires.can.storable.keyed
    (c.requires.can.key_fits, fits)))

pub changed_record-new-requires-clause-old : goal.changed_record-new-requires-clause-old
changed_record-new-requires-clause-old g c =
    let file = c.args.file.now in
    let values = c.in-Some.values in
    let fits = subst (λ o. IfSome o (AreFit (data_fields file))) c.in-Some.is
    c.in_ok-values.ensures.fits in
    subst (IsOf (file_form file)) (sym c.in_ok-old.ensures)
    (row_fits file (c.args.key, values) c.requires.can.storable.keyed
    (c.requires.can.key_fits, fits))

pub replace_entries-requires-clause-below : goal.replace_entries-requires-clause-below
replace_entries-requires-clause-below g c =
    λ n h. subst (λ (maps : List LeafMap). n < length maps)
    (sym c.find_values.ensures.reads.reads.working) (c.requires.can.tree.below n h)

pub replace_entries-requires-clause-gone : goal.replace_entries-requires-clause-gone
replace_entries-requires-clause-gone g c =
    let file = c.args.file.now in
    let values = c.in-Some.values in
    let fits = subst (λ o. IfSome o (AreFit (data_fields file))) c.in-Some.is
    c.in_ok-values.ensures.fits in
    let of_form = subst (λ form. IsOf form c.in_ok-old.old) (sym c.requires.can.tree.form)
    (subst (IsOf _) (sym c.in_ok-old.ensures)
    (row_fits file (c.args.key, values) c.requires.can.storable.keyed
    (c.requires.can.key_fits, fits))) in
    (Some c.in_ok-old.old, of_form, c.deref.ensures.value ∙ c.in_ok-gone.ensures)

pub returns : goal.returns
returns g c = record {
  updated = λ f whole is.
      let file = c.args.file.now in
      let t = tree_of c.args.node.now in
      let same = c.find_values.ensures.reads.reads.working in
      let key = c.args.key in
      let values = c.in-Some.values in
      let changes = c.args.changes in
      let old = c.in_ok-old.old in
      let new = c.changed_record-new.result in
      let made = c.changed_record-new.ensures in
      let was = c.in_ok-old.ensures in
      let there : fin.get f key ≡ Some values = sym
      (sym c.in-Some.is ∙ c.in_ok-values.ensures.found f whole is) in
      let after = c.in_ok-values.ensures.reads.ends.whole whole in
      let is_new = rec_made old new key values changes was made.key made.fields in
      let set = subst (λ form. IsSet form (file_records f)) (sym c.requires.can.tree.form)
      (set_of file f c.requires.can.storable.keyed is.fit) in
      let held = subst (λ (maps : List LeafMap). IsHeld any_rule t (file_records f) maps) (sym same)
      is.held in
      let done = c.in_ok-replace_entries.ensures.internal (file_records f) (Some old) after
      (c.deref.ensures.value ∙ c.in_ok-gone.ensures) set (
        subst (λ (r : Rec). In r (file_records f)) (sym was) (there_in f key values there),
        sym
            made.key,
      ) held in
      is_done file t _ _ f _ no_record _ (ap (λ o. not (is_some o)) there)
      (subst (IsEdited file t _ _) (updated_is f key changes values (with_changes values changes)
      (sym there) refl)
      (update_edit file t _ _ f key values (with_changes values changes) old new
      c.requires.can.tree.valid c.requires.can.key_fits
      (subst (λ (r : Rec). AreFit (data_fields file) r.fields) is_new made.fits.fields) is was
      is_new done
      (λ n out. c.in_ok-replace_entries.ensures.replaces.others n after (λ e. cc) out
      ∙ ap (λ (maps : List LeafMap). map_at maps n) same)));
  keeps = search rules;
  ends = search rules;
  block = search rules;
  full = search rules;
}

-- ---- a record in its own leaves

pub changed_values-fields-requires-clause-values : goal.changed_values-fields-requires-clause-values
changed_values-fields-requires-clause-values g c =
    subst (λ o. IfSome o (AreFit (data_fields c.args.file.now))) c.in-Some.is
    c.in_ok-values.ensures.fits

pub put_own-requires-clause-can : goal.put_own-requires-clause-can
put_own-requires-clause-can g c =
    let row : Row = (c.args.key, c.changed_values-fields.result) in
    record {
      valid = c.requires.can.tree.valid;
      below = λ n h. subst (λ (maps : List LeafMap). n < length maps)
          (sym c.find_values.ensures.reads.reads.working) (c.requires.can.tree.below n h);
      bytes_are = search rules;
      fits = subst (λ form. IsOf form (rec_of row)) (sym c.requires.can.tree.form)
          (row_fits c.args.file.now row c.requires.can.storable.keyed
          (c.requires.can.key_fits, c.changed_values-fields.ensures.fits));
    }

pub put_own-requires-clause-own : goal.put_own-requires-clause-own
put_own-requires-clause-own g c =
    subst (λ o. IfSome o (λ own. AreOwnLeaves (tree_of c.args.node.now) own.first own.second))
    c.in-Some-own_leaves.is c.own_leaves.ensures

pub returns-in-Some-own_leaves : goal.returns-in-Some-own_leaves
returns-in-Some-own_leaves g c = record {
  updated = λ f whole is.
      let file = c.args.file.now in
      let t = tree_of c.args.node.now in
      let same = c.find_values.ensures.reads.reads.working in
      let key = c.args.key in
      let values = c.in-Some.values in
      let made = c.changed_values-fields.result in
      let changes_are = c.changed_values-fields.ensures.changed in
      let there : fin.get f key ≡ Some values =
      sym (sym c.in-Some.is ∙ c.in_ok-values.ensures.found f whole is) in
      let after = c.in_ok-values.ensures.reads.ends.whole whole in
      let set = subst (λ form. IsSet form (file_records f)) (sym c.requires.can.tree.form)
      (set_of file f c.requires.can.storable.keyed is.fit) in
      let held = subst (λ (maps : List LeafMap). IsHeld any_rule t (file_records f) maps) (sym same)
      is.held in
      let before = subst (λ (vs : List Value). StandsBefore c.before_changes-previous.result t vs
      (Some (rec_of (key, values)))) (sym changes_are)
      (c.before_changes-previous.ensures key values) in
      let done = c.in_ok-put_own.ensures.internal (file_records f) (Some (rec_of (key, values)))
      after before set (there_in f key values there, refl) held in
      is_done file t _ _ f _ no_record _ (ap (λ o. not (is_some o)) there)
      (subst (IsEdited file t _ _)
      (updated_is f key c.args.changes values made (sym there) changes_are)
      (update_edit file t _ _ f key values made (rec_of (key, values)) (rec_of (key, made))
      c.requires.can.tree.valid c.requires.can.key_fits c.changed_values-fields.ensures.fits is refl
      refl
      done
      (λ n out. c.in_ok-put_own.ensures.others n after (λ e. cc) out
      ∙ ap (λ (maps : List LeafMap). map_at maps n) same)));
  keeps = search rules;
  ends = search rules;
  block = search rules;
  full = search rules;
}
