use Rattle.std.proofs.Common.{rules, ◌<◌, ◌∙◌, List, length, sym, ap, subst}
use Rattle.std.specs.FinMap as fin
use Rattle.std.specs.Prelude.{IfSome, ◌≢◌}
use Rattle.gx_laws.proofs.ResultLemmas.{none_of}
use Rattle.gx_values.specs.declared.records.Rec.{Rec}
use Rattle.gx_mapping.specs.Rule.{In, IsOf}
use Rattle.gx_ports.specs.LeafMaps.{LeafMap, map_at}
use Rattle.gx_stack.specs.Seen.{tree_of}
use Rattle.gx_stack.specs.Internal.{IsSet, IsInternal as IsHeld}
use Rattle.gx_types.specs.Any.{any_rule}
use Rattle.gx_scan.specs.Files.{file_records}
use Rattle.gx_scan.proofs.FileLemmas.{set_of, row_fits}
use Rattle.gx_model.specs.Commands.{key_exists}
use Rattle.gx_edits.proofs.ChangeLemmas.{is_insert}
use Rattle.gx_edits.proofs.RecordLemmas.{missing, is_done, insert_edit, crowded_same}
use Rattle.gx_entries.specs.Entries.{AreOwnLeaves}
use Rattle.gx_edits.proofs.records.insert_record.Goals as goal

pub replace-requires-clause-below : goal.replace-requires-clause-below
replace-requires-clause-below g c =
    λ n h. subst (λ (maps : List LeafMap). n < length maps)
    (sym c.find_values.ensures.reads.reads.working) (c.requires.can.tree.below n h)

pub replace-requires-clause-new_fits : goal.replace-requires-clause-new_fits
replace-requires-clause-new_fits g c =
    let new = c.in_ok-new.ensures in
    subst (λ form. IsOf form c.in_ok-new.new) (sym c.requires.can.tree.form)
    (subst (IsOf _) (sym new) (row_fits c.args.file.now (c.args.key, c.args.values)
    c.requires.can.storable.keyed (c.requires.can.key_fits, c.requires.values)))

pub returns-in_err-replace : goal.returns-in_err-replace
returns-in_err-replace g c = record {
  inserted = search rules;
  keeps = search rules;
  ends = search rules;
  block = search rules;
  full = λ f whole is e.
      let t = tree_of c.args.node.now in
      let none = none_of (fin.get f c.args.key)
      (missing f c.args.key c.in_ok-find_values.field-0 _
      (c.in_ok-find_values.ensures.found f whole is) (c.is_some.ensures) c.if-is_some.false) in
      let new = c.in_ok-new.ensures in
      let full = c.replace.ensures.replaces.full
      (c.in_ok-find_values.ensures.reads.ends.whole whole) (search rules) in (
        none,
        crowded_same (g.B.View.limit c.args.leaves.now)
            (g.B.View.limit c.find_values.new.leaves) (g.B.View.working c.args.leaves.now)
            (g.B.View.working c.find_values.new.leaves) t (c.args.key, c.args.values)
            c.in_ok-new.new
            c.find_values.ensures.reads.reads.limit c.find_values.ensures.reads.reads.working new
            full,
      );
}

pub returns : goal.returns
returns g c = record {
  inserted = λ f whole is.
      let t = tree_of c.args.node.now in
      let same = c.find_values.ensures.reads.reads.working in
      let absent = missing f c.args.key c.in_ok-find_values.field-0 _
      (c.in_ok-find_values.ensures.found f whole is) (c.is_some.ensures) c.if-is_some.false in
      let none = none_of (fin.get f c.args.key) absent in
      let after = c.in_ok-find_values.ensures.reads.ends.whole whole in
      let new = c.in_ok-new.ensures in
      let set = subst (λ form. IsSet form (file_records f)) (sym c.requires.can.tree.form)
      (set_of c.args.file.now f c.requires.can.storable.keyed is.fit) in
      let held = subst (λ (maps : List LeafMap). IsHeld any_rule t (file_records f) maps) (sym same)
      is.held in
      let change = subst (λ (r : Rec). (q : Rec) → In q (file_records f) → q.key ≢ r.key) (sym new)
      (is_insert f c.args.key c.args.values none) in
      let done = c.in_ok-replace.ensures.internal (file_records f) after set change held in
      is_done c.args.file.now t _ _ f _ key_exists _ absent
      (insert_edit c.args.file.now t _ _ f c.args.key c.args.values c.in_ok-new.new
      c.requires.can.tree.valid c.requires.can.key_fits c.requires.values is none new done
      (λ n out. c.in_ok-replace.ensures.replaces.others n after (λ e. cc) out
      ∙ ap (λ (maps : List LeafMap). map_at maps n) same));
  keeps = search rules;
  ends = search rules;
  block = search rules;
  full = search rules;
}

-- ---- a record in its own leaves

pub insert_own-requires-clause-own : goal.insert_own-requires-clause-own
insert_own-requires-clause-own g c =
    subst (λ o. IfSome o (λ own. AreOwnLeaves (tree_of c.args.node.now) own.first own.second))
    c.in-Some.is c.own_leaves.ensures
