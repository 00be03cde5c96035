use Rattle.std.proofs.Common.{rules, ◌<◌, ◌∙◌, List, None, length, refl, sym, ap, subst}
use Rattle.std.specs.FinMap as fin
use Rattle.gx_laws.proofs.ResultLemmas.{none_of}
use Rattle.gx_mapping.specs.Rule.{IsOf}
use Rattle.gx_ports.specs.LeafMaps.{LeafMap, map_at}
use Rattle.gx_stack.specs.Seen.{tree_of}
use Rattle.gx_stack.specs.Internal.{IsSet, IsInternal as IsHeld}
use Rattle.gx_types.specs.Any.{any_rule}
use Rattle.gx_scan.specs.Files.{rec_of, file_records}
use Rattle.gx_scan.proofs.FileLemmas.{set_of, row_fits}
use Rattle.gx_model.specs.States.{Row}
use Rattle.gx_model.specs.Commands.{key_exists}
use Rattle.gx_edits.proofs.ChangeLemmas.{is_insert}
use Rattle.gx_edits.proofs.RecordLemmas.{is_done, insert_edit, crowded_same}
use Rattle.gx_edits.proofs.records.insert_own.Goals as goal

pub put_own-requires-clause-can : goal.put_own-requires-clause-can
put_own-requires-clause-can g c =
    let row : Row = (c.args.key.now, c.args.values) in
    record {
      valid = c.requires.can.tree.valid;
      below = λ n h. subst (λ (maps : List LeafMap). n < length maps)
          (sym c.is_there.ensures.reads.reads.working) (c.requires.can.tree.below n h);
      bytes_are = search rules;
      fits = subst (λ form. IsOf form (rec_of row)) (sym c.requires.can.tree.form)
          (row_fits c.args.file.now row c.requires.can.storable.keyed
          (c.requires.can.key_fits, c.requires.values));
    }

pub returns-in_err-put_own : goal.returns-in_err-put_own
returns-in_err-put_own g c = record {
  inserted = search rules;
  keeps = search rules;
  ends = search rules;
  block = search rules;
  full = λ f whole is e.
      let t = tree_of c.args.node.now in
      let row : Row = (c.args.key.now, c.args.values) in
      let none = none_of (fin.get f c.args.key.now)
      (sym (c.in_ok-is_there.ensures.there f whole is) ∙ c.if-branch.false) in
      let full = c.put_own.ensures.full (c.in_ok-is_there.ensures.reads.ends.whole whole)
      (search rules) in (
        none,
        crowded_same (g.B.View.limit c.args.leaves.now) (g.B.View.limit c.is_there.new.leaves)
            (g.B.View.working c.args.leaves.now) (g.B.View.working c.is_there.new.leaves) t row
            (rec_of row) c.is_there.ensures.reads.reads.limit c.is_there.ensures.reads.reads.working
            refl
            full,
      );
}

pub returns-in_ok-put_own : goal.returns-in_ok-put_own
returns-in_ok-put_own g c = record {
  inserted = λ f whole is.
      let t = tree_of c.args.node.now in
      let key = c.args.key.now in
      let values = c.args.values in
      let same = c.is_there.ensures.reads.reads.working in
      let absent = sym (c.in_ok-is_there.ensures.there f whole is) ∙ c.if-branch.false in
      let none = none_of (fin.get f key) absent in
      let after = c.in_ok-is_there.ensures.reads.ends.whole whole in
      let set = subst (λ form. IsSet form (file_records f)) (sym c.requires.can.tree.form)
      (set_of c.args.file.now f c.requires.can.storable.keyed is.fit) in
      let held = subst (λ (maps : List LeafMap). IsHeld any_rule t (file_records f) maps) (sym same)
      is.held in
      let done = c.in_ok-put_own.ensures.internal (file_records f) None after refl set
      (is_insert f key values none) held in
      is_done c.args.file.now t _ _ f _ key_exists _ absent
      (insert_edit c.args.file.now t _ _ f key values (rec_of (key, values))
      c.requires.can.tree.valid c.requires.can.key_fits c.requires.values is none refl done
      (λ n out. c.in_ok-put_own.ensures.others n after (λ e. cc) out
      ∙ ap (λ (maps : List LeafMap). map_at maps n) same));
  keeps = search rules;
  ends = search rules;
  block = search rules;
  full = search rules;
}
