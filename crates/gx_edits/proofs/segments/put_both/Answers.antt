use Rattle.std.proofs.Common.{rules, ◌≡◌, ◌+◌, ◌∙◌, ◌∷◌, [], ℕ, length, inl, inr, refl, sym, ap, subst, append-nil, arith}
use Rattle.std.proofs.lemmas.Result.{on_ok_weaker}
use Rattle.std.specs.Prelude.{if◌then◌else◌}
use Rattle.gx_values.specs.Keys.{bytes_of, key_of}
use Rattle.gx_ports.specs.LeafMaps.{with_entry, without_entry, entry_count}
use Rattle.gx_mapping.specs.Rule.{In}
use Rattle.gx_stack.specs.declared.entries.LeafEntry.{LeafEntry}
use Rattle.gx_stack.specs.Tree.{leaves_of, entries_of}
use Rattle.gx_stack.specs.Seen.{tree_of}
use Rattle.gx_stack.proofs.Unique.{entries_small}
use Rattle.gx_types.specs.Any.{any_rule, any_laws}
use Rattle.gx_scan.specs.Files.{rec_of}
use Rattle.gx_states.proofs.CountLemmas.{crowded_more}
use Rattle.gx_entries.specs.Entries.{AreBodies}
use Rattle.gx_edits.specs.OneRecord.{has_record}
use Rattle.gx_entries.proofs.TwoLemmas.{first_in_tree, second_in_tree}
use Rattle.gx_edits.proofs.SegmentLemmas.{short_put, each_put}
use Rattle.gx_edits.proofs.segments.put_both.Goals as goal

pub put_short-requires-clause-first : goal.put_short-requires-clause-first
put_short-requires-clause-first g c =
    c.requires.can.below c.args.first
    (first_in_tree (tree_of c.args.node.now) c.args.first c.args.second c.requires.two)

pub put_short-requires-clause-second : goal.put_short-requires-clause-second
put_short-requires-clause-second g c =
    c.requires.can.below c.args.second
    (second_in_tree (tree_of c.args.node.now) c.args.first c.args.second c.requires.two)

pub put_short-requires-clause-entry : goal.put_short-requires-clause-entry
put_short-requires-clause-entry g c =
    let t = tree_of c.args.node.now in
    let key = c.args.new.key.now in
    let e : LeafEntry = record {
      leaf = c.args.first;
      key = key_of (key ∷ []);
      body =
          c.in_ok-body.body;
    } in
    let come = c.in_ok-body.ensures c.args.first c.args.second (key ∷ []) c.requires.two in
    let small = entries_small any_rule any_laws t c.requires.can.valid
    (rec_of (key, c.args.new.fields)) c.requires.can.fits e (subst (In e) (sym come) (inl refl)) in
    let bytes : c.args.new.bytes.now ≡ key_of (key ∷ []) = c.requires.can.bytes_are
    ∙ sym (append-nil (bytes_of key)) in
    omega (arith, small.1, ap length bytes)

pub returns-in-None : goal.returns-in-None
returns-in-None g c = record {
  internal = λ R old whole there set change held.
      let t = tree_of c.args.node.now in
      let maps = g.B.View.working c.args.leaves.now in
      let key = c.args.new.key.now in
      let come = subst (λ other. AreBodies t c.args.new.fields c.in_ok-body.body other) c.in-None.is
      c.in_ok-body.ensures c.args.first c.args.second (key ∷ []) c.requires.two in
      let bytes : c.args.new.bytes.now ≡ key_of (key ∷ []) = c.requires.can.bytes_are
      ∙ sym (append-nil (bytes_of key)) in
      on_ok_weaker c.put_short.result
      (λ done. short_put t c.args.first c.args.second c.requires.two c.requires.can.valid R set maps
      c.requires.can.below held old (rec_of (key, c.args.new.fields)) c.in_ok-body.body
      (has_record c.args.previous) _ there change c.requires.can.fits come
      (done ∙ (λ i. with_entry (if has_record c.args.previous then without_entry maps c.args.second
      (bytes i) else maps) c.args.first (bytes i) c.in_ok-body.body)))
      (c.put_short.ensures.done whole);
  others = λ n whole fault away.
      let t = tree_of c.args.node.now in
      c.put_short.ensures.others n whole fault
      (λ is. away (subst (λ (i : ℕ). In i (leaves_of t)) (sym is)
      (first_in_tree t c.args.first c.args.second c.requires.two)))
      (λ is. away (subst (λ (i : ℕ). In i (leaves_of t)) (sym is)
      (second_in_tree t c.args.first c.args.second c.requires.two)));
  keeps = search rules;
  ends = search rules;
  full = λ whole e.
      let limit = g.B.View.limit c.args.leaves.now in
      let count = entry_count (g.B.View.working c.args.leaves.now) in
      let new = rec_of (c.args.new.key.now, c.args.new.fields) in
      let come = entries_of any_rule (tree_of c.args.node.now) new in
      crowded_more limit count (count + length come) (omega arith)
      (c.put_short.ensures.full whole e);
}

pub put_each-requires-clause-first : goal.put_each-requires-clause-first
put_each-requires-clause-first g c =
    c.requires.can.below c.args.first
    (first_in_tree (tree_of c.args.node.now) c.args.first c.args.second c.requires.two)

pub put_each-requires-clause-second : goal.put_each-requires-clause-second
put_each-requires-clause-second g c =
    c.requires.can.below c.args.second
    (second_in_tree (tree_of c.args.node.now) c.args.first c.args.second c.requires.two)

pub put_each-requires-clause-entry : goal.put_each-requires-clause-entry
put_each-requires-clause-entry g c =
    let t = tree_of c.args.node.now in
    let key = c.args.new.key.now in
    let e : LeafEntry = record {
      leaf = c.args.first;
      key = key_of (key ∷ []);
      body =
          c.in_ok-body.body;
    } in
    let come = c.in_ok-body.ensures c.args.first c.args.second (key ∷ []) c.requires.two in
    let small = entries_small any_rule any_laws t c.requires.can.valid
    (rec_of (key, c.args.new.fields)) c.requires.can.fits e (subst (In e) (sym come) (inl refl)) in
    let bytes : c.args.new.bytes.now ≡ key_of (key ∷ []) = c.requires.can.bytes_are
    ∙ sym (append-nil (bytes_of key)) in
    omega (arith, small.1, ap length bytes)

pub put_each-requires-clause-other : goal.put_each-requires-clause-other
put_each-requires-clause-other g c =
    let t = tree_of c.args.node.now in
    let key = c.args.new.key.now in
    let e : LeafEntry = record {
      leaf = c.args.second;
      key = key_of (key ∷ []);
      body =
          c.in-Some.other;
    } in
    let come = subst (λ other. AreBodies t c.args.new.fields c.in_ok-body.body other) c.in-Some.is
    c.in_ok-body.ensures c.args.first c.args.second (key ∷ []) c.requires.two in
    let small = entries_small any_rule any_laws t c.requires.can.valid
    (rec_of (key, c.args.new.fields)) c.requires.can.fits e
    (subst (In e) (sym come) (inr (inl refl))) in
    let bytes : c.args.new.bytes.now ≡ key_of (key ∷ []) = c.requires.can.bytes_are
    ∙ sym (append-nil (bytes_of key)) in
    omega (arith, small.1, ap length bytes)

pub returns : goal.returns
returns g c = record {
  internal = λ R old whole there set change held.
      let t = tree_of c.args.node.now in
      let maps = g.B.View.working c.args.leaves.now in
      let key = c.args.new.key.now in
      let come = subst (λ other. AreBodies t c.args.new.fields c.in_ok-body.body other) c.in-Some.is
      c.in_ok-body.ensures c.args.first c.args.second (key ∷ []) c.requires.two in
      let bytes : c.args.new.bytes.now ≡ key_of (key ∷ []) = c.requires.can.bytes_are
      ∙ sym (append-nil (bytes_of key)) in
      on_ok_weaker c.put_each.result
      (λ done. each_put t c.args.first c.args.second c.requires.two c.requires.can.valid R set maps
      c.requires.can.below held old (rec_of (key, c.args.new.fields)) c.in_ok-body.body
      c.in-Some.other _ change c.requires.can.fits come
      (done ∙ (λ i. with_entry (with_entry maps c.args.first (bytes i) c.in_ok-body.body)
      c.args.second (bytes i) c.in-Some.other))) (c.put_each.ensures.done whole);
  others = λ n whole fault away.
      let t = tree_of c.args.node.now in
      c.put_each.ensures.others n whole fault
      (λ is. away (subst (λ (i : ℕ). In i (leaves_of t)) (sym is)
      (first_in_tree t c.args.first c.args.second c.requires.two)))
      (λ is. away (subst (λ (i : ℕ). In i (leaves_of t)) (sym is)
      (second_in_tree t c.args.first c.args.second c.requires.two)));
  keeps = search rules;
  ends = search rules;
  full = λ whole e.
      let limit = g.B.View.limit c.args.leaves.now in
      let count = entry_count (g.B.View.working c.args.leaves.now) in
      let key = c.args.new.key.now in
      let t = tree_of c.args.node.now in
      let fields = c.args.new.fields in
      let are = subst (λ other. AreBodies t fields c.in_ok-body.body other) c.in-Some.is
      c.in_ok-body.ensures in
      let come = are c.args.first c.args.second (key ∷ []) c.requires.two in
      let after = count + length (entries_of any_rule t (rec_of (key, fields))) in
      crowded_more limit (count + 1) after (omega (arith, ap length come))
      (c.put_each.ensures.full whole e);
}
