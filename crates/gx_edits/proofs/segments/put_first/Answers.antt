use Rattle.std.proofs.Common.{rules, ◌≡◌, ◌+◌, ◌∙◌, ◌∷◌, [], ℕ, length, sym, ap, subst, append-nil, arith}
use Rattle.std.proofs.lemmas.Result.{on_ok_weaker}
use Rattle.gx_values.specs.Keys.{bytes_of, key_of}
use Rattle.gx_ports.specs.LeafMaps.{with_entry, entry_count}
use Rattle.gx_mapping.specs.Rule.{In}
use Rattle.gx_stack.specs.declared.entries.LeafEntry.{LeafEntry}
use Rattle.gx_stack.specs.Tree.{leaves_of, entries_of}
use Rattle.gx_stack.specs.Seen.{tree_of}
use Rattle.gx_stack.proofs.Unique.{entries_small}
use Rattle.gx_types.specs.Any.{any_rule, any_laws}
use Rattle.gx_scan.specs.Files.{rec_of}
use Rattle.gx_states.proofs.CountLemmas.{crowded_more}
use Rattle.gx_entries.proofs.TwoLemmas.{first_in_tree}
use Rattle.gx_edits.proofs.SegmentLemmas.{first_put}
use Rattle.gx_edits.proofs.segments.put_first.Goals as goal

pub put-requires-clause-leaf : goal.put-requires-clause-leaf
put-requires-clause-leaf g c =
    c.requires.can.below c.args.first
    (first_in_tree (tree_of c.args.node.now) c.args.first c.args.second c.requires.two)

pub put-requires-clause-entry : goal.put-requires-clause-entry
put-requires-clause-entry g c =
    let t = tree_of c.args.node.now in
    let key = c.args.new.key.now in
    let e : LeafEntry = record {
      leaf = c.args.first;
      key = key_of (key ∷ []);
      body =
          c.in_ok-body.body;
    } in
    let among = c.in_ok-body.ensures c.args.first c.args.second (key ∷ []) c.requires.two in
    let small = entries_small any_rule any_laws t c.requires.can.valid
    (rec_of (key, c.args.new.fields)) c.requires.can.fits e among in
    let bytes : c.as_slice.result.now ≡ key_of (key ∷ []) = c.as_slice.ensures.value
    ∙ c.requires.can.bytes_are ∙ sym (append-nil (bytes_of key)) in
    omega (arith, small.1, ap length bytes, ap length c.as_slice-2.ensures)

pub returns : goal.returns
returns g c = record {
  internal = λ R old whole stay set change held.
      let t = tree_of c.args.node.now in
      let maps = g.B.View.working c.args.leaves.now in
      let key = c.args.new.key.now in
      let among = c.in_ok-body.ensures c.args.first c.args.second (key ∷ []) c.requires.two in
      let bytes : c.as_slice.result.now ≡ key_of (key ∷ []) = c.as_slice.ensures.value
      ∙ c.requires.can.bytes_are ∙ sym (append-nil (bytes_of key)) in
      on_ok_weaker c.put.result (λ done. first_put t c.args.first c.args.second c.requires.two
      c.requires.can.valid R set maps c.requires.can.below held old
      (rec_of (key, c.args.new.fields)) c.in_ok-body.body _ stay change c.requires.can.fits among
      (done ∙ (λ i. with_entry maps c.args.first (bytes i) (c.as_slice-2.ensures i))))
      (c.put.ensures.ok whole);
  others = λ n whole fault away.
      let t = tree_of c.args.node.now in
      c.put.ensures.edits.others whole fault n
      (λ is. away (subst (λ (i : ℕ). In i (leaves_of t)) (sym is)
      (first_in_tree t c.args.first c.args.second c.requires.two)));
  keeps = search rules;
  ends = search rules;
  full = λ whole e.
      let limit = g.B.View.limit c.args.leaves.now in
      let count = entry_count (g.B.View.working c.args.leaves.now) in
      let new = rec_of (c.args.new.key.now, c.args.new.fields) in
      let come = entries_of any_rule (tree_of c.args.node.now) new in
      crowded_more limit count (count + length come) (omega arith) (c.put.ensures.full whole e);
}
