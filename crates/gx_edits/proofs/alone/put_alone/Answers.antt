use Rattle.std.proofs.Common.{rules, ◌≡◌, ◌+◌, ◌∙◌, ◌∷◌, [], length, inl, refl, sym, ap, subst, append-nil, arith}
use Rattle.std.proofs.lemmas.Result.{on_ok_weaker}
use Rattle.gx_values.specs.Keys.{bytes_of, key_of}
use Rattle.gx_ports.specs.LeafMaps.{with_entry, entry_count}
use Rattle.gx_mapping.specs.Rule.{In}
use Rattle.gx_stack.specs.declared.entries.LeafEntry.{LeafEntry}
use Rattle.gx_stack.specs.Tree.{leaves_of, entries_of}
use Rattle.gx_stack.specs.Seen.{tree_of}
use Rattle.gx_stack.proofs.Unique.{entries_small}
use Rattle.gx_types.specs.Any.{any_rule, any_laws}
use Rattle.gx_scan.specs.Files.{rec_of}
use Rattle.gx_states.proofs.CountLemmas.{crowded_more}
use Rattle.gx_entries.proofs.OneLemmas.{only_in_tree}
use Rattle.gx_edits.proofs.AloneLemmas.{alone_put}
use Rattle.gx_edits.proofs.alone.put_alone.Goals as goal

pub only_body-requires-clause-only : goal.only_body-requires-clause-only
only_body-requires-clause-only g c = (c.args.leaf, c.requires.only)

pub only_body-requires-clause-of_form : goal.only_body-requires-clause-of_form
only_body-requires-clause-of_form g c = (c.args.new.key.now ∷ [], c.requires.can.fits)

pub put-requires-clause-leaf : goal.put-requires-clause-leaf
put-requires-clause-leaf g c =
    c.requires.can.below c.args.leaf
    (only_in_tree (tree_of c.args.node.now) c.args.leaf c.requires.only)

pub put-requires-clause-entry : goal.put-requires-clause-entry
put-requires-clause-entry g c =
    let t = tree_of c.args.node.now in
    let key = c.args.new.key.now in
    let e : LeafEntry = record {
      leaf = c.args.leaf;
      key = key_of (key ∷ []);
      body =
          c.in_ok-body.body;
    } in
    let come = c.in_ok-body.ensures c.args.leaf (key ∷ []) c.requires.only in
    let small = entries_small any_rule any_laws t c.requires.can.valid
    (rec_of (key, c.args.new.fields)) c.requires.can.fits e (subst (In e) (sym come) (inl refl)) in
    let bytes : c.as_slice.result.now ≡ key_of (key ∷ []) = c.as_slice.ensures.value
    ∙ c.requires.can.bytes_are ∙ sym (append-nil (bytes_of key)) in
    omega (arith, small.1, ap length bytes, ap length c.as_slice-2.ensures)

pub returns : goal.returns
returns g c = record {
  internal = λ R old whole known set change held.
      let t = tree_of c.args.node.now in
      let maps = g.B.View.working c.args.leaves.now in
      let key = c.args.new.key.now in
      let come = c.in_ok-body.ensures c.args.leaf (key ∷ []) c.requires.only in
      let bytes : c.as_slice.result.now ≡ key_of (key ∷ []) = c.as_slice.ensures.value
      ∙ c.requires.can.bytes_are ∙ sym (append-nil (bytes_of key)) in
      on_ok_weaker c.put.result (λ done. alone_put t c.args.leaf c.requires.only
      c.requires.can.valid R set maps c.requires.can.below held old
      (rec_of (key, c.args.new.fields)) c.in_ok-body.body _ change c.requires.can.fits come
      (done ∙ (λ i. with_entry maps c.args.leaf (bytes i) (c.as_slice-2.ensures i))))
      (c.put.ensures.ok whole);
  others = λ n whole fault away.
      let t = tree_of c.args.node.now in
      c.put.ensures.edits.others whole fault n
      (λ is. away (subst (λ k. In k (leaves_of t)) (sym is)
      (only_in_tree t c.args.leaf c.requires.only)));
  keeps = search rules;
  ends = search rules;
  full = λ whole e.
      let limit = g.B.View.limit c.args.leaves.now in
      let count = entry_count (g.B.View.working c.args.leaves.now) in
      let new = rec_of (c.args.new.key.now, c.args.new.fields) in
      let come = entries_of any_rule (tree_of c.args.node.now) new in
      crowded_more limit count (count + length come) (omega arith) (c.put.ensures.full whole e);
}
