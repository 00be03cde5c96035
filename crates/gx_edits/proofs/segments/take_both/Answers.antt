use Rattle.std.proofs.Common.{rules, ◌≡◌, ◌∙◌, ℕ, Err, sym, ap, subst, append-nil, arith}
use Rattle.std.proofs.lemmas.Result.{on_ok_weaker, err_from_is_err_and}
use Rattle.gx_values.specs.Keys.{bytes_of, key_of}
use Rattle.gx_ports.specs.LeafMaps.{without_entry}
use Rattle.gx_mapping.specs.Rule.{In}
use Rattle.gx_stack.specs.Tree.{leaves_of}
use Rattle.gx_stack.specs.Seen.{tree_of}
use Rattle.gx_entries.proofs.TwoLemmas.{first_in_tree, second_in_tree}
use Rattle.gx_edits.proofs.SegmentLemmas.{both_removed}
use Rattle.gx_edits.proofs.segments.take_both.Goals as goal

pub remove-requires-clause-leaf : goal.remove-requires-clause-leaf
remove-requires-clause-leaf g c =
    c.requires.can.below c.args.second
    (second_in_tree (tree_of c.args.node.now) c.args.first c.args.second c.requires.two)

pub returns-in_err-remove : goal.returns-in_err-remove
returns-in_err-remove g c = record {
  internal = search rules;
  others = λ n whole fault away.
      let t = tree_of c.args.node.now in
      let p = err_from_is_err_and c.from_residual.result c.from_residual.ensures.1 in
      c.in_err-remove.ensures.edits.others whole (λ f. fault (p.1 ∙ ap Err p.2 ∙ f)) n
      (λ is. away (subst (λ (i : ℕ). In i (leaves_of t)) (sym is)
      (second_in_tree t c.args.first c.args.second c.requires.two)));
  keeps = search rules;
  ends = search rules;
  not_full = search rules;
}

pub remove-requires-2-clause-leaf : goal.remove-requires-2-clause-leaf
remove-requires-2-clause-leaf g c =
    omega (
      arith,
      c.in_ok-remove.ensures.edits.keeps.leaves,
      c.requires.can.below c.args.first
          (first_in_tree (tree_of c.args.node.now) c.args.first c.args.second c.requires.two),
    )

pub returns : goal.returns
returns g c = record {
  internal = λ R old whole same set there held.
      let t = tree_of c.args.node.now in
      let maps = g.B.View.working c.args.leaves.now in
      let gone = c.in_ok-remove.ensures in
      let key : c.as_slice-2.result.now ≡ key_of old.key = c.as_slice-2.ensures.value
      ∙ c.requires.can.bytes_are ∙ sym (append-nil (bytes_of c.args.key.now))
      ∙ sym (ap key_of same) in
      let both : c.as_slice.result.now ≡ c.as_slice-2.result.now = c.as_slice.ensures.value
      ∙ sym c.as_slice-2.ensures.value in
      on_ok_weaker c.remove-2.result
      (λ done. both_removed t c.args.first c.args.second c.requires.two c.requires.can.valid R set
      maps c.requires.can.below held old c.as_slice-2.result.now _ there key
      (done ∙ ap (λ ms. without_entry ms c.args.first c.as_slice-2.result.now)
      (gone.ok whole ∙ ap (without_entry maps c.args.second) both)))
      (c.remove-2.ensures.ok (gone.edits.ends.whole whole));
  others = λ n whole fault away.
      let t = tree_of c.args.node.now in
      let gone = c.in_ok-remove.ensures in
      c.remove-2.ensures.edits.others (gone.edits.ends.whole whole) fault n
      (λ is. away (subst (λ (i : ℕ). In i (leaves_of t)) (sym is)
      (first_in_tree t c.args.first c.args.second c.requires.two)))
      ∙ gone.edits.others whole (λ f. cc) n
      (λ is. away (subst (λ (i : ℕ). In i (leaves_of t)) (sym is)
      (second_in_tree t c.args.first c.args.second c.requires.two)));
  keeps = search rules;
  ends = search rules;
  not_full = search rules;
}
