use Rattle.std.proofs.Common.{rules, ◌∙◌, sym, ap, subst, append-nil}
use Rattle.std.proofs.lemmas.Result.{on_ok_weaker}
use Rattle.gx_values.specs.Keys.{bytes_of, key_of}
use Rattle.gx_mapping.specs.Rule.{In}
use Rattle.gx_stack.specs.Tree.{leaves_of}
use Rattle.gx_stack.specs.Seen.{tree_of}
use Rattle.gx_entries.proofs.OneLemmas.{only_in_tree}
use Rattle.gx_edits.proofs.AloneLemmas.{alone_removed}
use Rattle.gx_edits.proofs.alone.take_alone.Goals as goal

pub remove-requires-clause-leaf : goal.remove-requires-clause-leaf
remove-requires-clause-leaf g c =
    c.requires.can.below c.args.leaf
    (only_in_tree (tree_of c.args.node.now) c.args.leaf c.requires.only)

pub returns : goal.returns
returns g c = record {
  internal = λ R old whole same set there held.
      let t = tree_of c.args.node.now in
      let maps = g.B.View.working c.args.leaves.now in
      on_ok_weaker c.remove.result (λ done. alone_removed t c.args.leaf c.requires.only
      c.requires.can.valid R set maps c.requires.can.below held old c.as_slice.result.now _ there
      (c.as_slice.ensures.value ∙ c.requires.can.bytes_are
      ∙ sym (append-nil (bytes_of c.args.key.now)) ∙ sym (ap key_of same)) done)
      (c.remove.ensures.ok whole);
  others = λ n whole fault away.
      let t = tree_of c.args.node.now in
      c.remove.ensures.edits.others whole fault n
      (λ is. away (subst (λ k. In k (leaves_of t)) (sym is)
      (only_in_tree t c.args.leaf c.requires.only)));
  keeps = search rules;
  ends = search rules;
  not_full = search rules;
}
