use Rattle.std.proofs.Common.{◌≡◌, ◌∙◌, List, ap, subst}
use Rattle.std.proofs.lemmas.List.{length-map}
use Rattle.std.proofs.lemmas.Result.{IfOk-weaker}
use Rattle.std.specs.Prelude.{length}
use Rattle.gx_values.specs.declared.records.Form.{Form}
use Rattle.gx_values.specs.declared.values.Value.{Value}
use Rattle.gx_values.specs.Values.{AreFit}
use Rattle.gx_values.specs.Keys.{key_of, is_inside}
use Rattle.gx_stack.specs.Seen.{tree_of}
use Rattle.gx_stack.proofs.PassLemmas.{reads_weaker}
use Rattle.gx_links.specs.Links.{members_of}
use Rattle.gx_links.specs.Rows.{node_rows}
use Rattle.gx_links.specs.Spans.{begins_with}
use Rattle.gx_lists.specs.Inverted.{pair_rec, inverted_rows}
use Rattle.gx_lists.proofs.InvertedLemmas.{down_leaf, down_set, down_has_set, pairs_found, members_steps}
use Rattle.gx_lists.proofs.inverted.Inverted.count_members.Goals as goal

pub count_within-requires-clause-below : goal.count_within-requires-clause-below
count_within-requires-clause-below g c = λ n h. c.requires.below n
    (down_leaf g.M.Mapping.rule (tree_of c.args.self.now.down.now) (tree_of c.args.self.now.up.now)
    c.requires.valid n h)

pub returns-clause-count : goal.returns-clause-count
returns-clause-count g c =
    let rule = g.M.Mapping.rule in
    let down = tree_of c.args.self.now.down.now in
    let up = tree_of c.args.self.now.up.now in
    let valid = c.requires.valid in
    let owner = c.args.owner.now in
    let span = c.value_span-span.result in
    let those = subst (λ (form : Form). (key : List Value) → AreFit form.keys key
    → is_inside span.lo span.hi (key_of key) ≡ begins_with owner key) c.form.ensures
    c.value_span-span.ensures.those in
    IfOk-weaker c.count_within.result _ _ (λ n count. record {
      counted = λ w link is held.
          let at = count w (node_rows inverted_rows link 0) (down_set rule down up valid link is)
          held.0 in
          at.counted ∙ ap length (pairs_found rule down up valid link owner span at.found is those
          at.selected)
          ∙ length-map (members_of link owner) (pair_rec owner);
      few_steps = λ w link is held.
          let at = count w (node_rows inverted_rows link 0) (down_set rule down up valid link is)
          held.0 in
          members_steps rule down up valid link owner at.found _ _ 0
          (pairs_found rule down up valid link owner span at.found is those at.selected)
          at.few_steps;
    }) c.count_within.ensures.count

pub returns-clause-reads : goal.returns-clause-reads
returns-clause-reads g c =
    let down = tree_of c.args.self.now.down.now in
    let up = tree_of c.args.self.now.up.now in
    let held = down_has_set g.M.Mapping.rule down up c.requires.valid
    (g.B.View.working c.args.leaves.now) in
    reads_weaker g.B.View (λ s. (s.0, held s.1)) c.count_within.ensures.reads
