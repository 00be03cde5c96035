use Rattle.std.proofs.Common.{rules, ◌≡◌, ◌∙◌, ◌++◌, Ok, List, refl, ap, subst}
use Rattle.gx_values.specs.declared.records.Form.{Form}
use Rattle.gx_values.specs.declared.records.Rec.{Rec}
use Rattle.gx_values.specs.declared.values.Value.{Value}
use Rattle.gx_values.specs.Values.{AreFit}
use Rattle.gx_values.specs.Keys.{key_of, is_inside}
use Rattle.gx_stack.specs.Seen.{tree_of}
use Rattle.gx_stack.proofs.PassLemmas.{read_passes, reads_given, reads_stopped}
use Rattle.gx_links.specs.Rows.{node_rows}
use Rattle.gx_links.specs.Spans.{begins_with}
use Rattle.gx_lists.specs.Arrays.{array_rows, first_body, AreCut, AreOfNone}
use Rattle.gx_lists.proofs.ArrayLemmas.{in_leaves, rows_set, array_has_set, rows_found, cut_same, cut_some, members_steps}
use Rattle.gx_lists.proofs.array.PointerArrayLinkset.members.Goals as goal

pub select-requires-clause-below : goal.select-requires-clause-below
select-requires-clause-below g c = λ n h. c.requires.below n
    (in_leaves g.M.Mapping.rule (tree_of c.args.self.now.tree.now) c.args.self.now.member
    c.requires.valid n h)

pub returns-in_err-select-clause-reads : goal.returns-in_err-select-clause-reads
returns-in_err-select-clause-reads g c =
    let maps = g.B.View.working c.args.leaves.now in
    let set = array_has_set g.M.Mapping.rule (tree_of c.args.self.now.tree.now)
    c.args.self.now.member c.requires.valid maps in
    reads_given g.B.View c.from_residual.result c.from_residual.ensures.1
    (λ s. (s.0, set s.1)) c.in_err-select.ensures.reads

pub returns-then-branch-clause-found : goal.returns-then-branch-clause-found
returns-then-branch-clause-found g c =
    let rule = g.M.Mapping.rule in
    let tree = tree_of c.args.self.now.tree.now in
    let kind = c.args.self.now.member in
    let owner = c.args.owner.now in
    let span = c.value_span-span.result in
    let found = c.in_ok-select.ensures.found in
    let now = found.appended ∙ ap (λ (before : List Rec). before ++ found.found) c.new-found.ensures
    in
    let view : c.deref.result.now ≡ c.select.new.out = search rules in
    let body = c.first_body.ensures ∙ ap first_body (view ∙ now) in
    let cut = subst (λ b. AreCut kind b c.args.out.now c.cut_members.new.out) body
    (c.in_ok-cut_members.ensures.yes (ap Ok c.if-branch.true)) in
    let those = subst (λ (form : Form). (key : List Value) → AreFit form.keys key
    → is_inside span.lo span.hi (key_of key) ≡ begins_with owner key) c.form.ensures
    c.value_span-span.ensures.those in
    record {
      found = cut.found;
      appended = cut.appended;
      fit = cut.fit;
      those = λ whole link is held. cut_same rule tree kind c.requires.valid link owner
          found.found _ _ is
          (rows_found rule tree kind c.requires.valid link owner span found.found is those
          (found.selected whole (node_rows array_rows link 0)
          (rows_set rule tree kind c.requires.valid link is) held.0)) cut;
      few_steps = λ whole link is held. members_steps rule tree kind c.requires.valid link owner
          found.found _ _
          (rows_found rule tree kind c.requires.valid link owner span found.found is those
          (found.selected whole (node_rows array_rows link 0)
          (rows_set rule tree kind c.requires.valid link is) held.0)) found.few_steps;
    }

pub returns-clause-reads : goal.returns-clause-reads
returns-clause-reads g c =
    let rule = g.M.Mapping.rule in
    let tree = tree_of c.args.self.now.tree.now in
    let kind = c.args.self.now.member in
    let owner = c.args.owner.now in
    let span = c.value_span-span.result in
    let found = c.in_ok-select.ensures.found in
    let now = found.appended ∙ ap (λ (before : List Rec). before ++ found.found) c.new-found.ensures
    in
    let view : c.deref.result.now ≡ c.select.new.out = search rules in
    let body = c.first_body.ensures ∙ ap first_body (view ∙ now) in
    let none = subst (λ b. AreOfNone kind b) body
    (c.in_ok-cut_members.ensures.no (ap Ok c.if-branch.false)) in
    let those = subst (λ (form : Form). (key : List Value) → AreFit form.keys key
    → is_inside span.lo span.hi (key_of key) ≡ begins_with owner key) c.form.ensures
    c.value_span-span.ensures.those in
    reads_stopped g.B.View _ refl
    (λ sound.
    let link = sound.1.0 in
    let is = sound.1.1 in
    let set = rows_set rule tree kind c.requires.valid link is in
    let here = found.selected sound.0 (node_rows array_rows link 0) set sound.1.2.0 in
    let rows = rows_found rule tree kind c.requires.valid link owner span found.found is those here
    in
    cut_some rule tree kind c.requires.valid link owner found.found is rows none)
    (read_passes g.B.View c.in_ok-select.ensures.reads)
