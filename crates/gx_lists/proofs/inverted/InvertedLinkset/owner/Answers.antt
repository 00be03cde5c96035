use Rattle.std.proofs.Common.{◌≡◌, ◌∙◌, ◌++◌, List, sym, ap, subst}
use Rattle.std.specs.Prelude.{IfSome}
use Rattle.std.specs.FinMap as fin
use Rattle.gx_values.specs.declared.records.Form.{Form}
use Rattle.gx_values.specs.declared.records.Rec.{Rec}
use Rattle.gx_values.specs.declared.values.Value.{Value}
use Rattle.gx_values.specs.Values.{Fits, AreFit}
use Rattle.gx_values.specs.Keys.{key_of, is_inside}
use Rattle.gx_mapping.specs.Rule.{In}
use Rattle.gx_stack.specs.Seen.{tree_of}
use Rattle.gx_stack.proofs.PassLemmas.{reads_given}
use Rattle.gx_links.specs.Rows.{node_rows, owner_kind}
use Rattle.gx_links.specs.Spans.{begins_with}
use Rattle.gx_lists.specs.Inverted.{inverted_rows, owner_in}
use Rattle.gx_lists.proofs.InvertedLemmas.{up_leaf, up_set, up_has_set, owned_long, owner_fits, owned_found, owner_again, owner_steps}
use Rattle.gx_lists.proofs.inverted.InvertedLinkset.owner.Goals as goal

pub select-requires-clause-below : goal.select-requires-clause-below
select-requires-clause-below g c = λ n h. c.requires.below n
    (up_leaf g.M.Mapping.rule (tree_of c.args.self.now.down.now) (tree_of c.args.self.now.up.now)
    c.requires.valid n h)

pub returns-in_err-select-clause-reads : goal.returns-in_err-select-clause-reads
returns-in_err-select-clause-reads g c =
    let down = tree_of c.args.self.now.down.now in
    let up = tree_of c.args.self.now.up.now in
    let held = up_has_set g.M.Mapping.rule down up c.requires.valid
    (g.B.View.working c.args.leaves.now) in
    reads_given g.B.View c.from_residual.result c.from_residual.ensures.1
    (λ s. (s.0, held s.1)) c.in_err-select.ensures.reads

pub owner_of-requires : goal.owner_of-requires
owner_of-requires g c = λ r h.
    let found = c.in_ok-select.ensures.found in
    let now = found.appended ∙ ap (λ (before : List Rec). before ++ found.found) c.new-found.ensures
    in
    (owned_long g.M.Mapping.rule (tree_of c.args.self.now.down.now) (tree_of c.args.self.now.up.now)
    c.requires.valid r
    (found.fit r (subst (In r) now h))).0

pub returns-clause-found : goal.returns-clause-found
returns-clause-found g c =
    let rule = g.M.Mapping.rule in
    let down = tree_of c.args.self.now.down.now in
    let up = tree_of c.args.self.now.up.now in
    let member = c.args.member.now in
    let span = c.value_span-span.result in
    let found = c.in_ok-select.ensures.found in
    let now = found.appended ∙ ap (λ (before : List Rec). before ++ found.found) c.new-found.ensures
    in
    let answer : c.owner_of.result ≡ owner_in found.found = c.owner_of.ensures ∙ ap owner_in now in
    let those = subst (λ (form : Form). (key : List Value) → AreFit form.keys key
    → is_inside span.lo span.hi (key_of key) ≡ begins_with member key) c.form.ensures
    c.value_span-span.ensures.those in
    record {
      fit = subst (λ o. IfSome o (Fits (owner_kind rule down))) (sym answer)
          (owner_fits rule down up c.requires.valid found.found found.fit);
      that = λ whole link is held. answer
          ∙ ap owner_in (owned_found rule down up c.requires.valid link member span found.found is
          those
          (found.selected whole (node_rows inverted_rows link 1)
          (up_set rule down up c.requires.valid link is) held.1.0))
          ∙ owner_again member (fin.get link member);
      few_steps = λ finds whole link is held. owner_steps rule down up c.requires.valid link member
          found.found c.owner_of.result _ _
          (owned_found rule down up c.requires.valid link member span found.found is those
          (found.selected whole (node_rows inverted_rows link 1)
          (up_set rule down up c.requires.valid link is) held.1.0)) answer
          found.few_steps;
    }
