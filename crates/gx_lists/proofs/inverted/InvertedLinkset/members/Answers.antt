use Rattle.std.proofs.Common.{◌≡◌, ◌∙◌, ◌++◌, List, sym, ap, subst, map}
use Rattle.gx_values.specs.declared.records.Form.{Form}
use Rattle.gx_values.specs.declared.records.Rec.{Rec}
use Rattle.gx_values.specs.declared.values.Value.{Value}
use Rattle.gx_values.specs.Values.{Fits, AreFit}
use Rattle.gx_values.specs.Keys.{key_of, is_inside}
use Rattle.gx_mapping.specs.Rule.{In}
use Rattle.gx_gather.proofs.Lists.{from_map}
use Rattle.gx_stack.specs.Seen.{tree_of}
use Rattle.gx_stack.proofs.PassLemmas.{reads_given}
use Rattle.gx_links.specs.Rows.{node_rows, member_kind}
use Rattle.gx_links.specs.Spans.{begins_with}
use Rattle.gx_lists.specs.Inverted.{inverted_rows, member_in}
use Rattle.gx_lists.proofs.InvertedLemmas.{down_leaf, down_set, down_has_set, pair_long, pairs_found, members_found, members_steps}
use Rattle.gx_lists.proofs.inverted.InvertedLinkset.members.Goals as goal

pub select-requires-clause-below : goal.select-requires-clause-below
select-requires-clause-below g c = λ n h. c.requires.below n
    (down_leaf g.M.Mapping.rule (tree_of c.args.self.now.down.now) (tree_of c.args.self.now.up.now)
    c.requires.valid n h)

pub returns-in_err-select-clause-reads : goal.returns-in_err-select-clause-reads
returns-in_err-select-clause-reads g c =
    let down = tree_of c.args.self.now.down.now in
    let up = tree_of c.args.self.now.up.now in
    let held = down_has_set g.M.Mapping.rule down up c.requires.valid
    (g.B.View.working c.args.leaves.now) in
    reads_given g.B.View c.from_residual.result c.from_residual.ensures.1
    (λ s. (s.0, held s.1)) c.in_err-select.ensures.reads

pub add_members-requires : goal.add_members-requires
add_members-requires g c = λ r h.
    let found = c.in_ok-select.ensures.found in
    let now = found.appended ∙ ap (λ (before : List Rec). before ++ found.found) c.new-found.ensures
    in
    (pair_long g.M.Mapping.rule (tree_of c.args.self.now.down.now) (tree_of c.args.self.now.up.now)
    c.requires.valid r
    (found.fit r (subst (In r) now h))).0

pub returns-clause-found : goal.returns-clause-found
returns-clause-found g c =
    let rule = g.M.Mapping.rule in
    let down = tree_of c.args.self.now.down.now in
    let up = tree_of c.args.self.now.up.now in
    let owner = c.args.owner.now in
    let span = c.value_span-span.result in
    let found = c.in_ok-select.ensures.found in
    let now = found.appended ∙ ap (λ (before : List Rec). before ++ found.found) c.new-found.ensures
    in
    let those = subst (λ (form : Form). (key : List Value) → AreFit form.keys key
    → is_inside span.lo span.hi (key_of key) ≡ begins_with owner key) c.form.ensures
    c.value_span-span.ensures.those in
    record {
      found = map member_in found.found;
      appended = c.in_ok-add_members.ensures.members
          ∙ ap (λ (rs : List Rec). c.args.out.now ++ map member_in rs) now;
      fit = λ m h. let r = from_map member_in m found.found h in
          subst (Fits (member_kind rule up)) (sym r.2)
          (pair_long rule down up c.requires.valid r.0 (found.fit r.0 r.1)).1;
      those = λ whole link is held. members_found rule down up c.requires.valid link owner span
          found.found is those
          (found.selected whole (node_rows inverted_rows link 0)
          (down_set rule down up c.requires.valid link is) held.0);
      few_steps = λ whole link is held. members_steps rule down up c.requires.valid link owner
          found.found _ _ 0
          (pairs_found rule down up c.requires.valid link owner span found.found is those
          (found.selected whole (node_rows inverted_rows link 0)
          (down_set rule down up c.requires.valid link is) held.0)) found.few_steps;
    }
