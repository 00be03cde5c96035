use Rattle.std.proofs.Common.{◌∙◌, ◌++◌, List, refl, sym, ap, subst}
use Rattle.std.proofs.lemmas.Bool.{true≢false}
use Rattle.std.proofs.lemmas.Result.{IfOk-weaker}
use Rattle.gx_laws.proofs.ResultLemmas.{on_ok_always}
use Rattle.gx_values.specs.declared.records.Rec.{Rec}
use Rattle.gx_mapping.specs.Rule.{In}
use Rattle.gx_stack.specs.Tree.{tree_form}
use Rattle.gx_stack.specs.Seen.{tree_of}
use Rattle.gx_stack.proofs.PassLemmas.{reads_given}
use Rattle.gx_stack.proofs.Selects.{ends_empty}
use Rattle.gx_links.specs.Rows.{node_rows}
use Rattle.gx_lists.specs.Arrays.{array_rows, IsOwnerAmong}
use Rattle.gx_lists.specs.ArrayLaws.{key_kind}
use Rattle.gx_lists.proofs.SpanLemmas.{all_inside}
use Rattle.gx_lists.proofs.ArrayLemmas.{in_leaves, rows_set, array_has_set, key_long, owner_found, owner_fits, none_damaged}
use Rattle.gx_lists.proofs.array.PointerArrayLinkset.owner.Goals as goal

pub select-requires-clause-below : goal.select-requires-clause-below
select-requires-clause-below g c = λ n h. c.requires.below n
    (in_leaves g.M.Mapping.rule (tree_of c.args.self.now.tree.now) c.args.self.now.member
    c.requires.valid n h)

pub select-requires-clause-span : goal.select-requires-clause-span
select-requires-clause-span g c =
    ends_empty (tree_form g.M.Mapping.rule (tree_of c.args.self.now.tree.now)) c.whole_span.result
    c.whole_span.ensures.lo c.whole_span.ensures.hi

pub returns-in_err-select-clause-reads : goal.returns-in_err-select-clause-reads
returns-in_err-select-clause-reads g c =
    let maps = g.B.View.working c.args.leaves.now in
    let set = array_has_set g.M.Mapping.rule (tree_of c.args.self.now.tree.now)
    c.args.self.now.member c.requires.valid maps in
    reads_given g.B.View c.from_residual.result c.from_residual.ensures.1
    (λ s. (s.0, set s.1)) c.in_err-select.ensures.reads

pub owner_among-requires-clause-kind : goal.owner_among-requires-clause-kind
owner_among-requires-clause-kind g c = key_kind c.args.self.now.member c.requires.valid.member_kind

pub owner_among-requires-clause-some : goal.owner_among-requires-clause-some
owner_among-requires-clause-some g c = λ r h.
    let found = c.in_ok-select.ensures.found in
    let now = found.appended ∙ ap (λ (before : List Rec). before ++ found.found) c.new-found.ensures
    in
    (key_long g.M.Mapping.rule (tree_of c.args.self.now.tree.now) c.args.self.now.member
    c.requires.valid r
    (found.fit r (subst (In r) now h))).0

pub returns-clause-found : goal.returns-clause-found
returns-clause-found g c =
    let rule = g.M.Mapping.rule in
    let tree = tree_of c.args.self.now.tree.now in
    let kind = c.args.self.now.member in
    let member = c.args.member.now in
    let span = c.whole_span.result in
    let found = c.in_ok-select.ensures.found in
    let now = found.appended ∙ ap (λ (before : List Rec). before ++ found.found) c.new-found.ensures
    in
    IfOk-weaker c.owner_among.result _ _ (λ answer among.
    let there = subst (λ (rs : List Rec). IsOwnerAmong kind member rs answer) now among in
    record {
      fit = owner_fits rule tree kind c.requires.valid member found.found answer found.fit there;
      that = λ whole link is held. owner_found rule tree kind c.requires.valid link is span
          found.found
          (λ key. all_inside span key c.whole_span.ensures.lo c.whole_span.ensures.hi)
          (found.selected whole (node_rows array_rows link 0)
          (rows_set rule tree kind c.requires.valid link is) held.0) member answer
          there;
      few_steps = λ finds whole link is held. absurd (true≢false (sym finds));
    }) c.owner_among.ensures.among

pub returns-clause-reads : goal.returns-clause-reads
returns-clause-reads g c =
    let rule = g.M.Mapping.rule in
    let tree = tree_of c.args.self.now.tree.now in
    let kind = c.args.self.now.member in
    let span = c.whole_span.result in
    let found = c.in_ok-select.ensures.found in
    let now = found.appended ∙ ap (λ (before : List Rec). before ++ found.found) c.new-found.ensures
    in
    let read = c.in_ok-select.ensures.reads in
    record {
      reads = read.reads;
      ends = record {
        whole = on_ok_always c.owner_among.result read.ends.whole;
        later = read.ends.later;
        fault = λ e. absurd (c.owner_among.ensures.not_fault e);
        counted = λ e. read.ends.counted refl;
        damaged = λ block e sound.
            let link = sound.1.0 in
            let is = sound.1.1 in
            let some = c.owner_among.ensures.damaged block e in
            let set = rows_set rule tree kind c.requires.valid link is in
            let those = found.selected sound.0 (node_rows array_rows link 0) set sound.1.2.0 in
            let here = subst (In some.0) now some.1 in
            none_damaged rule tree kind c.requires.valid link is span found.found
            (λ key. all_inside span key c.whole_span.ensures.lo c.whole_span.ensures.hi) those
            some.0 here some.2;
      };
      block = λ n e whole. c.owner_among.ensures.block n e;
      not_full = c.owner_among.ensures.not_full;
    }
