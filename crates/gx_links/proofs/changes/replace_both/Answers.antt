use Rattle.std.proofs.Common.{◌<◌, sym, subst}
use Rattle.std.specs.Prelude.{OnOk}
use Rattle.gx_stack.specs.Seen.{tree_of}
use Rattle.gx_stack.specs.Internal.{IsInternal, changed}
use Rattle.gx_links.proofs.ReplaceLemmas.{on_ok}
use Rattle.gx_links.proofs.changes.replace_both.Goals as goal

pub replace-requires-2-clause-below : goal.replace-requires-2-clause-below
replace-requires-2-clause-below g c = λ n h. subst (λ k. n < k)
    (sym c.in_ok-replace.ensures.replaces.keeps.leaves) (c.requires.second_below n h)

pub returns-clause-changed : goal.returns-clause-changed
returns-clause-changed g c = λ whole.
    let rule = g.M.Mapping.rule in
    let b = g.B.View in
    let first = tree_of c.args.first.now in
    let second = tree_of c.args.second.now in
    let old = b.working c.args.leaves.now in
    let half = b.working c.replace.new.leaves in
    let now = b.working c.replace-2.new.leaves in
    let half_whole = c.in_ok-replace.ensures.replaces.ends.whole whole in
    on_ok c.replace-2.result (λ x done. record {
      half = half;
      one = record {
        internal = λ R set change is. c.in_ok-replace.ensures.internal R whole set change is;
        others = λ n away. c.in_ok-replace.ensures.replaces.others n whole (λ f. cc) away;
      };
      two = record {
        internal = λ R set change is.
            subst (λ r. OnOk r (IsInternal rule second
            (changed R c.args.second_change.old c.args.second_change.new) now))
            done (c.replace-2.ensures.internal R half_whole set change is);
        others = λ n away. c.replace-2.ensures.replaces.others n half_whole (λ f. cc) away;
      };
    })
