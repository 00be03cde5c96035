use Rattle.std.proofs.Common.{rules, ◌≡◌, ◌∙◌, true, false, sym, subst}
use Rattle.std.specs.List.Sorted.{IsPermutation}
use Rattle.gx_mapping.specs.Rule.{In}
use Rattle.gx_gather.proofs.Made.{permuted_in, permuted_back}
use Rattle.gx_links.proofs.PairLemmas.{sorted_rows}
use Rattle.gx_links.proofs.rows.are_rows.Goals as goal

pub returns-clause-yes : goal.returns-clause-yes
returns-clause-yes c = λ e p.
    let view : c.rows.inside.0.items ≡ c.args.rows = search rules in
    let perm = subst (λ ps. IsPermutation ps c.sort_parts.new.parts.items) view
    c.sort_parts.ensures.those in
    let result : c.are_same_parts.result ≡ true = cc in
    let is : c.sort_parts.new.parts.items ≡ c.args.found.now =
    (let same = c.are_same_parts.ensures.yes result in search rules) in (
      λ h. permuted_back c.args.rows c.sort_parts.new.parts.items p perm (subst (In p) (sym is) h),
      λ h. subst (In p) is (permuted_in c.args.rows c.sort_parts.new.parts.items p perm h),
    )

pub returns-clause-no : goal.returns-clause-no
returns-clause-no c = λ e up distinct both.
    let view : c.rows.inside.0.items ≡ c.args.rows = search rules in
    let perm = subst (λ ps. IsPermutation ps c.sort_parts.new.parts.items) view
    c.sort_parts.ensures.those in
    let result : c.are_same_parts.result ≡ false = cc in
    let a : c.deref.result.now ≡ c.sort_parts.new.parts.items = search rules in
    let b : c.deref-2.result.now ≡ c.args.found.now = search rules in
    c.are_same_parts.ensures.no result
    (a ∙ sorted_rows c.args.rows c.sort_parts.new.parts.items c.args.found.now perm
    c.in_ok-sort_parts.ensures.in_order up distinct (λ p h. (both p).0 h)
    (λ p h. (both p).1 h) ∙ sym b)
