use Rattle.std.proofs.Common.{◌++◌, ◌∷◌, [], ℕ, List, ap₂, inl, refl, sym, ◌∙◌, subst}
use Rattle.gx_bnode.specs.Branches.{Branch, lent}
use Rattle.gx_bnode.specs.Page.{first_of, branches_of}
use Rattle.gx_btree.specs.declared.checking.Part.{Part}
use Rattle.gx_btree.specs.Tree.{In}
use Rattle.gx_btree.proofs.InsideLemmas.{all_short, pushing_starts}
use Rattle.gx_btree.proofs.checking.push_children.Goals as goal

pub loop-separator-init : goal.loop-separator-init
loop-separator-init c =
    let part = c.args.part.now in
    let page = c.args.page.now in
    let one = λ (n : ℕ) (low : List ℕ). let w : Part =
    record { above = part.page; page = n; low = low } in c.args.parts.now.items ++ w
    ∷ [] in
    pushing_starts c.args.parts.now.items part.page part.low (first_of page) (branches_of page)
    c.push.new.self.items c.into_iter-separator-iterator.result
    (c.in_ok-push.ensures.items
    ∙ ap₂ one c.child.ensures (c.from_slice.ensures ∙ c.as_slice.ensures.value))
    (c.into_iter-separator-iterator.ensures.into_iter_gives ∙ c.branches-separator-items.ensures)
    (all_short page c.requires)

pub from_slice-requires-in-loop-separator : goal.from_slice-requires-in-loop-separator
from_slice-requires-in-loop-separator c =
    let b = lent (c.in-Some.separator, c.in-Some.child) in
    c.loop-separator.invariant.short b
    (subst (λ (bs : List Branch). In b bs) (sym c.in-Some.ensures.steps) (inl refl))
