use Rattle.std.proofs.Common.{ℕ, ◌-◌, ◌∷◌, List, map, ap, ap₂, ◌∙◌, arith}
use Rattle.gx_bnode.specs.Branches.{Branch}
use Rattle.gx_bnode.specs.Page.{separators_in, first_of, branches_of}
use Rattle.gx_bnode.proofs.PageLemmas.{map-remove, children-remove}
use Rattle.gx_bnode.proofs.page.drop_child.Goals as goal

pub returns-else-i-eq0-clause-separators : goal.returns-else-i-eq0-clause-separators
returns-else-i-eq0-clause-separators c =
    ap separators_in c.drop_branch-else-i-eq0.ensures.branches
    ∙ map-remove (λ b. b.separator) (branches_of c.args.page.now) (c.args.i - 1)

pub returns-else-i-eq0-clause-children : goal.returns-else-i-eq0-clause-children
returns-else-i-eq0-clause-children c =
    let page = c.args.page.now in
    let dropped = c.drop_branch-else-i-eq0.ensures in
    ap₂ (λ (n : ℕ) (bs : List Branch). n ∷ map (λ b. b.child) bs) dropped.first dropped.branches
    ∙ children-remove (first_of page) (branches_of page) c.args.i (omega arith)
