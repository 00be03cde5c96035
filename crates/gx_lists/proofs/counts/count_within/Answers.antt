use Rattle.std.proofs.Common.{rules, ◌≡◌, ◌∙◌, ◌++◌, ◌+◌, ◌-◌, inl, length, refl, sym, ap, subst}
use Rattle.gx_ports.specs.LeafMaps.{map_at, selected, counted}
use Rattle.gx_mapping.specs.Rule.{In}
use Rattle.gx_stack.specs.Tree.{leaves_of, IsValid}
use Rattle.gx_stack.proofs.Seen.{seen_leaf}
use Rattle.gx_lists.specs.Counts.{IsCount}
use Rattle.gx_lists.proofs.CountLemmas.{leaf_counted}
use Rattle.gx_lists.proofs.counts.count_within.Goals as goal

pub select-requires : goal.select-requires
select-requires g c = c.requires.below c.in-Leaf.node.leaf
    (subst (λ t. In c.in-Leaf.node.leaf (leaves_of t))
    (sym (seen_leaf c.args.node.now c.in-Leaf.node c.in-Leaf.is)) (inl refl))

pub returns-in_ok-select-in-Leaf-clause-count : goal.returns-in_ok-select-in-Leaf-clause-count
returns-in_ok-select-in-Leaf-clause-count g c =
    let rule = g.M.Mapping.rule in
    let b = g.B.View in
    let l = c.in-Leaf.node in
    let span = c.args.span.now in
    let whole = b.whole c.args.leaves.now in
    let maps = b.working c.args.leaves.now in
    let before = b.work c.args.leaves.now in
    let steps = b.work c.select.new.self in
    let out = c.select.new.out in
    let seen = seen_leaf c.args.node.now l c.in-Leaf.is in
    let many : c.len.result ≡ length out = search rules in
    let taken = subst (λ zs. steps ≡ counted before (1 + (length out - length zs)))
    c.new-entries.ensures
    c.in_ok-select-in-Leaf.ensures.steps in
    subst (λ t. IsCount rule t whole maps span before steps c.len.result) (sym seen)
    (leaf_counted rule l.leaf l.form whole maps span before steps c.len.result out
    (subst (IsValid rule) seen c.requires.valid)
    (λ w. c.in_ok-select-in-Leaf.ensures.ok w
    ∙ ap (λ zs. zs ++ selected span.lo span.hi (map_at maps l.leaf)) c.new-entries.ensures) many
    taken)
