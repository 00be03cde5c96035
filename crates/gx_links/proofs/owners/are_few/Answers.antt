use Rattle.std.proofs.Common.{rules, ◌≡◌, ◌<◌, ◌≤◌, ◌∙◌, sym, subst, length, inl, inr}
use Rattle.gx_mapping.specs.Rule.{In}
use Rattle.gx_gather.proofs.Lists.{in_more, in_read}
use Rattle.gx_links.specs.declared.pairs.Owned.{Owned}
use Rattle.gx_links.specs.Links.{most_members}
use Rattle.gx_links.proofs.owners.are_few.Goals as goal

pub returns-then-len-gt-MOST_MEMBERS-clause-no : goal.returns-then-len-gt-MOST_MEMBERS-clause-no
returns-then-len-gt-MOST_MEMBERS-clause-no c = λ e.
    let items = c.deref-owned-items.result.now in
    let g = c.owned-item.result in
    let is : items ≡ c.args.owners.now = search rules in
    let many : most_members < length g.members = search rules in (
      g,
      subst (In g) is (in_read items c.loop-owned.owned-index g c.owned-item.is
          c.loop-owned-test.true),
      many,
    )

pub loop-owned-preserved : goal.loop-owned-preserved
loop-owned-preserved c = λ g h.
    let items = c.deref-owned-items.result.now in
    let item = c.owned-item.result in
    let few : length item.members ≤ most_members = search rules in
    elim (in_more items c.loop-owned.owned-index item g c.loop-owned-test.true h) [
      | inl k ↦ c.loop-owned.invariant g k
      | inr e ↦ subst (λ (x : Owned). length x.members ≤ most_members)
          (sym (e ∙ sym c.owned-item.is)) few
    ]
