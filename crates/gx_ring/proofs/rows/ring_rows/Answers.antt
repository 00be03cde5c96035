use Rattle.std.proofs.Common.{rules, ◌≡◌, ◌∙◌, ap, sym, subst}
use Rattle.gx_mapping.specs.Rule.{In}
use Rattle.gx_gather.proofs.Lists.{in_read}
use Rattle.gx_links.specs.declared.pairs.Owned.{Owned}
use Rattle.gx_ring.specs.Records.{IsKeyValue}
use Rattle.gx_ring.proofs.rows.ring_rows.Goals as goal

pub add_rows-requires : goal.add_rows-requires
add_rows-requires c =
    let items = c.deref-owned-items.result.now in
    let is : items ≡ c.args.owners.now = search rules in
    let each = c.requires c.owned-item.result
    (subst (In c.owned-item.result) is
    (in_read items c.loop-owned.owned-index c.owned-item.result c.owned-item.is
    c.loop-owned-test.true)) in
    let these = c.deref.ensures.value ∙ ap (λ (g : Owned). g.members) c.owned.view_is in
    λ m h. (let both = each m (subst (In m) these h) in
    (subst IsKeyValue (ap (λ (g : Owned). g.owner) (sym c.owned.view_is)) both.0, both.1))
