use Rattle.std.proofs.Common.{rules, ◌≡◌, subst}
use Rattle.gx_mapping.specs.Rule.{In}
use Rattle.gx_gather.proofs.Lists.{in_read}
use Rattle.gx_stack.proofs.held.others_of.Goals as goal

pub parts-requires : goal.parts-requires
parts-requires g c =
    let items = c.deref-rec-items.result.now in
    let is : items ≡ c.args.found.now = search rules in
    c.requires c.rec-item.result
    (subst (In c.rec-item.result) is
    (in_read items c.loop-rec.rec-index c.rec-item.result c.rec-item.is
    c.loop-rec-test.true))

pub add_others-requires : goal.add_others-requires
add_others-requires g c = λ p h.
    let items = c.deref-rec-items.result.now in
    let is : items ≡ c.args.found.now = search rules in
    let fits = c.requires c.rec-item.result
    (subst (In c.rec-item.result) is
    (in_read items c.loop-rec.rec-index c.rec-item.result c.rec-item.is
    c.loop-rec-test.true)) in
    ((g.met.M.Mapping.laws c.args.mapping.now).fit c.rec-item.result p fits
    (subst (In p) c.in_ok-parts.ensures h)).0
