use Rattle.std.proofs.Common.{rules, ◌≡◌, ◌+◌, ◌-◌, ◌∙◌, length, arith, sym}
use Rattle.gx_links.specs.Links.{is_same}
use Rattle.gx_links.proofs.OwnerLemmas.{last_at}
use Rattle.gx_links.proofs.owners.is_last_owner.Goals as goal

pub returns-in-Some : goal.returns-in-Some
returns-in-Some c =
    let gs = c.args.owners.now in
    let g = c.in-Some.last.now in
    let same : c.is_eq.result ≡ is_same g.owner c.args.owner.now = search rules in
    let item = c.in-Some.ensures.item in
    let some : (length gs - 1) + 1 ≡ length gs = omega (arith, item.0) in
    same ∙ sym (last_at gs (length gs - 1) g c.args.owner.now some item.1)
