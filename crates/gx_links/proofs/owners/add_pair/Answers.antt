use Rattle.std.proofs.Common.{rules, ◌≡◌, ◌+◌, ◌-◌, ◌++◌, ◌∷◌, [], ◌∙◌, ap, length, true, false, arith}
use Rattle.std.specs.Prelude.{slice_set}
use Rattle.std.proofs.lemmas.Result.{on_ok_weaker}
use Rattle.gx_links.specs.Owners.{is_last}
use Rattle.gx_links.proofs.OwnerLemmas.{set_last, push_behind, last_some}
use Rattle.gx_links.proofs.owners.add_pair.Goals as goal

pub returns-then-is_last_owner : goal.returns-then-is_last_owner
returns-then-is_last_owner c =
    let gs = c.args.owners.now.items in
    let last : is_last gs c.args.owner ≡ true = search rules in
    let some = last_some gs c.args.owner last in
    let many : c.len-last.result ≡ length gs = search rules in
    let end : (c.len-last.result - 1) + 1 ≡ length gs = omega (arith, some, many) in
    on_ok_weaker c.add.result (λ added. ap (λ x. slice_set gs (c.len-last.result - 1) x) added
    ∙ set_last gs (c.len-last.result - 1) c.index_mut.result.now (c.args.member, c.args.owner)
    end c.index_mut.ensures.value last) c.add.ensures

pub returns : goal.returns
returns c =
    let gs = c.args.owners.now.items in
    let other : is_last gs c.args.owner ≡ false = search rules in
    c.in_ok-push.ensures.items ∙ ap (λ g. gs ++ g ∷ []) c.in_ok-with_one.ensures
    ∙ push_behind gs (c.args.member, c.args.owner) other
