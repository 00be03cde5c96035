use Rattle.std.proofs.Common.{◌≡◌, ◌-◌, ◌∙◌, List, length, take, drop, subst, ap, arith}
use Rattle.std.proofs.lemmas.Grind.{common_steps}
use Rattle.gx_values.specs.declared.records.Rec.{Rec}
use Rattle.gx_mapping.specs.Rule.{In}
use Rattle.gx_stack.proofs.node.gather_from.Goals as goal

pub gather_each-requires : goal.gather_each-requires
gather_each-requires g c = λ q h.
    let all = c.deref_mut.result.now in
    let from = c.args.from in
    let rest : take (length all - from) (drop from all) ≡ drop from all =
    grind (arith, common_steps) in
    let same : all ≡ c.args.out.now = c.deref_mut.ensures.value ∙ c.out.view_is in
    c.requires.parts q (subst (λ (rs : List Rec). In q rs) (rest ∙ ap (drop from) same) h)
