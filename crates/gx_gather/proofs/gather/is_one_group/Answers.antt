use Rattle.std.proofs.Common.{◌≡◌, ◌∙◌, inl, inr, false, rules, sym, subst, arith}
use Rattle.std.proofs.lemmas.List.{take_all}
use Rattle.gx_mapping.specs.declared.parts.Part.{Part}
use Rattle.gx_mapping.specs.Rule.{In}
use Rattle.gx_gather.specs.Gather.{is_next}
use Rattle.gx_gather.proofs.Lists.{in_more}
use Rattle.gx_gather.proofs.Made.{alike_of}
use Rattle.gx_gather.proofs.gather.is_one_group.Goals as goal

pub loop-i-preserved : goal.loop-i-preserved
loop-i-preserved c = λ p h.
    let here : is_next c.args.width c.args.parts.now c.index-parts-i.result ≡ false =
    search rules in
    elim (in_more c.args.parts.now c.loop-i.i c.index-parts-i.result p
    (omega (arith, c.loop-i-test.true)) h) [
      | inl before ↦ c.loop-i.invariant p before
      | inr last ↦ subst (λ (q : Part). is_next c.args.width c.args.parts.now q ≡ false)
          (sym (last ∙ sym c.index-parts-i.is)) here
    ]

pub returns-clause-alike : goal.returns-clause-alike
returns-clause-alike c = λ yes p h.
    let whole = take_all c.loop-i.i c.args.parts.now (omega (arith, c.loop-i-test.false)) in
    alike_of c.args.width c.args.parts.now p h (c.loop-i.invariant p (subst (In p) (sym whole) h))
