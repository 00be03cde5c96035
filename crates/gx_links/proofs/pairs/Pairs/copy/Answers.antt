use Rattle.std.proofs.Common.{◌≡◌, ◌∷◌, [], ◌++◌, ◌∙◌, ap, sym, take}
use Rattle.std.proofs.lemmas.List.{take_more}
use Rattle.gx_values.specs.declared.values.Value.{Value}
use Rattle.gx_links.proofs.pairs.Pairs.copy.Goals as goal

pub loop-pair-preserved : goal.loop-pair-preserved
loop-pair-preserved c =
    let items = c.deref-pair-items.result.now in
    let i = c.loop-pair.pair-index in
    let pair = c.pair-item.result in
    let one = c.in_ok-copy.ensures in
    let two = c.in_ok-copy-2.ensures in
    let both : ◌≡◌ {A = Value × Value} (c.in_ok-copy.field-0, c.in_ok-copy-2.field-0) pair =
    λ j. (one j, two j) in
    c.in_ok-push.ensures.items ∙ (λ j. c.loop-pair.invariant j ++ both j ∷ [])
    ∙ ap (λ q. take i items ++ q ∷ []) c.pair-item.is
    ∙ sym (take_more items i pair c.loop-pair-test.true)
