use Rattle.std.proofs.Common.{◌≡◌, ◌≤◌, ◌⊎◌, ◌∙◌, inl, inr, length, drop, arith}
use Rattle.std.specs.Prelude.{min}
use Rattle.std.proofs.lemmas.List.{length-drop}
use Rattle.gx_gather.proofs.KeyOrder.{keys_end, shorter}
use Rattle.gx_gather.proofs.order.compare_keys.Goals as goal

pub returns : goal.returns
returns c =
    let a = c.args.a.now in
    let b = c.args.b.now in
    let i = c.loop-i.i in
    let at_min : c.min-i-end.result ≡ min (length a) (length b) = c.min-i-end.ensures in
    let la : i ≤ length a = omega (arith, at_min) in
    let lb : i ≤ length b = omega (arith, at_min) in
    let over : min (length a) (length b) ≤ i = omega (arith, at_min) in
    let end : (length (drop i a) ≡ 0) ⊎ (length (drop i b) ≡ 0) =
    elim (shorter i (length a) (length b) over) [
      | inl k ↦ inl (omega (arith, length-drop i a, k))
      | inr k ↦ inr (omega (arith, length-drop i b, k))
    ] in
    c.cmp.ensures ∙ keys_end i (length a) (length b) (drop i a) (drop i b)
    (omega (arith, length-drop i a, la)) (omega (arith, length-drop i b, lb)) end
    ∙ c.loop-i.invariant
