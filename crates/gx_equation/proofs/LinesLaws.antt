-- Counting lines on from a place.
use Rattle.std.proofs.Common.{◌≡◌, ℕ, ◌+◌, ◌-◌, ◌≤◌, max, List, length, take, drop, sym, ap, ◌∙◌, arith}
use Rattle.std.specs.List.{count_by}
use Rattle.std.specs.Prelude.{◌==◌}
use Rattle.std.proofs.lemmas.List.{drop-take, take-take}
use Rattle.std.proofs.lemmas.List.Sums.{sum_by-take-drop}
use Rattle.gx_tokens.specs.Lines.{line_of}

abbrev ends : List ℕ → ℕ
ends bytes = count_by (λ b. b == 10) bytes

count_parts : (bytes : List ℕ) (a m : ℕ)
    → ends (take a bytes) + ends (take m (drop a bytes)) ≡ ends (take (a + m) bytes)
count_parts bytes a m =
    let parts : ends (take a (take (a + m) bytes)) + ends (drop a (take (a + m) bytes)) ≡ ends
    (take (a + m) bytes) = sum_by-take-drop _ (take (a + m) bytes) a in
    rw (take-take a (a + m) bytes (omega arith), drop-take a m bytes) at parts

count_on : (bytes : List ℕ) (line start end n : ℕ) → start ≤ end
    → line ≡ 1 + ends (take start bytes) → n ≡ ends (take (end - start) (drop start bytes))
    → line + n ≡ 1 + ends (take end bytes)
count_on bytes line start end n le l e =
    let k : start + (end - start) ≡ end = omega (arith, le) in
    let p = rw k at (count_parts bytes start (end - start)) in
    omega (arith, l, e, p)

pub line_counted : (bytes : List ℕ) (line from to first second start end n : ℕ)
    → line ≡ line_of bytes from → first ≡ max from 1 → start ≡ length bytes - first
    → second ≡ max to 1 → end ≡ length bytes - second
    → start ≤ end → n ≡ ends (take (end - start) (drop start bytes)) → line + n ≡ line_of bytes to
line_counted bytes line from to first second start end n is f s g e le c =
    let a : start ≡ length bytes - max from 1 = s ∙ ap (λ (m : ℕ). length bytes - m) f in
    let b : end ≡ length bytes - max to 1 = e ∙ ap (λ (m : ℕ). length bytes - m) g in
    count_on bytes line start end n le (is ∙ ap (λ (m : ℕ). 1 + ends (take m bytes)) (sym a)) c
    ∙ ap (λ (m : ℕ). 1 + ends (take m bytes)) b

-- what is left of two places stands in their order
pub in_order : (bytes : List ℕ) (from to first second start end : ℕ) → to ≤ from
    → first ≡ max from 1 → start ≡ length bytes - first → second ≡ max to 1
    → end ≡ length bytes - second → start ≤ end
in_order bytes from to first second start end le f s g e = omega (arith, le, f, s, g, e)
