use Rattle.std.proofs.Common.{rules, subst, arith, ℕ, ◌<◌, ◌^◌, ℤ, pos, ◌≡◌, ◌≢◌, IfSome, to_z, of_z, w64, SFits}
use Rattle.std.proofs.Math.Facts.{to_z-of_z}
use Rattle.gx_requests.proofs.WordLemmas.{counted, no_count, other_count}
use Rattle.gx_requests.proofs.words.block_count.Goals as goal

fits : (z : ℤ) → SFits w64 z → to_z w64 (of_z w64 z) ≡ z
fits z is = to_z-of_z is

pub returns-in-Some-clause-some : goal.returns-in-Some-clause-some
returns-in-Some-clause-some c =
    counted c.args.word.now c.in-Some.number c.as_count.result
    (search rules)
    (omega (arith, c.if-digits-gt-MOST_DIGITS.false, c.as_bytes-digits.ensures.len))
    (search rules)
    (subst (λ (z : ℤ). IfSome c.as_count.result (λ n. (z ≡ pos n) × (n < 2 ^ 32)))
    (fits c.in-Some.number (search rules)) c.as_count.ensures.some)

pub returns-in-Some-clause-none : goal.returns-in-Some-clause-none
returns-in-Some-clause-none c =
    λ none. other_count c.args.word.now c.in-Some.number (search rules)
    (subst (λ (z : ℤ). (n : ℕ) → n < 2 ^ 32 → z ≢ pos n) (fits c.in-Some.number (search rules))
    (c.as_count.ensures.none none))

pub returns-in-None-clause-none : goal.returns-in-None-clause-none
returns-in-None-clause-none c = λ none. no_count c.args.word.now (search rules)
