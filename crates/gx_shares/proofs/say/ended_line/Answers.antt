use Rattle.std.proofs.Common.{◌≡◌, ◌++◌, ◌+◌, ◌∷◌, ◌∙◌, [], List, ℕ, sym, ap, arith}
use Rattle.std.specs.Prelude.{codes}
use Rattle.std.proofs.Math.Nat.{min-eq_left}
use Rattle.std.proofs.lemmas.Fmt.{decimal_digit}
use Rattle.gx_shares.proofs.say.ended_line.Goals as goal

pub returns : goal.returns
returns c = λ lt.
    let holder = c.args.holder in
    let digit : c.saturating_add.result ≡ 48 + holder =
    c.saturating_add.ensures ∙ min-eq_left (omega (arith, lt)) in
    ap (λ (d : ℕ). codes "ended: held by " ++ d ∷ 10 ∷ []) digit
    ∙ ap (λ (l : List ℕ). codes "ended: held by " ++ l ++ 10 ∷ []) (sym (decimal_digit holder lt))
