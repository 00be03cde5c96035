use Rattle.std.proofs.Common.{◌<◌, ◌∙◌, ◌∷◌, [], ◌++◌, ℕ, List, ap, sym, subst, get_or, append_assoc, drop}
use Rattle.gx_encode.specs.Runs.{rle}
use Rattle.gx_encode.proofs.RunSteps.{first_code, some_first}
use Rattle.gx_encode.proofs.runs.push_first.Goals as goal

pub returns-clause-code : goal.returns-clause-code
returns-clause-code c =
    let text = c.args.text.now in
    let old = c.args.code.now.items in
    let n = c.repeats-count.result in
    let b = get_or text 0 0 in
    let pushed = c.in_ok-push-2.ensures.items
    ∙ ap (λ (l : List ℕ). l ++ b ∷ []) c.in_ok-push.ensures.items
    ∙ append_assoc old (n ∷ []) (b ∷ []) in
    ap (λ (l : List ℕ). l ++ rle (drop n text)) pushed
    ∙ append_assoc old (n ∷ b ∷ []) (rle (drop n text))
    ∙ ap (λ (k : ℕ). old ++ k ∷ b ∷ rle (drop k text)) c.repeats-count.ensures.count
    ∙ ap (λ (l : List ℕ). old ++ l) (sym (first_code text c.requires.some))

pub returns-clause-some : goal.returns-clause-some
returns-clause-some c =
    subst (λ (n : ℕ). 0 < n) (sym c.repeats-count.ensures.count)
    (some_first c.args.text.now c.requires.some)
