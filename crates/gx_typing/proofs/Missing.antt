-- Definitions that are missing.
use Rattle.std.proofs.Common.{◌≡◌, ℕ, ◌<◌, List, [], ◌∷◌, length, Result, Err, sym, ap, ◌∙◌, arith}
use Rattle.gx_equation.specs.declared.equation.Definition.{Definition}
use Rattle.gx_equation.specs.Seen.{definitions_of}
use Rattle.gx_typing.specs.declared.reasons.TypeWhy.TheVariants as why
use Rattle.gx_typing.specs.declared.dues.Due.{Due}
use Rattle.gx_typing.specs.declared.typing.Typing.{Typing}
use Rattle.gx_typing.specs.Typing.{Mistake, here}
use Rattle.gx_typing.specs.Whole.{definitions_typed}

pub missing : (owner : ℕ) (dues : List Due) (ds : List Definition) (lines : List ℕ) (line : ℕ)
    (typing : Typing) (total : Result Typing Mistake) → 0 < length dues → length ds < 1
    → line ≡ here lines
    → definitions_typed owner dues (definitions_of ds) lines typing ≡ total
    → total ≡ Err (line, why.Definition)
missing owner [] ds lines line typing total some no_more is h = absurd (omega arith)
missing owner (due ∷ dues) [] lines line typing total some no_more is h =
    sym h ∙ ap (λ (n : ℕ). Err (n, why.Definition)) (sym is)
missing owner (due ∷ dues) (d ∷ ds) lines line typing total some no_more is h = absurd (omega arith)
