-- The lines of a shared script are its turns.
use Rattle.std.proofs.Common.{ℕ, List, [], ◌∷◌, ◌++◌, sym, subst, inl, inr}
use Rattle.gx_schema.specs.declared.schema.Schema.{Schema}
use Rattle.gx_sharing.specs.Sharing.{Sharing}
use Rattle.gx_sharing.specs.Turns.{Turn, Shares}
use Rattle.gx_model.specs.Languages.{RunsIn}
use Rattle.gx_sharing.specs.Texts.{IsLinePlayed, turns}

line_shares : (schema : Schema) (p next final : Sharing) (line : List ℕ) (first rest : List Turn)
    → IsLinePlayed schema p line first next → Shares schema next rest final
    → Shares schema p (first ++ rest) final
line_shares schema p next final line first rest (inl x) later =
    subst (λ (ts : List Turn). Shares schema p (ts ++ rest) final) (sym x.1)
    (subst (λ (q : Sharing). Shares schema q rest final) x.2 later)
line_shares schema p next final line first rest (inr x) later =
    subst (λ (ts : List Turn). Shares schema p (ts ++ rest) final) (sym x.2) (next, x.3, later)

pub lines_share : (schema : Schema) (p final : Sharing) (lines : List (List ℕ)) (ts : List Turn)
    → RunsIn (turns schema) p lines ts final → Shares schema p ts final
lines_share schema p final [] ts (none, same) =
    subst (λ (us : List Turn). Shares schema p us final) (sym none) same
lines_share schema p final (line ∷ lines) ts (first, rest, next, one, later, is) =
    subst (λ (us : List Turn). Shares schema p us final) (sym is)
    (line_shares schema p next final line first rest one
    (lines_share schema next final lines rest later))
