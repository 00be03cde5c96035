-- What a command changes.
use Rattle.std.proofs.Common.{◌≡◌, ℕ, zero, suc, ◌+◌, ◌-◌, ◌<◌, ◌≤◌, List, [], ◌∷◌, length, take, get_or, set, refl, sym, ap, subst, ◌∙◌, arith}
use Rattle.std.specs.Prelude.{slice_set}
use Rattle.gx_values.specs.declared.values.Value.{Value}
use Rattle.gx_commands.specs.declared.command.Change.{Change}
use Rattle.gx_model.specs.Commands.{with_changes}

changed_last : (vs : List Value) (cs : List Change) (i : ℕ) (d : Change) → i < length cs
    → with_changes vs (take (suc i) cs) ≡ slice_set (with_changes vs (take i cs))
    ((get_or cs i d).field - 1)
    (get_or cs i d).value
changed_last vs [] i d lt = absurd (omega arith)
changed_last vs (c ∷ cs) zero d lt = refl
changed_last vs (c ∷ cs) (suc i) d lt =
    changed_last (slice_set vs (c.field - 1) c.value) cs i d (omega arith)

pub changed_more : (vs now new : List Value) (cs : List Change) (i : ℕ) (c : Change) (v : Value)
    → i < length cs → c ≡ get_or cs i c → now ≡ with_changes vs (take i cs) → v ≡ c.value
    → new ≡ slice_set now (c.field - 1) v → new ≡ with_changes vs (take (i + 1) cs)
changed_more vs now new cs i c v lt is so_far same e =
    e ∙ (λ j. set (so_far j) (c.field - 1) (same j))
    ∙ ap (λ (d : Change). set (with_changes vs (take i cs)) (d.field - 1) d.value) is
    ∙ sym (changed_last vs cs i c lt)
    ∙ ap (λ n. with_changes vs (take n cs)) (let k : suc i ≡ i + 1 = omega arith in k)

-- past its end a list stays
past : (vs : List Value) (i : ℕ) (v : Value) → length vs ≤ i → set vs i v ≡ vs
past [] i v le = refl
past (w ∷ vs) zero v le = absurd (omega arith)
past (w ∷ vs) (suc i) v le = ap (λ (l : List Value). w ∷ l) (past vs i v (omega arith))

pub set_past : (vs : List Value) (i j : ℕ) (v : Value) → length vs ≤ i → i ≡ j
    → vs ≡ slice_set vs j v
set_past vs i j v le is = sym (past vs j v (subst (λ n. length vs ≤ n) is le))

pub set_at : (vs : List Value) (i j : ℕ) (v : Value) → i ≡ j → slice_set vs i v ≡ slice_set vs j v
set_at vs i j v is = ap (λ n. set vs n v) is
