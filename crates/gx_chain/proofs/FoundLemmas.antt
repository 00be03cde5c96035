-- Look-ups among entries, each of which has a key and a body.
use Rattle.std.proofs.Common.{◌≡◌, inl, inr, true, false, cond, ℕ, List, [], ◌∷◌, map, Some, refl, sym, ap, ◌∙◌}
use Rattle.std.specs.List.{Contains}
use Rattle.std.specs.Ordering.{eq_by_cmp}
use Rattle.std.specs.FinMap as fin
use Rattle.std.proofs.lemmas.Bool.{true≢false}
use Rattle.std.proofs.lemmas.Option.{same_Some, none-some}
use Rattle.gx_ports.specs.Keyed.{key_cmp}
use Rattle.gx_ports.proofs.KeyLemmas.{same_key, tied}
use Rattle.gx_chain.proofs.ListLemmas.{contains_here, contains_later, contains_cases, contains_none}

module _ {X : Type 0} (key body : X → List ℕ) where
  abbrev pub pairs : List X → List (List ℕ × List ℕ)
  pairs es = map (λ e. (key e, body e)) es

  -- what is found is an entry
  pub found_from : (es : List X) (k b : List ℕ) → fin.find key_cmp k (pairs es) ≡ Some b
      → (e : X) × Contains es e × (key e ≡ k) × (body e ≡ b)
  found_from [] k b is = absurd (none-some b is)
  found_from (e ∷ es) k b is =
      elim (eq_by_cmp key_cmp k (key e)) as
      (λ t. eq_by_cmp key_cmp k (key e) ≡ t
      → cond t (Some (body e)) (fin.find key_cmp k (pairs es)) ≡ Some b
      → (x : X) × Contains (e ∷ es) x × (key x ≡ k) × (body x ≡ b)) [
        | true ↦ λ same at. (
          e,
          contains_here e es,
          sym (same_key k (key e) same),
          same_Some (body e) b at,
        )
        | false ↦ λ _ at. (let f = found_from es k b at in
            (f.0, contains_later e f.0 es f.1, f.2, f.3))
      ] refl is

  -- where there is an entry, one is found
  pub found_some : (es : List X) (x : X) → Contains es x
      → (c : List ℕ) × (fin.find key_cmp (key x) (pairs es) ≡ Some c)
  found_some [] x c = absurd (contains_none x c)
  found_some (e ∷ es) x c =
      elim (eq_by_cmp key_cmp (key x) (key e)) as
      (λ t. eq_by_cmp key_cmp (key x) (key e) ≡ t
      → (b : List ℕ)
      × (cond t (Some (body e)) (fin.find key_cmp (key x) (pairs es)) ≡ Some b)) [
        | true ↦ λ _. (body e, refl)
        | false ↦ λ other. elim (contains_cases e x es c) [
          | inl is ↦ absurd (true≢false (sym (tied (key x))
              ∙ ap (λ (y : X). eq_by_cmp key_cmp (key x) (key y)) (sym is) ∙ other))
          | inr later ↦ found_some es x later
        ]
      ] refl
