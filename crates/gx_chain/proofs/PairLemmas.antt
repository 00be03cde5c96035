-- A map in which one pair is set, or the pair at a key is taken away.
use Rattle.std.proofs.Common.{◌≡◌, ◌≢◌, ◌⊎◌, ◌↔◌, inl, inr, ℕ, Bool, true, false, cond, List, Some, None, refl, sym, ap, ◌∙◌}
use Rattle.std.specs.Ordering.{eq_by_cmp}
use Rattle.std.specs.Cmp.Lexicographic.{nat_list_cmp_total}
use Rattle.std.specs.FinMap as fin
use Rattle.std.proofs.lemmas.Bool.{true≢false}
use Rattle.std.proofs.lemmas.Option.{same_Some, none-some}
use Rattle.gx_ports.specs.LeafMaps.{LeafMap}
use Rattle.gx_ports.specs.Keyed.{key_cmp}
use Rattle.gx_ports.proofs.KeyLemmas.{same_key, tied}

-- the map has the entries that are there
module _ (map : LeafMap) (key : List ℕ) (IsThere : List ℕ → List ℕ → Type 0)
    (there : (k b : List ℕ) → (fin.get map k ≡ Some b) ↔ IsThere k b) where
  other_key : (k : List ℕ) → eq_by_cmp key_cmp k key ≡ false → k ≢ key
  other_key k e same = true≢false (sym (tied key) ∙ ap (λ x. eq_by_cmp key_cmp x key) (sym same)
      ∙ e)

  put_to : (body k b : List ℕ) (q : Bool) → eq_by_cmp key_cmp k key ≡ q
      → cond q (Some body) (fin.get map k) ≡ Some b
      → ((k ≡ key) × (b ≡ body)) ⊎ ((k ≢ key) × IsThere k b)
  put_to body k b true e is = inl (same_key k key e, sym (same_Some body b is))
  put_to body k b false e is = inr (other_key k e, (there k b).0 is)

  put_from : (body k b : List ℕ) (q : Bool) → eq_by_cmp key_cmp k key ≡ q
      → ((k ≡ key) × (b ≡ body)) ⊎ ((k ≢ key) × IsThere k b)
      → cond q (Some body) (fin.get map k) ≡ Some b
  put_from body k b true e (inl put) = ap Some (sym put.1)
  put_from body k b true e (inr old) = absurd (old.0 (same_key k key e))
  put_from body k b false e (inl put) = absurd (other_key k e put.0)
  put_from body k b false e (inr old) = (there k b).1 old.1

  pub found_put : (body k b : List ℕ) → (fin.get (fin.insert map key body) k ≡ Some b)
      ↔ (((k ≡ key) × (b ≡ body)) ⊎ ((k ≢ key) × IsThere k b))
  found_put body k b =
      let got = fin.get-insert nat_list_cmp_total map key body k in (
        λ is. put_to body k b (eq_by_cmp key_cmp k key) refl (sym got ∙ is),
        λ here. got ∙ put_from body k b (eq_by_cmp key_cmp k key) refl here,
      )

  removed_to : (k b : List ℕ) (q : Bool) → eq_by_cmp key_cmp k key ≡ q
      → cond q None (fin.get map k) ≡ Some b → (k ≢ key) × IsThere k b
  removed_to k b true e is = absurd (none-some b is)
  removed_to k b false e is = (other_key k e, (there k b).0 is)

  removed_from : (k b : List ℕ) (q : Bool) → eq_by_cmp key_cmp k key ≡ q → (k ≢ key) × IsThere k b
      → cond q None (fin.get map k) ≡ Some b
  removed_from k b true e old = absurd (old.0 (same_key k key e))
  removed_from k b false e old = (there k b).1 old.1

  pub found_removed : (k b : List ℕ) → (fin.get (fin.remove map key) k ≡ Some b)
      ↔ ((k ≢ key) × IsThere k b)
  found_removed k b =
      let got = fin.get-remove nat_list_cmp_total map key k in (
        λ is. removed_to k b (eq_by_cmp key_cmp k key) refl (sym got ∙ is),
        λ here. got ∙ removed_from k b (eq_by_cmp key_cmp k key) refl here,
      )

-- nothing is put
pub none_put : {A B : Type 0} → A ↔ B → A ↔ (⊥ ⊎ B)
none_put same = (
  λ a. inr (same.0 a),
  λ put. elim put [ inl never ↦ absurd never | inr old ↦ same.1 old ],
)
