-- The keys of a chain, and whether each has its bucket.
use Rattle.std.proofs.Common.{◌≡◌, inl, inr, ℕ, Bool, true, List, [], ◌∷◌, get_or, sym, ap, ◌∙◌}
use Rattle.std.specs.Prelude.{◌||◌, ◌==◌}
use Rattle.std.specs.Global.{Vec}
use Rattle.std.specs.List.{Contains, list_all}
use Rattle.std.specs.Ordering.{eq_by_cmp}
use Rattle.std.proofs.lemmas.Bool.{cases_Bool, eqb-true, false≢true, or_right}
use Rattle.std.proofs.lemmas.List.Elements.{All-contains_itself}
use Rattle.std.proofs.lemmas.List.Sums.{AllPass-from_list_all, list_all-from_AllPass}
use Rattle.gx_laws.proofs.NumberLemmas.{number_itself}
use Rattle.gx_ports.specs.Keyed.{key_cmp}
use Rattle.gx_ports.proofs.KeyLemmas.{same_key, tied}
use Rattle.gx_chain.specs.Check.{has_key}
use Rattle.gx_chain.proofs.ListLemmas.{contains_here, contains_later, contains_cases, contains_none}

has_from : (keys : List (Vec ℕ)) (key : List ℕ) → has_key keys key ≡ true
    → (v : Vec ℕ) × Contains keys v × (key ≡ v.items)
has_from [] key is = absurd (false≢true is)
has_from (x ∷ xs) key is = elim (cases_Bool (eq_by_cmp key_cmp key x.items)) [
  | inl e ↦ (x, contains_here x xs, same_key key x.items e)
  | inr e ↦ (let r = has_from xs key (ap (λ (b : Bool). b || has_key xs key) (sym e) ∙ is) in
      (r.0, contains_later x r.0 xs r.1, r.2))
]

has_to : (keys : List (Vec ℕ)) (v : Vec ℕ) → Contains keys v → has_key keys v.items ≡ true
has_to [] v c = absurd (contains_none v c)
has_to (x ∷ xs) v c = elim (contains_cases x v xs c) [
  | inl e ↦ ap (λ (b : Bool). b || has_key xs v.items)
      (ap (λ (y : Vec ℕ). eq_by_cmp key_cmp v.items y.items) e ∙ tied v.items)
  | inr later ↦ or_right (eq_by_cmp key_cmp v.items x.items) (has_key xs v.items)
      (has_to xs v later)
]

module _ (bucket_of : List ℕ → ℕ) (number : ℕ) where
  abbrev has_bucket : Vec ℕ → Bool
  has_bucket key = bucket_of key.items == number

  -- each key has the bucket
  pub all_placed : (keys : List (Vec ℕ))
      → list_all (λ key. bucket_of key.items == number) keys ≡ true → (key : List ℕ)
      → has_key keys key ≡ true → bucket_of key ≡ number
  all_placed keys all key has =
      let r = has_from keys key has in
      ap bucket_of r.2 ∙ eqb-true (bucket_of r.0.items) number
      (ap has_bucket (sym r.1.2) ∙ AllPass-from_list_all has_bucket keys all r.1.0 r.0 r.1.1)

  pub placed_all : (keys : List (Vec ℕ))
      → ((key : List ℕ) → has_key keys key ≡ true → bucket_of key ≡ number)
      → list_all (λ key. bucket_of key.items == number) keys ≡ true
  placed_all keys placed =
      list_all-from_AllPass has_bucket keys
      (λ i d less. let v = get_or keys i d in
      ap (λ n. n == number) (placed v.items (has_to keys v (All-contains_itself keys i d less)))
      ∙ number_itself number)
