-- Where a member that comes stands among the members of its owner.
use Rattle.std.proofs.Common.{◌≡◌, ◌≤◌, ◌-◌, ◌+◌, ℕ, suc, zero, Bool, true, false, cond, not, List, [], ◌∷◌, ◌++◌, length, take, drop, slice_get, Option, Some, None, inl, inr, refl, sym, ap, subst, ◌∙◌, arith}
use Rattle.std.specs.Prelude.{unwrap_or}
use Rattle.std.specs.List.{position, position_or_len}
use Rattle.std.specs.Ordering.{is_ge, ordering_reverse}
use Rattle.std.specs.declared.cmp.Ordering.{Ordering}
use Rattle.std.specs.declared.cmp.Ordering.TheVariants.{Less, Equal, Greater}
use Rattle.std.proofs.lemmas.Bool.{true≢false, cases_lt, lt-ltb, le-ltb}
use Rattle.std.specs.FinMap as fin
use Rattle.std.proofs.lemmas.Option.{same_Some}
use Rattle.gx_values.specs.declared.values.Value.{Value}
use Rattle.gx_values.specs.Values.{value_cmp}
use Rattle.gx_values.proofs.OrderLemmas.{value_cmp_total, value_cmp_same}
use Rattle.gx_mapping.specs.Rule.{In}
use Rattle.gx_mapping.proofs.RuleLemmas.{all_in}
use Rattle.gx_gather.proofs.Lists.{none_some}
use Rattle.gx_gather.proofs.Orders.{Ascends}
use Rattle.gx_links.specs.Links.{Link, members_of}
use Rattle.gx_links.proofs.MemberLemmas.{from_members, members_ascend}
use Rattle.gx_ring.specs.Ring.{first}
use Rattle.gx_ring.specs.Places.{place_of, last, before_in, next_in}

-- ---- places

pub place_within : {A : Type 0} (p : A → Bool) (xs : List A) → position_or_len p xs ≤ length xs
place_within p [] = omega arith
place_within p (x ∷ xs) = go (p x) (place_within p xs)
  where
    go : (b : Bool) → position_or_len p xs ≤ length xs
        → cond (not b) (1 + position_or_len p xs) 0 ≤ suc (length xs)
    go true le = omega arith
    go false le = omega (arith, le)

pub place_or_end : {A : Type 0} (p : A → Bool) (xs : List A)
    → unwrap_or (position p xs) (length xs) ≡ position_or_len p xs
place_or_end p xs = elim (cases_lt (position_or_len p xs) (length xs)) [
  | inl lt ↦ ap (λ b. unwrap_or (cond b (Some (position_or_len p xs)) None) (length xs))
      (lt-ltb (position_or_len p xs) (length xs) lt)
  | inr le ↦ ap (λ b. unwrap_or (cond b (Some (position_or_len p xs)) None) (length xs))
      (le-ltb (position_or_len p xs) (length xs) le)
      ∙ (let within = place_within p xs in omega (arith, le, within))
]

pub cut : {A : Type 0} (at : ℕ) (xs : List A) → xs ≡ take at xs ++ drop at xs
cut zero xs = refl
cut (suc at) [] = refl
cut (suc at) (x ∷ xs) = λ i. x ∷ cut at xs i

not_ge : (r : Ordering) → is_ge r ≡ false → r ≡ Less
not_ge Less e = refl
not_ge Equal e = absurd (true≢false e)
not_ge Greater e = absurd (true≢false e)

above : (x m : Value) → is_ge (value_cmp x m) ≡ true → (m ≡ x → ⊥) → value_cmp m x ≡ Less
above x m e ne = go (value_cmp x m) refl e
  where
    go : (r : Ordering) → value_cmp x m ≡ r → is_ge r ≡ true → value_cmp m x ≡ Less
    go Less is f = absurd (true≢false (sym f))
    go Equal is f = absurd (ne (sym (value_cmp_same x m is)))
    go Greater is f = value_cmp_total.antisymm m x ∙ ap ordering_reverse is

place_step : (y : Value) (ms : List Value) (m : Value)
    → place_of (y ∷ ms) m ≡ cond (not (is_ge (value_cmp y m))) (suc (place_of ms m)) 0
place_step y ms m = ap (λ n. cond (not (is_ge (value_cmp y m))) n 0)
    (let e : 1 + place_of ms m ≡ suc (place_of ms m) = omega arith in e)

pub lower_in : (ms : List Value) (m x : Value) → In x (take (place_of ms m) ms)
    → value_cmp x m ≡ Less
lower_in [] m x h = absurd h
lower_in (y ∷ ms) m x h =
    go (is_ge (value_cmp y m)) refl (λ k. lower_in ms m x k)
    (subst (λ n. In x (take n (y ∷ ms))) (place_step y ms m) h)
  where
    go : (b : Bool) → is_ge (value_cmp y m) ≡ b
        → (In x (take (place_of ms m) ms) → value_cmp x m ≡ Less)
        → In x (take (cond (not b) (suc (place_of ms m)) 0) (y ∷ ms)) → value_cmp x m ≡ Less
    go true e more k = absurd k
    go false e more (inl is) = ap (λ z. value_cmp z m) is ∙ not_ge (value_cmp y m) e
    go false e more (inr k) = more k

pub upper_in : (ms : List Value) (m x : Value) → Ascends value_cmp ms → (In m ms → ⊥)
    → In x (drop (place_of ms m) ms) → value_cmp m x ≡ Less
upper_in [] m x up new h = absurd h
upper_in (y ∷ ms) m x up new h =
    go (is_ge (value_cmp y m)) refl (λ k. upper_in ms m x up.1 (λ j. new (inr j)) k)
    (subst (λ n. In x (drop n (y ∷ ms))) (place_step y ms m) h)
  where
    over : is_ge (value_cmp y m) ≡ true → value_cmp m y ≡ Less
    over e = above y m e (λ is. new (inl is))

    go : (b : Bool) → is_ge (value_cmp y m) ≡ b
        → (In x (drop (place_of ms m) ms) → value_cmp m x ≡ Less)
        → In x (drop (cond (not b) (suc (place_of ms m)) 0) (y ∷ ms)) → value_cmp m x ≡ Less
    go true e more (inl is) = ap (value_cmp m) is ∙ over e
    go true e more (inr k) = value_cmp_total.trans m y x (over e) (all_in _ ms x up.0 k)
    go false e more k = more k

-- ---- the last and the first of some

last_more : {A : Type 0} (x y : A) (xs : List A)
    → slice_get (x ∷ y ∷ xs) (length (x ∷ y ∷ xs) - 1) ≡ slice_get (y ∷ xs) (length (y ∷ xs) - 1)
last_more x y xs = ap (slice_get (x ∷ y ∷ xs))
    (let e : suc (suc (length xs)) - 1 ≡ suc (suc (length xs) - 1) = omega arith in e)

pub last_none : (xs : List Value) → last xs ≡ None → xs ≡ []
last_none [] e = refl
last_none (x ∷ []) e = absurd (none_some x (sym e))
last_none (x ∷ y ∷ xs) e =
    absurd (some_there (y ∷ xs) (last_none (y ∷ xs) (sym (last_more x y xs) ∙ e)))
  where
    some_there : (ys : List Value) → y ∷ xs ≡ [] → ⊥
    some_there ys is = subst (In y) is (inl refl)

pub last_some : (xs : List Value) (p : Value) → last xs ≡ Some p
    → (us : List Value) × (xs ≡ us ++ p ∷ [])
last_some [] p e = absurd (none_some p e)
last_some (x ∷ []) p e = ([], ap (λ z. z ∷ []) (same_Some x p e))
last_some (x ∷ y ∷ xs) p e =
    (let r = last_some (y ∷ xs) p (sym (last_more x y xs) ∙ e) in (x ∷ r.0, ap (λ zs. x ∷ zs) r.1))

pub get_first : (xs : List Value) → slice_get xs 0 ≡ first xs
get_first [] = refl
get_first (x ∷ xs) = refl

-- ---- a member that isn't there is to stand behind these and before those

pub record IsPlace (ms : List Value) (m : Value) (before next : Option Value) : Type 0 where
  pub front : List Value
  pub rest : List Value
  pub split : ms ≡ front ++ rest
  pub last_is : before ≡ last front
  pub first_is : next ≡ first rest
  pub lower : (x : Value) → In x front → value_cmp x m ≡ Less
  pub upper : (x : Value) → In x rest → value_cmp m x ≡ Less

pub place_there : (link : Link) (o m : Value) → fin.get link m ≡ None
    → IsPlace (members_of link o) m (before_in (members_of link o) m)
    (next_in (members_of link o) m)
place_there link o m free =
    let ms = members_of link o in
    record {
      front = take (place_of ms m) ms;
      rest = drop (place_of ms m) ms;
      split = cut (place_of ms m) ms;
      last_is = refl;
      first_is = get_first (drop (place_of ms m) ms);
      lower = λ x h. lower_in ms m x h;
      upper = λ x h. upper_in ms m x (members_ascend link o)
          (λ k. none_some o (sym free ∙ from_members link o m k)) h;
    }
