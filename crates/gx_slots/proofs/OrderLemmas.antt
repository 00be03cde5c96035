-- The place of a key among entries that ascend.
use Rattle.std.proofs.Common.{◌≡◌, ℕ, zero, suc, ◌+◌, ◌<◌, Bool, true, false, List, [], ◌∷◌, length, drop, get_or, refl, sym, ap, ◌∙◌, subst, arith}
use Rattle.std.specs.List.{All, HoldsAt}
use Rattle.std.specs.Ordering.{is_le, is_lt, ordering_reverse}
use Rattle.std.specs.declared.cmp.Ordering.TheVariants.{Less}
use Rattle.std.proofs.lemmas.Bool.{false≢true}
use Rattle.std.proofs.lemmas.Cmp.{nat_list_cmp_total}
use Rattle.std.proofs.lemmas.List.{drop_all, get_or-drop, length-drop}
use Rattle.std.proofs.lemmas.List.Elements.{All-nil}
use Rattle.gx_laws.proofs.OrderingLemmas.{less_from_lt}
use Rattle.gx_order.proofs.BelowLemmas.{cmp, not_below_is_le}
use Rattle.gx_bytes.proofs.SearchLemmas.{IsAt, at_next, at_end}
use Rattle.gx_slots.specs.Entries.{Entry, AreAscending}

-- a key that is at or below one is so to all behind that
pub le_less : (a b c : List ℕ) → is_le (cmp a b) ≡ true → cmp b c ≡ Less → is_le (cmp a c) ≡ true
le_less a b c le less = go (is_lt (cmp c a)) refl where
  go : (answer : Bool) → is_lt (cmp c a) ≡ answer → is_le (cmp a c) ≡ true
  go true e =
      absurd (false≢true (sym (ap is_le (nat_list_cmp_total.antisymm a b
      ∙ ap ordering_reverse (nat_list_cmp_total.trans b c a less (less_from_lt (cmp c a) e))))
      ∙ le))
  go false e = not_below_is_le c a false (sym e) refl

pub all_behind : (entries : List Entry) (i : ℕ) (key : List ℕ) (entry : Entry)
    → AreAscending entries → i < length entries → ((d : Entry) → get_or entries i d ≡ entry)
    → is_le (cmp key entry.key) ≡ true
    → All (λ e. is_le (cmp key e.key) ≡ true) (drop i entries)
all_behind entries i key entry ascending below at le k d in' =
    subst (λ (e : Entry). is_le (cmp key e.key) ≡ true) (sym (get_or-drop i entries k d)) (go k in')
  where
    here : is_le (cmp key (get_or entries i d).key) ≡ true
    here = subst (λ (e : Entry). is_le (cmp key e.key) ≡ true) (sym (at d)) le

    go : (k : ℕ) → k < length (drop i entries)
        → is_le (cmp key (get_or entries (i + k) d).key) ≡ true
    go zero in' =
        subst (λ (n : ℕ). is_le (cmp key (get_or entries n d).key) ≡ true)
        (let n : i ≡ i + 0 = omega arith in n) here
    go (suc k) in' =
        le_less key (get_or entries i d).key (get_or entries (i + suc k) d).key here
        (ascending i (i + suc k) d (omega arith) (omega (arith, length-drop i entries)))

-- the key of an entry stands before one
abbrev pub IsBefore : List ℕ → Entry → Type 0
IsBefore key entry = cmp entry.key key ≡ Less

-- a search has come to an entry whose key doesn't
pub stops_at : (entries : List Entry) (key : List ℕ) (place : ℕ) (left : List Entry)
    (entry : Entry)
    (rest : List Entry) → IsAt entries place left → left ≡ entry ∷ rest
    → is_le (cmp key entry.key) ≡ true
    → HoldsAt (λ e. is_le (cmp key e.key) ≡ true) entries place
stops_at entries key place left entry rest at is le d =
    let next = at_next entries place left entry rest at is in
    subst (λ (e : Entry). is_le (cmp key e.key) ≡ true) (sym (next.1 d)) le

-- where a search has come to an entry whose key doesn't, those of all entries from there on don't
pub at_behind : (entries : List Entry) (key : List ℕ) (place : ℕ) (left : List Entry)
    (entry : Entry)
    (rest : List Entry) → IsAt entries place left → left ≡ entry ∷ rest
    → is_le (cmp key entry.key) ≡ true → AreAscending entries
    → All (λ e. is_le (cmp key e.key) ≡ true) (drop place entries)
at_behind entries key place left entry rest at is le ascending =
    let next = at_next entries place left entry rest at is in
    all_behind entries place key entry ascending next.0 next.1 le

pub none_behind : (entries : List Entry) (key : List ℕ) (place : ℕ) (left : List Entry)
    → IsAt entries place left → left ≡ []
    → All (λ e. is_le (cmp key e.key) ≡ true) (drop place entries)
none_behind entries key place left at none =
    subst (All (λ e. is_le (cmp key e.key) ≡ true))
    (sym (drop_all place entries (at_end entries place left at none)))
    (All-nil (λ e. is_le (cmp key e.key) ≡ true))
