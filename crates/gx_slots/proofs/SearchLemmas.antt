-- A search for the entry with a key.
use Rattle.std.proofs.Common.{◌≡◌, ◌≢◌, ℕ, ◌<◌, List, [], ◌∷◌, length, Option, Some, None, Bool, true, false, not, refl, sym, ap, ◌∙◌, subst}
use Rattle.std.specs.List.{All, HoldsAt}
use Rattle.std.specs.Option.{is_some, IfSome, IfNone}
use Rattle.std.proofs.lemmas.Bool.{false≢true}
use Rattle.gx_bytes.proofs.SearchLemmas.{IsAt, at_next}
use Rattle.gx_slots.specs.Entries.{Entry}

-- the entry that a search has come to has the key
pub at_found : (entries : List Entry) (key : List ℕ) (place : ℕ) (left : List Entry) (entry : Entry)
    (rest : List Entry) → IsAt entries place left → left ≡ entry ∷ rest → entry.key ≡ key
    → (place < length entries) × HoldsAt (λ found. found.key ≡ key) entries place
at_found entries key place left entry rest at is same =
    let next = at_next entries place left entry rest at is in
    (next.0, λ d. ap (λ (e : Entry). e.key) (next.1 d) ∙ same)

-- a search that found no place tells that no entry has the key
pub none_found : (result : Option ℕ) (answer : Bool) (entries same : List Entry) (key : List ℕ)
    → is_some result ≡ not answer
    → IfSome result (λ i. (i < length same) × HoldsAt (λ entry. entry.key ≡ key) same i)
    → IfNone result (All (λ entry. entry.key ≢ key) same) → same ≡ entries
    → (answer ≡ true → All (λ entry. entry.key ≢ key) entries)
    × (All (λ entry. entry.key ≢ key) entries → answer ≡ true)
none_found None true entries same key is found missing equal =
    (λ _. subst (All (λ entry. entry.key ≢ key)) equal missing, λ _. refl)
none_found (Some i) true entries same key is found missing equal = absurd (false≢true (sym is))
none_found None false entries same key is found missing equal = absurd (false≢true is)
none_found (Some i) false entries same key is found missing equal = (
  λ bad. absurd (false≢true bad),
  λ all. absurd (subst (All (λ entry. entry.key ≢ key)) (sym equal) all i
      (record { key = []; body = [] }) found.0 (found.1 (record { key = []; body = [] }))),
)
