-- Quoted texts and what they mean are one to one.
use Rattle.std.proofs.Common.{◌≡◌, ℕ, zero, suc, ◌+◌, ◌-◌, Bool, true, false, eqb, List, [], ◌∷◌, ◌++◌, ◌<◌, Option, Some, None, length, take, drop, append-nil, arith, refl, sym, ap, subst, ◌∙◌, inl, inr}
use Rattle.std.specs.Prelude.{IsTrue, slice_index, ◌==◌, ◌&&◌, cond}
use Rattle.std.specs.Option.{option_and_then, unwrap_or}
use Rattle.std.specs.List.{AllByRecursion, list_all}
use Rattle.std.proofs.lemmas.Bool.{cond_both, eqb-true, eqb-false, ne_eqb}
use Rattle.std.proofs.lemmas.List.{take_all, length-drop}
use Rattle.memchr.specs.Find.{IsFirstByte, is_byte}
use Rattle.gx_tokens.specs.Lexemes.{is_printable, after_quote, after_second, after_quoted}
use Rattle.gx_tokens.specs.Quotes.{doubled, unquoted}
use Rattle.gx_tokens.specs.Spelling.{IsQuoted}

-- what the bytes mean, behind the first quote of a pair or not, is written as these bytes
abbrev IsWritten : Bool → List ℕ → Type 0
IsWritten false text = doubled (unquoted false text) ≡ text
IsWritten true text = 34 ∷ doubled (unquoted true text) ≡ text

written_again : (second : Bool) (text : List ℕ) → IsQuoted second text → IsWritten second text
written_again false [] q = refl
written_again true [] q = absurd q
written_again true (b ∷ bs) q = let ih = written_again false bs q.1 in let e : b ≡ 34 = q.0 in
    rw (e, ih) refl
written_again false (b ∷ bs) (inl q) = let ih = written_again true bs q.1 in let e : b ≡ 34 = q.0 in
    rw e (ap (λ (ys : List ℕ). 34 ∷ ys) ih)
written_again false (b ∷ bs) (inr q) = let ih = written_again false bs q.2 in let e =
    ne_eqb b 34 q.0 in rw (e, ih) refl

pub doubled-unquoted : (text : List ℕ) → IsQuoted false text → doubled (unquoted false text) ≡ text
doubled-unquoted text q = written_again false text q

-- without a quote the bytes mean themselves
pub unquoted_plain : (text : List ℕ)
    → ((k : ℕ) → k < length text → (slice_index text k == 34) ≡ true → ⊥)
    → unquoted false text ≡ text
unquoted_plain [] none = refl
unquoted_plain (b ∷ bs) none = elim (b == 34) as (λ t. (b == 34) ≡ t → b ∷ unquoted t bs ≡ b ∷ bs) [
  | true ↦ λ is. absurd (none 0 (omega arith) is)
  | false ↦ λ _. ap (λ (ys : List ℕ). b ∷ ys)
      (unquoted_plain bs (λ k lt. none (suc k) (omega arith)))
] refl

-- the same, of a search for a quote
pub unquoted_without : (text : List ℕ) (found : Option ℕ) → IsFirstByte (is_byte 34) text found
    → found ≡ None → unquoted false text ≡ text
unquoted_without text None none _ = unquoted_plain text (λ k lt. none k (omega arith) lt)
unquoted_without text (Some at) _ e = cc

-- nor is any byte of them written twice
pub doubled_plain : (text : List ℕ)
    → ((k : ℕ) → k < length text → (slice_index text k == 34) ≡ true → ⊥) → doubled text ≡ text
doubled_plain [] none = refl
doubled_plain (b ∷ bs) none =
    elim (b == 34) as (λ t. (b == 34) ≡ t → cond t (34 ∷ 34 ∷ doubled bs)
    (b ∷ doubled bs) ≡ b ∷ bs) [
      | true ↦ λ is. absurd (none 0 (omega arith) is)
      | false ↦ λ _. ap (λ (ys : List ℕ). b ∷ ys)
          (doubled_plain bs (λ k lt. none (suc k) (omega arith)))
    ] refl

pub doubled_without : (text : List ℕ) (found : Option ℕ) → IsFirstByte (is_byte 34) text found
    → found ≡ None → doubled text ≡ text
doubled_without text None none _ = doubled_plain text (λ k lt. none k (omega arith) lt)
doubled_without text (Some at) _ e = cc

-- what is read where nothing is left
pub unquoted_whole : (second : Bool) (rest value whole : List ℕ) → length rest < 1
    → value ++ unquoted second rest ≡ whole → value ≡ whole
unquoted_whole second [] value whole h e = sym (append-nil value) ∙ e
unquoted_whole second (b ∷ bs) value whole h e = absurd (omega arith)

pub unquoted-doubled : (text : List ℕ) → unquoted false (doubled text) ≡ text
unquoted-doubled [] = refl
unquoted-doubled (b ∷ bs) =
    let ih = unquoted-doubled bs in
    cond_both (eqb b 34) (34 ∷ 34 ∷ doubled bs) (b ∷ doubled bs)
    (λ (ys : List ℕ). unquoted false ys ≡ b ∷ bs)
    (λ is. let e = eqb-true b 34 is in rw (e, ih) refl)
    (λ no. rw (no, ih) refl)

pub IsQuoted-doubled : (text : List ℕ) → AllByRecursion (λ b. IsTrue (is_printable b)) text
    → IsQuoted false (doubled text)
IsQuoted-doubled [] each = tt
IsQuoted-doubled (b ∷ bs) each =
    let ih = IsQuoted-doubled bs each.1 in
    cond_both (eqb b 34) (34 ∷ 34 ∷ doubled bs) (b ∷ doubled bs) (IsQuoted false)
    (λ is. inl (refl, (refl, ih)))
    (λ no. inr (eqb-false b 34 no, each.0, ih))

-- ---- the first quote

-- the quote at a place before which there is none
quote_at : (bytes : List ℕ) (at : ℕ) → at < length bytes
    → ((k : ℕ) → k < at → (slice_index bytes k == 34) ≡ true → ⊥)
    → (slice_index bytes at == 34) ≡ true
    → after_quote bytes ≡ cond (list_all is_printable (take at bytes)) (Some (drop (suc at) bytes))
    None
quote_at [] at within none is = absurd (omega arith)
quote_at (b ∷ bs) zero within none is = rw is refl
quote_at (b ∷ bs) (suc at) within none is =
    elim (b == 34) as (λ t. (b == 34) ≡ t
    → cond t (Some bs) (cond (is_printable b) (after_quote bs) None)
    ≡ cond (is_printable b && list_all is_printable (take at bs)) (Some (drop (suc at) bs)) None) [
      | true ↦ λ quote. absurd (none 0 (omega arith) quote)
      | false ↦ λ _. elim (is_printable b) as
          (λ t. cond t (after_quote bs) None ≡ cond (t && list_all is_printable (take at bs))
          (Some (drop (suc at) bs)) None) [
            | true ↦ quote_at bs at (omega arith) (λ k lt. none (suc k) (omega arith)) is
            | false ↦ refl
          ]
    ] refl

-- the same, of a search for a quote
pub quote_found : (bytes : List ℕ) (found : Option ℕ) (at : ℕ)
    → IsFirstByte (is_byte 34) bytes found → found ≡ Some at
    → (at < length bytes) × (after_quote bytes ≡ cond (list_all is_printable (take at bytes))
    (Some (drop (suc at) bytes)) None)
quote_found bytes None at first e = cc
quote_found bytes (Some k) at first e =
    let same : k ≡ at = ap (λ o. unwrap_or o 0) e in
    subst (λ n. (n < length bytes)
    × (after_quote bytes ≡ cond (list_all is_printable (take n bytes))
    (Some (drop (suc n) bytes)) None)) same (
      first.0.high,
      quote_at bytes k first.0.high
          (λ j lt. first.0.before j (omega arith) lt) first.1,
    )

-- what follows the quote that was found, where all bytes before it are printable
pub behind_printable : (bytes : List ℕ) (found : Option ℕ) (at : ℕ)
    → IsFirstByte (is_byte 34) bytes found → found ≡ Some at
    → true ≡ list_all is_printable (take at bytes)
    → Some (take (length bytes - (at + 1)) (drop (at + 1) bytes)) ≡ after_quote bytes
behind_printable bytes found at first e all =
    let told = quote_found bytes found at first e in
    let next : at + 1 ≡ suc at = omega arith in
    ap (λ (xs : List ℕ). Some xs)
    (take_all (length bytes - (at + 1)) (drop (at + 1) bytes)
    (omega (arith, length-drop (at + 1) bytes)) ∙ ap (λ (n : ℕ). drop n bytes) next)
    ∙ ap (λ t. cond t (Some (drop (suc at) bytes)) None) all ∙ sym told.1

-- and where one isn't
pub behind_others : (bytes : List ℕ) (found : Option ℕ) (at : ℕ)
    → IsFirstByte (is_byte 34) bytes found → found ≡ Some at
    → false ≡ list_all is_printable (take at bytes)
    → None ≡ after_quote bytes
behind_others bytes found at first e some =
    let told = quote_found bytes found at first e in
    ap (λ t. cond t (Some (drop (suc at) bytes)) None) some ∙ sym told.1

no_quote : (bytes : List ℕ) → ((k : ℕ) → k < length bytes → (slice_index bytes k == 34) ≡ true → ⊥)
    → after_quote bytes ≡ None
no_quote [] none = refl
no_quote (b ∷ bs) none =
    elim (b == 34) as (λ t. (b == 34) ≡ t
    → cond t (Some bs) (cond (is_printable b) (after_quote bs) None) ≡ None) [
      | true ↦ λ is. absurd (none 0 (omega arith) is)
      | false ↦ λ _. elim (is_printable b) as (λ t. cond t (after_quote bs) None ≡ None) [
        | true ↦ no_quote bs (λ k lt. none (suc k) (omega arith))
        | false ↦ refl
      ]
    ] refl

pub no_quote_found : (bytes : List ℕ) (found : Option ℕ) → IsFirstByte (is_byte 34) bytes found
    → found ≡ None → after_quote bytes ≡ None
no_quote_found bytes None none _ = no_quote bytes (λ k lt. none k (omega arith) lt)
no_quote_found bytes (Some at) none e = cc

-- ---- the quote that ends a text

-- all hangs on what follows the first quote
pub by_first_quote : (bytes : List ℕ)
    → after_quoted false bytes ≡ option_and_then (after_quoted true) (after_quote bytes)
by_first_quote [] = refl
by_first_quote (b ∷ bs) =
    elim (b == 34) as (λ t. cond t (after_quoted true bs)
    (cond (is_printable b) (after_quoted false bs) None) ≡ option_and_then (after_quoted true)
    (cond t (Some bs) (cond (is_printable b) (after_quote bs) None))) [
      | true ↦ refl
      | false ↦ elim (is_printable b) as
          (λ t. cond t (after_quoted false bs) None ≡ option_and_then (after_quoted true)
          (cond t (after_quote bs) None)) [
            | true ↦ by_first_quote bs
            | false ↦ refl
          ]
    ]

-- and then on a second one
abbrev behind_second : List ℕ → Option (List ℕ) → Option (List ℕ)
behind_second after None = Some after
behind_second after (Some second) = after_quoted false second

by_second_quote : (after : List ℕ)
    → after_quoted true after ≡ behind_second after (after_second after)
by_second_quote [] = refl
by_second_quote (b ∷ bs) =
    elim (b == 34) as (λ t. cond t (after_quoted false bs) (Some (b ∷ bs)) ≡ behind_second (b ∷ bs)
    (cond t (Some bs) None)) [
      | true ↦ refl
      | false ↦ refl
    ]

module _ (bytes rest : List ℕ) (so_far : after_quoted false rest ≡ after_quoted false bytes) where
  seen : (after : List ℕ) (second : Option (List ℕ)) → Some after ≡ after_quote rest
      → second ≡ after_second after → behind_second after second ≡ after_quoted false bytes
  seen after second first next =
      ap (behind_second after) next
      ∙ sym (by_second_quote after)
      ∙ ap (option_and_then (after_quoted true)) first
      ∙ sym (by_first_quote rest)
      ∙ so_far

  pub goes_on : (after second : List ℕ) → Some after ≡ after_quote rest
      → Some second ≡ after_second after → after_quoted false second ≡ after_quoted false bytes
  goes_on after second = seen after (Some second)

  pub ends_here : (after : List ℕ) → Some after ≡ after_quote rest → None ≡ after_second after
      → Some after ≡ after_quoted false bytes
  ends_here after = seen after None

  pub never_ends : None ≡ after_quote rest → None ≡ after_quoted false bytes
  never_ends none = ap (option_and_then (after_quoted true)) none ∙ sym (by_first_quote rest)
      ∙ so_far
