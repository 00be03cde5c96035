-- What is found is the first token.
use Rattle.std.proofs.Common.{◌≡◌, ℕ, suc, ◌+◌, ◌-◌, ◌≤◌, Bool, true, false, not, ◌||◌, cond, eqb, ltb, List, [], ◌∷◌, ◌++◌, length, take, drop, Option, Some, None, option_map, Result, Ok, Err, refl, sym, ap, subst, ◌∙◌, append_assoc, arith, ◌⊎◌, inl, inr}
use Rattle.std.specs.Prelude.{IsTrue}
use Rattle.std.specs.List.{prefix_len, AllByRecursion}
use Rattle.std.proofs.lemmas.Bool.{ltb-false, eqb-true, eqb-false, cond_both, or_parts, or_left}
use Rattle.std.proofs.lemmas.List.{take_at, take-append-drop, length-append}
use Rattle.std.proofs.lemmas.List.Folds.{length-prefix_len}
use Rattle.std.proofs.lemmas.Option.{same_Some}
use Rattle.gx_tokens.specs.declared.fault.Fault.{Fault}
use Rattle.gx_tokens.specs.declared.why.Why.TheVariants as why
use Rattle.gx_tokens.specs.Lexemes.{Lexeme, Word, Number, Quoted, Open, Close, Comma, Equals, End, is_blank, after_blanks, is_digit, is_word_start, is_word_byte, continues_run, is_printable, after_quoted, split_word, split_number, split_quoted, token_or, token_here, next_token}
use Rattle.gx_tokens.specs.Reading.{map_ok}
use Rattle.std.specs.Result.{IfOk}
use Rattle.gx_tokens.specs.Spelling.{spelling, StartsWord, IsWord, AreDigits, IsNumber, IsQuoted, IsToken, NoQuote, MayFollow, AreBlanks, Begins, FirstToken}

abbrev done : {A : Type 0} → A → Result A Fault
done x = Ok x

pub done_is : {A : Type 0} (x y : A) → done x ≡ done y → x ≡ y
done_is x y e = cc

guard_some : {A : Type 0} (b : Bool) (x y : A) → cond b None (Some x) ≡ Some y
    → (b ≡ false) × (x ≡ y)
guard_some true x y e = absurd cc
guard_some false x y e = (refl, cc)

token_or_ok : (kind : List ℕ → Lexeme) (left : ℕ) (o : Option (List ℕ × List ℕ)) (x : Lexeme
    × List ℕ) → token_or kind left o ≡ Ok x → (y : List ℕ × List ℕ) × (o ≡ Some y)
    × ((kind y.0, y.1) ≡ x)
token_or_ok kind left None x e = absurd cc
token_or_ok kind left (Some y) x e = (y, refl, done_is (kind y.0, y.1) x e)

-- ---- runs of bytes

each_step : (p : ℕ → Bool) (x : ℕ) (xs : List ℕ) (n : ℕ) (b : Bool) → p x ≡ b
    → AllByRecursion (λ y. IsTrue (p y)) (take n xs)
    → AllByRecursion (λ y. IsTrue (p y)) (take (cond b (1 + n) 0) (x ∷ xs))
each_step p x xs n true e h = let k : 1 + n ≡ suc n = omega arith in rw k (e, h)
each_step p x xs n false e h = tt

pub each_of_run : (p : ℕ → Bool) (xs : List ℕ)
    → AllByRecursion (λ y. IsTrue (p y)) (take (prefix_len p xs) xs)
each_of_run p [] = tt
each_of_run p (x ∷ xs) = each_step p x xs (prefix_len p xs) (p x) refl (each_of_run p xs)

starts_step : (b : ℕ) (bs : List ℕ) (n : ℕ) (t : Bool) → t ≡ true → is_word_start b ≡ true
    → StartsWord (take (cond t (1 + n) 0) (b ∷ bs))
starts_step b bs n true e h = let k : 1 + n ≡ suc n = omega arith in rw k h
starts_step b bs n false e h = absurd cc

-- ---- words, numbers, quoted texts

record Taken (text token rest : List ℕ) : Type 0 where
  pub parts : text ≡ token ++ rest
  pub apart : continues_run rest ≡ false

word_found : (b : ℕ) (bs : List ℕ) (y : List ℕ × List ℕ) → is_word_start b ≡ true
    → split_word (b ∷ bs) ≡ Some y → IsWord y.0 × Taken (b ∷ bs) y.0 y.1
word_found b bs y starts e =
    let text = b ∷ bs in
    let n = prefix_len is_word_byte text in
    let g = guard_some (ltb 16 n || continues_run (drop n text)) (take n text, drop n text) y e in
    let tests = or_parts _ _ g.0 in
    let short : n ≤ 16 = ltb-false _ _ tests.0 in
    let word : IsWord (take n text) = record {
      starts = starts_step b bs (prefix_len is_word_byte bs) (is_word_byte b)
          (or_left _ _ starts) starts;
      each = each_of_run is_word_byte text;
      short = omega (arith, length-prefix_len is_word_byte text);
    } in
    subst (λ (z : List ℕ × List ℕ). IsWord z.0 × Taken text z.0 z.1) g.1
    (word, record { parts = sym (take-append-drop n text); apart = tests.1 })

digits_found : (xs : List ℕ) → eqb (prefix_len is_digit xs) 0 ≡ false
    → AreDigits (take (prefix_len is_digit xs) xs)
digits_found xs h =
    let some : prefix_len is_digit xs ≡ 0 → ⊥ = eqb-false _ _ h in
    record { some = omega (arith, length-prefix_len is_digit xs); each = each_of_run is_digit xs }

number_by : (b : ℕ) (bs : List ℕ) (y : List ℕ × List ℕ) (t : Bool) → eqb b 45 ≡ t
    → cond (eqb (prefix_len is_digit (drop (cond t 1 0) (b ∷ bs))) 0 || continues_run
    (drop (cond t 1 0 + prefix_len is_digit (drop (cond t 1 0) (b ∷ bs))) (b ∷ bs)))
    None
    (Some (
      take (cond t 1 0 + prefix_len is_digit (drop (cond t 1 0) (b ∷ bs))) (b ∷ bs),
      drop (cond t 1 0 + prefix_len is_digit (drop (cond t 1 0) (b ∷ bs))) (b ∷ bs),
    )) ≡ Some y
    → IsNumber y.0 × Taken (b ∷ bs) y.0 y.1
number_by b bs y true sign e =
    let n = prefix_len is_digit bs in
    let g = guard_some (eqb n 0 || continues_run (drop (1 + n) (b ∷ bs)))
    (take (1 + n) (b ∷ bs), drop (1 + n) (b ∷ bs)) y e in
    let tests = or_parts _ _ g.0 in
    let k : 1 + n ≡ suc n = omega arith in
    let is45 : b ≡ 45 = eqb-true _ _ sign in
    let number : IsNumber (take (1 + n) (b ∷ bs)) =
    inr (take n bs, rw (k, is45) refl, digits_found bs tests.0) in
    subst (λ (z : List ℕ × List ℕ). IsNumber z.0 × Taken (b ∷ bs) z.0 z.1) g.1
    (number, record { parts = sym (take-append-drop (1 + n) (b ∷ bs)); apart = tests.1 })
number_by b bs y false sign e =
    let n = prefix_len is_digit (b ∷ bs) in
    let g = guard_some (eqb n 0 || continues_run (drop (0 + n) (b ∷ bs)))
    (take (0 + n) (b ∷ bs), drop (0 + n) (b ∷ bs)) y e in
    let tests = or_parts _ _ g.0 in
    let k : 0 + n ≡ n = omega arith in
    let number : IsNumber (take (0 + n) (b ∷ bs)) = rw k (inl (digits_found (b ∷ bs) tests.0)) in
    subst (λ (z : List ℕ × List ℕ). IsNumber z.0 × Taken (b ∷ bs) z.0 z.1) g.1
    (number, record { parts = sym (take-append-drop (0 + n) (b ∷ bs)); apart = tests.1 })

number_found : (b : ℕ) (bs : List ℕ) (y : List ℕ × List ℕ) → split_number (b ∷ bs) ≡ Some y
    → IsNumber y.0 × Taken (b ∷ bs) y.0 y.1
number_found b bs y e = number_by b bs y (eqb b 45) refl e

-- the text up to the quote that ends it
abbrev UpToQuote : Bool → List ℕ → List ℕ → Type 0
UpToQuote flag bs rest = (text : List ℕ) × (bs ≡ text ++ 34 ∷ rest) × IsQuoted flag text

-- where a quote has just come, it may be the last one
abbrev Closes : Bool → List ℕ → List ℕ → Type 0
Closes false bs rest = UpToQuote false bs rest × NoQuote rest
Closes true bs rest = ((bs ≡ rest) ⊎ UpToQuote true bs rest) × NoQuote rest

closes : (flag : Bool) (bs rest : List ℕ) → after_quoted flag bs ≡ Some rest → Closes flag bs rest
closes true [] rest e =
    subst (λ (r : List ℕ). Closes true [] r) (same_Some [] rest e) (inl refl, tt)
closes false [] rest e = absurd cc
closes true (b ∷ bs) rest e =
    cond_both (eqb b 34) (after_quoted false bs) (Some (b ∷ bs))
    (λ (r : Option (List ℕ)). r ≡ Some rest → Closes true (b ∷ bs) rest)
    (λ is h. let c = closes false bs rest h in
    (inr (b ∷ c.0.0, ap (λ (ys : List ℕ). b ∷ ys) c.0.1, (eqb-true _ _ is, c.0.2)), c.1))
    (λ no h. subst (λ (r : List ℕ). Closes true (b ∷ bs) r) (same_Some (b ∷ bs) rest h)
    (inl refl, eqb-false _ _ no))
    e
closes false (b ∷ bs) rest e =
    cond_both (eqb b 34) (after_quoted true bs) (cond (is_printable b) (after_quoted false bs) None)
    (λ (r : Option (List ℕ)). r ≡ Some rest → Closes false (b ∷ bs) rest)
    (λ is h. let c = closes true bs rest h in (
      elim c.0 [
        | inl same ↦ ([], rw (same, eqb-true b 34 is) refl, tt)
        | inr up ↦ (b ∷ up.0, ap (λ (ys : List ℕ). b ∷ ys) up.1, inl (eqb-true _ _ is, up.2))
      ],
      c.1,
    ))
    (λ no h. cond_both (is_printable b) (after_quoted false bs) None
    (λ (r : Option (List ℕ)). r ≡ Some rest → Closes false (b ∷ bs) rest)
    (λ printable k. let c = closes false bs rest k in (
      (b ∷ c.0.0, ap (λ (ys : List ℕ). b ∷ ys) c.0.1, inr (eqb-false _ _ no, printable, c.0.2)),
      c.1,
    ))
    (λ _ k. absurd cc)
    h)
    e

quoted_by : (bs : List ℕ) (y : List ℕ × List ℕ) (o : Option (List ℕ)) → after_quoted false bs ≡ o
    → option_map (λ rest. (take (length bs - length rest - 1) bs, rest)) o ≡ Some y
    → IsQuoted false y.0 × (34 ∷ bs ≡ (34 ∷ y.0 ++ 34 ∷ []) ++ y.1) × NoQuote y.1
quoted_by bs y None is e = absurd cc
quoted_by bs y (Some rest) is e =
    let c = closes false bs rest is in
    let text = c.0.0 in
    let len : length bs - length rest - 1 ≡ length text =
    omega (arith, ap length c.0.1, length-append text (34 ∷ rest)) in
    let front : take (length bs - length rest - 1) bs ≡ text =
    rw len (ap (take (length text)) c.0.1 ∙ take_at text (34 ∷ rest) (length text) refl) in
    let whole : 34 ∷ bs ≡ (34 ∷ text ++ 34 ∷ []) ++ rest =
    ap (λ (ys : List ℕ). 34 ∷ ys) (c.0.1 ∙ sym (append_assoc text (34 ∷ []) rest)) in
    let at_text : IsQuoted false text × (34 ∷ bs ≡ (34 ∷ text ++ 34 ∷ []) ++ rest) × NoQuote rest =
    (c.0.2, whole, c.1) in
    subst (λ (z : List ℕ × List ℕ). IsQuoted false z.0 × (34 ∷ bs ≡ (34 ∷ z.0 ++ 34 ∷ []) ++ z.1)
    × NoQuote z.1) (same_Some (take (length bs - length rest - 1) bs, rest) y e)
    (rw front at_text)

quoted_found : (bs : List ℕ) (y : List ℕ × List ℕ) → split_quoted bs ≡ Some y
    → IsQuoted false y.0 × (34 ∷ bs ≡ (34 ∷ y.0 ++ 34 ∷ []) ++ y.1) × NoQuote y.1
quoted_found bs y e = quoted_by bs y (after_quoted false bs) refl e

mark_found : (b c : ℕ) (bs : List ℕ) (t : Lexeme) (x : Lexeme × List ℕ) → c ∷ [] ≡ spelling t
    → IsToken t → ((rest : List ℕ) → MayFollow t rest) → eqb b c ≡ true → done (t, bs) ≡ Ok x
    → Begins (b ∷ bs) x.0 x.1
mark_found b c bs t x sp tok free is e =
    subst (λ (y : Lexeme × List ℕ). Begins (b ∷ bs) y.0 y.1) (done_is (t, bs) x e) (record {
      parts = ap (λ (n : ℕ). n ∷ bs) (eqb-true b c is) ∙ ap (λ (ys : List ℕ). ys ++ bs) sp;
      is_token = tok;
      follows = free bs;
    })

abbrev Finds : List ℕ → Lexeme × List ℕ → Result (Lexeme × List ℕ) Fault → Type 0
Finds text x r = r ≡ Ok x → Begins text x.0 x.1

quote_case : (b : ℕ) (bs : List ℕ) (left : ℕ) (x : Lexeme × List ℕ) → eqb b 34 ≡ true
    → Finds (b ∷ bs) x (token_or Quoted left (split_quoted bs))
quote_case b bs left x is e =
    let t = token_or_ok Quoted left (split_quoted bs) x e in
    let q = quoted_found bs t.0 t.1 in
    subst (λ (y : Lexeme × List ℕ). Begins (b ∷ bs) y.0 y.1) t.2
    (record {
      parts = ap (λ (n : ℕ). n ∷ bs) (eqb-true b 34 is) ∙ q.1;
      is_token = q.0;
      follows = q.2;
    })

word_case : (b : ℕ) (bs : List ℕ) (left : ℕ) (x : Lexeme × List ℕ) → is_word_start b ≡ true
    → Finds (b ∷ bs) x (token_or Word left (split_word (b ∷ bs)))
word_case b bs left x is e =
    let t = token_or_ok Word left (split_word (b ∷ bs)) x e in
    let w = word_found b bs t.0 is t.1 in
    subst (λ (y : Lexeme × List ℕ). Begins (b ∷ bs) y.0 y.1) t.2
    (record { parts = w.1.parts; is_token = w.0; follows = w.1.apart })

number_case : (b : ℕ) (bs : List ℕ) (left : ℕ) (x : Lexeme × List ℕ)
    → Finds (b ∷ bs) x (token_or Number left (split_number (b ∷ bs)))
number_case b bs left x e =
    let t = token_or_ok Number left (split_number (b ∷ bs)) x e in
    let n = number_found b bs t.0 t.1 in
    subst (λ (y : Lexeme × List ℕ). Begins (b ∷ bs) y.0 y.1) t.2
    (record { parts = n.1.parts; is_token = n.0; follows = n.1.apart })

pub found_here : (text : List ℕ) (x : Lexeme × List ℕ) → Finds text x (token_here text)
found_here [] x e = subst (λ (y : Lexeme × List ℕ). Begins [] y.0 y.1) (done_is (End, []) x e)
    (record { parts = refl; is_token = tt; follows = refl })
found_here (b ∷ bs) x e =
    cond_both (eqb b 40) _ _ (Finds (b ∷ bs) x)
    (λ is h. mark_found b 40 bs Open x refl tt (λ _. tt) is h) (λ _.
    cond_both (eqb b 41) _ _ (Finds (b ∷ bs) x)
    (λ is h. mark_found b 41 bs Close x refl tt (λ _. tt) is h) (λ _.
    cond_both (eqb b 44) _ _ (Finds (b ∷ bs) x)
    (λ is h. mark_found b 44 bs Comma x refl tt (λ _. tt) is h) (λ _.
    cond_both (eqb b 61) _ _ (Finds (b ∷ bs) x)
    (λ is h. mark_found b 61 bs Equals x refl tt (λ _. tt) is h) (λ _.
    cond_both (eqb b 34) _ _ (Finds (b ∷ bs) x) (quote_case b bs (length (b ∷ bs)) x) (λ _.
    cond_both (is_word_start b) _ _ (Finds (b ∷ bs) x) (word_case b bs (length (b ∷ bs)) x) (λ _.
    number_case b bs (length (b ∷ bs)) x)))))) e

-- ---- blanks and comments

pub record Blanks (flag : Bool) (bytes rest : List ℕ) : Type 0 where
  pub blanks : List ℕ
  pub parts : bytes ≡ blanks ++ rest
  pub are_blanks : AreBlanks rest flag blanks

Blanks-cons : (flag after : Bool) (b : ℕ) (bs rest : List ℕ)
    → ((g : List ℕ) → AreBlanks rest after g → AreBlanks rest flag (b ∷ g)) → Blanks after bs rest
    → Blanks flag (b ∷ bs) rest
Blanks-cons flag after b bs rest more g =
    record {
      blanks = b ∷ g.blanks;
      parts = ap (λ (ys : List ℕ). b ∷ ys) g.parts;
      are_blanks = more g.blanks g.are_blanks;
    }

pub blanks_found : (flag : Bool) (bytes : List ℕ) → Blanks flag bytes (after_blanks flag bytes)
blanks_found false [] = record { blanks = []; parts = refl; are_blanks = tt }
blanks_found true [] = record { blanks = []; parts = refl; are_blanks = refl }
blanks_found true (b ∷ bs) =
    Blanks-cons true (not (eqb b 10)) b bs (after_blanks (not (eqb b 10)) bs) (λ g h. h)
    (blanks_found (not (eqb b 10)) bs)
blanks_found false (b ∷ bs) =
    cond_both (eqb b 35) (after_blanks true bs) (cond (is_blank b) (after_blanks false bs) (b ∷ bs))
    (Blanks false (b ∷ bs))
    (λ is. Blanks-cons false true b bs (after_blanks true bs) (λ g h. inl (eqb-true _ _ is, h))
    (blanks_found true bs))
    (λ _. cond_both (is_blank b) (after_blanks false bs) (b ∷ bs) (Blanks false (b ∷ bs))
    (λ is. Blanks-cons false false b bs (after_blanks false bs) (λ g h. inr (is, h))
    (blanks_found false bs))
    (λ _. record { blanks = []; parts = refl; are_blanks = tt }))

pub first_found : (bytes : List ℕ) (x : Lexeme × List ℕ) → next_token bytes ≡ Ok x
    → FirstToken bytes x.0 x.1
first_found bytes x e =
    let g = blanks_found false bytes in
    record {
      blanks = g.blanks;
      here = after_blanks false bytes;
      parts = g.parts;
      are_blanks = g.are_blanks;
      begins = found_here (after_blanks false bytes) x e;
    }

pub is_found : {X : Type 0} (see : X → Lexeme × List ℕ) (bytes : List ℕ) (r : Result X Fault)
    → map_ok see r ≡ next_token bytes → IfOk r (λ x. FirstToken bytes (see x).0 (see x).1)
is_found see bytes (Ok x) e = first_found bytes (see x) (sym e)
is_found see bytes (Err d) e = tt

-- ---- where no token stands

abbrev failed : {A : Type 0} → Fault → Result A Fault
failed f = Err f

abbrev Malformed : ℕ → Fault → Type 0
Malformed left f = (f.left ≡ left) × (f.why ≡ why.Token)

none_there : (kind : List ℕ → Lexeme) (left : ℕ) (o : Option (List ℕ × List ℕ)) (f : Fault)
    → token_or kind left o ≡ Err f → Malformed left f
none_there kind left None f e = let is : record { left = left; why = why.Token } ≡ f = cc in
    subst (Malformed left) is (refl, refl)
none_there kind left (Some y) f e = absurd cc

abbrev FailsSo : ℕ → Fault → Result (Lexeme × List ℕ) Fault → Type 0
FailsSo left f r = r ≡ Err f → Malformed left f

none_here : (text : List ℕ) (f : Fault) → FailsSo (length text) f (token_here text)
none_here [] f e = absurd cc
none_here (b ∷ bs) f e =
    let left = length (b ∷ bs) in
    cond_both (eqb b 40) _ _ (FailsSo left f) (λ _ h. absurd cc) (λ _.
    cond_both (eqb b 41) _ _ (FailsSo left f) (λ _ h. absurd cc) (λ _.
    cond_both (eqb b 44) _ _ (FailsSo left f) (λ _ h. absurd cc) (λ _.
    cond_both (eqb b 61) _ _ (FailsSo left f) (λ _ h. absurd cc) (λ _.
    cond_both (eqb b 34) _ _ (FailsSo left f) (λ _ h. none_there Quoted left (split_quoted bs) f h)
    (λ _.
    cond_both (is_word_start b) _ _ (FailsSo left f)
    (λ _ h. none_there Word left (split_word (b ∷ bs)) f h) (λ _ h.
    none_there Number left (split_number (b ∷ bs)) f h)))))) e

pub no_token : (bytes : List ℕ) (f : Fault) → next_token bytes ≡ Err f
    → (f.left ≡ length (after_blanks false bytes)) × (f.why ≡ why.Token)
no_token bytes f e = none_here (after_blanks false bytes) f e
