-- Texts that are said part by part, and the lines of a text with numbers.
use Rattle.std.proofs.Common.{◌≡◌, ℕ, zero, suc, ◌+◌, ◌-◌, ◌<◌, List, [], ◌∷◌, ◌++◌, length, take, drop, get_or, Bool, Result, Ok, Err, OnOk, OnErr, refl, sym, ap, subst, ◌∙◌, arith, append_assoc, eqb}
use Rattle.std.specs.Prelude.{codes}
use Rattle.std.specs.Fmt.{decimal}
use Rattle.std.specs.List.{flat_map}
use Rattle.std.proofs.lemmas.List.{append-nil, drop-drop, take_all, length-drop}
use Rattle.std.proofs.lemmas.Fmt.{decimal_digit}
use Rattle.std.proofs.Math.Seq.{take-append-add}
use Rattle.std.proofs.lemmas.Bool.{cond-true, cond-false, eq-eqb}
use Rattle.gx_device.specs.Content.{Content}
use Rattle.gx_device.specs.Faults.{Rose}
use Rattle.gx_device.specs.declared.device.Failed.{Failed}
use Rattle.gx_commands.specs.Lines.{Parts, parts_of, with_first_byte}
use Rattle.gx_commands.proofs.LineLaws.{NoLf}
use Rattle.gx_sharing.specs.Texts.{with_number}
use Rattle.gx_play.specs.Say.{OnlySays, SaysAll}

-- a front of a text is one of a longer text
take_front : (n : ℕ) (p q : List ℕ) → (k : ℕ) × (take n p ≡ take k (p ++ q))
take_front zero p q = (0, refl)
take_front (suc n) [] q = (0, refl)
take_front (suc n) (x ∷ p) q =
    let r = take_front n p q in (suc r.0, ap (λ (l : List ℕ). x ∷ l) r.1)

take_add : (a b : ℕ) (xs : List ℕ) → take a xs ++ take b (drop a xs) ≡ take (a + b) xs
take_add zero b xs = ap (λ k. take k xs) (let e : b ≡ 0 + b = omega arith in e)
take_add (suc a) b [] = take_all b [] (omega arith) ∙ sym (take_all (suc a + b) [] (omega arith))
take_add (suc a) b (x ∷ xs) =
    ap (λ (ys : List ℕ). x ∷ ys) (take_add a b xs)
    ∙ ap (λ k. take k (x ∷ xs)) (let e : suc (a + b) ≡ suc a + b = omega arith in e)

-- what is said so far, after the next part
pub said_more : (piece rest old mid new : List ℕ) (done n : ℕ) → rest ≡ drop done piece
    → mid ≡ old ++ take done piece → new ≡ mid ++ take n rest → new ≡ old ++ take (done + n) piece
said_more piece rest old mid new done n is so_far next =
    next ∙ (λ i. so_far i ++ take n (is i))
    ∙ append_assoc old (take done piece) (take n (drop done piece))
    ∙ ap (λ (p : List ℕ). old ++ p) (take_add done n piece)

pub rest_more : (piece rest : List ℕ) (done n : ℕ) → rest ≡ drop done piece
    → take (length rest - n) (drop n rest) ≡ drop (done + n) piece
rest_more piece rest done n is =
    take_all (length rest - n) (drop n rest) (omega (arith, length-drop n rest)) ∙ ap (drop n) is
    ∙ drop-drop n done piece

says_only : (a b c : Content) → OnlySays a b → OnlySays b c → OnlySays a c
says_only a b c p q =
    record { shelf = q.shelf ∙ p.shelf; script = q.script ∙ p.script; aside = q.aside ∙ p.aside }

on_ok : {A B E : Type 0} {T : Type 0} (r : Result T E) → (A → B) → OnOk r A → OnOk r B
on_ok (Ok x) f a = f a
on_ok (Err e) f a = tt

on_err : {A B E : Type 0} {T : Type 0} (r : Result T E) → (A → B) → OnErr r A → OnErr r B
on_err (Ok x) f a = tt
on_err (Err e) f a = f a

-- nothing is said
pub says_none : (tells : Bool) (a : Content) (x : ℕ)
    → SaysAll {T = Unit {0}} tells a a x x [] (Ok tt)
says_none tells a x = record {
  all = λ told. sym (append-nil a.now.said);
  front = λ told. (0, sym (append-nil a.now.said));
  rest = record { shelf = refl; script = refl; aside = refl };
  cause = record { later = omega arith; failed = tt };
  counted = refl;
}

-- a text is said whole, and another behind it
pub says_then : {T : Type 0} (tells : Bool) (a b c : Content) (x y z : ℕ) (p q : List ℕ)
    (r : Result T Failed) → SaysAll {T = Unit {0}} tells a b x y p (Ok tt)
    → SaysAll tells b c y z q r → SaysAll tells a c x z (p ++ q) r
says_then tells a b c x y z p q r one two = record {
  all = λ told. on_ok r
      (λ is. is ∙ ap (λ (l : List ℕ). l ++ q) (one.all told) ∙ append_assoc a.now.said p q)
      (two.all told);
  front = λ told.
      let f = two.front told in (
        length p + f.0,
        f.1 ∙ ap (λ (l : List ℕ). l ++ take f.0 q) (one.all told)
            ∙ append_assoc a.now.said p (take f.0 q)
            ∙ ap (λ (l : List ℕ). a.now.said ++ l) (sym (take-append-add p q f.0)),
      );
  rest = says_only a b c one.rest two.rest;
  cause = record {
    later = omega (arith, one.cause.later, two.cause.later);
    failed = on_err r (λ rose. subst (λ n. Rose n z) one.counted rose) two.cause.failed;
  };
  counted = on_ok r (λ same. same ∙ one.counted) two.counted;
}

-- a text of which a front alone was said, and nothing of what is behind it
pub says_cut : {T : Type 0} (tells : Bool) (a b : Content) (x y : ℕ) (p q : List ℕ) (e : Failed)
    → SaysAll {T = T} tells a b x y p (Err e) → SaysAll {T = T} tells a b x y (p ++ q) (Err e)
says_cut tells a b x y p q e one = record {
  all = λ told. tt;
  front = λ told.
      let f = one.front told in
      let k = take_front f.0 p q in
      (k.0, f.1 ∙ ap (λ (l : List ℕ). a.now.said ++ l) k.1);
  rest = one.rest;
  cause = one.cause;
  counted = tt;
}

-- the same text in other words
pub says_as : {T : Type 0} (tells : Bool) (a b : Content) (x y : ℕ) (p q : List ℕ)
    (r : Result T Failed) → p ≡ q → SaysAll tells a b x y p r → SaysAll tells a b x y q r
says_as tells a b x y p q r is one = subst (λ (l : List ℕ). SaysAll tells a b x y l r) is one

-- ---- lines with numbers

abbrev numbered : ℕ → List ℕ → List ℕ
numbered n line = decimal n ++ codes " " ++ line ++ codes "\n"

ended_first : (text : List ℕ) (at : ℕ) → at < length text → NoLf (take at text)
    → get_or text at 0 ≡ 10
    → (parts_of text).ended ≡ take at text ∷ (parts_of (drop (suc at) text)).ended
ended_first [] at lt before lf = absurd (omega arith)
ended_first (b ∷ bs) zero lt before lf =
    ap (λ (p : Parts). p.ended)
    (cond-true (eqb b 10)
    (record { ended = [] ∷ (parts_of bs).ended; rest = (parts_of bs).rest })
    (with_first_byte b (parts_of bs).ended (parts_of bs).rest) (eq-eqb b 10 lf))
ended_first (b ∷ bs) (suc at) lt before lf =
    ap (λ (p : Parts). p.ended)
    (cond-false (eqb b 10)
    (record { ended = [] ∷ (parts_of bs).ended; rest = (parts_of bs).rest })
    (with_first_byte b (parts_of bs).ended (parts_of bs).rest) before.0)
    ∙ ap (λ (ls : List (List ℕ)). (with_first_byte b ls (parts_of bs).rest).ended)
    (ended_first bs at (omega arith) before.1 lf)

none_ended : (text : List ℕ) → NoLf text → (parts_of text).ended ≡ []
none_ended [] h = refl
none_ended (b ∷ bs) h =
    ap (λ (p : Parts). p.ended)
    (cond-false (eqb b 10)
    (record { ended = [] ∷ (parts_of bs).ended; rest = (parts_of bs).rest })
    (with_first_byte b (parts_of bs).ended (parts_of bs).rest) h.0)
    ∙ ap (λ (ls : List (List ℕ)). (with_first_byte b ls (parts_of bs).rest).ended)
    (none_ended bs h.1)

pub no_line : (text : List ℕ) → NoLf text → (n : ℕ) → with_number n text ≡ []
no_line text none n =
    ap (λ (ls : List (List ℕ)). flat_map (λ line. numbered n line) ls) (none_ended text none)

-- a byte behind those before it
take_one : (text : List ℕ) (at : ℕ) → at < length text
    → take (at + 1) text ≡ take at text ++ get_or text at 0 ∷ []
take_one [] at lt = absurd (omega arith)
take_one (b ∷ bs) zero lt = refl
take_one (b ∷ bs) (suc at) lt =
    ap (λ k. take k (b ∷ bs)) (let e : suc at + 1 ≡ suc (at + 1) = omega arith in e)
    ∙ ap (λ (l : List ℕ). b ∷ l) (take_one bs at (omega arith))

pub line_of : (text : List ℕ) (at : ℕ) → at < length text → NoLf (take at text)
    → get_or text at 0 ≡ 10 → (n : ℕ)
    → with_number n text
    ≡ (decimal n ++ codes " " ++ take (at + 1) text) ++ with_number n (drop (at + 1) text)
line_of text at lt none lf n =
    let s : suc at ≡ at + 1 = omega arith in
    let line : take at text ++ 10 ∷ [] ≡ take (at + 1) text =
    sym (take_one text at lt ∙ ap (λ b. take at text ++ b ∷ []) lf) in
    let first : with_number n text
    ≡ numbered n (take at text) ++ with_number n (drop (suc at) text) =
    ap (λ (ls : List (List ℕ)). flat_map (numbered n) ls) (ended_first text at lt none lf) in
    let second : numbered n (take at text) ≡ decimal n ++ codes " " ++ take (at + 1) text =
    append_assoc (decimal n ++ codes " ") (take at text) (10 ∷ [])
    ∙ ap (λ (l : List ℕ). decimal n ++ codes " " ++ l) line in
    let third : numbered n (take at text) ++ with_number n (drop (suc at) text)
    ≡ (decimal n ++ codes " " ++ take (at + 1) text) ++ with_number n (drop (suc at) text) =
    ap (λ (l : List ℕ). l ++ with_number n (drop (suc at) text)) second in
    first ∙ third
    ∙ ap (λ k. (decimal n ++ codes " " ++ take (at + 1) text) ++ with_number n (drop k text)) s

-- the number of a session has one digit
pub digit_first : (n : ℕ) (line : List ℕ) → n < 10
    → ((48 + n) ∷ 32 ∷ []) ++ line ≡ decimal n ++ codes " " ++ line
digit_first n line lt = ap (λ (l : List ℕ). l ++ codes " " ++ line) (sym (decimal_digit n lt))
