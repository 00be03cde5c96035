-- Steps of reading that did not fail, and tokens that are read again.
use Rattle.std.proofs.Common.{◌≡◌, ℕ, Bool, true, false, cond, List, Result, Ok, Err, refl, ap, subst, Decides}
use Rattle.std.specs.Cmp.Lexicographic.{pointwise}
use Rattle.std.specs.Prelude.{nat_eq}
use Rattle.std.proofs.lemmas.Slice.Eq.{slice_eq-Decides}
use Rattle.std.proofs.lemmas.Bool.Decides.{Decides-eqb}
use Rattle.gx_tokens.specs.declared.fault.Fault.{Fault}
use Rattle.gx_tokens.specs.declared.why.Why.{Why}
use Rattle.gx_tokens.specs.Grammar.{the}
use Rattle.gx_tokens.specs.Lexemes.{Lexeme, Word, Number, Quoted, Open, Close, Comma, Equals, End, next_token}
use Rattle.gx_tokens.specs.Reading.{◌>>=◌, map_ok, met, want, word_if, number_if, an_open, a_close, a_comma, an_equals, comma_or_close}
use Rattle.gx_tokens.specs.Spelling.{FirstToken}
use Rattle.gx_tokens.proofs.TokenFound.{first_found, done_is}
use Rattle.gx_tokens.proofs.TokenAgain.{first_again}

abbrev pub done : {A : Type 0} → A → Result A Fault
done x = Ok x

abbrev pub means : {A : Type 0} → A → Result A Why
means x = Ok x

pub means_is : {A : Type 0} (x y : A) → means x ≡ means y → x ≡ y
means_is x y e = cc

-- the first of two readings did not fail
pub bind_ok : {A B : Type 0} (r : Result A Fault) (f : A → Result B Fault) (y : B)
    → (r >>= f) ≡ Ok y → (x : A) × (r ≡ Ok x) × (f x ≡ Ok y)
bind_ok (Ok x) f y e = (x, refl, e)
bind_ok (Err d) f y e = absurd cc

pub mapped_ok : {A B : Type 0} (f : A → B) (r : Result A Fault) (y : B) → map_ok f r ≡ Ok y
    → (x : A) × (r ≡ Ok x) × (f x ≡ y)
mapped_ok f (Ok x) y e = (x, refl, done_is (f x) y e)
mapped_ok f (Err d) y e = absurd cc

-- a test that did not fail
pub test_ok : {A : Type 0} (b : Bool) (reason : Why) (r : Result A Why) (y : A)
    → cond b (Err reason) r ≡ Ok y → (b ≡ false) × (r ≡ Ok y)
test_ok true reason r y e = absurd cc
test_ok false reason r y e = (refl, e)

met_ok : {A : Type 0} (bytes : List ℕ) (r : Result A Why) (rest : List ℕ) (y : A × List ℕ)
    → met bytes r rest ≡ Ok y → (r ≡ Ok y.0) × (rest ≡ y.1)
met_ok bytes (Err reason) rest y e = absurd cc
met_ok bytes (Ok x) rest y e = let p = done_is (x, rest) y e in
    (ap (λ z. Ok z.0) p, ap (λ z. z.1) p)

-- the token that was read, and that it means the value
pub record IsRead {A : Type 0} (meaning : Lexeme → Result A Why) (bytes : List ℕ)
    (y : A × List ℕ) : Type 0 where
  pub token : Lexeme
  pub first : FirstToken bytes token y.1
  pub is : meaning token ≡ Ok y.0

pub want_ok : {A : Type 0} (meaning : Lexeme → Result A Why) (bytes : List ℕ) (y : A × List ℕ)
    → want meaning bytes ≡ Ok y → IsRead meaning bytes y
want_ok meaning bytes y e =
    let a = bind_ok (next_token bytes) (λ x. met bytes (meaning x.0) x.1) y e in
    let w = met_ok bytes (meaning a.0.0) a.0.1 y a.2 in
    record {
      token = a.0.0;
      first = subst (FirstToken bytes a.0.0) w.1
          (first_found bytes a.0 a.1);
      is = w.0;
    }

pub want_again : {A : Type 0} (meaning : Lexeme → Result A Why) (bytes rest : List ℕ) (t : Lexeme)
    (x : A) → FirstToken bytes t rest → meaning t ≡ Ok x → want meaning bytes ≡ Ok (x, rest)
want_again meaning bytes rest t x first is = rw (first_again bytes t rest first, is) refl

-- ---- which token it was

pub word_is : {A : Type 0} (meaning : List ℕ → Result A Why) (t : Lexeme) (x : A)
    → word_if meaning t ≡ Ok x → (text : List ℕ) × (t ≡ Word text) × (meaning text ≡ Ok x)
word_is meaning (Word w) x e = (w, refl, e)
word_is meaning (Number w) x e = absurd cc
word_is meaning (Quoted w) x e = absurd cc
word_is meaning Open x e = absurd cc
word_is meaning Close x e = absurd cc
word_is meaning Comma x e = absurd cc
word_is meaning Equals x e = absurd cc
word_is meaning End x e = absurd cc

pub number_is : {A : Type 0} (meaning : List ℕ → Result A Why) (t : Lexeme) (x : A)
    → number_if meaning t ≡ Ok x → (text : List ℕ) × (t ≡ Number text) × (meaning text ≡ Ok x)
number_is meaning (Word w) x e = absurd cc
number_is meaning (Number w) x e = (w, refl, e)
number_is meaning (Quoted w) x e = absurd cc
number_is meaning Open x e = absurd cc
number_is meaning Close x e = absurd cc
number_is meaning Comma x e = absurd cc
number_is meaning Equals x e = absurd cc
number_is meaning End x e = absurd cc

-- a word that was read, and that it means the value
pub record IsWordRead {A : Type 0} (meaning : List ℕ → Result A Why) (bytes : List ℕ)
    (y : A × List ℕ) : Type 0 where
  pub text : List ℕ
  pub first : the (Word text) bytes y.1
  pub is : meaning text ≡ Ok y.0

pub word_ok : {A : Type 0} (meaning : List ℕ → Result A Why) (bytes : List ℕ) (y : A × List ℕ)
    → want (word_if meaning) bytes ≡ Ok y → IsWordRead meaning bytes y
word_ok meaning bytes y e =
    let w = want_ok (word_if meaning) bytes y e in
    let i = word_is meaning w.token y.0 w.is in
    record { text = i.0; first = subst (λ (t : Lexeme). the t bytes y.1) i.1 w.first; is = i.2 }

-- likewise a number
pub record IsNumberRead {A : Type 0} (meaning : List ℕ → Result A Why) (bytes : List ℕ)
    (y : A × List ℕ) : Type 0 where
  pub text : List ℕ
  pub first : the (Number text) bytes y.1
  pub is : meaning text ≡ Ok y.0

pub number_ok : {A : Type 0} (meaning : List ℕ → Result A Why) (bytes : List ℕ) (y : A × List ℕ)
    → want (number_if meaning) bytes ≡ Ok y → IsNumberRead meaning bytes y
number_ok meaning bytes y e =
    let w = want_ok (number_if meaning) bytes y e in
    let i = number_is meaning w.token y.0 w.is in
    record { text = i.0; first = subst (λ (t : Lexeme). the t bytes y.1) i.1 w.first; is = i.2 }

pub is_open : (t : Lexeme) (u : Unit {0}) → an_open t ≡ Ok u → t ≡ Open
is_open (Word w) u e = absurd cc
is_open (Number w) u e = absurd cc
is_open (Quoted w) u e = absurd cc
is_open Open u e = refl
is_open Close u e = absurd cc
is_open Comma u e = absurd cc
is_open Equals u e = absurd cc
is_open End u e = absurd cc

pub is_close : (t : Lexeme) (u : Unit {0}) → a_close t ≡ Ok u → t ≡ Close
is_close (Word w) u e = absurd cc
is_close (Number w) u e = absurd cc
is_close (Quoted w) u e = absurd cc
is_close Open u e = absurd cc
is_close Close u e = refl
is_close Comma u e = absurd cc
is_close Equals u e = absurd cc
is_close End u e = absurd cc

pub is_comma : (t : Lexeme) (u : Unit {0}) → a_comma t ≡ Ok u → t ≡ Comma
is_comma (Word w) u e = absurd cc
is_comma (Number w) u e = absurd cc
is_comma (Quoted w) u e = absurd cc
is_comma Open u e = absurd cc
is_comma Close u e = absurd cc
is_comma Comma u e = refl
is_comma Equals u e = absurd cc
is_comma End u e = absurd cc

pub is_equals : (t : Lexeme) (u : Unit {0}) → an_equals t ≡ Ok u → t ≡ Equals
is_equals (Word w) u e = absurd cc
is_equals (Number w) u e = absurd cc
is_equals (Quoted w) u e = absurd cc
is_equals Open u e = absurd cc
is_equals Close u e = absurd cc
is_equals Comma u e = absurd cc
is_equals Equals u e = refl
is_equals End u e = absurd cc

-- the token that says whether a list goes on
abbrev pub list_mark : Bool → Lexeme
list_mark true = Comma
list_mark false = Close

pub is_comma_or_close : (t : Lexeme) (b : Bool) → comma_or_close t ≡ Ok b → t ≡ list_mark b
is_comma_or_close (Word w) b e = absurd cc
is_comma_or_close (Number w) b e = absurd cc
is_comma_or_close (Quoted w) b e = absurd cc
is_comma_or_close Open b e = absurd cc
is_comma_or_close Close b e = ap list_mark (means_is false b e)
is_comma_or_close Comma b e = ap list_mark (means_is true b e)
is_comma_or_close Equals b e = absurd cc
is_comma_or_close End b e = absurd cc

-- ---- marks that were read, and marks that are read

pub open_found : (bytes : List ℕ) (y : Unit {0} × List ℕ) → want an_open bytes ≡ Ok y
    → the Open bytes y.1
open_found bytes y e = let w = want_ok an_open bytes y e in
    subst (λ (t : Lexeme). the t bytes y.1) (is_open w.token y.0 w.is) w.first

pub close_found : (bytes : List ℕ) (y : Unit {0} × List ℕ) → want a_close bytes ≡ Ok y
    → the Close bytes y.1
close_found bytes y e = let w = want_ok a_close bytes y e in
    subst (λ (t : Lexeme). the t bytes y.1) (is_close w.token y.0 w.is) w.first

pub comma_found : (bytes : List ℕ) (y : Unit {0} × List ℕ) → want a_comma bytes ≡ Ok y
    → the Comma bytes y.1
comma_found bytes y e = let w = want_ok a_comma bytes y e in
    subst (λ (t : Lexeme). the t bytes y.1) (is_comma w.token y.0 w.is) w.first

pub equals_found : (bytes : List ℕ) (y : Unit {0} × List ℕ) → want an_equals bytes ≡ Ok y
    → the Equals bytes y.1
equals_found bytes y e = let w = want_ok an_equals bytes y e in
    subst (λ (t : Lexeme). the t bytes y.1) (is_equals w.token y.0 w.is) w.first

pub list_mark_found : (bytes : List ℕ) (y : Bool × List ℕ) → want comma_or_close bytes ≡ Ok y
    → the (list_mark y.0) bytes y.1
list_mark_found bytes y e = let w = want_ok comma_or_close bytes y e in
    subst (λ (t : Lexeme). the t bytes y.1) (is_comma_or_close w.token y.0 w.is) w.first

pub open_again : (bytes rest : List ℕ) → the Open bytes rest → want an_open bytes ≡ Ok (tt, rest)
open_again bytes rest h = want_again an_open bytes rest Open tt h refl

pub close_again : (bytes rest : List ℕ) → the Close bytes rest → want a_close bytes ≡ Ok (tt, rest)
close_again bytes rest h = want_again a_close bytes rest Close tt h refl

pub comma_again : (bytes rest : List ℕ) → the Comma bytes rest → want a_comma bytes ≡ Ok (tt, rest)
comma_again bytes rest h = want_again a_comma bytes rest Comma tt h refl

pub equals_again : (bytes rest : List ℕ) → the Equals bytes rest
    → want an_equals bytes ≡ Ok (tt, rest)
equals_again bytes rest h = want_again an_equals bytes rest Equals tt h refl

pub goes_on_again : (bytes rest : List ℕ) → the Comma bytes rest
    → want comma_or_close bytes ≡ Ok (true, rest)
goes_on_again bytes rest h = want_again comma_or_close bytes rest Comma true h refl

pub ends_again : (bytes rest : List ℕ) → the Close bytes rest
    → want comma_or_close bytes ≡ Ok (false, rest)
ends_again bytes rest h = want_again comma_or_close bytes rest Close false h refl

-- ---- equal bytes

pub same_bytes : (xs ys : List ℕ) → Decides (pointwise nat_eq xs ys) (xs ≡ ys)
same_bytes xs ys = slice_eq-Decides Decides-eqb xs ys (pointwise nat_eq xs ys) refl
