-- Readers of one word, number or mark are local.
use Rattle.std.proofs.Common.{◌≡◌, ℕ, List, false, Result, Ok, refl, ap, subst, ◌∙◌, inl, arith, ◌∷◌, [], inr}
use Rattle.std.specs.Prelude.{codes}
use Rattle.gx_tokens.specs.declared.why.Why.{Why}
use Rattle.gx_tokens.specs.Grammar.{the, AWord, ANumber}
use Rattle.gx_tokens.specs.Lexemes.{Lexeme, Word, Number, Quoted, Open, Close, Comma, Equals, End}
use Rattle.gx_tokens.specs.Locality.{IsProper, IsInhabited, HasReason, IsLocal}
use Rattle.gx_tokens.specs.Reading.{word_if, number_if, an_open, a_close, a_comma, an_equals, comma_or_close, want}
use Rattle.gx_tokens.specs.Spelling.{IsWord, IsNumber}
use Rattle.gx_tokens.proofs.LocalLaws.{TakesToken, some_token, local_want}
use Rattle.gx_tokens.proofs.ReadingLaws.{word_is, number_is, is_open, is_close, is_comma, is_equals, list_mark, is_comma_or_close}

one_is_number : IsNumber (codes "1")
one_is_number = inl (record { some = omega arith; each = (refl, tt) })

a_is_word : IsWord (codes "a")
a_is_word = record { starts = refl; each = (refl, tt); short = omega arith }

pub some_word : {A : Type 0} (x : A) → IsInhabited {A = A} (λ _. AWord)
some_word x = some_token (λ _. AWord) x (Word (codes "a")) a_is_word
    (λ bytes rest h. (codes "a", h))

pub some_number : {A : Type 0} (x : A) → IsInhabited {A = A} (λ _. ANumber)
some_number x = some_token (λ _. ANumber) x (Number (codes "1")) one_is_number
    (λ bytes rest h. (codes "1", h))

pub some_mark : {A : Type 0} (x : A) (t : Lexeme) → IsProper t → IsInhabited {A = A} (λ _. the t)
some_mark x t proper = some_token (λ _. the t) x t proper (λ bytes rest h. h)

word_reason : {A : Type 0} (meaning : List ℕ → Result A Why)
    → ((text : List ℕ) → HasReason (Word text) (meaning text)) → (t : Lexeme)
    → HasReason t (word_if meaning t)
word_reason meaning named (Word w) = named w
word_reason meaning named (Number w) = λ e. absurd cc
word_reason meaning named (Quoted w) = λ e. absurd cc
word_reason meaning named Open = λ e. absurd cc
word_reason meaning named Close = λ e. absurd cc
word_reason meaning named Comma = λ e. absurd cc
word_reason meaning named Equals = λ e. absurd cc
word_reason meaning named End = refl

number_reason : {A : Type 0} (meaning : List ℕ → Result A Why)
    → ((text : List ℕ) → HasReason (Number text) (meaning text)) → (t : Lexeme)
    → HasReason t (number_if meaning t)
number_reason meaning named (Word w) = λ e. absurd cc
number_reason meaning named (Number w) = named w
number_reason meaning named (Quoted w) = λ e. absurd cc
number_reason meaning named Open = λ e. absurd cc
number_reason meaning named Close = λ e. absurd cc
number_reason meaning named Comma = λ e. absurd cc
number_reason meaning named Equals = λ e. absurd cc
number_reason meaning named End = refl

-- words of any meaning
pub takes_word : {A : Type 0} (meaning : List ℕ → Result A Why) (x : A)
    → ((text : List ℕ) → HasReason (Word text) (meaning text))
    → TakesToken (word_if meaning) (λ _. AWord)
takes_word meaning x named = record {
  proper = λ y e. absurd cc;
  shaped = λ t y bytes rest e h. let i = word_is meaning t y e in
      (i.0, subst (λ (z : Lexeme). the z bytes rest) i.1 h);
  reason = word_reason meaning named;
  some = some_word x;
}

-- words whose values say which they are
pub takes_these_words : {A : Type 0} (meaning : List ℕ → Result A Why) (word : A → List ℕ) (x : A)
    → IsWord (word x) → ((text : List ℕ) (y : A) → meaning text ≡ Ok y → text ≡ word y)
    → ((text : List ℕ) → HasReason (Word text) (meaning text))
    → TakesToken (word_if meaning) (λ y. the (Word (word y)))
takes_these_words meaning word x is same named = record {
  proper = λ y e. absurd cc;
  shaped = λ t y bytes rest e h. let i = word_is meaning t y e in
      subst (λ (z : Lexeme). the z bytes rest) (i.1 ∙ ap Word (same i.0 y i.2)) h;
  reason = word_reason meaning named;
  some = some_token (λ y. the (Word (word y))) x (Word (word x)) is (λ bytes rest h. h);
}

-- numbers of any meaning
pub takes_number : {A : Type 0} (meaning : List ℕ → Result A Why) (x : A)
    → ((text : List ℕ) → HasReason (Number text) (meaning text))
    → TakesToken (number_if meaning) (λ _. ANumber)
takes_number meaning x named = record {
  proper = λ y e. absurd cc;
  shaped = λ t y bytes rest e h. let i = number_is meaning t y e in
      (i.0, subst (λ (z : Lexeme). the z bytes rest) i.1 h);
  reason = number_reason meaning named;
  some = some_number x;
}

open_reason : (t : Lexeme) → HasReason t (an_open t)
open_reason (Word w) = λ e. absurd cc
open_reason (Number w) = λ e. absurd cc
open_reason (Quoted w) = λ e. absurd cc
open_reason Open = tt
open_reason Close = λ e. absurd cc
open_reason Comma = λ e. absurd cc
open_reason Equals = λ e. absurd cc
open_reason End = refl

pub takes_open : TakesToken an_open (λ _. the Open)
takes_open = record {
  proper = λ y e. absurd cc;
  shaped = λ t u bytes rest e h. subst (λ (z : Lexeme). the z bytes rest) (is_open t u e) h;
  reason = open_reason;
  some = some_mark tt Open tt;
}

close_reason : (t : Lexeme) → HasReason t (a_close t)
close_reason (Word w) = λ e. absurd cc
close_reason (Number w) = λ e. absurd cc
close_reason (Quoted w) = λ e. absurd cc
close_reason Open = λ e. absurd cc
close_reason Close = tt
close_reason Comma = λ e. absurd cc
close_reason Equals = λ e. absurd cc
close_reason End = refl

pub takes_close : TakesToken a_close (λ _. the Close)
takes_close = record {
  proper = λ y e. absurd cc;
  shaped = λ t u bytes rest e h. subst (λ (z : Lexeme). the z bytes rest) (is_close t u e) h;
  reason = close_reason;
  some = some_mark tt Close tt;
}

comma_reason : (t : Lexeme) → HasReason t (a_comma t)
comma_reason (Word w) = λ e. absurd cc
comma_reason (Number w) = λ e. absurd cc
comma_reason (Quoted w) = λ e. absurd cc
comma_reason Open = λ e. absurd cc
comma_reason Close = λ e. absurd cc
comma_reason Comma = tt
comma_reason Equals = λ e. absurd cc
comma_reason End = refl

pub takes_comma : TakesToken a_comma (λ _. the Comma)
takes_comma = record {
  proper = λ y e. absurd cc;
  shaped = λ t u bytes rest e h. subst (λ (z : Lexeme). the z bytes rest) (is_comma t u e) h;
  reason = comma_reason;
  some = some_mark tt Comma tt;
}

equals_reason : (t : Lexeme) → HasReason t (an_equals t)
equals_reason (Word w) = λ e. absurd cc
equals_reason (Number w) = λ e. absurd cc
equals_reason (Quoted w) = λ e. absurd cc
equals_reason Open = λ e. absurd cc
equals_reason Close = λ e. absurd cc
equals_reason Comma = λ e. absurd cc
equals_reason Equals = tt
equals_reason End = refl

pub takes_equals : TakesToken an_equals (λ _. the Equals)
takes_equals = record {
  proper = λ y e. absurd cc;
  shaped = λ t u bytes rest e h. subst (λ (z : Lexeme). the z bytes rest) (is_equals t u e) h;
  reason = equals_reason;
  some = some_mark tt Equals tt;
}

comma_or_close_reason : (t : Lexeme) → HasReason t (comma_or_close t)
comma_or_close_reason (Word w) = λ e. absurd cc
comma_or_close_reason (Number w) = λ e. absurd cc
comma_or_close_reason (Quoted w) = λ e. absurd cc
comma_or_close_reason Open = λ e. absurd cc
comma_or_close_reason Close = tt
comma_or_close_reason Comma = tt
comma_or_close_reason Equals = λ e. absurd cc
comma_or_close_reason End = refl

pub takes_comma_or_close : TakesToken comma_or_close (λ more. the (list_mark more))
takes_comma_or_close = record {
  proper = λ y e. absurd cc;
  shaped = λ t more bytes rest e h. subst (λ (z : Lexeme). the z bytes rest)
      (is_comma_or_close t more e) h;
  reason = comma_or_close_reason;
  some = some_token (λ more. the (list_mark more)) false Close tt (λ bytes rest h. h);
}

-- ---- readers of one mark

pub local_open : IsLocal (want an_open) (λ _. the Open)
local_open = local_want an_open (λ _. the Open) takes_open

pub local_comma : IsLocal (want a_comma) (λ _. the Comma)
local_comma = local_want a_comma (λ _. the Comma) takes_comma

pub local_close : IsLocal (want a_close) (λ _. the Close)
local_close = local_want a_close (λ _. the Close) takes_close

pub the_end : the End (32 ∷ []) []
the_end = record {
  blanks = 32 ∷ [];
  here = [];
  parts = refl;
  are_blanks = inr (refl, tt);
  begins = record { parts = refl; is_token = tt; follows = refl };
}
