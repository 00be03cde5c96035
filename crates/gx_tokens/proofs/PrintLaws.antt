-- Printed tokens are the first of what is printed.
use Rattle.std.proofs.Common.{◌≡◌, ℕ, false, List, [], ◌∷◌, ◌++◌, refl, ap, inr}
use Rattle.std.specs.Prelude.{IsTrue}
use Rattle.std.specs.List.{AllByRecursion}
use Rattle.gx_tokens.specs.Grammar.{the}
use Rattle.gx_tokens.specs.Lexemes.{Lexeme, Word, Quoted, continues_run, is_printable}
use Rattle.gx_tokens.specs.Quotes.{doubled, quoted_text}
use Rattle.gx_tokens.specs.Spelling.{spelling, IsWord, IsToken, MayFollow, NoQuote}
use Rattle.gx_tokens.proofs.QuoteLaws.{IsQuoted-doubled}

pub token_printed : (t : Lexeme) (rest : List ℕ) → IsToken t → MayFollow t rest
    → the t (spelling t ++ rest) rest
token_printed t rest token follows =
    record {
      blanks = [];
      here = spelling t ++ rest;
      parts = refl;
      are_blanks = tt;
      begins = record { parts = refl; is_token = token; follows = follows };
    }

-- a space may stand before a token
pub behind_space : (t : Lexeme) (bytes rest : List ℕ) → the t bytes rest → the t (32 ∷ bytes) rest
behind_space t bytes rest h =
    record {
      blanks = 32 ∷ h.blanks;
      here = h.here;
      parts = ap (λ (ys : List ℕ). 32 ∷ ys) h.parts;
      are_blanks = inr (refl, h.are_blanks);
      begins = h.begins;
    }

-- an LF may stand before a token
pub behind_line : (t : Lexeme) (bytes rest : List ℕ) → the t bytes rest → the t (10 ∷ bytes) rest
behind_line t bytes rest h =
    record {
      blanks = 10 ∷ h.blanks;
      here = h.here;
      parts = ap (λ (ys : List ℕ). 10 ∷ ys) h.parts;
      are_blanks = inr (refl, h.are_blanks);
      begins = h.begins;
    }

pub word_printed : (word rest : List ℕ) → IsWord word → continues_run rest ≡ false
    → the (Word word) (word ++ rest) rest
word_printed word rest is apart = token_printed (Word word) rest is apart

pub quoted_printed : (text rest : List ℕ) → AllByRecursion (λ b. IsTrue (is_printable b)) text
    → NoQuote rest → the (Quoted (doubled text)) (quoted_text text ++ rest) rest
quoted_printed text rest each free =
    token_printed (Quoted (doubled text)) rest (IsQuoted-doubled text each) free
