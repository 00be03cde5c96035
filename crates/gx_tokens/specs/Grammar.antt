-- Grammars: relations between what is left of a text before a piece of it and behind that piece.
use Rattle.std.specs.Prelude.{ℕ, List}
use Rattle.gx_tokens.specs.Lexemes.{Lexeme, Word, Number, Quoted}
use Rattle.gx_tokens.specs.Spelling.{FirstToken}

-- the one piece, and then the other
infixr 10 ◌⨾◌
abbrev pub ◌⨾◌ : (List ℕ → List ℕ → Type 0) → (List ℕ → List ℕ → Type 0) → List ℕ → List ℕ → Type 0
(a ⨾ b) bytes rest = (mid : List ℕ) × a bytes mid × b mid rest

-- this token, and blanks and comments before it
abbrev pub the : Lexeme → List ℕ → List ℕ → Type 0
the token bytes rest = FirstToken bytes token rest

-- some word
abbrev pub AWord : List ℕ → List ℕ → Type 0
AWord bytes rest = (word : List ℕ) × the (Word word) bytes rest

-- some number
abbrev pub ANumber : List ℕ → List ℕ → Type 0
ANumber bytes rest = (text : List ℕ) × the (Number text) bytes rest

-- some quoted text
abbrev pub AQuoted : List ℕ → List ℕ → Type 0
AQuoted bytes rest = (text : List ℕ) × the (Quoted text) bytes rest
