-- How the words of a line are found, from left to right.
use Rattle.std.specs.Prelude.{◌≡◌, ◌≤◌, ℕ, zero, suc, Bool, true, false, not, List, [], ◌∷◌, length, take, drop, Option, Some, None, Result, Ok, Err, ◌==◌, if◌then◌else◌}
use Rattle.std.specs.List.{prefix_len}
use Rattle.gx_tokens.specs.Lexemes.{split_quoted}
use Rattle.gx_commands.specs.declared.words.LineWord.{LineWord}
use Rattle.gx_commands.specs.declared.words.LineWord.TheVariants as slices
use Rattle.gx_commands.specs.declared.command.LineWhy.{LineWhy}
use Rattle.gx_commands.specs.declared.command.LineWhy.TheVariants as why
use Rattle.gx_commands.specs.Words.{Word, Bare, Quoted, is_line_blank, past_blanks}

-- what is left of a line behind so many of its bytes
pub record IsRestOf (line rest : List ℕ) : Type 0 where
  pub from : ℕ
  pub is : rest ≡ drop from line
  pub within : from ≤ length line

-- a word without where its bytes lie
abbrev pub word_of : LineWord → Word
word_of (slices.Bare text) = Bare text.now
word_of (slices.Quoted text) = Quoted text.now

abbrev pub ends_word : List ℕ → Bool
ends_word [] = true
ends_word (b ∷ bs) = is_line_blank b

-- a quoted text is a word only where the word ends with it
abbrev pub quoted_word : Option (List ℕ × List ℕ) → Option (Word × List ℕ)
quoted_word None = None
quoted_word (Some x) = if ends_word x.1 then Some (Quoted x.0, x.1) else None

-- the word at the front of a text without a blank there, and what follows it
abbrev pub split_word : List ℕ → Option (Word × List ℕ)
split_word [] = None
split_word (b ∷ bs) =
    if b == 34 then quoted_word (split_quoted bs)
    else Some (
      Bare (take (prefix_len (λ c. not (is_line_blank c)) (b ∷ bs)) (b ∷ bs)),
      drop (prefix_len (λ c. not (is_line_blank c)) (b ∷ bs)) (b ∷ bs),
    )

-- the first word of a line, and what follows it
unfoldable pub first_word : List ℕ → Option (Word × List ℕ)
first_word line = split_word (past_blanks line)

-- the first word, and those that are found in what follows it
abbrev pub words_from : (List ℕ → List Word) → Option (Word × List ℕ) → List Word
words_from found None = []
words_from found (Some x) = x.0 ∷ found x.1

-- so many words at most, up to a quoted text that is none
unfoldable pub words_at : ℕ → List ℕ → List Word
words_at zero line = []
words_at (suc n) line = words_from (λ rest. words_at n rest) (first_word line)

-- the words of a line, up to a quoted text that is none
unfoldable pub words_in : List ℕ → List Word
words_in line = words_at (length line) line

-- the first word and those behind it, of which there must be one
abbrev pub taken : List Word → Result (Word × List Word) LineWhy
taken [] = Err why.Word
taken (w ∷ ws) = Ok (w, ws)

abbrev pub is_end : List Word → Bool
is_end [] = true
is_end (w ∷ ws) = false
