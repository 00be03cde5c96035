-- The words of a line.
use Rattle.std.specs.Prelude.{◌≡◌, ◌≢◌, ℕ, Bool, true, false, ◌||◌, List, [], ◌∷◌, ◌++◌, ◌==◌, if◌then◌else◌}
use Rattle.std.specs.List.{AllByRecursion}
use Rattle.gx_values.specs.Values.{is_printable}
use Rattle.gx_tokens.specs.Spelling.{IsQuoted}

-- space or tab
abbrev pub is_line_blank : ℕ → Bool
is_line_blank b = b == 32 || b == 9

-- a blank, or a byte from 0x20 to 0x7E
abbrev pub is_character : ℕ → Bool
is_character b = is_line_blank b || is_printable b

-- what follows the blanks at the front
abbrev pub past_blanks : List ℕ → List ℕ
past_blanks [] = []
past_blanks (b ∷ bs) = if is_line_blank b then past_blanks bs else b ∷ bs

abbrev pub begins_comment : List ℕ → Bool
begins_comment [] = false
begins_comment (b ∷ bs) = b == 35

-- the first byte that is no blank is `#`
abbrev pub is_comment : List ℕ → Bool
is_comment line = begins_comment (past_blanks line)

-- a word as it is spelled: a quoted text without the quotes around it, with each quote in it twice
pub data Word : Type 0 where
  Bare : (text : List ℕ) → Word
  Quoted : (text : List ℕ) → Word

-- the bytes of a word
abbrev pub spelling : Word → List ℕ
spelling (Bare text) = text
spelling (Quoted text) = 34 ∷ text ++ 34 ∷ []

-- a bare word is bytes without a blank, of which the first is no quote; a quoted text is printable
-- bytes, with quotes in pairs
abbrev pub IsLineWord : Word → Type 0
IsLineWord (Bare []) = ⊥
IsLineWord (Bare (b ∷ bs)) = (b ≢ 34) × AllByRecursion (λ c. is_line_blank c ≡ false) (b ∷ bs)
IsLineWord (Quoted text) = IsQuoted false text

-- a word is over where a blank follows, or nothing
abbrev pub EndsWord : List ℕ → Type 0
EndsWord [] = Unit {0}
EndsWord (b ∷ bs) = is_line_blank b ≡ true

-- behind blanks at the front of the line stands the word, and then the rest
pub record FirstWord (line : List ℕ) (word : Word) (rest : List ℕ) : Type 0 where
  pub blanks : List ℕ
  pub parts : line ≡ blanks ++ (spelling word ++ rest)
  pub are_blanks : AllByRecursion (λ b. is_line_blank b ≡ true) blanks
  pub is_word : IsLineWord word
  pub ends : EndsWord rest

-- the line is these words, with blanks between them, before them and behind them
abbrev pub AreWords : List ℕ → List Word → Type 0
AreWords line [] = AllByRecursion (λ b. is_line_blank b ≡ true) line
AreWords line (w ∷ ws) = (rest : List ℕ) × FirstWord line w rest × AreWords rest ws
