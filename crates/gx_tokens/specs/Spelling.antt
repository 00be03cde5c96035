-- How tokens are spelled, apart from how they are found.
use Rattle.std.specs.Prelude.{◌≡◌, ℕ, ◌<◌, ◌≤◌, Bool, true, false, not, ◌⊎◌, List, [], ◌∷◌, ◌++◌, length, ◌==◌, IsTrue}
use Rattle.std.specs.List.{AllByRecursion}
use Rattle.gx_tokens.specs.Lexemes.{Lexeme, Word, Number, Quoted, Open, Close, Comma, Equals, End, is_blank, is_word_byte, is_digit, is_printable, continues_run, is_word_start}

-- the bytes of a token
abbrev pub spelling : Lexeme → List ℕ
spelling (Word text) = text
spelling (Number text) = text
spelling (Quoted text) = 34 ∷ text ++ 34 ∷ []
spelling Open = 40 ∷ []
spelling Close = 41 ∷ []
spelling Comma = 44 ∷ []
spelling Equals = 61 ∷ []
spelling End = []

-- begins with a letter or `_`
abbrev pub StartsWord : List ℕ → Type 0
StartsWord [] = ⊥
StartsWord (b ∷ bs) = IsTrue (is_word_start b)

-- letters, digits and `_`, with no digit first, at most 16 bytes
pub record IsWord (text : List ℕ) : Type 0 where
  pub starts : StartsWord text
  pub each : AllByRecursion (λ b. IsTrue (is_word_byte b)) text
  pub short : length text ≤ 16

-- one or more digits
pub record AreDigits (text : List ℕ) : Type 0 where
  pub some : 0 < length text
  pub each : AllByRecursion (λ b. IsTrue (is_digit b)) text

-- digits, behind a `-` or not
abbrev pub IsNumber : List ℕ → Type 0
IsNumber text = AreDigits text ⊎ ((digits : List ℕ) × (text ≡ 45 ∷ digits) × AreDigits digits)

-- printable bytes, with quotes in pairs; the flag says that the second of a pair is due
abbrev pub IsQuoted : Bool → List ℕ → Type 0
IsQuoted false [] = Unit {0}
IsQuoted true [] = ⊥
IsQuoted true (b ∷ bs) = (b ≡ 34) × IsQuoted false bs
IsQuoted false (b ∷ bs) =
    ((b ≡ 34) × IsQuoted true bs) ⊎ ((b ≡ 34 → ⊥) × IsTrue (is_printable b) × IsQuoted false bs)

-- the token is spelled as its kind is
abbrev pub IsToken : Lexeme → Type 0
IsToken (Word text) = IsWord text
IsToken (Number text) = IsNumber text
IsToken (Quoted text) = IsQuoted false text
IsToken Open = Unit {0}
IsToken Close = Unit {0}
IsToken Comma = Unit {0}
IsToken Equals = Unit {0}
IsToken End = Unit {0}

-- begins with no quote
abbrev pub NoQuote : List ℕ → Type 0
NoQuote [] = Unit {0}
NoQuote (b ∷ bs) = b ≡ 34 → ⊥

-- what may stand right behind a token: not what the token would take in
abbrev pub MayFollow : Lexeme → List ℕ → Type 0
MayFollow (Word text) rest = continues_run rest ≡ false
MayFollow (Number text) rest = continues_run rest ≡ false
MayFollow (Quoted text) rest = NoQuote rest
MayFollow Open rest = Unit {0}
MayFollow Close rest = Unit {0}
MayFollow Comma rest = Unit {0}
MayFollow Equals rest = Unit {0}
MayFollow End rest = rest ≡ []

-- blanks and comments before a rest. A comment ends with a line, or with the text: the flag says
-- that one has begun
abbrev pub AreBlanks : List ℕ → Bool → List ℕ → Type 0
AreBlanks rest false [] = Unit {0}
AreBlanks rest true [] = rest ≡ []
AreBlanks rest true (b ∷ bs) = AreBlanks rest (not (b == 10)) bs
AreBlanks rest false (b ∷ bs) =
    ((b ≡ 35) × AreBlanks rest true bs) ⊎ (IsTrue (is_blank b) × AreBlanks rest false bs)

-- at the front of the text stands the token, and then the rest
pub record Begins (text : List ℕ) (token : Lexeme) (rest : List ℕ) : Type 0 where
  pub parts : text ≡ spelling token ++ rest
  pub is_token : IsToken token
  pub follows : MayFollow token rest

-- behind blanks and comments at the front of the text stands the token, and then the rest
pub record FirstToken (text : List ℕ) (token : Lexeme) (rest : List ℕ) : Type 0 where
  pub blanks : List ℕ
  pub here : List ℕ
  pub parts : text ≡ blanks ++ here
  pub are_blanks : AreBlanks here false blanks
  pub begins : Begins here token rest

-- the text begins with these tokens, and then comes the rest
abbrev pub Lexes : List ℕ → List Lexeme → List ℕ → Type 0
Lexes text [] rest = text ≡ rest
Lexes text (t ∷ ts) rest = (mid : List ℕ) × FirstToken text t mid × Lexes mid ts rest
