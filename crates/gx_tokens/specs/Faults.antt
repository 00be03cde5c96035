-- The first fault of a text, by what other texts there are: of a grammar, whose texts have
-- meanings, and of its bare grammar.
use Rattle.std.specs.Prelude.{◌≡◌, ℕ, false, List, length}
use Rattle.gx_tokens.specs.declared.why.Why.{Why}
use Rattle.gx_tokens.specs.declared.why.Why.TheVariants as why
use Rattle.gx_tokens.specs.declared.why.Unread.{Unread}
use Rattle.gx_tokens.specs.declared.why.Unread.TheVariants as unread
use Rattle.gx_tokens.specs.Lexemes.{Lexeme, End, after_blanks}
use Rattle.gx_tokens.specs.Lines.{line_of}
use Rattle.gx_tokens.specs.Spelling.{FirstToken, Lexes}

-- a reason other than those of a bare grammar
abbrev pub IsRule : Why → Type 0
IsRule why.Token = ⊥
IsRule why.Unexpected = ⊥
IsRule why.End = ⊥
IsRule why.Number = Unit {0}
IsRule why.Depth = Unit {0}
IsRule why.NameUse = Unit {0}
IsRule why.KeyField = Unit {0}
IsRule why.Count = Unit {0}

-- some text of the bare grammar begins with these tokens
abbrev pub IsShapeFront : (List ℕ → Type 0) → List Lexeme → Type 0
IsShapeFront Shaped before = (text : List ℕ) × (rest : List ℕ) × Lexes text before rest
    × Shaped text

-- no text with a meaning goes on with this token behind those before it
abbrev pub NoTextGoesOn : {A : Type 0} → (List ℕ → A → Type 0) → List Lexeme → Lexeme → Type 0
NoTextGoesOn {A = A} Means before token =
    (text here rest : List ℕ) (meaning : A) → Lexes text before here → FirstToken here token rest
    → Means text meaning → ⊥

-- likewise no text of the bare grammar
abbrev pub NoShapeGoesOn : (List ℕ → Type 0) → List Lexeme → Lexeme → Type 0
NoShapeGoesOn Shaped before token = (text here rest : List ℕ) → Lexes text before here
    → FirstToken here token rest → Shaped text → ⊥

-- this is one of the rules, and a token stands first in what is left, with which no text with a
-- meaning goes on
abbrev pub BreaksRule : {A : Type 0} → (List ℕ → A → Type 0) → Type 0 → List Lexeme → List ℕ
    → Type 0
BreaksRule Means Rule before here = Rule × ((token : Lexeme) × (rest : List ℕ)
    × FirstToken here token rest × NoTextGoesOn Means before token)

-- Why the text goes wrong at what is left behind these tokens: no token stands there; or no text of
-- the bare grammar goes on with the token, or ends there; or each that does breaks one of the
-- rules.
abbrev pub IsCause : {A : Type 0} → (List ℕ → A → Type 0) → (List ℕ → Type 0) → (Why → Type 0) → Why
    → List Lexeme → List ℕ → Type 0
IsCause Means Shaped Rule why.Token before here = (token : Lexeme) (rest : List ℕ)
    → FirstToken here token rest → ⊥
IsCause Means Shaped Rule why.Unexpected before here =
    (token : Lexeme) × (rest : List ℕ) × FirstToken here token rest × (token ≡ End → ⊥)
    × NoShapeGoesOn Shaped before token
IsCause Means Shaped Rule why.End before here = (rest : List ℕ) × FirstToken here End rest
    × NoShapeGoesOn Shaped before End
IsCause Means Shaped Rule why.Number before here = BreaksRule Means (Rule why.Number) before here
IsCause Means Shaped Rule why.Depth before here = BreaksRule Means (Rule why.Depth) before here
IsCause Means Shaped Rule why.NameUse before here = BreaksRule Means (Rule why.NameUse) before here
IsCause Means Shaped Rule why.KeyField before here = BreaksRule Means (Rule why.KeyField) before
    here
IsCause Means Shaped Rule why.Count before here = BreaksRule Means (Rule why.Count) before here

-- The text goes wrong in this line for this reason: behind tokens that some text of the bare
-- grammar begins with.
pub record IsFirstFault {A : Type 0} (Means : List ℕ → A → Type 0) (Shaped : List ℕ → Type 0)
    (Rule : Why → Type 0) (bytes : List ℕ) (line : ℕ) (reason : Why) : Type 0 where
  pub before : List Lexeme
  pub here : List ℕ
  pub lexed : Lexes bytes before here
  pub in_line : line ≡ line_of bytes (length (after_blanks false here))
  pub front : IsShapeFront Shaped before
  pub cause : IsCause Means Shaped Rule reason before here

-- what an error says of the text
abbrev pub IsBad : {A : Type 0} → (List ℕ → A → Type 0) → (List ℕ → Type 0) → (Why → Type 0)
    → List ℕ → Unread → Type 0
IsBad Means Shaped Rule bytes (unread.Bad line reason) = IsFirstFault Means Shaped Rule bytes line
    reason
IsBad Means Shaped Rule bytes unread.NoMemory = Unit {0}
