-- What is read depends on the tokens that are read, and a fault on those up to it; and the tokens
-- before a fault could go on.
use Rattle.std.specs.Prelude.{◌≡◌, ℕ, List, ◌∷◌, ◌⊎◌, Result, Ok, Err}
use Rattle.std.specs.List.{AllByRecursion}
use Rattle.gx_tokens.specs.declared.fault.Fault.{Fault}
use Rattle.gx_tokens.specs.declared.why.Why.{Why}
use Rattle.gx_tokens.specs.declared.why.Why.TheVariants as why
use Rattle.gx_tokens.specs.Lexemes.{Lexeme, End, next_token}
use Rattle.gx_tokens.specs.Spelling.{IsToken, FirstToken, Lexes}
use Rattle.gx_tokens.specs.Reading.{fault_at}

-- a token other than the end
abbrev pub IsProper : Lexeme → Type 0
IsProper End = ⊥
IsProper other = IsToken other

-- for some value there is a text of the shape, before any rest that a blank begins
abbrev pub IsInhabited : {A : Type 0} → (A → List ℕ → List ℕ → Type 0) → Type 0
IsInhabited {A} shape =
    (x : A) × ((tail : List ℕ) → (text : List ℕ) × shape x (32 ∷ text) (32 ∷ tail))

-- likewise one that begins with these tokens
abbrev pub IsFront : {A : Type 0} → (A → List ℕ → List ℕ → Type 0) → List Lexeme → Type 0
IsFront {A} shape before =
    (x : A) × ((tail : List ℕ)
    → (text : List ℕ) × (mid : List ℕ) × Lexes (32 ∷ text) before mid
    × shape x (32 ∷ text) (32 ∷ tail))

-- the reason is one of those at this token: `End` at the end alone, `Unexpected` elsewhere, `Token`
-- at none
abbrev pub IsReasonAt : Lexeme → Why → Type 0
IsReasonAt token why.Token = ⊥
IsReasonAt token why.Unexpected = token ≡ End → ⊥
IsReasonAt token why.End = token ≡ End
IsReasonAt token why.Number = Unit {0}
IsReasonAt token why.Depth = Unit {0}
IsReasonAt token why.NameUse = Unit {0}
IsReasonAt token why.KeyField = Unit {0}
IsReasonAt token why.Count = Unit {0}

-- likewise where a token has no meaning at its place
abbrev pub HasReason : {A : Type 0} → Lexeme → Result A Why → Type 0
HasReason token (Ok x) = Unit {0}
HasReason token (Err reason) = IsReasonAt token reason

-- a fault at a token, which every text has that has the same tokens up to that one
pub record FaultAtToken {C : Type 0} (reader : List ℕ → Result C Fault) (bytes : List ℕ) (f : Fault)
    (before : List Lexeme) : Type 0 where
  pub here : List ℕ
  pub token : Lexeme
  pub rest : List ℕ
  pub lexed : Lexes bytes before here
  pub first : FirstToken here token rest
  pub reason : IsReasonAt token f.why
  pub is : f ≡ fault_at here f.why
  pub others : (other there after : List ℕ) → Lexes other before there
      → FirstToken there token after → reader other ≡ Err (fault_at there f.why)

-- a fault where no token stands
pub record FaultAtNone (bytes : List ℕ) (f : Fault) (before : List Lexeme) : Type 0 where
  pub here : List ℕ
  pub lexed : Lexes bytes before here
  pub none : next_token here ≡ Err f

-- a fault behind these tokens
abbrev pub FaultBehind : {C : Type 0} → (List ℕ → Result C Fault) → List ℕ → Fault → List Lexeme
    → Type 0
FaultBehind reader bytes f before = FaultAtToken reader bytes f before ⊎ FaultAtNone bytes f before

-- a value from these tokens, which every text gives that begins with them, and which then has its
-- shape
pub record Takes {A : Type 0} (reader : List ℕ → Result (A × List ℕ) Fault)
    (shape : A → List ℕ → List ℕ → Type 0) (bytes : List ℕ) (y : A × List ℕ) : Type 0 where
  pub taken : List Lexeme
  pub proper : AllByRecursion IsProper taken
  pub lexed : Lexes bytes taken y.1
  pub others : (other rest : List ℕ) → Lexes other taken rest → reader other ≡ Ok (y.0, rest)
  pub shaped : (other rest : List ℕ) → Lexes other taken rest → shape y.0 other rest

-- what a reader gives depends on tokens so: on those that it takes, and where it fails on those up
-- to the fault, of which those before the fault begin some text of the shape
abbrev pub Outcome : {A : Type 0} → (List ℕ → Result (A × List ℕ) Fault)
    → (A → List ℕ → List ℕ → Type 0) → List ℕ → Result (A × List ℕ) Fault → Type 0
Outcome reader shape bytes (Ok y) = Takes reader shape bytes y
Outcome reader shape bytes (Err f) =
    (before : List Lexeme) × FaultBehind reader bytes f before × IsFront shape before

-- this holds on every text
abbrev pub IsLocal : {A : Type 0} → (List ℕ → Result (A × List ℕ) Fault)
    → (A → List ℕ → List ℕ → Type 0) → Type 0
IsLocal reader shape = (bytes : List ℕ) → Outcome reader shape bytes (reader bytes)
