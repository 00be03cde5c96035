-- The first fault of a text.
use Rattle.std.proofs.Common.{◌≡◌, ℕ, zero, suc, List, [], ◌∷◌, ◌++◌, length, Option, Some, None, Result, Ok, Err, refl, sym, ap, subst, ◌∙◌, arith}
use Rattle.gx_tokens.specs.declared.fault.Fault.{Fault}
use Rattle.gx_tokens.specs.declared.why.Why.{Why}
use Rattle.gx_tokens.specs.declared.why.Why.TheVariants as why
use Rattle.gx_tokens.specs.Faults.{IsRule}
use Rattle.gx_tokens.specs.Grammar.{◌⨾◌, the, AWord}
use Rattle.gx_tokens.specs.Lexemes.{Lexeme, Word, Number, Quoted, Open, Close, Comma, Equals, End}
use Rattle.gx_tokens.specs.Lines.{line_of}
use Rattle.gx_tokens.specs.Locality.{IsFront, HasReason, FaultBehind, Takes, Outcome}
use Rattle.gx_tokens.specs.Reading.{◌>>=◌, map_ok, want}
use Rattle.gx_tokens.specs.Spelling.{Lexes}
use Rattle.gx_tokens.proofs.CauseLaws.{first_fault_of}
use Rattle.gx_tokens.proofs.LocalLaws.{proper_token, takes_token, want_fault, text_behind, later_fault, first_fault}
use Rattle.gx_tokens.proofs.ReadingLaws.{want_ok}
use Rattle.gx_tokens.proofs.LocalTokens.{the_end}
use Rattle.gx_equation.specs.Definitions.{a_start, equation_at}
use Rattle.gx_equation.specs.Faults.{IsFirstFault, IsRule as IsEquationRule}
use Rattle.gx_equation.specs.Grammar.{Means}
use Rattle.gx_equation.specs.Shape.{SideShape, DefinitionShape, DefinitionsShape, IsShaped}
use Rattle.gx_equation.specs.Trees.{DefinitionTree}
use Rattle.gx_equation.proofs.Again.{equation_again}
use Rattle.gx_equation.proofs.Fuel.{definitions_settle, fault_fuel}
use Rattle.gx_equation.proofs.LocalTerms.{local_named, local_first}
use Rattle.gx_equation.proofs.Passing.{pass_named, All, pass_definitions, pass_first, pass_equation, equation_passes}
use Rattle.gx_equation.proofs.Reasons.{IsSaid, Says, says_definitions, says_equation}
use Rattle.gx_equation.proofs.ShapeRules.{shaped}
use Rattle.gx_equation.proofs.TermsFound.{StartMark, start_mark}

-- ---- definitions behind the first

-- some text of definitions begins with these tokens
abbrev IsDefinitionsFront : List Lexeme → Type 0
IsDefinitionsFront before = (text : List ℕ) × (mid : List ℕ) × (more : ℕ) × (rest : List ℕ)
    × Lexes (32 ∷ text) before mid × DefinitionsShape 16 more (32 ∷ text) rest

front_end : IsDefinitionsFront []
front_end = ([], 32 ∷ [], 0, [], refl, the_end)

-- a fault behind tokens that begin some text
abbrev FaultInFront : (List ℕ → All) → List ℕ → Fault → Type 0
FaultInFront reader bytes f = (before : List Lexeme) × FaultBehind reader bytes f before
    × IsDefinitionsFront before

start_reason : (t : Lexeme) → HasReason t (a_start t)
start_reason (Word w) = tt
start_reason (Number w) = λ e. absurd cc
start_reason (Quoted w) = λ e. absurd cc
start_reason Open = λ e. absurd cc
start_reason Close = λ e. absurd cc
start_reason Comma = λ e. absurd cc
start_reason Equals = λ e. absurd cc
start_reason End = tt

-- what a start is
abbrev StartShape : Option (List ℕ) → List ℕ → List ℕ → Type 0
StartShape None = the End
StartShape (Some name) = AWord

start_shape : (t : Lexeme) (o : Option (List ℕ)) (bytes rest : List ℕ) → StartMark o t
    → the t bytes rest → StartShape o bytes rest
start_shape t None bytes rest is h = subst (λ (z : Lexeme). the z bytes rest) is h
start_shape t (Some name) bytes rest is h = (name, subst (λ (z : Lexeme). the z bytes rest) is h)

start_takes : (bytes name rest : List ℕ) → want a_start bytes ≡ Ok (Some name, rest)
    → Takes (want a_start) StartShape bytes (Some name, rest)
start_takes bytes name rest e =
    let w = want_ok a_start bytes (Some name, rest) e in
    takes_token a_start StartShape bytes w.token (Some name) rest
    (proper_token a_start w.token (Some name) (λ h. absurd cc) w.is w.first.begins.is_token)
    w.is
    (λ b r h. start_shape w.token (Some name) b r (start_mark w.token (Some name) w.is) h) w.first

-- what is read behind a start
abbrev behind_start : ℕ → Option (List ℕ) → List ℕ → All
behind_start fuel o b =
    elim o [ None ↦ Ok tt | Some name ↦ pass_named b >>= λ d. pass_definitions fuel d.1 ]

-- a definition begins with these tokens behind its name, and then the text may end
abbrev IsNamedFront : List Lexeme → Type 0
IsNamedFront before = (text : List ℕ) × (mid : List ℕ) × (more : ℕ) × (rest : List ℕ)
    × Lexes (32 ∷ text) before mid
    × ((the Equals ⨾ SideShape 16) ⨾ DefinitionsShape 16 more) (32 ∷ text) rest

abbrev NamedFault : (List ℕ → All) → List ℕ → Fault → Type 0
NamedFault reader bytes f = (before : List Lexeme) × FaultBehind reader bytes f before
    × IsNamedFront before

abbrev NamedShape : Unit {0} → List ℕ → List ℕ → Type 0
NamedShape u = the Equals ⨾ SideShape 16

named_end : (before : List Lexeme) → IsFront NamedShape before → IsNamedFront before
named_end before f = let g = f.1 [] in (g.0, g.1, 0, [], g.2, (32 ∷ [], g.3, the_end))

named_more : (bytes : List ℕ) (y : Unit {0} × List ℕ) (before : List Lexeme)
    → (t : Takes pass_named NamedShape bytes y) → IsDefinitionsFront before
    → IsNamedFront (t.taken ++ before)
named_more bytes y before t f =
    let w = text_behind pass_named NamedShape bytes y before f.0 f.1 t f.4 in
    (w.whole, f.1, f.2, f.3, w.lexed, (32 ∷ f.0, w.shaped, f.5))

named_fault : (fuel : ℕ) (bytes : List ℕ) (o : Result (Unit {0} × List ℕ) Fault) (f : Fault)
    → Outcome pass_named NamedShape bytes o
    → ((b : List ℕ) → pass_definitions fuel b ≡ Err f → FaultInFront (pass_definitions fuel) b f)
    → ◌≡◌ {A = All} (o >>= λ d. pass_definitions fuel d.1) (Err f)
    → NamedFault (λ b. pass_named b >>= λ d. pass_definitions fuel d.1) bytes f
named_fault fuel bytes (Err d) f t more e =
    let same : d ≡ f = cc in
    subst (NamedFault (λ b. pass_named b >>= λ d. pass_definitions fuel d.1) bytes) same (
      t.0,
      first_fault pass_named (λ d. pass_definitions fuel d.1) bytes d t.0 t.1,
      named_end t.0 t.2,
    )
named_fault fuel bytes (Ok y) f t more e =
    let g = more y.1 e in (
      t.taken ++ g.0,
      later_fault pass_named NamedShape
          (λ _. pass_definitions fuel) bytes y f g.0 t g.1,
      named_more bytes y g.0 t g.2,
    )

-- a name stands before it
front_name : (bytes name rest : List ℕ) (before : List Lexeme)
    → (t : Takes (want a_start) StartShape bytes (Some name, rest)) → IsNamedFront before
    → IsDefinitionsFront (t.taken ++ before)
front_name bytes name rest before t f =
    let w = text_behind (want a_start) StartShape bytes (Some name, rest) before f.0 f.1 t f.4 in
    let d = f.5 in
    (w.whole, f.1, suc f.2, f.3, w.lexed, (d.0, (32 ∷ f.0, w.shaped, d.1), d.2))

start_fault : (fuel : ℕ) (bytes : List ℕ) (s : Result (Option (List ℕ) × List ℕ) Fault) (f : Fault)
    → want a_start bytes ≡ s
    → ((b : List ℕ) → pass_definitions fuel b ≡ Err f
    → FaultInFront (pass_definitions fuel) b f)
    → ◌≡◌ {A = All} (s >>= λ x. behind_start fuel x.0 x.1) (Err f)
    → FaultInFront (λ b. want a_start b >>= λ x. behind_start fuel x.0 x.1) bytes f
start_fault fuel bytes (Err d) f is more e =
    let same : d ≡ f = cc in
    subst (FaultInFront (λ b. want a_start b >>= λ x. behind_start fuel x.0 x.1) bytes) same (
      [],
      first_fault (want a_start) (λ x. behind_start fuel x.0 x.1) bytes d []
          (want_fault a_start bytes d start_reason is),
      front_end,
    )
start_fault fuel bytes (Ok (None, rest)) f is more e = absurd cc
start_fault fuel bytes (Ok (Some name, rest)) f is more e =
    let t = start_takes bytes name rest is in
    let g = named_fault fuel rest (pass_named rest) f (local_named rest) more e in (
      t.taken ++ g.0,
      later_fault (want a_start) StartShape (behind_start fuel) bytes
          (Some name, rest) f g.0 t g.1,
      front_name bytes name rest g.0 t g.2,
    )

abbrev no_more_reader : List ℕ → Result (Unit {0} × List ℕ) Fault
no_more_reader = want (λ _. Err why.Count)

no_more_fault : (bytes : List ℕ) (f : Fault) (r : Result (Unit {0} × List ℕ) Fault)
    → no_more_reader bytes ≡ r → ◌≡◌ {A = All} (r >>= λ x. Ok x.0) (Err f)
    → FaultInFront (pass_definitions 0) bytes f
no_more_fault bytes f (Ok y) is e = absurd cc
no_more_fault bytes f (Err d) is e =
    let same : d ≡ f = cc in
    subst (FaultInFront (pass_definitions 0) bytes) same (
      [],
      first_fault no_more_reader (λ x. Ok x.0) bytes d []
          (want_fault (λ _. Err why.Count) bytes d (λ t. tt) is),
      front_end,
    )

definitions_fault : (fuel : ℕ) (bytes : List ℕ) (f : Fault) → pass_definitions fuel bytes ≡ Err f
    → FaultInFront (pass_definitions fuel) bytes f
definitions_fault zero bytes f e = no_more_fault bytes f (no_more_reader bytes) refl e
definitions_fault (suc fuel) bytes f e =
    start_fault fuel bytes (want a_start bytes) f refl (λ b. definitions_fault fuel b f) e

-- ---- all of the text

-- some text of the bare grammar begins with these tokens
abbrev IsWholeFront : List Lexeme → Type 0
IsWholeFront before = (text : List ℕ) × (mid : List ℕ) × Lexes (32 ∷ text) before mid
    × IsShaped (32 ∷ text)

abbrev FirstShape : Unit {0} → List ℕ → List ℕ → Type 0
FirstShape u = DefinitionShape 16

abbrev WholeFault : List ℕ → Fault → Type 0
WholeFault bytes f = (before : List Lexeme) × FaultBehind pass_equation bytes f before
    × IsWholeFront before

whole_end : (before : List Lexeme) → IsFront FirstShape before → IsWholeFront before
whole_end before f = let g = f.1 [] in (g.0, g.1, g.2, (16, 0, [], (32 ∷ [], g.3, the_end)))

whole_more : (bytes : List ℕ) (y : Unit {0} × List ℕ) (before : List Lexeme)
    → (t : Takes pass_first FirstShape bytes y) → IsDefinitionsFront before
    → IsWholeFront (t.taken ++ before)
whole_more bytes y before t f =
    let w = text_behind pass_first FirstShape bytes y before f.0 f.1 t f.4 in
    (w.whole, f.1, w.lexed, (16, f.2, f.3, (32 ∷ f.0, w.shaped, f.5)))

said_of : (r : All) (f : Fault) → Says r → r ≡ Err f → IsSaid f.why
said_of (Ok x) f h e = absurd cc
said_of (Err d) f h e = let same : d ≡ f = cc in subst (λ (z : Fault). IsSaid z.why) same h

first_by : (bytes : List ℕ) (o : Result (Unit {0} × List ℕ) Fault) (f : Fault)
    → Outcome pass_first FirstShape bytes o
    → ◌≡◌ {A = All} (o >>= λ d. pass_definitions (suc (length d.1)) d.1) (Err f)
    → WholeFault bytes f
first_by bytes (Err d) f t e =
    let same : d ≡ f = cc in
    subst (WholeFault bytes) same (
      t.0,
      first_fault pass_first (λ d. pass_definitions (suc (length d.1)) d.1) bytes d t.0 t.1,
      whole_end t.0 t.2,
    )
first_by bytes (Ok y) f t e =
    let fuel = suc (length y.1) in
    let g = definitions_fault fuel y.1 f e in
    let said = said_of (pass_definitions fuel y.1) f (says_definitions fuel y.1 (omega arith)) e in
    let behind = fault_fuel pass_definitions definitions_settle y.1 f g.0 said g.1 in (
      t.taken ++ g.0,
      later_fault pass_first FirstShape
          (λ _ b. pass_definitions (suc (length b)) b) bytes y f g.0 t behind,
      whole_more bytes y g.0 t g.2,
    )

whole_fault : (bytes : List ℕ) (f : Fault) → pass_equation bytes ≡ Err f → WholeFault bytes f
whole_fault bytes f e = first_by bytes (pass_first bytes) f (local_first bytes) e

-- ---- the cause

meant_passes : (bytes : List ℕ) (meaning : List DefinitionTree × List ℕ) → Means bytes meaning
    → pass_equation bytes ≡ Ok tt
meant_passes bytes meaning m = sym (equation_passes bytes)
    ∙ ap (map_ok (λ _. tt)) (equation_again meaning.0 m.places bytes m.text)

read_or_not : (bytes : List ℕ) (meaning : List DefinitionTree × List ℕ) (f : Fault)
    → Means bytes meaning → pass_equation bytes ≡ Err f → ⊥
read_or_not bytes meaning f m e = let passed = meant_passes bytes meaning m in cc

-- the rules that are said to be broken are those of equations
rule_said : (reason : Why) → IsSaid reason → IsRule reason → IsEquationRule reason
rule_said why.Token said rule = rule
rule_said why.Unexpected said rule = rule
rule_said why.End said rule = rule
rule_said why.Number said rule = tt
rule_said why.Depth said rule = tt
rule_said why.NameUse said rule = said
rule_said why.KeyField said rule = said
rule_said why.Count said rule = said

passes_err : {X : Type 0} (bytes : List ℕ) (r : Result X Fault) (f : Fault)
    → map_ok (λ _. tt) r ≡ pass_equation bytes → r ≡ Err f → pass_equation bytes ≡ Err f
passes_err bytes r f same e = sym same ∙ ap (map_ok (λ _. tt)) e

pub first_fault_is : (bytes : List ℕ) (f : Fault) → equation_at bytes ≡ Err f
    → IsFirstFault bytes (line_of bytes f.left) f.why
first_fault_is bytes f e =
    let p = passes_err bytes (equation_at bytes) f (equation_passes bytes) e in
    let g = whole_fault bytes f p in
    let front = g.2 in
    first_fault_of pass_equation Means IsShaped IsEquationRule read_or_not shaped bytes f g.0
    (rule_said f.why (said_of (pass_equation bytes) f (says_equation bytes) p)) g.1
    (32 ∷ front.0, front.1, front.2, front.3)
