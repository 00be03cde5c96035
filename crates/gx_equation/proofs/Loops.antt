-- Steps of the loops.
use Rattle.std.proofs.Common.{◌≡◌, ℕ, zero, suc, ◌-◌, ◌<◌, Bool, true, false, List, [], ◌∷◌, ◌++◌, length, Some, None, Result, Ok, Err, refl, sym, ap, subst, ◌∙◌, arith}
use Rattle.gx_tokens.specs.declared.fault.Fault.{Fault}
use Rattle.gx_tokens.specs.declared.fault.ReadError.{ReadError}
use Rattle.gx_tokens.specs.declared.fault.ReadError.TheVariants as errors
use Rattle.gx_tokens.specs.declared.why.Why.{Why}
use Rattle.gx_tokens.specs.Grammar.{the}
use Rattle.gx_tokens.specs.Lexemes.{Lexeme}
use Rattle.gx_tokens.specs.Reading.{◌>>=◌, Fails, want, comma_or_close}
use Rattle.gx_tokens.proofs.ReadingLaws.{want_ok}
use Rattle.gx_equation.specs.declared.heads.Head.{Head}
use Rattle.gx_equation.specs.Definitions.{a_start, definition_behind, definitions_at}
use Rattle.gx_equation.specs.Heads.{or_comma, items_at, head_at}
use Rattle.gx_equation.specs.Terms.{left_of, kids_at, term_behind, term_at}
use Rattle.gx_equation.specs.Trees.{TermTree, DefinitionTree}
use Rattle.gx_equation.proofs.Shorter.{more_shorter, read_shorter, definition_shorter}
use Rattle.gx_equation.proofs.TermsFound.{start_mark, definition_found}

-- ---- items up to a comma

pub items_go_on : {X : Type 0} (item : Lexeme → Result X Why) (fuel : ℕ) (before : List X)
    (bytes rest : List ℕ) (x : X) (total : Result (List X × List ℕ) Fault) → length bytes < fuel
    → length rest < length bytes
    → want (or_comma item) bytes ≡ Ok (Some x, rest) → items_at item fuel before bytes ≡ total
    → (more : ℕ) × (length rest < more) × (items_at item more (before ++ x ∷ []) rest ≡ total)
unfolding items_at
items_go_on item zero before bytes rest x total lt less h so_far = absurd (omega arith)
items_go_on item (suc fuel) before bytes rest x total lt less h so_far =
    let one : items_at item (suc fuel) before bytes ≡ items_at item fuel (before ++ x ∷ []) rest =
    rw h refl in
    (fuel, omega arith, sym one ∙ so_far)

pub items_end : {X : Type 0} (item : Lexeme → Result X Why) (fuel : ℕ) (before : List X)
    (bytes rest : List ℕ) (total : Result (List X × List ℕ) Fault) → length bytes < fuel
    → want (or_comma item) bytes ≡ Ok (None, rest) → items_at item fuel before bytes ≡ total
    → total ≡ Ok (before, rest)
unfolding items_at
items_end item zero before bytes rest total lt h so_far = absurd (omega arith)
items_end item (suc fuel) before bytes rest total lt h so_far =
    let one : items_at item (suc fuel) before bytes ≡ Ok (before, rest) = rw h refl in
    sym so_far ∙ one

pub item_fails : {X : Type 0} (item : Lexeme → Result X Why) (fuel : ℕ) (before : List X)
    (bytes : List ℕ) (e : ReadError) (total : Result (List X × List ℕ) Fault) → length bytes < fuel
    → Fails e (want (or_comma item) bytes) → items_at item fuel before bytes ≡ total → Fails e total
unfolding items_at
item_fails item fuel before bytes errors.NoMemory total lt h so_far = tt
item_fails item zero before bytes (errors.Bad f) total lt h so_far = absurd (omega arith)
item_fails item (suc fuel) before bytes (errors.Bad f) total lt h so_far =
    let one : items_at item (suc fuel) before bytes ≡ Err f = rw h refl in
    sym so_far ∙ one

-- ---- lists of terms

abbrev pub Kids : Type 0
Kids = Result ((List TermTree × List ℕ) × List ℕ) Fault

pub kids_go_on : (levels fuel : ℕ) (before : List TermTree) (places bytes : List ℕ) (t : TermTree)
    (seen after rest : List ℕ) (total : Kids) → length bytes < fuel
    → term_at levels places bytes ≡ Ok ((t, seen), after)
    → want comma_or_close after ≡ Ok (true, rest)
    → kids_at (term_at levels) fuel before places bytes ≡ total
    → (more : ℕ) × (length rest < more)
    × (kids_at (term_at levels) more (before ++ t ∷ []) seen rest ≡ total)
unfolding kids_at
kids_go_on levels zero before places bytes t seen after rest total lt h m so_far =
    absurd (omega arith)
kids_go_on levels (suc fuel) before places bytes t seen after rest total lt h m so_far =
    let one : kids_at (term_at levels) (suc fuel) before places bytes ≡ kids_at
    (term_at levels) fuel (before ++ t ∷ []) seen rest = rw (h, m) refl in (
      fuel,
      omega (
        arith,
        read_shorter levels places bytes ((t, seen), after) h,
        more_shorter after (true, rest) m,
      ),
      sym one ∙ so_far,
    )

pub kids_end : (levels fuel : ℕ) (before : List TermTree) (places bytes : List ℕ) (t : TermTree)
    (seen after rest : List ℕ) (total : Kids) → length bytes < fuel
    → term_at levels places bytes ≡ Ok ((t, seen), after)
    → want comma_or_close after ≡ Ok (false, rest)
    → kids_at (term_at levels) fuel before places bytes ≡ total
    → total ≡ Ok ((before ++ t ∷ [], seen), rest)
unfolding kids_at
kids_end levels zero before places bytes t seen after rest total lt h m so_far =
    absurd (omega arith)
kids_end levels (suc fuel) before places bytes t seen after rest total lt h m so_far =
    let one : kids_at (term_at levels) (suc fuel) before places bytes ≡ Ok
    ((before ++ t ∷ [], seen), rest) = rw (h, m) refl in
    sym so_far ∙ one

pub kid_fails : (levels fuel : ℕ) (before : List TermTree) (places bytes : List ℕ) (e : ReadError)
    (total : Kids) → length bytes < fuel
    → Fails e (term_at levels places bytes)
    → kids_at (term_at levels) fuel before places bytes ≡ total → Fails e total
unfolding kids_at
kid_fails levels fuel before places bytes errors.NoMemory total lt h so_far = tt
kid_fails levels zero before places bytes (errors.Bad f) total lt h so_far = absurd (omega arith)
kid_fails levels (suc fuel) before places bytes (errors.Bad f) total lt h so_far =
    let one : kids_at (term_at levels) (suc fuel) before places bytes ≡ Err f = rw h refl in
    sym so_far ∙ one

pub more_fails : (levels fuel : ℕ) (before : List TermTree) (places bytes : List ℕ) (t : TermTree)
    (seen after : List ℕ) (f : Fault) (total : Kids) → length bytes < fuel
    → term_at levels places bytes ≡ Ok ((t, seen), after) → want comma_or_close after ≡ Err f
    → kids_at (term_at levels) fuel before places bytes ≡ total → total ≡ Err f
unfolding kids_at
more_fails levels zero before places bytes t seen after f total lt h m so_far = absurd (omega arith)
more_fails levels (suc fuel) before places bytes t seen after f total lt h m so_far =
    let one : kids_at (term_at levels) (suc fuel) before places bytes ≡ Err f = rw (h, m) refl in
    sym so_far ∙ one

pub smaller : (levels : ℕ) (places bytes : List ℕ) (t : TermTree) (seen after : List ℕ)
    (y : Bool × List ℕ) → term_at levels places bytes ≡ Ok ((t, seen), after)
    → want comma_or_close after ≡ Ok y → length y.1 < length bytes
smaller levels places bytes t seen after y h m =
    omega (arith, read_shorter levels places bytes ((t, seen), after) h, more_shorter after y m)

-- ---- terms

pub head_fails : (levels : ℕ) (places bytes : List ℕ) (e : ReadError)
    → Fails e (head_at levels bytes) → Fails e (term_at levels places bytes)
unfolding term_at
head_fails levels places bytes errors.NoMemory h = tt
head_fails zero places bytes (errors.Bad f) h = rw h refl
head_fails (suc levels) places bytes (errors.Bad f) h = rw h refl

pub term_goes_on : (levels : ℕ) (places bytes : List ℕ) (top : Head) (rest : List ℕ) → 0 < levels
    → head_at levels bytes ≡ Ok (top, rest)
    → term_at levels places bytes ≡ term_behind (term_at (levels - 1)) top
    (places ++ left_of bytes ∷ []) rest
unfolding term_at
term_goes_on zero places bytes top rest some h = absurd (omega arith)
term_goes_on (suc levels) places bytes top rest some h =
    let k : suc levels - 1 ≡ levels = omega arith in
    ap (λ r. r >>= λ x. term_behind (term_at levels) x.0 (places ++ left_of bytes ∷ []) x.1) h
    ∙ ap (λ (n : ℕ). term_behind (term_at n) top (places ++ left_of bytes ∷ []) rest) (sym k)

-- ---- definitions

abbrev pub All : Type 0
All = Result (List DefinitionTree × List ℕ) Fault

pub definition_smaller : (bytes name after before : List ℕ) (y : (DefinitionTree × List ℕ) × List ℕ)
    → want a_start bytes ≡ Ok (Some name, after)
    → definition_behind name (before ++ left_of bytes ∷ []) after ≡ Ok y
    → length y.1 < length bytes
definition_smaller bytes name after before y s d =
    let w = want_ok a_start bytes (Some name, after) s in
    let word = subst (λ (t : Lexeme). the t bytes after) (start_mark w.token (Some name) w.is)
    w.first in
    definition_shorter y.0.0 before y.0.1 bytes y.1
    (definition_found name before bytes after y word d)

pub go_on : (fuel : ℕ) (before : List DefinitionTree) (places bytes name after : List ℕ)
    (d : DefinitionTree) (seen rest : List ℕ) (total : All) → length bytes < fuel
    → want a_start bytes ≡ Ok (Some name, after)
    → definition_behind name (places ++ left_of bytes ∷ []) after ≡ Ok ((d, seen), rest)
    → definitions_at fuel before places bytes ≡ total
    → (more : ℕ) × (length rest < more) × (definitions_at more (before ++ d ∷ []) seen rest ≡ total)
unfolding definitions_at
go_on zero before places bytes name after d seen rest total lt s h so_far = absurd (omega arith)
go_on (suc fuel) before places bytes name after d seen rest total lt s h so_far =
    let one : definitions_at (suc fuel) before places bytes ≡ definitions_at fuel
    (before ++ d ∷ []) seen rest = rw (s, h) refl in (
      fuel,
      omega (arith, definition_smaller bytes name after places ((d, seen), rest) s h),
      sym one ∙ so_far,
    )

pub ends : (fuel : ℕ) (before : List DefinitionTree) (places bytes after : List ℕ) (total : All)
    → length bytes < fuel → want a_start bytes ≡ Ok (None, after)
    → definitions_at fuel before places bytes ≡ total → total ≡ Ok (before, places)
unfolding definitions_at
ends zero before places bytes after total lt s so_far = absurd (omega arith)
ends (suc fuel) before places bytes after total lt s so_far =
    let one : definitions_at (suc fuel) before places bytes ≡ Ok (before, places) = rw s refl in
    sym so_far ∙ one

pub start_fails : (fuel : ℕ) (before : List DefinitionTree) (places bytes : List ℕ) (f : Fault)
    (total : All) → length bytes < fuel → want a_start bytes ≡ Err f
    → definitions_at fuel before places bytes ≡ total → total ≡ Err f
unfolding definitions_at
start_fails zero before places bytes f total lt s so_far = absurd (omega arith)
start_fails (suc fuel) before places bytes f total lt s so_far =
    let one : definitions_at (suc fuel) before places bytes ≡ Err f = rw s refl in
    sym so_far ∙ one

pub definition_fails : (fuel : ℕ) (before : List DefinitionTree) (places bytes name after : List ℕ)
    (e : ReadError) (total : All) → length bytes < fuel
    → want a_start bytes ≡ Ok (Some name, after)
    → Fails e (definition_behind name (places ++ left_of bytes ∷ []) after)
    → definitions_at fuel before places bytes ≡ total → Fails e total
unfolding definitions_at
definition_fails fuel before places bytes name after errors.NoMemory total lt s h so_far = tt
definition_fails zero before places bytes name after (errors.Bad f) total lt s h so_far =
    absurd (omega arith)
definition_fails (suc fuel) before places bytes name after (errors.Bad f) total lt s h so_far =
    let one : definitions_at (suc fuel) before places bytes ≡ Err f = rw (s, h) refl in
    sym so_far ∙ one
