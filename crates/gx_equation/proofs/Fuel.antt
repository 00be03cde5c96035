-- Loops give the same with all fuel that is enough.
use Rattle.std.proofs.Common.{◌≡◌, ℕ, zero, suc, ◌<◌, Bool, true, false, cond, List, [], ◌∷◌, ◌++◌, length, Option, Some, None, Result, Ok, Err, refl, sym, ap, subst, ◌∙◌, ◌⊎◌, inl, inr, arith}
use Rattle.gx_tokens.specs.declared.fault.Fault.{Fault}
use Rattle.gx_tokens.specs.declared.why.Why.{Why}
use Rattle.gx_tokens.specs.declared.why.Why.TheVariants as why
use Rattle.gx_tokens.specs.Lexemes.{Lexeme, next_token}
use Rattle.gx_tokens.specs.Locality.{FaultBehind, Outcome, IsLocal}
use Rattle.gx_tokens.specs.Reading.{◌>>=◌, met, want, comma_or_close, fault_at}
use Rattle.gx_equation.specs.Definitions.{a_start}
use Rattle.gx_equation.specs.Heads.{or_comma, items_at}
use Rattle.gx_equation.proofs.Passing.{Pass, pass_kids, pass_named, All, pass_definitions}
use Rattle.gx_equation.proofs.Reasons.{IsSaid, Says, IsGood, start_less, named_less}
use Rattle.gx_equation.proofs.Shorter.{more_shorter}

-- the fuel ran out
abbrev pub IsSpent : {X : Type 0} → Result X Fault → Type 0
IsSpent (Ok x) = ⊥
IsSpent (Err f) = f.why ≡ why.Count

-- the fuel ran out, or it gives the same with any other that is more than the bytes
abbrev pub Settles : {X : Type 0} → (ℕ → List ℕ → Result X Fault) → Type 0
Settles reader = (few many : ℕ) (bytes : List ℕ) → length bytes < many
    → IsSpent (reader few bytes) ⊎ (reader few bytes ≡ reader many bytes)

settles_then : {X Y : Type 0} (r : Result Y Fault) (k l : Y → Result X Fault)
    → ((y : Y) → r ≡ Ok y → IsSpent (k y) ⊎ (k y ≡ l y))
    → IsSpent (r >>= k) ⊎ ((r >>= k) ≡ (r >>= l))
settles_then (Ok y) k l h = h y refl
settles_then (Err f) k l h = inr refl

spent_or : {X Y : Type 0} (bytes : List ℕ) (n : Result (Lexeme × List ℕ) Fault) (m : Lexeme × List ℕ
    → Result Y Fault) (l : Y → Result (X × List ℕ) Fault)
    → IsSpent {X = X × List ℕ} (n >>= λ x. met bytes (Err why.Count) x.1)
    ⊎ (◌≡◌ {A = Result (X × List ℕ) Fault} (n >>= λ x. met bytes (Err why.Count) x.1)
    ((n >>= m) >>= l))
spent_or bytes (Ok x) m l = inl refl
spent_or bytes (Err f) m l = inr refl

spent_or_all : {Y : Type 0} (bytes : List ℕ) (n : Result (Lexeme × List ℕ) Fault) (m : Lexeme
    × List ℕ → Result Y Fault) (l : Y → All)
    → IsSpent ((n >>= λ x. met {A = Unit {0}} bytes (Err why.Count) x.1) >>= λ x. Ok x.0)
    ⊎ (((n >>= λ x. met {A = Unit {0}} bytes (Err why.Count) x.1) >>= λ x. Ok x.0)
    ≡ ((n >>= m) >>= l))
spent_or_all bytes (Ok x) m l = inl refl
spent_or_all bytes (Err f) m l = inr refl

-- ---- items

item_step : {X : Type 0} (before : List X) (o : Option X) (rest : List ℕ) (k l : X
    → Result (List X × List ℕ) Fault) → ((x : X) → IsSpent (k x) ⊎ (k x ≡ l x))
    → IsSpent {X = List X × List ℕ} (elim o [ None ↦ Ok (before, rest) | Some x ↦ k x ])
    ⊎ (◌≡◌ {A = Result (List X × List ℕ) Fault}
    (elim o [ None ↦ Ok (before, rest) | Some x ↦ k x ])
    (elim o [ None ↦ Ok (before, rest) | Some x ↦ l x ]))
item_step before None rest k l h = inr refl
item_step before (Some x) rest k l h = h x

pub items_settle : {X : Type 0} (item : Lexeme → Result X Why)
    → ((bytes : List ℕ) (y : Option X × List ℕ) → want (or_comma item) bytes ≡ Ok y
    → length y.1 < length bytes)
    → (before : List X) → Settles (λ fuel bytes. items_at item fuel before bytes)
unfolding items_at
items_settle item short before few zero bytes lt = absurd (omega arith)
items_settle item short before zero (suc many) bytes lt =
    spent_or bytes (next_token bytes) (λ x. met bytes (or_comma item x.0) x.1)
    (λ x. elim x.0 [ None ↦ Ok (before, x.1) | Some y ↦ items_at item many (before ++ y ∷ []) x.1 ])
items_settle item short before (suc few) (suc many) bytes lt =
    settles_then (want (or_comma item) bytes)
    (λ x. elim x.0 [ None ↦ Ok (before, x.1) | Some y ↦ items_at item few (before ++ y ∷ []) x.1 ])
    (λ x. elim x.0 [ None ↦ Ok (before, x.1) | Some y ↦ items_at item many (before ++ y ∷ []) x.1 ])
    (λ x e. item_step before x.0 x.1 (λ y. items_at item few (before ++ y ∷ []) x.1)
    (λ y. items_at item many (before ++ y ∷ []) x.1)
    (λ y. items_settle item short (before ++ y ∷ []) few many x.1 (omega (arith, short bytes x e))))

-- ---- terms

kid_step : (more : Bool) (k l : Result (Unit {0} × List ℕ) Fault) (rest : List ℕ)
    → IsSpent k ⊎ (k ≡ l) → IsSpent (cond more k (Ok (tt, rest)))
    ⊎ (cond more k (Ok (tt, rest)) ≡ cond more l (Ok (tt, rest)))
kid_step true k l rest h = h
kid_step false k l rest h = inr refl

zero_kids : (term : Pass) → IsGood term
    → (many : ℕ) (bytes : List ℕ) (n : Result (Lexeme × List ℕ) Fault) → next_token bytes ≡ n
    → IsSpent {X = Unit {0} × List ℕ} (n >>= λ x. met bytes (Err why.Count) x.1)
    ⊎ (◌≡◌ {A = Result (Unit {0} × List ℕ) Fault} (n >>= λ x. met bytes (Err why.Count) x.1)
    (pass_kids term (suc many) bytes))
zero_kids term good many bytes (Ok x) e = inl refl
zero_kids term good many bytes (Err f) e =
    inr (sym (ap (λ r. r >>= λ t. want comma_or_close t.1 >>= λ more. cond more.0
    (pass_kids term many more.1) (Ok (tt, more.1))) (good.starts bytes f e)))

pub kids_settle : (term : Pass) → IsGood term → Settles (pass_kids term)
kids_settle term good few zero bytes lt = absurd (omega arith)
kids_settle term good zero (suc many) bytes lt =
    zero_kids term good many bytes (next_token bytes) refl
kids_settle term good (suc few) (suc many) bytes lt =
    settles_then (term bytes)
    (λ t. want comma_or_close t.1 >>= λ more. cond more.0 (pass_kids term few more.1)
    (Ok (tt, more.1))) (λ t. want comma_or_close t.1 >>= λ more. cond more.0
    (pass_kids term many more.1) (Ok (tt, more.1)))
    (λ t e. settles_then (want comma_or_close t.1)
    (λ more. cond more.0 (pass_kids term few more.1) (Ok (tt, more.1)))
    (λ more. cond more.0 (pass_kids term many more.1) (Ok (tt, more.1)))
    (λ more m. kid_step more.0 (pass_kids term few more.1) (pass_kids term many more.1) more.1
    (kids_settle term good few many more.1
    (omega (arith, good.shorter bytes t e, more_shorter t.1 more m)))))

-- ---- definitions

definition_step : (few many : ℕ) (bytes : List ℕ) (o : Option (List ℕ)) (rest : List ℕ)
    → length bytes < suc many → want a_start bytes ≡ Ok (o, rest)
    → ((b : List ℕ) → length b < many
    → IsSpent (pass_definitions few b) ⊎ (pass_definitions few b ≡ pass_definitions many b))
    → IsSpent {X = Unit {0}}
    (elim o [ None ↦ Ok tt | Some name ↦ pass_named rest >>= λ d. pass_definitions few d.1 ])
    ⊎ (◌≡◌ {A = All} (elim o
    [ None ↦ Ok tt | Some name ↦ pass_named rest >>= λ d. pass_definitions few d.1 ])
    (elim o [ None ↦ Ok tt | Some name ↦ pass_named rest >>= λ d. pass_definitions many d.1 ]))
definition_step few many bytes None rest lt e again = inr refl
definition_step few many bytes (Some name) rest lt e again =
    settles_then (pass_named rest) (λ d. pass_definitions few d.1) (λ d. pass_definitions many d.1)
    (λ d h. again d.1 (omega (arith, start_less bytes name rest e, named_less rest d h)))

pub definitions_settle : Settles pass_definitions
definitions_settle few zero bytes lt = absurd (omega arith)
definitions_settle zero (suc many) bytes lt =
    spent_or_all bytes (next_token bytes) (λ x. met bytes (a_start x.0) x.1)
    (λ s. elim s.0 [ None ↦ Ok tt | Some name ↦ pass_named s.1 >>= λ d. pass_definitions many d.1 ])
definitions_settle (suc few) (suc many) bytes lt =
    settles_then (want a_start bytes)
    (λ s. elim s.0 [ None ↦ Ok tt | Some name ↦ pass_named s.1 >>= λ d. pass_definitions few d.1 ])
    (λ s. elim s.0 [ None ↦ Ok tt | Some name ↦ pass_named s.1 >>= λ d. pass_definitions many d.1 ])
    (λ s e. definition_step few many bytes s.0 s.1 lt e (λ b h. definitions_settle few many b h))

-- ---- with fuel for each byte, what is read depends on tokens

said_not_spent : (reason : Why) → IsSaid reason → reason ≡ why.Count → ⊥
said_not_spent reason said e = subst IsSaid e said

still_ok : {X : Type 0} (r s : Result X Fault) (x : X) → IsSpent r ⊎ (r ≡ s) → r ≡ Ok x → s ≡ Ok x
still_ok r s x (inl spent) e = absurd (subst IsSpent e spent)
still_ok r s x (inr same) e = sym same ∙ e

still_err : {X : Type 0} (r s : Result X Fault) (f : Fault) → IsSaid f.why → IsSpent r ⊎ (r ≡ s)
    → r ≡ Err f → s ≡ Err f
still_err r s f said (inl spent) e = absurd (said_not_spent f.why said (subst IsSpent e spent))
still_err r s f said (inr same) e = sym same ∙ e

-- with fuel for each byte
abbrev pub fuelled : {X : Type 0} → (ℕ → List ℕ → Result X Fault) → List ℕ → Result X Fault
fuelled reader bytes = reader (suc (length bytes)) bytes

pub fault_fuel : {X : Type 0} (reader : ℕ → List ℕ → Result X Fault) → Settles reader
    → (bytes : List ℕ) (f : Fault) (before : List Lexeme) → IsSaid f.why
    → FaultBehind (reader (suc (length bytes))) bytes f before
    → FaultBehind (fuelled reader) bytes f before
fault_fuel reader settles bytes f before said (inl s) = inl (record {
  here = s.here;
  token = s.token;
  rest = s.rest;
  lexed = s.lexed;
  first = s.first;
  reason = s.reason;
  is = s.is;
  others = λ other there after l first. still_err (reader (suc (length bytes)) other)
      (fuelled reader other) (fault_at there f.why) said
      (settles (suc (length bytes)) (suc (length other)) other (omega arith))
      (s.others other there after l first);
})
fault_fuel reader settles bytes f before said (inr s) = inr s

fuel_by : {A : Type 0} (reader : ℕ → List ℕ → Result (A × List ℕ) Fault) (shape : A → List ℕ
    → List ℕ → Type 0) (bytes : List ℕ) (o : Result (A × List ℕ) Fault) → Settles reader → Says o
    → Outcome (reader (suc (length bytes))) shape bytes o
    → Outcome (fuelled reader) shape bytes o
fuel_by reader shape bytes (Ok y) settles says t = record {
  taken = t.taken;
  proper = t.proper;
  lexed = t.lexed;
  others = λ other rest l. still_ok (reader (suc (length bytes)) other) (fuelled reader other)
      (y.0, rest) (settles (suc (length bytes)) (suc (length other)) other (omega arith))
      (t.others other rest l);
  shaped = t.shaped;
}
fuel_by reader shape bytes (Err f) settles says t =
    (t.0, fault_fuel reader settles bytes f t.0 says t.1, t.2)

pub local_fuel : {A : Type 0} (reader : ℕ → List ℕ → Result (A × List ℕ) Fault) (shape : A → List ℕ
    → List ℕ → Type 0) → Settles reader → ((bytes : List ℕ) → Says (fuelled reader bytes))
    → ((fuel : ℕ) → IsLocal (reader fuel) shape) → IsLocal (fuelled reader) shape
local_fuel reader shape settles says each bytes =
    fuel_by reader shape bytes (reader (suc (length bytes)) bytes) settles (says bytes)
    (each (suc (length bytes)) bytes)
