-- In a text of a bare grammar only rules are broken: readers that go on with what is left, or break
-- a rule.
use Rattle.std.proofs.Common.{◌≡◌, ℕ, List, Result, Ok, Err, refl, sym, subst}
use Rattle.gx_tokens.specs.declared.fault.Fault.{Fault}
use Rattle.gx_tokens.specs.declared.why.Why.{Why}
use Rattle.gx_tokens.specs.Faults.{IsRule}
use Rattle.gx_tokens.specs.Lexemes.{Lexeme}
use Rattle.gx_tokens.specs.Reading.{◌>>=◌, met, want}
use Rattle.gx_tokens.specs.Spelling.{FirstToken}
use Rattle.gx_tokens.proofs.TokenAgain.{first_again}

-- a value with this rest, or a broken rule
abbrev pub Goes : {A : Type 0} → Result (A × List ℕ) Fault → List ℕ → Type 0
Goes (Ok y) rest = y.1 ≡ rest
Goes (Err f) rest = IsRule f.why

-- a meaning, or a broken rule
abbrev pub MeansOr : {A : Type 0} → Result A Why → Type 0
MeansOr (Ok x) = Unit {0}
MeansOr (Err reason) = IsRule reason

pub goes_met : {A : Type 0} (bytes rest : List ℕ) (m : Result A Why) → MeansOr m
    → Goes (met bytes m rest) rest
goes_met bytes rest (Ok x) h = refl
goes_met bytes rest (Err reason) h = h

pub goes_want : {A : Type 0} (meaning : Lexeme → Result A Why) (bytes rest : List ℕ) (t : Lexeme)
    → FirstToken bytes t rest → MeansOr (meaning t) → Goes (want meaning bytes) rest
goes_want meaning bytes rest t h m = rw (first_again bytes t rest h)
    (goes_met bytes rest (meaning t) m)

pub goes_bind : {A B : Type 0} (r : Result (A × List ℕ) Fault)
    (k : A → List ℕ → Result (B × List ℕ) Fault) (mid rest : List ℕ) → Goes r mid
    → ((x : A) → Goes (k x mid) rest)
    → Goes (r >>= λ z. k z.0 z.1) rest
goes_bind (Ok y) k mid rest h more = subst (λ (b : List ℕ). Goes (k y.0 b) rest) (sym h) (more y.0)
goes_bind (Err f) k mid rest h more = h
