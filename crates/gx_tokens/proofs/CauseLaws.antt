-- The cause of a fault, where readers say why they fail.
use Rattle.std.proofs.Common.{◌≡◌, ℕ, List, Result, Ok, Err, refl, sym, ap, subst, inl, inr}
use Rattle.gx_tokens.specs.declared.fault.Fault.{Fault}
use Rattle.gx_tokens.specs.declared.why.Why.{Why}
use Rattle.gx_tokens.specs.declared.why.Why.TheVariants as why
use Rattle.gx_tokens.specs.Faults.{IsRule, IsShapeFront, NoTextGoesOn, NoShapeGoesOn, IsCause, IsFirstFault}
use Rattle.gx_tokens.specs.Lexemes.{Lexeme, End, next_token}
use Rattle.gx_tokens.specs.Lines.{line_of}
use Rattle.gx_tokens.specs.Locality.{IsReasonAt, FaultAtToken, FaultBehind}
use Rattle.gx_tokens.specs.Reading.{fault_at}
use Rattle.gx_tokens.specs.Spelling.{FirstToken}
use Rattle.gx_tokens.proofs.TokenAgain.{first_again}
use Rattle.gx_tokens.proofs.TokenFound.{no_token}

found_or_not : (r : Result (Lexeme × List ℕ) Fault) (f : Fault) (x : Lexeme × List ℕ) → r ≡ Err f
    → r ≡ Ok x → ⊥
found_or_not r f x e g = cc

-- a reader that reads each text with a meaning, and refuses a text of the bare grammar for a broken
-- rule alone
module _ {A C : Type 0} (reader : List ℕ → Result C Fault) (Means : List ℕ → A → Type 0)
    (Shaped : List ℕ → Type 0) (Rule : Why → Type 0) (read : (text : List ℕ) (meaning : A)
    (f : Fault) → Means text meaning → reader text ≡ Err f → ⊥)
    (shaped : (text : List ℕ) (f : Fault) → Shaped text → reader text ≡ Err f → IsRule f.why) where
  no_text : (bytes : List ℕ) (f : Fault) (before : List Lexeme)
      → (s : FaultAtToken reader bytes f before) → NoTextGoesOn Means before s.token
  no_text bytes f before s other there after meaning l first m = read other meaning
      (fault_at there f.why) m (s.others other there after l first)

  no_shape : (bytes : List ℕ) (f : Fault) (before : List Lexeme)
      → (s : FaultAtToken reader bytes f before) → (IsRule f.why → ⊥)
      → NoShapeGoesOn Shaped before s.token
  no_shape bytes f before s bare other there after l first text = bare
      (shaped other (fault_at there f.why) text (s.others other there after l first))

  cause_at : (bytes : List ℕ) (f : Fault) (before : List Lexeme) (reason : Why) → f.why ≡ reason
      → (IsRule reason → Rule reason) → (s : FaultAtToken reader bytes f before)
      → IsCause Means Shaped Rule reason before s.here
  cause_at bytes f before why.Token e rule s = let named = subst (IsReasonAt s.token) e s.reason in
      absurd named
  cause_at bytes f before why.Unexpected e rule s = (
    s.token,
    s.rest,
    s.first,
    subst
        (IsReasonAt s.token) e s.reason,
    no_shape bytes f before s (λ broken. subst IsRule e broken),
  )
  cause_at bytes f before why.End e rule s =
      let named : s.token ≡ End = subst (IsReasonAt s.token) e s.reason in
      subst (λ (t : Lexeme). (rest : List ℕ) × FirstToken s.here t rest
      × NoShapeGoesOn Shaped before t) named (
        s.rest,
        s.first,
        no_shape bytes f before s
            (λ broken. subst IsRule e broken),
      )
  cause_at bytes f before why.Number e rule s = (
    rule tt,
    (s.token, s.rest, s.first, no_text bytes f before s),
  )
  cause_at bytes f before why.Depth e rule s = (
    rule tt,
    (s.token, s.rest, s.first, no_text bytes f before s),
  )
  cause_at bytes f before why.NameUse e rule s = (
    rule tt,
    (s.token, s.rest, s.first, no_text bytes f before s),
  )
  cause_at bytes f before why.KeyField e rule s = (
    rule tt,
    (s.token, s.rest, s.first, no_text bytes f before s),
  )
  cause_at bytes f before why.Count e rule s = (
    rule tt,
    (s.token, s.rest, s.first, no_text bytes f before s),
  )

  pub first_fault_of : (bytes : List ℕ) (f : Fault) (before : List Lexeme)
      → (IsRule f.why → Rule f.why) → FaultBehind reader bytes f before → IsShapeFront Shaped before
      → IsFirstFault Means Shaped Rule bytes (line_of bytes f.left) f.why
  first_fault_of bytes f before rule (inl s) front = record {
    before = before;
    here = s.here;
    lexed = s.lexed;
    in_line = ap (λ (z : Fault). line_of bytes z.left) s.is;
    front = front;
    cause = cause_at bytes f before f.why refl rule s;
  }
  first_fault_of bytes f before rule (inr s) front =
      let n = no_token s.here f s.none in
      record {
        before = before;
        here = s.here;
        lexed = s.lexed;
        in_line = ap (line_of bytes) n.0;
        front = front;
        cause = subst (λ (reason : Why). IsCause Means Shaped Rule reason before s.here) (sym n.1)
            (λ token rest first. found_or_not (next_token s.here) f (token, rest) s.none
            (first_again s.here token rest first));
      }
