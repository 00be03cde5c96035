-- Readers that are made of local ones are local.
use Rattle.std.proofs.Common.{◌≡◌, ℕ, List, [], ◌∷◌, ◌++◌, Result, Ok, Err, refl, sym, ap, subst, ◌∙◌, inl, inr, arith}
use Rattle.std.specs.List.{AllByRecursion}
use Rattle.gx_tokens.specs.declared.fault.Fault.{Fault}
use Rattle.gx_tokens.specs.declared.why.Why.{Why}
use Rattle.gx_tokens.specs.Grammar.{◌⨾◌, the}
use Rattle.gx_tokens.specs.Lexemes.{Lexeme, Word, Number, Quoted, Open, Close, Comma, Equals, End, next_token}
use Rattle.gx_tokens.specs.Locality.{IsProper, IsInhabited, IsFront, IsReasonAt, HasReason, FaultAtToken, FaultBehind, Takes, Outcome, IsLocal}
use Rattle.gx_tokens.specs.Reading.{◌>>=◌, map_ok, fault_at, met, want}
use Rattle.gx_tokens.specs.Spelling.{spelling, IsToken, MayFollow, FirstToken, Lexes}
use Rattle.gx_tokens.proofs.TokenFound.{first_found}
use Rattle.gx_tokens.proofs.TokenAgain.{first_again}

-- ---- lists of tokens

pub Lexes-append : (a : List ℕ) (ts : List Lexeme) (b : List ℕ) (us : List Lexeme) (c : List ℕ)
    → Lexes a ts b → Lexes b us c → Lexes a (ts ++ us) c
Lexes-append a [] b us c p q = subst (λ (x : List ℕ). Lexes x us c) (sym p) q
Lexes-append a (t ∷ ts) b us c p q = (p.0, p.1, Lexes-append p.0 ts b us c p.2 q)

pub Lexes-split : (a : List ℕ) (ts us : List Lexeme) (c : List ℕ) → Lexes a (ts ++ us) c
    → (b : List ℕ) × Lexes a ts b × Lexes b us c
Lexes-split a [] us c p = (a, refl, p)
Lexes-split a (t ∷ ts) us c p = let s = Lexes-split p.0 ts us c p.2 in (s.0, (p.0, p.1, s.1), s.2)

proper-append : (ts us : List Lexeme) → AllByRecursion IsProper ts → AllByRecursion IsProper us
    → AllByRecursion IsProper (ts ++ us)
proper-append [] us p q = q
proper-append (t ∷ ts) us p q = (p.0, proper-append ts us p.1 q)

-- ---- texts of given tokens

-- where a blank follows, a token stands
pub between_blanks : (t : Lexeme) (rest : List ℕ) → IsProper t
    → FirstToken (32 ∷ (spelling t ++ 32 ∷ rest)) t (32 ∷ rest)
between_blanks t rest proper = let p = parts t rest proper in
    record {
      blanks = 32 ∷ [];
      here = spelling t ++ 32 ∷ rest;
      parts = refl;
      are_blanks = inr (refl, tt);
      begins = record { parts = refl; is_token = p.0; follows = p.1 };
    }
  where
    parts : (t : Lexeme) (rest : List ℕ) → IsProper t → IsToken t × MayFollow t (32 ∷ rest)
    parts (Word w) rest p = (p, refl)
    parts (Number w) rest p = (p, refl)
    parts (Quoted w) rest p = (p, λ e. omega arith)
    parts Open rest p = (tt, tt)
    parts Close rest p = (tt, tt)
    parts Comma rest p = (tt, tt)
    parts Equals rest p = (tt, tt)
    parts End rest p = absurd p

-- a text of these tokens, before the rest
record Written (ts : List Lexeme) (rest : List ℕ) : Type 0 where
  pub text : List ℕ
  pub lexed : Lexes (32 ∷ text) ts (32 ∷ rest)

written : (ts : List Lexeme) (rest : List ℕ) → AllByRecursion IsProper ts → Written ts rest
written [] rest p = record { text = rest; lexed = refl }
written (t ∷ ts) rest p = let w = written ts rest p.1 in
    record {
      text = spelling t ++ 32 ∷ w.text;
      lexed = (32 ∷ w.text, between_blanks t w.text p.0, w.lexed);
    }

-- ---- fronts

pub front_none : {A : Type 0} (shape : A → List ℕ → List ℕ → Type 0) → IsInhabited shape
    → IsFront shape []
front_none shape some = (some.0, λ tail. let s = some.1 tail in (s.0, 32 ∷ s.0, refl, s.1))

-- the one shape and then the other make the whole
abbrev pub Joins : {A B : Type 0} → (A → List ℕ → List ℕ → Type 0)
    → (A → B → List ℕ → List ℕ → Type 0) → (B → List ℕ → List ℕ → Type 0) → Type 0
Joins {A} {B} first second whole = (x : A) (y : B) (bytes mid rest : List ℕ) → first x bytes mid
    → second x y mid rest → whole y bytes rest

pub front_first : {A B : Type 0} (first : A → List ℕ → List ℕ → Type 0) (second : A → B → List ℕ
    → List ℕ → Type 0) (whole : B → List ℕ → List ℕ → Type 0) (before : List Lexeme)
    → Joins first second whole → ((x : A) → IsInhabited (second x)) → IsFront first before
    → IsFront whole before
front_first first second whole before join some f =
    let x = f.0 in
    let y = (some x).0 in (
      y,
      λ tail. let s = (some x).1 tail in let t = f.1 s.0 in
          (t.0, t.1, t.2, join x y (32 ∷ t.0) (32 ∷ s.0) (32 ∷ tail) t.3 s.1),
    )

-- a text of the tokens that a reader takes, and of those that another text begins with
pub record Behind {A : Type 0} (shape : A → List ℕ → List ℕ → Type 0) (x : A) (tokens : List Lexeme)
    (text mid : List ℕ) : Type 0 where
  pub whole : List ℕ
  pub lexed : Lexes (32 ∷ whole) tokens mid
  pub shaped : shape x (32 ∷ whole) (32 ∷ text)

pub text_behind : {A : Type 0} (reader : List ℕ → Result (A × List ℕ) Fault) (shape : A → List ℕ
    → List ℕ → Type 0) (bytes : List ℕ) (y : A × List ℕ) (before : List Lexeme) (text mid : List ℕ)
    → (t : Takes reader shape bytes y) → Lexes (32 ∷ text) before mid
    → Behind shape y.0 (t.taken ++ before) text mid
text_behind reader shape bytes y before text mid t lexed =
    let w = written t.taken text t.proper in
    record {
      whole = w.text;
      lexed = Lexes-append (32 ∷ w.text) t.taken
          (32 ∷ text) before mid w.lexed lexed;
      shaped = t.shaped (32 ∷ w.text) (32 ∷ text) w.lexed;
    }

pub front_later : {A B : Type 0} (reader : List ℕ → Result (A × List ℕ) Fault) (first : A → List ℕ
    → List ℕ → Type 0) (second : A → B → List ℕ → List ℕ → Type 0) (whole : B → List ℕ → List ℕ
    → Type 0) (bytes : List ℕ) (y : A × List ℕ) (before : List Lexeme)
    → Joins first second whole → (t : Takes reader first bytes y) → IsFront (second y.0) before
    → IsFront whole (t.taken ++ before)
front_later reader first second whole bytes y before join t f = (
  f.0,
  λ tail.
      let g = f.1 tail in
      let w = text_behind reader first bytes y before g.0 g.1 t g.2 in
      (w.whole, g.1, w.lexed, join y.0 f.0 (32 ∷ w.whole) (32 ∷ g.0) (32 ∷ tail) w.shaped g.3),
)

pub some_both : {A B : Type 0} (first : A → List ℕ → List ℕ → Type 0) (second : A → B → List ℕ
    → List ℕ → Type 0) (whole : B → List ℕ → List ℕ → Type 0)
    → Joins first second whole → IsInhabited first → ((x : A) → IsInhabited (second x))
    → IsInhabited whole
some_both first second whole join f s =
    let x = f.0 in
    let y = (s x).0 in (
      y,
      λ tail. let b = (s x).1 tail in let a = f.1 b.0 in
          (a.0, join x y (32 ∷ a.0) (32 ∷ b.0) (32 ∷ tail) a.1 b.1),
    )

-- a token is a text of the shape
pub some_token : {A : Type 0} (shape : A → List ℕ → List ℕ → Type 0) (x : A) (t : Lexeme)
    → IsProper t → ((bytes rest : List ℕ) → the t bytes rest → shape x bytes rest)
    → IsInhabited shape
some_token shape x t proper is = (
  x,
  λ tail. (
    spelling t ++ 32 ∷ tail,
    is (32 ∷ (spelling t ++ 32 ∷ tail)) (32 ∷ tail)
        (between_blanks t tail proper),
  ),
)

-- ---- one token

want_on : {A : Type 0} (meaning : Lexeme → Result A Why) (bytes : List ℕ) (t : Lexeme)
    (rest : List ℕ) → FirstToken bytes t rest → want meaning bytes ≡ met bytes (meaning t) rest
want_on meaning bytes t rest h = rw (first_again bytes t rest h) refl

-- what a token that a reader takes has to be, and the reason where it takes none
pub record TakesToken {A : Type 0} (meaning : Lexeme → Result A Why) (shape : A → List ℕ → List ℕ
    → Type 0) : Type 0 where
  pub proper : (x : A) → meaning End ≡ Ok x → ⊥
  pub shaped : (t : Lexeme) (x : A) (bytes rest : List ℕ) → meaning t ≡ Ok x → the t bytes rest
      → shape x bytes rest
  pub reason : (t : Lexeme) → HasReason t (meaning t)
  pub some : IsInhabited shape

pub proper_token : {A : Type 0} (meaning : Lexeme → Result A Why) (t : Lexeme) (x : A)
    → (meaning End ≡ Ok x → ⊥) → meaning t ≡ Ok x → IsToken t → IsProper t
proper_token meaning (Word w) x never e tok = tok
proper_token meaning (Number w) x never e tok = tok
proper_token meaning (Quoted w) x never e tok = tok
proper_token meaning Open x never e tok = tt
proper_token meaning Close x never e tok = tt
proper_token meaning Comma x never e tok = tt
proper_token meaning Equals x never e tok = tt
proper_token meaning End x never e tok = absurd (never e)

pub takes_token : {A : Type 0} (meaning : Lexeme → Result A Why) (shape : A → List ℕ → List ℕ
    → Type 0) (bytes : List ℕ) (t : Lexeme) (x : A) (rest : List ℕ)
    → IsProper t → meaning t ≡ Ok x
    → ((bytes rest : List ℕ) → the t bytes rest → shape x bytes rest) → FirstToken bytes t rest
    → Takes (want meaning) shape bytes (x, rest)
takes_token meaning shape bytes t x rest proper e shaped h = record {
  taken = t ∷ [];
  proper = (proper, tt);
  lexed = (rest, h, refl);
  others = λ other after l. want_on meaning other t l.0 l.1
      ∙ (ap (λ m. met other m l.0) e ∙ ap (λ (z : List ℕ). Ok (x, z)) l.2);
  shaped = λ other after l. subst (λ (z : List ℕ). shape x other z) l.2 (shaped other l.0 l.1);
}

fault_here : {A : Type 0} (meaning : Lexeme → Result A Why) (bytes : List ℕ) (t : Lexeme)
    (rest : List ℕ) (reason : Why) → IsReasonAt t reason → FirstToken bytes t rest
    → meaning t ≡ Err reason → FaultAtToken (want meaning) bytes (fault_at bytes reason) []
fault_here meaning bytes t rest reason named h e = record {
  here = bytes;
  token = t;
  rest = rest;
  lexed = refl;
  first = h;
  reason = named;
  is = refl;
  others = λ other there after l first.
      subst (λ (z : List ℕ). want meaning z ≡ Err (fault_at there reason)) (sym l)
      (want_on meaning there t after first ∙ ap (λ m. met there m after) e);
}

-- what one token gives, with a fault behind no token
abbrev TokenOutcome : {A : Type 0} → (Lexeme → Result A Why) → List ℕ → Result (A × List ℕ) Fault
    → Type 0
TokenOutcome meaning bytes (Ok y) = Unit {0}
TokenOutcome meaning bytes (Err f) = FaultBehind (want meaning) bytes f []

fault_met : {A : Type 0} (meaning : Lexeme → Result A Why) (bytes : List ℕ) (t : Lexeme)
    (rest : List ℕ) (m : Result A Why) → HasReason t m → FirstToken bytes t rest → meaning t ≡ m
    → TokenOutcome meaning bytes (met bytes m rest)
fault_met meaning bytes t rest (Ok x) named h e = tt
fault_met meaning bytes t rest (Err reason) named h e =
    inl (fault_here meaning bytes t rest reason named h e)

fault_by : {A : Type 0} (meaning : Lexeme → Result A Why) (bytes : List ℕ)
    (n : Result (Lexeme × List ℕ) Fault) → ((t : Lexeme) → HasReason t (meaning t))
    → next_token bytes ≡ n → TokenOutcome meaning bytes (n >>= λ x. met bytes (meaning x.0) x.1)
fault_by meaning bytes (Ok x) named e =
    fault_met meaning bytes x.0 x.1 (meaning x.0) (named x.0) (first_found bytes x e) refl
fault_by meaning bytes (Err f) named e = inr (record { here = bytes; lexed = refl; none = e })

fault_is : {A : Type 0} (meaning : Lexeme → Result A Why) (bytes : List ℕ) (f : Fault)
    (r : Result (A × List ℕ) Fault) → TokenOutcome meaning bytes r → r ≡ Err f
    → FaultBehind (want meaning) bytes f []
fault_is meaning bytes f (Ok y) h e = absurd cc
fault_is meaning bytes f (Err d) h e = let same : d ≡ f = cc in
    subst (λ (z : Fault). FaultBehind (want meaning) bytes z []) same h

-- a fault of one token
pub want_fault : {A : Type 0} (meaning : Lexeme → Result A Why) (bytes : List ℕ) (f : Fault)
    → ((t : Lexeme) → HasReason t (meaning t)) → want meaning bytes ≡ Err f
    → FaultBehind (want meaning) bytes f []
want_fault meaning bytes f named e =
    fault_is meaning bytes f (want meaning bytes)
    (fault_by meaning bytes (next_token bytes) named refl) e

want_met : {A : Type 0} (meaning : Lexeme → Result A Why) (shape : A → List ℕ → List ℕ
    → Type 0) (bytes : List ℕ) (t : Lexeme) (rest : List ℕ) (m : Result A Why)
    → TakesToken meaning shape → FirstToken bytes t rest → meaning t ≡ m
    → Outcome (want meaning) shape bytes (met bytes m rest)
want_met meaning shape bytes t rest (Ok x) takes h e =
    takes_token meaning shape bytes t x rest
    (proper_token meaning t x (takes.proper x) e h.begins.is_token) e
    (λ b r f. takes.shaped t x b r e f) h
want_met meaning shape bytes t rest (Err reason) takes h e = (
  [],
  inl (fault_here meaning bytes t rest reason (subst (HasReason t) e (takes.reason t)) h e),
  front_none shape takes.some,
)

want_by : {A : Type 0} (meaning : Lexeme → Result A Why) (shape : A → List ℕ → List ℕ
    → Type 0) (bytes : List ℕ) (n : Result (Lexeme × List ℕ) Fault) → TakesToken meaning shape
    → next_token bytes ≡ n → Outcome (want meaning) shape bytes
    (n >>= λ x. met bytes (meaning x.0) x.1)
want_by meaning shape bytes (Ok x) takes e =
    want_met meaning shape bytes x.0 x.1 (meaning x.0) takes (first_found bytes x e) refl
want_by meaning shape bytes (Err f) takes e =
    ([], inr (record { here = bytes; lexed = refl; none = e }), front_none shape takes.some)

pub local_want : {A : Type 0} (meaning : Lexeme → Result A Why) (shape : A → List ℕ → List ℕ
    → Type 0) → TakesToken meaning shape → IsLocal (want meaning) shape
local_want meaning shape takes bytes = want_by meaning shape bytes (next_token bytes) takes refl

-- ---- one reader after another

-- nothing is left to read
abbrev pub Nothing : {A : Type 0} → A → List ℕ → List ℕ → Type 0
Nothing x bytes rest = bytes ≡ rest

pub local_done : {A : Type 0} (x : A) → IsLocal (λ b. Ok (x, b)) Nothing
local_done x bytes = record {
  taken = [];
  proper = tt;
  lexed = refl;
  others = λ other rest l. ap (λ (z : List ℕ). Ok (x, z)) l;
  shaped = λ other rest l. l;
}

pub some_nothing : {A : Type 0} (x : A) → IsInhabited (Nothing {A = A})
some_nothing x = (x, λ tail. (tail, refl))

-- a fault of the second reader
pub later_fault : {A C : Type 0} (r : List ℕ → Result (A × List ℕ) Fault) (shape : A → List ℕ
    → List ℕ → Type 0) (k : A → List ℕ → Result C Fault) (bytes : List ℕ) (y : A × List ℕ)
    (f : Fault) (before : List Lexeme)
    → (t : Takes r shape bytes y) → FaultBehind (k y.0) y.1 f before
    → FaultBehind (λ b. r b >>= λ z. k z.0 z.1) bytes f (t.taken ++ before)
later_fault r shape k bytes y f before t (inl s) = inl (record {
  here = s.here;
  token = s.token;
  rest = s.rest;
  lexed = Lexes-append bytes t.taken y.1 before s.here t.lexed s.lexed;
  first = s.first;
  reason = s.reason;
  is = s.is;
  others = λ other there after l first. let p = Lexes-split other t.taken before there l in
      rw (t.others other p.0 p.1) (s.others p.0 there after p.2 first);
})
later_fault r shape k bytes y f before t (inr s) =
    inr (record {
      here = s.here;
      lexed = Lexes-append bytes t.taken y.1 before s.here t.lexed
          s.lexed;
      none = s.none;
    })

-- a fault of the first one
pub first_fault : {A C : Type 0} (r : List ℕ → Result (A × List ℕ) Fault) (k : A × List ℕ
    → Result C Fault) (bytes : List ℕ) (f : Fault) (before : List Lexeme)
    → FaultBehind r bytes f before → FaultBehind (λ b. r b >>= k) bytes f before
first_fault r k bytes f before (inl s) = inl (record {
  here = s.here;
  token = s.token;
  rest = s.rest;
  lexed = s.lexed;
  first = s.first;
  reason = s.reason;
  is = s.is;
  others = λ other there after l first. rw (s.others other there after l first) refl;
})
first_fault r k bytes f before (inr s) = inr s

-- the second reader goes on behind the tokens that the first one takes
pub both_take : {A B : Type 0} (r : List ℕ → Result (A × List ℕ) Fault) (k : A → List ℕ
    → Result (B × List ℕ) Fault) (first : A → List ℕ → List ℕ → Type 0) (second : A → B → List ℕ
    → List ℕ → Type 0) (whole : B → List ℕ → List ℕ → Type 0) (bytes : List ℕ) (y : A × List ℕ)
    (o : Result (B × List ℕ) Fault)
    → Joins first second whole → Takes r first bytes y → Outcome (k y.0) (second y.0) y.1 o
    → Outcome (λ b. r b >>= λ z. k z.0 z.1) whole bytes o
both_take r k first second whole bytes y (Ok x) join t s = record {
  taken = t.taken ++ s.taken;
  proper = proper-append t.taken s.taken t.proper s.proper;
  lexed = Lexes-append bytes t.taken y.1 s.taken x.1 t.lexed s.lexed;
  others = λ other rest l. let p = Lexes-split other t.taken s.taken rest l in
      rw (t.others other p.0 p.1) (s.others p.0 rest p.2);
  shaped = λ other rest l. let p = Lexes-split other t.taken s.taken rest l in
      join y.0 x.0 other p.0 rest (t.shaped other p.0 p.1) (s.shaped p.0 rest p.2);
}
both_take r k first second whole bytes y (Err f) join t s = (
  t.taken ++ s.0,
  later_fault r first k bytes y f s.0 t s.1,
  front_later r first second whole bytes y s.0 join t s.2,
)

bind_by : {A B : Type 0} (r : List ℕ → Result (A × List ℕ) Fault) (k : A → List ℕ
    → Result (B × List ℕ) Fault) (first : A → List ℕ → List ℕ → Type 0) (second : A → B → List ℕ
    → List ℕ → Type 0) (whole : B → List ℕ → List ℕ → Type 0) (bytes : List ℕ)
    (o : Result (A × List ℕ) Fault)
    → Joins first second whole → ((x : A) → IsInhabited (second x)) → Outcome r first bytes o
    → ((x : A) → IsLocal (k x) (second x))
    → Outcome (λ b. r b >>= λ z. k z.0 z.1) whole bytes (o >>= λ z. k z.0 z.1)
bind_by r k first second whole bytes (Ok y) join some t each =
    both_take r k first second whole bytes y (k y.0 y.1) join t (each y.0 y.1)
bind_by r k first second whole bytes (Err f) join some t each = (
  t.0,
  first_fault r (λ z. k z.0 z.1) bytes f t.0 t.1,
  front_first first second whole t.0 join some t.2,
)

pub local_bind : {A B : Type 0} (r : List ℕ → Result (A × List ℕ) Fault) (k : A → List ℕ
    → Result (B × List ℕ) Fault) (first : A → List ℕ → List ℕ → Type 0) (second : A → B → List ℕ
    → List ℕ → Type 0) (whole : B → List ℕ → List ℕ → Type 0)
    → Joins first second whole → ((x : A) → IsInhabited (second x)) → IsLocal r first
    → ((x : A) → IsLocal (k x) (second x)) → IsLocal (λ b. r b >>= λ z. k z.0 z.1) whole
local_bind r k first second whole join some one each bytes =
    bind_by r k first second whole bytes (r bytes) join some (one bytes) each

-- the one shape, and then the other
pub local_then : {A B : Type 0} (r : List ℕ → Result (A × List ℕ) Fault) (k : A → List ℕ
    → Result (B × List ℕ) Fault) (first second : List ℕ → List ℕ → Type 0)
    → ((x : A) → IsInhabited {A = B} (λ _. second)) → IsLocal r (λ _. first)
    → ((x : A) → IsLocal (k x) (λ _. second))
    → IsLocal (λ b. r b >>= λ z. k z.0 z.1) (λ _. first ⨾ second)
local_then r k first second some one each =
    local_bind r k (λ _. first) (λ _ _. second) (λ _. first ⨾ second)
    (λ x y bytes mid rest f g. (mid, f, g)) some one each

-- another value, of the same shape
pub local_value : {A B : Type 0} (r : List ℕ → Result (A × List ℕ) Fault) (g : A
    → B) (shape : List ℕ → List ℕ → Type 0) → IsLocal r (λ _. shape)
    → IsLocal (λ b. r b >>= λ z. Ok (g z.0, z.1)) (λ _. shape)
local_value r g shape one =
    local_bind r (λ x b. Ok (g x, b)) (λ _. shape) (λ _. Nothing) (λ _. shape)
    (λ x y bytes mid rest f e. subst (shape bytes) e f) (λ x. some_nothing (g x)) one
    (λ x. local_done (g x))

mapped_fault : {A B : Type 0} (g : A → B) (r : List ℕ → Result (A × List ℕ) Fault) (bytes : List ℕ)
    (f : Fault) (before : List Lexeme) → FaultBehind r bytes f before
    → FaultBehind {C = B × List ℕ} (λ b. map_ok (λ x. (g x.0, x.1)) (r b)) bytes f before
mapped_fault g r bytes f before (inl s) =
    inl (record {
      here = s.here;
      token = s.token;
      rest = s.rest;
      lexed = s.lexed;
      first = s.first;
      reason = s.reason;
      is = s.is;
      others = λ other there after l first.
          ap (map_ok (λ x. (g x.0, x.1))) (s.others other there after l first);
    })
mapped_fault g r bytes f before (inr s) = inr s

mapped_by : {A B : Type 0} (g : A → B) (r : List ℕ → Result (A × List ℕ) Fault) (shape : A → List ℕ
    → List ℕ → Type 0) (whole : B → List ℕ → List ℕ → Type 0) (bytes : List ℕ)
    (o : Result (A × List ℕ) Fault)
    → ((x : A) (b rest : List ℕ) → shape x b rest → whole (g x) b rest) → Outcome r shape bytes o
    → Outcome (λ b. map_ok (λ x. (g x.0, x.1)) (r b)) whole bytes (map_ok (λ x. (g x.0, x.1)) o)
mapped_by g r shape whole bytes (Ok y) also t = record {
  taken = t.taken;
  proper = t.proper;
  lexed = t.lexed;
  others = λ other rest l. ap (map_ok (λ x. (g x.0, x.1))) (t.others other rest l);
  shaped = λ other rest l. also y.0 other rest (t.shaped other rest l);
}
mapped_by g r shape whole bytes (Err f) also t =
    let front : IsFront whole t.0 =
    (g t.2.0, λ tail. let s = t.2.1 tail in (s.0, s.1, s.2, also t.2.0 (32 ∷ s.0) (32 ∷ tail) s.3))
    in
    (t.0, mapped_fault g r bytes f t.0 t.1, front)

pub local_map : {A B : Type 0} (g : A → B) (r : List ℕ → Result (A × List ℕ) Fault) (shape : A
    → List ℕ → List ℕ → Type 0) (whole : B → List ℕ → List ℕ → Type 0)
    → ((x : A) (b rest : List ℕ) → shape x b rest → whole (g x) b rest) → IsLocal r shape
    → IsLocal (λ b. map_ok (λ x. (g x.0, x.1)) (r b)) whole
local_map g r shape whole also one bytes =
    mapped_by g r shape whole bytes (r bytes) also (one bytes)

-- the one piece and then the other has a text
pub some_then : {A : Type 0} (first second : List ℕ → List ℕ → Type 0)
    → IsInhabited {A = Unit {0}} (λ _. first) → IsInhabited {A = A} (λ _. second)
    → IsInhabited {A = A} (λ _. first ⨾ second)
some_then first second f s =
    some_both {A = Unit {0}} (λ _. first) (λ _ _. second) (λ _. first ⨾ second)
    (λ a b bytes mid rest p q. (mid, p, q)) f (λ _. s)
