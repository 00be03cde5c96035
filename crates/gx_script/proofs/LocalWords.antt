-- What is read depends on the words that are read and on the next one, and a fault on those up to
-- it; and the words before a fault could go on.
use Rattle.std.proofs.Common.{◌≡◌, ℕ, Bool, true, false, cond, List, [], ◌∷◌, ◌++◌, Option, None, Some, Result, Ok, Err, refl, sym, ap, subst, ◌∙◌, append_assoc, inl, inr}
use Rattle.std.proofs.lemmas.Option.{same_Some}
use Rattle.gx_commands.specs.declared.command.LineWhy.{LineWhy}
use Rattle.gx_commands.specs.declared.command.LineWhy.TheVariants as why
use Rattle.std.specs.List.{AllByRecursion}
use Rattle.gx_commands.specs.Words.{Word, Bare, Quoted, IsLineWord}
use Rattle.gx_script.specs.Names.{is_text}
use Rattle.gx_script.specs.Reading.{◌>>=◌, met, want, behind}
use Rattle.gx_script.specs.Grammar.{◌⨾◌, NoWord, the}
use Rattle.gx_script.specs.Shape.{Perhaps}
use Rattle.gx_script.proofs.WordMeanings.{behind_found, behind_again}

abbrev pub next_of : List Word → Option Word
next_of [] = None
next_of (w ∷ ws) = Some w

-- these words can be continued by words to the phrase, before any rest
pub record IsFrontOf (phrase : List Word → List Word → Type 0) (before : List Word) : Type 0 where
  pub behind : List Word
  pub are : AllByRecursion IsLineWord behind
  pub shaped : (tail : List Word) → phrase (before ++ (behind ++ tail)) tail

-- a value from these words, which all words give that begin with them and have the same one next
pub record Takes {A : Type 0} (reader : List Word → Result (A × List Word) LineWhy)
    (phrase : List Word → List Word → Type 0) (words : List Word) (y : A × List Word) : Type 0 where
  pub taken : List Word
  pub parts : words ≡ taken ++ y.1
  pub others : (other : List Word) → next_of other ≡ next_of y.1
      → reader (taken ++ other) ≡ Ok (y.0, other)
  pub shaped : (other : List Word) → phrase (taken ++ other) other

-- a fault behind these words, which all words have that begin with them and have the same one next
pub record Stops {A : Type 0} (reader : List Word → Result A LineWhy) (words : List Word)
    (reason : LineWhy) (before : List Word) : Type 0 where
  pub here : List Word
  pub parts : words ≡ before ++ here
  pub others : (other : List Word) → next_of other ≡ next_of here
      → reader (before ++ other) ≡ Err reason

abbrev pub Outcome : {A : Type 0} → (List Word → Result (A × List Word) LineWhy)
    → (List Word → List Word → Type 0) → List Word → Result (A × List Word) LineWhy → Type 0
Outcome reader phrase words (Ok y) = Takes reader phrase words y
Outcome reader phrase words (Err reason) = (before : List Word) × Stops reader words reason before
    × IsFrontOf phrase before

abbrev pub IsLocal : {A : Type 0} → (List Word → Result (A × List Word) LineWhy)
    → (List Word → List Word → Type 0) → Type 0
IsLocal reader phrase = (words : List Word) → Outcome reader phrase words (reader words)

-- ---- one word

nothing_next : {A : Type 0} (meaning : Word → Result A LineWhy) (other : List Word)
    → next_of other ≡ None → want meaning other ≡ Err why.Word
nothing_next meaning [] e = refl
nothing_next meaning (w ∷ ws) e = absurd cc

same_next : {A : Type 0} (meaning : Word → Result A LineWhy) (w : Word) (reason : LineWhy)
    (other : List Word) → meaning w ≡ Err reason → next_of other ≡ Some w
    → want meaning other ≡ Err reason
same_next meaning w reason [] e same = absurd cc
same_next {A} meaning w reason (v ∷ vs) e same =
    ap (λ (x : Word). met (meaning x) vs) (same_Some v w same)
    ∙ ap (λ (r : Result A LineWhy). met r vs) e

want_by : {A : Type 0} (meaning : Word → Result A LineWhy) (phrase : List Word → List Word → Type 0)
    → ((w : Word) (x : A) → meaning w ≡ Ok x → (rest : List Word) → phrase (w ∷ rest) rest)
    → IsFrontOf phrase []
    → (w : Word) (ws : List Word) (r : Result A LineWhy) → meaning w ≡ r
    → Outcome (want meaning) phrase (w ∷ ws) (met r ws)
want_by {A} meaning phrase says some w ws (Ok x) e = record {
  taken = w ∷ [];
  parts = refl;
  others = λ other _. ap (λ (r : Result A LineWhy). met r other) e;
  shaped = λ other. says w x e other;
}
want_by meaning phrase says some w ws (Err reason) e = (
  [],
  record {
    here = w ∷ ws;
    parts = refl;
    others = λ other same. same_next meaning w reason other e same;
  },
  some,
)

pub local_want : {A : Type 0} (meaning : Word → Result A LineWhy) (phrase : List Word → List Word
    → Type 0) → ((w : Word) (x : A) → meaning w ≡ Ok x → (rest : List Word)
    → phrase (w ∷ rest) rest) → IsFrontOf phrase [] → IsLocal (want meaning) phrase
local_want meaning phrase says some [] = (
  [],
  record { here = []; parts = refl; others = λ other same. nothing_next meaning other same },
  some,
)
local_want meaning phrase says some (w ∷ ws) =
    want_by meaning phrase says some w ws (meaning w) refl

-- ---- one reading after another

pub next_behind : (taken other rest : List Word) → next_of other ≡ next_of rest
    → next_of (taken ++ other) ≡ next_of (taken ++ rest)
next_behind [] other rest e = e
next_behind (w ∷ ws) other rest e = refl

are_both : (ws vs : List Word) → AllByRecursion IsLineWord ws → AllByRecursion IsLineWord vs
    → AllByRecursion IsLineWord (ws ++ vs)
are_both [] vs h g = g
are_both (w ∷ ws) vs h g = (h.0, are_both ws vs h.1 g)

pub front_then : (a b : List Word → List Word → Type 0) (before : List Word) → IsFrontOf a before
    → IsFrontOf b [] → IsFrontOf (a ⨾ b) before
front_then a b before f g = record {
  behind = f.behind ++ g.behind;
  are = are_both f.behind g.behind f.are g.are;
  shaped = λ tail. (
    g.behind ++ tail,
    subst (λ (ws : List Word). a (before ++ ws) (g.behind ++ tail))
        (sym (append_assoc f.behind g.behind tail)) (f.shaped (g.behind ++ tail)),
    g.shaped tail,
  );
}

module _ {A B : Type 0} (reader : List Word → Result (A × List Word) LineWhy) (f : A → List Word
    → Result (B × List Word) LineWhy) (a b : List Word → List Word
    → Type 0) (words : List Word) where
  abbrev bound : List Word → Result (B × List Word) LineWhy
  bound ws = reader ws >>= λ y. f y.0 y.1

  then_others : (y : A × List Word) (t : Takes reader a words y) (taken other : List Word)
      → next_of (taken ++ other) ≡ next_of y.1
      → bound ((t.taken ++ taken) ++ other) ≡ f y.0 (taken ++ other)
  then_others y t taken other same =
      ap bound (append_assoc t.taken taken other)
      ∙ ap (λ (r : Result (A × List Word) LineWhy). r >>= λ z. f z.0 z.1)
      (t.others (taken ++ other) same)

  then_by : (y : A × List Word) → Takes reader a words y → (r : Result (B × List Word) LineWhy)
      → Outcome (f y.0) b y.1 r → Outcome bound (a ⨾ b) words r
  then_by y t (Ok z) u = record {
    taken = t.taken ++ u.taken;
    parts = t.parts ∙ ap (λ (ws : List Word). t.taken ++ ws) u.parts
        ∙ sym (append_assoc t.taken u.taken z.1);
    others = λ other same. then_others y t u.taken other (next_behind u.taken other z.1 same
        ∙ ap next_of (sym u.parts)) ∙ u.others other same;
    shaped = λ other. (
      u.taken ++ other,
      subst (λ (ws : List Word). a ws (u.taken ++ other))
          (sym (append_assoc t.taken u.taken other)) (t.shaped (u.taken ++ other)),
      u.shaped other,
    );
  }
  then_by y t (Err reason) (before, s, front) = (
    t.taken ++ before,
    record {
      here = s.here;
      parts = t.parts ∙ ap (λ (ws : List Word). t.taken ++ ws) s.parts
          ∙ sym (append_assoc t.taken before s.here);
      others = λ other same. then_others y t before other (next_behind before other s.here same
          ∙ ap next_of (sym s.parts)) ∙ s.others other same;
    },
    record {
      behind = front.behind;
      are = front.are;
      shaped = λ tail. (
        before ++ (front.behind ++ tail),
        subst (λ (ws : List Word). a ws (before ++ (front.behind ++ tail)))
            (sym (append_assoc t.taken before (front.behind ++ tail)))
            (t.shaped (before ++ (front.behind ++ tail))),
        front.shaped tail,
      );
    },
  )

  bind_by : IsFrontOf b [] → (r : Result (A × List Word) LineWhy) → reader words ≡ r
      → ((y : A × List Word) → reader words ≡ Ok y → IsLocal (f y.0) b) → Outcome reader a words r
      → Outcome bound (a ⨾ b) words (r >>= λ y. f y.0 y.1)
  bind_by some (Ok y) e next t = then_by y t (f y.0 y.1) (next y e y.1)
  bind_by some (Err reason) e next (before, s, front) = (
    before,
    record {
      here = s.here;
      parts = s.parts;
      others = λ other same. ap (λ (r : Result (A × List Word) LineWhy). r >>= λ y. f y.0 y.1)
          (s.others other same);
    },
    front_then a b before front some,
  )

pub local_then : {A B : Type 0} (reader : List Word → Result (A × List Word) LineWhy) (f : A
    → List Word → Result (B × List Word) LineWhy) (a b : List Word → List Word → Type 0)
    → IsLocal reader a → IsFrontOf b []
    → ((words : List Word) (y : A × List Word) → reader words ≡ Ok y → IsLocal (f y.0) b)
    → IsLocal (λ words. reader words >>= λ y. f y.0 y.1) (a ⨾ b)
local_then reader f a b first some next words =
    bind_by reader f a b words some (reader words) refl (next words) (first words)

pub local_bind : {A B : Type 0} (reader : List Word → Result (A × List Word) LineWhy) (f : A
    → List Word → Result (B × List Word) LineWhy) (a b : List Word → List Word → Type 0)
    → IsLocal reader a → IsFrontOf b []
    → ((x : A) → IsLocal (f x) b) → IsLocal (λ words. reader words >>= λ y. f y.0 y.1) (a ⨾ b)
local_bind reader f a b first some next = local_then reader f a b first some (λ words y e. next y.0)

map_by : {A B : Type 0} (g : A → B) (reader : List Word → Result (A × List Word) LineWhy)
    (phrase : List Word → List Word → Type 0) (words : List Word)
    (r : Result (A × List Word) LineWhy) → Outcome reader phrase words r
    → Outcome {A = B} (λ ws. reader ws >>= λ y. Ok (g y.0, y.1)) phrase words
    (r >>= λ y. Ok (g y.0, y.1))
map_by {A} {B} g reader phrase words (Ok y) t =
    record {
      taken = t.taken;
      parts = t.parts;
      others = λ other same. ap (λ (r : Result (A × List Word) LineWhy). r >>= λ z. Ok (g z.0, z.1))
          (t.others other same);
      shaped = t.shaped;
    }
map_by {A} {B} g reader phrase words (Err reason) (before, s, front) = (
  before,
  record {
    here = s.here;
    parts = s.parts;
    others = λ other same. ap (λ (r : Result (A × List Word) LineWhy). r >>= λ z. Ok
        (g z.0, z.1)) (s.others other same);
  },
  front,
)

-- the same words, another value
pub local_map : {A B : Type 0} (g : A → B) (reader : List Word → Result (A × List Word) LineWhy)
    (phrase : List Word → List Word → Type 0) → IsLocal reader phrase
    → IsLocal {A = B} (λ words. reader words >>= λ y. Ok (g y.0, y.1)) phrase
local_map g reader phrase local words = map_by g reader phrase words (reader words) (local words)

as_by : {A : Type 0} (reader : List Word → Result (A × List Word) LineWhy) (a b : List Word
    → List Word → Type 0) → ((words rest : List Word) → a words rest → b words rest)
    → (words : List Word) (r : Result (A × List Word) LineWhy) → Outcome reader a words r
    → Outcome reader b words r
as_by reader a b f words (Ok y) t =
    record {
      taken = t.taken;
      parts = t.parts;
      others = t.others;
      shaped = λ other. f _ other (t.shaped other);
    }
as_by reader a b f words (Err reason) (before, s, front) = (
  before,
  s,
  record {
    behind = front.behind;
    are = front.are;
    shaped = λ tail. f _ tail (front.shaped tail);
  },
)

-- the same reading, a wider phrase
pub local_as : {A : Type 0} (reader : List Word → Result (A × List Word) LineWhy) (a b : List Word
    → List Word → Type 0) → ((words rest : List Word) → a words rest → b words rest)
    → IsLocal reader a → IsLocal reader b
local_as reader a b f local words = as_by reader a b f words (reader words) (local words)

-- the same reading, otherwise written
pub local_same : {A : Type 0} (reader other : List Word → Result (A × List Word) LineWhy)
    (phrase : List Word → List Word → Type 0) → ((words : List Word) → other words ≡ reader words)
    → IsLocal other phrase → IsLocal reader phrase
local_same {A} reader other phrase same local =
    subst (λ (r : List Word → Result (A × List Word) LineWhy). IsLocal r phrase)
    (λ i words. same words i) local

-- nothing is read
pub local_none : {A : Type 0} (x : A) → IsLocal {A = A} (λ words. Ok (x, words)) NoWord
local_none x words = record {
  taken = [];
  parts = refl;
  others = λ other same. refl;
  shaped = λ other. refl;
}

-- ---- a phrase behind a keyword, if it stands there

not_behind : (b : Bool) (ws vs : List Word) → cond b (Some ws) None ≡ None
    → cond b (Some vs) None ≡ None
not_behind true ws vs e = absurd cc
not_behind false ws vs e = refl

word_behind : (keyword : List ℕ) (w : Word) (ws vs : List Word) → behind keyword (w ∷ ws) ≡ None
    → behind keyword (w ∷ vs) ≡ None
word_behind keyword (Quoted text) ws vs e = refl
word_behind keyword (Bare text) ws vs e = not_behind (is_text text keyword) ws vs e

pub behind_same : (keyword : List ℕ) (words other : List Word) → next_of other ≡ next_of words
    → behind keyword words ≡ None → behind keyword other ≡ None
behind_same keyword [] [] e none = refl
behind_same keyword [] (v ∷ vs) e none = absurd cc
behind_same keyword (w ∷ ws) [] e none = refl
behind_same keyword (w ∷ ws) (v ∷ vs) e none =
    subst (λ (x : Word). behind keyword (x ∷ vs) ≡ None) (sym (same_Some v w e))
    (word_behind keyword w ws vs none)

module _ {A : Type 0} (keyword : List ℕ) (d : A) (from : List Word → Option (List Word)
    → Result (A × List Word) LineWhy) (inner : List Word → Result (A × List Word) LineWhy)
    (b : List Word → List Word → Type 0)
    (none : (words : List Word) → from words None ≡ Ok (d, words)) (some : (words rest : List Word)
    → from words (Some rest) ≡ inner rest) where
  abbrev optional : List Word → Result (A × List Word) LineWhy
  optional words = from words (behind keyword words)

  there : (rest : List Word) → optional (Bare keyword ∷ rest) ≡ inner rest
  there rest = ap (from (Bare keyword ∷ rest))
      (behind_again keyword (Bare keyword ∷ rest) rest refl) ∙ some (Bare keyword ∷ rest) rest

  inner_by : (words rest : List Word) → the keyword words rest
      → (r : Result (A × List Word) LineWhy) → Outcome inner b rest r
      → Outcome optional (Perhaps (the keyword ⨾ b)) words r
  inner_by words rest is (Ok y) t = record {
    taken = Bare keyword ∷ t.taken;
    parts = is ∙ ap (λ (ws : List Word). Bare keyword ∷ ws) t.parts;
    others = λ other same. there (t.taken ++ other) ∙ t.others other same;
    shaped = λ other. inr (t.taken ++ other, refl, t.shaped other);
  }
  inner_by words rest is (Err reason) (before, s, front) = (
    Bare keyword ∷ before,
    record {
      here = s.here;
      parts = is ∙ ap (λ (ws : List Word). Bare keyword ∷ ws) s.parts;
      others = λ other same. there (before ++ other) ∙ s.others other same;
    },
    record {
      behind = front.behind;
      are = front.are;
      shaped = λ tail. inr (before ++ (front.behind ++ tail), refl, front.shaped tail);
    },
  )

  optional_by : IsLocal inner b → (words : List Word) (o : Option (List Word))
      → behind keyword words ≡ o → Outcome optional (Perhaps (the keyword ⨾ b)) words (from words o)
  optional_by local words None e =
      subst (Outcome optional (Perhaps (the keyword ⨾ b)) words) (sym (none words)) (record {
        taken = [];
        parts = refl;
        others = λ other same. ap (from other) (behind_same keyword words other same e)
            ∙ none other;
        shaped = λ other. inl refl;
      })
  optional_by local words (Some rest) e =
      subst (Outcome optional (Perhaps (the keyword ⨾ b)) words) (sym (some words rest))
      (inner_by words rest (behind_found keyword words rest e) (inner rest) (local rest))

  pub local_optional : IsLocal inner b
      → IsLocal (λ words. from words (behind keyword words)) (Perhaps (the keyword ⨾ b))
  local_optional local words = optional_by local words (behind keyword words) refl
