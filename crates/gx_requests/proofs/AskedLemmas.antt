-- Two requests of the same words ask for the same, and neither of two texts that are there is
-- missing or too long.
use Rattle.std.proofs.Common.{◌≡◌, ℕ, ◌<◌, List, [], length, get_or, Result, Ok, Err, Option, Some, None, refl, sym, ap, subst, ◌∙◌, arith, inl, inr}
use Rattle.std.specs.Prelude.{◌⊎◌, IsSomeAnd, ◌==◌, if◌then◌else◌}
use Rattle.std.specs.FinMap.{get}
use Rattle.gx_device.specs.Content.{Texts}
use Rattle.gx_tokens.specs.declared.why.Unread.{Unread}
use Rattle.gx_schema.specs.declared.schema.Schema.{Schema}
use Rattle.gx_requests.specs.Requests.{IsText, IsThere, IsTooLong, IsSchemaOf, IsEither, IsNamed, IsAsked, text_limit}
use Rattle.gx_requests.specs.Words.{Action, checking, trying, explaining, making, running, sharing, inspecting, working, request_words}

-- what some words ask for, by the first letter of the first one, which no two of them share
asked_by : ℕ → List (List ℕ) → Action
asked_by letter words =
    if letter == 99 then checking
    else if letter == 116 then trying
    else if letter == 101 then explaining
    else if letter == 109 then making (get_or words 3 []) (get_or words 4 [])
    else if letter == 114 then running (get_or words 3 [])
    else if letter == 115 then sharing (get_or words 3 [])
    else if letter == 105 then inspecting (get_or words 3 [])
    else working (get_or words 2 []) (get_or words 3 []) (get_or words 4 [])

pub asked_of : List (List ℕ) → Action
asked_of words = asked_by (get_or (get_or words 0 []) 0 0) words

pub asked : (a : Action) (schema equation : List ℕ) → asked_of (request_words a schema equation) ≡ a
unfolding asked_of asked_by
asked checking schema equation = refl
asked trying schema equation = refl
asked explaining schema equation = refl
asked (making device blocks) schema equation = refl
asked (running device) schema equation = refl
asked (sharing device) schema equation = refl
asked (inspecting device) schema equation = refl
asked (working device blocks records) schema equation = refl

-- the words of a request are told by what they ask for
pub schema_in : List (List ℕ) → List ℕ
schema_in words = get_or words 1 []

pub equation_in : Action → List (List ℕ) → List ℕ
equation_in (working device blocks records) words = get_or words 1 []
equation_in a words = get_or words 2 []

again_all : (a : Action) (s e : List ℕ) → request_words a s e
    ≡ request_words a (schema_in (request_words a s e)) (equation_in a (request_words a s e))
unfolding schema_in equation_in
again_all checking s e = refl
again_all trying s e = refl
again_all explaining s e = refl
again_all (making device blocks) s e = refl
again_all (running device) s e = refl
again_all (sharing device) s e = refl
again_all (inspecting device) s e = refl
again_all (working device blocks records) s e = refl

pub again : (words : List (List ℕ)) (a : Action) (s e : List ℕ) → words ≡ request_words a s e
    → words ≡ request_words (asked_of words) (schema_in words) (equation_in (asked_of words) words)
again words a s e is =
    subst (λ (b : Action). words ≡ request_words b (schema_in words) (equation_in b words))
    (sym (ap asked_of is ∙ asked a s e))
    (subst (λ (w : List (List ℕ)). w ≡ request_words a (schema_in w) (equation_in a w)) (sym is)
    (again_all a s e))

-- the words of one request are those of no other
action_once : (a b : Action) (s t e f : List ℕ) → request_words a s e ≡ request_words b t f → a ≡ b
action_once a b s t e f same = sym (asked a s e) ∙ ap asked_of same ∙ asked b t f

-- a word names the schema
abbrev pub NamesSchema : Action → Type 0
NamesSchema (working device blocks records) = ⊥
NamesSchema a = Unit {0}

pub record SameWords (a b : Action) (s t e f : List ℕ) : Type 0 where
  pub actions : a ≡ b
  pub schemas : NamesSchema a → s ≡ t
  pub equations : e ≡ f

second : List (List ℕ) → List ℕ
second words = get_or words 1 []

third : List (List ℕ) → List ℕ
third words = get_or words 2 []

schema_named : (a : Action) (s t e f : List ℕ) → request_words a s e ≡ request_words a t f
    → NamesSchema a → s ≡ t
unfolding second
schema_named checking s t e f same names = ap second same
schema_named trying s t e f same names = ap second same
schema_named explaining s t e f same names = ap second same
schema_named (making device blocks) s t e f same names = ap second same
schema_named (running device) s t e f same names = ap second same
schema_named (sharing device) s t e f same names = ap second same
schema_named (inspecting device) s t e f same names = ap second same
schema_named (working device blocks records) s t e f same names = absurd names

equation_named : (a : Action) (s t e f : List ℕ) → request_words a s e ≡ request_words a t f → e ≡ f
unfolding second third
equation_named checking s t e f same = ap third same
equation_named trying s t e f same = ap third same
equation_named explaining s t e f same = ap third same
equation_named (making device blocks) s t e f same = ap third same
equation_named (running device) s t e f same = ap third same
equation_named (sharing device) s t e f same = ap third same
equation_named (inspecting device) s t e f same = ap third same
equation_named (working device blocks records) s t e f same = ap second same

pub same_words : (words : List (List ℕ)) (a b : Action) (s t e f : List ℕ)
    → words ≡ request_words a s e
    → words ≡ request_words b t f → SameWords a b s t e f
same_words words a b s t e f p q =
    let once : a ≡ b = action_once a b s t e f (sym p ∙ q) in
    let same : request_words a s e ≡ request_words a t f =
    subst (λ c. request_words a s e ≡ request_words c t f) (sym once) (sym p ∙ q) in
    record {
      actions = once;
      schemas = schema_named a s t e f same;
      equations = equation_named a s t e f same;
    }

pub ok_not_bad : (s : Schema) (e : Unread) → ◌≡◌ {A = Result Schema Unread} (Ok s) (Err e) → ⊥
ok_not_bad s e f = cc

some_once : (a b : List ℕ) → Some a ≡ Some b → a ≡ b
some_once a b e = ap (λ (o : Option (List ℕ)). text_or a o) e
  where
    text_or : List ℕ → Option (List ℕ) → List ℕ
    text_or d (Some t) = t
    text_or d None = d

pub some_not_none : {A : Type 0} (a : A) → ◌≡◌ {A = Option A} (Some a) None → ⊥
some_not_none a e = cc

pub text_once : (texts : Texts) (a b x y : List ℕ) → a ≡ b → get texts a ≡ Some x
    → get texts b ≡ Some y → x ≡ y
text_once texts a b x y same is other = some_once x y (sym is ∙ ap (λ n. get texts n) same ∙ other)

-- ---- two readings of the same words

-- the texts that they name
pub record SameAsked (a b : Action) (s t e f : List ℕ) : Type 0 where
  pub actions : a ≡ b
  pub schemas : s ≡ t
  pub equations : e ≡ f

schema_once : (a : Action) (texts : Texts) (name other s t : List ℕ)
    → (NamesSchema a → name ≡ other)
    → IsSchemaOf a texts name s → IsSchemaOf a texts other t → s ≡ t
schema_once checking texts name other s t same x y =
    text_once texts name other s t (same tt) x.0 y.0
schema_once trying texts name other s t same x y = text_once texts name other s t (same tt) x.0 y.0
schema_once explaining texts name other s t same x y =
    text_once texts name other s t (same tt) x.0 y.0
schema_once (making device blocks) texts name other s t same x y =
    text_once texts name other s t (same tt) x.0 y.0
schema_once (running device) texts name other s t same x y =
    text_once texts name other s t (same tt) x.0 y.0
schema_once (sharing device) texts name other s t same x y =
    text_once texts name other s t (same tt) x.0 y.0
schema_once (inspecting device) texts name other s t same x y =
    text_once texts name other s t (same tt) x.0 y.0
schema_once (working device blocks records) texts name other s t same x y = x ∙ sym y

pub one_request : (words : List (List ℕ)) (texts : Texts) (a b : Action) (s t e f : List ℕ)
    → IsAsked words texts a s e → IsAsked words texts b t f → SameAsked a b s t e f
one_request words texts a b s t e f x y =
    let same = same_words words a b x.schema_name y.schema_name x.equation_name y.equation_name
    x.words_are y.words_are in
    record {
      actions = same.actions;
      schemas = schema_once a texts x.schema_name y.schema_name s t same.schemas x.schema_there
          (subst (λ c. IsSchemaOf c texts y.schema_name t) (sym same.actions) y.schema_there);
      equations = text_once texts x.equation_name y.equation_name e f same.equations
          x.equation_there.0 y.equation_there.0;
    }

-- where both texts are there, so is the one of this name
one_there : (texts : Texts) (name schema other equation s e : List ℕ) → schema ≡ other
    → IsText texts schema s
    → IsText texts equation e → (name ≡ other) ⊎ (IsThere texts other × (name ≡ equation))
    → IsThere texts name
one_there texts name schema other equation s e same x y (inl is) =
    (s, subst (λ k. IsText texts k s) (same ∙ sym is) x)
one_there texts name schema other equation s e same x y (inr is) =
    (e, subst (λ k. IsText texts k e) (sym is.1) y)

either_there : (a : Action) (texts : Texts) (name schema other equation s e : List ℕ)
    → (NamesSchema a → schema ≡ other) → IsSchemaOf a texts schema s → IsText texts equation e
    → IsEither a texts name other equation → IsThere texts name
either_there checking texts name schema other equation s e same x y is =
    one_there texts name schema other equation s e (same tt) x y is
either_there trying texts name schema other equation s e same x y is =
    one_there texts name schema other equation s e (same tt) x y is
either_there explaining texts name schema other equation s e same x y is =
    one_there texts name schema other equation s e (same tt) x y is
either_there (making device blocks) texts name schema other equation s e same x y is =
    one_there texts name schema other equation s e (same tt) x y is
either_there (running device) texts name schema other equation s e same x y is =
    one_there texts name schema other equation s e (same tt) x y is
either_there (sharing device) texts name schema other equation s e same x y is =
    one_there texts name schema other equation s e (same tt) x y is
either_there (inspecting device) texts name schema other equation s e same x y is =
    one_there texts name schema other equation s e (same tt) x y is
either_there (working device blocks records) texts name schema other equation s e same x y is =
    (e, subst (λ k. IsText texts k e) (sym is) y)

-- neither of two texts that are there is missing or too long
pub named : (words : List (List ℕ)) (texts : Texts) (name : List ℕ) (a : Action) (s e : List ℕ)
    → IsAsked words texts a s e → IsNamed words texts name → IsThere texts name
named words texts name a s e x y =
    let same = same_words words a y.asked x.schema_name y.schema_name x.equation_name
    y.equation_name x.words_are y.words_are in
    either_there a texts name x.schema_name y.schema_name x.equation_name s e same.schemas
    x.schema_there x.equation_there
    (subst (λ c. IsEither c texts name y.schema_name x.equation_name) (sym same.actions)
    (subst (λ k. IsEither y.asked texts name y.schema_name k) (sym same.equations) y.first))

pub not_missing : (texts : Texts) (name : List ℕ) → IsThere texts name → get texts name ≡ None → ⊥
not_missing texts name is none = some_not_none is.0 (sym is.1.0 ∙ none)

pub not_long : (texts : Texts) (name : List ℕ) → IsThere texts name → IsTooLong texts name → ⊥
not_long texts name is long =
    omega (
      arith,
      is.1.1,
      subst (λ (o : Option (List ℕ)). IsSomeAnd o (λ text. text_limit < length text)) is.1.0 long,
    )
