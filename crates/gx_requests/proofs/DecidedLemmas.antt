-- Words are refused for a reason, or their texts are accepted.
use Rattle.std.proofs.Common.{Bor, ◌≡◌, ◌∙◌, ℕ, ◌<◌, ◌≤◌, ◌^◌, List, [], ◌∷◌, length, get_or, drop, Bool, true, false, Option, Some, None, Result, Ok, Err, refl, sym, ap, subst, inl, inr, arith}
use Rattle.std.specs.Prelude.{◌⊎◌, ◌≢◌, IsSomeAnd}
use Rattle.std.specs.FinMap.{get}
use Rattle.std.proofs.lemmas.Bool.{cases_lt}
use Rattle.gx_device.specs.Content.{Texts}
use Rattle.gx_tokens.specs.Numbers.{are_digits, digits_value}
use Rattle.gx_tokens.specs.declared.fault.Fault.{Fault}
use Rattle.gx_tokens.specs.declared.why.Unread.{Unread}
use Rattle.gx_tokens.specs.declared.why.Unread.TheVariants as unread
use Rattle.gx_tokens.specs.Reading.{map_ok, with_fault_line}
use Rattle.gx_schema.specs.declared.schema.Schema.{Schema}
use Rattle.gx_schema.specs.Grammar.{IsSchemaText}
use Rattle.gx_schema.specs.Reading.{all_items, schema_of}
use Rattle.gx_schema.proofs.SchemaLaws.{read_found}
use Rattle.gx_equation.specs.Definitions.{equation_at, with_lines}
use Rattle.gx_equation.specs.Trees.{DefinitionTree}
use Rattle.gx_equation.proofs.TermsFound.{meaning_found}
use Rattle.gx_typing.specs.declared.typing.Typing.{Typing}
use Rattle.gx_typing.specs.Typing.{Mistake}
use Rattle.gx_typing.specs.Whole.{typing_of}
use Rattle.gx_typing.proofs.TypedLaws.{found as typed_found}
use Rattle.gx_play.specs.declared.ending.Ending.{Ending}
use Rattle.gx_play.specs.declared.ending.Ending.TheVariants as ending
use Rattle.gx_requests.specs.Lengths.{text_length}
use Rattle.gx_requests.specs.Requests.{IsThere, IsTooLong, IsSchemaOf, IsEither, IsNamed, IsAsked, AreRead, IsAccepted, IsRefused, equation_of, text_limit}
use Rattle.gx_requests.specs.Words.{Action, checking, trying, explaining, making, running, sharing, inspecting, working, request_words, IsCount, IsRecordCount, IsCounted}
use Rattle.gx_work.specs.Schema.{schema_lines}
use Rattle.gx_requests.proofs.AskedLemmas.{asked_of, asked, schema_in, equation_in, again}

-- the request is refused, or its texts are accepted and mean these
abbrev pub AreDecided : List (List ℕ) → Texts → Type 0
AreDecided words texts = ((why : Ending) × IsRefused words texts why)
    ⊎ ((a : Action) × (schema : Schema) × (ds : List DefinitionTree) × (typing : Typing)
    × IsAccepted words texts a schema ds typing)

pub same_or_not : (a b : ℕ) → (a ≡ b) ⊎ (a ≢ b)
same_or_not a b = by_less (cases_lt a b) (cases_lt b a)
  where
    by_less : (a < b) ⊎ (b ≤ a) → (b < a) ⊎ (a ≤ b) → (a ≡ b) ⊎ (a ≢ b)
    by_less (inl less) other = inr (λ same. omega (arith, less, same))
    by_less (inr most) (inl less) = inr (λ same. omega (arith, less, same))
    by_less (inr most) (inr least) = inl (omega (arith, most, least))

pub lists_same : (xs ys : List ℕ) → (xs ≡ ys) ⊎ (xs ≢ ys)
lists_same [] [] = inl refl
lists_same [] (y ∷ ys) = inr (λ same. cc)
lists_same (x ∷ xs) [] = inr (λ same. cc)
lists_same (x ∷ xs) (y ∷ ys) = by_both (same_or_not x y) (lists_same xs ys)
  where
    by_both : (x ≡ y) ⊎ (x ≢ y) → (xs ≡ ys) ⊎ (xs ≢ ys)
        → ((x ∷ xs) ≡ (y ∷ ys)) ⊎ ((x ∷ xs) ≢ (y ∷ ys))
    by_both (inl p) (inl q) = inl (λ i. p i ∷ q i)
    by_both (inr not) other = inr (λ same. not (ap (λ (l : List ℕ). get_or l 0 0) same))
    by_both (inl p) (inr not) = inr (λ same. not (ap (λ (l : List ℕ). drop 1 l) same))

-- ---- the words

words_same : (xs ys : List (List ℕ)) → (xs ≡ ys) ⊎ (xs ≢ ys)
words_same [] [] = inl refl
words_same [] (y ∷ ys) = inr (λ same. cc)
words_same (x ∷ xs) [] = inr (λ same. cc)
words_same (x ∷ xs) (y ∷ ys) = by_both (lists_same x y) (words_same xs ys)
  where
    by_both : (x ≡ y) ⊎ (x ≢ y) → (xs ≡ ys) ⊎ (xs ≢ ys) → ((x ∷ xs) ≡ (y ∷ ys)) ⊎ ((x ∷ xs) ≢ (y ∷ ys))
    by_both (inl p) (inl q) = inl (λ i. p i ∷ q i)
    by_both (inr not) other = inr (λ same. not (ap (λ (l : List (List ℕ)). get_or l 0 []) same))
    by_both (inl p) (inr not) = inr (λ same. not (ap (λ (l : List (List ℕ)). drop 1 l) same))

-- a word is a number, or none
abbrev HasCount : List ℕ → Type 0
HasCount word = (n : ℕ) × IsCount word n

counted : (word : List ℕ) → HasCount word ⊎ (¬ HasCount word)
counted word = by_all (are_digits word) refl (cases_lt 10 (length word))
    (cases_lt (digits_value word) (2 ^ 32))
  where
    by_all : (digits : Bool) → are_digits word ≡ digits → (10 < length word) ⊎ (length word ≤ 10)
        → (digits_value word < 2 ^ 32) ⊎ (2 ^ 32 ≤ digits_value word)
        → HasCount word ⊎ (¬ HasCount word)
    by_all false is few small = inr (λ x. no_bool (sym is ∙ x.1.digits))
      where
        no_bool : false ≡ true → ⊥
        no_bool e = cc
    by_all true is (inl many) small = inr (λ x. omega (arith, many, x.1.few))
    by_all true is (inr few) (inr large) =
        inr (λ x. omega (arith, large, x.1.small, x.1.value_is))
    by_all true is (inr few) (inl small) = inl (
      digits_value word,
      record { digits = is; few = few; value_is = refl; small = small },
    )

abbrev HasRecords : List ℕ → Type 0
HasRecords word = (n : ℕ) × IsRecordCount word n

records_counted : (word : List ℕ) → HasRecords word ⊎ (¬ HasRecords word)
records_counted word = by_both (counted word) (cases_lt 10000 (digits_value word))
  where
    by_both : HasCount word ⊎ (¬ HasCount word)
        → (10000 < digits_value word) ⊎ (digits_value word ≤ 10000)
        → HasRecords word ⊎ (¬ HasRecords word)
    by_both (inr none) few = inr (λ x. none (x.0, x.1.count))
    by_both (inl is) (inl many) =
        inr (λ x. omega (arith, many, x.1.few, x.1.count.value_is))
    by_both (inl is) (inr few) = inl (
      is.0,
      record { count = is.1; few = omega (arith, few, is.1.value_is) },
    )

all_counted : (a : Action) → IsCounted a ⊎ (¬ IsCounted a)
all_counted checking = inl tt
all_counted trying = inl tt
all_counted explaining = inl tt
all_counted (making device blocks) = counted blocks
all_counted (running device) = inl tt
all_counted (sharing device) = inl tt
all_counted (inspecting device) = inl tt
all_counted (working device blocks records) = by_both (counted blocks) (records_counted records)
  where
    by_both : HasCount blocks ⊎ (¬ HasCount blocks) → HasRecords records ⊎ (¬ HasRecords records)
        → (HasCount blocks × HasRecords records) ⊎ (¬ (HasCount blocks × HasRecords records))
    by_both (inl one) (inl two) = inl (one, two)
    by_both (inr none) other = inr (λ x. none x.0)
    by_both (inl one) (inr none) = inr (λ x. none x.1)

-- the words ask for something
pub record Asks (words : List (List ℕ)) : Type 0 where
  pub action : Action
  pub schema : List ℕ
  pub equation : List ℕ
  pub words_are : words ≡ request_words action schema equation
  pub counted : IsCounted action

asks_or_not : (words : List (List ℕ)) → Asks words ⊎ (¬ Asks words)
asks_or_not words = by_both (words_same words (request_words a s e)) (all_counted a)
  where
    a : Action
    a = asked_of words

    s : List ℕ
    s = schema_in words

    e : List ℕ
    e = equation_in a words

    by_both : (words ≡ request_words a s e) ⊎ (words ≢ request_words a s e)
        → IsCounted a ⊎ (¬ IsCounted a) → Asks words ⊎ (¬ Asks words)
    by_both (inl is) (inl all) =
        inl (record { action = a; schema = s; equation = e; words_are = is; counted = all })
    by_both (inr not) all = inr (λ x. not (again words x.action x.schema x.equation x.words_are))
    by_both (inl is) (inr none) = inr (λ x. none
        (subst IsCounted (sym (ap asked_of x.words_are ∙ asked x.action x.schema x.equation))
        x.counted))

-- ---- the texts

abbrev pub NamedText : Texts → List ℕ → Type 0
NamedText texts name = IsThere texts name ⊎ (get texts name ≡ None) ⊎ IsTooLong texts name

named_text : (texts : Texts) (name : List ℕ) → NamedText texts name
named_text texts name = by_text (get texts name) refl
  where
    by_text : (found : Option (List ℕ)) → get texts name ≡ found → NamedText texts name
    by_text None is = inr (inl is)
    by_text (Some text) is = by_length (cases_lt text_limit (length text))
      where
        by_length : (text_limit < length text) ⊎ (length text ≤ text_limit) → NamedText texts name
        by_length (inl long) = inr (inr
            (subst (λ o. IsSomeAnd o (λ t. text_limit < length t)) (sym is) long))
        by_length (inr short) = inl (text, (is, short))

-- a name, wherever it stands
abbrev lent : List ℕ → Bor (List ℕ)
lent name = record { now = name; ref_ptr = (0, 0) }

-- a text that is named isn't there, or is too long
abbrev IsUnhad : Texts → List ℕ → Type 0
IsUnhad texts name = (get texts name ≡ None) ⊎ IsTooLong texts name

-- the schema of what is asked for is there, or it is the first text that isn't had
abbrev SchemaHad : Action → Texts → List ℕ → Type 0
SchemaHad a texts name = ((s : List ℕ) × IsSchemaOf a texts name s)
    ⊎ (IsUnhad texts name × ((e : List ℕ) → IsEither a texts name name e))

schema_had : (a : Action) (texts : Texts) (name : List ℕ) → NamedText texts name
    → SchemaHad a texts name
schema_had (working device blocks records) texts name is = inl (schema_lines, refl)
schema_had checking texts name (inl there) = inl there
schema_had checking texts name (inr not) = inr (not, λ e. inl refl)
schema_had trying texts name (inl there) = inl there
schema_had trying texts name (inr not) = inr (not, λ e. inl refl)
schema_had explaining texts name (inl there) = inl there
schema_had explaining texts name (inr not) = inr (not, λ e. inl refl)
schema_had (making device blocks) texts name (inl there) = inl there
schema_had (making device blocks) texts name (inr not) = inr (not, λ e. inl refl)
schema_had (running device) texts name (inl there) = inl there
schema_had (running device) texts name (inr not) = inr (not, λ e. inl refl)
schema_had (sharing device) texts name (inl there) = inl there
schema_had (inspecting device) texts name (inl there) = inl there
schema_had (sharing device) texts name (inr not) = inr (not, λ e. inl refl)
schema_had (inspecting device) texts name (inr not) = inr (not, λ e. inl refl)

-- where the schema is there the equation is the next
equation_next : (a : Action) (texts : Texts) (schema equation s : List ℕ)
    → IsSchemaOf a texts schema s → IsEither a texts equation schema equation
equation_next (working device blocks records) texts schema equation s there = refl
equation_next checking texts schema equation s there = inr ((s, there), refl)
equation_next trying texts schema equation s there = inr ((s, there), refl)
equation_next explaining texts schema equation s there = inr ((s, there), refl)
equation_next (making device blocks) texts schema equation s there = inr ((s, there), refl)
equation_next (running device) texts schema equation s there = inr ((s, there), refl)
equation_next (sharing device) texts schema equation s there = inr ((s, there), refl)
equation_next (inspecting device) texts schema equation s there = inr ((s, there), refl)

-- reading never answers want of memory
ok_same : {A : Type 0} (x y : A) → ◌≡◌ {A = Result A Unread} (Ok x) (Ok y) → x ≡ y
ok_same x y e = cc

read_ok : {A : Type 0} (bytes : List ℕ) (r : Result A Fault) (y : A) → with_fault_line bytes r ≡ Ok y
    → r ≡ Ok y
read_ok {A} bytes (Ok x) y e = ap (λ (z : A). Ok z) (ok_same x y e)
read_ok bytes (Err fault) y e = absurd cc

no_want : {A : Type 0} (bytes : List ℕ) (r : Result A Fault)
    → with_fault_line bytes r ≡ Err unread.NoMemory → ⊥
no_want bytes (Ok x) e = cc
no_want bytes (Err fault) e = cc

module _ (words : List (List ℕ)) (texts : Texts) (x : Asks words) where
  unhad : (name : List ℕ) → IsEither x.action texts name x.schema x.equation → IsUnhad texts name
      → AreDecided words texts
  unhad name first (inl none) = inl (ending.Missing (lent name), (named, none))
    where
      named : IsNamed words texts name
      named = record {
        asked = x.action;
        schema_name = x.schema;
        equation_name = x.equation;
        words_are = x.words_are;
        counted = x.counted;
        first = first;
      }
  unhad name first (inr long) = inl (ending.TooLong (lent name), (named, long))
    where
      named : IsNamed words texts name
      named = record {
        asked = x.action;
        schema_name = x.schema;
        equation_name = x.equation;
        words_are = x.words_are;
        counted = x.counted;
        first = first;
      }

  -- both texts are there
  module _ (s e : List ℕ) (asks : IsAsked words texts x.action s e) where
    by_length : (schema : Schema) (ds : List DefinitionTree) (lines : List ℕ) (typing : Typing)
        → AreRead s e schema ds lines → typing_of schema ds lines ≡ Ok typing
        → AreDecided words texts
    by_length schema ds lines typing read is =
        let typed = typed_found schema ds lines typing is in
        elim (cases_lt text_limit (text_length schema ds)) [
          | inl long ↦ inl (
            ending.TextsTooLong,
            (x.action, s, e, asks, (schema, ds, lines, read, typed.0, long)),
          )
          | inr short ↦ inr (
            x.action,
            schema,
            ds,
            typing,
            (
              s,
              e,
              asks,
              record {
                lines = lines;
                read = read;
                typed = typed.0;
                leaves_are = typed.1;
                short = short;
              },
            ),
          )
        ]

    by_typing : (schema : Schema) (ds : List DefinitionTree) (lines : List ℕ)
        → AreRead s e schema ds lines → (r : Result Typing Mistake) → typing_of schema ds lines ≡ r
        → AreDecided words texts
    by_typing schema ds lines read (Ok typing) is = by_length schema ds lines typing read is
    by_typing schema ds lines read (Err mistake) is = inl (
      ending.Type mistake.0 mistake.1,
      (x.action, s, e, asks, (schema, ds, lines, read, is)),
    )

    by_equation : (schema : Schema) → IsSchemaText s schema
        → (r : Result (List DefinitionTree × List ℕ) Unread) → equation_of e ≡ r
        → AreDecided words texts
    by_equation schema means (Ok meaning) is =
        let read : AreRead s e schema meaning.0 meaning.1 = record {
          schema_means = means;
          equation_means = meaning_found e meaning
              (read_ok e (map_ok (with_lines e) (equation_at e)) meaning is);
        } in
        by_typing schema meaning.0 meaning.1 read (typing_of schema meaning.0 meaning.1) refl
    by_equation schema means (Err (unread.Bad line why)) is = inl (
      ending.Equation line why,
      (x.action, s, e, asks, (schema, means, is)),
    )
    by_equation schema means (Err unread.NoMemory) is =
        absurd (no_want e (map_ok (with_lines e) (equation_at e)) is)

    by_schema : (r : Result Schema Unread) → schema_of s ≡ r → AreDecided words texts
    by_schema (Ok schema) is = by_equation schema (read_found s schema is) (equation_of e) refl
    by_schema (Err (unread.Bad line why)) is =
        inl (ending.Schema line why, (x.action, s, e, asks, is))
    by_schema (Err unread.NoMemory) is = absurd (no_want s (all_items s) is)

  by_named : (s : List ℕ) → IsSchemaOf x.action texts x.schema s → NamedText texts x.equation
      → AreDecided words texts
  by_named s there (inl equation) =
      by_schema s equation.0 (record {
        schema_name = x.schema;
        equation_name = x.equation;
        words_are = x.words_are;
        counted = x.counted;
        schema_there = there;
        equation_there = equation.1;
      }) (schema_of s) refl
  by_named s there (inr not) =
      unhad x.equation (equation_next x.action texts x.schema x.equation s there) not

  asked_decided : AreDecided words texts
  asked_decided = elim (schema_had x.action texts x.schema (named_text texts x.schema)) [
    | inl there ↦ by_named there.0 there.1 (named_text texts x.equation)
    | inr not ↦ unhad x.schema (not.1 x.equation) not.0
  ]

pub decided : (words : List (List ℕ)) (texts : Texts) → AreDecided words texts
decided words texts = elim (asks_or_not words) [
  | inl x ↦ asked_decided words texts x
  | inr none ↦ inl (
    ending.Words,
    λ a schema equation counted is. none (record {
      action = a;
      schema = schema;
      equation = equation;
      words_are = is;
      counted = counted;
    }),
  )
]
