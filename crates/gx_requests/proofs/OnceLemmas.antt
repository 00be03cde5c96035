-- A request is refused for one reason.
use Rattle.std.proofs.Common.{◌≡◌, ℕ, ◌<◌, List, [], length, ◌++◌, Bool, true, false, Result, Ok, Err, Option, Some, None, refl, sym, ap, subst, ◌∙◌, inl, inr}
use Rattle.std.specs.Prelude.{◌⊎◌, ◌≢◌, IsSomeAnd, codes, nat_lt}
use Rattle.std.specs.FinMap.{get}
use Rattle.std.proofs.lemmas.Bool.{lt-ltb}
use Rattle.gx_device.specs.Content.{Texts}
use Rattle.gx_tokens.specs.declared.why.Unread.{Unread}
use Rattle.gx_tokens.specs.declared.why.Unread.TheVariants as unread
use Rattle.gx_schema.specs.declared.schema.Schema.{Schema}
use Rattle.gx_schema.specs.Reading.{schema_of}
use Rattle.gx_schema.proofs.SchemaLaws.{schema_again}
use Rattle.gx_equation.specs.Trees.{DefinitionTree}
use Rattle.gx_typing.specs.declared.typing.Typing.{Typing}
use Rattle.gx_typing.specs.Typed.{leaves, typing_with}
use Rattle.gx_typing.specs.Typing.{Mistake}
use Rattle.gx_typing.specs.Whole.{typing_of}
use Rattle.gx_typing.proofs.TypedLaws.{again as typed_again}
use Rattle.gx_play.specs.declared.ending.Ending.{Ending}
use Rattle.gx_play.specs.declared.ending.Ending.TheVariants as ending
use Rattle.gx_requests.specs.Lengths.{text_length}
use Rattle.gx_play.specs.Endings.{ending_line}
use Rattle.gx_requests.specs.Requests.{IsThere, IsEither, IsNamed, IsAsked, AreRead, AreUnaccepted, IsRefused, equation_of, text_limit}
use Rattle.gx_requests.specs.Words.{Action, checking, trying, explaining, making, running, sharing, inspecting, working, request_words, IsCounted}
use Rattle.gx_requests.proofs.AskedLemmas.{NamesSchema, same_words, one_request, named, not_missing, not_long}
use Rattle.gx_requests.proofs.AcceptedLemmas.{equation_read}

-- ---- the line of a refusal, from what stands in the texts

abbrev fetch_line : Option (List ℕ) → List ℕ → List ℕ
fetch_line None name = codes "refused: missing " ++ name ++ codes "\n"
fetch_line (Some text) name = codes "refused: too long " ++ name ++ codes "\n"

abbrev checked_line : Result Typing Mistake → Bool → List ℕ
checked_line (Err mistake) long = ending_line (ending.Type mistake.0 mistake.1)
checked_line (Ok typing) true = ending_line ending.TextsTooLong
checked_line (Ok typing) false = []

abbrev read_line : Schema → Result (List DefinitionTree × List ℕ) Unread → List ℕ
read_line schema (Ok meaning) =
    checked_line (typing_of schema meaning.0 meaning.1)
    (nat_lt text_limit (text_length schema meaning.0))
read_line schema (Err (unread.Bad line why)) = ending_line (ending.Equation line why)
read_line schema (Err unread.NoMemory) = []

abbrev texts_line : Result Schema Unread → Result (List DefinitionTree × List ℕ) Unread → List ℕ
texts_line (Ok schema) equation = read_line schema equation
texts_line (Err (unread.Bad line why)) equation = ending_line (ending.Schema line why)
texts_line (Err unread.NoMemory) equation = []

texts_at : (s e : List ℕ) (x : Result Schema Unread)
    (y : Result (List DefinitionTree × List ℕ) Unread)
    → schema_of s ≡ x → equation_of e ≡ y
    → texts_line x y ≡ texts_line (schema_of s) (equation_of e)
texts_at s e x y p q = λ i. texts_line (sym p i) (sym q i)

read_at : (s e : List ℕ) (schema : Schema) (ds : List DefinitionTree) (lines : List ℕ)
    (typing : Result Typing Mistake) (long : Bool) → AreRead s e schema ds lines
    → typing_of schema ds lines ≡ typing → nat_lt text_limit (text_length schema ds) ≡ long
    → checked_line typing long ≡ texts_line (schema_of s) (equation_of e)
read_at s e schema ds lines typing long is p q =
    (λ i. checked_line (sym p i) (sym q i)) ∙ texts_at s e (Ok schema) (Ok (ds, lines))
    (schema_again s schema is.schema_means) (equation_read e (ds, lines) is.equation_means)

unaccepted_line : (s e : List ℕ) (why : Ending) → AreUnaccepted s e why
    → ending_line why ≡ texts_line (schema_of s) (equation_of e)
unaccepted_line s e (ending.Schema line why) r =
    texts_at s e (Err (unread.Bad line why)) (equation_of e) r refl
unaccepted_line s e (ending.Equation line why) r =
    texts_at s e (Ok r.0) (Err (unread.Bad line why)) (schema_again s r.0 r.1) r.2
unaccepted_line s e (ending.Type line why) r =
    read_at s e r.0 r.1 r.2 (Err (line, why)) (nat_lt text_limit (text_length r.0 r.1)) r.3 r.4 refl
unaccepted_line s e ending.TextsTooLong r =
    read_at s e r.0 r.1 r.2 (Ok (typing_with (leaves r.0 r.1))) true r.3
    (typed_again r.0 r.1 r.2 r.4)
    (lt-ltb text_limit (text_length r.0 r.1) r.5)
unaccepted_line s e ending.Words r = absurd r
unaccepted_line s e (ending.Missing name) r = absurd r
unaccepted_line s e (ending.TooLong name) r = absurd r
unaccepted_line s e (ending.Accepted summary) r = absurd r
unaccepted_line s e ending.Full r = absurd r
unaccepted_line s e (ending.Device wrong) r = absurd r
unaccepted_line s e (ending.Made blocks pages) r = absurd r
unaccepted_line s e ending.NoMemory r = absurd r
unaccepted_line s e ending.Fault r = absurd r
unaccepted_line s e (ending.Line number why) r = absurd r

-- ---- why a request is refused: its words, a text that isn't had, or what stands in the texts

abbrev AreNoRequest : List (List ℕ) → List ℕ → Type 0
AreNoRequest words line =
    ((a : Action) (schema equation : List ℕ) → IsCounted a
    → words ≢ request_words a schema equation) × (line ≡ ending_line ending.Words)

record IsLost (words : List (List ℕ)) (texts : Texts) (line : List ℕ) : Type 0 where
  pub name : List ℕ
  pub is_named : IsNamed words texts name
  pub not_there : IsThere texts name → ⊥
  pub line_is : line ≡ fetch_line (get texts name) name

record IsJudged (words : List (List ℕ)) (texts : Texts) (line : List ℕ) : Type 0 where
  pub asked : Action
  pub schema : List ℕ
  pub equation : List ℕ
  pub is_asked : IsAsked words texts asked schema equation
  pub line_is : line ≡ texts_line (schema_of schema) (equation_of equation)

abbrev HasReason : List (List ℕ) → Texts → List ℕ → Type 0
HasReason words texts line = AreNoRequest words line ⊎ IsLost words texts line
    ⊎ IsJudged words texts line

missing_line : (name : List ℕ) (text : Option (List ℕ)) → text ≡ None
    → codes "refused: missing " ++ name ++ codes "\n" ≡ fetch_line text name
missing_line name text is = ap (λ o. fetch_line o name) (sym is)

long_line : (name : List ℕ) (text : Option (List ℕ)) → IsSomeAnd text (λ t. text_limit < length t)
    → codes "refused: too long " ++ name ++ codes "\n" ≡ fetch_line text name
long_line name (Some text) is = refl
long_line name None is = absurd is

judged : (words : List (List ℕ)) (texts : Texts) (why : Ending)
    → ((a : Action) × (s : List ℕ) × (e : List ℕ) × IsAsked words texts a s e
    × AreUnaccepted s e why) → HasReason words texts (ending_line why)
judged words texts why r =
    inr (inr (record {
      asked = r.0;
      schema = r.1;
      equation = r.2;
      is_asked = r.3;
      line_is = unaccepted_line r.1 r.2 why r.4;
    }))

reason : (words : List (List ℕ)) (texts : Texts) (why : Ending) → IsRefused words texts why
    → HasReason words texts (ending_line why)
reason words texts ending.Words r = inl (r, refl)
reason words texts (ending.Missing name) r =
    inr (inl (record {
      name = name.now;
      is_named = r.0;
      not_there = λ there. not_missing texts name.now there
          r.1;
      line_is = missing_line name.now (get texts name.now) r.1;
    }))
reason words texts (ending.TooLong name) r =
    inr (inl (record {
      name = name.now;
      is_named = r.0;
      not_there = λ there. not_long texts name.now there r.1;
      line_is = long_line name.now (get texts name.now) r.1;
    }))
reason words texts (ending.Schema line why) r = judged words texts (ending.Schema line why) r
reason words texts (ending.Equation line why) r = judged words texts (ending.Equation line why) r
reason words texts (ending.Type line why) r = judged words texts (ending.Type line why) r
reason words texts ending.TextsTooLong r = judged words texts ending.TextsTooLong r
reason words texts (ending.Accepted summary) r = absurd r.4
reason words texts ending.Full r = absurd r.4
reason words texts (ending.Device wrong) r = absurd r.4
reason words texts (ending.Made blocks pages) r = absurd r.4
reason words texts ending.NoMemory r = absurd r.4
reason words texts ending.Fault r = absurd r.4
reason words texts (ending.Line number why) r = absurd r.4

-- the text that isn't had is the first one of the two
lost_once : (texts : Texts) (name other schema same equation : List ℕ) → schema ≡ same
    → (IsThere texts name → ⊥) → (IsThere texts other → ⊥)
    → (name ≡ schema) ⊎ (IsThere texts schema × (name ≡ equation))
    → (other ≡ same) ⊎ (IsThere texts same × (other ≡ equation)) → name ≡ other
lost_once texts name other schema same equation is lost missed (inl p) (inl q) = p ∙ is ∙ sym q
lost_once texts name other schema same equation is lost missed (inl p) (inr q) =
    absurd (lost (subst (IsThere texts) (sym (p ∙ is)) q.0))
lost_once texts name other schema same equation is lost missed (inr p) (inl q) =
    absurd (missed (subst (IsThere texts) (is ∙ sym q) p.0))
lost_once texts name other schema same equation is lost missed (inr p) (inr q) = p.1 ∙ sym q.1

either_once : (a : Action) (texts : Texts) (name other schema same equation : List ℕ)
    → (NamesSchema a → schema ≡ same) → (IsThere texts name → ⊥) → (IsThere texts other → ⊥)
    → IsEither a texts name schema equation → IsEither a texts other same equation → name ≡ other
either_once checking texts name other schema same equation is lost missed p q =
    lost_once texts name other schema same equation (is tt) lost missed p q
either_once trying texts name other schema same equation is lost missed p q =
    lost_once texts name other schema same equation (is tt) lost missed p q
either_once explaining texts name other schema same equation is lost missed p q =
    lost_once texts name other schema same equation (is tt) lost missed p q
either_once (making device blocks) texts name other schema same equation is lost missed p q =
    lost_once texts name other schema same equation (is tt) lost missed p q
either_once (running device) texts name other schema same equation is lost missed p q =
    lost_once texts name other schema same equation (is tt) lost missed p q
either_once (sharing device) texts name other schema same equation is lost missed p q =
    lost_once texts name other schema same equation (is tt) lost missed p q
either_once (inspecting device) texts name other schema same equation is lost missed p q =
    lost_once texts name other schema same equation (is tt) lost missed p q
either_once (working device blocks records) texts name other schema same equation is lost missed p
    q = p ∙ sym q

name_once : (words : List (List ℕ)) (texts : Texts) (name other : List ℕ) → IsNamed words texts name
    → IsNamed words texts other → (IsThere texts name → ⊥) → (IsThere texts other → ⊥)
    → name ≡ other
name_once words texts name other x y lost missed =
    let same = same_words words x.asked y.asked x.schema_name y.schema_name x.equation_name
    y.equation_name x.words_are y.words_are in
    either_once x.asked texts name other x.schema_name y.schema_name x.equation_name same.schemas
    lost missed x.first
    (subst (λ a. IsEither a texts other y.schema_name x.equation_name) (sym same.actions)
    (subst (λ k. IsEither y.asked texts other y.schema_name k) (sym same.equations) y.first))

line_once : (words : List (List ℕ)) (texts : Texts) (line other : List ℕ)
    → HasReason words texts line
    → HasReason words texts other → line ≡ other
line_once words texts line other (inl x) (inl y) = x.1 ∙ sym y.1
line_once words texts line other (inl x) (inr (inl y)) =
    absurd (x.0 y.is_named.asked y.is_named.schema_name y.is_named.equation_name y.is_named.counted
    y.is_named.words_are)
line_once words texts line other (inl x) (inr (inr y)) =
    absurd (x.0 y.asked y.is_asked.schema_name y.is_asked.equation_name y.is_asked.counted
    y.is_asked.words_are)
line_once words texts line other (inr (inl x)) (inl y) =
    absurd (y.0 x.is_named.asked x.is_named.schema_name x.is_named.equation_name x.is_named.counted
    x.is_named.words_are)
line_once words texts line other (inr (inl x)) (inr (inl y)) =
    x.line_is ∙ ap (λ n. fetch_line (get texts n) n)
    (name_once words texts x.name y.name x.is_named y.is_named x.not_there y.not_there)
    ∙ sym y.line_is
line_once words texts line other (inr (inl x)) (inr (inr y)) =
    absurd (x.not_there (named words texts x.name y.asked y.schema y.equation y.is_asked
    x.is_named))
line_once words texts line other (inr (inr x)) (inl y) =
    absurd (y.0 x.asked x.is_asked.schema_name x.is_asked.equation_name x.is_asked.counted
    x.is_asked.words_are)
line_once words texts line other (inr (inr x)) (inr (inl y)) =
    absurd (y.not_there (named words texts y.name x.asked x.schema x.equation x.is_asked
    y.is_named))
line_once words texts line other (inr (inr x)) (inr (inr y)) =
    let same = one_request words texts x.asked y.asked x.schema y.schema x.equation y.equation
    x.is_asked y.is_asked in
    x.line_is ∙ (λ i. texts_line (schema_of (same.schemas i)) (equation_of (same.equations i)))
    ∙ sym y.line_is

pub refused_once : (words : List (List ℕ)) (texts : Texts) (why other : Ending)
    → IsRefused words texts why
    → IsRefused words texts other → ending_line why ≡ ending_line other
refused_once words texts why other x y =
    line_once words texts (ending_line why) (ending_line other) (reason words texts why x)
    (reason words texts other y)
