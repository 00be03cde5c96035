-- A request that is accepted isn't refused, and its texts mean one thing.
use Rattle.std.proofs.Common.{◌≡◌, ℕ, ◌<◌, List, Result, Ok, Err, refl, sym, ap, subst, ◌∙◌, arith}
use Rattle.gx_device.specs.Content.{Texts}
use Rattle.gx_tokens.specs.declared.why.Unread.{Unread}
use Rattle.gx_tokens.specs.declared.why.Unread.TheVariants as unread
use Rattle.gx_tokens.specs.Reading.{with_fault_line}
use Rattle.gx_schema.specs.declared.schema.Schema.{Schema}
use Rattle.gx_schema.proofs.SchemaLaws.{schema_again, one_schema}
use Rattle.gx_equation.specs.Grammar.{Means}
use Rattle.gx_equation.specs.Trees.{DefinitionTree}
use Rattle.gx_equation.proofs.Again.{meaning_again, one_meaning}
use Rattle.gx_typing.specs.declared.typing.Typing.{Typing}
use Rattle.gx_typing.specs.Typed.{IsTyped, leaves, typing_with}
use Rattle.gx_typing.specs.Typing.{Mistake}
use Rattle.gx_typing.proofs.TypedLaws.{again as typed_again}
use Rattle.gx_play.specs.declared.ending.Ending.{Ending}
use Rattle.gx_play.specs.declared.ending.Ending.TheVariants as ending
use Rattle.gx_play.specs.declared.status.Status.TheVariants as status
use Rattle.gx_requests.specs.Lengths.{text_length}
use Rattle.gx_play.specs.Endings.{status_of}
use Rattle.gx_requests.specs.Requests.{IsAsked, AreRead, AreAccepted, AreUnaccepted, IsAccepted, IsRefused, equation_of, text_limit}
use Rattle.gx_requests.specs.Words.{Action}
use Rattle.gx_requests.proofs.AskedLemmas.{ok_not_bad, one_request, named, not_missing, not_long}

-- ---- two meanings of the same texts

record SameTexts (schema other : Schema) (ds fs : List DefinitionTree) (lines more : List ℕ) : Type
    0 where
  pub schemas : schema ≡ other
  pub definitions : ds ≡ fs
  pub lines_are : lines ≡ more

one_reading : (s e : List ℕ) (schema other : Schema) (ds fs : List DefinitionTree)
    (lines more : List ℕ)
    → AreRead s e schema ds lines → AreRead s e other fs more
    → SameTexts schema other ds fs lines more
one_reading s e schema other ds fs lines more x y =
    let same = one_meaning e (ds, lines) (fs, more) x.equation_means y.equation_means in
    record {
      schemas = one_schema s schema other x.schema_means y.schema_means;
      definitions = ap (λ (m : List DefinitionTree × List ℕ). m.0) same;
      lines_are = ap (λ (m : List DefinitionTree × List ℕ). m.1) same;
    }

pub equation_read : (text : List ℕ) (meaning : List DefinitionTree × List ℕ) → Means text meaning
    → equation_of text ≡ Ok meaning
equation_read text meaning is = ap (with_fault_line text) (meaning_again text meaning is)

other_not_bad : {A : Type 0} (a : A) (e : Unread) → ◌≡◌ {A = Result A Unread} (Ok a) (Err e) → ⊥
other_not_bad a e f = cc

typed_not_mistaken : (t : Typing) (m : Mistake) → ◌≡◌ {A = Result Typing Mistake} (Ok t) (Err m) → ⊥
typed_not_mistaken t m f = cc

-- accepted texts aren't refused
not_unaccepted : (s e : List ℕ) (schema : Schema) (ds : List DefinitionTree) (typing : Typing)
    (why : Ending)
    → AreAccepted s e schema ds typing → AreUnaccepted s e why → ⊥
not_unaccepted s e schema ds typing (ending.Schema line why) a r =
    ok_not_bad schema (unread.Bad line why) (sym (schema_again s schema a.read.schema_means) ∙ r)
not_unaccepted s e schema ds typing (ending.Equation line why) a r =
    other_not_bad (ds, a.lines) (unread.Bad line why)
    (sym (equation_read e (ds, a.lines) a.read.equation_means) ∙ r.2)
not_unaccepted s e schema ds typing (ending.Type line why) a r =
    let same = one_reading s e schema r.0 ds r.1 a.lines r.2 a.read r.3 in
    typed_not_mistaken (typing_with (leaves r.0 r.1)) (line, why)
    (sym (typed_again r.0 r.1 r.2 (subst (λ (k : Schema). IsTyped k r.1) same.schemas
    (subst (λ fs. IsTyped schema fs) same.definitions a.typed))) ∙ r.4)
not_unaccepted s e schema ds typing ending.TextsTooLong a r =
    let same = one_reading s e schema r.0 ds r.1 a.lines r.2 a.read r.3 in
    omega (
      arith,
      a.short,
      subst (λ (k : Schema). text_limit < text_length k ds) (sym same.schemas)
          (subst (λ fs. text_limit < text_length r.0 fs) (sym same.definitions) r.5),
    )
not_unaccepted s e schema ds typing ending.Words a r = r
not_unaccepted s e schema ds typing (ending.Missing name) a r = r
not_unaccepted s e schema ds typing (ending.TooLong name) a r = r
not_unaccepted s e schema ds typing (ending.Accepted summary) a r = r
not_unaccepted s e schema ds typing ending.Full a r = r
not_unaccepted s e schema ds typing (ending.Device wrong) a r = r
not_unaccepted s e schema ds typing (ending.Made blocks pages) a r = r
not_unaccepted s e schema ds typing ending.NoMemory a r = r
not_unaccepted s e schema ds typing ending.Fault a r = r
not_unaccepted s e schema ds typing (ending.Line number why) a r = r

-- the same of a request that asks for the same of the same texts
not_refused_by_texts : (words : List (List ℕ)) (texts : Texts) (a : Action) (s e : List ℕ)
    (schema : Schema)
    (ds : List DefinitionTree) (typing : Typing) (why : Ending) → IsAsked words texts a s e
    → AreAccepted s e schema ds typing
    → ((b : Action) × (t : List ℕ) × (f : List ℕ) × IsAsked words texts b t f
    × AreUnaccepted t f why) → ⊥
not_refused_by_texts words texts a s e schema ds typing why asked is r =
    let same = one_request words texts a r.0 s r.1 e r.2 asked r.3 in
    not_unaccepted s e schema ds typing why is
    (subst (λ t. AreUnaccepted t e why) (sym same.schemas)
    (subst (λ f. AreUnaccepted r.1 f why) (sym same.equations) r.4))

-- a request whose texts are accepted is refused for no reason
pub accepted_not_refused : (words : List (List ℕ)) (texts : Texts) (a : Action) (schema : Schema)
    (ds : List DefinitionTree) (typing : Typing) (why : Ending)
    → IsAccepted words texts a schema ds typing → IsRefused words texts why → ⊥
accepted_not_refused words texts a schema ds typing ending.Words is r =
    r a is.2.schema_name is.2.equation_name is.2.counted is.2.words_are
accepted_not_refused words texts a schema ds typing (ending.Missing name) is r =
    not_missing texts name.now (named words texts name.now a is.0 is.1 is.2 r.0) r.1
accepted_not_refused words texts a schema ds typing (ending.TooLong name) is r =
    not_long texts name.now (named words texts name.now a is.0 is.1 is.2 r.0) r.1
accepted_not_refused words texts a schema ds typing (ending.Schema line why) is r =
    not_refused_by_texts words texts a is.0 is.1 schema ds typing (ending.Schema line why) is.2 is.3
    r
accepted_not_refused words texts a schema ds typing (ending.Equation line why) is r =
    not_refused_by_texts words texts a is.0 is.1 schema ds typing (ending.Equation line why) is.2
    is.3 r
accepted_not_refused words texts a schema ds typing (ending.Type line why) is r =
    not_refused_by_texts words texts a is.0 is.1 schema ds typing (ending.Type line why) is.2 is.3 r
accepted_not_refused words texts a schema ds typing ending.TextsTooLong is r =
    not_refused_by_texts words texts a is.0 is.1 schema ds typing ending.TextsTooLong is.2 is.3 r
accepted_not_refused words texts a schema ds typing (ending.Accepted summary) is r = r.4
accepted_not_refused words texts a schema ds typing ending.Full is r = r.4
accepted_not_refused words texts a schema ds typing (ending.Device wrong) is r = r.4
accepted_not_refused words texts a schema ds typing (ending.Made blocks pages) is r = r.4
accepted_not_refused words texts a schema ds typing ending.NoMemory is r = r.4
accepted_not_refused words texts a schema ds typing ending.Fault is r = r.4
accepted_not_refused words texts a schema ds typing (ending.Line number why) is r = r.4

-- ---- two acceptances of the same words

pub record SameRequest (a b : Action) (schema other : Schema) (ds fs : List DefinitionTree)
    (typing more : Typing) : Type 0 where
  pub actions : a ≡ b
  pub schemas : schema ≡ other
  pub definitions : ds ≡ fs
  pub typings : typing ≡ more

pub one_acceptance : (words : List (List ℕ)) (texts : Texts) (a b : Action) (schema other : Schema)
    (ds fs : List DefinitionTree) (typing more : Typing) → IsAccepted words texts a schema ds typing
    → IsAccepted words texts b other fs more → SameRequest a b schema other ds fs typing more
one_acceptance words texts a b schema other ds fs typing more x y =
    let same = one_request words texts a b x.0 y.0 x.1 y.1 x.2 y.2 in
    let read = one_reading y.0 y.1 schema other ds fs x.3.lines y.3.lines
    (subst (λ t. AreRead t y.1 schema ds x.3.lines) same.schemas
    (subst (λ f. AreRead x.0 f schema ds x.3.lines) same.equations x.3.read)) y.3.read in
    record {
      actions = same.actions;
      schemas = read.schemas;
      definitions = read.definitions;
      typings = x.3.leaves_are ∙ (λ i. typing_with (leaves (read.schemas i) (read.definitions i)))
          ∙ sym y.3.leaves_are;
    }

-- ---- where there is a reason to refuse

pub refused_status : (words : List (List ℕ)) (texts : Texts) (why : Ending)
    → IsRefused words texts why → status_of why ≡ status.Refused
refused_status words texts ending.Words r = refl
refused_status words texts (ending.Missing name) r = refl
refused_status words texts (ending.TooLong name) r = refl
refused_status words texts (ending.Schema line why) r = refl
refused_status words texts (ending.Equation line why) r = refl
refused_status words texts (ending.Type line why) r = refl
refused_status words texts ending.TextsTooLong r = refl
refused_status words texts (ending.Accepted summary) r = absurd r.4
refused_status words texts ending.Full r = absurd r.4
refused_status words texts (ending.Device wrong) r = absurd r.4
refused_status words texts (ending.Made blocks pages) r = absurd r.4
refused_status words texts ending.NoMemory r = absurd r.4
refused_status words texts ending.Fault r = absurd r.4
refused_status words texts (ending.Line number why) r = absurd r.4
