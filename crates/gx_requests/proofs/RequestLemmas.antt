-- Why a request isn't carried out, from why its texts aren't accepted, and what is built of
-- accepted texts.
use Rattle.std.proofs.Common.{◌≡◌, ◌≤◌, ℕ, List, [], Result, Ok, Err, Bool, None, refl, sym, ap, subst, ◌∙◌, arith, inl, inr, length}
use Rattle.std.specs.Prelude.{IfOk, IfErr, IsErrAnd, IsTrue}
use Rattle.std.specs.FinMap.{get}
use Rattle.std.proofs.lemmas.List.{length-map}
use Rattle.gx_device.specs.Content.{Texts}
use Rattle.gx_schema.specs.declared.schema.Schema.{Schema}
use Rattle.gx_schema.specs.Printing.{schema_text}
use Rattle.gx_equation.specs.Seen.{definitions_of}
use Rattle.gx_equation.specs.Trees.{DefinitionTree}
use Rattle.gx_types.specs.declared.built.Built.{Built}
use Rattle.gx_typing.specs.declared.typing.Typing.{Typing}
use Rattle.gx_typing.specs.Typed.{leaves, spec_of}
use Rattle.gx_states.specs.Built.{IsBuiltOf}
use Rattle.gx_play.specs.declared.ending.Ending.{Ending}
use Rattle.gx_play.specs.declared.ending.Ending.TheVariants as ending
use Rattle.gx_requests.specs.declared.opened.Stored.{Stored}
use Rattle.gx_requests.specs.declared.reading.Checked.{Checked}
use Rattle.gx_requests.specs.Checked.{AreChecked, IsAcceptedAs, IsBuiltFor, IsPrepared, IsStoredOf, IsStoredFor}
use Rattle.gx_requests.specs.Fetched.{Prepares}
use Rattle.gx_requests.specs.Requests.{IsText, IsThere, IsTooLong, IsUnfetched, IsSchemaOf}
use Rattle.gx_requests.specs.Requests.{IsAsked, IsEither, IsNamed, IsAccepted, AreAccepted}
use Rattle.gx_requests.specs.Requests.{AreUnchecked, IsUnprepared}
use Rattle.gx_requests.specs.Words.{Action, checking, trying, explaining, making, running, sharing, inspecting, working, IsCounted, IsCountedOfTwo, IsCountedOfOne, AskOfTwo, AskOfOne}
use Rattle.gx_work.specs.Schema.{schema_lines}

-- ---- a request that names both texts

two_counted : (a : Action) → IsCountedOfTwo a → IsCounted a
two_counted checking is = is
two_counted trying is = is
two_counted explaining is = is
two_counted (making device blocks) is = is
two_counted (running device) is = is
two_counted (sharing device) is = is
two_counted (inspecting device) is = is
two_counted (working device blocks records) is = absurd is

two_there : (a : Action) (texts : Texts) (name text : List ℕ) → IsCountedOfTwo a
    → IsText texts name text → IsSchemaOf a texts name text
two_there checking texts name text two is = is
two_there trying texts name text two is = is
two_there explaining texts name text two is = is
two_there (making device blocks) texts name text two is = is
two_there (running device) texts name text two is = is
two_there (sharing device) texts name text two is = is
two_there (inspecting device) texts name text two is = is
two_there (working device blocks records) texts name text two is = absurd two

-- ---- a request that names the equation alone

one_counted : (a : Action) → IsCountedOfOne a → IsCounted a
one_counted (working device blocks records) is = is
one_counted checking is = absurd is
one_counted trying is = absurd is
one_counted explaining is = absurd is
one_counted (making device blocks) is = absurd is
one_counted (running device) is = absurd is
one_counted (sharing device) is = absurd is
one_counted (inspecting device) is = absurd is

one_there : (a : Action) (texts : Texts) (name : List ℕ) → IsCountedOfOne a
    → IsSchemaOf a texts name schema_lines
one_there (working device blocks records) texts name is = refl
one_there checking texts name is = absurd is
one_there trying texts name is = absurd is
one_there explaining texts name is = absurd is
one_there (making device blocks) texts name is = absurd is
one_there (running device) texts name is = absurd is
one_there (sharing device) texts name is = absurd is
one_there (inspecting device) texts name is = absurd is

-- ---- a text that is named

-- the schema is the first text that is named
two_first : (a : Action) (texts : Texts) (schema equation : List ℕ) → IsCountedOfTwo a
    → IsEither a texts schema schema equation
two_first checking texts schema equation is = inl refl
two_first trying texts schema equation is = inl refl
two_first explaining texts schema equation is = inl refl
two_first (making device blocks) texts schema equation is = inl refl
two_first (running device) texts schema equation is = inl refl
two_first (sharing device) texts schema equation is = inl refl
two_first (inspecting device) texts schema equation is = inl refl
two_first (working device blocks records) texts schema equation is = absurd is

-- the equation is it where the schema is there
two_second : (a : Action) (texts : Texts) (schema equation : List ℕ) → IsCountedOfTwo a
    → IsThere texts schema → IsEither a texts equation schema equation
two_second checking texts schema equation is there = inr (there, refl)
two_second trying texts schema equation is there = inr (there, refl)
two_second explaining texts schema equation is there = inr (there, refl)
two_second (making device blocks) texts schema equation is there = inr (there, refl)
two_second (running device) texts schema equation is there = inr (there, refl)
two_second (sharing device) texts schema equation is there = inr (there, refl)
two_second (inspecting device) texts schema equation is there = inr (there, refl)
two_second (working device blocks records) texts schema equation is there = absurd is

-- the equation is it where it is named alone
one_first : (a : Action) (texts : Texts) (equation : List ℕ) → IsCountedOfOne a
    → IsEither a texts equation [] equation
one_first (working device blocks records) texts equation is = refl
one_first checking texts equation is = absurd is
one_first trying texts equation is = absurd is
one_first explaining texts equation is = absurd is
one_first (making device blocks) texts equation is = absurd is
one_first (running device) texts equation is = absurd is
one_first (sharing device) texts equation is = absurd is
one_first (inspecting device) texts equation is = absurd is

-- the schema of a request that names both texts is named
pub schema_named : (texts : Texts) (schema equation : List ℕ) (words : List (List ℕ)) (a : Action)
    → AskOfTwo schema equation words a → IsNamed words texts schema
schema_named texts schema equation words a asks = record {
  asked = a;
  schema_name = schema;
  equation_name = equation;
  words_are = asks.1;
  counted = two_counted a asks.0;
  first = two_first a texts schema equation asks.0;
}

-- and where it is there, so is the equation
pub equation_named : (texts : Texts) (schema equation : List ℕ) (words : List (List ℕ))
    (a : Action) → AskOfTwo schema equation words a → IsThere texts schema
    → IsNamed words texts equation
equation_named texts schema equation words a asks there = record {
  asked = a;
  schema_name = schema;
  equation_name = equation;
  words_are = asks.1;
  counted = two_counted a asks.0;
  first = two_second a texts schema equation asks.0 there;
}

-- an equation is named that is asked for alone
pub alone_named : (texts : Texts) (equation : List ℕ) (words : List (List ℕ)) (a : Action)
    → AskOfOne equation words a → IsNamed words texts equation
alone_named texts equation words a asks = record {
  asked = a;
  schema_name = [];
  equation_name = equation;
  words_are = asks.1;
  counted = one_counted a asks.0;
  first = one_first a texts equation asks.0;
}

-- why it wasn't fetched is why nothing is prepared
pub unfetched : (tells : Bool) (words : List (List ℕ)) (texts : Texts) (before now : ℕ)
    (name : List ℕ) (why : Ending) → IsTrue tells → IsNamed words texts name
    → IsUnfetched tells texts before now name why → IsUnprepared words texts before now why
unfetched tells words texts before now name (ending.Missing missing) told named is =
    inl (
      subst (IsNamed words texts) (sym is.0) named,
      subst (λ (n : List ℕ). get texts n ≡ None) (sym is.0) (is.1 told),
    )
unfetched tells words texts before now name (ending.TooLong long) told named is =
    inl (
      subst (IsNamed words texts) (sym is.0) named,
      subst (IsTooLong texts) (sym is.0) (is.1 told),
    )
unfetched tells words texts before now name ending.Fault told named is = inr is
unfetched tells words texts before now name ending.NoMemory told named is = inr tt
unfetched tells words texts before now name (ending.Schema line reason) told named is = absurd is
unfetched tells words texts before now name (ending.Equation line reason) told named is = absurd is
unfetched tells words texts before now name (ending.Type line reason) told named is = absurd is
unfetched tells words texts before now name ending.TextsTooLong told named is = absurd is
unfetched tells words texts before now name (ending.Accepted summary) told named is = absurd is
unfetched tells words texts before now name ending.Full told named is = absurd is
unfetched tells words texts before now name (ending.Device wrong) told named is = absurd is
unfetched tells words texts before now name (ending.Made blocks pages) told named is = absurd is
unfetched tells words texts before now name ending.Words told named is = absurd is
unfetched tells words texts before now name (ending.Line number reason) told named is = absurd is

-- ---- texts that are there

-- the words ask for both texts, which are there
pub asked_of_two : (words : List (List ℕ)) (texts : Texts) (a : Action)
    (schema_name equation_name schema equation : List ℕ)
    → AskOfTwo schema_name equation_name words a
    → IsText texts schema_name schema → IsText texts equation_name equation
    → IsAsked words texts a schema equation
asked_of_two words texts a schema_name equation_name schema equation asks first second = record {
  schema_name = schema_name;
  equation_name = equation_name;
  words_are = asks.1;
  counted = two_counted a asks.0;
  schema_there = two_there a texts schema_name schema asks.0 first;
  equation_there = second;
}

-- they ask for the equation under the schema of the workload
pub asked_of_one : (words : List (List ℕ)) (texts : Texts) (a : Action)
    (equation_name equation : List ℕ) → AskOfOne equation_name words a
    → IsText texts equation_name equation → IsAsked words texts a schema_lines equation
asked_of_one words texts a equation_name equation asks there = record {
  schema_name = [];
  equation_name = equation_name;
  words_are = asks.1;
  counted = one_counted a asks.0;
  schema_there = one_there a texts [] asks.0;
  equation_there = there;
}

-- ---- accepted texts

-- as many leaves as a typed equation may have
pub few_leaves : (s e : List ℕ) (schema : Schema) (ds : List DefinitionTree) (typing : Typing)
    → AreAccepted s e schema ds typing → length typing.specs ≤ 255
few_leaves s e schema ds typing is =
    subst (λ (t : Typing). length t.specs ≤ 255) (sym is.leaves_are)
    (omega (arith, is.typed.few, length-map (leaves schema ds) spec_of))

unaccepted : (words : List (List ℕ)) (texts : Texts) (before now : ℕ) (a : Action) (s e : List ℕ)
    (why : Ending)
    → IsAsked words texts a s e → AreUnchecked s e why → IsUnprepared words texts before now why
unaccepted words texts before now a s e (ending.Schema line reason) asked h =
    inl (a, s, e, asked, h)
unaccepted words texts before now a s e (ending.Equation line reason) asked h =
    inl (a, s, e, asked, h)
unaccepted words texts before now a s e (ending.Type line reason) asked h = inl (a, s, e, asked, h)
unaccepted words texts before now a s e ending.TextsTooLong asked h = inl (a, s, e, asked, h)
unaccepted words texts before now a s e ending.NoMemory asked h = inr tt
unaccepted words texts before now a s e (ending.Accepted summary) asked h = absurd h
unaccepted words texts before now a s e ending.Full asked h = absurd h
unaccepted words texts before now a s e (ending.Device wrong) asked h = absurd h
unaccepted words texts before now a s e (ending.Made blocks pages) asked h = absurd h
unaccepted words texts before now a s e ending.Words asked h = absurd h
unaccepted words texts before now a s e (ending.Missing name) asked h = absurd h
unaccepted words texts before now a s e (ending.TooLong name) asked h = absurd h
unaccepted words texts before now a s e (ending.Line number reason) asked h = absurd h
unaccepted words texts before now a s e ending.Fault asked h = absurd h

-- the same for what a call answers
all_unaccepted : (words : List (List ℕ)) (texts : Texts) (before now : ℕ) (a : Action)
    (s e : List ℕ)
    (result : Result Checked Ending) → IsAsked words texts a s e → IfErr result (AreUnchecked s e)
    → IfErr result (IsUnprepared words texts before now)
all_unaccepted words texts before now a s e (Ok c) asked h = tt
all_unaccepted words texts before now a s e (Err why) asked h =
    unaccepted words texts before now a s e why asked h

all_accepted : (words : List (List ℕ)) (texts : Texts) (a : Action) (s e : List ℕ)
    (result : Result Checked Ending) → IsAsked words texts a s e → IfOk result (AreChecked s e)
    → IfOk result (IsAcceptedAs words texts a)
all_accepted words texts a s e (Ok c) asked h = (s, e, asked, h)
all_accepted words texts a s e (Err why) asked h = tt

-- what the checker says of the texts that are asked for is what is prepared
pub all_checked : (Asks : List (List ℕ) → Action → Type 0) (texts : Texts) (before now : ℕ)
    (s e : List ℕ) (result : Result Checked Ending)
    → ((words : List (List ℕ)) (a : Action) → Asks words a → IsAsked words texts a s e)
    → IfOk result (AreChecked s e) → IfErr result (AreUnchecked s e)
    → Prepares Asks IsAcceptedAs texts before now result
all_checked Asks texts before now s e result asked accepted refused = record {
  ready = λ words a asks. all_accepted words texts a s e result (asked words a asks) accepted;
  unprepared = λ words a asks.
      all_unaccepted words texts before now a s e result (asked words a asks) refused;
}

-- an error that is passed on as it is
pub passed_on : {T : Type 0} (Asks : List (List ℕ) → Action → Type 0)
    (Given : List (List ℕ) → Texts → Action → T → Type 0) (texts : Texts) (before now : ℕ)
    (why : Ending) (result : Result T Ending)
    → ((words : List (List ℕ)) (a : Action) → Asks words a
    → IsUnprepared words texts before now why)
    → IsErrAnd result (λ e. e ≡ why) → Prepares Asks Given texts before now result
passed_on Asks Given texts before now why (Ok x) un is = absurd is
passed_on Asks Given texts before now why (Err e) un is = record {
  ready = λ words a asks. tt;
  unprepared = λ words a asks.
      subst (IsUnprepared words texts before now) (sym is) (un words a asks);
}

-- ---- what is built of them

pub all_built : (words : List (List ℕ)) (texts : Texts) (a : Action) (c : Checked) (x : Schema
    × Built)
    → IsAcceptedAs words texts a c → IsBuiltFor c x → IsPrepared words texts a x
all_built words texts a c x is h =
    let ds = definitions_of c.equation.definitions in
    record {
      definitions = ds;
      typing = c.typing;
      accepted = subst (λ (k : Schema). IsAccepted words texts a k ds c.typing) (sym h.0) is;
      trees = subst (λ (k : Schema). IsBuiltOf k ds x.1) (sym h.0) h.1;
    }

pub all_stored : (words : List (List ℕ)) (texts : Texts) (a : Action) (c : Checked) (x : Stored)
    → IsAcceptedAs words texts a c → IsStoredOf c x → IsStoredFor words texts a x
all_stored words texts a c x is h =
    let ds = definitions_of c.equation.definitions in
    record {
      definitions = ds;
      typing = c.typing;
      accepted = subst (λ (k : Schema). IsAccepted words texts a k ds c.typing)
          (sym h.schema_is) is;
      specs_are = h.specs_are;
      owners_are = h.owners_are;
      trees = subst (λ (k : Schema). IsBuiltOf k ds x.built) (sym h.schema_is) h.trees;
      schema_text_is = h.schema_text_is ∙ ap schema_text (sym h.schema_is);
      equation_text_is = h.equation_text_is;
    }
