-- When a request is refused, by the first reason, and when its texts are accepted.
use Rattle.std.specs.Prelude.{◌≡◌, ◌≢◌, ◌⊎◌, ℕ, ◌<◌, ◌≤◌, List, length, Bool, IsTrue, Some, None, Result, Err, IsSomeAnd}
use Rattle.std.specs.FinMap.{get}
use Rattle.gx_device.specs.Content.{Texts}
use Rattle.gx_tokens.specs.declared.why.Unread.{Unread}
use Rattle.gx_tokens.specs.declared.why.Unread.TheVariants as unread
use Rattle.gx_tokens.specs.Reading.{map_ok, with_fault_line}
use Rattle.gx_schema.specs.declared.schema.Schema.{Schema}
use Rattle.gx_schema.specs.Grammar.{IsSchemaText}
use Rattle.gx_schema.specs.Reading.{schema_of}
use Rattle.gx_equation.specs.Definitions.{equation_at, with_lines}
use Rattle.gx_equation.specs.Grammar.{Means}
use Rattle.gx_equation.specs.Trees.{DefinitionTree}
use Rattle.gx_typing.specs.declared.typing.Typing.{Typing}
use Rattle.gx_typing.specs.Typed.{IsTyped, leaves, typing_with}
use Rattle.gx_typing.specs.Whole.{typing_of}
use Rattle.gx_play.specs.declared.ending.Ending.{Ending}
use Rattle.gx_play.specs.declared.ending.Ending.TheVariants as ending
use Rattle.gx_requests.specs.Lengths.{text_length}
use Rattle.gx_requests.specs.Words.{Action, working, request_words, IsCounted}
use Rattle.gx_play.specs.Endings.{IsOutside}
use Rattle.gx_work.specs.Schema.{schema_lines}
use Rattle.gx_layout.specs.declared.places.TheConstants.{MAX_TEXTS_LEN}

-- the most bytes that a text may have, and that the two canonical texts may have together
abbrev pub text_limit : ℕ
text_limit = MAX_TEXTS_LEN

-- ---- of the texts of a machine

-- there is this text of that name, and it isn't too long
abbrev pub IsText : Texts → List ℕ → List ℕ → Type 0
IsText texts name text = (get texts name ≡ Some text) × (length text ≤ text_limit)

abbrev pub IsThere : Texts → List ℕ → Type 0
IsThere texts name = (text : List ℕ) × IsText texts name text

abbrev pub IsTooLong : Texts → List ℕ → Type 0
IsTooLong texts name = IsSomeAnd (get texts name) (λ text. text_limit < length text)

-- the text of the schema: that of this name, or the workload's own
abbrev pub IsSchemaOf : Action → Texts → List ℕ → List ℕ → Type 0
IsSchemaOf (working device blocks records) texts name text = text ≡ schema_lines
IsSchemaOf a texts name text = IsText texts name text

-- the words ask for this of two texts, which are there
pub record IsAsked (words : List (List ℕ)) (texts : Texts) (a : Action)
    (schema equation : List ℕ) : Type 0 where
  pub schema_name : List ℕ
  pub equation_name : List ℕ
  pub words_are : words ≡ request_words a schema_name equation_name
  pub counted : IsCounted a
  pub schema_there : IsSchemaOf a texts schema_name schema
  pub equation_there : IsText texts equation_name equation

-- the text of this name is the schema, or the equation, and then the schema is there
abbrev pub IsEither : Action → Texts → List ℕ → List ℕ → List ℕ → Type 0
IsEither (working device blocks records) texts name schema equation = name ≡ equation
IsEither a texts name schema equation = (name ≡ schema) ⊎ (IsThere texts schema × (name ≡ equation))

-- the words name this text so
pub record IsNamed (words : List (List ℕ)) (texts : Texts) (name : List ℕ) : Type 0 where
  pub asked : Action
  pub schema_name : List ℕ
  pub equation_name : List ℕ
  pub words_are : words ≡ request_words asked schema_name equation_name
  pub counted : IsCounted asked
  pub first : IsEither asked texts name schema_name equation_name

-- ---- of the two texts alone

-- what reading an equation gives: its definitions and the lines of their places, or the line of the
-- first fault and its reason
abbrev pub equation_of : List ℕ → Result (List DefinitionTree × List ℕ) Unread
equation_of text = with_fault_line text (map_ok (with_lines text) (equation_at text))

-- the two texts mean a schema and definitions
pub record AreRead (schema_text equation_text : List ℕ) (schema : Schema) (ds : List DefinitionTree)
    (lines : List ℕ) : Type 0 where
  pub schema_means : IsSchemaText schema_text schema
  pub equation_means : Means equation_text (ds, lines)

-- the checker accepts two texts: they mean a schema and definitions that are typed under it, with
-- these leaves, and the canonical texts of both aren't too long
pub record AreAccepted (schema_text equation_text : List ℕ) (schema : Schema)
    (ds : List DefinitionTree) (typing : Typing) : Type 0 where
  pub lines : List ℕ
  pub read : AreRead schema_text equation_text schema ds lines
  pub typed : IsTyped schema ds
  pub leaves_are : typing ≡ typing_with (leaves schema ds)
  pub short : text_length schema ds ≤ text_limit

-- why it accepts them not, by the first reason
abbrev pub AreUnaccepted : List ℕ → List ℕ → Ending → Type 0
AreUnaccepted schema_text equation_text (ending.Schema line why) =
    schema_of schema_text ≡ Err (unread.Bad line why)
AreUnaccepted schema_text equation_text (ending.Equation line why) =
    (schema : Schema) × IsSchemaText schema_text schema
    × (equation_of equation_text ≡ Err (unread.Bad line why))
AreUnaccepted schema_text equation_text (ending.Type line why) =
    (schema : Schema) × (ds : List DefinitionTree) × (lines : List ℕ)
    × AreRead schema_text equation_text schema ds lines
    × (typing_of schema ds lines ≡ Err (line, why))
AreUnaccepted schema_text equation_text ending.TextsTooLong =
    (schema : Schema) × (ds : List DefinitionTree) × (lines : List ℕ)
    × AreRead schema_text equation_text schema ds lines × IsTyped schema ds
    × (text_limit < text_length schema ds)
AreUnaccepted schema_text equation_text why = ⊥

-- the same, or there was no memory
abbrev pub AreUnchecked : List ℕ → List ℕ → Ending → Type 0
AreUnchecked schema_text equation_text ending.NoMemory = Unit {0}
AreUnchecked schema_text equation_text why = AreUnaccepted schema_text equation_text why

-- ---- the request

-- a request whose texts are accepted
abbrev pub IsAccepted : List (List ℕ) → Texts → Action → Schema → List DefinitionTree → Typing
    → Type 0
IsAccepted words texts a schema ds typing =
    (s : List ℕ) × (e : List ℕ) × IsAsked words texts a s e × AreAccepted s e schema ds typing

-- why a request is refused: the first reason in the order of words, texts, schema, equation, types
-- and lengths
abbrev pub IsRefused : List (List ℕ) → Texts → Ending → Type 0
IsRefused words texts ending.Words = (a : Action) (schema equation : List ℕ) → IsCounted a
    → words ≢ request_words a schema equation
IsRefused words texts (ending.Missing name) =
    IsNamed words texts name.now × (get texts name.now ≡ None)
IsRefused words texts (ending.TooLong name) =
    IsNamed words texts name.now × IsTooLong texts name.now
IsRefused words texts why =
    (a : Action) × (s : List ℕ) × (e : List ℕ) × IsAsked words texts a s e × AreUnaccepted s e why

-- why nothing is to be done: the request is refused, or its texts can't be had for the machine or
-- for want of memory
abbrev pub IsUnprepared : List (List ℕ) → Texts → ℕ → ℕ → Ending → Type 0
IsUnprepared words texts before now why = IsRefused words texts why ⊎ IsOutside before now why

-- why the text of that name wasn't fetched
abbrev pub IsUnfetched : Bool → Texts → ℕ → ℕ → List ℕ → Ending → Type 0
IsUnfetched tells texts before now name (ending.Missing missing) =
    (missing.now ≡ name) × (IsTrue tells → get texts name ≡ None)
IsUnfetched tells texts before now name (ending.TooLong long) =
    (long.now ≡ name) × (IsTrue tells → IsTooLong texts name)
IsUnfetched tells texts before now name ending = IsOutside before now ending
