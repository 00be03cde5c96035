-- The steps from the texts of a request to what is played.
use Rattle.std.specs.Prelude.{◌≡◌, ℕ, ◌+◌, ◌≤◌, ◌<◌, List, length, true, Err}
use Rattle.gx_tokens.specs.declared.why.Unread.TheVariants as unread
use Rattle.gx_device.specs.Content.{Texts}
use Rattle.gx_schema.specs.declared.schema.Schema.{Schema}
use Rattle.gx_schema.specs.Printing.{schema_text}
use Rattle.gx_schema.specs.Reading.{schema_of}
use Rattle.gx_schema.specs.Rules.{IsSchema}
use Rattle.gx_schema.specs.WellFormed.{IsWellFormed}
use Rattle.gx_equation.specs.Printing.{AreWritten, equation_text}
use Rattle.gx_equation.specs.Seen.{definitions_of}
use Rattle.gx_equation.specs.Trees.{DefinitionTree}
use Rattle.gx_states.specs.Internal.{AreFor}
use Rattle.gx_leaves.specs.Kinds.{are_built}
use Rattle.gx_types.specs.declared.built.Built.{Built}
use Rattle.gx_typing.specs.declared.typing.Typing.{Typing}
use Rattle.gx_typing.specs.Typed.{IsTyped, leaves, typing_with}
use Rattle.gx_typing.specs.Whole.{typing_of}
use Rattle.gx_states.specs.Built.{IsBuiltOf}
use Rattle.gx_play.specs.declared.ending.Ending.{Ending}
use Rattle.gx_play.specs.declared.ending.Ending.TheVariants as ending
use Rattle.gx_requests.specs.declared.opened.Stored.{Stored}
use Rattle.gx_requests.specs.declared.reading.Checked.{Checked}
use Rattle.gx_requests.specs.Lengths.{text_length}
use Rattle.gx_requests.specs.Requests.{AreAccepted, IsAccepted, equation_of, text_limit}
use Rattle.gx_requests.specs.Words.{Action}
use Rattle.gx_ports.specs.declared.kinds.TheConstants.{MAX_LEAVES}

-- why a schema isn't read
abbrev pub IsUnread : List ℕ → Ending → Type 0
IsUnread text (ending.Schema line why) = schema_of text ≡ Err (unread.Bad line why)
IsUnread text ending.NoMemory = Unit {0}
IsUnread text _ = ⊥

-- why an equation isn't read
abbrev pub IsUnreadEquation : List ℕ → Ending → Type 0
IsUnreadEquation text (ending.Equation line why) = equation_of text ≡ Err (unread.Bad line why)
IsUnreadEquation text ending.NoMemory = Unit {0}
IsUnreadEquation text _ = ⊥

-- why definitions aren't typed
abbrev pub IsUntyped : Schema → List DefinitionTree → List ℕ → Ending → Type 0
IsUntyped schema ds lines (ending.Type line why) = typing_of schema ds lines ≡ Err (line, why)
IsUntyped schema ds lines ending.NoMemory = Unit {0}
IsUntyped schema ds lines _ = ⊥

-- what the checker found of a schema and an equation
pub record IsChecked (c : Checked) : Type 0 where
  pub rules : IsSchema c.schema
  pub well_formed : IsWellFormed c.schema
  pub written : AreWritten (definitions_of c.equation.definitions)
  pub typed : IsTyped c.schema (definitions_of c.equation.definitions)
  pub leaves_are : c.typing ≡ typing_with (leaves c.schema (definitions_of c.equation.definitions))
  pub few : length c.typing.specs ≤ MAX_LEAVES
  pub short : text_length c.schema (definitions_of c.equation.definitions) ≤ text_limit

-- the checker accepts these two texts
abbrev pub AreChecked : List ℕ → List ℕ → Checked → Type 0
AreChecked schema_text equation_text c =
    AreAccepted schema_text equation_text c.schema (definitions_of c.equation.definitions) c.typing

-- the same of the texts of a request
abbrev pub IsAcceptedAs : List (List ℕ) → Texts → Action → Checked → Type 0
IsAcceptedAs words texts a c =
    IsAccepted words texts a c.schema (definitions_of c.equation.definitions) c.typing

-- the nodes that a script is played over, and their schema
abbrev pub IsBuiltFor : Checked → Schema × Built → Type 0
IsBuiltFor c x = (x.0 ≡ c.schema) × IsBuiltOf c.schema (definitions_of c.equation.definitions) x.1

-- a script can be played on the schema as it is built
abbrev pub CanPlay : Schema × Built → Type 0
CanPlay x = AreFor x.0 x.1 (length x.1.specs) × IsWellFormed x.0

-- the words ask for this of texts that mean the schema, and these are the nodes of the equation
pub record IsPrepared (words : List (List ℕ)) (texts : Texts) (a : Action)
    (x : Schema × Built) : Type 0 where
  pub definitions : List DefinitionTree
  pub typing : Typing
  pub accepted : IsAccepted words texts a x.0 definitions typing
  pub trees : IsBuiltOf x.0 definitions x.1

-- ---- on a device

-- what is stored is of the accepted texts: the schema, its nodes, and the canonical texts
pub record IsStoredOf (c : Checked) (x : Stored) : Type 0 where
  pub schema_is : x.schema ≡ c.schema
  pub specs_are : x.built.specs ≡ c.typing.specs
  pub owners_are : x.built.owners ≡ c.typing.owners
  pub trees : IsBuiltOf c.schema (definitions_of c.equation.definitions) x.built
  pub schema_text_is : x.schema_text ≡ schema_text c.schema
  pub equation_text_is : x.equation_text ≡ equation_text (definitions_of c.equation.definitions)

-- the same of a request that is accepted
pub record IsStoredFor (words : List (List ℕ)) (texts : Texts) (a : Action)
    (x : Stored) : Type 0 where
  pub definitions : List DefinitionTree
  pub typing : Typing
  pub accepted : IsAccepted words texts a x.schema definitions typing
  pub specs_are : x.built.specs ≡ typing.specs
  pub owners_are : x.built.owners ≡ typing.owners
  pub trees : IsBuiltOf x.schema definitions x.built
  pub schema_text_is : x.schema_text ≡ schema_text x.schema
  pub equation_text_is : x.equation_text ≡ equation_text definitions

-- a script can be played on it, its texts fit a device, it has a leaf, and there are files of the
-- kind of each of its leaves
pub record IsStored (x : Stored) : Type 0 where
  pub can_play : CanPlay (x.schema, x.built)
  pub short : length x.schema_text + length x.equation_text ≤ text_limit
  pub some : 0 < length x.built.specs
  pub kinds : are_built x.built.specs ≡ true
