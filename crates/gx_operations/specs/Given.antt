-- What the requests share: what accepted texts mean, and what a device holds of them.
use Rattle.std.specs.Prelude.{◌≡◌, ℕ, List, length, None}
use Rattle.gx_device.specs.Content.{Content, device_at}
use Rattle.gx_ports.specs.declared.kinds.LeafSpec.{LeafSpec}
use Rattle.gx_ports.specs.LeafMaps.{LeafMap, Limits}
use Rattle.gx_schema.specs.declared.schema.Schema.{Schema}
use Rattle.gx_schema.specs.Printing.{schema_text}
use Rattle.gx_equation.specs.Trees.{DefinitionTree}
use Rattle.gx_equation.specs.Printing.{equation_text}
use Rattle.gx_typing.specs.declared.typing.Typing.{Typing}
use Rattle.gx_states.specs.Built.{IsBuiltOf}
use Rattle.gx_model.specs.States.{State}
use Rattle.gx_states.specs.Terms.{IsInternalForm}
use Rattle.gx_store.specs.Device.{Reopens, IsSettled}
use Rattle.gx_store.specs.Opening.{AreOpened}
use Rattle.gx_store.specs.Store.{OfBlocks}
use Rattle.gx_requests.specs.declared.opened.Stored.{Stored}
use Rattle.gx_operations.specs.Settled.{limits_on}

-- the schema, the definitions and their leaves
pub record Given : Type 0 where
  pub schema : Schema
  pub definitions : List DefinitionTree
  pub typing : Typing

-- a statement on the canonical texts and the leaves, as those on devices are
abbrev pub under : {T : Type 1} → Given → (List ℕ → List ℕ → List LeafSpec → T) → T
under g P = P (schema_text g.schema) (equation_text g.definitions) g.typing.specs

-- the maps are the internal form of the state
abbrev pub IsInternalOf : Given → List LeafMap → State → Type 0
IsInternalOf g = IsInternalForm g.schema g.definitions

-- the blocks reopen to the state
pub record HoldState (g : Given) (s : State) (blocks : List (List ℕ)) : Type 0 where
  pub maps : List LeafMap
  pub reopens : under g Reopens maps blocks
  pub internal : IsInternalOf g maps s

-- they are settled with it
pub record SettleState (g : Given) (s : State) (blocks : List (List ℕ)) : Type 0 where
  pub maps : List LeafMap
  pub settled : under g IsSettled maps blocks
  pub internal : IsInternalOf g maps s

-- the device of that name reopens to the state, or is settled with it
abbrev pub IsHeldOn : Given → List ℕ → State → Content → Type 0
IsHeldOn g device s c = OfBlocks device c (HoldState g s)

abbrev pub IsSettledOn : Given → List ℕ → State → Content → Type 0
IsSettledOn g device s c = OfBlocks device c (SettleState g s)

-- the device has the size, the magic and the texts, and holds no state
pub record IsStateless (g : Given) (device : List ℕ) (c : Content) : Type 0 where
  pub opened : OfBlocks device c (under g AreOpened)
  pub none : (s : State) → ¬ IsHeldOn g device s c

-- it may take so many pages
abbrev pub limit_of : Given → List (List ℕ) → Limits
limit_of g blocks = limits_on g.typing.specs (length blocks)

-- what is stored is of it
pub record IsStoredAs (g : Given) (x : Stored) : Type 0 where
  pub schema : x.schema ≡ g.schema
  pub specs : x.built.specs ≡ g.typing.specs
  pub owners : x.built.owners ≡ g.typing.owners
  pub trees : IsBuiltOf g.schema g.definitions x.built
  pub schema_text : x.schema_text ≡ schema_text g.schema
  pub equation_text : x.equation_text ≡ equation_text g.definitions

-- The texts of a machine are as they were, and so is each device but those of such names.
pub record KeepsBut (Names : List ℕ → Type 0) (old new : Content) : Type 0 where
  pub aside : new.aside ≡ old.aside
  pub others : (other : List ℕ) → ¬ Names other
      → device_at new.now other ≡ device_at old.now other

-- the texts are, and all devices; and all but the one of that name
abbrev pub KeepsAll : Content → Content → Type 0
KeepsAll = KeepsBut (λ other. ⊥)

abbrev pub KeepsOthers : List ℕ → Content → Content → Type 0
KeepsOthers device = KeepsBut (λ other. other ≡ device)

-- that of the name is
abbrev pub KeepsNamed : List ℕ → Content → Content → Type 0
KeepsNamed device old new = device_at new.now device ≡ device_at old.now device

-- none of the name is made
abbrev pub KeepsAbsent : List ℕ → Content → Content → Type 0
KeepsAbsent device old new = device_at old.now device ≡ None → device_at new.now device ≡ None
