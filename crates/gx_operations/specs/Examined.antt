-- What an examination of leaves found.
use Rattle.std.specs.Prelude.{◌≡◌, ℕ, List, Result, Ok, Err}
use Rattle.gx_ports.specs.LeafMaps.{LeafMap}
use Rattle.gx_schema.specs.declared.schema.Schema.{Schema}
use Rattle.gx_types.specs.declared.built.Built.{Built}
use Rattle.gx_model.specs.States.{State}
use Rattle.gx_states.specs.Internal.{AreInternal}
pub use Rattle.gx_audit.specs.Texts.{inspect_text}
use Rattle.gx_play.specs.declared.ending.DeviceWhy.TheVariants as device_why
use Rattle.gx_play.specs.declared.ending.Ending.{Ending}
use Rattle.gx_play.specs.declared.ending.Ending.TheVariants as ending

-- why no text is found: damage only where the leaves aren't whole or hold no state, or there was no
-- memory, or a call failed
abbrev pub IsUnfound : Schema → Built → List LeafMap → Type 0 → Ending → Type 0
IsUnfound schema built maps whole (ending.Device (device_why.Damaged block)) = whole → (s : State)
    → ¬ AreInternal schema built maps s
IsUnfound schema built maps whole ending.NoMemory = Unit {0}
IsUnfound schema built maps whole ending.Fault = Unit {0}
IsUnfound schema built maps whole other = ⊥

-- leaves with these maps are whole and hold a state, and this text tells of it
pub record IsFoundIn (schema : Schema) (built : Built) (maps : List LeafMap) (whole : Type 0)
    (text : List ℕ) : Type 0 where
  pub is_whole : whole
  pub state : State
  pub internal : AreInternal schema built maps state
  pub text_is : text ≡ inspect_text schema built.specs built.owners maps state

abbrev pub IsExamined : Schema → Built → List LeafMap → Type 0 → Result (List ℕ) Ending → Type 0
IsExamined schema built maps whole (Ok text) = IsFoundIn schema built maps whole text
IsExamined schema built maps whole (Err why) = IsUnfound schema built maps whole why
