-- What an edit does to the leaves: a command that changes records or links.
use Rattle.std.specs.Prelude.{◌≡◌, ℕ, ◌+◌, List, Bool, true, false, Option, Some, None, Result, IfOk, IsErrOf, codes}
use Rattle.gx_values.specs.declared.values.Value.{Value}
use Rattle.gx_schema.specs.declared.schema.Schema.{Schema}
use Rattle.gx_commands.specs.declared.command.Command.{Command}
use Rattle.gx_commands.specs.declared.command.Command.TheVariants as command
use Rattle.gx_ports.specs.declared.stop.Stop.{Stop}
use Rattle.gx_ports.specs.declared.stop.Stop.TheVariants as stop
use Rattle.gx_ports.specs.declared.view.View.{Ghosts}
use Rattle.gx_ports.specs.LeafMaps.{LeafMap, entry_count, IsCrowdedBy}
use Rattle.gx_ports.specs.Calls.{Keeps, Ends}
use Rattle.gx_types.specs.declared.built.Built.{Built}
use Rattle.gx_model.specs.States.{State}
use Rattle.gx_model.specs.Commands.{next_state, refusal_text, is_linked, refusal_of}
pub use Rattle.gx_pairs.specs.declared.refused.Refused.{Refused}
pub use Rattle.gx_pairs.specs.Changes.{refusal_for}
use Rattle.std.specs.Option.{option_map}
use Rattle.gx_states.specs.Internal.{AreInternal, HaveState, state_entries}

-- whether the command changes records or links
abbrev pub is_edit : Command → Bool
is_edit (command.Insert file values) = true
is_edit (command.Update file key changes) = true
is_edit (command.Delete file key) = true
is_edit (command.Connect link owner member) = true
is_edit (command.Disconnect link member) = true
is_edit _ = false

-- whether the command may bring entries: each edit but a delete
abbrev pub may_bring : Command → Bool
may_bring (command.Delete file key) = false
may_bring c = is_edit c

-- what is said of an edit
abbrev pub edit_text : Option Refused → List ℕ
edit_text None = codes "ok\n"
edit_text (Some why) = refusal_text (refusal_for why)

-- an edit was carried out on a state that the leaves stand for, or refused
pub record IsEdit (schema : Schema) (built : Built) (c : Command) (s : State) (new : List LeafMap)
    (why : Option Refused) : Type 0 where
  pub why_is : option_map refusal_for why ≡ refusal_of schema s c
  pub stands : AreInternal schema built new (next_state schema s c)

-- what is known of the states that an edit is carried out on
pub record EditsEach {S : Type 0} (g : Ghosts S) (schema : Schema) (built : Built) (c : Command)
    (Known : State → Type 0) (old new : S) (result : Result (Option Refused) Stop) : Type 0 where
  -- it was carried out or refused
  pub edit : (s : State) → Known s → g.whole old → AreInternal schema built (g.working old) s
      → IfOk result (IsEdit schema built c s (g.working new))
  -- the pages may not be enough for the entries that there are and those of the state after it
  pub full : (s : State) → Known s → g.whole old → AreInternal schema built (g.working old) s
      → IsErrOf result stop.Full
      → IsCrowdedBy (g.limit old) (entry_count (g.working old)
      + state_entries built (next_state schema s c))
  -- they are enough for a delete
  pub bringing : IsErrOf result stop.Full → may_bring c ≡ true
  -- they are enough for an edit that is refused
  pub accepted : (s : State) → Known s → g.whole old → AreInternal schema built (g.working old) s
      → IsErrOf result stop.Full → refusal_of schema s c ≡ None
  pub keeps : Keeps g old new
  pub ends : Ends g (g.whole old × HaveState schema built (g.working old)) old new result
  pub block : (n : ℕ) → IsErrOf result (stop.Damaged n) → g.whole old → n ≡ 0

-- an edit on any state
abbrev pub Edits : {S : Type 0} → Ghosts S → Schema → Built → Command → S → S
    → Result (Option Refused) Stop → Type 0
Edits g schema built c old new result = EditsEach g schema built c (λ s. Unit {0}) old new result

-- on one in which the record is no end of a pair
abbrev pub EditsUnlinked : {S : Type 0} → Ghosts S → Schema → Built → Command → ℕ → (key : Value)
    → S → S → Result (Option Refused) Stop → Type 0
EditsUnlinked g schema built c file key old new result =
    EditsEach g schema built c (λ s. is_linked schema.links s.links file key ≡ false) old new result
