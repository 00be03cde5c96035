-- How many pages the commands of a play need.
use Rattle.std.specs.Prelude.{◌≡◌, ℕ, ◌+◌, ◌*◌, ◌≤◌, List, ◌∷◌, None}
use Rattle.gx_ports.specs.LeafMaps.{Limits}
use Rattle.gx_schema.specs.declared.schema.Schema.{Schema}
use Rattle.gx_commands.specs.declared.command.Command.{Command}
use Rattle.gx_commands.specs.Commands.{place_reason}
use Rattle.gx_script.specs.Grammar.{IsLineOf}
use Rattle.gx_equation.specs.Trees.{DefinitionTree}
use Rattle.gx_model.specs.States.{State}
use Rattle.gx_model.specs.Play.{seen_state, is_inside, after_command}
use Rattle.gx_states.specs.Terms.{state_size}
use Rattle.gx_play.specs.Played.{MayWantRoom}
use Rattle.gx_play.specs.Played.{AreFirst}

-- the pages that are enough for a command between these two states
abbrev pub need : Limits → Schema → List DefinitionTree → State → State → ℕ
need l schema ds before behind =
    l.fixed + 2 * (state_size schema ds before + state_size schema ds behind) + 2

-- at each command of the script's play from a state on that may want room they are enough
abbrev pub AreEnough : Schema → List DefinitionTree → Limits → State → List ℕ → Type 0
AreEnough schema ds l start script =
    (answers : List ℕ) (first : AreFirst schema start script answers) (line : List ℕ)
    (later : List (List ℕ)) (command : Command)
    → first.later ≡ line ∷ later → IsLineOf schema line command
    → place_reason (is_inside first.final) command ≡ None
    → MayWantRoom schema first.final command
    → need l schema ds (seen_state first.final)
    (seen_state (after_command schema first.final command)) ≤ l.pages
