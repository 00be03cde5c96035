-- What a command that reads records or links does: its answer, its steps, and how it ends.
use Rattle.std.specs.Prelude.{ℕ, List, length, Bool, true, false, Option, Some, None, is_some, Result, IfOk, OnOk}
use Rattle.gx_schema.specs.declared.schema.Schema.{Schema}
use Rattle.gx_commands.specs.declared.command.Command.{Command}
use Rattle.gx_commands.specs.declared.command.Command.TheVariants as command
use Rattle.gx_ports.specs.declared.stop.Stop.{Stop}
use Rattle.gx_ports.specs.declared.view.View.{Ghosts}
use Rattle.gx_ports.specs.Calls.{ReadsMaps}
use Rattle.gx_types.specs.declared.built.Built.{Built}
use Rattle.gx_planner.specs.declared.plans.Plan.{Plan}
use Rattle.gx_planner.specs.declared.plans.Plan.TheVariants.{Key}
use Rattle.gx_model.specs.States.{State}
use Rattle.gx_model.specs.Commands.{IsAnswer}
use Rattle.gx_states.specs.Internal.{AreInternal, HaveState}
use Rattle.gx_answers.specs.Work.{IsBounded}

-- the result is the text of the command's answer, also where that is a refusal
pub record Answers {S : Type 0} (g : Ghosts S) (schema : Schema) (built : Built) (c : Command)
    (old new : S)
    (result : Result (List ℕ) Stop) : Type 0 where
  pub answered : (s : State) → g.whole old → AreInternal schema built (g.working old) s
      → IfOk result (IsAnswer schema s c)
  pub few_steps : (s : State) → g.whole old → AreInternal schema built (g.working old) s
      → OnOk result (IsBounded schema built (length (g.working old)) s c (g.work old) (g.work new))
  pub reads : ReadsMaps g (g.whole old × HaveState schema built (g.working old)) old new result

-- whether the command follows a link to answer
abbrev pub follows_link : Command → Bool
follows_link (command.Members link owner order) = true
follows_link (command.Owner link member) = true
follows_link (command.Find q) = is_some q.of
follows_link _ = false

-- the number of the condition that gives the key
abbrev pub key_number : Plan → Option ℕ
key_number (Key number) = Some number
key_number _ = None
