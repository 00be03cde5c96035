-- The play of the workload's script.
use Rattle.std.specs.Prelude.{◌≡◌, ℕ, ◌+◌, ◌/◌, List}
use Rattle.std.specs.List.{AllZip}
use Rattle.gx_script.specs.Grammar.{IsLineOf}
use Rattle.gx_commands.specs.Lines.{script_lines}
use Rattle.gx_model.specs.States.{State}
use Rattle.gx_model.specs.Play.{Playing, good, start_at}
use Rattle.gx_model.specs.Runs.{IsPlayFrom}
use Rattle.gx_work.specs.Schema.{work_schema}
use Rattle.gx_work.specs.Workload.{work_commands, work_script}

-- From this state the script plays to its end, with a commit for the departments, one for each
-- group of employees, and one for the raises.
pub record PlaysToEnd (n : ℕ) (start : State) : Type 0 where
  pub answers : List ℕ
  pub final : Playing
  pub play : IsPlayFrom work_schema (start_at start)
      (script_lines (work_script n)) answers final good
  pub commits : final.commits ≡ (n + 19) / 20 + 2

-- its lines mean the commands of the workload, one after another
abbrev pub MeansCommands : ℕ → Type 0
MeansCommands n =
    AllZip (IsLineOf work_schema) (script_lines (work_script n)).lines (work_commands n)
