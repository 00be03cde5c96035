-- Lines that end a play.
use Rattle.std.proofs.Common.{◌≡◌, ◌≤◌, length, arith, ℕ, List, Bool, Result, Ok, Err, Some, sym, ap, inr, ◌∙◌}
use Rattle.gx_schema.specs.declared.schema.Schema.{Schema}
use Rattle.gx_commands.specs.declared.command.Command.{Command}
use Rattle.gx_commands.specs.declared.command.LineWhy.{LineWhy}
use Rattle.gx_commands.specs.Commands.{place_reason}
use Rattle.gx_script.specs.Grammar.{IsLineOf}
use Rattle.gx_commands.specs.declared.path.PathQuery.{PathQuery}
use Rattle.gx_commands.specs.Lines.{longest_line}
use Rattle.gx_commands.specs.Paths.{IsPathOf}
use Rattle.gx_paths.specs.Few.{HasAtMost}
use Rattle.gx_walks.specs.Directions.{IsDuePath}
use Rattle.gx_walks.proofs.DueLemmas.{due_path}
use Rattle.gx_model.specs.Runs.{IsBadLine}
use Rattle.gx_play.specs.declared.carry.LineEnd.{LineEnd}
use Rattle.gx_play.specs.declared.carry.LineEnd.TheVariants as line_end

abbrev bad_of : {T : Type 0} → LineWhy → Result T LineEnd → LineWhy
bad_of d (Err (line_end.Bad w)) = w
bad_of d (Err (line_end.Stop s)) = d
bad_of d (Ok c) = d

-- a line that means a command which may not stand there
pub bad_line : (schema : Schema) (inside : Bool) (line : List ℕ) (command : Command)
    (given why : LineWhy) → IsLineOf schema line command → Some given ≡ place_reason inside command
    → ◌≡◌ {A = Result Command LineEnd} (Err (line_end.Bad given)) (Err (line_end.Bad why))
    → IsBadLine schema inside line why
bad_line schema inside line command given why means placed e =
    inr (command, means, sym placed ∙ ap Some (ap (bad_of given) e))

-- a path of a line that isn't too long
pub due_short : (schema : Schema) (q : PathQuery) (line : List ℕ) → IsPathOf schema q
    → HasAtMost (length line) q → length line ≤ longest_line → IsDuePath schema q
unfolding longest_line
due_short schema q line of_schema few short =
    due_path schema q (length line) of_schema few (omega (arith, short))
