-- What was read of a line.
use Rattle.std.proofs.Common.{ℕ, List, Result, Ok, Err, sym, ap, ◌∙◌, inr}
use Rattle.std.specs.Prelude.{IsTrue, IfOk}
use Rattle.std.specs.List.{list_all}
use Rattle.gx_schema.specs.declared.schema.Schema.{Schema}
use Rattle.gx_schema.specs.WellFormed.{IsWellFormed}
use Rattle.gx_commands.specs.declared.command.NoCommand.{NoCommand}
use Rattle.gx_commands.specs.declared.command.NoCommand.TheVariants as no_command
use Rattle.gx_commands.specs.declared.path.PathQuery.{PathQuery}
use Rattle.gx_commands.specs.Words.{is_character}
use Rattle.gx_commands.specs.Cutting.{words_in}
use Rattle.gx_commands.specs.Paths.{IsPathOf}
use Rattle.gx_commands.proofs.CuttingLaws.{HasWords, words_of_line}
use Rattle.gx_script.specs.Reading.{Gives, AnswersUnlessNoMemory}
use Rattle.gx_script.specs.Paths.{path_reading, IsPathLine, IsPathReading}
use Rattle.gx_script.proofs.PathLaws.{path_line_found}

pub words_read : (schema : Schema) (line : List ℕ) (r : Result PathQuery NoCommand)
    → IsTrue (list_all is_character line) → HasWords line
    → Gives (λ q. q) r (path_reading schema (words_in line))
    → AnswersUnlessNoMemory r (IsPathReading schema line)
words_read schema line (Ok q) characters words e =
    inr (inr (
      characters,
      (words.0, words.1, sym e ∙ ap (path_reading schema) (words_of_line line words.0 words.1)),
    ))
words_read schema line (Err (no_command.Bad reason)) characters words e =
    inr (inr (
      characters,
      (words.0, words.1, sym e ∙ ap (path_reading schema) (words_of_line line words.0 words.1)),
    ))
words_read schema line (Err no_command.NoMemory) characters words e = tt

pub is_found : (schema : Schema) (line : List ℕ) (r : Result PathQuery NoCommand)
    → IsWellFormed schema → AnswersUnlessNoMemory r (IsPathReading schema line)
    → IfOk r (λ q. IsPathLine schema line q)
is_found schema line (Ok q) whole h = path_line_found schema line q whole h
is_found schema line (Err e) whole h = tt

pub is_of_schema : (schema : Schema) (line : List ℕ) (r : Result PathQuery NoCommand)
    → IfOk r (λ q. IsPathLine schema line q) → IfOk r (λ q. IsPathOf schema q)
is_of_schema schema line (Ok q) h = let words = h.1 in let means = words.2 in means.rules
is_of_schema schema line (Err e) h = tt
