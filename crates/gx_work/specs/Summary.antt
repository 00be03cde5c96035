-- What is said of a workload that was played.
use Rattle.std.specs.Prelude.{ℕ, List, ◌++◌, length, filter, is_some, if◌then◌else◌, codes}
use Rattle.std.specs.Fmt.{decimal}
use Rattle.std.specs.FinMap as fin
use Rattle.gx_schema.specs.declared.schema.Schema.{Schema}
use Rattle.gx_commands.specs.declared.command.Find.{Find}
use Rattle.gx_commands.specs.declared.command.Command.TheVariants as command
use Rattle.gx_model.specs.States.{State, file_in}
use Rattle.gx_model.specs.Found.{is_chosen}
use Rattle.gx_model.specs.Commands.{refusal_of}
use Rattle.gx_model.specs.Play.{Playing, seen_state}
use Rattle.gx_work.specs.Schema.{work_schema}
use Rattle.gx_work.specs.Tasks.{by_pay, by_link}

-- how many records a `find` gives in a state, and none where it is refused
abbrev pub found_count : Schema → State → Find → ℕ
found_count schema s q =
    if is_some (refusal_of schema s (command.Find q)) then 0
    else length (filter (is_chosen s q) (fin.entries (file_in s q.file)))

-- the line of so many records, of which the two finds gave so many, and of so many commits
abbrev pub work_line : ℕ → ℕ → ℕ → ℕ → List ℕ
work_line records by_pay by_link commits =
    codes "work: " ++ decimal records ++ codes " records, " ++ decimal by_pay ++ codes " by pay, "
    ++ decimal by_link ++ codes " by link, " ++ decimal commits ++ codes " commits\n"

-- the line of a workload, of the last moment of its play
abbrev pub work_text : ℕ → Playing → List ℕ
work_text n p =
    work_line n (found_count work_schema (seen_state p) by_pay)
    (found_count work_schema (seen_state p) by_link) p.commits
