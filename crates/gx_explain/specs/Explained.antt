-- What `explain` says: the plan of each `find` of a script and the direction of each path, by the
-- fields that are indexed in the terms of its files.
use Rattle.std.specs.Prelude.{◌≡◌, ◌⊎◌, ℕ, ◌+◌, List, [], ◌∷◌, ◌++◌, length, map, Bool, false, Option, Some, None, Result, Ok, Err, nat_lt, if◌then◌else◌, codes}
use Rattle.std.specs.Fmt.{decimal}
use Rattle.gx_device.specs.Content.{Content}
use Rattle.gx_schema.specs.declared.schema.Schema.{Schema}
use Rattle.gx_schema.specs.Lookups.{file_at}
use Rattle.gx_commands.specs.declared.command.Command.{Command}
use Rattle.gx_commands.specs.declared.command.Command.TheVariants as command
use Rattle.gx_commands.specs.declared.command.LineWhy.{LineWhy}
use Rattle.gx_commands.specs.declared.path.PathQuery.{PathQuery}
use Rattle.gx_commands.specs.Lines.{Lines, script_lines}
use Rattle.gx_equation.specs.Trees.{DefinitionTree}
use Rattle.gx_explain.specs.Indexed.{file_indexed}
use Rattle.gx_planner.specs.Plans.{least_plan}
use Rattle.gx_planner.specs.Texts.{plan_text}
use Rattle.gx_model.specs.Play.{End, good, stopped, end_text}
use Rattle.gx_model.specs.Languages.{AreFirstLines}
use Rattle.gx_model.specs.Paths.{last_find}
use Rattle.gx_walks.specs.declared.directions.Direction.{Direction}
use Rattle.gx_walks.specs.declared.directions.Direction.TheVariants.{Forward, Backward}
use Rattle.gx_walks.specs.Directions.{find_rank}
use Rattle.gx_play.specs.declared.lines.Asked.{Asked}
use Rattle.gx_play.specs.declared.lines.Asked.TheVariants as asked
use Rattle.gx_play.specs.Asked.{IsAsked, IsBadLine, inside_behind}
use Rattle.gx_play.specs.declared.status.Status.{Status}
use Rattle.gx_play.specs.declared.status.Status.TheVariants as status
use Rattle.gx_play.specs.Endings.{memory_line}
use Rattle.gx_play.specs.Played.{SaysText, SaysFront}

-- for each field of the file of this number whether it is indexed in the file's term
abbrev pub indexed_fields : Schema → List DefinitionTree → ℕ → List Bool
indexed_fields schema ds file =
    map (λ f. file_indexed schema.files ds file f.name) (file_at schema file).fields

-- ---- of the lines of a script, where `indexed` tells of each file which fields are indexed

-- what is said of the command of the line of this number: the plan of a `find`
abbrev pub command_text : Schema → (ℕ → List Bool) → ℕ → Command → List ℕ
command_text schema indexed number (command.Find q) =
    plan_text schema number q (least_plan q (indexed q.file))
command_text schema indexed number other = []

-- from which end a path is walked, where these fields of its first and of its last file are
-- indexed: from the last one where the plan of a `find` there has a lesser rank
abbrev pub direction_of : PathQuery → List Bool → List Bool → Direction
direction_of q first last =
    if nat_lt (find_rank (last_find q.first q.legs) last) (find_rank q.first first) then Backward
    else Forward

abbrev pub direction_word : Direction → List ℕ
direction_word Forward = codes "forward"
direction_word Backward = codes "backward"

-- what is said of a path in the line of this number, which is walked so
abbrev pub direction_line : ℕ → Direction → List ℕ
direction_line number direction =
    codes "line " ++ decimal number ++ codes ": path " ++ direction_word direction ++ codes "\n"

-- what is said of the path of the line of this number
abbrev pub path_line : (ℕ → List Bool) → ℕ → PathQuery → List ℕ
path_line indexed number q =
    direction_line number
    (direction_of q (indexed q.first.file) (indexed (last_find q.first q.legs).file))

-- what is said of what the line of this number asks for
abbrev pub asked_text : Schema → (ℕ → List Bool) → ℕ → Asked → List ℕ
asked_text schema indexed number (asked.Command c) = command_text schema indexed number c
asked_text schema indexed number (asked.Path q) = path_line indexed number q

-- Good lines that may stand where they do, the first of which has this number: what is said of all
-- of them, and whether a transaction is open behind them. None of them is carried out.
abbrev pub AreExplained : Schema → (ℕ → List Bool) → ℕ → Bool → List (List ℕ) → List ℕ → Bool
    → Type 0
AreExplained schema indexed number inside [] text final = (text ≡ []) × (final ≡ inside)
AreExplained schema indexed number inside (line ∷ lines) text final =
    (a : Asked) × (more : List ℕ) × IsAsked schema inside line a
    × AreExplained schema indexed (number + 1) (inside_behind inside a) lines more final
    × (text ≡ asked_text schema indexed number a ++ more)

-- where it ends behind the line of this number: at the next one, which is bad or can't be had; or
-- with the script, also where a transaction is open
abbrev pub IsExplainEnd : Schema → Bool → ℕ → Result (Option (List ℕ)) LineWhy → End → Type 0
IsExplainEnd schema inside last (Ok (Some line)) end =
    (why : LineWhy) × IsBadLine schema inside line why × (end ≡ stopped (last + 1) why)
IsExplainEnd schema inside last (Ok None) end = end ≡ good
IsExplainEnd schema inside last (Err why) end = end ≡ stopped (last + 1) why

-- what is said of all lines up to this end
pub record IsExplainedTo (schema : Schema) (indexed : ℕ → List Bool) (all : Lines) (end : End)
    (text : List ℕ) : Type 0 where
  pub ran : List (List ℕ)
  pub next : Result (Option (List ℕ)) LineWhy
  pub first : AreFirstLines all ran next
  pub inside : Bool
  pub explained : AreExplained schema indexed 1 false ran text inside
  pub ends : IsExplainEnd schema inside (length ran) next end

-- what is said of some first lines
pub record AreFirstExplained (schema : Schema) (indexed : ℕ → List Bool) (all : Lines)
    (text : List ℕ) : Type 0 where
  pub ran : List (List ℕ)
  pub later : List (List ℕ)
  pub parts : all.lines ≡ ran ++ later
  pub inside : Bool
  pub explained : AreExplained schema indexed 1 false ran text inside

-- ---- of a script

-- what is said of its lines up to this end, and then the line of the end
pub record IsExplainText (schema : Schema) (indexed : ℕ → List Bool) (script : List ℕ) (end : End)
    (text : List ℕ) : Type 0 where
  pub plans : List ℕ
  pub explained : IsExplainedTo schema indexed (script_lines script) end plans
  pub text_is : text ≡ plans ++ end_text end

-- the same, where it ends at a line
abbrev pub IsStoppedExplanation : Schema → (ℕ → List Bool) → List ℕ → List ℕ → Type 0
IsStoppedExplanation schema indexed script text =
    (number : ℕ) × (why : LineWhy) × IsExplainText schema indexed script (stopped number why) text

-- what is said of its first lines, and then the line that there was no memory
pub record IsMemoryExplanation (schema : Schema) (indexed : ℕ → List Bool) (script : List ℕ)
    (text : List ℕ) : Type 0 where
  pub plans : List ℕ
  pub explained : AreFirstExplained schema indexed (script_lines script) plans
  pub text_is : text ≡ plans ++ memory_line

-- one of these
abbrev pub IsSomeText : Schema → (ℕ → List Bool) → List ℕ → List ℕ → Type 0
IsSomeText schema indexed script text =
    ((end : End) × IsExplainText schema indexed script end text)
    ⊎ IsMemoryExplanation schema indexed script text

-- what was said of the script, by the status
abbrev pub IsScriptExplained : Schema → (ℕ → List Bool) → Content → Content → Status → Type 0
IsScriptExplained schema indexed old new status.Done =
    SaysText (IsExplainText schema indexed old.script good) old new
IsScriptExplained schema indexed old new status.Script =
    SaysText (IsStoppedExplanation schema indexed old.script) old new
IsScriptExplained schema indexed old new status.Memory =
    SaysText (IsMemoryExplanation schema indexed old.script) old new
IsScriptExplained schema indexed old new status.Outside =
    SaysFront (IsSomeText schema indexed old.script) old new
IsScriptExplained schema indexed old new other = ⊥
