-- The states that a script is played on: transactions over the abstract database; and how a play
-- ends.
use Rattle.std.specs.Prelude.{◌≡◌, ℕ, ◌+◌, ◌-◌, ◌^◌, min, List, [], ◌∷◌, ◌++◌, Bool, true, false, Option, Some, None, is_some, unwrap_or, codes}
use Rattle.std.specs.Fmt.{decimal}
use Rattle.gx_schema.specs.declared.schema.Schema.{Schema}
use Rattle.gx_commands.specs.declared.command.Command.{Command}
use Rattle.gx_commands.specs.declared.command.Command.TheVariants as command
use Rattle.gx_commands.specs.declared.command.LineWhy.{LineWhy}
use Rattle.gx_commands.specs.declared.command.LineWhy.TheVariants as why
use Rattle.gx_commands.specs.LineWhys.{word_of}
use Rattle.gx_model.specs.States.{State}
use Rattle.gx_model.specs.Commands.{next_state, IsAnswer}

-- the last kept state and those before it, that of the open transaction, and how many commits there
-- were
pub record Playing : Type 0 where
  pub earlier : List State
  pub kept : State
  pub working : Option State
  pub commits : ℕ

-- a play begins with one kept state
abbrev pub start_at : State → Playing
start_at s = record { earlier = []; kept = s; working = None; commits = 0 }

-- the state that a command sees: that of the open transaction, or the last kept one
abbrev pub seen_state : Playing → State
seen_state p = unwrap_or p.working p.kept

abbrev pub is_inside : Playing → Bool
is_inside p = is_some p.working

-- the count of commits stays at its greatest value
abbrev pub next_count : ℕ → ℕ
next_count n = min (n + 1) (2 ^ 64 - 1)

-- an open transaction goes on with another state; where none is open, none is
abbrev pub working_after : Option State → State → Option State
working_after None s = None
working_after (Some old) s = Some s

abbrev pub with_working : Playing → State → Playing
with_working p s =
    record
    { earlier = p.earlier; kept = p.kept; working = working_after p.working s; commits = p.commits }

-- what comes after a command
abbrev pub after_command : Schema → Playing → Command → Playing
after_command schema p command.Begin =
    record { earlier = p.earlier; kept = p.kept; working = Some p.kept; commits = p.commits }
after_command schema p command.Commit =
    record {
      earlier = p.earlier ++ p.kept ∷ [];
      kept = seen_state p;
      working = None;
      commits = next_count p.commits;
    }
after_command schema p command.Abort =
    record { earlier = p.earlier; kept = p.kept; working = None; commits = p.commits }
after_command schema p c = with_working p (next_state schema (seen_state p) c)

-- the text is the answer of a command
abbrev pub IsAnswered : Schema → Playing → Command → List ℕ → Type 0
IsAnswered schema p command.Begin text = text ≡ codes "begun\n"
IsAnswered schema p command.Commit text =
    text ≡ codes "committed " ++ decimal (next_count p.commits) ++ codes "\n"
IsAnswered schema p command.Abort text = text ≡ codes "dropped\n"
IsAnswered schema p c text = IsAnswer schema (seen_state p) c text

-- ---- ends

-- how a play ends: with all of the script, or at a line
pub data End : Type 0 where
  good : End
  stopped : ℕ → LineWhy → End

-- the script's end inside a transaction is at its last line
abbrev pub end_at : ℕ → Bool → End
end_at last false = good
end_at last true = stopped last why.OpenTransaction

-- what is said of an end
abbrev pub end_text : End → List ℕ
end_text good = []
end_text (stopped number reason) =
    codes "stopped at line " ++ decimal number ++ codes ": " ++ word_of reason ++ codes "\n"
