-- Where a script ends by its lines alone, whatever state it is played from.
use Rattle.std.specs.Prelude.{◌≡◌, ℕ, ◌+◌, List, [], ◌∷◌, length, Bool, false, Option, Some, None, Result, Ok, Err}
use Rattle.gx_schema.specs.declared.schema.Schema.{Schema}
use Rattle.gx_commands.specs.declared.command.LineWhy.{LineWhy}
use Rattle.gx_commands.specs.Lines.{Lines, script_lines}
use Rattle.gx_model.specs.Play.{End, stopped, end_at}
use Rattle.gx_model.specs.Languages.{AreFirstLines}
use Rattle.gx_play.specs.declared.lines.Asked.{Asked}
use Rattle.gx_play.specs.Asked.{IsAsked, IsBadLine, inside_behind}

-- good lines that may stand where they do, and whether a transaction is open behind them
abbrev pub AreGood : Schema → Bool → List (List ℕ) → Bool → Type 0
AreGood schema inside [] final = final ≡ inside
AreGood schema inside (line ∷ lines) final =
    (a : Asked) × IsAsked schema inside line a × AreGood schema (inside_behind inside a) lines final

-- where the next line isn't one of them, or there is none
abbrev pub IsEndAt : Schema → Bool → ℕ → Result (Option (List ℕ)) LineWhy → End → Type 0
IsEndAt schema inside ran (Ok (Some line)) end =
    (why : LineWhy) × IsBadLine schema inside line why × (end ≡ stopped (ran + 1) why)
IsEndAt schema inside ran (Ok None) end = end ≡ end_at ran inside
IsEndAt schema inside ran (Err why) end = end ≡ stopped (ran + 1) why

-- the end of these lines: behind good ones
pub record IsLinesEnd (schema : Schema) (begun : Bool) (all : Lines) (end : End) : Type 0 where
  pub ran : List (List ℕ)
  pub next : Result (Option (List ℕ)) LineWhy
  pub first : AreFirstLines all ran next
  pub inside : Bool
  pub good : AreGood schema begun ran inside
  pub ends : IsEndAt schema inside (length ran) next end

-- of a script: at its first bad line, or at its last one where all are good and a transaction is
-- open behind them; else it is good
abbrev pub IsScriptEnd : Schema → List ℕ → End → Type 0
IsScriptEnd schema script = IsLinesEnd schema false (script_lines script)
