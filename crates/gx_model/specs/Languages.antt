-- Languages of lines, and the play of a script in one, from any start.
use Rattle.std.specs.Prelude.{◌≡◌, ℕ, ◌+◌, List, [], ◌∷◌, ◌++◌, length, Bool, Option, None, Some, Result, Ok, Err}
use Rattle.gx_commands.specs.declared.command.LineWhy.{LineWhy}
use Rattle.gx_commands.specs.Lines.{Lines, script_lines}
use Rattle.gx_model.specs.Play.{End, stopped, end_at, end_text}

-- M is where a play stands, and A what answers are lists of.
pub record Language (M A : Type 0) : Type 1 where
  -- a good line there, its answer, and where the play stands behind it
  pub Goes : M → List ℕ → List A → M → Type 0
  -- a bad line there, and why
  pub IsBad : M → List ℕ → LineWhy → Type 0
  -- whether a transaction is open there
  pub is_open : M → Bool

-- good lines one after another: all their answers, and where the play stands behind the last
abbrev pub RunsIn : {M A : Type 0} → Language M A → M → List (List ℕ) → List A → M → Type 0
RunsIn l m [] answers final = (answers ≡ []) × (final ≡ m)
RunsIn {M = M} {A = A} l m (line ∷ lines) answers final =
    (answer : List A) × (more : List A) × (next : M)
    × l.Goes m line answer next × RunsIn l next lines more final × (answers ≡ answer ++ more)

-- how a play ends where `ran` lines ran: at the next, which is bad; with the last of them, where
-- there is none; or at one that can't be had
abbrev pub IsEndIn : {M A : Type 0} → Language M A → M → ℕ → Result (Option (List ℕ)) LineWhy → End
    → Type 0
IsEndIn l m ran (Ok (Some line)) end =
    (why : LineWhy) × l.IsBad m line why × (end ≡ stopped (ran + 1) why)
IsEndIn l m ran (Ok None) end = end ≡ end_at ran (l.is_open m)
IsEndIn l m ran (Err why) end = end ≡ stopped (ran + 1) why

-- the first lines of all, and the next: a line, none, or one that can't be had
abbrev pub AreFirstLines : Lines → List (List ℕ) → Result (Option (List ℕ)) LineWhy → Type 0
AreFirstLines all first (Ok (Some line)) =
    (later : List (List ℕ)) × (all.lines ≡ first ++ line ∷ later)
AreFirstLines all first (Ok None) = (all.lines ≡ first) × (all.stop ≡ None)
AreFirstLines all first (Err why) = (all.lines ≡ first) × (all.stop ≡ Some why)

-- the play of lines from a start: the first of them run, up to a next one that doesn't
pub record IsPlayIn {M A : Type 0} (l : Language M A) (start : M) (all : Lines) (answers : List A)
    (final : M) (end : End) : Type 0 where
  pub ran : List (List ℕ)
  pub next : Result (Option (List ℕ)) LineWhy
  pub first : AreFirstLines all ran next
  pub runs : RunsIn l start ran answers final
  pub ends : IsEndIn l final (length ran) next end

-- the whole text of a script's play from a start: the answers, and what is said of its end
pub record IsPlayTextIn {M : Type 0} (l : Language M ℕ) (start : M)
    (script text : List ℕ) : Type 0 where
  pub answers : List ℕ
  pub final : M
  pub end : End
  pub played : IsPlayIn l start (script_lines script) answers final end
  pub is : text ≡ answers ++ end_text end

-- the answers of some first lines of a script from a start, and no more
pub record AreFirstAnswersIn {M : Type 0} (l : Language M ℕ) (start : M)
    (script text : List ℕ) : Type 0 where
  pub ran : List (List ℕ)
  pub later : List (List ℕ)
  pub parts : (script_lines script).lines ≡ ran ++ later
  pub final : M
  pub runs : RunsIn l start ran text final
