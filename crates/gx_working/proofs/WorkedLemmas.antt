-- From the plays of parts of the workload's script to the play of all of it.
use Rattle.std.proofs.Common.{◌≡◌, ℕ, ◌≤◌, false, List, [], ◌++◌, length, map, Option, None, Ok, Err, refl, sym, ap, subst, ◌∙◌, append_assoc}
use Rattle.std.specs.Prelude.{◌≢◌}
use Rattle.std.specs.List.{AllByRecursion}
use Rattle.std.proofs.lemmas.List.{map-append}
use Rattle.gx_ports.specs.LeafMaps.{Limits}
use Rattle.gx_ports.specs.declared.stop.Stop.{Stop}
use Rattle.gx_ports.specs.declared.stop.Stop.TheVariants as stop
use Rattle.gx_ports.specs.declared.view.View.{Ghosts}
use Rattle.gx_schema.specs.declared.schema.Schema.{Schema}
use Rattle.gx_commands.specs.declared.command.LineWhy.{LineWhy}
use Rattle.gx_commands.specs.Lines.{Lines, script_lines}
use Rattle.gx_types.specs.declared.built.Built.{Built}
use Rattle.gx_model.specs.States.{State}
use Rattle.gx_model.specs.Play.{Playing, End, good, stopped, start_at, end_at, is_inside}
use Rattle.gx_play.specs.Asked.{Runs, IsPlayFrom}
use Rattle.gx_play.proofs.AskedLemmas.{run_on, play_once, command_runs}
use Rattle.gx_play.specs.Plays.{Engine}
use Rattle.gx_play.specs.Plays.{IsAt, schema_of, built_of, leaves_of}
use Rattle.gx_play.specs.declared.play.PlayEnd.{PlayEnd}
use Rattle.gx_play.specs.declared.play.PlayEnd.TheVariants as play_end
use Rattle.gx_play.specs.Endings.{ending_of}
use Rattle.gx_play.specs.Played.{IsShortAt}
use Rattle.gx_play.specs.Plays.{IsPlayedUp, IsPlayedPart, IsPlayedTo, KeepsState}
use Rattle.gx_work.specs.declared.task.Task.{Task}
use Rattle.gx_work.specs.Schema.{work_schema}
use Rattle.gx_work.specs.Workload.{lines_text, tasks, work_script}
use Rattle.gx_work.proofs.LineLemmas.{IsSmall, line_of}
use Rattle.gx_work.proofs.RunLemmas.{RunsTo}
use Rattle.gx_work.proofs.WorkLemmas.{task_lines, tasks_small, length_tasks}
use Rattle.gx_play.specs.declared.play.Answers.TheVariants as answers
use Rattle.gx_play.specs.Answering.{beside, with_answers}
use Rattle.gx_working.specs.Worked.{IsWorkedFirst, IsWorkedFull, IsWorkedAs}
use Rattle.gx_play.proofs.AnsweringLemmas.{at_alone}

-- these tasks ran from the start, and the engine stands behind them
pub record IsUpTo {S : Type 0} (g : Ghosts S) (start : State) (done : List Task) (commits : ℕ)
    (e : Engine S) : Type 0 where
  pub text : List ℕ
  pub final : Playing
  pub runs : Runs work_schema (start_at start) (map line_of done) text final
  pub at : IsAt g final e
  pub outside : is_inside final ≡ false
  pub commits_are : final.commits ≡ commits

abbrev pub up_to_start : {S : Type 0} (g : Ghosts S) (start : State) (e : Engine S)
    → IsAt g (start_at start) e → IsUpTo g start [] 0 e
up_to_start g start e at =
    record {
      text = [];
      final = start_at start;
      runs = (refl, refl);
      at = at;
      outside = refl;
      commits_are = refl;
    }

-- a text of few small tasks
pub record AreFew (ts : List Task) : Type 0 where
  pub small : AllByRecursion IsSmall ts
  pub few : length ts ≤ 25002

-- tasks that run, and end outside a transaction, have one play, which ends well
task_once : (p : Playing) (ts : List Task) (commits : ℕ) (r : RunsTo p ts false commits)
    (text : List ℕ) (final : Playing) (end : End)
    → IsPlayFrom work_schema p (record { lines = map line_of ts; stop = None }) text final end
    → (text ≡ r.text) × (final ≡ r.final) × (end ≡ good)
task_once p ts commits r text final end h =
    play_once work_schema p (record { lines = map line_of ts; stop = None }) text r.text final r.final
    end good h
    (record {
      ran = map line_of ts;
      next = Ok None;
      first = (refl, refl);
      runs = command_runs work_schema p (map line_of ts) r.text r.final r.runs;
      ends = sym (ap (end_at (length (map line_of ts))) r.inside_is);
    })

-- the tasks ran, and these are their answers
pub record IsNext {S : Type 0} (g : Ghosts S) (p : Playing) (ts : List Task) (commits : ℕ)
    (r : RunsTo p ts false commits) (f : Engine S) (text : List ℕ) : Type 0 where
  pub text_is : text ≡ r.text
  pub at : IsAt g r.final f

pub played_next : {S : Type 0} (g : Ghosts S) (p : Playing) (ts : List Task) (commits : ℕ)
    (e f : Engine S)
    (text : List ℕ) → AreFew ts → (r : RunsTo p ts false commits) → schema_of e ≡ work_schema
    → IsPlayedTo (beside g answers.Kept) p (script_lines (lines_text ts)) (with_answers e [])
    (with_answers f text) (Ok tt) → IsNext g p ts commits r f text
played_next g p ts commits e f text few r schema_is up =
    let played : IsPlayFrom work_schema p (record { lines = map line_of ts; stop = None }) up.text
    up.final good =
    subst (λ (ls : Lines). IsPlayFrom work_schema p ls up.text up.final good)
    (task_lines ts few.small few.few)
    (subst (λ (k : Schema). IsPlayFrom k p (script_lines (lines_text ts)) up.text up.final good)
    schema_is up.played) in
    let one = task_once p ts commits r up.text up.final good played in
    record {
      text_is = up.said ∙ one.0;
      at = subst (λ (q : Playing). IsAt g q f) one.1
          (at_alone g answers.Kept up.final f text up.at);
    }

abbrev pub up_to_next : {S : Type 0} (g : Ghosts S) (start : State) (done ts : List Task)
    (some commits : ℕ)
    (e f : Engine S) (text : List ℕ) (u : IsUpTo g start done some e)
    (r : RunsTo u.final ts false commits)
    → IsNext g u.final ts commits r f text → IsUpTo g start (done ++ ts) commits f
up_to_next g start done ts some commits e f text u r next = record {
  text = u.text ++ r.text;
  final = r.final;
  runs = subst (λ ls. Runs work_schema (start_at start) ls (u.text ++ r.text) r.final)
      (sym (map-append line_of done ts))
      (run_on work_schema (start_at start) u.final r.final (map line_of done)
      (map line_of ts) u.text r.text u.runs
      (command_runs work_schema u.final (map line_of ts) r.text r.final r.runs));
  at = next.at;
  outside = r.inside_is;
  commits_are = r.commits_are;
}

-- ---- where it ends early

-- the lines of all tasks, of which some of a part ran
all_lines : (n : ℕ) → n ≤ 10000 → (script_lines (work_script n)).lines ≡ map line_of (tasks n)
all_lines n le = ap (λ (ls : Lines). ls.lines)
    (task_lines (tasks n) (tasks_small n le) (length_tasks n le))

pub parts_of_all : (n : ℕ) (done ts later : List Task) (ran behind : List (List ℕ)) → n ≤ 10000
    → tasks n ≡ done ++ ts ++ later → map line_of ts ≡ ran ++ behind
    → (script_lines (work_script n)).lines ≡ (map line_of done ++ ran)
    ++ (behind ++ map line_of later)
parts_of_all n done ts later ran behind le all parts =
    all_lines n le ∙ ap (map line_of) all ∙ map-append line_of (done ++ ts) later
    ∙ ap (λ ls. ls ++ map line_of later) (map-append line_of done ts
    ∙ ap (λ ls. map line_of done ++ ls) parts)
    ∙ regroup (map line_of done) ran behind (map line_of later)
  where
    regroup : (a b c d : List (List ℕ)) → (a ++ (b ++ c)) ++ d ≡ (a ++ b) ++ (c ++ d)
    regroup a b c d = simp append_assoc

-- a line that the pages may be too few for, with more lines behind it
short_before : (built : Built) (limit : Option Limits) (p : Playing) (lines more : List (List ℕ))
    → IsShortAt work_schema built limit p lines
    → IsShortAt work_schema built limit p (lines ++ more)
short_before built limit p lines more s = record {
  maps = s.maps;
  many = s.many;
  before = s.before;
  short = record {
    line = s.short.line;
    later = s.short.later ++ more;
    lines_are = ap (λ ls. ls ++ more) s.short.lines_are;
    command = s.short.command;
    means = s.short.means;
    placed = s.short.placed;
    wants = s.short.wants;
    short = s.short.short;
  };
}

module _ {S : Type 0} (g : Ghosts S) (n : ℕ) (start : State) (done ts later : List Task)
    (some commits : ℕ)
    (e f : Engine S) (text : List ℕ) (few_records : n ≤ 10000) (all : tasks n ≡ done ++ ts ++ later)
    (few : AreFew ts) (schema_is : schema_of e ≡ work_schema) (u : IsUpTo g start done some e) where
  abbrev Kept : State → Type 0
  Kept = KeepsState g work_schema (built_of e) (leaves_of f)

  abbrev Part : Stop → Type 0
  Part why = IsPlayedPart (beside g answers.Kept) u.final (script_lines (lines_text ts))
      (with_answers e []) (with_answers f text) why

  part_lines : (why : Stop) (part : Part why) → map line_of ts ≡ part.ran ++ part.later
  part_lines why part = ap (λ (ls : Lines). ls.lines) (sym (task_lines ts few.small few.few))
      ∙ part.parts

  part_runs : (why : Stop) (part : Part why)
      → Runs work_schema (start_at start) (map line_of done ++ part.ran)
      (u.text ++ part.text) part.final
  part_runs why part =
      run_on work_schema (start_at start) u.final part.final (map line_of done) part.ran u.text
      part.text u.runs
      (subst (λ (k : Schema). Runs k u.final part.ran part.text part.final) schema_is part.runs)

  part_kept : (why : Stop) → why ≢ stop.Fault → (part : Part why) → Kept part.final.kept
  part_kept why other part =
      subst (λ (k : Schema). KeepsState g k (built_of e) (leaves_of f) part.final.kept) schema_is
      (part.kept other)

  worked_first : (why : Stop) → why ≢ stop.Fault → Part why → IsWorkedFirst start Kept n
  worked_first why other part = record {
    answers = u.text ++ part.text;
    first = record {
      ran = map line_of done ++ part.ran;
      later = part.later ++ map line_of later;
      parts = parts_of_all n done ts later part.ran part.later few_records all
          (part_lines why part);
      final = part.final;
      runs = part_runs why part;
    };
    holds = part_kept why other part;
  }

  worked_full : Part stop.Full → IsWorkedFull (built_of e) (g.limit (leaves_of e)) start Kept n
  worked_full part = record {
    answers = u.text ++ part.text;
    final = part.final;
    full = record {
      ran = map line_of done ++ part.ran;
      later = part.later ++ map line_of later;
      parts = parts_of_all n done ts later part.ran part.later few_records all
          (part_lines stop.Full part);
      runs = part_runs stop.Full part;
      short = short_before (built_of e) (g.limit (leaves_of e)) part.final part.later
          (map line_of later)
          (subst (λ (k : Schema). IsShortAt k (built_of e) (g.limit (leaves_of e)) part.final
          part.later) schema_is (part.short refl));
    };
    holds = part_kept stop.Full (λ e. cc) part;
  }

  no_line : (number : ℕ) (why : LineWhy) → RunsTo u.final ts false commits
      → IsPlayedUp (beside g answers.Kept) u.final (script_lines (lines_text ts))
      (with_answers e [])
      (with_answers f text) (stopped number why) → ⊥
  no_line number why r up =
      let played : IsPlayFrom work_schema u.final (record { lines = map line_of ts; stop = None })
      up.text up.final (stopped number why) =
      subst (λ (ls : Lines). IsPlayFrom work_schema u.final ls up.text up.final
      (stopped number why)) (task_lines ts few.small few.few)
      (subst (λ (k : Schema). IsPlayFrom k u.final (script_lines (lines_text ts)) up.text up.final
      (stopped number why)) schema_is up.played) in
      never (task_once u.final ts commits r up.text up.final (stopped number why) played).2
    where
      never : ◌≡◌ {A = End} (stopped number why) good → ⊥
      never h = cc

  -- the play ends early in a part
  pub worked_part : (end : PlayEnd) → RunsTo u.final ts false commits
      → ((block : ℕ) → end ≡ play_end.Stop (stop.Damaged block) → ⊥)
      → IsPlayedTo (beside g answers.Kept) u.final (script_lines (lines_text ts))
      (with_answers e []) (with_answers f text) (Err end)
      → IsWorkedAs (built_of e) (g.limit (leaves_of e)) start Kept n (Err (ending_of end))
  worked_part (play_end.Line number why) r sound up = absurd (no_line number why r up)
  worked_part (play_end.Stop stop.NoMemory) r sound part = worked_first stop.NoMemory (λ h. cc) part
  worked_part (play_end.Stop stop.Full) r sound part = worked_full part
  worked_part (play_end.Stop stop.Fault) r sound part = tt
  worked_part (play_end.Stop (stop.Damaged block)) r sound part = absurd (sound block refl)

-- no memory where these tasks ran
pub worked_so_far : {S : Type 0} (g : Ghosts S) (n : ℕ) (start : State) (done later : List Task)
    (commits : ℕ)
    (e : Engine S) (Holds : State → Type 0) → n ≤ 10000 → tasks n ≡ done ++ later
    → (u : IsUpTo g start done commits e) → Holds u.final.kept → IsWorkedFirst start Holds n
worked_so_far g n start done later commits e Holds le all u holds = record {
  answers = u.text;
  first = record {
    ran = map line_of done;
    later = map line_of later;
    parts = all_lines n le ∙ ap (map line_of) all ∙ map-append line_of done later;
    final = u.final;
    runs = u.runs;
  };
  holds = holds;
}
