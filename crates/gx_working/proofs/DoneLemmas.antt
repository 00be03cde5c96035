-- The parts of the workload's script, one after another.
use Rattle.std.proofs.Common.{◌≡◌, ℕ, ◌+◌, ◌≤◌, ◌/◌, Bool, true, false, cond, List, [], ◌∷◌, ◌++◌, length, map, flat_map, Option, Some, None, Result, Ok, Err, refl, sym, ap, subst, ◌∙◌, append_assoc, arith, inl, inr}
use Rattle.std.specs.Prelude.{codes, is_some, filter, if◌then◌else◌}
use Rattle.std.specs.FinMap as fin
use Rattle.std.specs.Fmt.{decimal}
use Rattle.std.proofs.lemmas.List.Sorted.{length_permutation}
use Rattle.gx_ports.specs.LeafMaps.{Limits}
use Rattle.gx_ports.specs.declared.stop.Stop.TheVariants as stop
use Rattle.gx_ports.specs.declared.view.View.{Ghosts}
use Rattle.gx_schema.specs.declared.schema.Schema.{Schema}
use Rattle.gx_schema.specs.declared.schema.FileDef.{FileDef}
use Rattle.gx_schema.specs.Lookups.{file_at}
use Rattle.gx_commands.specs.declared.command.Find.{Find}
use Rattle.gx_commands.specs.declared.command.Command.TheVariants as command
use Rattle.gx_commands.specs.Lines.{Lines, script_lines}
use Rattle.gx_types.specs.declared.built.Built.{Built}
use Rattle.gx_model.specs.States.{State, file_in}
use Rattle.gx_model.specs.Found.{is_chosen}
use Rattle.gx_model.specs.Texts.{row_text}
use Rattle.gx_model.specs.Commands.{no_record, lacks_of, IsListText, IsAnswerOr, IsReply}
use Rattle.gx_model.specs.Play.{Playing, good, start_at, end_at, seen_state, IsAnswered}
use Rattle.gx_play.specs.Asked.{IsPlayFrom}
use Rattle.gx_play.specs.Plays.{Engine}
use Rattle.gx_play.specs.Plays.{IsAt, schema_of, built_of, leaves_of}
use Rattle.gx_play.specs.declared.ending.Ending.{Ending}
use Rattle.gx_play.specs.declared.play.PlayEnd.{PlayEnd}
use Rattle.gx_play.specs.declared.play.PlayEnd.TheVariants as play_end
use Rattle.gx_play.specs.Endings.{ending_of}
use Rattle.gx_play.specs.Plays.{IsPlayedTo, KeepsState}
use Rattle.gx_play.proofs.PlayLemmas.{kept_at}
use Rattle.gx_work.specs.declared.task.Task.{Task}
use Rattle.gx_work.specs.declared.task.Task.TheVariants as task
use Rattle.gx_work.specs.Schema.{work_schema}
use Rattle.gx_work.specs.Tasks.{command_of, by_pay, by_link}
use Rattle.gx_work.specs.Workload.{lines_text, changes, tasks}
use Rattle.gx_work.specs.Summary.{found_count, work_line, work_text}
use Rattle.gx_work.proofs.LineLemmas.{line_of}
use Rattle.gx_work.proofs.RunLemmas.{IsFind, find_runs}
use Rattle.gx_work.proofs.WorkLemmas.{task_lines, tasks_small, length_tasks, changes_small, length_changes, changes_run}
use Rattle.gx_play.specs.declared.play.Answers.TheVariants as answers
use Rattle.gx_play.specs.Answering.{beside, with_answers}
use Rattle.gx_working.specs.Counts.{TellsCount}
use Rattle.gx_working.specs.Worked.{IsWorkedOut, IsWorkedFirst, IsWorkedAs}
use Rattle.gx_working.proofs.WorkedLemmas.{IsUpTo, up_to_start, AreFew, played_next, up_to_next, worked_part, worked_so_far}

-- ---- what the answer of a find tells

list_tells : (def : FileDef) (f : _) (test : _) (order : _) (text : List ℕ)
    → IsListText def f test order text
    → TellsCount text (length (filter test (fin.entries f)))
list_tells def f test order text h =
    inl (
      flat_map (row_text def) h.rows,
      h.is
          ∙ ap (λ n. flat_map (row_text def) h.rows ++ codes "found " ++ decimal n ++ codes "\n")
          (length_permutation _ h.rows h.listed.those),
    )

tells_or : (b : Bool) (text : List ℕ) (Reply : List ℕ → Type 0) (count : ℕ)
    → (Reply text → TellsCount text count) → IsAnswerOr (cond b (Some no_record) None) Reply text
    → TellsCount text (if is_some (cond b (Some no_record) None) then 0 else count)
tells_or true text Reply count list h = inr (h, refl)
tells_or false text Reply count list h = list h

pub find_tells : (p : Playing) (q : Find) (text : List ℕ)
    → IsAnswered work_schema p (command.Find q) text
    → TellsCount text (found_count work_schema (seen_state p) q)
find_tells p q text h =
    tells_or (lacks_of work_schema (seen_state p) q.of) text
    (IsReply work_schema (seen_state p) (command.Find q))
    (length (filter (is_chosen (seen_state p) q) (fin.entries (file_in (seen_state p) q.file))))
    (list_tells (file_at work_schema q.file) (file_in (seen_state p) q.file)
    (is_chosen (seen_state p) q) q.order text) h

-- ---- one part after another

pub changes_few : (n : ℕ) → n ≤ 10000 → AreFew (changes n)
changes_few n le = record { small = changes_small n le; few = omega (arith, length_changes n le) }

pub find_few : (t : Task) → IsFind t → AreFew (t ∷ [])
find_few task.FindByPay h = record { small = (tt, tt); few = omega arith }
find_few task.FindByLink h = record { small = (tt, tt); few = omega arith }
find_few task.Begin h = absurd h
find_few task.Commit h = absurd h
find_few (task.Department d) h = absurd h
find_few (task.Employee i) h = absurd h
find_few (task.Connection i) h = absurd h
find_few (task.Raise i) h = absurd h

pub after_changes : {S : Type 0} (g : Ghosts S) (n : ℕ) (s : State) (e f : Engine S)
    (script text : List ℕ)
    → n ≤ 10000 → schema_of e ≡ work_schema → IsAt g (start_at s) e
    → script ≡ lines_text (changes n)
    → IsPlayedTo (beside g answers.Kept) (start_at s) (script_lines script) (with_answers e [])
    (with_answers f text) (Ok tt) → IsUpTo g s (changes n) ((n + 19) / 20 + 2) f
after_changes g n s e f script text le schema_is at script_is played =
    let r = changes_run n (start_at s) le refl refl in
    up_to_next g s [] (changes n) 0 ((n + 19) / 20 + 2) e f text (up_to_start g s e at) r
    (played_next g (start_at s) (changes n) ((n + 19) / 20 + 2) e f text
    (changes_few n le) r schema_is
    (subst (λ t. IsPlayedTo (beside g answers.Kept) (start_at s) (script_lines t)
    (with_answers e [])
    (with_answers f text) (Ok tt)) script_is played))

-- a find was played behind these tasks
pub record IsFoundBehind {S : Type 0} (g : Ghosts S) (s : State) (done : List Task) (t : Task)
    (p : Playing)
    (f : Engine S) (text : List ℕ) : Type 0 where
  pub next : IsUpTo g s (done ++ t ∷ []) p.commits f
  pub answered : IsAnswered work_schema p (command_of t) text
  pub same : seen_state next.final ≡ seen_state p

pub after_find : {S : Type 0} (g : Ghosts S) (s : State) (done : List Task) (t : Task) (commits : ℕ)
    (e f : Engine S) (text : List ℕ) → IsFind t → schema_of e ≡ work_schema
    → (u : IsUpTo g s done commits e)
    → IsPlayedTo (beside g answers.Kept) u.final (script_lines (lines_text (t ∷ [])))
    (with_answers e [])
    (with_answers f text) (Ok tt) → IsFoundBehind g s done t u.final f text
after_find g s done t commits e f text find schema_is u played =
    let runs = find_runs t u.final find u.outside in
    let next = played_next g u.final (t ∷ []) u.final.commits e f text (find_few t find) runs.run
    schema_is played in
    record {
      next = up_to_next g s done (t ∷ []) commits u.final.commits e f text u runs.run next;
      answered = subst (IsAnswered work_schema u.final (command_of t))
          (sym next.text_is) runs.answered;
      same = runs.same;
    }

-- ---- where it ends early

-- the same of the engine that the play began with
moved : {S : Type 0} (g : Ghosts S) (n : ℕ) (s : State) (e : Engine S) (leaves : S) (built : Built)
    (limit : Option Limits) (result : Result (List ℕ) Ending) → built_of e ≡ built
    → g.limit (leaves_of e) ≡ limit
    → IsWorkedAs (built_of e) (g.limit (leaves_of e)) s
    (KeepsState g work_schema (built_of e) leaves) n result
    → IsWorkedAs built limit s (KeepsState g work_schema built leaves) n result
moved g n s e leaves built limit result built_is limit_is h =
    subst (λ (b : Built). IsWorkedAs b limit s (KeepsState g work_schema b leaves) n result)
    built_is
    (subst (λ (l : Option Limits). IsWorkedAs (built_of e) l s
    (KeepsState g work_schema (built_of e) leaves) n result) limit_is h)

pub no_changes : {S : Type 0} (g : Ghosts S) (n : ℕ) (s : State) (e f : Engine S)
    (script text : List ℕ)
    (end : PlayEnd) → n ≤ 10000 → schema_of e ≡ work_schema → IsAt g (start_at s) e
    → script ≡ lines_text (changes n) → ((block : ℕ) → end ≡ play_end.Stop (stop.Damaged block) → ⊥)
    → IsPlayedTo (beside g answers.Kept) (start_at s) (script_lines script) (with_answers e [])
    (with_answers f text) (Err end)
    → IsWorkedAs (built_of e) (g.limit (leaves_of e)) s
    (KeepsState g work_schema (built_of e) (leaves_of f)) n (Err (ending_of end))
no_changes g n s e f script text end le schema_is at script_is sound played =
    worked_part g n s [] (changes n) (task.FindByPay ∷ task.FindByLink ∷ []) 0
    ((n + 19) / 20 + 2) e f text le refl (changes_few n le) schema_is (up_to_start g s e at) end
    (changes_run n (start_at s) le refl refl) sound
    (subst (λ t. IsPlayedTo (beside g answers.Kept) (start_at s) (script_lines t)
    (with_answers e [])
    (with_answers f text) (Err end)) script_is played)

pub no_find : {S : Type 0} (g : Ghosts S) (n : ℕ) (s : State) (done later : List Task) (t : Task)
    (commits : ℕ)
    (e f : Engine S) (built : Built) (limit : Option Limits) (text : List ℕ) (end : PlayEnd)
    → n ≤ 10000
    → tasks n ≡ done ++ t ∷ [] ++ later → IsFind t → schema_of e ≡ work_schema → built_of e ≡ built
    → g.limit (leaves_of e) ≡ limit → (u : IsUpTo g s done commits e)
    → ((block : ℕ) → end ≡ play_end.Stop (stop.Damaged block) → ⊥)
    → IsPlayedTo (beside g answers.Kept) u.final (script_lines (lines_text (t ∷ [])))
    (with_answers e []) (with_answers f text) (Err end)
    → IsWorkedAs built limit s (KeepsState g work_schema built (leaves_of f)) n
    (Err (ending_of end))
no_find g n s done later t commits e f built limit text end le all find schema_is built_is limit_is
    u sound played =
    moved g n s e (leaves_of f) built limit (Err (ending_of end)) built_is limit_is
    (worked_part g n s done (t ∷ []) later commits u.final.commits e f text le all
    (find_few t find) schema_is u end (find_runs t u.final find u.outside).run sound played)

-- what is kept where tasks ran
pub keeps_up_to : {S : Type 0} (g : Ghosts S) (s : State) (done : List Task) (commits : ℕ)
    (e : Engine S)
    (built : Built) → schema_of e ≡ work_schema → built_of e ≡ built
    → (u : IsUpTo g s done commits e)
    → KeepsState g work_schema built (leaves_of e) u.final.kept
keeps_up_to {S = S} g s done commits e built schema_is built_is u =
    subst (λ (k : Schema). KeepsState g k built (leaves_of e) u.final.kept) schema_is
    (subst (λ (b : Built). KeepsState g (schema_of e) b (leaves_of e) u.final.kept) built_is
    (kept_at g u.final e e refl refl u.at))

-- ---- where it is done

pub done_first : {S : Type 0} (g : Ghosts S) (n : ℕ) (s : State) (done later : List Task)
    (commits : ℕ)
    (e : Engine S) (built : Built) → n ≤ 10000 → tasks n ≡ done ++ later → schema_of e ≡ work_schema
    → built_of e ≡ built → IsUpTo g s done commits e
    → IsWorkedFirst s (KeepsState g work_schema built (leaves_of e)) n
done_first g n s done later commits e built le all schema_is built_is u =
    worked_so_far g n s done later commits e (KeepsState g work_schema built (leaves_of e)) le all u
    (keeps_up_to g s done commits e built schema_is built_is u)

pub done_all : {S : Type 0} (g : Ghosts S) (n : ℕ) (s : State) (done : List Task) (commits : ℕ)
    (e : Engine S)
    (built : Built) (line : List ℕ) → n ≤ 10000 → tasks n ≡ done → schema_of e ≡ work_schema
    → built_of e ≡ built → (u : IsUpTo g s done commits e) → line ≡ work_text n u.final
    → IsWorkedOut s (KeepsState g work_schema built (leaves_of e)) n line
done_all g n s done commits e built line le all schema_is built_is u line_is = record {
  answers = u.text;
  final = u.final;
  play =
      subst (λ (ls : Lines). IsPlayFrom work_schema (start_at s) ls u.text u.final good)
      (sym (task_lines (tasks n) (tasks_small n le) (length_tasks n le)
      ∙ ap (λ (ts : List Task). record { lines = map line_of ts; stop = None }) all))
      (record {
        ran = map line_of done;
        next = Ok None;
        first = (refl, refl);
        runs = u.runs;
        ends = sym
            (ap (end_at (length (map line_of done))) u.outside);
      });
  line_is = line_is;
  holds = keeps_up_to g s done commits e built schema_is built_is u;
}

-- the tasks in three parts
pub three_parts : (n : ℕ) → tasks n ≡ (changes n ++ task.FindByPay ∷ []) ++ task.FindByLink ∷ []
three_parts n = sym (append_assoc (changes n) (task.FindByPay ∷ []) (task.FindByLink ∷ []))

-- the leaves that the engine was started on, and that it hands back
pub worked_over : {S : Type 0} (g : Ghosts S) (n : ℕ) (s : State) (e f : Engine S) (leaves left : S)
    (built : Built) (result : Result (List ℕ) Ending) → built_of e ≡ built → leaves_of e ≡ leaves
    → left ≡ leaves_of f → IsWorkedAs (built_of e) (g.limit (leaves_of e)) s
    (KeepsState g work_schema (built_of e) (leaves_of f)) n result
    → IsWorkedAs built (g.limit leaves) s (KeepsState g work_schema built left) n result
worked_over {S = S} g n s e f leaves left built result built_is leaves_is left_is h =
    subst (λ (l : S). IsWorkedAs built (g.limit leaves) s (KeepsState g work_schema built l) n
    result) (sym left_is)
    (moved g n s e (leaves_of f) built (g.limit leaves) result built_is (ap g.limit leaves_is) h)

-- the line of the last moment, by the moments of the finds
pub line_of_last : (n commits : ℕ) (p q r : Playing) (line : List ℕ) → seen_state q ≡ seen_state p
    → seen_state r ≡ seen_state q → r.commits ≡ commits
    → line ≡ work_line n (found_count work_schema (seen_state p) by_pay)
    (found_count work_schema (seen_state q) by_link) commits → line ≡ work_text n r
line_of_last n commits p q r line first second k e =
    e ∙ ap (λ s. work_line n (found_count work_schema s by_pay)
    (found_count work_schema (seen_state q) by_link)
    commits) (sym (second ∙ first))
    ∙ ap (λ s. work_line n (found_count work_schema (seen_state r) by_pay)
    (found_count work_schema s by_link) commits) (sym second)
    ∙ ap (work_line n (found_count work_schema (seen_state r) by_pay)
    (found_count work_schema (seen_state r) by_link)) (sym k)
