-- The script of the workload plays to a good end.
use Rattle.std.proofs.Common.{◌≡◌, ℕ, zero, suc, ◌+◌, ◌-◌, ◌*◌, ◌/◌, ◌^◌, ◌<◌, ◌≤◌, min, false, List, [], ◌∷◌, ◌++◌, length, map, flat_map, refl, sym, ap, subst, ◌∙◌, arith, length-append, suc-mul, Ok, None}
use Rattle.std.specs.List.{AllByRecursion, AllZip, range_with_len}
use Rattle.gx_script.specs.Grammar.{IsLineOf}
use Rattle.gx_commands.specs.Lines.{Lines, script_lines}
use Rattle.gx_model.specs.States.{State}
use Rattle.gx_model.specs.Play.{Playing, End, good, is_inside, next_count, start_at, end_at}
use Rattle.gx_model.specs.Runs.{IsPlayFrom}
use Rattle.gx_model.proofs.RunLemmas.{play_once}
use Rattle.gx_work.specs.declared.task.Task.{Task}
use Rattle.gx_work.specs.declared.task.Task.TheVariants as task
use Rattle.gx_work.specs.Schema.{work_schema}
use Rattle.gx_work.specs.Tasks.{command_of, line_text}
use Rattle.gx_work.specs.Workload.{in_transaction, joining, group, departments, employees, raises, changes, tasks, lines_text, work_script}
use Rattle.gx_work.specs.Laws.{PlaysToEnd, MeansCommands}
use Rattle.gx_work.proofs.LineLemmas.{IsSmall, line_of, line_is, line_characters, line_short, line_means}
use Rattle.gx_work.proofs.PartsLemmas.{IsFine, joined, lines_of_text}
use Rattle.gx_work.proofs.RunLemmas.{RunsTo, IsInner, inner_small, no_run, then_runs, transaction_runs, finds_run}

-- ---- each of some tasks

all_append : (P : Task → Type 0) (xs ys : List Task) → AllByRecursion P xs → AllByRecursion P ys
    → AllByRecursion P (xs ++ ys)
all_append P [] ys h k = k
all_append P (x ∷ xs) ys h k = (h.0, all_append P xs ys h.1 k)

all_map : (P : Task → Type 0) (f : ℕ → Task) (a n : ℕ) → ((k : ℕ) → a ≤ k → k < a + n → P (f k))
    → AllByRecursion P (map f (range_with_len a n))
all_map P f a zero h = tt
all_map P f a (suc n) h = (
  h a (omega arith) (omega arith),
  all_map P f (a + 1) n
      (λ k low high. h k (omega arith) (omega arith)),
)

all_flat : (P : Task → Type 0) (f : ℕ → List Task) (a n : ℕ)
    → ((k : ℕ) → a ≤ k → k < a + n → AllByRecursion P (f k))
    → AllByRecursion P (flat_map f (range_with_len a n))
all_flat P f a zero h = tt
all_flat P f a (suc n) h =
    all_append P (f a) (flat_map f (range_with_len (a + 1) n)) (h a (omega arith) (omega arith))
    (all_flat P f (a + 1) n (λ k low high. h k (omega arith) (omega arith)))

all_weaker : (P Q : Task → Type 0) → ((t : Task) → P t → Q t) → (ts : List Task)
    → AllByRecursion P ts → AllByRecursion Q ts
all_weaker P Q f [] h = tt
all_weaker P Q f (t ∷ ts) h = (f t h.0, all_weaker P Q f ts h.1)

-- ---- the tasks of the workload

abbrev joined_in : ℕ → ℕ → List Task
joined_in n number = flat_map joining (range_with_len (20 * number + 1) (min 20 (n - 20 * number)))

department_inner : AllByRecursion IsInner (map task.Department (range_with_len 0 10))
department_inner = all_map IsInner task.Department 0 10 (λ k low high. omega arith)

joined_inner : (n number : ℕ) → n ≤ 10000 → AllByRecursion IsInner (joined_in n number)
joined_inner n number le =
    all_flat IsInner joining (20 * number + 1) (min 20 (n - 20 * number))
    (λ k low high. let small : k ≤ 10000 = omega arith in (small, (small, tt)))

raised_inner : (n : ℕ) → n ≤ 10000
    → AllByRecursion IsInner (map (λ k. task.Raise (3 * k)) (range_with_len 1 (n / 3)))
raised_inner n le = all_map IsInner (λ k. task.Raise (3 * k)) 1 (n / 3) (λ k low high. omega arith)

transaction_small : (ts : List Task) → AllByRecursion IsInner ts
    → AllByRecursion IsSmall (in_transaction ts)
transaction_small ts h = (
  tt,
  all_append IsSmall ts (task.Commit ∷ [])
      (all_weaker IsInner IsSmall inner_small ts h) (tt, tt),
)

employees_small : (n : ℕ) → n ≤ 10000 → AllByRecursion IsSmall (employees n)
employees_small n le = all_flat IsSmall (group n) 0 ((n + 19) / 20)
    (λ k low high. transaction_small (joined_in n k) (joined_inner n k le))

pub changes_small : (n : ℕ) → n ≤ 10000 → AllByRecursion IsSmall (changes n)
changes_small n le =
    all_append IsSmall (departments ++ employees n) (raises n)
    (all_append IsSmall departments (employees n)
    (transaction_small (map task.Department (range_with_len 0 10)) department_inner)
    (employees_small n le))
    (transaction_small (map (λ k. task.Raise (3 * k)) (range_with_len 1 (n / 3)))
    (raised_inner n le))

pub tasks_small : (n : ℕ) → n ≤ 10000 → AllByRecursion IsSmall (tasks n)
tasks_small n le = all_append IsSmall (changes n) (task.FindByPay ∷ task.FindByLink ∷ [])
    (changes_small n le) (tt, (tt, tt))

-- ---- how many there are

length_map : (f : ℕ → Task) (a n : ℕ) → length (map f (range_with_len a n)) ≡ n
length_map f a zero = refl
length_map f a (suc n) = ap suc (length_map f (a + 1) n)

length_flat : (f : ℕ → List Task) (most a n : ℕ) → ((k : ℕ) → length (f k) ≤ most)
    → length (flat_map f (range_with_len a n)) ≤ n * most
length_flat f most a zero h = omega arith
length_flat f most a (suc n) h =
    omega (
      arith,
      length-append (f a) (flat_map f (range_with_len (a + 1) n)),
      h a,
      length_flat f most (a + 1) n h,
      suc-mul n most,
    )

length_transaction : (ts : List Task) → length (in_transaction ts) ≡ length ts + 2
length_transaction ts = omega (arith, length-append ts (task.Commit ∷ []))

length_group : (n number : ℕ) → length (group n number) ≤ 42
length_group n number =
    omega (
      arith,
      length_transaction (joined_in n number),
      length_flat joining 2 (20 * number + 1) (min 20 (n - 20 * number)) (λ k. omega arith),
    )

length_employees : (n : ℕ) → n ≤ 10000 → length (employees n) ≤ 21000
length_employees n le = omega (arith, length_flat (group n) 42 0 ((n + 19) / 20) (length_group n))

length_departments : length departments ≡ 12
length_departments = refl

length_raises : (n : ℕ) → length (raises n) ≡ n / 3 + 2
length_raises n = length_transaction (map (λ k. task.Raise (3 * k)) (range_with_len 1 (n / 3)))
    ∙ ap (λ k. k + 2) (length_map (λ k. task.Raise (3 * k)) 1 (n / 3))

pub length_changes : (n : ℕ) → n ≤ 10000 → length (changes n) ≤ 25000
length_changes n le = omega (
  arith,
  length-append (departments ++ employees n) (raises n),
  length-append departments (employees n),
  length_departments,
  length_employees n le,
  length_raises n,
)

pub length_tasks : (n : ℕ) → n ≤ 10000 → length (tasks n) ≤ 25002
length_tasks n le = omega
    (arith, length-append (changes n) (task.FindByPay ∷ task.FindByLink ∷ []), length_changes n le)

-- ---- the lines of a text of tasks

joined_is : (ts : List Task) → lines_text ts ≡ joined (map line_of ts)
joined_is [] = refl
joined_is (t ∷ ts) = (λ i. line_is t i ++ joined_is ts i)

each_fine : (ts : List Task) → AllByRecursion IsSmall ts → AllByRecursion IsFine (map line_of ts)
each_fine [] h = tt
each_fine (t ∷ ts) h = (
  record {
    characters = line_characters t h.0;
    short = omega (arith, line_short t h.0);
  },
  each_fine ts h.1,
)

text_length : (ts : List Task) → AllByRecursion IsSmall ts → length (lines_text ts) ≤ length ts * 51
text_length [] h = omega arith
text_length (t ∷ ts) h =
    omega (
      arith,
      length-append (line_text t) (lines_text ts),
      ap length (line_is t),
      length-append (line_of t) (10 ∷ []),
      line_short t h.0,
      text_length ts h.1,
    )

-- at most 25,002 small tasks are the lines of their text
pub task_lines : (ts : List Task) → AllByRecursion IsSmall ts → length ts ≤ 25002
    → script_lines (lines_text ts) ≡ record { lines = map line_of ts; stop = None }
task_lines ts h le =
    ap script_lines (joined_is ts)
    ∙ lines_of_text (map line_of ts) (each_fine ts h)
    (omega (arith, text_length ts h, ap length (joined_is ts)))

pub script_short : (n : ℕ) → n ≤ 10000 → length (work_script n) < 16777216
script_short n le = omega (arith, text_length (tasks n) (tasks_small n le), length_tasks n le)

-- ---- it runs

groups_run : (n a count : ℕ) (p : Playing) → n ≤ 10000 → is_inside p ≡ false
    → p.commits + count < 2 ^ 64
    → RunsTo p (flat_map (group n) (range_with_len a count)) false (p.commits + count)
groups_run n a zero p le out few = let same : p.commits ≡ p.commits + 0 = omega arith in
    subst (RunsTo p [] false) same (no_run p false out)
groups_run n a (suc count) p le out few =
    let first = transaction_runs (joined_in n a) p (joined_inner n a le) out in
    let one : first.final.commits ≡ p.commits + 1 = first.commits_are ∙ omega arith in
    let later = groups_run n (a + 1) count first.final le first.inside_is (omega arith) in
    let sum : first.final.commits + count ≡ p.commits + suc count = omega arith in
    then_runs p (group n a) (flat_map (group n) (range_with_len (a + 1) count)) false false
    (next_count p.commits) (p.commits + suc count) first
    (subst (RunsTo first.final _ false) sum later)

-- all that changes something runs, with a commit for the departments, for each group and for the
-- raises
pub changes_run : (n : ℕ) (p : Playing) → n ≤ 10000 → is_inside p ≡ false → p.commits ≡ 0
    → RunsTo p (changes n) false ((n + 19) / 20 + 2)
changes_run n p le out none =
    let first = transaction_runs (map task.Department (range_with_len 0 10)) p department_inner out
    in
    let one : first.final.commits ≡ 1 = first.commits_are ∙ ap next_count none ∙ omega arith in
    let groups = groups_run n 0 ((n + 19) / 20) first.final le first.inside_is (omega arith) in
    let both = then_runs p departments (employees n) false false (next_count p.commits)
    (first.final.commits + (n + 19) / 20) first groups in
    let last = transaction_runs (map (λ k. task.Raise (3 * k)) (range_with_len 1 (n / 3)))
    both.final (raised_inner n le) both.inside_is in
    let sum : next_count both.final.commits ≡ (n + 19) / 20 + 2 =
    ap next_count (both.commits_are ∙ ap (λ k. k + (n + 19) / 20) one) ∙ omega arith in
    then_runs p (departments ++ employees n) (raises n) false false
    (first.final.commits + (n + 19) / 20) ((n + 19) / 20 + 2) both
    (subst (RunsTo both.final (raises n) false) sum last)

pub tasks_run : (n : ℕ) (p : Playing) → n ≤ 10000 → is_inside p ≡ false → p.commits ≡ 0
    → RunsTo p (tasks n) false ((n + 19) / 20 + 2)
tasks_run n p le out none =
    let first = changes_run n p le out none in
    then_runs p (changes n) (task.FindByPay ∷ task.FindByLink ∷ []) false false ((n + 19) / 20 + 2)
    ((n + 19) / 20 + 2) first
    (subst (RunsTo first.final (task.FindByPay ∷ task.FindByLink ∷ []) false)
    first.commits_are (finds_run first.final first.inside_is))

-- ---- it plays

-- tasks that run, and end outside a transaction, play to a good end
pub task_play : (p : Playing) (ts : List Task) (commits : ℕ) (r : RunsTo p ts false commits)
    → IsPlayFrom work_schema p (record { lines = map line_of ts; stop = None }) r.text r.final good
task_play p ts commits r = record {
  ran = map line_of ts;
  next = Ok None;
  first = (refl, refl);
  runs = r.runs;
  ends = sym (ap (end_at (length (map line_of ts))) r.inside_is);
}

-- and that is their one play
pub task_once : (p : Playing) (ts : List Task) (commits : ℕ) (r : RunsTo p ts false commits)
    (text : List ℕ) (final : Playing) (end : End)
    → IsPlayFrom work_schema p (record { lines = map line_of ts; stop = None }) text final end
    → (text ≡ r.text) × (final ≡ r.final) × (end ≡ good)
task_once p ts commits r text final end h =
    play_once work_schema p (record { lines = map line_of ts; stop = None }) text r.text final
    r.final end good h (task_play p ts commits r)

pub script_plays : (n : ℕ) (s : State) → n ≤ 10000 → PlaysToEnd n s
script_plays n s le =
    let r = tasks_run n (start_at s) le refl refl in
    record {
      answers = r.text;
      final = r.final;
      play = subst (λ (ls : Lines). IsPlayFrom work_schema (start_at s) ls r.text r.final good)
          (sym (task_lines (tasks n) (tasks_small n le) (length_tasks n le)))
          (task_play (start_at s) (tasks n) ((n + 19) / 20 + 2) r);
      commits = r.commits_are;
    }

short_lines : (ts : List Task) → AllByRecursion IsSmall ts
    → AllByRecursion (λ line. length line < 4096) (map line_of ts)
short_lines [] h = tt
short_lines (t ∷ ts) h = (omega (arith, line_short t h.0), short_lines ts h.1)

pub script_lines_short : (n : ℕ) → n ≤ 10000
    → AllByRecursion (λ line. length line < 4096) (script_lines (work_script n)).lines
script_lines_short n le =
    subst (λ (ls : Lines). AllByRecursion (λ line. length line < 4096) ls.lines)
    (sym (task_lines (tasks n) (tasks_small n le) (length_tasks n le)))
    (short_lines (tasks n) (tasks_small n le))

each_means : (ts : List Task) → AllByRecursion IsSmall ts
    → AllZip (IsLineOf work_schema) (map line_of ts) (map command_of ts)
each_means [] h = tt
each_means (t ∷ ts) h = (line_means t h.0, each_means ts h.1)

pub script_means : (n : ℕ) → n ≤ 10000 → MeansCommands n
script_means n le = subst (λ (ls : Lines). AllZip (IsLineOf work_schema) ls.lines
    (map command_of (tasks n))) (sym (task_lines (tasks n) (tasks_small n le) (length_tasks n le)))
    (each_means (tasks n) (tasks_small n le))
