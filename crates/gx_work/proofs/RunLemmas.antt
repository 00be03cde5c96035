-- Tasks run from any moment at which no transaction is open.
use Rattle.std.proofs.Common.{◌≡◌, ℕ, ◌<◌, ◌≤◌, Bool, true, false, cond, List, [], ◌∷◌, ◌++◌, map, codes, refl, sym, ap, subst, ◌∙◌, append-nil}
use Rattle.std.proofs.Common.{unwrap_or}
use Rattle.std.specs.Prelude.{T, Option, Some, None, filter, is_some}
use Rattle.std.specs.List.{AllByRecursion}
use Rattle.std.specs.FinMap as fin
use Rattle.std.specs.FinMap.Entries.{below_all}
use Rattle.std.specs.Fmt.{decimal}
use Rattle.std.specs.Ordering.{is_lt, ordering_then}
use Rattle.std.specs.declared.cmp.Ordering.{Ordering}
use Rattle.std.specs.declared.cmp.Ordering.TheVariants.{Less, Equal, Greater}
use Rattle.std.proofs.lemmas.List.{map-append}
use Rattle.std.proofs.lemmas.List.Sorted.{IsPermutation-refl}
use Rattle.gx_laws.proofs.ListLemmas.{all_filter}
use Rattle.gx_laws.proofs.BoolLemmas.{first_of_both, second_of_both}
use Rattle.gx_values.specs.Values.{value_cmp}
use Rattle.gx_schema.specs.declared.schema.FileDef.{FileDef}
use Rattle.gx_commands.specs.declared.command.OrderBy.{OrderBy}
use Rattle.gx_commands.specs.declared.command.Command.{Command}
use Rattle.gx_commands.specs.Commands.{place_reason}
use Rattle.gx_model.specs.States.{State, File, Row}
use Rattle.gx_model.specs.Found.{row_cmp, Ascends, IsListed}
use Rattle.gx_model.specs.Texts.{rows_text}
use Rattle.gx_model.specs.Commands.{Refusal, refusal_of, refusal_text, next_state, IsListText, IsAnswerOr, IsReply}
use Rattle.gx_model.specs.Play.{Playing, is_inside, seen_state, working_after, after_command, next_count, IsAnswered}
use Rattle.gx_model.specs.Runs.{Step, Runs}
use Rattle.gx_model.proofs.RunLemmas.{run_on, some_after}
use Rattle.gx_work.specs.declared.task.Task.{Task}
use Rattle.gx_work.specs.declared.task.Task.TheVariants as task
use Rattle.gx_work.specs.Schema.{work_schema}
use Rattle.gx_work.specs.Tasks.{command_of}
use Rattle.gx_work.specs.Workload.{in_transaction}
use Rattle.gx_work.proofs.LineLemmas.{IsSmall, line_of, line_means}

-- ---- a list of records by their keys

abbrev by_key : OrderBy
by_key = record { field = 0; desc = false }

less_both : (r : Ordering) → T (is_lt r) → ordering_then r r ≡ Less
less_both Less e = refl
less_both Equal e = absurd e
less_both Greater e = absurd e

all_below : (x : Row) (xs : List Row) → T (below_all value_cmp x.0 xs)
    → AllByRecursion (λ (y : Row). row_cmp by_key x y ≡ Less) xs
all_below x [] h = tt
all_below x (y ∷ xs) h =
    (less_both (value_cmp x.0 y.0) (first_of_both _ _ h), all_below x xs (second_of_both _ _ h))

ascends : (xs : List Row) → T (fin.is_sorted value_cmp xs) → Ascends (row_cmp by_key) xs
ascends [] h = tt
ascends (x ∷ xs) h = (all_below x xs (first_of_both _ _ h), ascends xs (second_of_both _ _ h))

ascends_filter : (p : Row → Bool) (xs : List Row) → Ascends (row_cmp by_key) xs
    → Ascends (row_cmp by_key) (filter p xs)
ascends_filter p [] h = tt
ascends_filter p (x ∷ xs) h =
    elim (p x) as (λ b. Ascends (row_cmp by_key) (cond b (x ∷ filter p xs) (filter p xs))) [
      | true ↦ (all_filter (λ y. row_cmp by_key x y ≡ Less) p xs h.0, ascends_filter p xs h.1)
      | false ↦ ascends_filter p xs h.1
    ]

listed : (f : File) (test : Row → Bool) → IsListed f test by_key (filter test (fin.entries f))
listed f test = record {
  those = IsPermutation-refl _;
  in_order = ascends_filter test (fin.entries f) (ascends (fin.entries f) (fin.entries_sorted f));
}

list_text : (def : FileDef) (f : File) (test : Row → Bool)
    → IsListText def f test by_key (rows_text def (filter test (fin.entries f)))
list_text def f test = record {
  rows = filter test (fin.entries f);
  listed = listed f test;
  is = refl;
}

-- ---- each command has an answer

record HasAnswer (p : Playing) (c : Command) : Type 0 where
  text : List ℕ
  answered : IsAnswered work_schema p c text

answer_or : (why : Option Refusal) (Reply : List ℕ → Type 0) (reply : List ℕ) → Reply reply
    → (text : List ℕ) × IsAnswerOr why Reply text
answer_or None Reply reply h = (reply, h)
answer_or (Some why) Reply reply h = (refusal_text why, refl)

answer_of : (t : Task) (p : Playing) → HasAnswer p (command_of t)
answer_of task.Begin p = record { text = codes "begun\n"; answered = refl }
answer_of task.Commit p = record {
  text = codes "committed " ++ decimal (next_count p.commits)
      ++ codes "\n";
  answered = refl;
}
answer_of (task.Department d) p = let a = answer_or
    (refusal_of work_schema (seen_state p) (command_of (task.Department d))) (λ t. t ≡ codes "ok\n")
    (codes "ok\n") refl in record { text = a.0; answered = a.1 }
answer_of (task.Employee i) p = let a = answer_or
    (refusal_of work_schema (seen_state p) (command_of (task.Employee i))) (λ t. t ≡ codes "ok\n")
    (codes "ok\n") refl in record { text = a.0; answered = a.1 }
answer_of (task.Connection i) p = let a = answer_or
    (refusal_of work_schema (seen_state p) (command_of (task.Connection i))) (λ t. t ≡ codes "ok\n")
    (codes "ok\n") refl in record { text = a.0; answered = a.1 }
answer_of (task.Raise i) p = let a = answer_or
    (refusal_of work_schema (seen_state p) (command_of (task.Raise i))) (λ t. t ≡ codes "ok\n")
    (codes "ok\n") refl in record { text = a.0; answered = a.1 }
answer_of task.FindByPay p = let a =
    answer_or (refusal_of work_schema (seen_state p) (command_of task.FindByPay))
    (IsReply work_schema (seen_state p) (command_of task.FindByPay)) _ (list_text _ _ _) in
    record { text = a.0; answered = a.1 }
answer_of task.FindByLink p = let a =
    answer_or (refusal_of work_schema (seen_state p) (command_of task.FindByLink))
    (IsReply work_schema (seen_state p) (command_of task.FindByLink)) _ (list_text _ _ _) in
    record { text = a.0; answered = a.1 }

-- ---- runs

-- the lines of tasks run from a moment, to one at which a transaction is open or not, and with so
-- many commits
pub record RunsTo (p : Playing) (ts : List Task) (inside : Bool) (commits : ℕ) : Type 0 where
  pub text : List ℕ
  pub final : Playing
  pub runs : Runs work_schema p (map line_of ts) text final
  pub inside_is : is_inside final ≡ inside
  pub commits_are : final.commits ≡ commits

step_of : (t : Task) (p : Playing) → IsSmall t → place_reason (is_inside p) (command_of t) ≡ None
    → Step work_schema p (line_of t) (answer_of t p).text
    (after_command work_schema p (command_of t))
step_of t p s allowed =
    record {
      command = command_of t;
      means = line_means t s;
      allowed = allowed;
      answered = (answer_of t p).answered;
      next_is = refl;
    }

abbrev one_run : (t : Task) (p : Playing) (inside : Bool) (commits : ℕ) → IsSmall t
    → place_reason (is_inside p) (command_of t) ≡ None
    → is_inside (after_command work_schema p (command_of t)) ≡ inside
    → (after_command work_schema p (command_of t)).commits ≡ commits
    → RunsTo p (t ∷ []) inside commits
one_run t p inside commits s allowed i n = record {
  text = (answer_of t p).text ++ [];
  final = after_command work_schema p (command_of t);
  runs = (
    (answer_of t p).text,
    [],
    after_command work_schema p (command_of t),
    step_of t p s allowed,
    (refl, refl),
    refl,
  );
  inside_is = i;
  commits_are = n;
}

pub no_run : (p : Playing) (inside : Bool) → is_inside p ≡ inside → RunsTo p [] inside p.commits
no_run p inside e = record {
  text = [];
  final = p;
  runs = (refl, refl);
  inside_is = e;
  commits_are = refl;
}

pub then_runs : (p : Playing) (xs ys : List Task) (mid inside : Bool) (some commits : ℕ)
    (first : RunsTo p xs mid some) → RunsTo first.final ys inside commits
    → RunsTo p (xs ++ ys) inside commits
then_runs p xs ys mid inside some commits first later = record {
  text = first.text ++ later.text;
  final = later.final;
  runs = subst (λ ls. Runs work_schema p ls (first.text ++ later.text) later.final)
      (sym (map-append line_of xs ys))
      (run_on work_schema p first.final later.final (map line_of xs) (map line_of ys) first.text
      later.text first.runs later.runs);
  inside_is = later.inside_is;
  commits_are = later.commits_are;
}

-- a task that stands inside a transaction and leaves it open
abbrev pub IsInner : Task → Type 0
IsInner (task.Department d) = d < 10
IsInner (task.Employee i) = i ≤ 10000
IsInner (task.Connection i) = i ≤ 10000
IsInner (task.Raise i) = i ≤ 10000
IsInner _ = ⊥

pub inner_small : (t : Task) → IsInner t → IsSmall t
inner_small task.Begin h = tt
inner_small task.Commit h = tt
inner_small (task.Department d) h = h
inner_small (task.Employee i) h = h
inner_small (task.Connection i) h = h
inner_small (task.Raise i) h = h
inner_small task.FindByPay h = tt
inner_small task.FindByLink h = tt

allowed_inside : (t : Task) (inside : Bool) → IsInner t → inside ≡ true
    → place_reason inside (command_of t) ≡ None
allowed_inside task.Begin inside h e = absurd h
allowed_inside task.Commit inside h e = absurd h
allowed_inside (task.Department d) inside h e =
    ap (λ b. place_reason b (command_of (task.Department d))) e
allowed_inside (task.Employee i) inside h e =
    ap (λ b. place_reason b (command_of (task.Employee i))) e
allowed_inside (task.Connection i) inside h e =
    ap (λ b. place_reason b (command_of (task.Connection i))) e
allowed_inside (task.Raise i) inside h e = ap (λ b. place_reason b (command_of (task.Raise i))) e
allowed_inside task.FindByPay inside h e = absurd h
allowed_inside task.FindByLink inside h e = absurd h

inside_behind : (t : Task) (p : Playing) → IsInner t
    → is_inside (after_command work_schema p (command_of t)) ≡ is_inside p
inside_behind task.Begin p h = absurd h
inside_behind task.Commit p h = absurd h
inside_behind (task.Department d) p h = some_after p.working _
inside_behind (task.Employee i) p h = some_after p.working _
inside_behind (task.Connection i) p h = some_after p.working _
inside_behind (task.Raise i) p h = some_after p.working _
inside_behind task.FindByPay p h = absurd h
inside_behind task.FindByLink p h = absurd h

commits_behind : (t : Task) (p : Playing) → IsInner t
    → (after_command work_schema p (command_of t)).commits ≡ p.commits
commits_behind task.Begin p h = absurd h
commits_behind task.Commit p h = absurd h
commits_behind (task.Department d) p h = refl
commits_behind (task.Employee i) p h = refl
commits_behind (task.Connection i) p h = refl
commits_behind (task.Raise i) p h = refl
commits_behind task.FindByPay p h = absurd h
commits_behind task.FindByLink p h = absurd h

inner_run : (t : Task) (p : Playing) → IsInner t → is_inside p ≡ true
    → RunsTo p (t ∷ []) true p.commits
inner_run t p h e = one_run t p true p.commits (inner_small t h)
    (allowed_inside t (is_inside p) h e) (inside_behind t p h ∙ e) (commits_behind t p h)

inner_runs : (ts : List Task) (p : Playing) → AllByRecursion IsInner ts → is_inside p ≡ true
    → RunsTo p ts true p.commits
inner_runs [] p h e = no_run p true e
inner_runs (t ∷ ts) p h e =
    let first = inner_run t p h.0 e in
    then_runs p (t ∷ []) ts true true p.commits p.commits first
    (subst (RunsTo first.final ts true) first.commits_are
    (inner_runs ts first.final h.1 first.inside_is))

-- tasks in a transaction of their own run, and are committed
pub transaction_runs : (ts : List Task) (p : Playing) → AllByRecursion IsInner ts
    → is_inside p ≡ false → RunsTo p (in_transaction ts) false (next_count p.commits)
transaction_runs ts p h e =
    let begun = one_run task.Begin p true p.commits tt
    (ap (λ b. place_reason b (command_of task.Begin)) e) refl refl in
    let inner = inner_runs ts begun.final h begun.inside_is in
    let done = one_run task.Commit inner.final false (next_count begun.final.commits) tt
    (ap (λ b. place_reason b (command_of task.Commit)) inner.inside_is) refl
    (ap next_count inner.commits_are) in
    let all = then_runs begun.final ts (task.Commit ∷ []) true false begun.final.commits
    (next_count begun.final.commits) inner done in
    subst (RunsTo p (in_transaction ts) false) (ap next_count begun.commits_are)
    (then_runs p (task.Begin ∷ []) (ts ++ task.Commit ∷ []) true false p.commits
    (next_count begun.final.commits) begun all)

-- ---- finds

-- a task that finds something, and changes nothing
abbrev pub IsFind : Task → Type 0
IsFind task.FindByPay = Unit {0}
IsFind task.FindByLink = Unit {0}
IsFind _ = ⊥

-- it runs where no transaction is open, with its answer, and the state stays
pub record FindRuns (p : Playing) (t : Task) : Type 0 where
  pub run : RunsTo p (t ∷ []) false p.commits
  pub answered : IsAnswered work_schema p (command_of t) run.text
  pub same : seen_state run.final ≡ seen_state p

stays : (old : Option State) (s k : State) → is_some old ≡ false
    → unwrap_or (working_after old s) k ≡ unwrap_or old k
stays None s k e = refl
stays (Some old) s k e = absurd cc

pub find_runs : (t : Task) (p : Playing) → IsFind t → is_inside p ≡ false → FindRuns p t
find_runs task.FindByPay p h e = record {
  run = one_run task.FindByPay p false p.commits tt refl (some_after p.working _ ∙ e) refl;
  answered = subst (IsAnswered work_schema p (command_of task.FindByPay)) (sym (append-nil _))
      (answer_of task.FindByPay p).answered;
  same = stays p.working (next_state work_schema (seen_state p) (command_of task.FindByPay)) p.kept
      e;
}
find_runs task.FindByLink p h e = record {
  run = one_run task.FindByLink p false p.commits tt refl (some_after p.working _ ∙ e) refl;
  answered = subst (IsAnswered work_schema p (command_of task.FindByLink)) (sym (append-nil _))
      (answer_of task.FindByLink p).answered;
  same = stays p.working (next_state work_schema (seen_state p) (command_of task.FindByLink)) p.kept
      e;
}
find_runs task.Begin p h e = absurd h
find_runs task.Commit p h e = absurd h
find_runs (task.Department d) p h e = absurd h
find_runs (task.Employee i) p h e = absurd h
find_runs (task.Connection i) p h e = absurd h
find_runs (task.Raise i) p h e = absurd h

pub finds_run : (p : Playing) → is_inside p ≡ false
    → RunsTo p (task.FindByPay ∷ task.FindByLink ∷ []) false p.commits
finds_run p e =
    let first = (find_runs task.FindByPay p tt e).run in
    then_runs p (task.FindByPay ∷ []) (task.FindByLink ∷ []) false false p.commits p.commits first
    (subst (RunsTo first.final (task.FindByLink ∷ []) false) first.commits_are
    (find_runs task.FindByLink first.final tt first.inside_is).run)
