use Rattle.std.proofs.Common.{◌≡◌, List, Result, ℕ, false, ◌+◌, ◌/◌, ◌∷◌, [], ◌++◌, Err, refl, sym, ap, subst, ◌∙◌, append-nil, arith}
use Rattle.gx_ports.specs.declared.stop.Stop.TheVariants as stop
use Rattle.gx_play.specs.Plays.{built_of, leaves_of}
use Rattle.gx_model.specs.Play.{start_at, seen_state}
use Rattle.gx_play.specs.declared.ending.Ending.TheVariants as ending
use Rattle.gx_play.specs.declared.ending.Ending.{Ending}
use Rattle.gx_play.specs.Endings.{ending_of, is_fault}
use Rattle.gx_play.specs.Plays.{KeepsState, is_play_fault}
use Rattle.gx_work.specs.declared.task.Task.TheVariants as task
use Rattle.gx_work.specs.Schema.{work_schema}
use Rattle.gx_work.specs.Tasks.{by_pay, by_link}
use Rattle.gx_work.specs.Workload.{changes, tasks}
use Rattle.gx_work.specs.Summary.{found_count, work_line}
use Rattle.gx_working.specs.Counts.{TellsCount}
use Rattle.gx_working.specs.Crashes.{LeavesLines}
use Rattle.gx_working.specs.Worked.{IsWorkedAs}
use Rattle.gx_play.proofs.PlayLemmas.{is_err}
use Rattle.gx_play.proofs.AnsweringLemmas.{keeps_same, keeps_then, failed_end, none_failed}
use Rattle.gx_play.specs.declared.play.Answers.TheVariants as answers
use Rattle.gx_working.proofs.WorkedLemmas.{up_to_start}
use Rattle.gx_working.proofs.DoneLemmas.{after_changes, after_find, no_changes, no_find, done_first, done_all, three_parts, find_tells, line_of_last}
use Rattle.gx_working.proofs.LeftLemmas.{left_none, left_first, left_find, left_end}
use Rattle.gx_working.proofs.working.work.Goals as goal

pub returns-in_err-script-clause-worked : goal.returns-in_err-script-clause-worked
returns-in_err-script-clause-worked g c = λ s at.
    let e = c.args.engine.now in
    let n = c.args.records in
    subst (λ r. IsWorkedAs (built_of e) (g.B.View.limit (leaves_of e)) s
    (KeepsState g.B.View work_schema (built_of e) (leaves_of e)) n r)
    (sym (is_err _ ending.NoMemory c.from_residual.ensures.1))
    (done_first g.B.View n s [] (tasks n) 0 e (built_of e) c.requires.few refl c.requires.schema
    refl (up_to_start g.B.View s e at))

pub returns-in_err-answers-clause-worked : goal.returns-in_err-answers-clause-worked
returns-in_err-answers-clause-worked g c = λ s at.
    let e = c.args.engine.now in
    let n = c.args.records in
    let played = c.in_err-answers.ensures.played (start_at s) at in
    subst (λ r. IsWorkedAs (built_of e) (g.B.View.limit (leaves_of e)) s
    (KeepsState g.B.View work_schema (built_of e) (leaves_of c.answers.new.engine)) n r)
    (sym (is_err _ (ending_of c.in_err-answers.field-0.0) c.from_residual-in_err-answers.ensures.1))
    (no_changes g.B.View n s e c.answers.new.engine c.as_slice.result.now played.0
    c.in_err-answers.field-0.0
    c.requires.few c.requires.schema at (c.as_slice.ensures ∙ c.in_ok-script.ensures)
    (λ block is. c.in_err-answers.ensures.cause (start_at s) at (stop.Damaged block) (ap Err is))
    played.1)

pub returns-in_err-by_pay-clause-worked : goal.returns-in_err-by_pay-clause-worked
returns-in_err-by_pay-clause-worked g c = λ s at.
    let e = c.args.engine.now in
    let n = c.args.records in
    let u = after_changes g.B.View n s e c.answers.new.engine c.as_slice.result.now
    c.in_ok-answers.field-0
    c.requires.few c.requires.schema at (c.as_slice.ensures ∙ c.in_ok-script.ensures)
    (c.in_ok-answers.ensures.played (start_at s) at) in
    let played = c.in_err-by_pay.ensures.played u.final u.at in
    subst (λ r. IsWorkedAs (built_of e) (g.B.View.limit (leaves_of e)) s
    (KeepsState g.B.View work_schema (built_of e) (leaves_of c.answers-2.new.engine)) n r)
    (sym (is_err _ (ending_of c.in_err-by_pay.field-0.0) c.from_residual-in_err-by_pay.ensures.1))
    (no_find g.B.View n s (changes n) (task.FindByLink ∷ []) task.FindByPay
    ((n + 19) / 20 + 2) c.answers.new.engine c.answers-2.new.engine (built_of e)
    (g.B.View.limit (leaves_of e)) played.0 c.in_err-by_pay.field-0.0 c.requires.few
    (three_parts n) tt
    (c.answers.ensures.keeps.schema ∙ c.requires.schema) c.answers.ensures.keeps.built
    c.answers.ensures.keeps.limit u
    (λ block is. c.in_err-by_pay.ensures.cause u.final u.at (stop.Damaged block) (ap Err is))
    played.1)

pub returns-in_err-by_link-clause-worked : goal.returns-in_err-by_link-clause-worked
returns-in_err-by_link-clause-worked g c = λ s at.
    let e = c.args.engine.now in
    let n = c.args.records in
    let u = after_changes g.B.View n s e c.answers.new.engine c.as_slice.result.now
    c.in_ok-answers.field-0
    c.requires.few c.requires.schema at (c.as_slice.ensures ∙ c.in_ok-script.ensures)
    (c.in_ok-answers.ensures.played (start_at s) at) in
    let first = after_find g.B.View s (changes n) task.FindByPay
    ((n + 19) / 20 + 2) c.answers.new.engine c.answers-2.new.engine c.in_ok-by_pay.by_pay tt
    (c.answers.ensures.keeps.schema ∙ c.requires.schema) u
    (c.in_ok-by_pay.ensures.played u.final u.at) in
    let v = first.next in
    let played = c.in_err-by_link.ensures.played v.final v.at in
    subst (λ r. IsWorkedAs (built_of e) (g.B.View.limit (leaves_of e)) s
    (KeepsState g.B.View work_schema (built_of e) (leaves_of c.answers-3.new.engine)) n r)
    (sym (is_err _ (ending_of c.in_err-by_link.field-0.0) c.from_residual-in_err-by_link.ensures.1))
    (no_find g.B.View n s (changes n ++ task.FindByPay ∷ []) [] task.FindByLink u.final.commits
    c.answers-2.new.engine c.answers-3.new.engine (built_of e) (g.B.View.limit (leaves_of e))
    played.0
    c.in_err-by_link.field-0.0 c.requires.few (three_parts n ∙ sym (append-nil _)) tt
    (c.answers-2.ensures.keeps.schema ∙ c.answers.ensures.keeps.schema ∙ c.requires.schema)
    (c.answers-2.ensures.keeps.built ∙ c.answers.ensures.keeps.built)
    (c.answers-2.ensures.keeps.limit ∙ c.answers.ensures.keeps.limit) v
    (λ block is. c.in_err-by_link.ensures.cause v.final v.at (stop.Damaged block) (ap Err is))
    played.1)

pub returns-in_err-summary_line-clause-worked : goal.returns-in_err-summary_line-clause-worked
returns-in_err-summary_line-clause-worked g c = λ s at.
    let e = c.args.engine.now in
    let n = c.args.records in
    let u = after_changes g.B.View n s e c.answers.new.engine c.as_slice.result.now
    c.in_ok-answers.field-0
    c.requires.few c.requires.schema at (c.as_slice.ensures ∙ c.in_ok-script.ensures)
    (c.in_ok-answers.ensures.played (start_at s) at) in
    let first = after_find g.B.View s (changes n) task.FindByPay
    ((n + 19) / 20 + 2) c.answers.new.engine c.answers-2.new.engine c.in_ok-by_pay.by_pay tt
    (c.answers.ensures.keeps.schema ∙ c.requires.schema) u
    (c.in_ok-by_pay.ensures.played u.final u.at) in
    let v = first.next in
    let second = after_find g.B.View s (changes n ++ task.FindByPay ∷ []) task.FindByLink
    u.final.commits
    c.answers-2.new.engine c.answers-3.new.engine c.in_ok-by_link.by_link tt
    (c.answers-2.ensures.keeps.schema ∙ c.answers.ensures.keeps.schema ∙ c.requires.schema) v
    (c.in_ok-by_link.ensures.played v.final v.at) in
    subst (λ r. IsWorkedAs (built_of e) (g.B.View.limit (leaves_of e)) s
    (KeepsState g.B.View work_schema (built_of e) (leaves_of c.answers-3.new.engine)) n r)
    (sym (is_err _ ending.NoMemory c.from_residual-in_err-summary_line.ensures.1))
    (done_first g.B.View n s ((changes n ++ task.FindByPay ∷ []) ++ task.FindByLink ∷ []) []
    v.final.commits
    c.answers-3.new.engine (built_of e) c.requires.few (three_parts n ∙ sym (append-nil _))
    (c.answers-3.ensures.keeps.schema ∙ c.answers-2.ensures.keeps.schema
    ∙ c.answers.ensures.keeps.schema
    ∙ c.requires.schema) (c.answers-3.ensures.keeps.built ∙ c.answers-2.ensures.keeps.built
    ∙ c.answers.ensures.keeps.built) second.next)

pub returns-clause-worked : goal.returns-clause-worked
returns-clause-worked g c = λ s at.
    let e = c.args.engine.now in
    let n = c.args.records in
    let u = after_changes g.B.View n s e c.answers.new.engine c.as_slice.result.now
    c.in_ok-answers.field-0
    c.requires.few c.requires.schema at (c.as_slice.ensures ∙ c.in_ok-script.ensures)
    (c.in_ok-answers.ensures.played (start_at s) at) in
    let first = after_find g.B.View s (changes n) task.FindByPay
    ((n + 19) / 20 + 2) c.answers.new.engine c.answers-2.new.engine c.in_ok-by_pay.by_pay tt
    (c.answers.ensures.keeps.schema ∙ c.requires.schema) u
    (c.in_ok-by_pay.ensures.played u.final u.at) in
    let v = first.next in
    let second = after_find g.B.View s (changes n ++ task.FindByPay ∷ []) task.FindByLink
    u.final.commits
    c.answers-2.new.engine c.answers-3.new.engine c.in_ok-by_link.by_link tt
    (c.answers-2.ensures.keeps.schema ∙ c.answers.ensures.keeps.schema ∙ c.requires.schema) v
    (c.in_ok-by_link.ensures.played v.final v.at) in
    let w = second.next in
    let a = found_count work_schema (seen_state u.final) by_pay in
    let b = found_count work_schema (seen_state v.final) by_link in
    let many : c.div_ceil-commits.result + 2 ≡ (n + 19) / 20 + 2 =
    omega (arith, c.div_ceil-commits.ensures) in
    done_all g.B.View n s ((changes n ++ task.FindByPay ∷ []) ++ task.FindByLink ∷ [])
    v.final.commits
    c.answers-3.new.engine (built_of e) c.in_ok-summary_line.field-0 c.requires.few (three_parts n)
    (c.answers-3.ensures.keeps.schema ∙ c.answers-2.ensures.keeps.schema
    ∙ c.answers.ensures.keeps.schema
    ∙ c.requires.schema) (c.answers-3.ensures.keeps.built ∙ c.answers-2.ensures.keeps.built
    ∙ c.answers.ensures.keeps.built) w
    (line_of_last n ((n + 19) / 20 + 2) u.final v.final w.final c.in_ok-summary_line.field-0
    first.same
    second.same (w.commits_are ∙ v.commits_are ∙ u.commits_are)
    (c.in_ok-summary_line.ensures a b
    (subst (λ t. TellsCount t a) (sym c.as_slice-2.ensures)
    (find_tells u.final by_pay c.in_ok-by_pay.by_pay first.answered))
    (subst (λ t. TellsCount t b) (sym c.as_slice-3.ensures)
    (find_tells v.final by_link c.in_ok-by_link.by_link second.answered))
    ∙ ap (work_line n a b) many))

-- ---- what stays of the engine, and how failures are counted

pub returns-in_err-script-clause-keeps : goal.returns-in_err-script-clause-keeps
returns-in_err-script-clause-keeps g c =
    keeps_same g.B.View answers.Kept c.args.engine.now c.requires.ready

pub returns-in_err-by_pay-clause-keeps : goal.returns-in_err-by_pay-clause-keeps
returns-in_err-by_pay-clause-keeps g c =
    keeps_then g.B.View answers.Kept c.args.engine.now c.answers.new.engine c.answers-2.new.engine
    c.answers.ensures.keeps c.answers-2.ensures.keeps

pub returns-in_err-by_link-clause-keeps : goal.returns-in_err-by_link-clause-keeps
returns-in_err-by_link-clause-keeps g c =
    keeps_then g.B.View answers.Kept c.args.engine.now c.answers.new.engine c.answers-3.new.engine
    c.answers.ensures.keeps
    (keeps_then g.B.View answers.Kept c.answers.new.engine c.answers-2.new.engine
    c.answers-3.new.engine
    c.answers-2.ensures.keeps c.answers-3.ensures.keeps)

pub returns-in_err-summary_line-clause-keeps : goal.returns-in_err-summary_line-clause-keeps
returns-in_err-summary_line-clause-keeps g c =
    keeps_then g.B.View answers.Kept c.args.engine.now c.answers.new.engine c.answers-3.new.engine
    c.answers.ensures.keeps
    (keeps_then g.B.View answers.Kept c.answers.new.engine c.answers-2.new.engine
    c.answers-3.new.engine
    c.answers-2.ensures.keeps c.answers-3.ensures.keeps)

pub returns-clause-keeps : goal.returns-clause-keeps
returns-clause-keeps g c =
    keeps_then g.B.View answers.Kept c.args.engine.now c.answers.new.engine c.answers-3.new.engine
    c.answers.ensures.keeps
    (keeps_then g.B.View answers.Kept c.answers.new.engine c.answers-2.new.engine
    c.answers-3.new.engine
    c.answers-2.ensures.keeps c.answers-3.ensures.keeps)

pub returns-in_err-answers-clause-counts : goal.returns-in_err-answers-clause-counts
returns-in_err-answers-clause-counts g c =
    failed_end (List ℕ) _ _ _ c.in_err-answers.field-0.0 _ refl
    (is_err _ (ending_of c.in_err-answers.field-0.0) c.from_residual-in_err-answers.ensures.1)
    c.in_err-answers.ensures.counts

pub returns-in_err-by_pay-clause-counts : goal.returns-in_err-by_pay-clause-counts
returns-in_err-by_pay-clause-counts g c =
    failed_end (List ℕ) _ _ _ c.in_err-by_pay.field-0.0 _
    (c.in_ok-answers.ensures.counts.counted refl)
    (is_err _ (ending_of c.in_err-by_pay.field-0.0) c.from_residual-in_err-by_pay.ensures.1)
    c.in_err-by_pay.ensures.counts

pub returns-in_err-by_link-clause-counts : goal.returns-in_err-by_link-clause-counts
returns-in_err-by_link-clause-counts g c =
    failed_end (List ℕ) _ _ _ c.in_err-by_link.field-0.0 _
    (c.in_ok-by_pay.ensures.counts.counted refl ∙ c.in_ok-answers.ensures.counts.counted refl)
    (is_err _ (ending_of c.in_err-by_link.field-0.0) c.from_residual-in_err-by_link.ensures.1)
    c.in_err-by_link.ensures.counts

pub returns-clause-counts : goal.returns-clause-counts
returns-clause-counts g c =
    none_failed _ _ (c.in_ok-by_link.ensures.counts.counted refl
    ∙ c.in_ok-by_pay.ensures.counts.counted refl
    ∙ c.in_ok-answers.ensures.counts.counted refl)

-- ---- what a crash leaves

pub returns-in_err-script-clause-crash : goal.returns-in_err-script-clause-crash
returns-in_err-script-clause-crash g c = λ s at start calm.
    let e = c.args.engine.now in
    subst (λ (r : Result (List ℕ) Ending). LeavesLines g.B.View (built_of e) s c.args.records
    (is_fault r) (leaves_of e) (leaves_of e))
    (sym (is_err _ ending.NoMemory c.from_residual.ensures.1))
    (left_none g.B.View c.args.records s c.requires.few g.met.B.Leaves.calm_means
    g.met.B.Leaves.calm_now e c.requires.schema at start calm)

pub returns-in_err-answers-clause-crash : goal.returns-in_err-answers-clause-crash
returns-in_err-answers-clause-crash g c = λ s at start calm.
    let e = c.args.engine.now in
    let f = c.answers.new.engine in
    let n = c.args.records in
    let few = c.requires.few in
    let end = c.in_err-answers.field-0.0 in
    left_end g.B.View n s few (List ℕ) (built_of e) (leaves_of e) (leaves_of f) end _
    (is_err _ (ending_of end) c.from_residual-in_err-answers.ensures.1)
    (left_first g.B.View n s few e (leaves_of f) c.as_slice.result.now
    (is_play_fault {T = List ℕ} (Err end)) (c.as_slice.ensures ∙ c.in_ok-script.ensures)
    c.requires.schema (c.in_err-answers.ensures.crash (start_at s) at start calm))

pub returns-in_err-by_pay-clause-crash : goal.returns-in_err-by_pay-clause-crash
returns-in_err-by_pay-clause-crash g c = λ s at start calm.
    let e = c.args.engine.now in
    let f = c.answers.new.engine in
    let n = c.args.records in
    let few = c.requires.few in
    let u = after_changes g.B.View n s e f c.as_slice.result.now c.in_ok-answers.field-0 few
    c.requires.schema at (c.as_slice.ensures ∙ c.in_ok-script.ensures)
    (c.in_ok-answers.ensures.played (start_at s) at) in
    let one = left_first g.B.View n s few e (leaves_of f) c.as_slice.result.now false
    (c.as_slice.ensures ∙ c.in_ok-script.ensures) c.requires.schema
    (c.in_ok-answers.ensures.crash (start_at s) at start calm) in
    let end = c.in_err-by_pay.field-0.0 in
    let h = c.answers-2.new.engine in
    left_end g.B.View n s few (List ℕ) (built_of e) (leaves_of e) (leaves_of h) end _
    (is_err _ (ending_of end) c.from_residual-in_err-by_pay.ensures.1)
    (left_find g.B.View n s few (changes n) (task.FindByLink ∷ []) task.FindByPay
    ((n + 19) / 20 + 2) (leaves_of e) (leaves_of h) (built_of e) f
    (is_play_fault {T = List ℕ} (Err end)) tt (three_parts n)
    (c.answers.ensures.keeps.schema ∙ c.requires.schema) c.answers.ensures.keeps.built
    c.answers.ensures.keeps.head (c.answers.ensures.keeps.silent refl) u one
    (c.in_err-by_pay.ensures.crash u.final u.at (g.B.View.content (leaves_of f)) (one.calm refl)))

pub returns-in_err-by_link-clause-crash : goal.returns-in_err-by_link-clause-crash
returns-in_err-by_link-clause-crash g c = λ s at start calm.
    let e = c.args.engine.now in
    let f = c.answers.new.engine in
    let n = c.args.records in
    let few = c.requires.few in
    let u = after_changes g.B.View n s e f c.as_slice.result.now c.in_ok-answers.field-0 few
    c.requires.schema at (c.as_slice.ensures ∙ c.in_ok-script.ensures)
    (c.in_ok-answers.ensures.played (start_at s) at) in
    let one = left_first g.B.View n s few e (leaves_of f) c.as_slice.result.now false
    (c.as_slice.ensures ∙ c.in_ok-script.ensures) c.requires.schema
    (c.in_ok-answers.ensures.crash (start_at s) at start calm) in
    let h = c.answers-2.new.engine in
    let found = after_find g.B.View s (changes n) task.FindByPay ((n + 19) / 20 + 2) f h
    c.in_ok-by_pay.by_pay tt (c.answers.ensures.keeps.schema ∙ c.requires.schema) u
    (c.in_ok-by_pay.ensures.played u.final u.at) in
    let v = found.next in
    let two = left_find g.B.View n s few (changes n) (task.FindByLink ∷ []) task.FindByPay
    ((n + 19) / 20 + 2) (leaves_of e) (leaves_of h) (built_of e) f false tt (three_parts n)
    (c.answers.ensures.keeps.schema ∙ c.requires.schema) c.answers.ensures.keeps.built
    c.answers.ensures.keeps.head (c.answers.ensures.keeps.silent refl) u one
    (c.in_ok-by_pay.ensures.crash u.final u.at (g.B.View.content (leaves_of f)) (one.calm refl)) in
    let both = keeps_then g.B.View answers.Kept e f h c.answers.ensures.keeps
    c.answers-2.ensures.keeps in
    let end = c.in_err-by_link.field-0.0 in
    let k = c.answers-3.new.engine in
    left_end g.B.View n s few (List ℕ) (built_of e) (leaves_of e) (leaves_of k) end _
    (is_err _ (ending_of end) c.from_residual-in_err-by_link.ensures.1)
    (left_find g.B.View n s few (changes n ++ task.FindByPay ∷ []) [] task.FindByLink
    u.final.commits (leaves_of e) (leaves_of k) (built_of e) h
    (is_play_fault {T = List ℕ} (Err end)) tt (three_parts n ∙ sym (append-nil _))
    (both.schema ∙ c.requires.schema) both.built both.head (both.silent refl) v two
    (c.in_err-by_link.ensures.crash v.final v.at (g.B.View.content (leaves_of h)) (two.calm refl)))

pub returns-in_err-summary_line-clause-crash : goal.returns-in_err-summary_line-clause-crash
returns-in_err-summary_line-clause-crash g c = λ s at start calm.
    let e = c.args.engine.now in
    let f = c.answers.new.engine in
    let n = c.args.records in
    let few = c.requires.few in
    let u = after_changes g.B.View n s e f c.as_slice.result.now c.in_ok-answers.field-0 few
    c.requires.schema at (c.as_slice.ensures ∙ c.in_ok-script.ensures)
    (c.in_ok-answers.ensures.played (start_at s) at) in
    let one = left_first g.B.View n s few e (leaves_of f) c.as_slice.result.now false
    (c.as_slice.ensures ∙ c.in_ok-script.ensures) c.requires.schema
    (c.in_ok-answers.ensures.crash (start_at s) at start calm) in
    let h = c.answers-2.new.engine in
    let found = after_find g.B.View s (changes n) task.FindByPay ((n + 19) / 20 + 2) f h
    c.in_ok-by_pay.by_pay tt (c.answers.ensures.keeps.schema ∙ c.requires.schema) u
    (c.in_ok-by_pay.ensures.played u.final u.at) in
    let v = found.next in
    let two = left_find g.B.View n s few (changes n) (task.FindByLink ∷ []) task.FindByPay
    ((n + 19) / 20 + 2) (leaves_of e) (leaves_of h) (built_of e) f false tt (three_parts n)
    (c.answers.ensures.keeps.schema ∙ c.requires.schema) c.answers.ensures.keeps.built
    c.answers.ensures.keeps.head (c.answers.ensures.keeps.silent refl) u one
    (c.in_ok-by_pay.ensures.crash u.final u.at (g.B.View.content (leaves_of f)) (one.calm refl)) in
    let both = keeps_then g.B.View answers.Kept e f h c.answers.ensures.keeps
    c.answers-2.ensures.keeps in
    let k = c.answers-3.new.engine in
    let three = left_find g.B.View n s few (changes n ++ task.FindByPay ∷ []) [] task.FindByLink
    u.final.commits (leaves_of e) (leaves_of k) (built_of e) h false tt
    (three_parts n ∙ sym (append-nil _)) (both.schema ∙ c.requires.schema) both.built both.head
    (both.silent refl) v two
    (c.in_ok-by_link.ensures.crash v.final v.at (g.B.View.content (leaves_of h)) (two.calm refl)) in
    subst (λ (r : Result (List ℕ) Ending). LeavesLines g.B.View (built_of e) s n (is_fault r)
    (leaves_of e) (leaves_of k))
    (sym (is_err _ ending.NoMemory c.from_residual-in_err-summary_line.ensures.1)) three

pub returns-clause-crash : goal.returns-clause-crash
returns-clause-crash g c = λ s at start calm.
    let e = c.args.engine.now in
    let f = c.answers.new.engine in
    let n = c.args.records in
    let few = c.requires.few in
    let u = after_changes g.B.View n s e f c.as_slice.result.now c.in_ok-answers.field-0 few
    c.requires.schema at (c.as_slice.ensures ∙ c.in_ok-script.ensures)
    (c.in_ok-answers.ensures.played (start_at s) at) in
    let one = left_first g.B.View n s few e (leaves_of f) c.as_slice.result.now false
    (c.as_slice.ensures ∙ c.in_ok-script.ensures) c.requires.schema
    (c.in_ok-answers.ensures.crash (start_at s) at start calm) in
    let h = c.answers-2.new.engine in
    let found = after_find g.B.View s (changes n) task.FindByPay ((n + 19) / 20 + 2) f h
    c.in_ok-by_pay.by_pay tt (c.answers.ensures.keeps.schema ∙ c.requires.schema) u
    (c.in_ok-by_pay.ensures.played u.final u.at) in
    let v = found.next in
    let two = left_find g.B.View n s few (changes n) (task.FindByLink ∷ []) task.FindByPay
    ((n + 19) / 20 + 2) (leaves_of e) (leaves_of h) (built_of e) f false tt (three_parts n)
    (c.answers.ensures.keeps.schema ∙ c.requires.schema) c.answers.ensures.keeps.built
    c.answers.ensures.keeps.head (c.answers.ensures.keeps.silent refl) u one
    (c.in_ok-by_pay.ensures.crash u.final u.at (g.B.View.content (leaves_of f)) (one.calm refl)) in
    let both = keeps_then g.B.View answers.Kept e f h c.answers.ensures.keeps
    c.answers-2.ensures.keeps in
    let k = c.answers-3.new.engine in
    left_find g.B.View n s few (changes n ++ task.FindByPay ∷ []) [] task.FindByLink
    u.final.commits (leaves_of e) (leaves_of k) (built_of e) h false tt
    (three_parts n ∙ sym (append-nil _)) (both.schema ∙ c.requires.schema) both.built both.head
    (both.silent refl) v two
    (c.in_ok-by_link.ensures.crash v.final v.at (g.B.View.content (leaves_of h)) (two.calm refl))
