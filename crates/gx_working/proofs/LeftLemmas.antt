-- What a crash leaves while the workload is played: part by part, over an engine.
use Rattle.std.proofs.Common.{◌≡◌, ◌∙◌, ℕ, ◌≤◌, Bool, false, List, [], ◌∷◌, ◌++◌, map, Result, Err, refl, sym, ap, subst, append-nil}
use Rattle.gx_device.specs.Content.{Content, Silent}
use Rattle.gx_schema.specs.declared.schema.Schema.{Schema}
use Rattle.gx_commands.specs.Lines.{Lines, script_lines}
use Rattle.gx_ports.specs.Calm.{StaysKept}
use Rattle.gx_ports.specs.declared.stop.Stop.TheVariants as stop
use Rattle.gx_ports.specs.declared.view.View.{Ghosts}
use Rattle.gx_types.specs.declared.built.Built.{Built}
use Rattle.gx_model.specs.Play.{start_at}
use Rattle.gx_model.specs.States.{State}
use Rattle.gx_play.specs.Plays.{Engine}
use Rattle.gx_play.specs.Plays.{IsAt, schema_of, built_of, leaves_of, is_play_fault}
use Rattle.gx_play.specs.declared.ending.Ending.{Ending}
use Rattle.gx_play.specs.declared.play.PlayEnd.{PlayEnd}
use Rattle.gx_play.specs.declared.play.PlayEnd.TheVariants as play_end
use Rattle.gx_play.specs.declared.play.Answers.TheVariants as answers
use Rattle.gx_play.specs.Endings.{ending_of, is_outside, is_fault}
use Rattle.gx_play.specs.Images.{LeavesPlay}
use Rattle.gx_work.specs.declared.task.Task.{Task}
use Rattle.gx_work.specs.declared.task.Task.TheVariants as task
use Rattle.gx_work.specs.Schema.{work_schema}
use Rattle.gx_work.specs.Workload.{lines_text, changes, tasks, work_script}
use Rattle.gx_work.proofs.LineLemmas.{line_of}
use Rattle.gx_work.proofs.RunLemmas.{IsFind}
use Rattle.gx_work.proofs.WorkLemmas.{task_lines}
use Rattle.gx_working.specs.Crashes.{LeavesLines, LeavesWork}
use Rattle.gx_working.proofs.WorkedLemmas.{IsUpTo, AreFew, parts_of_all}
use Rattle.gx_working.proofs.DoneLemmas.{changes_few, find_few}
use Rattle.gx_working.proofs.PartLemmas.{leaves_none, leaves_first, leaves_then}

-- how the request ends where a play does, and whether a call failed
fault_end : (U : Type 0) (end : PlayEnd)
    → is_play_fault {T = U} (Err end) ≡ is_outside (ending_of end)
fault_end U (play_end.Line number why) = refl
fault_end U (play_end.Stop stop.NoMemory) = refl
fault_end U (play_end.Stop stop.Full) = refl
fault_end U (play_end.Stop stop.Fault) = refl
fault_end U (play_end.Stop (stop.Damaged block)) = refl

module _ {S : Type 0} (g : Ghosts S) (n : ℕ) (s : State) (le : n ≤ 10000) where
  -- the lines of a part, before and behind others
  part_lines : (done ts later : List Task) → AreFew ts → tasks n ≡ done ++ ts ++ later
      → (script_lines (work_script n)).lines
      ≡ (map line_of done ++ (script_lines (lines_text ts)).lines) ++ map line_of later
  part_lines done ts later few all =
      let mine = (script_lines (lines_text ts)).lines in
      parts_of_all n done ts later mine [] le all
      (ap (λ (ls : Lines). ls.lines) (sym (task_lines ts few.small few.few)) ∙ sym (append-nil mine))

  -- a play of its lines, as the ending of the request has it
  pub left_end : {T : Type 0} (U : Type 0) (built : Built) (a b : S) (end : PlayEnd)
      (result : Result T Ending) → result ≡ Err (ending_of end)
      → LeavesLines g built s n (is_play_fault {T = U} (Err end)) a b
      → LeavesLines g built s n (is_fault result) a b
  left_end {T = T} U built a b end result is leaves =
      subst (λ (r : Result T Ending). LeavesLines g built s n (is_fault r) a b) (sym is)
      (subst (λ (f : Bool). LeavesLines g built s n f a b) (fault_end U end) leaves)

  -- before the script is played
  pub left_none : ((l : S) (start : Content) → g.calm l start → StaysKept g l start)
      → ((l : S) (start : Content) → g.calm l start → g.calm l (g.content l)) → (e : Engine S)
      → schema_of e ≡ work_schema → IsAt g (start_at s) e → (start : Content)
      → g.calm (leaves_of e) start
      → LeavesLines g (built_of e) s n false (leaves_of e) (leaves_of e)
  left_none means goes_on e schema_is at start calm =
      subst (λ (k : Schema). LeavesPlay g k (built_of e) answers.Kept (start_at s)
      (script_lines (work_script n)).lines false (leaves_of e) (leaves_of e)) schema_is
      (leaves_none g (schema_of e) (built_of e) (start_at s) (script_lines (work_script n)).lines
      means goes_on (leaves_of e)
      (λ blocks stored. record {
        maps = g.kept (leaves_of e);
        internal = at.stands.kept_is;
        is = stored.is;
        laid = stored.laid_is at.kept_whole_is;
      }) start calm)

  -- all that changes something
  pub left_first : (e : Engine S) (b : S) (script : List ℕ) (failed : Bool)
      → script ≡ lines_text (changes n) → schema_of e ≡ work_schema
      → LeavesPlay g (schema_of e) (built_of e) answers.Kept (start_at s)
      (script_lines script).lines failed (leaves_of e) b
      → LeavesLines g (built_of e) s n failed (leaves_of e) b
  left_first e b script failed script_is schema_is leaves =
      leaves_first g work_schema (built_of e) (start_at s) (script_lines (work_script n)).lines
      (start_at s) [] (script_lines (lines_text (changes n))).lines
      (map line_of (task.FindByPay ∷ task.FindByLink ∷ [])) []
      (part_lines [] (changes n) (task.FindByPay ∷ task.FindByLink ∷ []) (changes_few n le) refl)
      (refl, refl) failed (leaves_of e) b
      (subst (λ (t : List ℕ). LeavesPlay g work_schema (built_of e) answers.Kept (start_at s)
      (script_lines t).lines failed (leaves_of e) b) script_is
      (subst (λ (k : Schema). LeavesPlay g k (built_of e) answers.Kept (start_at s)
      (script_lines script).lines failed (leaves_of e) b) schema_is leaves))

  -- a find behind these tasks
  pub left_find : (done later : List Task) (t : Task) (commits : ℕ) (a c : S) (built : Built)
      (e : Engine S) (failed : Bool) → IsFind t → tasks n ≡ done ++ t ∷ [] ++ later
      → schema_of e ≡ work_schema → built_of e ≡ built → g.head (leaves_of e) ≡ g.head a
      → Silent (g.content a) (g.content (leaves_of e)) → (u : IsUpTo g s done commits e)
      → LeavesLines g built s n false a (leaves_of e)
      → LeavesPlay g (schema_of e) (built_of e) answers.Kept u.final
      (script_lines (lines_text (t ∷ []))).lines failed (leaves_of e) c
      → LeavesLines g built s n failed a c
  left_find done later t commits a c built e failed find all schema_is built_is head silent u first
      leaves =
      leaves_then g work_schema built (start_at s) (script_lines (work_script n)).lines u.final
      (map line_of done) (script_lines (lines_text (t ∷ []))).lines (map line_of later) u.text
      (part_lines done (t ∷ []) later (find_few t find) all) u.runs failed a (leaves_of e) c head
      silent first
      (subst (λ (b : Built). LeavesPlay g work_schema b answers.Kept u.final
      (script_lines (lines_text (t ∷ []))).lines failed (leaves_of e) c) built_is
      (subst (λ (k : Schema). LeavesPlay g k (built_of e) answers.Kept u.final
      (script_lines (lines_text (t ∷ []))).lines failed (leaves_of e) c) schema_is leaves))

  -- the leaves that the engine was started on, and that it hands back
  pub left_moved : (built other : Built) (failed : Bool) (a b c d : S) → built ≡ other → a ≡ b
      → d ≡ c → LeavesLines g built s n failed a c → LeavesLines g other s n failed b d
  left_moved built other failed a b c d same first last leaves =
      subst (λ (l : S). LeavesLines g other s n failed b l) (sym last)
      (subst (λ (l : S). LeavesLines g other s n failed l c) first
      (subst (λ (x : Built). LeavesLines g x s n failed a c) same leaves))

  -- and each image of them
  pub left_over : ((l : S) (start : Content) → g.calm l start → StaysKept g l start)
      → (built : Built) (failed : Bool) (a b : S) → LeavesLines g built s n failed a b
      → LeavesWork g built s n failed a b
  left_over means built failed a b leaves = record {
    play = leaves;
    each = λ none image is. ((means b (g.content b) (leaves.calm none)).last image is).is;
  }
