-- A request that nothing hinders is carried out, or there was no memory.
use Rattle.std.proofs.Common.{◌≡◌, ◌∙◌, ℕ, ◌≤◌, List, [], ◌∷◌, ◌++◌, length, Bool, false, Option, Some, None, Ok, refl, sym, ap, subst, inl}
use Rattle.std.specs.Prelude.{◌≢◌}
use Rattle.gx_device.specs.Content.{Content, Texts}
use Rattle.gx_schema.specs.declared.schema.Schema.{Schema}
use Rattle.gx_schema.specs.Grammar.{IsSchemaText}
use Rattle.gx_schema.proofs.SchemaLaws.{one_schema}
use Rattle.gx_commands.specs.declared.command.Command.{Command}
use Rattle.gx_commands.specs.declared.command.Command.TheVariants as command
use Rattle.gx_commands.specs.Commands.{inside_after}
use Rattle.gx_commands.specs.Lines.{script_lines}
use Rattle.gx_ports.specs.LeafMaps.{Limits}
use Rattle.gx_equation.specs.Trees.{DefinitionTree}
use Rattle.gx_model.specs.States.{State, empty_state}
use Rattle.gx_model.specs.Play.{Playing, good, end_at, start_at, is_inside, after_command}
use Rattle.gx_model.proofs.RunLemmas.{some_after}
use Rattle.gx_work.specs.Schema.{work_schema}
use Rattle.gx_work.specs.Workload.{work_script}
use Rattle.gx_work.proofs.SchemaLemmas.{schema_means}
use Rattle.gx_work.proofs.WorkLemmas.{script_plays}
use Rattle.gx_play.specs.declared.lines.Asked.{Asked}
use Rattle.gx_play.specs.declared.lines.Asked.TheVariants as asked
use Rattle.gx_play.specs.Asked.{IsAsked, Runs, after_asked, inside_behind}
use Rattle.gx_play.specs.Played.{IsPlay, MayBeFull}
use Rattle.gx_play.specs.Player.{IsDueOf, line_play}
use Rattle.gx_play.specs.ScriptEnds.{AreGood}
use Rattle.gx_play.specs.declared.status.Status.{Status}
use Rattle.gx_play.specs.declared.status.Status.TheVariants as status
use Rattle.gx_requests.specs.Words.{Action, checking, trying, explaining, making, running, sharing, inspecting, working}
use Rattle.gx_operations.specs.Given.{Given, limit_of}
use Rattle.gx_operations.specs.Settled.{limits_on}
use Rattle.gx_operations.proofs.ExplainedLemmas.{good_explained}
use Rattle.gx_top.specs.Complete.{HasGoodLines, IsReady, IsUnhindered, IsDoneOrMemory}
use Rattle.gx_top.specs.Promised.{IsGiven, CarriesOut}
use Rattle.gx_play.proofs.AskedLemmas.{step_of, command_play}
use Rattle.gx_top.proofs.PlayedLemmas.{some_text}
use Rattle.gx_shares.specs.Player.{texts_of}
use Rattle.gx_top.proofs.GoodTurnLemmas.{good_share}
use Rattle.gx_top.proofs.NeedLemmas.{never_full}

-- ---- good lines run

inside_again : (schema : Schema) (p : Playing) (c : Command)
    → is_inside (after_command schema p c) ≡ inside_after (is_inside p) c
inside_again schema p command.Begin = refl
inside_again schema p command.Commit = refl
inside_again schema p command.Abort = refl
inside_again schema p (command.Insert file values) = some_after p.working _
inside_again schema p (command.Get file key) = some_after p.working _
inside_again schema p (command.Update file key changes) = some_after p.working _
inside_again schema p (command.Delete file key) = some_after p.working _
inside_again schema p (command.Connect link owner member) = some_after p.working _
inside_again schema p (command.Disconnect link member) = some_after p.working _
inside_again schema p (command.Members link owner order) = some_after p.working _
inside_again schema p (command.Owner link member) = some_after p.working _
inside_again schema p (command.Find q) = some_after p.working _
inside_again schema p (command.ReorganizeFile file) = some_after p.working _
inside_again schema p (command.ReorganizeLink link) = some_after p.working _
inside_again schema p command.Nothing = some_after p.working _

inside_also : (schema : Schema) (p : Playing) (a : Asked)
    → is_inside (after_asked schema p a) ≡ inside_behind (is_inside p) a
inside_also schema p (asked.Command c) = inside_again schema p c
inside_also schema p (asked.Path q) = refl

-- where they end up, and whether a transaction is open there
record HaveRun (schema : Schema) (p : Playing) (lines : List (List ℕ))
    (behind : Bool) : Type 0 where
  answers : List ℕ
  final : Playing
  runs : Runs schema p lines answers final
  behind_is : is_inside final ≡ behind

run_good : (schema : Schema) (p : Playing) (lines : List (List ℕ)) (inside behind : Bool)
    → inside ≡ is_inside p → AreGood schema inside lines behind → HaveRun schema p lines behind
run_good schema p [] inside behind at is = record {
  answers = [];
  final = p;
  runs = (refl, refl);
  behind_is = sym (is ∙ at);
}
run_good schema p (line ∷ lines) inside behind at is =
    let a = is.0 in
    let answer = some_text schema p a in
    let rest = run_good schema (after_asked schema p a) lines (inside_behind inside a) behind
    (ap (λ b. inside_behind b a) at ∙ sym (inside_also schema p a)) is.2 in
    record {
      answers = answer.0 ++ rest.answers;
      final = rest.final;
      runs = (
        answer.0,
        rest.answers,
        after_asked schema p a,
        step_of schema p line answer.0 a (subst (λ b. IsAsked schema b line a) at is.1) answer.1,
        rest.runs,
        refl,
      );
      behind_is = rest.behind_is;
    }

-- so their script plays to a good end
abbrev PlaysWell : Schema → State → List ℕ → Type 0
PlaysWell schema start script =
    (answers : List ℕ) × (final : Playing) × IsPlay schema start script answers final good

good_plays : (schema : Schema) (start : State) (script : List ℕ)
    → HasGoodLines schema script false → PlaysWell schema start script
good_plays schema start script is =
    let all = (script_lines script).lines in
    let run = run_good schema (start_at start) all false false refl is.good in (
      run.answers,
      run.final,
      record {
        ran = all;
        next = Ok None;
        first = (refl, is.all);
        runs = run.runs;
        ends = sym (ap (end_at (length all)) run.behind_is);
      },
    )

-- ---- Done is due

-- no play over leaves without a limit is full
none_full : (schema : Schema) (ds : List DefinitionTree) (start : State) (script answers : List ℕ)
    (m : Playing) → ¬ MayBeFull schema ds None start script answers m
none_full schema ds start script answers m full = full.short.short

due_of : (schema : Schema) (ds : List DefinitionTree) (limit : Option Limits) (start : State)
    (script : List ℕ)
    → ((answers : List ℕ) (m : Playing) → ¬ MayBeFull schema ds limit start script answers m)
    → PlaysWell schema start script
    → IsDueOf (line_play schema ds limit start script) status.Done
due_of schema ds limit start script roomy plays = (roomy, plays.0, plays.1, plays.2)

-- the workload is played under its own schema
work_plays : (words : List (List ℕ)) (texts : Texts) (device digits number : List ℕ) (records : ℕ)
    (g : Given) → IsGiven words texts (working device digits number) g → records ≤ 10000
    → PlaysWell g.schema (empty_state g.schema) (work_script records)
work_plays words texts device digits number records g given few =
    let own = one_schema given.0 work_schema g.schema
    (subst (λ t. IsSchemaText t work_schema) (sym given.2.schema_there) schema_means)
    given.3.read.schema_means in
    let plays = script_plays records (empty_state g.schema) few in (
      plays.answers,
      plays.final,
      subst (λ (k : Schema). IsPlay k (empty_state g.schema) (work_script records) plays.answers
          plays.final good) own (command_play work_schema (start_at (empty_state g.schema))
          (script_lines (work_script records)) plays.answers plays.final plays.play),
    )

carried : (words : List (List ℕ)) (old new : Content) (s : Status) (a : Action) (g : Given)
    → IsGiven words old.aside.texts a g → IsReady a g old → CarriesOut a g old new s
    → s ≢ status.Outside → IsDoneOrMemory s
carried words old new s checking g given ready done out = done.due status.Done refl out
carried words old new s trying g given ready done out =
    done.due status.Done (due_of g.schema g.definitions None (empty_state g.schema) old.script
    (none_full g.schema g.definitions (empty_state g.schema) old.script)
    (good_plays g.schema (empty_state g.schema) old.script ready)) out
carried words old new s explaining g given ready done out =
    let plans = good_explained g old.script ready.0 old ready.1.good ready.1.all in
    done.due status.Done (plans.0, [], inl refl, plans.1) out
carried words old new s (making device digits) g given ready done out =
    let kept = (done ready.0 ready.1).makable ready.2.size ready.2.free in
    kept.due status.Done refl out
carried words old new s (running device) g given ready done out =
    let start = ready.1.start in
    let limit = limit_of g ready.1.held.0 in
    let kept = done.held start ready.1.held in
    kept.due status.Done (due_of g.schema g.definitions (Some limit) start old.script
    (λ answers m. never_full g.schema g.definitions limit start old.script answers m
    ready.1.enough)
    (good_plays g.schema start old.script ready.0)) out
carried words old new s (sharing device) g given ready done out =
    let kept = done.held ready.1.start ready.1.held in
    let play = good_share g.schema ready.1.start old.script ready.0 in
    kept.due status.Done (ready.1.roomy, texts_of play.0, play.1, (play.0, play.2, refl)) out
carried words old new s (inspecting device) g given ready done out =
    let kept = done.sound ready.0 ready.1 in
    kept.due status.Done refl out
carried words old new s (working device digits number) g given ready done out =
    let script = work_script ready.1 in
    let limit = limits_on g.typing.specs ready.0 in
    let kept = (done ready.0 ready.1 ready.2 ready.3).makable ready.4.size ready.4.free in
    kept.due status.Done (due_of g.schema g.definitions (Some limit) (empty_state g.schema) script
    (λ answers m. never_full g.schema g.definitions limit (empty_state g.schema) script answers m
    ready.5)
    (work_plays words old.aside.texts device digits number ready.1 g given ready.3.few)) out

pub done_or_memory : (words : List (List ℕ)) (old new : Content) (before now : ℕ) (s : Status)
    → IsUnhindered words old new before now s → IsDoneOrMemory s
done_or_memory words old new before now s x =
    carried words old new s x.action x.given x.is x.ready
    (x.promised.accepted x.action x.given x.is)
    (λ is. x.no_fault (x.counted.outside is))
