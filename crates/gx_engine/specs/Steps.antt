-- What one command does to an engine, over any leaves.
use Rattle.std.specs.Prelude.{◌≡◌, ℕ, ◌+◌, ◌^◌, ◌<◌, ◌≤◌, List, length, Bool, true, false, Option, Some, None, IsSome, Result, Ok, Err, OnOk, OnErr}
use Rattle.gx_device.specs.Content.{Silent}
use Rattle.gx_device.specs.Faults.{Rose}
use Rattle.gx_schema.specs.declared.schema.Schema.{Schema}
use Rattle.gx_commands.specs.declared.command.Command.{Command}
use Rattle.gx_commands.specs.declared.command.Command.TheVariants as command
use Rattle.gx_commands.specs.Commands.{conds_of, inside_after, place_reason, IsOfSchema}
use Rattle.gx_ports.specs.Stops.{is_outside, is_fault, HasStopCause}
use Rattle.gx_ports.specs.declared.stop.Stop.{Stop}
use Rattle.gx_ports.specs.declared.stop.Stop.TheVariants as stop
use Rattle.gx_ports.specs.declared.view.View.{Ghosts}
use Rattle.gx_ports.specs.LeafMaps.{entry_count, IsCrowdedBy}
use Rattle.gx_ports.specs.Calls.{Keeps, Talks}
use Rattle.gx_mapping.specs.Rule.{In}
use Rattle.gx_stack.specs.Tree.{leaves_of as tree_leaves, kids_leaves}
use Rattle.gx_types.specs.declared.built.Built.{Built}
use Rattle.gx_types.specs.Links.{link_kids_at}
use Rattle.gx_types.specs.Nodes.{tree_at}
use Rattle.gx_model.specs.Play.{Playing, seen_state, after_command}
use Rattle.gx_engine.specs.declared.engine.Engine.{Engine}
use Rattle.gx_engine.specs.declared.engine.StepStop.{StepStop}
use Rattle.gx_engine.specs.declared.engine.StepStop.TheVariants.{Now, Stopped}
pub use Rattle.gx_states.specs.Internal.{AreFor, state_entries}
use Rattle.gx_answers.specs.Work.{IsBounded}
use Rattle.gx_engine.specs.Moments.{Stands, IsCarried, MayWantRoom}

-- ---- what contracts see of an engine

abbrev pub schema_of : {S : Type 0} → Engine S → Schema
schema_of e = e.schema

-- how its files and its links are stored
abbrev pub built_of : {S : Type 0} → Engine S → Built
built_of e = e.built

abbrev pub leaves_of : {S : Type 0} → Engine S → S
leaves_of e = e.leaves

-- whether a transaction is open
abbrev pub is_open : {S : Type 0} → Engine S → Bool
is_open e = e.inside

-- how many commits there were, up to 2 ^ 64 - 1
abbrev pub commits_of : {S : Type 0} → Engine S → ℕ
commits_of e = e.commits

-- the first stop, which is kept
abbrev pub stop_of : {S : Type 0} → Engine S → Option Stop
stop_of e = e.stopped

-- an engine that begins: over these leaves, with no transaction open, no commit and no stop
pub record Begins {S : Type 0} (schema : Schema) (built : Built) (leaves : S) (e : Engine S)
    : Type 0 where
  pub schema_is : schema_of e ≡ schema
  pub built_is : built_of e ≡ built
  pub leaves_are : leaves_of e ≡ leaves
  pub shut : is_open e ≡ false
  pub no_commits : commits_of e ≡ 0
  pub no_stop : stop_of e ≡ None

-- its schema can be stored as it is built
abbrev pub IsReady : {S : Type 0} → Ghosts S → Engine S → Type 0
IsReady g e = AreFor (schema_of e) (built_of e) (length (g.working (leaves_of e)))

-- the command is of the schema, may stand where the engine is, and has conditions that a plan can
-- number
pub record IsDue {S : Type 0} (e : Engine S) (c : Command) : Type 0 where
  pub of_schema : IsOfSchema (schema_of e) c
  pub few : length (conds_of c) < 2 ^ 16
  pub allowed : place_reason (is_open e) c ≡ None

-- the engine's leaves stand for a moment of the play
abbrev pub StandsFor : {S : Type 0} → Ghosts S → Engine S → Playing → Type 0
StandsFor g e p =
    Stands (schema_of e) (built_of e) (is_open e) (commits_of e) (g.working (leaves_of e))
    (g.kept (leaves_of e)) p

-- so they do, and they are whole
pub record IsAt {S : Type 0} (g : Ghosts S) (p : Playing) (e : Engine S) : Type 0 where
  pub stands : StandsFor g e p
  pub whole_is : g.whole (leaves_of e)
  pub kept_whole_is : g.kept_whole (leaves_of e)

-- the engine's leaves are whole and stand for some moment
abbrev pub IsSound : {S : Type 0} → Ghosts S → Engine S → Type 0
IsSound g e = (p : Playing) × IsAt g p e

-- the command may want room, and the pages may not be enough for the entries that there are and
-- those of what comes after it
abbrev pub IsShortFor : {S : Type 0} → Ghosts S → Engine S → Playing → Command → Type 0
IsShortFor g e p c =
    MayWantRoom (schema_of e) p c
    × IsCrowdedBy (g.limit (leaves_of e))
    (entry_count (g.working (leaves_of e))
    + state_entries (built_of e) (seen_state (after_command (schema_of e) p c)))

-- ---- one command

-- the command was carried out: its answer was appended, and the engine stands for what comes after
-- it
abbrev pub CarriesOut : {S : Type 0} → Ghosts S → Playing → Command → Engine S → Engine S → List ℕ
    → List ℕ → Type 0
CarriesOut g p c old new out now =
    IsCarried (schema_of old) (built_of old) p c out now (is_open new) (commits_of new)
    (g.working (leaves_of new)) (g.kept (leaves_of new))

-- each of the leaves with these numbers is fresh
abbrev pub IsFresh : {S : Type 0} → Ghosts S → Engine S → List ℕ → Type 0
IsFresh g e numbers = (leaf : ℕ) → In leaf numbers → g.fresh (leaves_of e) leaf

-- after a file or a link was reorganized, each leaf of its nodes is fresh
abbrev pub AreFresh : {S : Type 0} → Ghosts S → Command → Engine S → Type 0
AreFresh g (command.ReorganizeFile file) e =
    IsFresh g e (tree_leaves (tree_at (built_of e).files file))
AreFresh g (command.ReorganizeLink link) e =
    IsFresh g e (kids_leaves (link_kids_at (built_of e).links link))
AreFresh g _ e = Unit {0}

abbrev pub is_commit : Command → Bool
is_commit command.Commit = true
is_commit _ = false

-- whether the command may select entries
abbrev pub selects : Command → Bool
selects command.Begin = false
selects command.Commit = false
selects command.Abort = false
selects command.Nothing = false
selects _ = true

-- what a command keeps of the engine and of its leaves
pub record KeepsEngine {S E : Type 0} (g : Ghosts S) (old new : Engine S) (c : Command)
    (result : Result (Unit {0}) E) : Type 0 where
  pub schema : schema_of new ≡ schema_of old
  pub built : built_of new ≡ built_of old
  pub inside : OnOk result (is_open new ≡ inside_after (is_open old) c)
  pub inside_stays : OnErr result (is_open new ≡ is_open old)
  pub commits_stay : OnErr result (commits_of new ≡ commits_of old)
  pub leaves : length (g.working (leaves_of new)) ≡ length (g.working (leaves_of old))
  pub limit : g.limit (leaves_of new) ≡ g.limit (leaves_of old)
  pub head : g.head (leaves_of new) ≡ g.head (leaves_of old)
  pub silent : Silent (g.content (leaves_of old)) (g.content (leaves_of new))
  pub whole : OnOk result (g.whole (leaves_of old) → g.kept_whole (leaves_of old)
      → g.whole (leaves_of new))
  pub kept_whole : OnOk result (g.whole (leaves_of old) → g.kept_whole (leaves_of old)
      → g.kept_whole (leaves_of new))
  pub keeps : is_commit c ≡ false → Keeps g (leaves_of old) (leaves_of new)
  pub work : selects c ≡ false → g.work (leaves_of new) ≡ g.work (leaves_of old)

-- the steps of a command that was carried out are bounded by what the state has that it sees
abbrev pub TakesFewSteps : {S E : Type 0} → Ghosts S → Command → Engine S → Engine S
    → Result (Unit {0}) E → Type 0
TakesFewSteps g c old new result =
    (p : Playing) → IsAt g p old
    → OnOk result (IsBounded (schema_of old) (built_of old) (length (g.working (leaves_of old)))
    (seen_state p) c (g.work (leaves_of old)) (g.work (leaves_of new)))

-- What a command leaves and how it ends: the leaves of what was reorganized are fresh; a stop says
-- nothing, and where it isn't a fault, what was last committed stays. Damage is found only where
-- the leaves stood for no moment, of block 0 where each is whole.
pub record EndsCommand {S : Type 0} (g : Ghosts S) (old new : Engine S) (c : Command)
    (out now : List ℕ) (result : Result (Unit {0}) Stop) : Type 0 where
  pub keeps : KeepsEngine g old new c result
  pub stopped : stop_of new ≡ stop_of old
  pub fresh : g.whole (leaves_of old) → OnOk result (AreFresh g c new)
  pub unsaid : OnErr result (now ≡ out)
  pub kept : is_fault result ≡ false → OnErr result (Keeps g (leaves_of old) (leaves_of new))
  pub cause : HasStopCause (g.faults (leaves_of old)) (g.faults (leaves_of new))
      (IsSound g old) result
  pub block : (n : ℕ) → result ≡ Err (stop.Damaged n) → g.whole (leaves_of old) → n ≡ 0

-- what one command does: on Ok it was carried out, and Full comes only of a command that may want
-- room, for which the pages may not be enough
pub record IsStep {S : Type 0} (g : Ghosts S) (old new : Engine S) (c : Command) (out now : List ℕ)
    (result : Result (Unit {0}) Stop) : Type 0 where
  pub carried : (p : Playing) → IsAt g p old → OnOk result (CarriesOut g p c old new out now)
  pub full : (p : Playing) → IsAt g p old → result ≡ Err stop.Full → IsShortFor g old p c
  pub ends : EndsCommand g old new c out now result

-- whether the step answers that the outside failed in it
abbrev pub is_fault_now : Result (Unit {0}) StepStop → Bool
is_fault_now (Err (Now why)) = is_outside why
is_fault_now _ = false

-- How a step ends: the count of faults never falls, `Now(Fault)` comes only where it rose, and with
-- any other answer it stays. Damage is found only where the leaves stood for no moment, of block 0
-- where each is whole.
pub record HasStepCause {S : Type 0} (g : Ghosts S) (old new : Engine S)
    (result : Result (Unit {0}) StepStop) : Type 0 where
  pub later : g.faults (leaves_of old) ≤ g.faults (leaves_of new)
  pub fault : result ≡ Err (Now stop.Fault)
      → Rose (g.faults (leaves_of old)) (g.faults (leaves_of new))
  pub counted : is_fault_now result ≡ false → g.faults (leaves_of new) ≡ g.faults (leaves_of old)
  pub damaged : (block : ℕ) → result ≡ Err (Now (stop.Damaged block)) → ¬ IsSound g old
  pub block : (n : ℕ) → result ≡ Err (Now (stop.Damaged n)) → g.whole (leaves_of old) → n ≡ 0

-- the first stop is kept, and after it nothing happens
abbrev pub IsServed : Option Stop → Option Stop → Result (Unit {0}) StepStop → Type 0
IsServed (Some s) kept result = (result ≡ Err (Stopped s)) × (kept ≡ Some s)
IsServed None kept (Ok x) = kept ≡ None
IsServed None kept (Err (Now s)) = kept ≡ Some s
IsServed None kept (Err (Stopped s)) = ⊥

-- What a step keeps and how it ends, whatever it answers. A step that is given up says nothing, and
-- unless the outside failed in it, what was last committed stays. The first stop is kept, and an
-- engine that has one stays as it is. The engine is ready for the next step.
pub record EndsStep {S : Type 0} (g : Ghosts S) (old new : Engine S) (c : Command)
    (out now : List ℕ) (result : Result (Unit {0}) StepStop) : Type 0 where
  pub unsaid : OnErr result (now ≡ out)
  pub served : IsServed (stop_of old) (stop_of new) result
  pub still : IsSome (stop_of old) → new ≡ old
  pub keeps : KeepsEngine g old new c result
  pub kept : is_fault_now result ≡ false → OnErr result (Keeps g (leaves_of old) (leaves_of new))
  pub cause : HasStepCause g old new result
  pub ready : IsReady g new

-- what `hear` and `say` keep: the engine has the same state
pub record IsSame {S : Type 0} (g : Ghosts S) (old new : Engine S) : Type 0 where
  pub talks : Talks g (leaves_of old) (leaves_of new)
  pub schema : schema_of new ≡ schema_of old
  pub built : built_of new ≡ built_of old
  pub inside : is_open new ≡ is_open old
  pub commits : commits_of new ≡ commits_of old
  pub stopped : stop_of new ≡ stop_of old
