-- What becomes of the answers of a play: leaves are seen beside the answers that are kept.
use Rattle.std.specs.Prelude.{ℕ, Bool, true, List}
use Rattle.gx_device.specs.Content.{Content, nothing_told}
use Rattle.gx_ports.specs.declared.view.View.{Ghosts}
use Rattle.gx_engine.specs.declared.engine.Engine.{Engine}
use Rattle.gx_play.specs.declared.play.Answers.{Answers}
use Rattle.gx_play.specs.declared.play.Answers.TheVariants as answers

-- a content of which nothing is told but what was said
abbrev pub told : List ℕ → Content
told said = record nothing_told { now = record nothing_told.now { said = said } }

-- answers that are kept are always told
abbrev pub are_told : Bool → Answers → Bool
are_told tells answers.Said = tells
are_told tells answers.Kept = true

-- what holds the answers: the machine that says them, or the list in which they are kept
abbrev pub holder_of : Content → List ℕ → Answers → Content
holder_of machine kept answers.Said = machine
holder_of machine kept answers.Kept = told kept

-- leaves beside a list of answers: those that are kept are seen as said
abbrev pub beside : {S : Type 0} → Ghosts S → Answers → Ghosts (S × List ℕ)
beside g to = record {
  tells = are_told g.tells to;
  content = λ x. holder_of (g.content x.0) x.1 to;
  faults = λ x. g.faults x.0;
  working = λ x. g.working x.0;
  kept = λ x. g.kept x.0;
  unchanged = λ x. g.unchanged x.0;
  work = λ x. g.work x.0;
  limit = λ x. g.limit x.0;
  stored = λ x. g.stored x.0;
  whole = λ x. g.whole x.0;
  kept_whole = λ x. g.kept_whole x.0;
  whole_at = λ x. g.whole_at x.0;
  steady = λ x. g.steady x.0;
  fresh = λ x. g.fresh x.0;
  frugal = g.frugal;
  head = λ x. g.head x.0;
  stands = g.stands;
  laid = g.laid;
  calm = λ x s. g.calm x.0 s;
}

-- an engine beside a list of answers
abbrev pub with_answers : {S : Type 0} → Engine S → List ℕ → Engine (S × List ℕ)
with_answers e kept = record {
  schema = e.schema;
  built = e.built;
  leaves = (e.leaves, kept);
  inside = e.inside;
  commits = e.commits;
  stopped = e.stopped;
}
