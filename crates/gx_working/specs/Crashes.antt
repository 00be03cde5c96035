-- What a crash leaves while the workload is played.
use Rattle.std.specs.Prelude.{◌≡◌, ℕ, Bool, false}
use Rattle.gx_device.specs.Crash.{EachImage}
use Rattle.gx_commands.specs.Lines.{script_lines}
use Rattle.gx_ports.specs.Calm.{StandsForKept}
use Rattle.gx_ports.specs.declared.view.View.{Ghosts}
use Rattle.gx_types.specs.declared.built.Built.{Built}
use Rattle.gx_model.specs.Play.{start_at}
use Rattle.gx_model.specs.States.{State}
pub use Rattle.gx_engine.specs.Crashes.{HoldsState}
use Rattle.gx_play.specs.declared.play.Answers.TheVariants as answers
use Rattle.gx_play.specs.Images.{LeavesPlay}
use Rattle.gx_work.specs.Schema.{work_schema}
use Rattle.gx_work.specs.Workload.{work_script}

-- what the play of its lines leaves, of which nothing is said
abbrev pub LeavesLines : {S : Type 0} → Ghosts S → Built → State → ℕ → Bool → S → S → Type 0
LeavesLines g built s records failed old new =
    LeavesPlay g work_schema built answers.Kept (start_at s)
    (script_lines (work_script records)).lines failed old new

-- the same, and unless a call failed a crash then leaves what is kept
pub record LeavesWork {S : Type 0} (g : Ghosts S) (built : Built) (s : State) (records : ℕ)
    (failed : Bool) (old new : S) : Type 0 where
  pub play : LeavesLines g built s records failed old new
  pub each : failed ≡ false
      → EachImage (λ image. StandsForKept g new image.blocks) (g.content new).now
