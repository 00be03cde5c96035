-- `try`: the play of the script over leaves in memory, from the empty state on.
use Rattle.std.specs.Prelude.{◌≡◌, ℕ, List, [], None}
use Rattle.gx_device.specs.Content.{Content}
use Rattle.gx_model.specs.Play.{Playing}
use Rattle.gx_model.specs.States.{empty_state}
use Rattle.gx_play.specs.declared.status.Status.TheVariants as status
use Rattle.gx_play.specs.Player.{Play, IsDueOf, line_play}
use Rattle.gx_play.specs.Say.{SameDevices}
use Rattle.gx_operations.specs.Given.{Given}
use Rattle.gx_operations.specs.Playing.{PlaySays, PlayBreaks}
use Rattle.gx_operations.specs.Promises.{Promise}

abbrev pub memory_play : Given → List ℕ → Play Playing
memory_play g script = line_play g.schema g.definitions None (empty_state g.schema) script

abbrev pub tries : Given → Content → Promise
tries g old = record {
  Says = PlaySays (memory_play g old.script) (λ s new. Unit {0});
  Breaks = PlayBreaks (memory_play g old.script) (λ s new. Unit {0});
  Due = IsDueOf (memory_play g old.script);
  Leaves = λ new s. SameDevices old new × (s ≡ status.Done → new.script ≡ []);
  Crashes = λ new. Unit {0};
}
