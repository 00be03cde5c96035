use Rattle.std.specs.Prelude.{true}
use Rattle.gx_model.specs.Play.{start_at}
use Rattle.gx_sharing.specs.Turns.{effective_of, resting}
use Rattle.gx_sharing.proofs.Carried.{played_runs}
use Rattle.gx_sharing.proofs.Serial.{what_counts}
use Rattle.gx_sharing.proofs.laws.reads_fit.Goals as goal

pub returns-clause-each : goal.returns-clause-each
returns-clause-each c start list final files links shares =
    what_counts c.args.schema.now start true list final
    (record { files = files; links = links }) shares

pub returns-clause-text : goal.returns-clause-text
returns-clause-text c start list final files links shares =
    played_runs c.args.schema.now (start_at start) (resting final) (effective_of list)
    (what_counts c.args.schema.now start true list final
    (record { files = files; links = links }) shares)
