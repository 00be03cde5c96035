use Rattle.std.specs.Prelude.{false}
use Rattle.gx_model.specs.Play.{start_at}
use Rattle.gx_sharing.specs.Sharing.{share_start}
use Rattle.gx_sharing.specs.Turns.{committed_of, resting}
use Rattle.gx_sharing.proofs.Carried.{played_runs}
use Rattle.gx_sharing.proofs.Lines.{lines_share}
use Rattle.gx_sharing.proofs.Serial.{what_counts}
use Rattle.gx_top.proofs.laws.committed_turns_are_a_play.Goals as goal

pub returns-clause-each : goal.returns-clause-each
returns-clause-each c g device content start ts final end held plays =
    let valid = held.2.internal.valid in
    what_counts g.schema start false ts final
    (record { files = valid.files_many; links = valid.links_many })
    (lines_share g.schema (share_start start) final plays.ran ts plays.runs)

pub returns-clause-text : goal.returns-clause-text
returns-clause-text c g device content start ts final end held plays =
    played_runs g.schema (start_at start) (resting final) (committed_of ts)
    (returns-clause-each c g device content start ts final end held plays)
