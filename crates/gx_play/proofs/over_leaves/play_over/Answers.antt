use Rattle.std.proofs.Common.{◌∙◌, sym, ap, subst, arith}
use Rattle.gx_device.specs.Quiet.{IsPrefix}
use Rattle.gx_device.proofs.PrefixLemmas.{prefix_same, prefix_twice}
use Rattle.gx_model.specs.Play.{start_at}
use Rattle.gx_ports.specs.declared.stop.Stop.TheVariants as stop
use Rattle.gx_engine.specs.Steps.{schema_of, leaves_of, is_open}
use Rattle.gx_play.specs.Readings.{IsReadOut}
use Rattle.gx_play.proofs.ReadingLemmas.{read_as}
use Rattle.gx_commands.specs.Lines.{script_lines}
use Rattle.gx_play.specs.Plays.{IsPlayedTo, is_play_fault}
use Rattle.gx_play.specs.Endings.{is_fault}
use Rattle.gx_play.proofs.HoldingLemmas.{at_first}
use Rattle.gx_play.proofs.OverLemmas.{played_as, played_over, play_ending, ended_well, stop_of_ending, goes_on, rose_before, leaves_over}
use Rattle.gx_play.proofs.AnsweringLemmas.{played_aloud}
use Rattle.gx_play.proofs.over_leaves.play_over.Goals as goal

pub returns-clause-answered : goal.returns-clause-answered
returns-clause-answered g c = λ told s holds.
    let begins = c.start-engine.ensures.begins in
    let at = at_first g.B.View c.args.schema c.args.built s c.args.leaves c.start-engine.result
    holds begins.leaves_are (c.start-engine.ensures.stands s holds.working_is holds.kept_same) in
    let content = g.B.View.content in
    let script = (content c.args.leaves).script in
    let e = c.start-engine.result in
    let f = c.play_heard-played.new.engine in
    played_over g.B.View c.args.schema c.args.built s script (content c.args.leaves).now.said e f
    c.args.leaves c.into_leaves.result c.ended.result begins.schema_is begins.built_is
    (ap g.B.View.limit begins.leaves_are) c.into_leaves.ensures
    (played_as g.B.View s script (content c.args.leaves).now.said e f
    (ap (λ l. (content l).now.said) begins.leaves_are)
    c.play_heard-played.ensures.keeps.schema c.play_heard-played.ensures.keeps.built
    c.play_heard-played.result c.ended.result c.ended.ensures
    (λ block is. c.play_heard-played.ensures.cause (start_at s) at (stop.Damaged block) is)
    (subst (λ t. IsPlayedTo g.B.View (start_at s) (script_lines t) e f
    c.play_heard-played.result) (ap (λ l. (content l).script) begins.leaves_are)
    (played_aloud g.B.View (start_at s) (script_lines (content (leaves_of e)).script) e f _
    c.play_heard-played.new.out c.play_heard-played.result
    (c.play_heard-played.ensures.played told (start_at s) at))))

pub returns-clause-heard : goal.returns-clause-heard
returns-clause-heard g c = λ told s holds is.
    ap (λ l. (g.B.View.content l).script) c.into_leaves.ensures
    ∙ c.play_heard-played.ensures.heard told
    (ended_well c.play_heard-played.result c.ended.result c.ended.ensures is)

pub returns-clause-ending : goal.returns-clause-ending
returns-clause-ending g c = play_ending c.play_heard-played.result c.ended.result c.ended.ensures

pub returns-clause-failures : goal.returns-clause-failures
returns-clause-failures g c =
    let faults = g.B.View.faults in
    let started = ap faults c.start-engine.ensures.begins.leaves_are in
    let ended = ap faults c.into_leaves.ensures in
    let played = c.play_heard-played.ensures.counts in
    record {
      fault = λ e.
          rose_before (faults c.args.leaves) (faults (leaves_of c.start-engine.result))
          (faults (leaves_of c.play_heard-played.new.engine)) (faults c.into_leaves.result)
          (omega (arith, started)) (sym ended)
          (played.rose
          (ap is_play_fault (stop_of_ending c.play_heard-played.result c.ended.result stop.Fault
          c.ended.ensures e)));
      counted = λ e.
          ended ∙ played.counted (goes_on c.play_heard-played.result c.ended.result
          c.ended.ensures e) ∙ started;
      later = omega (arith, started, played.later, ended);
    }

pub returns-clause-keeps : goal.returns-clause-keeps
returns-clause-keeps g c =
    let content = g.B.View.content in
    let begins = c.start-engine.ensures.begins in
    let played = c.play_heard-played.ensures.keeps in
    record {
      head = ap g.B.View.head c.into_leaves.ensures ∙ played.head
          ∙ ap g.B.View.head begins.leaves_are;
      begins = λ told.
          subst (IsPrefix (content c.args.leaves).now.said)
          (ap (λ l. (content l).now.said) (sym c.into_leaves.ensures))
          (prefix_twice (content c.args.leaves).now.said
          (content (leaves_of c.start-engine.result)).now.said
          (content (leaves_of c.play_heard-played.new.engine)).now.said
          (prefix_same (content c.args.leaves).now.said
          (content (leaves_of c.start-engine.result)).now.said
          (ap (λ l. (content l).now.said) begins.leaves_are))
          (played.begins told));
      shelf = ap (λ l. (content l).now.shelf) c.into_leaves.ensures ∙ played.shelf
          ∙ ap (λ l. (content l).now.shelf) begins.leaves_are;
      aside = ap (λ l. (content l).aside) c.into_leaves.ensures ∙ played.aside
          ∙ ap (λ l. (content l).aside) begins.leaves_are;
    }

pub returns-clause-crash : goal.returns-clause-crash
returns-clause-crash g c = λ told s holds begin calm.
    let begins = c.start-engine.ensures.begins in
    let e = c.start-engine.result in
    let at = at_first g.B.View c.args.schema c.args.built s c.args.leaves e holds begins.leaves_are
    (c.start-engine.ensures.stands s holds.working_is holds.kept_same) in
    leaves_over g.B.View c.args.schema c.args.built (start_at s)
    (is_play_fault c.play_heard-played.result) (is_fault c.ended.result) e
    c.play_heard-played.new.engine c.args.leaves c.into_leaves.result begins.schema_is
    begins.built_is begins.leaves_are c.into_leaves.ensures
    (goes_on c.play_heard-played.result c.ended.result c.ended.ensures)
    (c.play_heard-played.ensures.crash told (start_at s) at begin
    (subst (λ l. g.B.View.calm l begin) (sym begins.leaves_are) calm))

pub returns-clause-heard_whole : goal.returns-clause-heard_whole
returns-clause-heard_whole g c = λ told is.
    ap (λ l. (g.B.View.content l).script) c.into_leaves.ensures
    ∙ c.play_heard-played.ensures.heard told
    (ended_well c.play_heard-played.result c.ended.result c.ended.ensures is)

pub returns-clause-reads : goal.returns-clause-reads
returns-clause-reads g c = λ told.
    let content = g.B.View.content in
    let begins = c.start-engine.ensures.begins in
    let e = c.start-engine.result in
    read_as c.args.schema (is_open e) (content c.args.leaves).script c.play_heard-played.result
    c.ended.result c.ended.ensures begins.shut
    (subst (λ s. IsReadOut s (is_open e) (script_lines (content c.args.leaves).script)
    c.play_heard-played.result) begins.schema_is
    (subst (λ l. IsReadOut (schema_of e) (is_open e) (script_lines (content l).script)
    c.play_heard-played.result) begins.leaves_are (c.play_heard-played.ensures.reads told)))
