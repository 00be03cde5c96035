use Rattle.std.proofs.Common.{◌++◌, ◌∙◌, Err, Bool, true, false, [], take, refl, sym, ap, subst}
use Rattle.gx_commands.specs.Lines.{script_lines}
use Rattle.gx_reader.specs.Reader.{meant, number_of}
use Rattle.gx_engine.specs.Steps.{schema_of, built_of, leaves_of, is_open}
use Rattle.gx_play.specs.declared.play.Answers.TheVariants as answers
use Rattle.gx_play.specs.Answering.{beside, with_answers}
use Rattle.gx_play.specs.Pieces.{IsGoing}
use Rattle.gx_play.specs.Plays.{IsPlayedTo, is_play_fault}
use Rattle.gx_play.specs.Images.{LeavesPlay}
use Rattle.gx_play.specs.Readings.{IsReadTo, IsReadOut}
use Rattle.gx_play.proofs.ReadingLemmas.{read_new}
use Rattle.gx_play.proofs.CrashLemmas.{first_leaves, heard_leaves}
use Rattle.gx_play.proofs.PlayLemmas.{is_err}
use Rattle.gx_play.proofs.PieceLemmas.{going_new, going_heard, going_unheard, heard_same, heard_then, played_then, still_at}
use Rattle.gx_play.proofs.AnsweringLemmas.{at_beside}
use Rattle.gx_play.proofs.play.play_heard.Goals as goal

pub loop-count-init : goal.loop-count-init
loop-count-init g c =
    let content = g.B.View.content in
    let e = with_answers c.args.engine.now c.args.out.now in
    record {
      keeps = heard_same g.B.View c.args.engine.now c.requires.ready;
      going = c.requires.going;
      stays_open = c.new-reader.ensures.open;
      played = λ told p at.
          going_new (beside g.B.View answers.Said) p
          (content (leaves_of c.args.engine.now)).script c.new-reader.result e
          c.new-reader.ensures.lines c.new-reader.ensures.number
          (at_beside g.B.View answers.Said p c.args.engine.now c.args.out.now at);
      leaves = λ told p at begin calm.
          first_leaves g.B.View g.met.B.Leaves.calm_means g.met.B.Leaves.calm_now answers.Said p
          (script_lines (content (leaves_of c.args.engine.now)).script).lines c.args.engine.now at
          begin calm;
      reads = λ told.
          read_new (schema_of c.args.engine.now) (is_open c.args.engine.now)
          (content (leaves_of c.args.engine.now)).script c.new-reader.result
          c.new-reader.ensures.lines c.new-reader.ensures.number;
      stands = λ p at. (p, at);
      counted = refl;
    }

-- what was heard comes before what is still to be heard
pub loop-count-preserved : goal.loop-count-preserved
loop-count-preserved g c =
    let content = g.B.View.content in
    let b = beside g.B.View answers.Said in
    let heard = c.in-Ok.ensures.hears in
    let more = (content (leaves_of c.hear.new.self)).script in
    let all = script_lines (content (leaves_of c.args.engine.now)).script in
    record {
      keeps = played_then g.B.View answers.Said c.args.engine.now c.hear.new.self
          c.play_piece.new.engine
          (heard_then g.B.View c.args.engine.now c.loop-count.engine c.hear.new.self
          c.loop-count.invariant.keeps c.hear.ensures.same c.hear.ensures.hears.rest)
          c.play_piece.ensures.keeps;
      going = c.in_ok-play_piece.ensures.going.0;
      stays_open = c.in_ok-play_piece.ensures.going.1.stays_open;
      played = λ told p at.
          let now = c.loop-count.invariant.played told p at in
          subst (λ s. IsGoing b p all (meant c.play_piece.new.reader s)
          (number_of c.play_piece.new.reader) (with_answers c.args.engine.now c.args.out.now)
          (with_answers c.play_piece.new.engine c.play_piece.new.out))
          (sym c.play_piece.ensures.keeps.rest.script)
          (c.in_ok-play_piece.ensures.played told p all more
          (with_answers c.args.engine.now c.args.out.now)
          (going_heard g.B.View p all
          (meant c.loop-count.reader (take c.in-Ok.count c.hear.new.into ++ more))
          (number_of c.loop-count.reader) (with_answers c.args.engine.now c.args.out.now)
          c.loop-count.engine c.hear.new.self c.loop-count.out c.hear.ensures.same
          c.hear.ensures.hears.rest
          (subst (λ s. IsGoing b p all (meant c.loop-count.reader s)
          (number_of c.loop-count.reader) (with_answers c.args.engine.now c.args.out.now)
          (with_answers c.loop-count.engine c.loop-count.out)) (heard.heard told).heard now)));
      leaves = λ told p at begin calm.
          let e = with_answers c.args.engine.now c.args.out.now in
          c.in_ok-play_piece.ensures.crash told p all more c.args.engine.now c.args.out.now
          (going_heard g.B.View p all
          (meant c.loop-count.reader (take c.in-Ok.count c.hear.new.into ++ more))
          (number_of c.loop-count.reader) e c.loop-count.engine c.hear.new.self c.loop-count.out
          c.hear.ensures.same c.hear.ensures.hears.rest
          (subst (λ s. IsGoing b p all (meant c.loop-count.reader s)
          (number_of c.loop-count.reader) e (with_answers c.loop-count.engine c.loop-count.out))
          (c.in-Ok.ensures.hears.heard told).heard
          (c.loop-count.invariant.played told p at)))
          (c.hear.ensures.same.talks.head ∙ c.loop-count.invariant.keeps.head)
          (heard_leaves g.B.View g.met.B.Leaves.calm_means g.met.B.Leaves.calm_now p all
          (meant c.loop-count.reader (content (leaves_of c.loop-count.engine)).script)
          (number_of c.loop-count.reader) c.args.engine.now c.loop-count.engine c.hear.new.self
          c.args.out.now c.loop-count.out false (c.loop-count.invariant.played told p at)
          c.loop-count.invariant.keeps.head c.hear.ensures.same c.hear.ensures.hears.rest
          (c.loop-count.invariant.leaves told p at begin calm));
      reads = λ told.
          let begun = is_open c.args.engine.now in
          subst (λ s. IsReadTo (schema_of c.args.engine.now) begun all
          (meant c.play_piece.new.reader s) (number_of c.play_piece.new.reader)
          (is_open c.play_piece.new.engine)) (sym c.play_piece.ensures.keeps.rest.script)
          (subst (λ s. IsReadTo s begun all (meant c.play_piece.new.reader more)
          (number_of c.play_piece.new.reader) (is_open c.play_piece.new.engine))
          (c.hear.ensures.same.schema ∙ c.loop-count.invariant.keeps.schema)
          (c.in_ok-play_piece.ensures.reads begun all more
          (subst (λ s. IsReadTo s begun all
          (meant c.loop-count.reader (take c.in-Ok.count c.hear.new.into ++ more))
          (number_of c.loop-count.reader) (is_open c.hear.new.self))
          (sym (c.hear.ensures.same.schema ∙ c.loop-count.invariant.keeps.schema))
          (subst (λ b. IsReadTo (schema_of c.args.engine.now) (is_open c.args.engine.now) all
          (meant c.loop-count.reader (take c.in-Ok.count c.hear.new.into ++ more))
          (number_of c.loop-count.reader) b) (sym c.hear.ensures.same.inside)
          (subst (λ s. IsReadTo (schema_of c.args.engine.now) (is_open c.args.engine.now) all
          (meant c.loop-count.reader s) (number_of c.loop-count.reader)
          (is_open c.loop-count.engine))
          (c.in-Ok.ensures.hears.heard told).heard (c.loop-count.invariant.reads told))))));
      stands = λ p at.
          let now = c.loop-count.invariant.stands p at in
          c.in_ok-play_piece.ensures.stands now.0
          (still_at g.B.View now.0 c.loop-count.engine c.hear.new.self c.hear.ensures.same now.1);
      counted = c.in_ok-play_piece.ensures.counts.counted refl ∙ heard.counted
          ∙ c.loop-count.invariant.counted;
    }

-- where the script can't be heard
pub returns-in_default-clause-played : goal.returns-in_default-clause-played
returns-in_default-clause-played g c = λ told p at.
    let content = g.B.View.content in
    let e = with_answers c.args.engine.now c.args.out.now in
    let all = script_lines (content (leaves_of c.args.engine.now)).script in
    let left = meant c.loop-count.reader (content (leaves_of c.loop-count.engine)).script in
    going_unheard (beside g.B.View answers.Said) p all left (number_of c.loop-count.reader) e
    (with_answers c.hear.new.self c.loop-count.out)
    (going_heard g.B.View p all left (number_of c.loop-count.reader) e c.loop-count.engine
    c.hear.new.self c.loop-count.out c.hear.ensures.same c.hear.ensures.hears.rest
    (c.loop-count.invariant.played told p at))

-- at its end
pub returns-then-count-eq0-clause-played : goal.returns-then-count-eq0-clause-played
returns-then-count-eq0-clause-played g c = λ told p at.
    let content = g.B.View.content in
    let b = beside g.B.View answers.Said in
    let e = with_answers c.args.engine.now c.args.out.now in
    let all = script_lines (content (leaves_of c.args.engine.now)).script in
    c.play_rest.ensures.played told p all e
    (going_heard g.B.View p all (meant c.loop-count.reader []) (number_of c.loop-count.reader) e
    c.loop-count.engine c.hear.new.self c.loop-count.out c.hear.ensures.same
    c.hear.ensures.hears.rest
    (subst (λ s. IsGoing b p all (meant c.loop-count.reader s) (number_of c.loop-count.reader) e
    (with_answers c.loop-count.engine c.loop-count.out))
    ((c.in-Ok.ensures.hears.heard told).at_end c.if-count-eq0.true)
    (c.loop-count.invariant.played told p at)))

pub returns-in_err-play_piece-clause-played : goal.returns-in_err-play_piece-clause-played
returns-in_err-play_piece-clause-played g c = λ told p at.
    let content = g.B.View.content in
    let b = beside g.B.View answers.Said in
    let e = with_answers c.args.engine.now c.args.out.now in
    let all = script_lines (content (leaves_of c.args.engine.now)).script in
    let more = (content (leaves_of c.hear.new.self)).script in
    subst (IsPlayedTo b p all e (with_answers c.play_piece.new.engine c.play_piece.new.out))
    (sym (is_err _ _ c.from_residual.ensures.1))
    (c.in_err-play_piece.ensures.played told p all more e
    (going_heard g.B.View p all
    (meant c.loop-count.reader (take c.in-Ok.count c.hear.new.into ++ more))
    (number_of c.loop-count.reader) e c.loop-count.engine c.hear.new.self c.loop-count.out
    c.hear.ensures.same c.hear.ensures.hears.rest
    (subst (λ s. IsGoing b p all (meant c.loop-count.reader s) (number_of c.loop-count.reader) e
    (with_answers c.loop-count.engine c.loop-count.out)) (c.in-Ok.ensures.hears.heard told).heard
    (c.loop-count.invariant.played told p at))))

pub returns-in_default-clause-crash : goal.returns-in_default-clause-crash
returns-in_default-clause-crash g c = λ told p at begin calm.
    let content = g.B.View.content in
    let all = script_lines (content (leaves_of c.args.engine.now)).script in
    heard_leaves g.B.View g.met.B.Leaves.calm_means g.met.B.Leaves.calm_now p all
    (meant c.loop-count.reader (content (leaves_of c.loop-count.engine)).script)
    (number_of c.loop-count.reader) c.args.engine.now c.loop-count.engine c.hear.new.self
    c.args.out.now c.loop-count.out true (c.loop-count.invariant.played told p at)
    c.loop-count.invariant.keeps.head c.hear.ensures.same c.hear.ensures.hears.rest
    (c.loop-count.invariant.leaves told p at begin calm)

pub returns-then-count-eq0-clause-crash : goal.returns-then-count-eq0-clause-crash
returns-then-count-eq0-clause-crash g c = λ told p at begin calm.
    let content = g.B.View.content in
    let b = beside g.B.View answers.Said in
    let e = with_answers c.args.engine.now c.args.out.now in
    let all = script_lines (content (leaves_of c.args.engine.now)).script in
    c.play_rest.ensures.crash told p all c.args.engine.now c.args.out.now
    (going_heard g.B.View p all (meant c.loop-count.reader []) (number_of c.loop-count.reader) e
    c.loop-count.engine c.hear.new.self c.loop-count.out c.hear.ensures.same
    c.hear.ensures.hears.rest
    (subst (λ s. IsGoing b p all (meant c.loop-count.reader s) (number_of c.loop-count.reader) e
    (with_answers c.loop-count.engine c.loop-count.out))
    ((c.in-Ok.ensures.hears.heard told).at_end c.if-count-eq0.true)
    (c.loop-count.invariant.played told p at)))
    (c.hear.ensures.same.talks.head ∙ c.loop-count.invariant.keeps.head)
    (heard_leaves g.B.View g.met.B.Leaves.calm_means g.met.B.Leaves.calm_now p all
    (meant c.loop-count.reader (content (leaves_of c.loop-count.engine)).script)
    (number_of c.loop-count.reader) c.args.engine.now c.loop-count.engine c.hear.new.self
    c.args.out.now c.loop-count.out false (c.loop-count.invariant.played told p at)
    c.loop-count.invariant.keeps.head c.hear.ensures.same c.hear.ensures.hears.rest
    (c.loop-count.invariant.leaves told p at begin calm))

pub returns-in_err-play_piece-clause-crash : goal.returns-in_err-play_piece-clause-crash
returns-in_err-play_piece-clause-crash g c = λ told p at begin calm.
    let content = g.B.View.content in
    let b = beside g.B.View answers.Said in
    let e = with_answers c.args.engine.now c.args.out.now in
    let all = script_lines (content (leaves_of c.args.engine.now)).script in
    let more = (content (leaves_of c.hear.new.self)).script in
    let old = c.args.engine.now in
    subst (λ (f : Bool). LeavesPlay g.B.View (schema_of old) (built_of old) answers.Said p all.lines
    f (leaves_of old) (leaves_of c.play_piece.new.engine))
    (ap is_play_fault (sym (is_err _ _ c.from_residual.ensures.1)))
    (c.in_err-play_piece.ensures.crash told p all more old c.args.out.now
    (going_heard g.B.View p all
    (meant c.loop-count.reader (take c.in-Ok.count c.hear.new.into ++ more))
    (number_of c.loop-count.reader) e c.loop-count.engine c.hear.new.self c.loop-count.out
    c.hear.ensures.same c.hear.ensures.hears.rest
    (subst (λ s. IsGoing b p all (meant c.loop-count.reader s) (number_of c.loop-count.reader) e
    (with_answers c.loop-count.engine c.loop-count.out)) (c.in-Ok.ensures.hears.heard told).heard
    (c.loop-count.invariant.played told p at)))
    (c.hear.ensures.same.talks.head ∙ c.loop-count.invariant.keeps.head)
    (heard_leaves g.B.View g.met.B.Leaves.calm_means g.met.B.Leaves.calm_now p all
    (meant c.loop-count.reader (content (leaves_of c.loop-count.engine)).script)
    (number_of c.loop-count.reader) c.args.engine.now c.loop-count.engine c.hear.new.self
    c.args.out.now c.loop-count.out false (c.loop-count.invariant.played told p at)
    c.loop-count.invariant.keeps.head c.hear.ensures.same c.hear.ensures.hears.rest
    (c.loop-count.invariant.leaves told p at begin calm)))

pub returns-in_default-clause-reads : goal.returns-in_default-clause-reads
returns-in_default-clause-reads g c = λ told. tt

pub returns-then-count-eq0-clause-reads : goal.returns-then-count-eq0-clause-reads
returns-then-count-eq0-clause-reads g c = λ told.
    let content = g.B.View.content in
    let all = script_lines (content (leaves_of c.args.engine.now)).script in
    let begun = is_open c.args.engine.now in
    subst (λ s. IsReadOut s begun all c.play_rest.result)
    (c.hear.ensures.same.schema ∙ c.loop-count.invariant.keeps.schema)
    (c.play_rest.ensures.reads begun all
    (subst (λ s. IsReadTo s begun all (meant c.loop-count.reader [])
    (number_of c.loop-count.reader) (is_open c.hear.new.self))
    (sym (c.hear.ensures.same.schema ∙ c.loop-count.invariant.keeps.schema))
    (subst (λ b. IsReadTo (schema_of c.args.engine.now) begun all (meant c.loop-count.reader [])
    (number_of c.loop-count.reader) b) (sym c.hear.ensures.same.inside)
    (subst (λ s. IsReadTo (schema_of c.args.engine.now) begun all (meant c.loop-count.reader s)
    (number_of c.loop-count.reader) (is_open c.loop-count.engine))
    ((c.in-Ok.ensures.hears.heard told).at_end c.if-count-eq0.true)
    (c.loop-count.invariant.reads told)))))

pub returns-in_err-play_piece-clause-reads : goal.returns-in_err-play_piece-clause-reads
returns-in_err-play_piece-clause-reads g c = λ told.
    let content = g.B.View.content in
    let all = script_lines (content (leaves_of c.args.engine.now)).script in
    let more = (content (leaves_of c.hear.new.self)).script in
    let begun = is_open c.args.engine.now in
    subst (IsReadOut (schema_of c.args.engine.now) begun all)
    (sym (is_err _ _ c.from_residual.ensures.1))
    (subst (λ s. IsReadOut s begun all (Err c.in_err-play_piece.field-0.0))
    (c.hear.ensures.same.schema ∙ c.loop-count.invariant.keeps.schema)
    (c.in_err-play_piece.ensures.reads begun all more
    (subst (λ s. IsReadTo s begun all
    (meant c.loop-count.reader (take c.in-Ok.count c.hear.new.into ++ more))
    (number_of c.loop-count.reader) (is_open c.hear.new.self))
    (sym (c.hear.ensures.same.schema ∙ c.loop-count.invariant.keeps.schema))
    (subst (λ b. IsReadTo (schema_of c.args.engine.now) (is_open c.args.engine.now) all
    (meant c.loop-count.reader (take c.in-Ok.count c.hear.new.into ++ more))
    (number_of c.loop-count.reader) b) (sym c.hear.ensures.same.inside)
    (subst (λ s. IsReadTo (schema_of c.args.engine.now) (is_open c.args.engine.now) all
    (meant c.loop-count.reader s) (number_of c.loop-count.reader) (is_open c.loop-count.engine))
    (c.in-Ok.ensures.hears.heard told).heard (c.loop-count.invariant.reads told))))))
