use Rattle.std.proofs.Common.{◌∙◌, take, refl, sym, subst}
use Rattle.gx_reader.specs.Reader.{meant, number_of}
use Rattle.gx_sessions.specs.Turns.{schema_of, leaves_of}
use Rattle.gx_play.proofs.PlayLemmas.{is_err}
use Rattle.gx_shares.specs.Going.{IsReadTo}
use Rattle.gx_shares.proofs.KeepLemmas.{heard_same, heard_then, played_then}
use Rattle.gx_shares.proofs.ReadLemmas.{read_new}
use Rattle.gx_shares.proofs.HearLemmas.{ComesTo, comes_first, heard_fault, heard_rest, heard_piece, heard_cut, read_rest, read_piece, read_cut}
use Rattle.gx_shares.proofs.play.play_heard.Goals as goal

pub loop-count-init : goal.loop-count-init
loop-count-init g c = record {
  keeps = heard_same g.B.View c.args.sessions.now c.requires.ready;
  going = c.requires.going;
  stays_open = c.new-reader.ensures.open;
  played = λ told.
      comes_first g.B.View c.new-reader.result c.args.sessions.now c.new-reader.ensures.lines
      c.new-reader.ensures.number;
  reads = λ told out.
      read_new (schema_of c.args.sessions.now)
      (g.B.View.content (leaves_of c.args.sessions.now)).script c.new-reader.result
      c.args.sessions.now c.new-reader.ensures.lines c.new-reader.ensures.number refl out;
  counted = refl;
}

-- what was heard comes before what is still to be heard
pub loop-count-preserved : goal.loop-count-preserved
loop-count-preserved g c =
    let content = g.B.View.content in
    let old = c.args.sessions.now in
    let s = c.loop-count.sessions in
    let f = c.hear.new.self in
    let new = c.play_piece.new.sessions in
    let piece = take c.in-Ok.count c.hear.new.into in
    let text = (content (leaves_of s)).script in
    let more = (content (leaves_of f)).script in
    let then = c.play_piece.new.reader in
    record {
      keeps = played_then g.B.View old f new
          (heard_then g.B.View old s f c.loop-count.invariant.keeps c.hear.ensures.same
          c.hear.ensures.hears.rest) c.play_piece.ensures.keeps;
      going = c.in_ok-play_piece.ensures.going;
      stays_open = c.in_ok-play_piece.ensures.taken.stays_open;
      played = λ told.
          subst (λ t. ComesTo g.B.View then t old new) (sym c.play_piece.ensures.keeps.script)
          (heard_piece g.B.View g.met.B.Leaves.calm_means g.met.B.Leaves.calm_now
          c.loop-count.reader text old s f (c.loop-count.invariant.played told)
          c.hear.ensures.same c.hear.ensures.hears.rest piece more then new
          (c.in-Ok.ensures.hears.heard told).heard (c.in_ok-play_piece.ensures.played told));
      reads = λ told out.
          subst (λ t. IsReadTo (schema_of old) (content (leaves_of old)).script (meant then t)
          (number_of then) new) (sym c.play_piece.ensures.keeps.script)
          (read_piece g.B.View (schema_of old) (content (leaves_of old)).script
          c.loop-count.reader text s f c.hear.ensures.same (c.loop-count.invariant.reads told out)
          piece more then new (c.in-Ok.ensures.hears.heard told).heard
          c.in_ok-play_piece.ensures.reads);
      counted = c.in_ok-play_piece.ensures.counts.counted refl ∙ c.in-Ok.ensures.hears.counted
          ∙ c.loop-count.invariant.counted;
    }

-- where the script can't be heard
pub returns-in_default-clause-played : goal.returns-in_default-clause-played
returns-in_default-clause-played g c = λ told.
    heard_fault g.B.View g.met.B.Leaves.calm_means g.met.B.Leaves.calm_now c.loop-count.reader
    (g.B.View.content (leaves_of c.loop-count.sessions)).script c.args.sessions.now
    c.loop-count.sessions c.hear.new.self (c.loop-count.invariant.played told)
    c.hear.ensures.same c.hear.ensures.hears.rest

pub returns-in_default-clause-reads : goal.returns-in_default-clause-reads
returns-in_default-clause-reads g c = λ told out. tt

-- at its end
pub returns-then-count-eq0-clause-played : goal.returns-then-count-eq0-clause-played
returns-then-count-eq0-clause-played g c = λ told.
    heard_rest g.B.View g.met.B.Leaves.calm_means g.met.B.Leaves.calm_now c.loop-count.reader
    (g.B.View.content (leaves_of c.loop-count.sessions)).script c.args.sessions.now
    c.loop-count.sessions c.hear.new.self (c.loop-count.invariant.played told)
    c.hear.ensures.same c.hear.ensures.hears.rest c.play_rest.new.sessions c.play_rest.result
    ((c.in-Ok.ensures.hears.heard told).at_end c.if-count-eq0.true)
    (c.play_rest.ensures.played told)

pub returns-then-count-eq0-clause-reads : goal.returns-then-count-eq0-clause-reads
returns-then-count-eq0-clause-reads g c = λ told out.
    let content = g.B.View.content in
    let old = c.args.sessions.now in
    read_rest g.B.View (schema_of old) (content (leaves_of old)).script c.loop-count.reader
    (content (leaves_of c.loop-count.sessions)).script c.loop-count.sessions c.hear.new.self
    c.hear.ensures.same (c.loop-count.invariant.reads told out) c.play_rest.result
    ((c.in-Ok.ensures.hears.heard told).at_end c.if-count-eq0.true) c.play_rest.ensures.reads

pub returns-in_err-play_piece-clause-played : goal.returns-in_err-play_piece-clause-played
returns-in_err-play_piece-clause-played g c = λ told.
    let content = g.B.View.content in
    heard_cut g.B.View g.met.B.Leaves.calm_means g.met.B.Leaves.calm_now c.loop-count.reader
    (content (leaves_of c.loop-count.sessions)).script c.args.sessions.now
    c.loop-count.sessions c.hear.new.self (c.loop-count.invariant.played told)
    c.hear.ensures.same c.hear.ensures.hears.rest (take c.in-Ok.count c.hear.new.into)
    (content (leaves_of c.hear.new.self)).script c.play_piece.new.reader
    c.play_piece.new.sessions (c.in-Ok.ensures.hears.heard told).heard c.from_residual.result
    c.in_err-play_piece.field-0.0 (is_err _ _ c.from_residual.ensures.1)
    (c.in_err-play_piece.ensures.played told)

pub returns-in_err-play_piece-clause-reads : goal.returns-in_err-play_piece-clause-reads
returns-in_err-play_piece-clause-reads g c = λ told out.
    let content = g.B.View.content in
    let old = c.args.sessions.now in
    read_cut g.B.View (schema_of old) (content (leaves_of old)).script c.loop-count.reader
    (content (leaves_of c.loop-count.sessions)).script c.loop-count.sessions c.hear.new.self
    c.hear.ensures.same (c.loop-count.invariant.reads told out)
    (take c.in-Ok.count c.hear.new.into) (content (leaves_of c.hear.new.self)).script
    c.play_piece.new.reader c.play_piece.new.sessions
    (c.in-Ok.ensures.hears.heard told).heard c.from_residual.result
    c.in_err-play_piece.field-0.0 (is_err _ _ c.from_residual.ensures.1)
    c.in_err-play_piece.ensures.reads
