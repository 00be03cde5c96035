use Rattle.std.proofs.Common.{rules, ◌≡◌, ◌-◌, ◌++◌, ◌∙◌, List, ℕ, Bool, false, Err, [], length, take, drop, refl, sym, ap, subst, arith}
use Rattle.std.proofs.lemmas.List.{take_all, length-drop}
use Rattle.gx_commands.specs.Lines.{with_line}
use Rattle.gx_reader.specs.Reader.{meant, number_of}
use Rattle.gx_play.specs.Answering.{beside, with_answers}
use Rattle.gx_play.specs.Pieces.{IsGoing}
use Rattle.gx_play.specs.Plays.{IsBadAt, is_play_fault}
use Rattle.gx_play.specs.Images.{LeavesPlay}
use Rattle.gx_engine.specs.Steps.{schema_of, built_of, leaves_of, is_open}
use Rattle.gx_play.proofs.PlayLemmas.{is_err, no_stop}
use Rattle.gx_play.proofs.PieceLemmas.{going_line, going_bad, going_end, line_counts}
use Rattle.gx_play.specs.Readings.{IsReadLine, IsReadTo}
use Rattle.gx_play.proofs.ReadingLemmas.{read_line, read_end, read_bad}
use Rattle.gx_play.proofs.CrashLemmas.{line_on_leaves, leaves_on}
use Rattle.gx_reader.proofs.FoundLemmas.{found_line, found_passes, found_none, found_within, none_passes}
use Rattle.gx_play.proofs.AnsweringLemmas.{at_alone, keeps_same, keeps_then}
use Rattle.gx_play.proofs.play.play_piece.Goals as goal

pub loop-count-init : goal.loop-count-init
loop-count-init g c = record {
  keeps = keeps_same g.B.View c.args.answers c.args.engine.now c.requires.ready;
  going = c.requires.going;
  stays_open = c.requires.open;
  taken = refl;
  played = λ told p all rest start going. going;
  leaves = λ told p all rest start kept going head leaves. leaves;
  reads = λ begun all rest so. so;
  stands = λ p at. (p, at);
  counted = refl;
}

pub loop-count-preserved : goal.loop-count-preserved
loop-count-preserved g c =
    let b = beside g.B.View c.args.answers in
    let old = c.loop-count.rest.now in
    let reader = c.next_line.new.reader in
    let count = c.in-Some.count in
    let passes = found_passes c.in_ok-count.field-0 count (length old) c.loop-count.reader reader
    c.in-Some.is c.in_ok-count.ensures.passes in
    let keeps = c.play_numbered.ensures.keeps in
    let left : take (length old - count) (drop count old) ≡ drop count old =
    take_all (length old - count) (drop count old) (omega (arith, length-drop count old)) in
    record {
      keeps = keeps_then g.B.View c.args.answers c.args.engine.now c.loop-count.engine
          c.play_numbered.new.engine c.loop-count.invariant.keeps keeps;
      going = c.in_ok-play_numbered.ensures.going.0;
      stays_open = passes.stays_open;
      taken = omega (
        arith,
        passes.left,
        c.loop-count.invariant.taken,
        (found_within c.in_ok-count.field-0 count (length old) c.in-Some.is
            c.in_ok-count.ensures.within).1,
        ap (λ (l : List ℕ). length l) left,
        length-drop count old,
      );
      played = λ told p all rest start going.
          let now = c.loop-count.invariant.played told p all rest start going in
          subst (λ (l : List ℕ). IsGoing b p all (meant reader (l ++ rest)) (number_of reader) start
          (with_answers c.play_numbered.new.engine c.play_numbered.new.out)) (sym left)
          (going_line b p all (meant c.loop-count.reader (old ++ rest))
          (meant reader (drop count old ++ rest)) (number_of c.loop-count.reader)
          (number_of reader) c.line.result.now start
          (with_answers c.loop-count.engine c.loop-count.out)
          (with_answers c.play_numbered.new.engine c.play_numbered.new.out)
          (found_line c.in_ok-count.field-0 count old rest c.loop-count.reader reader c.in-Some.is
          (c.in_ok-count.ensures.next rest)
          ∙ ap (λ (l : List ℕ). with_line l (meant reader (drop count old ++ rest)))
          (sym c.line.ensures.line)) passes.number told keeps.schema keeps.built keeps.limit now
          (c.in_ok-play_numbered.ensures.played now.so_far.now
          (at_alone g.B.View c.args.answers now.so_far.now c.loop-count.engine c.loop-count.out
          now.so_far.at)));
      leaves = λ told p all rest start kept going head leaves.
          let now = c.loop-count.invariant.played told p all rest (with_answers start kept) going in
          line_on_leaves g.B.View c.args.answers p all (meant c.loop-count.reader (old ++ rest))
          (meant reader (drop count old ++ rest)) (number_of c.loop-count.reader)
          c.line.result.now start c.loop-count.engine c.play_numbered.new.engine kept
          c.loop-count.out false
          (found_line c.in_ok-count.field-0 count old rest c.loop-count.reader reader c.in-Some.is
          (c.in_ok-count.ensures.next rest)
          ∙ ap (λ (l : List ℕ). with_line l (meant reader (drop count old ++ rest)))
          (sym c.line.ensures.line)) now (c.loop-count.invariant.keeps.head ∙ head)
          (c.loop-count.invariant.leaves told p all rest start kept going head leaves)
          (c.in_ok-play_numbered.ensures.crash told);
      reads = λ begun all rest so.
          let schema = schema_of c.args.engine.now in
          subst (λ (l : List ℕ). IsReadTo schema begun all (meant reader (l ++ rest))
          (number_of reader) (is_open c.play_numbered.new.engine)) (sym left)
          (read_line schema begun all (meant c.loop-count.reader (old ++ rest))
          (meant reader (drop count old ++ rest)) (number_of c.loop-count.reader)
          (number_of reader) c.line.result.now (is_open c.loop-count.engine)
          (is_open c.play_numbered.new.engine)
          (found_line c.in_ok-count.field-0 count old rest c.loop-count.reader reader c.in-Some.is
          (c.in_ok-count.ensures.next rest)
          ∙ ap (λ (l : List ℕ). with_line l (meant reader (drop count old ++ rest)))
          (sym c.line.ensures.line)) passes.number
          (c.loop-count.invariant.reads begun all rest so)
          (subst (λ s. IsReadLine s c.line.result.now (is_open c.loop-count.engine)
          (is_open c.play_numbered.new.engine)) c.loop-count.invariant.keeps.schema
          c.in_ok-play_numbered.ensures.going.1));
      stands = λ p at.
          let now = c.loop-count.invariant.stands p at in
          let played = c.in_ok-play_numbered.ensures.played now.0 now.1 in (
            _,
            at_alone g.B.View c.args.answers _ c.play_numbered.new.engine c.play_numbered.new.out
                played.played.at,
          );
      counted = c.in_ok-play_numbered.ensures.counts.counted refl ∙ c.loop-count.invariant.counted;
    }

pub returns-in_err-count-clause-played : goal.returns-in_err-count-clause-played
returns-in_err-count-clause-played g c = λ told p all rest start going.
    let b = beside g.B.View c.args.answers in
    let reader = c.next_line.new.reader in
    going_end b p all (meant c.loop-count.reader (c.loop-count.rest.now ++ rest))
    (meant reader rest) (number_of c.loop-count.reader) (number_of reader)
    c.in_err-count.field-0.0
    c.from_residual.result start (with_answers c.loop-count.engine c.loop-count.out)
    (c.loop-count.invariant.played told p all rest start going)
    (is_err _ _ c.from_residual.ensures.1) (c.in_err-count.ensures.none rest)

pub returns-in_err-count-clause-cause : goal.returns-in_err-count-clause-cause
returns-in_err-count-clause-cause g c = λ p at stop e.
    absurd (no_stop _ _ c.from_residual.result c.in_err-count.field-0.0 stop
    (c.in_err-count.ensures.none []) (is_err _ _ c.from_residual.ensures.1) e)

pub returns-in_err-count-clause-counts : goal.returns-in_err-count-clause-counts
returns-in_err-count-clause-counts g c =
    line_counts _ _ c.in_err-count.field-0.0 c.from_residual.result _ _
    (c.in_err-count.ensures.none []) (is_err _ _ c.from_residual.ensures.1)
    c.loop-count.invariant.counted

pub returns-in_err-play_numbered-clause-played : goal.returns-in_err-play_numbered-clause-played
returns-in_err-play_numbered-clause-played g c = λ told p all rest start going.
    let b = beside g.B.View c.args.answers in
    let old = c.loop-count.rest.now in
    let reader = c.next_line.new.reader in
    let count = c.in-Some.count in
    let passes = found_passes c.in_ok-count.field-0 count (length old) c.loop-count.reader reader
    c.in-Some.is c.in_ok-count.ensures.passes in
    let now = c.loop-count.invariant.played told p all rest start going in
    let at = at_alone g.B.View c.args.answers now.so_far.now c.loop-count.engine c.loop-count.out
    now.so_far.at in
    going_bad b p all (meant c.loop-count.reader (old ++ rest))
    (meant reader (drop count old ++ rest)) (meant reader rest)
    (number_of c.loop-count.reader) (number_of reader) (number_of reader) c.line.result.now
    c.in_err-play_numbered.field-0.0 c.from_residual-in_err-play_numbered.result start
    (with_answers c.loop-count.engine c.loop-count.out)
    (with_answers c.play_numbered.new.engine c.play_numbered.new.out)
    (found_line c.in_ok-count.field-0 count old rest c.loop-count.reader reader c.in-Some.is
    (c.in_ok-count.ensures.next rest)
    ∙ ap (λ (l : List ℕ). with_line l (meant reader (drop count old ++ rest)))
    (sym c.line.ensures.line)) passes.number c.loop-count.invariant.keeps.ready
    now (is_err _ _ c.from_residual-in_err-play_numbered.ensures.1)
    (λ n why e. (
      subst (λ k. IsBadAt (schema_of c.loop-count.engine) (is_open c.loop-count.engine) k
          c.line.result.now n why) c.number.ensures
          (c.in_err-play_numbered.ensures.bad n why (ap Err e)).0,
      (c.in_err-play_numbered.ensures.bad n why (ap Err e)).1,
    ))
    (λ why e. c.in_err-play_numbered.ensures.given_up told now.so_far.now at why (ap Err e))

pub returns-in_err-play_numbered-clause-keeps : goal.returns-in_err-play_numbered-clause-keeps
returns-in_err-play_numbered-clause-keeps g c =
    keeps_then g.B.View c.args.answers c.args.engine.now c.loop-count.engine
    c.play_numbered.new.engine c.loop-count.invariant.keeps c.play_numbered.ensures.keeps

pub returns-clause-played : goal.returns-clause-played
returns-clause-played g c = λ told p all rest start going.
    let b = beside g.B.View c.args.answers in
    let old = c.loop-count.rest.now in
    let reader = c.next_line.new.reader in
    let e = with_answers c.loop-count.engine c.loop-count.out in
    let passes = none_passes c.in_ok-count.field-0 (length old) c.loop-count.reader reader
    c.in_default.is c.in_ok-count.ensures.passes in
    let number : number_of c.loop-count.reader ≡ number_of reader = omega (arith, passes.number) in
    subst (λ n. IsGoing b p all (meant reader rest) n start e) number
    (subst (λ ls. IsGoing b p all ls (number_of c.loop-count.reader) start e)
    (found_none c.in_ok-count.field-0 old rest c.loop-count.reader reader c.in_default.is
    (c.in_ok-count.ensures.next rest))
    (c.loop-count.invariant.played told p all rest start going))

pub returns-in_err-count-clause-crash : goal.returns-in_err-count-clause-crash
returns-in_err-count-clause-crash g c = λ told p all rest start kept going head leaves.
    leaves_on g.B.View (schema_of start) (built_of start) c.args.answers p all.lines false
    (is_play_fault c.from_residual.result) (leaves_of start) (leaves_of c.loop-count.engine)
    (λ none. refl) (c.loop-count.invariant.leaves told p all rest start kept going head leaves)

pub returns-in_err-play_numbered-clause-crash : goal.returns-in_err-play_numbered-clause-crash
returns-in_err-play_numbered-clause-crash g c = λ told p all rest start kept going head leaves.
    let old = c.loop-count.rest.now in
    let reader = c.next_line.new.reader in
    let count = c.in-Some.count in
    let now = c.loop-count.invariant.played told p all rest (with_answers start kept) going in
    subst (λ (b : Bool). LeavesPlay g.B.View (schema_of start) (built_of start) c.args.answers p
    all.lines b (leaves_of start) (leaves_of c.play_numbered.new.engine))
    (ap is_play_fault (sym (is_err _ _ c.from_residual-in_err-play_numbered.ensures.1)))
    (line_on_leaves g.B.View c.args.answers p all (meant c.loop-count.reader (old ++ rest))
    (meant reader (drop count old ++ rest)) (number_of c.loop-count.reader) c.line.result.now start
    c.loop-count.engine c.play_numbered.new.engine kept c.loop-count.out _
    (found_line c.in_ok-count.field-0 count old rest c.loop-count.reader reader c.in-Some.is
    (c.in_ok-count.ensures.next rest)
    ∙ ap (λ (l : List ℕ). with_line l (meant reader (drop count old ++ rest)))
    (sym c.line.ensures.line)) now (c.loop-count.invariant.keeps.head ∙ head)
    (c.loop-count.invariant.leaves told p all rest start kept going head leaves)
    (c.in_err-play_numbered.ensures.crash told))

pub returns-clause-crash : goal.returns-clause-crash
returns-clause-crash g c = c.loop-count.invariant.leaves

pub returns-in_err-count-clause-reads : goal.returns-in_err-count-clause-reads
returns-in_err-count-clause-reads g c = λ begun all rest so.
    read_end (schema_of c.args.engine.now) begun all
    (meant c.loop-count.reader (c.loop-count.rest.now ++ rest)) (number_of c.loop-count.reader)
    (is_open c.loop-count.engine) c.in_err-count.field-0.0 c.from_residual.result
    (c.loop-count.invariant.reads begun all rest so) (is_err _ _ c.from_residual.ensures.1)
    (c.in_err-count.ensures.none rest) (meant c.next_line.new.reader rest)
    (number_of c.next_line.new.reader) (is_open c.loop-count.engine)

pub returns-in_err-play_numbered-clause-reads : goal.returns-in_err-play_numbered-clause-reads
returns-in_err-play_numbered-clause-reads g c = λ begun all rest so.
    let old = c.loop-count.rest.now in
    let reader = c.next_line.new.reader in
    let count = c.in-Some.count in
    let passes = found_passes c.in_ok-count.field-0 count (length old) c.loop-count.reader reader
    c.in-Some.is c.in_ok-count.ensures.passes in
    read_bad (schema_of c.args.engine.now) begun all (meant c.loop-count.reader (old ++ rest))
    (meant reader (drop count old ++ rest)) (number_of c.loop-count.reader) (number_of reader)
    c.line.result.now (is_open c.loop-count.engine) c.in_err-play_numbered.field-0.0
    c.from_residual-in_err-play_numbered.result
    (found_line c.in_ok-count.field-0 count old rest c.loop-count.reader reader c.in-Some.is
    (c.in_ok-count.ensures.next rest)
    ∙ ap (λ (l : List ℕ). with_line l (meant reader (drop count old ++ rest)))
    (sym c.line.ensures.line)) passes.number
    (c.loop-count.invariant.reads begun all rest so)
    (is_err _ _ c.from_residual-in_err-play_numbered.ensures.1)
    (λ n why e. subst (λ s. IsBadAt s (is_open c.loop-count.engine) (number_of reader)
    c.line.result.now n why) c.loop-count.invariant.keeps.schema
    (subst (λ k. IsBadAt (schema_of c.loop-count.engine) (is_open c.loop-count.engine) k
    c.line.result.now n why) c.number.ensures
    (c.in_err-play_numbered.ensures.bad n why (ap Err e)).0))
    (meant reader rest) (number_of reader) (is_open c.play_numbered.new.engine)

pub returns-clause-reads : goal.returns-clause-reads
returns-clause-reads g c = λ begun all rest so.
    let old = c.loop-count.rest.now in
    let reader = c.next_line.new.reader in
    let schema = schema_of c.args.engine.now in
    let passes = none_passes c.in_ok-count.field-0 (length old) c.loop-count.reader reader
    c.in_default.is c.in_ok-count.ensures.passes in
    let number : number_of c.loop-count.reader ≡ number_of reader = omega (arith, passes.number) in
    subst (λ n. IsReadTo schema begun all (meant reader rest) n (is_open c.loop-count.engine))
    number
    (subst (λ ls. IsReadTo schema begun all ls (number_of c.loop-count.reader)
    (is_open c.loop-count.engine))
    (found_none c.in_ok-count.field-0 old rest c.loop-count.reader reader c.in_default.is
    (c.in_ok-count.ensures.next rest))
    (c.loop-count.invariant.reads begun all rest so))

pub returns-clause-going : goal.returns-clause-going
returns-clause-going g c = (c.loop-count.invariant.going, search rules)
