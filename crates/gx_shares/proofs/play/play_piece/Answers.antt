use Rattle.std.proofs.Common.{◌≡◌, ◌-◌, ◌++◌, ◌∙◌, List, ℕ, [], length, take, drop, refl, sym, ap, subst, arith}
use Rattle.std.proofs.lemmas.List.{take_all, length-drop}
use Rattle.gx_commands.specs.Lines.{with_line}
use Rattle.gx_reader.specs.Reader.{meant}
use Rattle.gx_reader.proofs.FoundLemmas.{found_line, found_passes, found_none, found_within, none_passes}
use Rattle.gx_play.proofs.PlayLemmas.{is_err}
use Rattle.gx_shares.proofs.GoingLemmas.{GoesTo}
use Rattle.gx_shares.proofs.KeepLemmas.{sessions_same, sessions_then}
use Rattle.gx_shares.proofs.PlayLemmas.{end_counts, ReadsTo, goes_line, piece_cut, piece_end, piece_whole, reads_to_line, read_piece_cut, read_piece_end, read_piece_whole}
use Rattle.gx_shares.proofs.play.play_piece.Goals as goal

pub loop-count-init : goal.loop-count-init
loop-count-init g c = record {
  keeps = sessions_same g.B.View c.args.sessions.now c.requires.ready;
  going = c.requires.going;
  stays_open = c.requires.open;
  taken = refl;
  played = λ told o rest going. going;
  reads = λ schema script rest so. so;
  counted = refl;
}

pub loop-count-preserved : goal.loop-count-preserved
loop-count-preserved g c =
    let piece = c.args.piece.now in
    let first = c.args.reader.now in
    let s = c.args.sessions.now in
    let mid = c.loop-count.sessions in
    let new = c.play_numbered.new.sessions in
    let old = c.loop-count.rest.now in
    let reader = c.next_line.new.reader in
    let count = c.in-Some.count in
    let passes = found_passes c.in_ok-count.field-0 count (length old) c.loop-count.reader reader
    c.in-Some.is c.in_ok-count.ensures.passes in
    let left : take (length old - count) (drop count old) ≡ drop count old =
    take_all (length old - count) (drop count old) (omega (arith, length-drop count old)) in
    let found = λ (rest : List ℕ).
    found_line c.in_ok-count.field-0 count old rest c.loop-count.reader reader c.in-Some.is
    (c.in_ok-count.ensures.next rest)
    ∙ ap (λ (l : List ℕ). with_line l (meant reader (drop count old ++ rest)))
    (sym c.line.ensures.line) in
    record {
      keeps = sessions_then g.B.View s mid new c.loop-count.invariant.keeps
          c.play_numbered.ensures.keeps;
      going = c.in_ok-play_numbered.ensures.going;
      stays_open = passes.stays_open;
      taken = omega (
        arith,
        passes.left,
        c.loop-count.invariant.taken,
        (found_within c.in_ok-count.field-0 count (length old) c.in-Some.is
            c.in_ok-count.ensures.within).1,
        ap (λ (l : List ℕ). length l) left,
        length-drop count old,
      );
      played = λ told.
          subst (λ (l : List ℕ). GoesTo g.B.View piece first l reader s new) (sym left)
          (goes_line g.B.View piece first c.loop-count.reader reader old s mid
          (c.loop-count.invariant.played told) count c.line.result.now c.number.result new found
          passes.number c.number.ensures (c.in_ok-play_numbered.ensures.played told));
      reads =
          subst (λ (l : List ℕ). ReadsTo piece first l reader s new) (sym left)
          (reads_to_line piece first c.loop-count.reader reader old s mid
          c.loop-count.invariant.reads count c.line.result.now c.number.result new found
          passes.number c.number.ensures c.in_ok-play_numbered.ensures.reads);
      counted = c.in_ok-play_numbered.ensures.counts.counted refl ∙ c.loop-count.invariant.counted;
    }

pub returns-in_err-count-clause-played : goal.returns-in_err-count-clause-played
returns-in_err-count-clause-played g c = λ told.
    piece_end g.B.View c.args.piece.now c.args.reader.now c.loop-count.reader
    c.next_line.new.reader c.loop-count.rest.now c.args.sessions.now c.loop-count.sessions
    (c.loop-count.invariant.played told) c.in_err-count.field-0.0 c.next_line.new.reader
    c.from_residual.result (is_err _ _ c.from_residual.ensures.1) c.in_err-count.ensures.none

pub returns-in_err-count-clause-reads : goal.returns-in_err-count-clause-reads
returns-in_err-count-clause-reads g c =
    read_piece_end c.args.piece.now c.args.reader.now c.loop-count.reader
    c.next_line.new.reader c.loop-count.rest.now c.args.sessions.now c.loop-count.sessions
    c.loop-count.invariant.reads c.in_err-count.field-0.0 c.next_line.new.reader
    c.from_residual.result (is_err _ _ c.from_residual.ensures.1) c.in_err-count.ensures.none

pub returns-in_err-play_numbered-clause-played : goal.returns-in_err-play_numbered-clause-played
returns-in_err-play_numbered-clause-played g c = λ told.
    let old = c.loop-count.rest.now in
    let reader = c.next_line.new.reader in
    let count = c.in-Some.count in
    let passes = found_passes c.in_ok-count.field-0 count (length old) c.loop-count.reader reader
    c.in-Some.is c.in_ok-count.ensures.passes in
    let found = λ (rest : List ℕ).
    found_line c.in_ok-count.field-0 count old rest c.loop-count.reader reader c.in-Some.is
    (c.in_ok-count.ensures.next rest)
    ∙ ap (λ (l : List ℕ). with_line l (meant reader (drop count old ++ rest)))
    (sym c.line.ensures.line) in
    piece_cut g.B.View c.args.piece.now c.args.reader.now c.loop-count.reader reader old
    c.args.sessions.now c.loop-count.sessions (c.loop-count.invariant.played told) count
    c.line.result.now c.number.result c.play_numbered.new.sessions found passes.number
    c.number.ensures c.in_err-play_numbered.field-0.0 reader
    c.from_residual-in_err-play_numbered.result
    (is_err _ _ c.from_residual-in_err-play_numbered.ensures.1)
    (c.in_err-play_numbered.ensures.played told)

pub returns-in_err-play_numbered-clause-reads : goal.returns-in_err-play_numbered-clause-reads
returns-in_err-play_numbered-clause-reads g c =
    let old = c.loop-count.rest.now in
    let reader = c.next_line.new.reader in
    let count = c.in-Some.count in
    let passes = found_passes c.in_ok-count.field-0 count (length old) c.loop-count.reader reader
    c.in-Some.is c.in_ok-count.ensures.passes in
    let found = λ (rest : List ℕ).
    found_line c.in_ok-count.field-0 count old rest c.loop-count.reader reader c.in-Some.is
    (c.in_ok-count.ensures.next rest)
    ∙ ap (λ (l : List ℕ). with_line l (meant reader (drop count old ++ rest)))
    (sym c.line.ensures.line) in
    read_piece_cut c.args.piece.now c.args.reader.now c.loop-count.reader reader old
    c.args.sessions.now c.loop-count.sessions c.loop-count.invariant.reads count
    c.line.result.now c.number.result c.play_numbered.new.sessions found passes.number
    c.number.ensures c.in_err-play_numbered.field-0.0 reader
    c.from_residual-in_err-play_numbered.result
    (is_err _ _ c.from_residual-in_err-play_numbered.ensures.1)
    c.in_err-play_numbered.ensures.reads

pub returns-in_err-play_numbered-clause-keeps : goal.returns-in_err-play_numbered-clause-keeps
returns-in_err-play_numbered-clause-keeps g c =
    sessions_then g.B.View c.args.sessions.now c.loop-count.sessions c.play_numbered.new.sessions
    c.loop-count.invariant.keeps c.play_numbered.ensures.keeps

pub returns-clause-played : goal.returns-clause-played
returns-clause-played g c = λ told.
    let old = c.loop-count.rest.now in
    let reader = c.next_line.new.reader in
    let passes = none_passes c.in_ok-count.field-0 (length old) c.loop-count.reader reader
    c.in_default.is c.in_ok-count.ensures.passes in
    piece_whole g.B.View c.args.piece.now c.args.reader.now c.loop-count.reader reader old
    c.args.sessions.now c.loop-count.sessions (c.loop-count.invariant.played told)
    (λ rest. found_none c.in_ok-count.field-0 old rest c.loop-count.reader reader c.in_default.is
    (c.in_ok-count.ensures.next rest)) (omega (arith, passes.number))

pub returns-clause-reads : goal.returns-clause-reads
returns-clause-reads g c =
    let old = c.loop-count.rest.now in
    let reader = c.next_line.new.reader in
    let passes = none_passes c.in_ok-count.field-0 (length old) c.loop-count.reader reader
    c.in_default.is c.in_ok-count.ensures.passes in
    read_piece_whole c.args.piece.now c.args.reader.now c.loop-count.reader reader old
    c.args.sessions.now c.loop-count.sessions c.loop-count.invariant.reads
    (λ rest. found_none c.in_ok-count.field-0 old rest c.loop-count.reader reader c.in_default.is
    (c.in_ok-count.ensures.next rest)) (omega (arith, passes.number))

pub returns-in_err-count-clause-counts : goal.returns-in_err-count-clause-counts
returns-in_err-count-clause-counts g c =
    end_counts _ _ _ _ c.in_err-count.field-0.0 c.from_residual.result
    c.loop-count.invariant.counted (c.in_err-count.ensures.none [])
    (is_err _ _ c.from_residual.ensures.1)
