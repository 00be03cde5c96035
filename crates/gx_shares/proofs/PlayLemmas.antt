-- The line of a number in the play of a script of turns, and in the reading of its lines.
use Rattle.std.proofs.Common.{◌≡◌, inl, inr, ℕ, ◌+◌, List, ◌++◌, drop, Bool, true, false, IsTrue, None, Result, Ok, Err, refl, sym, subst, ◌∙◌, cond, arith}
use Rattle.std.specs.Prelude.{◌==◌}
use Rattle.std.specs.List.{list_any}
use Rattle.gx_schema.specs.declared.schema.Schema.{Schema}
use Rattle.gx_commands.specs.declared.command.Command.{Command}
use Rattle.gx_commands.specs.declared.command.LineWhy.{LineWhy}
use Rattle.gx_commands.specs.declared.command.LineWhy.TheVariants as why
use Rattle.gx_commands.specs.Commands.{inside_after, place_reason}
use Rattle.gx_commands.specs.Lines.{Lines, with_line, no_lines}
use Rattle.gx_reader.specs.declared.reader.LineReader.{LineReader}
use Rattle.gx_reader.specs.Reader.{meant, number_of}
use Rattle.gx_ports.specs.declared.view.View.{Ghosts}
use Rattle.gx_model.specs.Play.{good, stopped}
use Rattle.gx_model.specs.Runs.{IsBadLine}
use Rattle.gx_sharing.specs.Sharing.{Sharing, sessions, is_in}
use Rattle.gx_sharing.specs.Texts.{IsBadTurn, is_any_in}
use Rattle.gx_sessions.specs.declared.sessions.Sessions.{Sessions}
use Rattle.gx_sessions.specs.Turns.{schema_of, leaves_of, AreShared, IsReady, IsNumber, is_in_at}
use Rattle.gx_play.specs.declared.carry.LineEnd.{LineEnd}
use Rattle.gx_play.specs.declared.carry.LineEnd.TheVariants as line_end
use Rattle.gx_play.specs.declared.ending.Ending.TheVariants as ending
use Rattle.gx_play.specs.declared.play.PlayEnd.{PlayEnd}
use Rattle.gx_play.specs.declared.play.PlayEnd.TheVariants as play_end
use Rattle.gx_play.specs.Plays.{CountsFailed, IsLineEnd, is_play_fault}
use Rattle.gx_shares.specs.Ends.{within_after, IsLineRead, IsLineBad, IsShareEnd}
use Rattle.gx_shares.specs.Carried.{as_play, IsLineStep, IsReadLine}
use Rattle.gx_shares.specs.Going.{Over, IsGoing, IsOver, IsPlayedOn, PlaysLine, PlaysPiece, IsReadTo, IsReadOn}
use Rattle.gx_shares.specs.Reads.{ReadsLine, ReadsPiece}
use Rattle.gx_shares.proofs.LineLemmas.{turn_number}
use Rattle.gx_shares.proofs.StandLemmas.{stands_in_turn}
use Rattle.gx_shares.proofs.GoingLemmas.{GoesTo, going_line, over_bad, over_cut, over_end, over_open, over_shut}
use Rattle.gx_shares.proofs.ReadLemmas.{any_same, read_line, read_bad, read_end, read_out, read_stop}

-- ---- one line is played on

-- it is bad in the play where it is so by where the sessions are
bad_turn : {S : Type 0} (g : Ghosts S) (p : Sharing) (line : List ℕ) (why : LineWhy)
    (s : Sessions S) → IsReady g s → AreShared g p s
    → IsLineBad (schema_of s) (is_in_at s) line why → IsBadTurn (schema_of s) p line why
bad_turn g p line why s ready at (inl none) = inl none
bad_turn g p line why s ready at (inr (n, rest, is_turn, bad)) = inr (
  n,
  rest,
  is_turn,
  subst (λ (b : Bool). IsBadLine (schema_of s) b rest why)
      (stands_in_turn g p s ready at n (turn_number line n rest is_turn)) bad,
)

pub line_plays : {S : Type 0} (g : Ghosts S) (number : ℕ) (line : List ℕ) (old new : Sessions S)
    (r : Result (Unit {0}) LineEnd) → IsTrue g.tells → IsReady g old → IsLineStep g old new line r
    → IsReadLine old new line r → PlaysLine g number line old new (as_play number r)
line_plays g number line old new (Ok x) told ready step reads o before left ran before_is number_is
    going =
    going_line g o before left ran number line old new before_is number_is going step.keeps told
    (step.ends told going.now going.at)
    (λ calm. step.images told going.now going.at (g.content (leaves_of old))
    ((going.images calm).calm refl))
line_plays g number line old new (Err (line_end.Bad why)) told ready step reads o before left ran
    before_is number_is going =
    over_bad g o before left ran number line old new before_is number_is going step.keeps why
    (step.ends told going.now going.at) (bad_turn g going.now line why old ready going.at reads)
line_plays g number line old new (Err (line_end.Stop why)) told ready step reads o before left ran
    before_is number_is going =
    over_cut g o before left ran number line old new before_is number_is going step.keeps why
    (step.ends told going.now going.at)
    (λ calm. step.images told going.now going.at (g.content (leaves_of old))
    ((going.images calm).calm refl))

-- ---- and read on

-- behind a command the sessions are where they are by where they were before it
behind_same : (f h : ℕ → Bool) → ((n : ℕ) → IsNumber n → f n ≡ h n) → (session : ℕ) (c : Command)
    → IsNumber session → (n : ℕ) → IsNumber n
    → within_after f session c n ≡ within_after h session c n
behind_same f h same session c numbered n number =
    λ i. cond (n == session) (inside_after (same session numbered i) c) (same n number i)

read_good : {S : Type 0} (schema : Schema) (script : List ℕ) (before left : Lines)
    (number next : ℕ) (line : List ℕ) (s new : Sessions S) → before ≡ with_line line left
    → next ≡ number + 1 → schema_of new ≡ schema_of s
    → IsReadTo schema script before number s → (behind : ℕ → Bool)
    → IsLineRead (schema_of s) (is_in_at s) line behind
    → ((n : ℕ) → IsNumber n → is_in_at new n ≡ behind n) → IsReadTo schema script left next new
read_good schema script before left number next line s new before_is next_is same so behind
    (inl (none, behind_is)) stands =
    read_line schema script before left number next line s new before_is next_is same so so.within
    (inl (none, refl))
    (λ n number. stands n number ∙ (λ i. behind_is i n) ∙ so.stands n number)
read_good schema script before left number next line s new before_is next_is same so behind
    (inr turn) stands =
    let numbered = turn_number line turn.session turn.rest turn.is_turn in
    read_line schema script before left number next line s new before_is next_is same so
    (within_after so.within turn.session turn.command) (inr (record {
      session = turn.session;
      rest = turn.rest;
      is_turn = turn.is_turn;
      command = turn.command;
      means = turn.means;
      placed = subst (λ (b : Bool). place_reason b turn.command ≡ None)
          (so.stands turn.session numbered) turn.placed;
      behind_is = refl;
    }))
    (λ n number. stands n number ∙ (λ i. turn.behind_is i n)
    ∙ behind_same (is_in_at s) so.within so.stands turn.session turn.command numbered n number)

bad_there : {S : Type 0} (line : List ℕ) (why : LineWhy) (s : Sessions S) (within : ℕ → Bool)
    → ((n : ℕ) → IsNumber n → is_in_at s n ≡ within n)
    → IsLineBad (schema_of s) (is_in_at s) line why → IsLineBad (schema_of s) within line why
bad_there line why s within stands (inl none) = inl none
bad_there line why s within stands (inr (n, rest, is_turn, bad)) = inr (
  n,
  rest,
  is_turn,
  subst (λ (b : Bool). IsBadLine (schema_of s) b rest why)
      (stands n (turn_number line n rest is_turn)) bad,
)

pub line_reads : {S : Type 0} (number : ℕ) (line : List ℕ) (old new : Sessions S)
    (r : Result (Unit {0}) LineEnd) → schema_of new ≡ schema_of old → IsReadLine old new line r
    → ReadsLine number line old new (as_play number r)
line_reads number line old new (Ok x) same reads schema script before left ran before_is number_is
    so =
    read_good schema script before left ran number line old new before_is number_is same so reads.0
    reads.1 reads.2
line_reads number line old new (Err (line_end.Bad why)) same reads schema script before left ran
    before_is number_is so =
    read_bad schema script before left ran number line why old before_is number_is so
    (bad_there line why old so.within so.stands reads)
line_reads number line old new (Err (line_end.Stop why)) same reads schema script before left ran
    before_is number_is so = read_stop schema script why

-- where the next line can't be had, nothing failed
pub end_counts : (before now number : ℕ) (left : Lines) (end : PlayEnd)
    (r : Result (Unit {0}) PlayEnd) → now ≡ before → IsLineEnd left number end → r ≡ Err end
    → CountsFailed before now (is_play_fault r)
end_counts before now number left (play_end.Line n reason) r same is r_is =
    subst (λ (k : Result (Unit {0}) PlayEnd). CountsFailed before now (is_play_fault k)) (sym r_is)
    (record { later = omega (arith, same); rose = λ e. absurd cc; counted = λ e. same })
end_counts before now number left (play_end.Stop stop) r same is r_is = absurd is

-- ---- where no line is left

-- a session is in a transaction where it is so by the play
any_there : {S : Type 0} (g : Ghosts S) (p : Sharing) (s : Sessions S) (some : Bool) → IsReady g s
    → AreShared g p s → list_any (is_in_at s) sessions ≡ some → is_any_in p ≡ some
any_there g p s some ready at is =
    sym (any_same (is_in_at s) (λ n. is_in (p.session n)) (stands_in_turn g p s ready at)) ∙ is

pub rest_open : {S : Type 0} (g : Ghosts S) (o : Over S) (number n : ℕ) (s : Sessions S)
    → IsReady g s → IsGoing g o no_lines number s → n ≡ number
    → list_any (is_in_at s) sessions ≡ true
    → IsOver g o s (Err (ending.Line n why.OpenTransaction))
rest_open g o number n s ready going n_is some =
    subst (λ k. IsOver g o s (Err (ending.Line k why.OpenTransaction))) (sym n_is)
    (over_open g o no_lines number s going refl (any_there g going.now s true ready going.at some))

pub rest_shut : {S : Type 0} (g : Ghosts S) (o : Over S) (number : ℕ) (s : Sessions S)
    → IsReady g s → IsGoing g o no_lines number s → list_any (is_in_at s) sessions ≡ false
    → IsOver g o s (Ok tt)
rest_shut g o number s ready going none =
    over_shut g o no_lines number s going refl (any_there g going.now s false ready going.at none)

pub read_open : {S : Type 0} (schema : Schema) (script : List ℕ) (number n : ℕ) (s : Sessions S)
    → IsReadTo schema script no_lines number s → n ≡ number
    → list_any (is_in_at s) sessions ≡ true
    → IsShareEnd schema script (stopped n why.OpenTransaction)
read_open schema script number n s so n_is some =
    subst (λ k. IsShareEnd schema script (stopped k why.OpenTransaction)) (sym n_is)
    (read_out schema script no_lines number s true so refl some)

pub read_shut : {S : Type 0} (schema : Schema) (script : List ℕ) (number : ℕ) (s : Sessions S)
    → IsReadTo schema script no_lines number s → list_any (is_in_at s) sessions ≡ false
    → IsShareEnd schema script good
read_shut schema script number s so none =
    read_out schema script no_lines number s false so refl none

-- ---- the lines of a piece

module _ {S : Type 0} (g : Ghosts S) (piece : List ℕ) (reader then next : LineReader)
    (left : List ℕ) (old mid : Sessions S) (goes : GoesTo g piece reader left then old mid) where
  -- the next line can't be had
  pub piece_end : (end : PlayEnd) (last : LineReader) (r : Result (Unit {0}) PlayEnd) → r ≡ Err end
      → ((rest : List ℕ) → IsLineEnd (meant then (left ++ rest)) (number_of then) end)
      → PlaysPiece g piece reader last old mid r
  piece_end end last r r_is is o rest going =
      subst (IsPlayedOn g o (meant last rest) (number_of last) mid) (sym r_is)
      (over_end g o (meant then (left ++ rest)) (number_of then) mid (goes o rest going) end
      (is rest))

  -- none ends in what is left
  pub piece_whole : ((rest : List ℕ) → meant then (left ++ rest) ≡ meant next rest)
      → number_of then ≡ number_of next → PlaysPiece g piece reader next old mid (Ok tt)
  piece_whole none number o rest going =
      subst (λ n. IsGoing g o (meant next rest) n mid) number
      (subst (λ ls. IsGoing g o ls (number_of then) mid) (none rest) (goes o rest going))

  -- the next line was found
  module _ (count : ℕ) (line : List ℕ) (number : ℕ) (new : Sessions S)
      (found : (rest : List ℕ)
      → meant then (left ++ rest) ≡ with_line line (meant next (drop count left ++ rest)))
      (one : number_of next ≡ number_of then + 1) (number_is : number ≡ number_of next) where
    pub goes_line : PlaysLine g number line mid new (Ok tt)
        → GoesTo g piece reader (drop count left) next old new
    goes_line plays o rest going =
        subst (λ n. IsGoing g o (meant next (drop count left ++ rest)) n new) number_is
        (plays o (meant then (left ++ rest)) (meant next (drop count left ++ rest))
        (number_of then) (found rest) (number_is ∙ one) (goes o rest going))

    pub piece_cut : (end : PlayEnd) (last : LineReader) (r : Result (Unit {0}) PlayEnd)
        → r ≡ Err end → PlaysLine g number line mid new (Err end)
        → PlaysPiece g piece reader last old new r
    piece_cut end last r r_is plays o rest going =
        subst (IsPlayedOn g o (meant last rest) (number_of last) new) (sym r_is)
        (plays o (meant then (left ++ rest)) (meant next (drop count left ++ rest))
        (number_of then) (found rest) (number_is ∙ one) (goes o rest going))

-- the same of their reading: what is read of a piece, of which these bytes are left
abbrev pub ReadsTo : {S : Type 0} → List ℕ → LineReader → List ℕ → LineReader → Sessions S
    → Sessions S → Type 0
ReadsTo piece reader left then old new =
    (schema : Schema) (script rest : List ℕ)
    → IsReadTo schema script (meant reader (piece ++ rest)) (number_of reader) old
    → IsReadTo schema script (meant then (left ++ rest)) (number_of then) new

module _ {S : Type 0} (piece : List ℕ) (reader then next : LineReader) (left : List ℕ)
    (old mid : Sessions S) (reads : ReadsTo piece reader left then old mid) where
  pub read_piece_end : (end : PlayEnd) (last : LineReader) (r : Result (Unit {0}) PlayEnd)
      → r ≡ Err end
      → ((rest : List ℕ) → IsLineEnd (meant then (left ++ rest)) (number_of then) end)
      → ReadsPiece piece reader last old mid r
  read_piece_end end last r r_is is schema script rest so =
      subst (IsReadOn schema script (meant last rest) (number_of last) mid) (sym r_is)
      (read_end schema script (meant then (left ++ rest)) (number_of then) mid
      (reads schema script rest so) end (is rest))

  pub read_piece_whole : ((rest : List ℕ) → meant then (left ++ rest) ≡ meant next rest)
      → number_of then ≡ number_of next → ReadsPiece piece reader next old mid (Ok tt)
  read_piece_whole none number schema script rest so =
      subst (λ n. IsReadTo schema script (meant next rest) n mid) number
      (subst (λ ls. IsReadTo schema script ls (number_of then) mid) (none rest)
      (reads schema script rest so))

  module _ (count : ℕ) (line : List ℕ) (number : ℕ) (new : Sessions S)
      (found : (rest : List ℕ)
      → meant then (left ++ rest) ≡ with_line line (meant next (drop count left ++ rest)))
      (one : number_of next ≡ number_of then + 1) (number_is : number ≡ number_of next) where
    pub reads_to_line : ReadsLine number line mid new (Ok tt)
        → ReadsTo piece reader (drop count left) next old new
    reads_to_line on schema script rest so =
        subst (λ n. IsReadTo schema script (meant next (drop count left ++ rest)) n new) number_is
        (on schema script (meant then (left ++ rest)) (meant next (drop count left ++ rest))
        (number_of then) (found rest) (number_is ∙ one) (reads schema script rest so))

    pub read_piece_cut : (end : PlayEnd) (last : LineReader) (r : Result (Unit {0}) PlayEnd)
        → r ≡ Err end → ReadsLine number line mid new (Err end)
        → ReadsPiece piece reader last old new r
    read_piece_cut end last r r_is on schema script rest so =
        subst (IsReadOn schema script (meant last rest) (number_of last) new) (sym r_is)
        (on schema script (meant then (left ++ rest)) (meant next (drop count left ++ rest))
        (number_of then) (found rest) (number_is ∙ one) (reads schema script rest so))
