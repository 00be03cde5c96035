-- One line of a script of turns: from the turn of a session to its line, and to the line of the
-- script.
use Rattle.std.proofs.Common.{◌≡◌, inl, inr, ℕ, ◌-◌, List, [], length, take, drop, Option, Bool, true, false, IsTrue, None, Some, Result, Ok, Err, refl, sym, ap, subst, ◌∙◌, arith}
use Rattle.std.specs.Option.{option_map}
use Rattle.std.proofs.lemmas.List.{take_all, length-drop}
use Rattle.gx_device.specs.declared.device.Failed.{Failed}
use Rattle.gx_device.specs.Content.{Content}
use Rattle.gx_commands.specs.declared.command.Command.{Command}
use Rattle.gx_commands.specs.declared.command.LineWhy.{LineWhy}
use Rattle.gx_commands.specs.Commands.{place_reason}
use Rattle.gx_commands.specs.Turns.{IsTurn}
use Rattle.gx_script.specs.Grammar.{IsLineOf}
use Rattle.gx_ports.specs.Calm.{StaysKept}
use Rattle.gx_ports.specs.Stops.{is_outside}
use Rattle.gx_ports.specs.declared.stop.Stop.{Stop}
use Rattle.gx_ports.specs.declared.stop.Stop.TheVariants as stop
use Rattle.gx_ports.specs.declared.view.View.{Ghosts}
use Rattle.gx_sharing.specs.Sharing.{Sharing, is_in}
use Rattle.gx_sharing.specs.Turns.{Turn}
use Rattle.gx_sharing.specs.Texts.{IsLinePlayed}
use Rattle.gx_sessions.specs.declared.sessions.Sessions.{Sessions}
use Rattle.gx_sessions.specs.declared.sessions.Turn.{Turn as TheTurn}
use Rattle.gx_sessions.specs.Turns.{schema_of, leaves_of, stop_of, AreShared, IsReady, IsSame, IsSound, IsTurned, IsNumber, MovesTo, is_in_at}
use Rattle.gx_play.specs.declared.carry.LineEnd.{LineEnd}
use Rattle.gx_play.specs.declared.carry.LineEnd.TheVariants as line_end
use Rattle.gx_play.specs.Plays.{CountsFailed, is_line_fault}
use Rattle.gx_shares.specs.Shares.{SaysTurn}
use Rattle.gx_shares.specs.Ends.{within_after}
use Rattle.gx_shares.specs.Steps.{IsTurnStep, IsTurnOf, LeavesStep}
use Rattle.gx_shares.specs.Carried.{IsStepEnd, IsStep, IsShortOn, IsCommandStep, IsTurnLineStep, IsLineStep, IsReadTurn, IsReadLine}
use Rattle.gx_shares.proofs.KeepLemmas.{sessions_same, turn_keeps, said_keeps, turn_counts, said_counts, unsaid_counts}
use Rattle.gx_shares.proofs.CarryLemmas.{turn_said, turn_unsaid, turn_front, turn_cut, turn_leaves, said_leaves, still_leaves, turned_in, says_in}
use Rattle.gx_shares.proofs.LineLemmas.{turn_goes, line_goes, commit_line, commit_of, short_of, stepped_as, cut_as, leaves_as, no_turn, unread_cut}
use Rattle.gx_shares.proofs.StandLemmas.{stands_in_turn}

-- nothing failed where nothing was called
none_failed : (faults : ℕ) (why : Stop) → why ≡ stop.NoMemory
    → CountsFailed faults faults (is_outside why)
none_failed faults why is = record {
  later = omega arith;
  rose = λ e. absurd (never (sym (ap is_outside is) ∙ e));
  counted = λ e. refl;
}
  where
    never : is_outside stop.NoMemory ≡ true → ⊥
    never e = cc

module _ {S : Type 0} (g : Ghosts S) where
  -- what was said or heard moves no session
  pub moves_still : (old mid new : Sessions S) (n : ℕ) (within : Bool) → IsSame g mid new
      → MovesTo old mid n within → MovesTo old new n within
  moves_still old mid new n within same moves =
      record { at = λ k number. rw (same.states) (moves.at k number) }

  -- ---- the command of a session

  -- its turn was given up
  pub command_cut : (n : ℕ) (c : Command) (old new : Sessions S) (out now : List ℕ) (why : Stop)
      → IsTurnStep g old new n c out now (Err why) → (line : List ℕ)
      → IsCommandStep g old new n c line (Err (line_end.Stop why))
  command_cut n c old new out now why step line = record {
    ends = λ told p at.
        turn_cut g (IsTurnOf (schema_of old) p n line c) p n c old new out now why at step;
    images = λ told p at start calm.
        turn_leaves g p n line c old new (is_outside why) (step.images p at start calm);
    keeps = turn_keeps g n c old new out now step;
    counts = turn_counts (g.faults (leaves_of old)) (g.faults (leaves_of new)) (IsSound g old) why
        step.cause;
    going = tt;
  }

  module _ (means : (l : S) (start : Content) → g.calm l start → StaysKept g l start)
      (goes_on : (l : S) (start : Content) → g.calm l start → g.calm l (g.content l))
    where
      -- it was carried out
      module _ (n : ℕ) (c : Command) (old mid new : Sessions S) (t : TheTurn)
          (out now piece : List ℕ) (empty : out ≡ []) (piece_is : piece ≡ now)
          (step : IsTurnStep g old mid n c out now (Ok t)) (same : IsSame g mid new)
          (line : List ℕ) where
        turned_at : (p : Sharing) → AreShared g p old → IsTurned g p n c t old mid [] now
        turned_at p at = turned_in g p n c t old mid out now empty (step.turned p at)

        said_images : {r : Result (Unit {0}) Failed} (failed : Bool)
            → SaysTurn g n t now (leaves_of mid) (leaves_of new) r → IsTrue g.tells → (p : Sharing)
            → AreShared g p old → (start : Content) → g.calm (leaves_of old) start
            → LeavesStep g (IsTurnOf (schema_of old) p n line c) p.kept failed old new
        said_images {r = r} failed says told p at start calm =
            let turned = turned_at p at in
            let f = turn_front g p n line c old mid new t now r turned same step.silent.said told says
            in
            said_leaves g p n line c old means goes_on mid new step.schema step.built step.head
            step.silent turned.comes.after same f.0 f.2.0 failed f.1 f.2.1
            (step.images p at start calm)

        -- and what it says was said
        pub command_said : SaysTurn g n t piece (leaves_of mid) (leaves_of new) (Ok tt)
            → IsCommandStep g old new n c line (Ok tt)
        command_said given =
            let says = says_in g n t piece now (leaves_of mid) (leaves_of new) (Ok tt) piece_is given
            in
            record {
              ends = λ told p at.
                  turn_said g p n line c old mid new t now (turned_at p at) same step.silent.said
                  says;
              images = said_images false says;
              keeps = said_keeps g old mid new n t now (turn_keeps g n c old mid out now step) same
                  says;
              counts = said_counts (g.faults (leaves_of old)) (g.faults (leaves_of mid))
                  (g.faults (leaves_of new)) (IsSound g old) t step.cause says.says.counted;
              going = same.stopped ∙ step.going;
            }

        -- or it couldn't be said whole
        pub command_unsaid : (e : Failed)
            → SaysTurn g n t piece (leaves_of mid) (leaves_of new) (Err e)
            → IsCommandStep g old new n c line (Err (line_end.Stop stop.Fault))
        command_unsaid e given =
            let says = says_in g n t piece now (leaves_of mid) (leaves_of new) (Err e) piece_is given
            in
            record {
              ends = λ told p at.
                  turn_unsaid g p n line c old mid new t now (turned_at p at) same step.silent.said _ _
                  e told says;
              images = said_images true says;
              keeps = said_keeps g old mid new n t now (turn_keeps g n c old mid out now step) same
                  says;
              counts = unsaid_counts (g.faults (leaves_of old)) (g.faults (leaves_of mid))
                  (g.faults (leaves_of new)) (IsSound g old) t e step.cause says.says.cause;
              going = tt;
            }

      -- ---- nothing happened

      -- the line is bad
      pub step_bad : (Goes : Sharing → List Turn → Sharing → Type 0) (Commit : Type 0)
          (Short : Sharing → Type 0) (s : Sessions S) (why : LineWhy) → IsReady g s
          → IsStep g Goes Commit Short s s (Err (line_end.Bad why))
      step_bad Goes Commit Short s why ready = record {
        ends = λ told p at. refl;
        images = λ told p at start calm.
            still_leaves g means goes_on (Goes p) p s false at start calm;
        keeps = sessions_same g s ready;
        counts = record { later = omega arith; rose = λ e. absurd cc; counted = λ e. refl };
        going = tt;
      }

      -- or there was no memory to read it
      pub step_unread : (Goes : Sharing → List Turn → Sharing → Type 0) (Commit : Type 0)
          (Short : Sharing → Type 0) (s : Sessions S) (why : Stop) → why ≡ stop.NoMemory → IsReady g s
          → IsStep g Goes Commit Short s s (Err (line_end.Stop why))
      step_unread Goes Commit Short s why is ready = record {
        ends = λ told p at. unread_cut g (Goes p) Commit (Short p) s why is;
        images = λ told p at start calm.
            still_leaves g means goes_on (Goes p) p s (is_outside why) at start calm;
        keeps = sessions_same g s ready;
        counts = none_failed (g.faults (leaves_of s)) why is;
        going = tt;
      }

      -- whichever it is
      pub step_none : {T : Type 0} (Goes : Sharing → List Turn → Sharing → Type 0) (Commit : Type 0)
          (Short : Sharing → Type 0) (s : Sessions S) (e : LineEnd) → IsReady g s
          → ((why : Stop) → ◌≡◌ {A = Result T LineEnd} (Err e) (Err (line_end.Stop why))
          → why ≡ stop.NoMemory) → IsStep g Goes Commit Short s s (Err e)
      step_none Goes Commit Short s (line_end.Bad why) ready unread =
          step_bad Goes Commit Short s why ready
      step_none Goes Commit Short s (line_end.Stop why) ready unread =
          step_unread Goes Commit Short s why (unread why refl) ready

      -- or it is no turn
      pub line_none : (line : List ℕ) (s : Sessions S) → IsTurn line (Ok None) → IsReady g s
          → stop_of s ≡ None → IsLineStep g s s line (Ok tt)
      line_none line s none ready going = record {
        ends = λ told p at. no_turn g (schema_of s) p line s none at;
        images = λ told p at start calm.
            still_leaves g means goes_on (IsLinePlayed (schema_of s) p line) p s false at start calm;
        keeps = sessions_same g s ready;
        counts = record { later = omega arith; rose = λ e. absurd cc; counted = λ e. refl };
        going = going;
      }

  -- ---- in other words

  ends_as : (Goes Other : List Turn → Sharing → Type 0) (Commit Commits Short Shorts : Type 0)
      (old new : Sessions S) (r : Result (Unit {0}) LineEnd)
      → ((ts : List Turn) (next : Sharing) → Goes ts next → Other ts next) → (Commit → Commits)
      → (Short → Shorts) → IsStepEnd g Goes Commit Short old new r
      → IsStepEnd g Other Commits Shorts old new r
  ends_as Goes Other Commit Commits Short Shorts old new (Ok x) goes commits shorts is =
      stepped_as g Goes Other goes old new is
  ends_as Goes Other Commit Commits Short Shorts old new (Err (line_end.Stop why)) goes commits
      shorts is = cut_as g Goes Other goes old new Commit Commits Short Shorts commits shorts why is
  ends_as Goes Other Commit Commits Short Shorts old new (Err (line_end.Bad why)) goes commits
      shorts is = is

  step_as : (Goes Other : Sharing → List Turn → Sharing → Type 0) (Commit Commits : Type 0)
      (Short Shorts : Sharing → Type 0) (old new : Sessions S) (r : Result (Unit {0}) LineEnd)
      → ((p : Sharing) → AreShared g p old → (ts : List Turn) (next : Sharing) → Goes p ts next
      → Other p ts next) → (Commit → Commits)
      → ((p : Sharing) → AreShared g p old → Short p → Shorts p)
      → IsStep g Goes Commit Short old new r → IsStep g Other Commits Shorts old new r
  step_as Goes Other Commit Commits Short Shorts old new r goes commits shorts step = record {
    ends = λ told p at.
        ends_as (Goes p) (Other p) Commit Commits (Short p) (Shorts p) old new r (goes p at) commits
        (shorts p at) (step.ends told p at);
    images = λ told p at start calm.
        leaves_as g (Goes p) (Other p) (goes p at) old new p.kept (is_line_fault r)
        (step.images told p at start calm);
    keeps = step.keeps;
    counts = step.counts;
    going = step.going;
  }

  -- the step of a command is that of the session's line
  pub turn_line : (n : ℕ) (line : List ℕ) (c : Command) (old new : Sessions S)
      (r : Result (Unit {0}) LineEnd) → IsReady g old → IsNumber n → IsLineOf (schema_of old) line c
      → place_reason (is_in_at old n) c ≡ None → IsCommandStep g old new n c line r
      → IsTurnLineStep g old new n line r
  turn_line n line c old new r ready number means placed =
      step_as _ _ _ _ _ _ old new r
      (λ p at ts next. turn_goes (schema_of old) p n line c means (placed_at p at) ts next)
      (commit_line (schema_of old) line c means)
      (λ p at short. (c, means, placed_at p at, short.0, short.1))
    where
      placed_at : (p : Sharing) → AreShared g p old → place_reason (is_in (p.session n)) c ≡ None
      placed_at p at =
          subst (λ (b : Bool). place_reason b c ≡ None) (stands_in_turn g p old ready at n number)
          placed

  -- and this that of the line of the script
  pub whole_line : (line : List ℕ) (n : ℕ) (rest : List ℕ) (old new : Sessions S)
      (r : Result (Unit {0}) LineEnd) → IsTurn line (Ok (Some (n, rest)))
      → IsTurnLineStep g old new n rest r → IsLineStep g old new line r
  whole_line line n rest old new r is_turn =
      step_as _ _ _ _ _ _ old new r
      (λ p at ts next. line_goes (schema_of old) p line n rest is_turn ts next)
      (commit_of (schema_of old) line n rest is_turn)
      (λ p at. short_of (schema_of old) (IsShortOn g old) p line n rest is_turn)

-- ---- what was read of a line

pub none_read : (line : List ℕ) (turn : Option (ℕ × ℕ)) → turn ≡ None
    → IsTurn line (Ok (option_map (λ x. (x.0, drop x.1 line)) turn)) → IsTurn line (Ok None)
none_read line turn is read =
    subst (λ (t : Option (ℕ × ℕ)). IsTurn line (Ok (option_map (λ x. (x.0, drop x.1 line)) t))) is
    read

pub turn_read : (line : List ℕ) (turn : Option (ℕ × ℕ)) (n at : ℕ) → turn ≡ Some (n, at)
    → IsTurn line (Ok (option_map (λ x. (x.0, drop x.1 line)) turn))
    → IsTurn line (Ok (Some (n, take (length line - at) (drop at line))))
turn_read line turn n at is read =
    subst (λ (l : List ℕ). IsTurn line (Ok (Some (n, l))))
    (sym (take_all (length line - at) (drop at line) (omega (arith, length-drop at line))))
    (subst (λ (t : Option (ℕ × ℕ)). IsTurn line (Ok (option_map (λ x. (x.0, drop x.1 line)) t))) is
    read)

-- ---- the lines alone

pub read_whole : {S : Type 0} (line : List ℕ) (n : ℕ) (rest : List ℕ) (old new : Sessions S)
    (r : Result (Unit {0}) LineEnd) → IsTurn line (Ok (Some (n, rest))) → IsReadTurn old new n rest r
    → IsReadLine old new line r
read_whole line n rest old new (Ok x) is_turn (c, means, placed, moves) = (
  within_after (is_in_at old) n c,
  inr (record {
    session = n;
    rest = rest;
    is_turn = is_turn;
    command = c;
    means = means;
    placed = placed;
    behind_is = refl;
  }),
  moves.at,
)
read_whole line n rest old new (Err (line_end.Bad why)) is_turn bad = inr (n, rest, is_turn, bad)
read_whole line n rest old new (Err (line_end.Stop why)) is_turn is = tt

pub read_none : {S : Type 0} (line : List ℕ) (s : Sessions S) → IsTurn line (Ok None)
    → IsReadLine s s line (Ok tt)
read_none line s none = (is_in_at s, inl (none, refl), λ n number. refl)
