-- The play of a script of turns: one line more, and how it ends.
use Rattle.std.proofs.Common.{◌≡◌, inl, inr, ℕ, ◌+◌, ◌≤◌, List, [], ◌∷◌, ◌++◌, length, take, Bool, true, false, IsTrue, Option, Ok, Err, refl, sym, ap, subst, ◌∙◌, arith, append_assoc}
use Rattle.std.proofs.lemmas.List.{append-nil}
use Rattle.gx_device.specs.Content.{Moment, Content, Listens}
use Rattle.gx_device.specs.Crash.{Image, EachImage}
use Rattle.gx_device.specs.Quiet.{IsPrefix, IsQuiet, QuietSince}
use Rattle.gx_device.proofs.RunLemmas.{started, joined, weakened}
use Rattle.gx_schema.specs.declared.schema.Schema.{Schema}
use Rattle.gx_commands.specs.declared.command.LineWhy.{LineWhy}
use Rattle.gx_commands.specs.declared.command.LineWhy.TheVariants as why
use Rattle.gx_commands.specs.Lines.{Lines, with_line, no_lines, script_lines}
use Rattle.gx_reader.specs.declared.reader.LineReader.{LineReader}
use Rattle.gx_reader.specs.Reader.{meant, number_of}
use Rattle.gx_ports.specs.Heads.{Head}
use Rattle.gx_ports.specs.LeafMaps.{Limits}
use Rattle.gx_ports.specs.Calls.{Keeps}
use Rattle.gx_ports.specs.Calm.{StandsForKept, StaysKept}
use Rattle.gx_ports.specs.Stops.{is_outside}
use Rattle.gx_ports.specs.declared.stop.Stop.{Stop}
use Rattle.gx_ports.specs.declared.stop.Stop.TheVariants as stop
use Rattle.gx_ports.specs.declared.view.View.{Ghosts}
use Rattle.gx_ports.proofs.ImageLemmas.{quiet_images, prefix_both}
use Rattle.gx_types.specs.declared.built.Built.{Built}
use Rattle.gx_model.specs.States.{State}
use Rattle.gx_model.specs.Play.{stopped, end_at}
use Rattle.gx_model.specs.Languages.{IsPlayIn}
use Rattle.gx_engine.specs.Crashes.{HoldsState, HoldsFor}
use Rattle.gx_engine.specs.Moments.{AreInternal}
use Rattle.gx_engine.specs.Steps.{built_of as engine_built}
use Rattle.gx_engine.proofs.CrashLemmas.{kept_state, talks_states}
use Rattle.gx_sharing.specs.Sharing.{Sharing, share_start}
use Rattle.gx_sharing.specs.Turns.{Turn}
use Rattle.gx_sharing.specs.Texts.{turns, turn_text, IsLinePlayed, IsBadTurn, is_any_in}
use Rattle.gx_sessions.specs.declared.sessions.Sessions.{Sessions}
use Rattle.gx_sessions.specs.Shared.{seeing, IsShortAmong}
use Rattle.gx_sessions.specs.Turns.{engine_of, schema_of, leaves_of, AreShared, IsSame}
use Rattle.gx_play.specs.declared.ending.Ending.TheVariants as ending
use Rattle.gx_play.specs.declared.play.PlayEnd.{PlayEnd}
use Rattle.gx_play.specs.declared.play.PlayEnd.TheVariants as play_end
use Rattle.gx_play.specs.Endings.{ending_of, is_fault}
use Rattle.gx_play.specs.Player.{Play}
use Rattle.gx_play.specs.Overs.{IsPlayedOf, IsImageOf, LeavesPlayOf}
use Rattle.gx_play.specs.Plays.{KeepsState, IsLineEnd}
use Rattle.gx_shares.specs.Player.{texts_of, AreFirstTurns, AreToldOf, IsCommitOf, IsShortLine}
use Rattle.gx_shares.specs.Steps.{IsStepped, IsStepCut, IsStepImage, LeavesStep, KeepsSessions}
use Rattle.gx_shares.specs.Going.{RunsTo, Over, play_over, IsGoing, IsOver}
use Rattle.gx_shares.proofs.HeardLemmas.{still_shared}
use Rattle.gx_shares.proofs.RunLemmas.{runs_line, plays_out, plays_stopped, plays_bad}

-- ---- what turns say

pub texts_more : (ts us : List Turn) → texts_of (ts ++ us) ≡ texts_of ts ++ texts_of us
texts_more [] us = refl
texts_more (t ∷ ts) us =
    ap (λ (l : List ℕ). turn_text t ++ l) (texts_more ts us)
    ∙ sym (append_assoc (turn_text t) (texts_of ts) (texts_of us))

-- all of it was said
told_whole : (ts : List Turn) → AreToldOf ts (texts_of ts)
told_whole ts = record {
  first = ts;
  last = [];
  one = omega arith;
  turns_are = sym (append-nil ts);
  count = 0;
  told_is = sym (append-nil (texts_of ts));
}

-- a front of what one turn more says
told_cut : (ts us : List Turn) (count : ℕ) → length us ≤ 1
    → AreToldOf (ts ++ us) (texts_of ts ++ take count (texts_of us))
told_cut ts us count one =
    record { first = ts; last = us; one = one; turns_are = refl; count = count; told_is = refl }

one_turn : (schema : Schema) (p next : Sharing) (line : List ℕ) (us : List Turn)
    → IsLinePlayed schema p line us next → length us ≤ 1
one_turn schema p next line us (inl x) =
    let e = ap (λ (l : List Turn). length l) x.1 in omega (arith, e)
one_turn schema p next line us (inr x) =
    let e = ap (λ (l : List Turn). length l) x.2 in omega (arith, e)

module _ {S : Type 0} (g : Ghosts S) (o : Over S) where
  abbrev P : Play Sharing
  P = play_over g o

  abbrev Holds : State → List (List ℕ) → Type 0
  Holds = HoldsState g o.schema o.built (g.head o.leaves)

  abbrev Ran : Lines → ℕ → List Turn → Sharing → Type 0
  Ran = RunsTo (turns o.schema) (share_start o.from) (script_lines o.script)

  abbrev first_of : (left : Lines) (number : ℕ) (ts : List Turn) (now : Sharing) → Ran left number ts now
      → AreFirstTurns o.schema o.from o.script ts now
  first_of left number ts now so =
      record { ran = so.ran; later = left.lines; parts = so.lines_are; runs = so.runs }

  -- what is held there, on sessions that stand for a moment of it
  held_there : (s : Sessions S) (now : Sharing) → schema_of s ≡ o.schema
      → engine_built (engine_of s) ≡ o.built → AreShared g now s
      → KeepsState g o.schema o.built (leaves_of s) now.kept
  held_there s now schema_is built_is at = (
    subst (λ (b : Built). AreInternal o.schema b (g.kept (leaves_of s)) now.kept) built_is
        (subst (λ (k : Schema). AreInternal k (engine_built (engine_of s)) (g.kept (leaves_of s))
        now.kept) schema_is at.engine.at.stands.kept_is),
    at.engine.at.kept_whole_is,
  )

  -- what was last committed stayed
  held_after : (new : S) (s : Sessions S) (now : Sharing) → schema_of s ≡ o.schema
      → engine_built (engine_of s) ≡ o.built → AreShared g now s → Keeps g (leaves_of s) new
      → KeepsState g o.schema o.built new now.kept
  held_after new s now schema_is built_is at keeps = (
    subst (λ maps. AreInternal o.schema o.built maps now.kept) (sym keeps.kept)
        (held_there s now schema_is built_is at).0,
    keeps.kept_whole.0 at.engine.at.kept_whole_is,
  )

  held_blocks : (s : Sessions S) → schema_of s ≡ o.schema → engine_built (engine_of s) ≡ o.built
      → g.head (leaves_of s) ≡ g.head o.leaves → (k : State) (blocks : List (List ℕ))
      → HoldsFor g (engine_of s) k blocks → Holds k blocks
  held_blocks s schema_is built_is head_is k blocks h =
      subst (λ (x : Schema). HoldsState g x o.built (g.head o.leaves) k blocks) schema_is
      (subst (λ (x : Built). HoldsState g (schema_of s) x (g.head o.leaves) k blocks) built_is
      (subst (λ (x : Head). HoldsState g (schema_of s) (engine_built (engine_of s)) x k blocks)
      head_is h))

  -- what is calm whatever failed
  leaves_on : (failed other : Bool) (new : S) → (other ≡ false → failed ≡ false)
      → LeavesPlayOf g o.schema o.built P failed o.leaves new
      → LeavesPlayOf g o.schema o.built P other o.leaves new
  leaves_on failed other new less leaves =
      record { images = leaves.images; calm = λ none. leaves.calm (less none) }

  shelf_so_far : (new : S) → LeavesPlayOf g o.schema o.built P false o.leaves new
      → (g.content new).now.shelf ≡ (g.content o.leaves).now.shelf
  shelf_so_far new leaves =
      let m = (g.content new).now in
      (leaves.images.now (record { blocks = m.blocks; said = m.said; shelf = m.shelf })
      (record { said = refl; shelf = refl; count = refl; same = λ n below firm. refl })).shelf

  -- nothing happened behind the lines that ran
  stays_image : (left : Lines) (number : ℕ) (s : Sessions S) (going : IsGoing g o left number s)
      → LeavesPlayOf g o.schema o.built P false o.leaves (leaves_of s) → (image : Image)
      → Holds going.now.kept image.blocks → image.said ≡ (g.content (leaves_of s)).now.said
      → image.shelf ≡ (g.content (leaves_of s)).now.shelf
      → IsImageOf P Holds (g.content o.leaves).now image
  stays_image left number s going leaves image holds same shelf = record {
    told = texts_of going.ts;
    final = going.now;
    front = record {
      ts = going.ts;
      first = first_of left number going.ts going.now going.runs;
      told_of = told_whole going.ts;
    };
    said = same ∙ going.said;
    holds = holds;
    shelf = shelf ∙ shelf_so_far (leaves_of s) leaves;
  }

  -- the next line
  module _ (before left : Lines) (number next : ℕ) (line : List ℕ) (s new : Sessions S)
      (before_is : before ≡ with_line line left) (next_is : next ≡ number + 1)
      (going : IsGoing g o before number s) (keeps : KeepsSessions g s new) where
    abbrev Goes : List Turn → Sharing → Type 0
    Goes = IsLinePlayed (schema_of s) going.now line

    runs_more : (us : List Turn) (after : Sharing) → Goes us after
        → Ran left next (going.ts ++ us) after
    runs_more us after goes =
        runs_line (turns o.schema) (share_start o.from) (script_lines o.script) before left number
        next line going.ts us going.now after before_is next_is going.runs
        (subst (λ (k : Schema). IsLinePlayed k going.now line us after) going.schema_is goes)

    cut_front : (us : List Turn) (after : Sharing) (count : ℕ) → Goes us after
        → P.Front (texts_of going.ts ++ take count (texts_of us)) after
    cut_front us after count goes = record {
      ts = going.ts ++ us;
      first = first_of left next (going.ts ++ us) after (runs_more us after goes);
      told_of = told_cut going.ts us count
          (one_turn (schema_of s) going.now after line us goes);
    }

    step_image : LeavesPlayOf g o.schema o.built P false o.leaves (leaves_of s) → (image : Image)
        → IsStepImage (HoldsFor g (engine_of s)) Goes going.now.kept
        (g.content (leaves_of s)).now image → IsImageOf P Holds (g.content o.leaves).now image
    step_image leaves image i = elim i.is [
      | inl h ↦ stays_image before number s going leaves image
          (held_blocks s going.schema_is going.built_is going.head_is going.now.kept image.blocks h.0)
          h.1 i.shelf
      | inr h ↦ record {
        told = texts_of going.ts ++ take h.4.0 (texts_of h.0);
        final = h.1;
        front = cut_front h.0 h.1 h.4.0 h.2;
        said = h.4.1 ∙ ap (λ (t : List ℕ). t ++ take h.4.0 (texts_of h.0)) going.said
            ∙ append_assoc (g.content o.leaves).now.said (texts_of going.ts)
            (take h.4.0 (texts_of h.0));
        holds = held_blocks s going.schema_is going.built_is going.head_is h.1.kept image.blocks h.3;
        shelf = i.shelf ∙ shelf_so_far (leaves_of s) leaves;
      }
    ]

    pub step_leaves : (failed : Bool)
        → LeavesPlayOf g o.schema o.built P false o.leaves (leaves_of s)
        → LeavesStep g Goes going.now.kept failed s new
        → LeavesPlayOf g o.schema o.built P failed o.leaves (leaves_of new)
    step_leaves failed leaves step = record {
      images = joined (EachImage (IsImageOf P Holds (g.content o.leaves).now))
          (g.content o.leaves) (g.content (leaves_of s)) (g.content (leaves_of new)) leaves.images
          (weakened
          (EachImage (IsStepImage (HoldsFor g (engine_of s)) Goes going.now.kept
          (g.content (leaves_of s)).now))
          (EachImage (IsImageOf P Holds (g.content o.leaves).now))
          (λ m each image is. step_image leaves image (each image is))
          (g.content (leaves_of s)) (g.content (leaves_of new)) step.images);
      calm = step.calm;
    }

    -- it was carried out
    pub going_line : IsTrue g.tells → (stepped : IsStepped g Goes s new)
        → (IsTrue o.calm → LeavesStep g Goes going.now.kept false s new) → IsGoing g o left next new
    going_line told stepped images = record {
      schema_is = keeps.schema ∙ going.schema_is;
      built_is = keeps.built ∙ going.built_is;
      limit_is = keeps.limit ∙ going.limit_is;
      head_is = keeps.head ∙ going.head_is;
      ts = going.ts ++ stepped.ts;
      now = stepped.next;
      runs = runs_more stepped.ts stepped.next stepped.goes;
      at = stepped.at;
      said = stepped.said told ∙ ap (λ (t : List ℕ). t ++ texts_of stepped.ts) going.said
          ∙ append_assoc (g.content o.leaves).now.said (texts_of going.ts) (texts_of stepped.ts)
          ∙ ap (λ (t : List ℕ). (g.content o.leaves).now.said ++ t)
          (sym (texts_more going.ts stepped.ts));
      images = λ calm. step_leaves false (going.images calm) (images calm);
    }

    -- it is bad
    pub over_bad : (reason : LineWhy) → new ≡ s → IsBadTurn (schema_of s) going.now line reason
        → IsOver g o new (Err (ending.Line next reason))
    over_bad reason same bad =
        subst (λ (x : Sessions S). IsOver g o x (Err (ending.Line next reason))) (sym same)
        (record {
          played = record {
            answers = texts_of going.ts;
            final = going.now;
            stands = (
              going.ts,
              plays_bad (turns o.schema) (share_start o.from) (script_lines o.script) before left
                  number next line reason going.ts going.now before_is next_is going.runs
                  (subst (λ (k : Schema). IsBadTurn k going.now line reason) going.schema_is bad),
              refl,
            );
            said = going.said;
            holds = held_there s going.now going.schema_is going.built_is going.at;
          };
          images = λ calm. leaves_on false false (leaves_of s) (λ e. e) (going.images calm);
        })

    lines_before : before.lines ≡ line ∷ left.lines
    lines_before = ap (λ (ls : Lines). ls.lines) before_is

    -- it was given up
    abbrev Short : Type 0
    Short = IsShortLine (schema_of s) (IsShortAmong (schema_of s) (engine_built (engine_of s))
        (g.limit (leaves_of s))) going.now line

    cut_over : (why : Stop) → IsStepCut g Goes (IsCommitOf (schema_of s) line) Short s new why
        → IsPlayedOf P (KeepsState g o.schema o.built (leaves_of new)) (g.content o.leaves).now.said
        (g.content (leaves_of new)).now.said (Err (ending_of (play_end.Stop why)))
    cut_over stop.NoMemory cut = record {
      answers = texts_of going.ts;
      final = going.now;
      stands = record {
        ts = going.ts;
        first = first_of before number going.ts going.now going.runs;
        answers_are = refl;
        next = tt;
      };
      said = cut.unsaid (λ f. cc) ∙ going.said;
      holds = held_after (leaves_of new) s going.now going.schema_is going.built_is going.at
          (cut.kept (λ f. cc));
    }
    cut_over stop.Full cut = record {
      answers = texts_of going.ts;
      final = going.now;
      stands = record {
        ts = going.ts;
        first = first_of before number going.ts going.now going.runs;
        answers_are = refl;
        next = (line, left.lines, lines_before, short_there (cut.short refl));
      };
      said = cut.unsaid (λ f. cc) ∙ going.said;
      holds = held_after (leaves_of new) s going.now going.schema_is going.built_is going.at
          (cut.kept (λ f. cc));
    }
      where
        short_there : Short
            → IsShortLine o.schema (IsShortAmong o.schema o.built (g.limit o.leaves)) going.now line
        short_there is =
            subst (λ (k : Schema). IsShortLine k (IsShortAmong k o.built (g.limit o.leaves))
            going.now line) going.schema_is
            (subst (λ (b : Built). IsShortLine (schema_of s) (IsShortAmong (schema_of s) b
            (g.limit o.leaves)) going.now line) going.built_is
            (subst (λ (n : Option Limits). IsShortLine (schema_of s) (IsShortAmong (schema_of s)
            (engine_built (engine_of s)) n) going.now line) going.limit_is is))
    cut_over (stop.Damaged block) cut = absurd (cut.sound block refl)
    cut_over stop.Fault cut = elim cut.cut [
      | inl h ↦ record {
        told = texts_of going.ts;
        final = going.now;
        front = record {
          ts = going.ts;
          first = first_of before number going.ts going.now going.runs;
          told_of = told_whole going.ts;
        };
        said = h.0 ∙ going.said;
        holds = elim h.1 [
          | inl keeps ↦ inl (held_after (leaves_of new) s going.now going.schema_is
              going.built_is going.at keeps)
          | inr commit ↦ inr (record {
            ts = going.ts;
            first = first_of before number going.ts going.now going.runs;
            answers_are = refl;
            next = (
              line,
              left.lines,
              lines_before,
              subst (λ (k : Schema). IsCommitOf k line) going.schema_is commit,
            );
          })
        ];
      }
      | inr h ↦ record {
        told = texts_of going.ts ++ take h.4.0 (texts_of h.0);
        final = h.1;
        front = cut_front h.0 h.1 h.4.0 h.2;
        said = h.4.1 ∙ ap (λ (t : List ℕ). t ++ take h.4.0 (texts_of h.0)) going.said
            ∙ append_assoc (g.content o.leaves).now.said (texts_of going.ts)
            (take h.4.0 (texts_of h.0));
        holds = inl (held_there new h.1 (keeps.schema ∙ going.schema_is)
            (keeps.built ∙ going.built_is) h.3);
      }
    ]

    fault_same : (why : Stop)
        → is_fault {T = Unit {0}} (Err (ending_of (play_end.Stop why))) ≡ is_outside why
    fault_same stop.NoMemory = refl
    fault_same stop.Full = refl
    fault_same stop.Fault = refl
    fault_same (stop.Damaged block) = refl

    pub over_cut : (why : Stop)
        → IsStepCut g Goes (IsCommitOf (schema_of s) line) Short s new why
        → (IsTrue o.calm → LeavesStep g Goes going.now.kept (is_outside why) s new)
        → IsOver g o new (Err (ending_of (play_end.Stop why)))
    over_cut why cut images = record {
      played = cut_over why cut;
      images = λ calm.
          subst (λ (b : Bool). LeavesPlayOf g o.schema o.built P b o.leaves (leaves_of new))
          (sym (fault_same why))
          (step_leaves (is_outside why) (going.images calm) (images calm));
    }

  -- ---- where no line is played

  -- the play stands so at its end
  ends_there : (left : Lines) (number : ℕ) (s : Sessions S) (going : IsGoing g o left number s)
      (n : ℕ) (reason : LineWhy) → P.Ends (stopped n reason) (texts_of going.ts) going.now
      → IsOver g o s (Err (ending.Line n reason))
  ends_there left number s going n reason ends = record {
    played = record {
      answers = texts_of going.ts;
      final = going.now;
      stands = ends;
      said = going.said;
      holds = held_there s going.now going.schema_is going.built_is going.at;
    };
    images = λ calm. leaves_on false false (leaves_of s) (λ e. e) (going.images calm);
  }

  -- the next line can't be had
  pub over_end : (left : Lines) (number : ℕ) (s : Sessions S) → IsGoing g o left number s
      → (end : PlayEnd) → IsLineEnd left number end → IsOver g o s (Err (ending_of end))
  over_end left number s going (play_end.Line n reason) is =
      ends_there left number s going n reason (
        going.ts,
        plays_stopped (turns o.schema) (share_start o.from) (script_lines o.script) left number n
            reason going.ts going.now going.runs is.0 is.1,
        refl,
      )
  over_end left number s going (play_end.Stop stop) is = absurd is

  -- no line is left, and a session is in a transaction
  pub over_open : (left : Lines) (number : ℕ) (s : Sessions S) (going : IsGoing g o left number s)
      → left ≡ no_lines → is_any_in going.now ≡ true
      → IsOver g o s (Err (ending.Line number why.OpenTransaction))
  over_open left number s going left_is some =
      ends_there left number s going number why.OpenTransaction (
        going.ts,
        subst (λ (b : Bool). IsPlayIn (turns o.schema) (share_start o.from) (script_lines o.script)
            going.ts going.now (end_at number b)) some
            (plays_out (turns o.schema) (share_start o.from) (script_lines o.script) left number
            going.ts going.now going.runs left_is),
        refl,
      )

  -- and none is
  pub over_shut : (left : Lines) (number : ℕ) (s : Sessions S) (going : IsGoing g o left number s)
      → left ≡ no_lines → is_any_in going.now ≡ false → IsOver g o s (Ok tt)
  over_shut left number s going left_is shut = record {
    played = record {
      answers = texts_of going.ts;
      final = going.now;
      stands = (
        going.ts,
        subst (λ (b : Bool). IsPlayIn (turns o.schema) (share_start o.from) (script_lines o.script)
            going.ts going.now (end_at number b)) shut
            (plays_out (turns o.schema) (share_start o.from) (script_lines o.script) left number
            going.ts going.now going.runs left_is),
        refl,
      );
      said = going.said;
      holds = held_there s going.now going.schema_is going.built_is going.at;
    };
    images = λ calm. leaves_on false false (leaves_of s) (λ e. e) (going.images calm);
  }

  -- the rest of the script can't be heard
  pub over_unheard : (left : Lines) (number : ℕ) (s : Sessions S) → IsGoing g o left number s
      → IsOver g o s (Err ending.Fault)
  over_unheard left number s going = record {
    played = record {
      told = texts_of going.ts;
      final = going.now;
      front = record {
        ts = going.ts;
        first = first_of left number going.ts going.now going.runs;
        told_of = told_whole going.ts;
      };
      said = going.said;
      holds = inl (held_there s going.now going.schema_is going.built_is going.at);
    };
    images = λ calm. leaves_on false true (leaves_of s) (λ e. refl) (going.images calm);
  }

  -- ---- to hear

  module _ (means : (l : S) (start : Content) → g.calm l start → StaysKept g l start)
      (goes_on : (l : S) (start : Content) → g.calm l start → g.calm l (g.content l)) where
    -- before the first line
    pub going_first : (left : Lines) (number : ℕ) (s : Sessions S) → schema_of s ≡ o.schema
        → engine_built (engine_of s) ≡ o.built → leaves_of s ≡ o.leaves
        → AreShared g (share_start o.from) s
        → RunsTo (turns o.schema) (share_start o.from) (script_lines o.script) left number []
        (share_start o.from) → (IsTrue o.calm → (start : Content) × g.calm o.leaves start)
        → IsGoing g o left number s
    going_first left number s schema_is built_is leaves_are at runs calm = record {
      schema_is = schema_is;
      built_is = built_is;
      limit_is = ap g.limit leaves_are;
      head_is = ap g.head leaves_are;
      ts = [];
      now = share_start o.from;
      runs = runs;
      at = at;
      said = ap (λ l. (g.content l).now.said) leaves_are
          ∙ sym (append-nil (g.content o.leaves).now.said);
      images = λ c. subst (LeavesPlayOf g o.schema o.built P false o.leaves) (sym leaves_are)
          (nothing (calm c).0 (calm c).1);
    }
      where
        now : Content
        now = g.content o.leaves

        front : P.Front [] (share_start o.from)
        front = record {
          ts = [];
          first = record {
            ran = [];
            later = (script_lines o.script).lines;
            parts = refl;
            runs = (refl, refl);
          };
          told_of = told_whole [];
        }

        holds : (blocks : List (List ℕ)) → StandsForKept g (leaves_of s) blocks
            → Holds o.from blocks
        holds blocks stored =
            held_blocks s schema_is built_is (ap g.head leaves_are) o.from blocks
            (kept_state g (seeing (share_start o.from) at.engine.working) (engine_of s) at.engine.at
            blocks stored)

        nothing : (start : Content) → g.calm o.leaves start
            → LeavesPlayOf g o.schema o.built P false o.leaves o.leaves
        nothing start is =
            let quiet = means o.leaves now (goes_on o.leaves start is) in
            record {
              images = started (EachImage (IsImageOf P Holds now.now)) now (λ image at_image.
                  let q = quiet.last image at_image in
                  record {
                    told = [];
                    final = share_start o.from;
                    front = front;
                    said = prefix_both now.now.said image.said q.begins q.goes_on
                        ∙ sym (append-nil now.now.said);
                    holds = holds image.blocks (subst (λ l. StandsForKept g l image.blocks)
                        (sym leaves_are) q.is);
                    shelf = q.shelf;
                  });
              calm = λ none. goes_on o.leaves start is;
            }

    -- more of the script is heard
    pub going_heard : (left : Lines) (number : ℕ) (s f : Sessions S) → IsSame g s f
        → Listens (g.content (leaves_of s)) (g.content (leaves_of f)) → IsGoing g o left number s
        → IsGoing g o left number f
    going_heard left number s f same listens going = record {
      schema_is = same.engine.schema ∙ going.schema_is;
      built_is = same.engine.built ∙ going.built_is;
      limit_is = same.engine.talks.limit ∙ going.limit_is;
      head_is = same.engine.talks.head ∙ going.head_is;
      ts = going.ts;
      now = going.now;
      runs = going.runs;
      at = still_shared g going.now s f same going.at;
      said = ap (λ (m : Moment). m.said) listens.now ∙ going.said;
      images = λ calm. heard (going.images calm);
    }
      where
        now : Content
        now = g.content (leaves_of s)

        then : Content
        then = g.content (leaves_of f)

        quiet : g.calm (leaves_of s) now → QuietSince (HoldsFor g (engine_of s) going.now.kept) now then
        quiet calm =
            talks_states g means goes_on (seeing going.now going.at.engine.working) (engine_of s)
            (engine_of f) going.at.engine.at same.engine.talks now calm

        heard : LeavesPlayOf g o.schema o.built P false o.leaves (leaves_of s)
            → LeavesPlayOf g o.schema o.built P false o.leaves (leaves_of f)
        heard leaves = record {
          images = joined (EachImage (IsImageOf P Holds (g.content o.leaves).now))
              (g.content o.leaves) now then leaves.images
              (weakened
              (EachImage (IsQuiet (HoldsFor g (engine_of s) going.now.kept) now.now then.now.said))
              (EachImage (IsImageOf P Holds (g.content o.leaves).now))
              (λ m each image is.
              let q = each image is in
              stays_image left number s going leaves image
              (held_blocks s going.schema_is going.built_is going.head_is going.now.kept
              image.blocks q.is)
              (prefix_both now.now.said image.said q.begins
              (subst (λ (m : Moment). IsPrefix image.said m.said) listens.now q.goes_on)) q.shelf)
              now then
              (quiet_images (HoldsFor g (engine_of s) going.now.kept) now then
              (quiet (leaves.calm refl))));
          calm = λ none. goes_on (leaves_of f) now (same.engine.talks.calm now (leaves.calm refl));
        }

-- what is played of a piece, of which these bytes are left
abbrev pub GoesTo : {S : Type 0} → Ghosts S → List ℕ → LineReader → List ℕ → LineReader
    → Sessions S → Sessions S → Type 0
GoesTo {S = S} g piece reader left then old new =
    (o : Over S) (rest : List ℕ) → IsGoing g o (meant reader (piece ++ rest)) (number_of reader) old
    → IsGoing g o (meant then (left ++ rest)) (number_of then) new
