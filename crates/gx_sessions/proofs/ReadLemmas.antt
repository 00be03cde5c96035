-- A command that only reads is answered on what an engine stands for, another session or none.
use Rattle.std.proofs.Common.{◌≡◌, ℕ, ◌+◌, ◌<◌, List, [], ◌∷◌, length, Bool, true, false, cond, Option, Some, None, Ok, refl, sym, ap, subst, ◌∙◌, arith}
use Rattle.std.proofs.lemmas.Bool.{true≢false}
use Rattle.gx_schema.specs.declared.schema.Schema.{Schema}
use Rattle.gx_commands.specs.declared.command.Command.{Command}
use Rattle.gx_commands.specs.declared.command.Command.TheVariants as command
use Rattle.gx_commands.specs.Commands.{place_reason, inside_after}
use Rattle.gx_ports.specs.declared.stop.Stop.{Stop}
use Rattle.gx_ports.specs.declared.view.View.{Ghosts}
use Rattle.gx_model.specs.States.{State}
use Rattle.gx_model.specs.Commands.{next_state, IsAnswer}
use Rattle.gx_model.specs.Play.{Playing, after_command, with_working, seen_state, working_after, IsAnswered}
use Rattle.gx_engine.specs.declared.engine.Engine.{Engine}
use Rattle.gx_engine.specs.Moments.{may_want_room}
use Rattle.gx_engine.specs.Steps.{schema_of, IsAt, CarriesOut, KeepsEngine, is_commit}
use Rattle.gx_sharing.specs.Locks.{Item, file, link, Mode, free, shared, exclusive, is_held, is_exclusive, conflict, lock_of, held, IsItem}
use Rattle.gx_sharing.specs.Kept.{is_kept, IsClearOf}
use Rattle.gx_sharing.specs.Sharing.{Sharing, Session, outside, inside, ended, answered, played, view_in, play_of, holds, with_session, session_after, after_turn}
use Rattle.gx_sharing.proofs.Agreement.{IsSized}
use Rattle.gx_sharing.proofs.Carried.{is_control, plain_answered, plain_after}
use Rattle.gx_sharing.proofs.Replays.{kept_played, answered_there}
use Rattle.gx_sessions.specs.declared.session.SessionState.{SessionState}
use Rattle.gx_sessions.specs.Places.{mode_of, item_at}
use Rattle.gx_sessions.specs.Standings.{lock_in, IsSession, commands_of}
use Rattle.gx_sessions.specs.Shared.{seeing, view_for, is_read, AreClear, IsShared, IsCarriedFor}
use Rattle.gx_sessions.proofs.HolderLemmas.{file_there, link_there}
use Rattle.gx_sessions.proofs.SharedLemmas.{at_after}
use Rattle.gx_sessions.proofs.SessionsLemmas.{shared_moved}

-- ---- commands that only read

-- what is said of one
pub record IsReading (c : Command) : Type 0 where
  pub plain_is : is_control c ≡ false
  pub unkept : is_kept c ≡ false
  pub quiet : is_commit c ≡ false
  pub roomless : may_want_room c ≡ false
  pub allowed : (b : Bool) → place_reason b c ≡ None
  pub stays : (b : Bool) → inside_after b c ≡ b

pub reading : (c : Command) → is_read c ≡ true → IsReading c
reading (command.Get f key) e =
    record {
      plain_is = refl;
      unkept = refl;
      quiet = refl;
      roomless = refl;
      allowed = λ b. refl;
      stays = λ b. refl;
    }
reading (command.Members l owner order) e =
    record {
      plain_is = refl;
      unkept = refl;
      quiet = refl;
      roomless = refl;
      allowed = λ b. refl;
      stays = λ b. refl;
    }
reading (command.Owner l member) e =
    record {
      plain_is = refl;
      unkept = refl;
      quiet = refl;
      roomless = refl;
      allowed = λ b. refl;
      stays = λ b. refl;
    }
reading (command.Find q) e =
    record {
      plain_is = refl;
      unkept = refl;
      quiet = refl;
      roomless = refl;
      allowed = λ b. refl;
      stays = λ b. refl;
    }
reading _ e = absurd (true≢false (sym e))

-- ---- locks that go together

not_exclusive : (m wanted : Mode) → conflict m wanted ≡ false → is_held wanted ≡ true
    → is_exclusive m ≡ false
not_exclusive free wanted e held_is = refl
not_exclusive shared wanted e held_is = refl
not_exclusive exclusive wanted e held_is = absurd (true≢false (sym held_is ∙ e))

-- what goes with a command at each place is clear of it
pub clear_at : (schema : Schema) (c : Command) (s : Session) (state : SessionState)
    → IsSession schema s state
    → length state.locks.items ≡ length schema.files + length schema.links
    → ((i : ℕ) → i < length schema.files + length schema.links
    → conflict (mode_of (lock_in state.locks.items i)) (lock_of schema c (item_at schema i))
    ≡ false)
    → IsClearOf schema c (holds schema s)
clear_at schema c s state is many goes x there held_is = go x there held_is
  where
    here : (i : ℕ) → i < length schema.files + length schema.links
        → is_held (lock_of schema c (item_at schema i)) ≡ true
        → is_exclusive (holds schema s (item_at schema i)) ≡ false
    here i lt wants =
        ap is_exclusive (sym (is.locks i (omega (arith, lt, many))))
        ∙ not_exclusive (mode_of (lock_in state.locks.items i))
        (lock_of schema c (item_at schema i))
        (goes i lt) wants

    go : (y : Item) → IsItem schema y → is_held (lock_of schema c y) ≡ true
        → is_exclusive (holds schema s y) ≡ false
    go (file i) lt =
        subst (λ (y : Item). is_held (lock_of schema c y) ≡ true
        → is_exclusive (holds schema s y) ≡ false) (file_there schema i lt)
        (here i (omega (arith, lt)))
    go (link j) lt =
        subst (λ (y : Item). is_held (lock_of schema c y) ≡ true
        → is_exclusive (holds schema s y) ≡ false) (link_there schema j)
        (here (length schema.files + j) (omega (arith, lt)))

-- ---- answers

-- the commands of the session for which the engine stands
abbrev commands_for : Sharing → Option ℕ → List Command
commands_for p None = []
commands_for p (Some n) = commands_of (p.session n)

seen_in : (schema : Schema) (p : Sharing) (s : Session)
    → seen_state (seeing p (view_in schema p.kept s)) ≡ played schema p.kept (commands_of s)
seen_in schema p outside = refl
seen_in schema p (inside cs) = refl
seen_in schema p ended = refl

seen_for : (schema : Schema) (p : Sharing) (carried : Option ℕ)
    → seen_state (seeing p (view_for schema p carried))
    ≡ played schema p.kept (commands_for p carried)
seen_for schema p None = refl
seen_for schema p (Some n) = seen_in schema p (p.session n)

clear_in : (schema : Schema) (c : Command) (s : Session) → IsClearOf schema c (holds schema s)
    → IsClearOf schema c (held schema (commands_of s))
clear_in schema c outside clear = λ x there wants. refl
clear_in schema c (inside cs) clear = clear
clear_in schema c ended clear = λ x there wants. refl

clear_for : (schema : Schema) (p : Sharing) (c : Command) (carried : Option ℕ)
    → ((m : ℕ) → carried ≡ Some m → IsClearOf schema c (holds schema (p.session m)))
    → IsClearOf schema c (held schema (commands_for p carried))
clear_for schema p c None other = λ x there wants. refl
clear_for schema p c (Some m) other = clear_in schema c (p.session m) (other m refl)

-- the answer on what the engine stands for is that on the session's own view
read_answered : (schema : Schema) (p : Sharing) (n : ℕ) (carried : Option ℕ) (c : Command)
    (text : List ℕ) → is_control c ≡ false → IsSized schema p.kept
    → AreClear schema p n carried c
    → IsAnswered schema (seeing p (view_for schema p carried)) c text
    → IsAnswered schema (play_of schema p n) c text
read_answered schema p n carried c text plain_is sized clear is =
    subst (λ (F : List ℕ → Type 0). F text) (sym (plain_answered schema (play_of schema p n) c
    plain_is))
    (subst (λ (s : State). IsAnswer schema s c text) (sym (seen_in schema p (p.session n)))
    (answered_there schema p.kept (commands_of (p.session n)) (commands_for p carried) c text sized
    (clear_in schema c (p.session n) clear.own) (clear_for schema p c carried clear.other)
    (subst (λ (s : State). IsAnswer schema s c text) (seen_for schema p carried)
    (subst (λ (F : List ℕ → Type 0). F text) (plain_answered schema
    (seeing p (view_for schema p carried)) c plain_is) is))))

-- ---- what comes after

-- it changes no state
read_same : (schema : Schema) (s : State) (c : Command) → is_kept c ≡ false
    → next_state schema s c ≡ s
read_same schema s c e =
    sym (kept_played schema s (c ∷ []))
    ∙ ap (λ (b : Bool). played schema s (cond b (c ∷ []) [])) e

working_same : (w : Option State) (kept : State) (p : Sharing)
    → working_after w (seen_state (seeing p w)) ≡ w
working_same None kept p = refl
working_same (Some s) kept p = refl

-- the play is where it was
play_same : (schema : Schema) (p : Sharing) (w : Option State) (c : Command)
    → is_control c ≡ false → is_kept c ≡ false
    → after_command schema (seeing p w) c ≡ seeing p w
play_same schema p w c plain_is unkept =
    plain_after schema (seeing p w) c plain_is
    ∙ ap (with_working (seeing p w)) (read_same schema (seen_state (seeing p w)) c unkept)
    ∙ ap (seeing p) (working_same w p.kept p)

-- and only the session goes on
turn_same : (schema : Schema) (p : Sharing) (n : ℕ) (c : Command) → is_control c ≡ false
    → after_turn schema p n c answered
    ≡ record p { session = with_session p.session n (session_after (p.session n) c) }
turn_same schema p n c plain_is =
    ap (λ (q : Playing). next_of q) (plain_after schema (play_of schema p n) c plain_is)
  where
    next_of : Playing → Sharing
    next_of q = record {
      earlier = q.earlier;
      kept = q.kept;
      commits = q.commits;
      session = with_session p.session n (session_after (p.session n) c);
    }

module _ {S : Type 0} (g : Ghosts S) where
  -- the engine stands for the same one
  read_stands : (schema : Schema) (p : Sharing) (n : ℕ) (carried : Option ℕ) (c : Command)
      (new : Engine S) → schema_of new ≡ schema → (carried ≡ Some n → ⊥) → is_read c ≡ true
      → IsAt g (after_command schema (seeing p (view_for schema p carried)) c) new
      → IsShared g (after_turn schema p n c answered) carried new
  read_stands schema p n carried c new same other reads at =
      let r = reading c reads in
      let w = view_for schema p carried in
      subst (λ (next : Sharing). IsShared g next carried new)
      (sym (turn_same schema p n c r.plain_is))
      (shared_moved g p n (session_after (p.session n) c) carried new
      (record {
        working = w;
        at = subst (λ (q : Playing). IsAt g q new) (play_same schema p w c r.plain_is r.unkept) at;
        own = λ m mine.
            ap (view_for schema p) mine
            ∙ ap (λ (x : Schema). view_in x p.kept (p.session m)) (sym same);
      })
      (λ mine. absurd (other mine)))

  sized : (q : Playing) (e : Engine S) (schema : Schema) → schema_of e ≡ schema → IsAt g q e
      → IsSized schema q.kept
  sized q e schema same at =
      subst (λ (x : Schema). IsSized x q.kept) same (record {
        files = at.stands.kept_is.valid.files_many;
        links = at.stands.kept_is.valid.links_many;
      })

  -- the session's command was answered
  pub read_for : (p : Sharing) (n : ℕ) (c : Command) (schema : Schema) (carried : Option ℕ)
      (mid new : Engine S) (state : SessionState) (out now : List ℕ) → schema_of mid ≡ schema
      → (carried ≡ Some n → ⊥) → is_read c ≡ true → AreClear schema p n carried c
      → IsAt g (seeing p (view_for schema p carried)) mid
      → KeepsEngine {E = Stop} g mid new c (Ok tt)
      → CarriesOut g (seeing p (view_for schema p carried)) c mid new out now
      → IsSession schema (session_after (p.session n) c) state
      → IsCarriedFor g p n c schema carried new state out now
  read_for p n c schema carried mid new state out now same other reads clear at keeps carries
      session =
      let r = reading c reads in
      let q = seeing p (view_for schema p carried) in
      record {
        answer = carries.answer;
        said = carries.said;
        answered_is = read_answered schema p n carried c carries.answer r.plain_is
            (sized q mid schema same at) clear
            (subst (λ (x : Schema). IsAnswered x q c carries.answer) same carries.answered);
        shared = read_stands schema p n carried c new (keeps.schema ∙ same) other reads
            (subst (λ (x : Schema). IsAt g (after_command x q c) new) same
            (at_after g q c mid new out now keeps.schema keeps.built carries
            (keeps.whole at.whole_is at.kept_whole_is)
            (keeps.kept_whole at.whole_is at.kept_whole_is)));
        session = session;
      }
