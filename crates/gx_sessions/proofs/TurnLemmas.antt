-- How a turn comes out, by how it is carried out.
use Rattle.std.proofs.Common.{◌≡◌, ℕ, ◌+◌, ◌<◌, List, [], ◌∷◌, ◌++◌, length, get_or, set, Bool, true, false, cond, is_some, Option, Some, None, Result, Ok, Err, OnOk, refl, sym, ap, subst, arith, inl, inr}
use Rattle.std.proofs.lemmas.Bool.{true≢false, cases_Bool, cases_lt, eqb-true}
use Rattle.std.proofs.lemmas.List.{append-nil, get_or_append_left, get_or_push, length-append}
use Rattle.std.specs.Prelude.{◌==◌}
use Rattle.gx_device.specs.Content.{Content}
use Rattle.gx_schema.specs.declared.schema.Schema.{Schema}
use Rattle.gx_commands.specs.declared.command.Command.{Command}
use Rattle.gx_commands.specs.declared.command.Command.TheVariants as command
use Rattle.gx_ports.specs.Calm.{StaysKept}
use Rattle.gx_ports.specs.declared.stop.Stop.{Stop}
use Rattle.gx_ports.specs.declared.stop.Stop.TheVariants as stop
use Rattle.gx_ports.specs.declared.view.View.{Ghosts}
use Rattle.gx_model.specs.States.{State}
use Rattle.gx_engine.specs.declared.engine.Engine.{Engine}
use Rattle.gx_engine.specs.Steps.{schema_of as engine_schema, leaves_of as engine_leaves, stop_of as engine_stop, IsReady as IsEngineReady}
use Rattle.gx_sharing.specs.Locks.{Mode, free, shared, exclusive, stronger, items_of}
use Rattle.gx_sharing.specs.Sharing.{Sharing, Session, outside, inside, ended, Outcome, answered, skipped, ended_by, view_in, session_after, with_session, outcome_in, refused_by, holder_among}
use Rattle.gx_sharing.proofs.Carried.{is_control, Kind, begins, commits, aborts, plain, kind_of, plain_session, played_push}
use Rattle.gx_sessions.specs.declared.session.SessionState.{SessionState}
use Rattle.gx_sessions.specs.declared.session.Standing.{Standing}
use Rattle.gx_sessions.specs.declared.sessions.Sessions.{Sessions}
use Rattle.gx_sessions.specs.declared.sessions.Turn.TheVariants as turn
use Rattle.gx_sessions.specs.Places.{mode_of}
use Rattle.gx_sessions.specs.Standings.{IsSession, AreSessions, AreWhole, standing_after, lock_in}
use Rattle.gx_sessions.specs.Shared.{IsShared, IsCarriedFor, EndsCarry, LeavesTurn}
use Rattle.gx_sessions.specs.Turns.{engine_of, schema_of, leaves_of, stop_of, IsReady, AreShared, turn_of, answer_at_once, IsIdle, ComesOut, EndsTaken, RestsOn}
use Rattle.gx_sessions.proofs.StandingLemmas.{went_on}
use Rattle.gx_sessions.proofs.SharedLemmas.{keeps_still, carries_still, carries_unmade}
use Rattle.gx_sessions.proofs.CarryLemmas.{kept_turn, ends_early}
use Rattle.gx_sessions.proofs.SessionsLemmas.{sessions_set, shared_moved}

-- ---- outcomes

pub answer_is : (o : Outcome) → turn.Answer ≡ turn_of o → o ≡ answered
answer_is answered e = refl
answer_is skipped e = absurd cc
answer_is (ended_by m) e = absurd cc

pub skipped_is : (o : Outcome) → turn.Skipped ≡ turn_of o → o ≡ skipped
skipped_is answered e = absurd cc
skipped_is skipped e = refl
skipped_is (ended_by m) e = absurd cc

pub ended_is : (o : Outcome) (m : ℕ) → turn.Ended m ≡ turn_of o → (k : ℕ) × (o ≡ ended_by k)
ended_is answered m e = absurd cc
ended_is skipped m e = absurd cc
ended_is (ended_by k) m e = (k, refl)

refused_not_skipped : (h : Option ℕ) → refused_by h ≡ skipped → ⊥
refused_not_skipped None e = cc
refused_not_skipped (Some m) e = cc

-- only the turn of a session whose transaction was ended is skipped
pub skipped_ended : (schema : Schema) (p : Sharing) (n : ℕ) (c : Command) (s : Session)
    → outcome_in schema p n c s ≡ skipped → s ≡ ended
skipped_ended schema p n c outside e = absurd cc
skipped_ended schema p n c (inside cs) e =
    absurd (refused_not_skipped (holder_among schema p n c (items_of schema)) e)
skipped_ended schema p n c ended e = refl

-- ---- commands that change nothing

some_not_none : (s : Standing) → ◌≡◌ {A = Option Standing} (Some s) None → ⊥
some_not_none s e = cc

uncontrolled : (c : Command) → standing_after c ≡ None → is_control c ≡ false
uncontrolled c e = go c (kind_of c) e
  where
    go : (d : Command) → Kind d → standing_after d ≡ None → is_control d ≡ false
    go command.Begin begins same = absurd (some_not_none _ same)
    go command.Commit commits same = absurd (some_not_none _ same)
    go command.Abort aborts same = absurd (some_not_none _ same)
    go d (plain h) same = h

idle_is : (c : Command) → standing_after c ≡ None → is_some (answer_at_once c) ≡ true
    → c ≡ command.Nothing
idle_is command.Begin e is = absurd (some_not_none _ e)
idle_is command.Commit e is = absurd (some_not_none _ e)
idle_is command.Abort e is = absurd (some_not_none _ e)
idle_is (command.Insert f values) e is = absurd (true≢false (sym is))
idle_is (command.Get f key) e is = absurd (true≢false (sym is))
idle_is (command.Update f key changes) e is = absurd (true≢false (sym is))
idle_is (command.Delete f key) e is = absurd (true≢false (sym is))
idle_is (command.Connect l owner member) e is = absurd (true≢false (sym is))
idle_is (command.Disconnect l member) e is = absurd (true≢false (sym is))
idle_is (command.Members l owner order) e is = absurd (true≢false (sym is))
idle_is (command.Owner l member) e is = absurd (true≢false (sym is))
idle_is (command.Find q) e is = absurd (true≢false (sym is))
idle_is (command.ReorganizeFile f) e is = absurd (true≢false (sym is))
idle_is (command.ReorganizeLink l) e is = absurd (true≢false (sym is))
idle_is command.Nothing e is = refl

stronger_free : (m : Mode) → m ≡ stronger m free
stronger_free free = refl
stronger_free shared = refl
stronger_free exclusive = refl

module _ (schema : Schema) where
  nothing_session : (s : Session) (state : SessionState) → IsSession schema s state
      → IsSession schema (session_after s command.Nothing) state
  nothing_session outside state is = is
  nothing_session (inside cs) state is =
      went_on schema cs command.Nothing state state is refl (sym (append-nil state.kept.items))
      (record {
        many = refl;
        each = λ i lt. stronger_free (mode_of (lock_in state.locks.items i));
      })
  nothing_session ended state is = is

  nothing_view : (kept : State) (s : Session)
      → view_in schema kept (session_after s command.Nothing) ≡ view_in schema kept s
  nothing_view kept outside = refl
  nothing_view kept (inside cs) =
      ap (λ (t : State). Some t) (played_push schema kept cs command.Nothing)
  nothing_view kept ended = refl

  -- what it keeps of the session, and what this sees
  record Idle (kept : State) (s : Session) (c : Command) : Type 0 where
    session : (state : SessionState) → IsSession schema s state
        → IsSession schema (session_after s c) state
    view : view_in schema kept (session_after s c) ≡ view_in schema kept s

  idle : (kept : State) (s : Session) (c : Command) → standing_after c ≡ None → IsIdle s c
      → Idle kept s c
  idle kept s c none (inl is) =
      subst (λ (d : Command). Idle kept s d) (sym (idle_is c none is)) (record {
        session = nothing_session s;
        view = nothing_view kept s;
      })
  idle kept s c none (inr is) =
      subst (λ (t : Session). Idle kept t c) (sym is)
      (let same : session_after ended c ≡ ended = plain_session ended c (uncontrolled c none) in
      record {
        session = λ state h. subst (λ (t : Session). IsSession schema t state) (sym same) h;
        view = ap (view_in schema kept) same;
      })

  sessions_with : (session : ℕ → Session) (states : List SessionState) (n : ℕ) (s : Session)
      → AreSessions schema session states
      → ((state : SessionState) → IsSession schema (session n) state → IsSession schema s state)
      → AreSessions schema (with_session session n s) states
  sessions_with session states n s are also k other lt = elim (cases_Bool ((k + 1) == n)) [
    | inl e ↦
        let same : k + 1 ≡ n = eqb-true (k + 1) n e in
        subst (λ (b : Bool). IsSession schema (cond b s (session (k + 1))) (get_or states k other))
        (sym e)
        (also (get_or states k other)
        (subst (λ m. IsSession schema (session m) (get_or states k other)) same (are k other lt)))
    | inr e ↦
        subst (λ (b : Bool). IsSession schema (cond b s (session (k + 1))) (get_or states k other))
        (sym e) (are k other lt)
  ]

-- ---- eight sessions that begin

pub all_more : (P : SessionState → Type 0) (states : List SessionState) (state : SessionState)
    → ((k : ℕ) (other : SessionState) → k < length states → P (get_or states k other)) → P state
    → (k : ℕ) (other : SessionState) → k < length (states ++ state ∷ [])
    → P (get_or (states ++ state ∷ []) k other)
all_more P states state each is k other lt = elim (cases_lt k (length states)) [
  | inl front ↦
      subst P (sym (get_or_append_left states (state ∷ []) other k front)) (each k other front)
  | inr last ↦
      let long : length (states ++ state ∷ []) ≡ length states + 1 =
      length-append states (state ∷ []) in
      subst P (sym (get_or_push states state other k (omega (arith, lt, last, long)))) is
]

-- ---- turns that reach no leaf

module _ {S : Type 0} (g : Ghosts S) where
  -- a session stands anew, and the engine doesn't stand for it
  pub stood : (p : Sharing) (n i : ℕ) (s : Session) (state : SessionState) (old new : Sessions S)
      → i + 1 ≡ n → i < 8 → AreWhole (schema_of old) old.states.items
      → engine_of new ≡ engine_of old → new.states.items ≡ set old.states.items i state
      → (new.shared.carried ≡ Some n → ⊥)
      → ((m : ℕ) → new.shared.carried ≡ Some m → old.shared.carried ≡ Some m)
      → IsSession (schema_of old) s state → AreShared g p old
      → AreShared g (record p { session = with_session p.session n s }) new
  stood p n i s state old new number lt whole engine states forgot others is are = record {
    engine = subst (λ (e : Engine S).
        IsShared g (record p { session = with_session p.session n s }) new.shared.carried e)
        (sym engine)
        (shared_moved g p n s new.shared.carried (engine_of old)
        (record {
          working = are.engine.working;
          at = are.engine.at;
          own = λ m mine. are.engine.own m (others m mine);
        })
        (λ mine. absurd (forgot mine)));
    sessions = subst (λ (e : Engine S).
        AreSessions (engine_schema e) (with_session p.session n s) new.states.items) (sym engine)
        (subst (λ (xs : List SessionState).
        AreSessions (schema_of old) (with_session p.session n s) xs) (sym states)
        (subst (λ m. AreSessions (schema_of old) (with_session p.session m s)
        (set old.states.items i state)) number
        (sessions_set (schema_of old) old.states.items i state whole.eight lt p.session s
        are.sessions is)));
  }

  -- nothing changes
  pub idled : (p : Sharing) (n : ℕ) (c : Command) (s : Sessions S) → standing_after c ≡ None
      → IsIdle (p.session n) c → AreShared g p s
      → AreShared g (record p {
        session = with_session p.session n (session_after (p.session n) c);
      }) s
  idled p n c s none is are =
      let same = idle (schema_of s) p.kept (p.session n) c none is in
      record {
        engine = shared_moved g p n (session_after (p.session n) c) s.shared.carried (engine_of s)
            are.engine (λ mine. same.view);
        sessions = sessions_with (schema_of s) p.session s.states.items n
            (session_after (p.session n) c) are.sessions same.session;
      }

  pub rested_skip : (p : Sharing) (n : ℕ) (c : Command) (o : Outcome) (old new : Sessions S)
      (out : List ℕ) → o ≡ skipped
      → AreShared g (record p {
        session = with_session p.session n (session_after (p.session n) c);
      }) new
      → ComesOut g p n c o old new out out
  rested_skip p n c o old new out is after =
      subst (λ (x : Outcome). ComesOut g p n c x old new out out) (sym is) (record {
        text = [];
        said = sym (append-nil out);
        text_is = refl;
        after = after;
      })

  pub rested_end : (p : Sharing) (n m : ℕ) (c : Command) (o : Outcome) (old new : Sessions S)
      (out : List ℕ) → o ≡ ended_by m
      → AreShared g (record p { session = with_session p.session n ended }) new
      → ComesOut g p n c o old new out out
  rested_end p n m c o old new out is after =
      subst (λ (x : Outcome). ComesOut g p n c x old new out out) (sym is) (record {
        text = [];
        said = sym (append-nil out);
        text_is = refl;
        after = after;
      })

  still_ends : (c : Command) (e : Engine S) (out now : List ℕ) → IsEngineReady g e
      → engine_stop e ≡ None → EndsCarry {T = Unit {0}} g c e e out now (Ok tt)
  still_ends c e out now ready going = record {
    unsaid = tt;
    schema = refl;
    built = refl;
    leaves = refl;
    limit = refl;
    head = refl;
    silent = record { said = refl; shelf = refl; script = refl; aside = refl };
    quiet = λ is. keeps_still g (engine_leaves e);
    kept = λ none. tt;
    cause = (carries_still g e ready going).cause;
    block = (carries_still g e ready going).block;
    ready = ready;
    going = going;
  }

  pub rested_ends : (c : Command) (old new : Sessions S) (out now : List ℕ) → IsReady g old
      → stop_of old ≡ None → RestsOn g old new → EndsTaken g c old new out now (Ok tt)
  rested_ends c old new out now ready none rest = record {
    engine = subst (λ (e : Engine S). EndsCarry {T = Unit {0}} g c (engine_of old) e out now
        (Ok tt)) (sym rest.engine)
        (still_ends c (engine_of old) out now ready.engine (ready.goes_on none).going);
    states = rest.states;
    stopped = rest.stopped;
    goes_on = rest.goes_on (ready.goes_on none);
  }

  pub unmade_ends : (c : Command) (old new : Sessions S) (out now : List ℕ)
      (r : Result (Unit {0}) Stop) → r ≡ Err stop.NoMemory → now ≡ out → IsReady g old
      → stop_of old ≡ None → RestsOn g old new → EndsTaken g c old new out now r
  unmade_ends c old new out now r is unsaid ready none rest =
      subst (λ (x : Result (Unit {0}) Stop). EndsTaken g c old new out now x) (sym is)
      (subst (λ (text : List ℕ). EndsTaken g c old new out text (Err stop.NoMemory)) (sym unsaid)
      (record {
        engine = subst (λ (e : Engine S). EndsCarry {T = Unit {0}} g c (engine_of old) e out out
            (Err stop.NoMemory)) (sym rest.engine)
            (ends_early g c (engine_of old) (engine_of old) out stop.NoMemory
            (carries_unmade g (engine_of old) (engine_of old) stop.NoMemory
            (carries_still g (engine_of old) ready.engine (ready.goes_on none).going) refl));
        states = rest.states;
        stopped = rest.stopped;
        goes_on = tt;
      }))

  module _ (means : (l : S) (start : Content) → g.calm l start → StaysKept g l start)
      (goes_on : (l : S) (start : Content) → g.calm l start → g.calm l (g.content l)) where
    pub rested_images : (p next : Sharing) (old new : Sessions S) (failed : Bool)
        → engine_of new ≡ engine_of old → AreShared g p old → (start : Content)
        → g.calm (leaves_of old) start
        → LeavesTurn g p next (engine_of old) (engine_of new) failed
    rested_images p next old new failed same are start calm =
        subst (λ (e : Engine S). LeavesTurn g p next (engine_of old) e failed) (sym same)
        (kept_turn g means goes_on p next are.engine.working (engine_of old) (engine_of old) failed
        are.engine.at (keeps_still g (leaves_of old)) start calm)

-- ---- answers that reach no leaf

abbrev text_or : List ℕ → Option (List ℕ) → List ℕ
text_or d None = d
text_or d (Some text) = text

never_at_once : {A : Type 0} (text : List ℕ) → ◌≡◌ {A = Option (List ℕ)} None (Some text) → A
never_at_once text e = absurd cc

pub came_at_once : {S : Type 0} (g : Ghosts S) (p : Sharing) (n : ℕ) (c : Command)
    (old new : Sessions S) (out now text : List ℕ) → answer_at_once c ≡ Some text
    → now ≡ out ++ text
    → AreShared g (record p {
      session = with_session p.session n (session_after (p.session n) c);
    }) new
    → ComesOut g p n c answered old new out now
came_at_once g p n command.Begin old new out now text is said after = record {
  text = text;
  said = said;
  text_is = sym (ap (text_or []) is);
  after = after;
}
came_at_once g p n command.Abort old new out now text is said after = record {
  text = text;
  said = said;
  text_is = sym (ap (text_or []) is);
  after = after;
}
came_at_once g p n command.Nothing old new out now text is said after = record {
  text = text;
  said = said;
  text_is = sym (ap (text_or []) is);
  after = after;
}
came_at_once g p n command.Commit old new out now text is said after = never_at_once text is
came_at_once g p n (command.Insert f values) old new out now text is said after =
    never_at_once text is
came_at_once g p n (command.Get f key) old new out now text is said after = never_at_once text is
came_at_once g p n (command.Update f key changes) old new out now text is said after =
    never_at_once text is
came_at_once g p n (command.Delete f key) old new out now text is said after =
    never_at_once text is
came_at_once g p n (command.Connect l owner member) old new out now text is said after =
    never_at_once text is
came_at_once g p n (command.Disconnect l member) old new out now text is said after =
    never_at_once text is
came_at_once g p n (command.Members l owner order) old new out now text is said after =
    never_at_once text is
came_at_once g p n (command.Owner l member) old new out now text is said after =
    never_at_once text is
came_at_once g p n (command.Find q) old new out now text is said after = never_at_once text is
came_at_once g p n (command.ReorganizeFile f) old new out now text is said after =
    never_at_once text is
came_at_once g p n (command.ReorganizeLink l) old new out now text is said after =
    never_at_once text is

-- ---- turns that reach the leaves

module _ {S : Type 0} (g : Ghosts S) where
  pub session_there : (p : Sharing) (n i : ℕ) (state : SessionState) (s : Sessions S)
      → i + 1 ≡ n → i < 8 → AreShared g p s → state ≡ get_or s.states.items i state
      → IsSession (schema_of s) (p.session n) state
  session_there p n i state s number lt are is =
      subst (λ m. IsSession (schema_of s) (p.session m) state) number
      (subst (λ (x : SessionState). IsSession (schema_of s) (p.session (i + 1)) x) (sym is)
      (are.sessions i state lt))

  came : (p : Sharing) (n i : ℕ) (c : Command) (state : SessionState) (old new : Sessions S)
      (out now : List ℕ) → i + 1 ≡ n → i < 8 → AreWhole (schema_of old) old.states.items
      → schema_of new ≡ schema_of old → new.states.items ≡ set old.states.items i state
      → AreShared g p old
      → IsCarriedFor g p n c (schema_of old) new.shared.carried (engine_of new) state out now
      → ComesOut g p n c answered old new out now
  came p n i c state old new out now number lt whole schema states are x = record {
    text = x.answer;
    said = x.said;
    text_is = x.answered_is;
    after = record {
      engine = x.shared;
      sessions = subst (λ (at : Schema). AreSessions at
          (with_session p.session n (session_after (p.session n) c)) new.states.items) (sym schema)
          (subst (λ (xs : List SessionState). AreSessions (schema_of old)
          (with_session p.session n (session_after (p.session n) c)) xs) (sym states)
          (subst (λ m. AreSessions (schema_of old)
          (with_session p.session m (session_after (p.session n) c))
          (set old.states.items i state)) number
          (sessions_set (schema_of old) old.states.items i state whole.eight lt p.session
          (session_after (p.session n) c) are.sessions x.session)));
    };
  }

  pub came_on : (r : Result (Unit {0}) Stop) (p : Sharing) (n i : ℕ) (c : Command)
      (state : SessionState) (old new : Sessions S) (out now : List ℕ) → i + 1 ≡ n → i < 8
      → AreWhole (schema_of old) old.states.items → schema_of new ≡ schema_of old
      → new.states.items ≡ set old.states.items i state → AreShared g p old
      → OnOk r (IsCarriedFor g p n c (schema_of old) new.shared.carried (engine_of new) state out
      now)
      → OnOk r (ComesOut g p n c answered old new out now)
  came_on (Ok x) p n i c state old new out now number lt whole schema states are is =
      came p n i c state old new out now number lt whole schema states are is
  came_on (Err e) p n i c state old new out now number lt whole schema states are is = tt
