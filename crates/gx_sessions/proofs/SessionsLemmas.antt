-- One of the sessions goes on, and the others stay.
use Rattle.std.proofs.Common.{◌≡◌, ◌≢◌, ℕ, ◌+◌, ◌-◌, ◌<◌, ◌≤◌, ◌⊎◌, List, [], ◌∷◌, map, length, get_or, set, Bool, true, false, cond, Option, Some, Result, Ok, Err, OnOk, sym, ap, subst, ◌∙◌, arith, inl, inr, eq-eqb, ne_eqb}
use Rattle.std.specs.Prelude.{◌==◌}
use Rattle.std.proofs.lemmas.Bool.{true≢false, cases_Bool, eqb-true}
use Rattle.std.proofs.lemmas.List.{get_or-map, get_or-set_other, length-map, length-set, map-set}
use Rattle.std.proofs.lemmas.Grind.{get_or-set_at}
use Rattle.gx_schema.specs.declared.schema.Schema.{Schema}
use Rattle.gx_commands.specs.declared.command.Command.{Command}
use Rattle.gx_commands.specs.Commands.{inside_after}
use Rattle.gx_ports.specs.declared.stop.Stop.{Stop}
use Rattle.gx_ports.specs.declared.view.View.{Ghosts}
use Rattle.gx_engine.specs.declared.engine.Engine.{Engine}
use Rattle.gx_engine.specs.Steps.{schema_of}
use Rattle.gx_sharing.specs.Sharing.{Sharing, Session, outside, view_in, with_session}
use Rattle.gx_sessions.specs.declared.session.SessionState.{SessionState}
use Rattle.gx_sessions.specs.declared.session.Standing.{Standing}
use Rattle.gx_sessions.specs.declared.session.Standing.TheVariants.{Outside}
use Rattle.gx_sessions.specs.declared.sessions.Sessions.{Sessions}
use Rattle.gx_sessions.specs.Standings.{IsSession, IsWhole, AreSessions, AreWhole, is_within}
use Rattle.gx_sessions.specs.Shared.{IsShared}
use Rattle.gx_sessions.specs.Turns.{standing_at, is_in_at, IsNumber, MovesTo}

abbrev standing_in : SessionState → Standing
standing_in state = state.standing

same_number : (k i : ℕ) → k ≡ i → ((k + 1) == (i + 1)) ≡ true
same_number k i e = eq-eqb (k + 1) (i + 1) (ap (λ n. n + 1) e)

other_number : (k i : ℕ) → k ≢ i → ((k + 1) == (i + 1)) ≡ false
other_number k i ne = ne_eqb (k + 1) (i + 1) (λ e. ne (omega (arith, e)))

module _ (schema : Schema) (states : List SessionState) (i : ℕ) (state : SessionState)
    (eight : length states ≡ 8) (lt : i < 8) where
  pub sessions_set : (session : ℕ → Session) (s : Session) → AreSessions schema session states
      → IsSession schema s state
      → AreSessions schema (with_session session (i + 1) s) (set states i state)
  sessions_set session s are is k other within = go (cases_Bool (k == i))
    where
      go : ((k == i) ≡ true) ⊎ ((k == i) ≡ false)
          → IsSession schema (with_session session (i + 1) s (k + 1))
          (get_or (set states i state) k other)
      go (inl e) =
          let same : k ≡ i = eqb-true k i e in
          subst (λ (x : SessionState). IsSession schema (with_session session (i + 1) s (k + 1)) x)
          (sym (get_or-set_at states i k state other same (omega (arith, lt, eight))))
          (subst (λ (t : Session). IsSession schema t state)
          (sym (ap (λ (b : Bool). cond b s (session (k + 1))) (same_number k i same))) is)
      go (inr e) =
          let ne : k ≢ i = λ same. true≢false (sym (eq-eqb k i same) ∙ e) in
          subst (λ (x : SessionState). IsSession schema (with_session session (i + 1) s (k + 1)) x)
          (sym (get_or-set_other states i k state other ne))
          (subst (λ (t : Session). IsSession schema t (get_or states k other))
          (sym (ap (λ (b : Bool). cond b s (session (k + 1))) (other_number k i ne)))
          (are k other within))

  pub whole_set : AreWhole schema states → IsWhole schema state
      → AreWhole schema (set states i state)
  whole_set are is = record {
    eight = length-set states i state ∙ are.eight;
    each = λ k other within. elim (cases_Bool (k == i)) [
      | inl e ↦ subst (IsWhole schema)
          (sym (get_or-set_at states i k state other (eqb-true k i e)
          (omega (arith, lt, eight)))) is
      | inr e ↦ subst (IsWhole schema)
          (sym (get_or-set_other states i k state other
          (λ same. true≢false (sym (eq-eqb k i same) ∙ e)))) (are.each k other within)
    ];
  }

-- ---- where the sessions stand

module _ {S : Type 0} (old new : Sessions S) (i : ℕ) (state : SessionState)
    (eight : length old.states.items ≡ 8) (lt : i < 8)
    (states : new.states.items ≡ set old.states.items i state) where
  standings : map standing_in new.states.items
      ≡ set (map standing_in old.states.items) i state.standing
  standings =
      ap (λ (xs : List SessionState). map standing_in xs) states
      ∙ map-set standing_in old.states.items i state

  long : length (map standing_in old.states.items) ≡ 8
  long = length-map old.states.items standing_in ∙ eight

  -- of the session that was set, and of another
  pub moved : (n : ℕ) (within : Bool) → i + 1 ≡ n → is_within state.standing ≡ within
      → MovesTo old new n within
  moved n within number is = record { at = λ m numbered. go m numbered.0 }
    where
      go : (m : ℕ) → 1 ≤ m
          → is_in_at new m ≡ cond (m == n) within (is_in_at old m)
      go m least = elim (cases_Bool (m == n)) [
        | inl e ↦
            let same : m ≡ n = eqb-true m n e in
            ap (λ (xs : List Standing). is_within (get_or xs (m - 1) Outside)) standings
            ∙ ap is_within (get_or-set_at (map standing_in old.states.items) i (m - 1) state.standing
            Outside (omega (arith, same, number)) (omega (arith, lt, long)))
            ∙ is
            ∙ ap (λ (b : Bool). cond b within (is_in_at old m)) (sym e)
        | inr e ↦
            ap (λ (xs : List Standing). is_within (get_or xs (m - 1) Outside)) standings
            ∙ ap is_within (get_or-set_other (map standing_in old.states.items) i (m - 1)
            state.standing Outside
            (λ same. true≢false (sym (eq-eqb m n (omega (arith, same, number, least))) ∙ e)))
            ∙ ap (λ (b : Bool). cond b within (is_in_at old m)) (sym e)
      ]

-- where it stands is what the table says of it
pub within_there : {S : Type 0} (s : Sessions S) (n i : ℕ) (state : SessionState) → i + 1 ≡ n
    → i < length s.states.items → state ≡ get_or s.states.items i state
    → standing_at s n ≡ state.standing
within_there s n i state number lt is =
    let e : n - 1 ≡ i = omega (arith, number) in
    ap (λ k. get_or (map standing_in s.states.items) k Outside) e
    ∙ get_or-map standing_in s.states.items i state Outside lt
    ∙ ap standing_in (sym is)

-- sessions that are all outside
pub all_out : {S : Type 0} (s : Sessions S) (schema : Schema) → AreWhole schema s.states.items
    → AreSessions schema (λ n. outside) s.states.items → (n : ℕ) → IsNumber n
    → is_in_at s n ≡ false
all_out s schema whole are n number =
    go s.states.items whole.eight are (n - 1) (omega (arith, number.0, number.1))
  where
    go : (states : List SessionState) → length states ≡ 8
        → AreSessions schema (λ n. outside) states → (k : ℕ) → k < 8
        → is_within (get_or (map standing_in states) k Outside) ≡ false
    go [] eight out k lt = absurd (omega (arith, eight))
    go (d ∷ ds) eight out k lt =
        ap is_within (get_or-map standing_in (d ∷ ds) k d Outside (omega (arith, lt, eight))
        ∙ (out k d lt).standing)

-- the session that was set is where its command leads
pub moved_on : {S : Type 0} (r : Result (Unit {0}) Stop) (old new : Sessions S) (i : ℕ)
    (before state : SessionState) → length old.states.items ≡ 8 → i < 8
    → new.states.items ≡ set old.states.items i state → (n : ℕ) (c : Command) → i + 1 ≡ n
    → before ≡ get_or old.states.items i before
    → OnOk r (is_within state.standing ≡ inside_after (is_within before.standing) c)
    → OnOk r (MovesTo old new n (inside_after (is_in_at old n) c))
moved_on (Ok x) old new i before state eight lt states n c number there is =
    moved old new i state eight lt states n (inside_after (is_in_at old n) c) number
    (is ∙ ap (λ (s : Standing). inside_after (is_within s) c)
    (sym (within_there old n i before number (omega (arith, lt, eight)) there)))
moved_on (Err e) old new i before state eight lt states n c number there is = tt

-- nothing moves
pub unmoved : {S : Type 0} (s : Sessions S) (n : ℕ) (within : Bool) → within ≡ is_in_at s n
    → MovesTo s s n within
unmoved s n within is = record {
  at = λ m numbered. elim (cases_Bool (m == n)) [
    | inl e ↦
        ap (λ k. is_in_at s k) (eqb-true m n e) ∙ sym is
        ∙ ap (λ (b : Bool). cond b within (is_in_at s m)) (sym e)
    | inr e ↦ ap (λ (b : Bool). cond b within (is_in_at s m)) (sym e)
  ];
}

-- the engine stands for the same where one session sees the same
module _ {S : Type 0} (g : Ghosts S) where
  pub shared_moved : (p : Sharing) (n : ℕ) (s : Session) (carried : Option ℕ) (e : Engine S)
      → IsShared g p carried e
      → (carried ≡ Some n
      → view_in (schema_of e) p.kept s ≡ view_in (schema_of e) p.kept (p.session n))
      → IsShared g (record p { session = with_session p.session n s }) carried e
  shared_moved p n s carried e is same = record {
    working = is.working;
    at = is.at;
    own = λ m mine. elim (cases_Bool (m == n)) [
      | inl h ↦
          let m_is : m ≡ n = eqb-true m n h in
          is.own m mine
          ∙ ap (λ k. view_in (schema_of e) p.kept (p.session k)) m_is
          ∙ sym (same (mine ∙ ap (λ k. Some k) m_is))
          ∙ ap (λ (b : Bool). view_in (schema_of e) p.kept (cond b s (p.session m))) (sym h)
      | inr h ↦ is.own m mine
          ∙ ap (λ (b : Bool). view_in (schema_of e) p.kept (cond b s (p.session m))) (sym h)
    ];
  }
