-- Which sessions are in a transaction, by what they stand for.
use Rattle.std.proofs.Common.{◌≡◌, ℕ, zero, suc, ◌+◌, ◌-◌, ◌<◌, List, [], ◌∷◌, length, get_or, refl, ap, ◌∙◌, arith}
use Rattle.std.specs.Prelude.{map}
use Rattle.gx_ports.specs.declared.view.View.{Ghosts}
use Rattle.gx_sharing.specs.Sharing.{Sharing, Session, outside, inside, ended, is_in}
use Rattle.gx_sessions.specs.declared.session.SessionState.{SessionState}
use Rattle.gx_sessions.specs.declared.session.Standing.{Standing}
use Rattle.gx_sessions.specs.declared.sessions.Sessions.{Sessions}
use Rattle.gx_sessions.specs.Standings.{is_within, standing_of}
use Rattle.gx_sessions.specs.Turns.{AreShared, IsReady, IsNumber, is_in_at}

standing_there : (states : List SessionState) (k : ℕ) (d : SessionState) (other : Standing)
    → k < length states
    → get_or (map (λ (s : SessionState). s.standing) states) k other ≡ (get_or states k d).standing
standing_there [] k d other lt = absurd (omega (arith, lt))
standing_there (s ∷ states) zero d other lt = refl
standing_there (s ∷ states) (suc k) d other lt =
    standing_there states k d other (omega (arith, lt))

within_same : (s : Session) → is_within (standing_of s) ≡ is_in s
within_same outside = refl
within_same (inside cs) = refl
within_same ended = refl

some_state : (states : List SessionState) → length states ≡ 8 → SessionState
some_state [] eight = absurd (omega (arith, eight))
some_state (s ∷ states) eight = s

pub stands_in_turn : {S : Type 0} (g : Ghosts S) (p : Sharing) (s : Sessions S) → IsReady g s
    → AreShared g p s → (n : ℕ) → IsNumber n → is_in_at s n ≡ is_in (p.session n)
stands_in_turn g p s ready at n number =
    let eight = ready.states.eight in
    let d = some_state s.states.items eight in
    let lt : n - 1 < 8 = omega (arith, number.0, number.1) in
    let same : n - 1 + 1 ≡ n = omega (arith, number.0) in
    ap is_within (standing_there s.states.items (n - 1) d _ (omega (arith, lt, eight)))
    ∙ ap is_within (at.sessions (n - 1) d lt).standing
    ∙ within_same (p.session (n - 1 + 1)) ∙ ap (λ (k : ℕ). is_in (p.session k)) same
