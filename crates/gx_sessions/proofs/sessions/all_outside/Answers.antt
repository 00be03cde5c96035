use Rattle.std.proofs.Common.{◌≡◌, ℕ, ◌+◌, ◌<◌, List, [], ◌∷◌, ◌++◌, length, get_or, sym, ap, subst, ◌∙◌}
use Rattle.std.proofs.lemmas.List.{length-append}
use Rattle.gx_sharing.specs.Sharing.{outside}
use Rattle.gx_sessions.specs.declared.session.SessionState.{SessionState}
use Rattle.gx_sessions.specs.Standings.{IsSession, IsWhole}
use Rattle.gx_sessions.proofs.TurnLemmas.{all_more}
use Rattle.gx_sessions.proofs.sessions.all_outside.Goals as goal

pub loop-preserved : goal.loop-preserved
loop-preserved c =
    let states = c.loop.states.items in
    let state = c.in_ok-new.field-0 in
    let schema = c.args.schema.now in
    let pushed : c.push.new.self.items ≡ states ++ state ∷ [] = c.in_ok-push.ensures.items in (
      ap (λ (xs : List SessionState). length xs) pushed ∙ length-append states (state ∷ [])
          ∙ ap (λ n. n + 1) c.loop.invariant.0,
      subst (λ (xs : List SessionState). (k : ℕ) (other : SessionState) → k < length xs
          → IsSession schema outside (get_or xs k other) × IsWhole schema (get_or xs k other))
          (sym pushed)
          (all_more (λ (x : SessionState). IsSession schema outside x × IsWhole schema x) states
          state c.loop.invariant.1
          (c.in_ok-new.ensures.outside schema, c.in_ok-new.ensures.whole schema c.places.ensures)),
    )
