-- What a session sees is made on an engine that stands for another.
use Rattle.std.proofs.Common.{◌≡◌, ℕ, List, [], ◌∷◌, ◌++◌, Option, Some, None, Ok, refl, sym, ap, subst, ◌∙◌}
use Rattle.gx_schema.specs.declared.schema.Schema.{Schema}
use Rattle.gx_commands.specs.declared.command.Command.{Command}
use Rattle.gx_commands.specs.Commands.{place_reason}
use Rattle.gx_ports.specs.LeafMaps.{Limits}
use Rattle.gx_ports.specs.declared.stop.Stop.{Stop}
use Rattle.gx_ports.specs.declared.view.View.{Ghosts}
use Rattle.gx_types.specs.declared.built.Built.{Built}
use Rattle.gx_model.specs.Play.{after_command, IsAnswered}
use Rattle.gx_engine.specs.declared.engine.Engine.{Engine}
use Rattle.gx_engine.specs.Steps.{schema_of, built_of, leaves_of, IsReady, IsAt, IsShortFor, CarriesOut, KeepsEngine}
use Rattle.gx_sharing.specs.Sharing.{Sharing, Session, outside, inside, ended, view_in, play_of, session_after}
use Rattle.gx_sessions.specs.declared.session.SessionState.{SessionState}
use Rattle.gx_sessions.specs.Standings.{IsSession, stands_in, commands_of}
use Rattle.gx_sessions.specs.Shared.{seeing, IsShortAmong, Carries, IsCarriedFor}
use Rattle.gx_sessions.proofs.SharedLemmas.{at_after, short_at, shared_after, outside_wants_none}

module _ {S : Type 0} (g : Ghosts S) where
  pub short_same : (old mid : Engine S) → Carries g old mid (Ok tt) → (p : Sharing)
      (cs : List Command)
      → IsShortAmong (schema_of mid) (built_of mid) (g.limit (leaves_of mid)) p cs
      → IsShortAmong (schema_of old) (built_of old) (g.limit (leaves_of old)) p cs
  short_same old mid x p cs short =
      subst (λ (schema : Schema). IsShortAmong schema (built_of old) (g.limit (leaves_of old)) p cs)
      x.schema
      (subst (λ (built : Built). IsShortAmong (schema_of mid) built (g.limit (leaves_of old)) p cs)
      x.built
      (subst (λ (limit : Option Limits). IsShortAmong (schema_of mid) (built_of mid) limit p cs)
      x.keeps.limit short))

  -- the command itself, behind those that were carried out
  pub short_last : (p : Sharing) (n : ℕ) (c : Command) (schema : Schema) (built : Built)
      (limit : Option Limits) (state : SessionState) (e : Engine S) → schema_of e ≡ schema
      → built_of e ≡ built → g.limit (leaves_of e) ≡ limit → IsSession schema (p.session n) state
      → place_reason (stands_in state.standing) c ≡ None → IsReady g e
      → IsAt g (play_of schema p n) e → IsShortFor g e (play_of schema p n) c
      → IsShortAmong schema built limit p (commands_of (p.session n) ++ c ∷ [])
  short_last p n c schema built limit state e same_schema same_built same_limit is allowed ready
      at short =
      go (p.session n) is at short
    where
      go : (s : Session) → IsSession schema s state
          → IsAt g (seeing p (view_in schema p.kept s)) e
          → IsShortFor g e (seeing p (view_in schema p.kept s)) c
          → IsShortAmong schema built limit p (commands_of s ++ c ∷ [])
      go outside so here wants =
          absurd (outside_wants_none c (ap (λ b. place_reason b c) (sym (ap stands_in so.standing))
          ∙ allowed) wants.0.kind)
      go ended so here wants =
          absurd (outside_wants_none c (ap (λ b. place_reason b c) (sym (ap stands_in so.standing))
          ∙ allowed) wants.0.kind)
      go (inside cs) so here wants =
          short_at g p (cs ++ c ∷ []) cs c [] schema built limit e same_schema same_built same_limit
          refl ready here wants

  pub carried_for : (p : Sharing) (n : ℕ) (c : Command) (schema : Schema) (carried : Option ℕ)
      (mid new : Engine S) (state : SessionState) (out now : List ℕ) → schema_of mid ≡ schema
      → carried ≡ Some n → IsAt g (play_of schema p n) mid
      → KeepsEngine {E = Stop} g mid new c (Ok tt)
      → CarriesOut g (play_of schema p n) c mid new out now
      → IsSession schema (session_after (p.session n) c) state
      → IsCarriedFor g p n c schema carried new state out now
  carried_for p n c schema carried mid new state out now same is at keeps carries session =
      let q = play_of schema p n in
      record {
        answer = carries.answer;
        said = carries.said;
        answered_is = subst (λ (x : Schema). IsAnswered x q c carries.answer) same carries.answered;
        shared = shared_after g schema p n c carried new (keeps.schema ∙ same) is
            (subst (λ (x : Schema). IsAt g (after_command x q c) new) same
            (at_after g q c mid new out now keeps.schema keeps.built carries
            (keeps.whole at.whole_is at.kept_whole_is)
            (keeps.kept_whole at.whole_is at.kept_whole_is)));
        session = session;
      }
