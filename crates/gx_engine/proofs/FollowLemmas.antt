-- Commands that follow a link, in the engine.
use Rattle.std.proofs.Common.{◌≡◌, ℕ, List, Bool, true, Option, Some, None, cond, refl, sym, ap, subst}
use Rattle.std.proofs.lemmas.Bool.{true≢false}
use Rattle.std.specs.Prelude.{◌++◌, is_some}
use Rattle.gx_schema.specs.declared.schema.Schema.{Schema}
use Rattle.gx_commands.specs.declared.command.Command.{Command}
use Rattle.gx_commands.specs.declared.command.Command.TheVariants as command
use Rattle.gx_commands.specs.Commands.{inside_after}
use Rattle.gx_ports.specs.LeafMaps.{LeafMap}
use Rattle.gx_ports.specs.declared.view.View.{Ghosts}
use Rattle.gx_types.specs.declared.built.Built.{Built}
use Rattle.gx_model.specs.States.{State}
use Rattle.gx_model.specs.Commands.{Refusal, refusal_of, IsAnswer}
use Rattle.gx_model.specs.Play.{Playing, seen_state, with_working, after_command, IsAnswered}
use Rattle.gx_engine.specs.declared.engine.Engine.{Engine}
use Rattle.gx_engine.specs.Steps.{AreFresh, selects}
use Rattle.gx_answers.specs.Queries.{follows_link}
use Rattle.gx_engine.specs.Moments.{Stands, IsCarried}
use Rattle.gx_engine.proofs.StepLemmas.{stands_still}

same_after : (o : Option Refusal) (s : State) → cond (is_some o) s s ≡ s
same_after None s = refl
same_after (Some why) s = refl

pub follow_next : (schema : Schema) (p : Playing) (c : Command) → follows_link c ≡ true
    → after_command schema p c ≡ with_working p (seen_state p)
follow_next schema p (command.Members link owner order) e = ap (with_working p) (same_after
    (refusal_of schema (seen_state p) (command.Members link owner order)) (seen_state p))
follow_next schema p (command.Owner link member) e =
    ap (with_working p) (same_after (refusal_of schema (seen_state p) (command.Owner link member))
    (seen_state p))
follow_next schema p (command.Find q) e =
    ap (with_working p) (same_after (refusal_of schema (seen_state p) (command.Find q))
    (seen_state p))
follow_next schema p _ e = absurd (true≢false (sym e))

follow_answered : (schema : Schema) (p : Playing) (c : Command) (text : List ℕ)
    → follows_link c ≡ true → IsAnswer schema (seen_state p) c text → IsAnswered schema p c text
follow_answered schema p command.Begin text e is = absurd (true≢false (sym e))
follow_answered schema p command.Commit text e is = absurd (true≢false (sym e))
follow_answered schema p command.Abort text e is = absurd (true≢false (sym e))
follow_answered schema p _ text e is = is

pub follow_stays : (inside : Bool) (c : Command) → follows_link c ≡ true
    → inside_after inside c ≡ inside
follow_stays inside command.Begin e = absurd (true≢false (sym e))
follow_stays inside command.Commit e = absurd (true≢false (sym e))
follow_stays inside command.Abort e = absurd (true≢false (sym e))
follow_stays inside _ e = refl

pub follow_fresh : {S : Type 0} (g : Ghosts S) (c : Command) (new : Engine S)
    → follows_link c ≡ true → AreFresh g c new
follow_fresh g (command.ReorganizeFile file) new e = absurd (true≢false (sym e))
follow_fresh g (command.ReorganizeLink link) new e = absurd (true≢false (sym e))
follow_fresh g _ new e = tt

pub follow_selects : (c : Command) → follows_link c ≡ true → selects c ≡ true
follow_selects command.Begin e = absurd (true≢false (sym e))
follow_selects command.Commit e = absurd (true≢false (sym e))
follow_selects command.Abort e = absurd (true≢false (sym e))
follow_selects command.Nothing e = absurd (true≢false (sym e))
follow_selects _ e = refl

pub answer_carried : (schema : Schema) (built : Built) (inside : Bool) (commits : ℕ)
    (old new kept now : List LeafMap) (p : Playing) (c : Command) (out said text : List ℕ)
    → follows_link c ≡ true → Stands schema built inside commits old kept p → new ≡ old → now ≡ kept
    → IsAnswer schema (seen_state p) c text → said ≡ out ++ text
    → IsCarried schema built p c out said inside commits new now
answer_carried schema built inside commits old new kept now p c out said text follows stands same
    kept_same answered is_said = record {
      answer = text;
      said = is_said;
      answered = follow_answered schema p c text follows answered;
      stands = subst (Stands schema built inside commits new now)
          (sym (follow_next schema p c follows))
          (stands_still schema built inside commits old new kept now p
          (seen_state p) stands same kept_same refl);
    }
