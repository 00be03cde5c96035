-- How a command that was carried out for a session ends, and what a crash leaves within it.
use Rattle.std.proofs.Common.{◌≡◌, ℕ, List, Bool, false, Result, Ok, Err, OnOk, OnErr, None, Option, refl, subst, ◌∙◌, inl, inr}
use Rattle.gx_device.specs.Content.{Moment, Content}
use Rattle.gx_device.specs.Crash.{Image, EachImage, LeavesOnly}
use Rattle.gx_device.specs.Quiet.{IsOldOrNew}
use Rattle.gx_device.proofs.RunLemmas.{joined, weakened}
use Rattle.gx_schema.specs.declared.schema.Schema.{Schema}
use Rattle.gx_commands.specs.declared.command.Command.{Command}
use Rattle.gx_commands.specs.declared.command.Command.TheVariants as command
use Rattle.gx_ports.specs.Calls.{Keeps}
use Rattle.gx_ports.specs.Calm.{StaysKept}
use Rattle.gx_ports.specs.Heads.{Head}
use Rattle.gx_ports.specs.Stops.{HasStopCause, is_fault}
use Rattle.gx_ports.specs.declared.stop.Stop.{Stop}
use Rattle.gx_ports.specs.declared.stop.Stop.TheVariants as stop
use Rattle.gx_ports.specs.declared.view.View.{Ghosts}
use Rattle.gx_types.specs.declared.built.Built.{Built}
use Rattle.gx_model.specs.States.{State}
use Rattle.gx_model.specs.Play.{Playing, after_command}
use Rattle.gx_engine.specs.declared.engine.Engine.{Engine}
use Rattle.gx_engine.specs.Steps.{schema_of, built_of, leaves_of, stop_of, IsReady, IsAt, IsSound, KeepsEngine}
use Rattle.gx_engine.specs.Crashes.{HoldsState, HoldsFor, LeavesStates}
use Rattle.gx_engine.proofs.CrashLemmas.{keeps_states}
use Rattle.gx_sharing.specs.Sharing.{Sharing}
use Rattle.gx_sessions.specs.Shared.{seeing, Carries, EndsCarry, LeavesTurn}
use Rattle.gx_sessions.proofs.SharedLemmas.{keeps_then, cause_then}

on_err : {T A B : Type 0} (r : Result T Stop) → (A → B) → OnErr r A → OnErr r B
on_err (Ok x) f a = tt
on_err (Err e) f a = f a

-- ---- how it ends

module _ {S : Type 0} (g : Ghosts S) where
  -- given up before its own step
  pub ends_early : (c : Command) (old new : Engine S) (out : List ℕ) (e : Stop)
      → Carries g old new (Err e) → EndsCarry {T = Unit {0}} g c old new out out (Err e)
  ends_early c old new out e x = record {
    unsaid = refl;
    schema = x.schema;
    built = x.built;
    leaves = x.keeps.leaves;
    limit = x.keeps.limit;
    head = x.keeps.head;
    silent = x.keeps.silent;
    quiet = λ is. x.keeps;
    kept = λ none. x.keeps;
    cause = x.cause;
    block = x.block;
    ready = x.ready;
    going = tt;
  }

  -- by its own step
  pub ends_by : (c : Command) (old mid new : Engine S) (out now : List ℕ)
      (r : Result (Unit {0}) Stop) → Carries g old mid (Ok tt) → KeepsEngine g mid new c r
      → (is_fault r ≡ false → OnErr r (Keeps g (leaves_of mid) (leaves_of new)))
      → OnErr r (now ≡ out)
      → HasStopCause (g.faults (leaves_of mid)) (g.faults (leaves_of new)) (IsSound g mid) r
      → ((n : ℕ) → r ≡ Err (stop.Damaged n) → g.whole (leaves_of mid) → n ≡ 0)
      → IsReady g new → OnOk r (stop_of new ≡ None) → EndsCarry g c old new out now r
  ends_by c old mid new out now r x keeps kept unsaid cause block ready going = record {
    unsaid = unsaid;
    schema = keeps.schema ∙ x.schema;
    built = keeps.built ∙ x.built;
    leaves = keeps.leaves ∙ x.keeps.leaves;
    limit = keeps.limit ∙ x.keeps.limit;
    head = keeps.head ∙ x.keeps.head;
    silent = record {
      said = keeps.silent.said ∙ x.keeps.silent.said;
      shelf = keeps.silent.shelf ∙ x.keeps.silent.shelf;
      script = keeps.silent.script ∙ x.keeps.silent.script;
      aside = keeps.silent.aside ∙ x.keeps.silent.aside;
    };
    quiet = λ is. keeps_then g (leaves_of old) (leaves_of mid) (leaves_of new) x.keeps
        (keeps.keeps is);
    kept = λ none. on_err r
        (keeps_then g (leaves_of old) (leaves_of mid) (leaves_of new) x.keeps) (kept none);
    cause = cause_then g old mid new r (x.cause.counted refl) x.sound cause;
    block = λ n is whole kept_whole. block n is (x.whole whole kept_whole);
    ready = ready;
    going = going;
  }

-- ---- what a crash leaves

widened : (a b : List (List ℕ) → Type 0) (start : Moment) (x y : Content)
    → LeavesOnly (IsOldOrNew a a start) x y → LeavesOnly (IsOldOrNew a b start) x y
widened a b start x y run =
    weakened (EachImage (IsOldOrNew a a start)) (EachImage (IsOldOrNew a b start))
    (λ m leaves image is. one image (leaves image is)) x y run
  where
    one : (image : Image) → IsOldOrNew a a start image → IsOldOrNew a b start image
    one image q = record {
      is = elim q.is [
        | inl s ↦ inl s
        | inr s ↦ inl s
      ];
      said = q.said;
      shelf = q.shelf;
    }

module _ {S : Type 0} (g : Ghosts S)
    (means : (l : S) (start : Content) → g.calm l start → StaysKept g l start)
    (goes_on : (l : S) (start : Content) → g.calm l start → g.calm l (g.content l)) where
  -- before a commit the kept state stays
  pub kept_turn : (p next : Sharing) (w : Option State) (old new : Engine S) (failed : Bool)
      → IsAt g (seeing p w) old → Keeps g (leaves_of old) (leaves_of new) → (start : Content)
      → g.calm (leaves_of old) start → LeavesTurn g p next old new failed
  kept_turn p next w old new failed at keeps start calm =
      let same = keeps_states g means goes_on (seeing p w) command.Begin old new failed at keeps
      start calm in
      record {
        images = widened (HoldsFor g old p.kept) (HoldsFor g old next.kept)
            (g.content (leaves_of old)).now (g.content (leaves_of old))
            (g.content (leaves_of new)) same.images;
        calm = same.calm;
      }

  holds_then : (old mid : Engine S) → Carries g old mid (Ok tt) → (s t : State) → s ≡ t
      → (blocks : List (List ℕ)) → HoldsFor g mid s blocks → HoldsFor g old t blocks
  holds_then old mid x s t same blocks h =
      subst (λ (u : State). HoldsFor g old u blocks) same
      (subst (λ (schema : Schema). HoldsState g schema (built_of old) (g.head (leaves_of old)) s
      blocks) x.schema
      (subst (λ (built : Built). HoldsState g (schema_of mid) built (g.head (leaves_of old)) s
      blocks) x.built
      (subst (λ (head : Head). HoldsState g (schema_of mid) (built_of mid) head s blocks)
      x.keeps.head h)))

  -- and then the command's own step
  pub stepped_turn : (p next : Sharing) (w : Option State) (q : Playing) (c : Command)
      (old mid new : Engine S) (failed : Bool) → IsAt g (seeing p w) old
      → Carries g old mid (Ok tt) → (start : Content) → g.calm (leaves_of old) start
      → LeavesStates g q c mid new failed → q.kept ≡ p.kept
      → (after_command (schema_of mid) q c).kept ≡ next.kept
      → LeavesTurn g p next old new failed
  stepped_turn p next w q c old mid new failed at x start calm second kept later = record {
    images = joined (EachImage (IsOldOrNew (HoldsFor g old p.kept) (HoldsFor g old next.kept)
        (g.content (leaves_of old)).now)) (g.content (leaves_of old)) (g.content (leaves_of mid))
        (g.content (leaves_of new))
        (kept_turn p next w old mid false at x.keeps start calm).images
        (weakened (EachImage (IsOldOrNew (HoldsFor g mid q.kept)
        (HoldsFor g mid (after_command (schema_of mid) q c).kept) (g.content (leaves_of mid)).now))
        (EachImage (IsOldOrNew (HoldsFor g old p.kept) (HoldsFor g old next.kept)
        (g.content (leaves_of old)).now))
        (λ m leaves image is. one image (leaves image is))
        (g.content (leaves_of mid)) (g.content (leaves_of new)) second.images);
    calm = second.calm;
  }
    where
      one : (image : Image)
          → IsOldOrNew (HoldsFor g mid q.kept) (HoldsFor g mid (after_command (schema_of mid) q
          c).kept)
          (g.content (leaves_of mid)).now image
          → IsOldOrNew (HoldsFor g old p.kept) (HoldsFor g old next.kept)
          (g.content (leaves_of old)).now image
      one image o = record {
        is = elim o.is [
          | inl s ↦ inl (holds_then old mid x q.kept p.kept kept image.blocks s)
          | inr s ↦ inr (holds_then old mid x (after_command (schema_of mid) q c).kept next.kept
              later image.blocks s)
        ];
        said = o.said ∙ x.keeps.silent.said;
        shelf = o.shelf ∙ x.keeps.silent.shelf;
      }
