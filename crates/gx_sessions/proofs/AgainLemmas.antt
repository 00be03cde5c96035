-- Commands that may be carried out on a shared engine.
use Rattle.std.proofs.Common.{◌≡◌, ◌^◌, ◌<◌, length, Bool, true, false, None, refl, sym, ap, subst, ◌∙◌, arith}
use Rattle.std.proofs.lemmas.Bool.{true≢false}
use Rattle.gx_schema.specs.declared.schema.Schema.{Schema}
use Rattle.gx_commands.specs.declared.command.Command.{Command}
use Rattle.gx_commands.specs.declared.command.Command.TheVariants as command
use Rattle.gx_commands.specs.Commands.{IsOfSchema, conds_of, place_reason, inside_after}
use Rattle.gx_engine.specs.declared.engine.Engine.{Engine}
use Rattle.gx_engine.specs.Steps.{schema_of, is_open, IsDue, is_commit}
use Rattle.gx_sharing.specs.Kept.{is_kept}
use Rattle.gx_sharing.proofs.Carried.{is_control, Kind, begins, commits, aborts, plain, kind_of}
use Rattle.gx_sessions.proofs.StandingLemmas.{plain_inside}

-- what is said of a kept command
record IsQuietChange (c : Command) : Type 0 where
  few : length (conds_of c) < 2 ^ 16
  allowed : place_reason true c ≡ None
  quiet : is_commit c ≡ false
  plain_is : is_control c ≡ false

changes : (c : Command) → Kind c → is_kept c ≡ true → IsQuietChange c
changes command.Begin begins e = absurd (true≢false (sym e))
changes command.Commit commits e = absurd (true≢false (sym e))
changes command.Abort aborts e = absurd (true≢false (sym e))
changes (command.Insert f values) (plain h) e =
    record { few = omega arith; allowed = refl; quiet = refl; plain_is = refl }
changes (command.Get f key) (plain h) e = absurd (true≢false (sym e))
changes (command.Update f key new) (plain h) e =
    record { few = omega arith; allowed = refl; quiet = refl; plain_is = refl }
changes (command.Delete f key) (plain h) e =
    record { few = omega arith; allowed = refl; quiet = refl; plain_is = refl }
changes (command.Connect l owner member) (plain h) e =
    record { few = omega arith; allowed = refl; quiet = refl; plain_is = refl }
changes (command.Disconnect l member) (plain h) e =
    record { few = omega arith; allowed = refl; quiet = refl; plain_is = refl }
changes (command.Members l owner order) (plain h) e = absurd (true≢false (sym e))
changes (command.Owner l member) (plain h) e = absurd (true≢false (sym e))
changes (command.Find q) (plain h) e = absurd (true≢false (sym e))
changes (command.ReorganizeFile f) (plain h) e =
    record { few = omega arith; allowed = refl; quiet = refl; plain_is = refl }
changes (command.ReorganizeLink l) (plain h) e =
    record { few = omega arith; allowed = refl; quiet = refl; plain_is = refl }
changes command.Begin (plain h) e = absurd (true≢false (sym e))
changes command.Commit (plain h) e = absurd (true≢false (sym e))
changes command.Abort (plain h) e = absurd (true≢false (sym e))
changes command.Nothing (plain h) e = absurd (true≢false (sym e))

pub kept_quiet : (c : Command) → is_kept c ≡ true → is_commit c ≡ false
kept_quiet c e = (changes c (kind_of c) e).quiet

pub kept_inside : (b : Bool) (c : Command) → is_kept c ≡ true → inside_after b c ≡ b
kept_inside b c e = plain_inside b c (changes c (kind_of c) e).plain_is

-- a kept command may be carried out again where a transaction is open
pub due_again : {S : Type 0} (e : Engine S) (schema : Schema) (c d : Command) → schema_of e ≡ schema
    → is_open e ≡ true → c ≡ d → IsOfSchema schema d → is_kept c ≡ true → IsDue e c
due_again e schema c d same open_ is of_schema keeps = record {
  of_schema = subst (λ (x : Schema). IsOfSchema x c) (sym same)
      (subst (IsOfSchema schema) (sym is) of_schema);
  few = (changes c (kind_of c) keeps).few;
  allowed = ap (λ b. place_reason b c) open_ ∙ (changes c (kind_of c) keeps).allowed;
}
