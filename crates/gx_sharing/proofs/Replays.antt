-- Commands that are kept are carried out again with the same outcome; and a command that reads what
-- its session didn't change is answered the same where another session's changes stand.
use Rattle.std.proofs.Common.{◌≡◌, ℕ, List, [], ◌∷◌, Bool, true, false, Option, Some, None, cond, refl, sym, ap, subst, ◌∙◌}
use Rattle.std.specs.Prelude.{is_some, ◌==◌, not, ◌&&◌, find}
use Rattle.std.specs.Option.{option_or}
use Rattle.std.proofs.Common.{inl, inr}
use Rattle.std.proofs.lemmas.Bool.{true≢false}
use Rattle.gx_laws.specs.Members.{In}
use Rattle.gx_schema.specs.declared.schema.Schema.{Schema}
use Rattle.gx_commands.specs.declared.command.Command.{Command}
use Rattle.gx_commands.specs.declared.command.Command.TheVariants as command
use Rattle.gx_model.specs.States.{State}
use Rattle.gx_model.specs.Commands.{refusal_of, next_state, IsAnswer}
use Rattle.gx_sharing.specs.Locks.{Item, Mode, is_held, is_exclusive, conflict, lock_of, held, items_of}
use Rattle.gx_sharing.specs.Sharing.{Sharing, answered, skipped, ended_by, sessions, played, holds, is_barred, holder_among, outcome_of, outcome_in, refused_by, Session, outside, inside, ended, is_nothing}
use Rattle.gx_sharing.specs.Kept.{is_kept, kept_of, IsClearOf}
use Rattle.gx_sharing.specs.Turns.{IsHolder}
use Rattle.gx_sharing.proofs.Agreement.{IsSized, Agree, agree_on, answer_alike}
use Rattle.gx_sharing.proofs.Carried.{played_elsewhere}

-- ---- what is kept

same_either : (b : Bool) (s : State) → cond b s s ≡ s
same_either true s = refl
same_either false s = refl

not_kept : (schema : Schema) (s : State) (c : Command) → is_kept c ≡ false
    → next_state schema s c ≡ s
not_kept schema s (command.Insert f values) e = absurd (true≢false e)
not_kept schema s (command.Update f key changes) e = absurd (true≢false e)
not_kept schema s (command.Delete f key) e = absurd (true≢false e)
not_kept schema s (command.Connect l owner member) e = absurd (true≢false e)
not_kept schema s (command.Disconnect l member) e = absurd (true≢false e)
not_kept schema s (command.ReorganizeFile f) e = absurd (true≢false e)
not_kept schema s (command.ReorganizeLink l) e = absurd (true≢false e)
not_kept schema s (command.Get f key) e = refl
not_kept schema s (command.Members l owner order) e =
    same_either (is_some (refusal_of schema s (command.Members l owner order))) s
not_kept schema s (command.Owner l member) e =
    same_either (is_some (refusal_of schema s (command.Owner l member))) s
not_kept schema s (command.Find q) e =
    same_either (is_some (refusal_of schema s (command.Find q))) s
not_kept schema s command.Begin e = refl
not_kept schema s command.Commit e = refl
not_kept schema s command.Abort e = refl
not_kept schema s command.Nothing e = refl

-- the kept commands alone make the session's view
pub kept_played : (schema : Schema) (s : State) (cs : List Command)
    → played schema s (kept_of cs) ≡ played schema s cs
kept_played schema s [] = refl
kept_played schema s (c ∷ cs) = go (is_kept c) refl (λ t. kept_played schema t cs)
  where
    go : (b : Bool) → is_kept c ≡ b
        → ((t : State) → played schema t (kept_of cs) ≡ played schema t cs)
        → played schema s (cond b (c ∷ kept_of cs) (kept_of cs))
        ≡ played schema (next_state schema s c) cs
    go true e same = same (next_state schema s c)
    go false e same = same s ∙ ap (λ (t : State). played schema t cs) (sym (not_kept schema s c e))

-- ---- reading where another session's changes stand

agree_turned : (schema : Schema) (at : Item → Bool) (s t : State) → Agree schema at s t
    → Agree schema at t s
agree_turned schema at s t a = record {
  one = a.other;
  other = a.one;
  files = λ i lt h. sym (a.files i lt h);
  links = λ j lt h. sym (a.links j lt h);
}

not_at : (b : Bool) (m : Mode) → is_exclusive m ≡ true → (b ≡ true → is_exclusive m ≡ false)
    → b ≡ false
not_at true m e clear = absurd (true≢false (sym e ∙ clear refl))
not_at false m e clear = refl

-- Where two lists of commands lock nothing exclusively that the command reads, it answers on the
-- state after the one what it answers on the state after the other.
pub answered_there : (schema : Schema) (kept : State) (cs ds : List Command) (c : Command)
    (text : List ℕ) → IsSized schema kept
    → IsClearOf schema c (held schema cs) → IsClearOf schema c (held schema ds)
    → IsAnswer schema (played schema kept ds) c text
    → IsAnswer schema (played schema kept cs) c text
answered_there schema kept cs ds c text is clear other =
    answer_alike schema at (played schema kept ds) (played schema kept cs)
    (agree_on schema at (played schema kept ds) kept (played schema kept cs)
    (agree_turned schema at kept (played schema kept ds) (there ds other)) (there cs clear))
    c text (λ x h. h)
  where
    at : Item → Bool
    at x = is_held (lock_of schema c x)

    there : (es : List Command) → IsClearOf schema c (held schema es)
        → Agree schema at kept (played schema kept es)
    there es free_of =
        played_elsewhere schema at kept es is
        (λ x i h. not_at (at x) (held schema es x) h (λ e. free_of x i e))

-- ---- who ends a transaction

both_true : (b c : Bool) → (not b && c) ≡ true → (b ≡ false) × (c ≡ true)
both_true true c e = absurd (true≢false (sym e))
both_true false c e = (refl, e)

first_is : (test : ℕ → Bool) (ns : List ℕ) (m : ℕ) → find test ns ≡ Some m
    → In m ns × (test m ≡ true)
first_is test [] m e = absurd cc
first_is test (k ∷ ns) m e = go (test k) refl e (first_is test ns m)
  where
    go : (b : Bool) → test k ≡ b → cond b (Some k) (find test ns) ≡ Some m
        → (find test ns ≡ Some m → In m ns × (test m ≡ true))
        → In m (k ∷ ns) × (test m ≡ true)
    go true at same later =
        let is : k ≡ m = cc in (inl (sym is), subst (λ x. test x ≡ true) is at)
    go false at same later = let rest = later same in (inr rest.0, rest.1)

pub holder_is : (schema : Schema) (p : Sharing) (n : ℕ) (c : Command) (items : List Item) (m : ℕ)
    → holder_among schema p n c items ≡ Some m
    → (x : Item) × In x items × In m sessions × (is_barred schema p n c x m ≡ true)
holder_is schema p n c [] m e = absurd cc
holder_is schema p n c (x ∷ items) m e =
    go (find (is_barred schema p n c x) sessions) refl e (holder_is schema p n c items m)
  where
    go : (r : Option ℕ) → find (is_barred schema p n c x) sessions ≡ r
        → option_or r (holder_among schema p n c items) ≡ Some m
        → (holder_among schema p n c items ≡ Some m
        → (y : Item) × In y items × In m sessions × (is_barred schema p n c y m ≡ true))
        → (y : Item) × In y (x ∷ items) × In m sessions × (is_barred schema p n c y m ≡ true)
    go None at same later = let rest = later same in (rest.0, inr rest.1, rest.2, rest.3)
    go (Some k) at same later =
        let found = first_is (is_barred schema p n c x) sessions m (at ∙ same) in
        (x, inl refl, found.0, found.1)

-- the session that a refusal names holds a lock that doesn't go with one that was wanted
pub ended_by_holder : (schema : Schema) (p : Sharing) (n : ℕ) (c : Command) (m : ℕ)
    → outcome_of schema p n c ≡ ended_by m → IsHolder schema p n c m
ended_by_holder schema p n c m e = go (p.session n) e
  where
    bare : (r : Option ℕ) → refused_by r ≡ ended_by m → r ≡ Some m
    bare None same = absurd cc
    bare (Some k) same = let is : k ≡ m = cc in ap (λ (x : ℕ). Some x) is

    skip : (b : Bool) → cond b answered skipped ≡ ended_by m → ⊥
    skip true same = cc
    skip false same = cc

    go : (s : Session) → outcome_in schema p n c s ≡ ended_by m → IsHolder schema p n c m
    go outside same = absurd cc
    go ended same = absurd (skip (is_nothing c) same)
    go (inside cs) same =
        let h = holder_is schema p n c (items_of schema) m
        (bare (holder_among schema p n c (items_of schema)) same) in
        let parts = both_true (m == n)
        (conflict (holds schema (p.session m) h.0) (lock_of schema c h.0)) h.3 in
        record {
          numbered = h.2;
          other = parts.0;
          item = h.0;
          among = h.1;
          conflicts = parts.1;
        }
