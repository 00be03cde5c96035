-- A session goes on by a command.
use Rattle.std.proofs.Common.{◌≡◌, ℕ, ◌+◌, ◌<◌, ◌≤◌, ◌⊎◌, List, [], ◌∷◌, ◌++◌, length, get_or, set, Bool, true, false, cond, Option, Some, None, refl, sym, ap, subst, ◌∙◌, arith, inl, inr}
use Rattle.std.proofs.lemmas.Bool.{true≢false, cases_lt}
use Rattle.std.proofs.lemmas.List.{append-nil, get_or_append_left, get_or_push, get_or-set_other, length-append}
use Rattle.std.proofs.lemmas.Grind.{get_or-set_at}
use Rattle.gx_schema.specs.declared.schema.Schema.{Schema}
use Rattle.gx_commands.specs.declared.command.Command.{Command}
use Rattle.gx_commands.specs.declared.command.Command.TheVariants as command
use Rattle.gx_commands.specs.Commands.{IsOfSchema, inside_after}
use Rattle.gx_sharing.specs.Locks.{Item, Mode, free, shared, exclusive, conflict, stronger, lock_of}
use Rattle.gx_sharing.specs.Kept.{is_kept, kept_of}
use Rattle.gx_sharing.specs.Sharing.{Session, outside, inside, ended, session_after}
use Rattle.gx_sharing.proofs.Modes.{held_push}
use Rattle.gx_sharing.proofs.Carried.{is_control, Kind, begins, commits, aborts, plain, kind_of}
use Rattle.gx_sessions.specs.declared.locks.Lock.{Lock}
use Rattle.gx_sessions.specs.declared.session.SessionState.{SessionState}
use Rattle.gx_sessions.specs.declared.session.Standing.{Standing}
use Rattle.gx_sessions.specs.declared.session.Standing.TheVariants.{Outside}
use Rattle.gx_sessions.specs.declared.locks.Lock.TheVariants.{Free}
use Rattle.gx_sessions.specs.Places.{mode_of, item_at}
use Rattle.gx_sessions.specs.Standings.{bare, is_within, standing_after, lock_in, IsSession, AreKept, AreStronger}

-- ---- after a command

abbrev standing_or : Standing → Option Standing → Standing
standing_or d None = d
standing_or d (Some s) = s

plain_standing : (c : Command) → is_control c ≡ false → standing_after c ≡ None
plain_standing command.Begin e = absurd (true≢false e)
plain_standing command.Commit e = absurd (true≢false e)
plain_standing command.Abort e = absurd (true≢false e)
plain_standing (command.Insert f values) e = refl
plain_standing (command.Get f key) e = refl
plain_standing (command.Update f key changes) e = refl
plain_standing (command.Delete f key) e = refl
plain_standing (command.Connect l owner member) e = refl
plain_standing (command.Disconnect l member) e = refl
plain_standing (command.Members l owner order) e = refl
plain_standing (command.Owner l member) e = refl
plain_standing (command.Find q) e = refl
plain_standing (command.ReorganizeFile f) e = refl
plain_standing (command.ReorganizeLink l) e = refl
plain_standing command.Nothing e = refl

some_not_none : (s : Standing) → ◌≡◌ {A = Option Standing} None (Some s) → ⊥
some_not_none s e = cc

begun : (s : Session) → session_after s command.Begin ≡ inside []
begun outside = refl
begun (inside cs) = refl
begun ended = refl

committed : (s : Session) → session_after s command.Commit ≡ outside
committed outside = refl
committed (inside cs) = refl
committed ended = refl

aborted : (s : Session) → session_after s command.Abort ≡ outside
aborted outside = refl
aborted (inside cs) = refl
aborted ended = refl

-- after one that begins a transaction or ends it
pub after_control : (s : Session) (c : Command) (standing : Standing)
    → standing_after c ≡ Some standing → session_after s c ≡ bare standing
after_control s c standing e = go c (kind_of c) e
  where
    go : (d : Command) → Kind d → standing_after d ≡ Some standing
        → session_after s d ≡ bare standing
    go command.Begin begins same =
        begun s ∙ ap (λ (o : Option Standing). bare (standing_or Outside o)) same
    go command.Commit commits same =
        committed s ∙ ap (λ (o : Option Standing). bare (standing_or Outside o)) same
    go command.Abort aborts same =
        aborted s ∙ ap (λ (o : Option Standing). bare (standing_or Outside o)) same
    go d (plain h) same = absurd (some_not_none standing (sym (plain_standing d h) ∙ same))

pub plain_inside : (b : Bool) (c : Command) → is_control c ≡ false → inside_after b c ≡ b
plain_inside b command.Begin e = absurd (true≢false e)
plain_inside b command.Commit e = absurd (true≢false e)
plain_inside b command.Abort e = absurd (true≢false e)
plain_inside b (command.Insert f values) e = refl
plain_inside b (command.Get f key) e = refl
plain_inside b (command.Update f key changes) e = refl
plain_inside b (command.Delete f key) e = refl
plain_inside b (command.Connect l owner member) e = refl
plain_inside b (command.Disconnect l member) e = refl
plain_inside b (command.Members l owner order) e = refl
plain_inside b (command.Owner l member) e = refl
plain_inside b (command.Find q) e = refl
plain_inside b (command.ReorganizeFile f) e = refl
plain_inside b (command.ReorganizeLink l) e = refl
plain_inside b command.Nothing e = refl

none_not_some : (s : Standing) → ◌≡◌ {A = Option Standing} (Some s) None → ⊥
none_not_some s e = cc

-- whether it is in a transaction after one that begins it or ends it
pub control_within : (b : Bool) (c : Command) (standing : Standing)
    → standing_after c ≡ Some standing → is_within standing ≡ inside_after b c
control_within b c standing e = go c (kind_of c) e
  where
    go : (d : Command) → Kind d → standing_after d ≡ Some standing
        → is_within standing ≡ inside_after b d
    go command.Begin begins same =
        sym (ap (λ (o : Option Standing). is_within (standing_or Outside o)) same)
    go command.Commit commits same =
        sym (ap (λ (o : Option Standing). is_within (standing_or Outside o)) same)
    go command.Abort aborts same =
        sym (ap (λ (o : Option Standing). is_within (standing_or Outside o)) same)
    go d (plain h) same = absurd (some_not_none standing (sym (plain_standing d h) ∙ same))

-- and after another
pub same_within : (b : Bool) (c : Command) → standing_after c ≡ None → inside_after b c ≡ b
same_within b c e = go c (kind_of c) e
  where
    go : (d : Command) → Kind d → standing_after d ≡ None → inside_after b d ≡ b
    go command.Begin begins same = absurd (none_not_some _ same)
    go command.Commit commits same = absurd (none_not_some _ same)
    go command.Abort aborts same = absurd (none_not_some _ same)
    go d (plain h) same = plain_inside b d h

-- a command that wants a lock begins no transaction and ends none
pub wanting_plain : (schema : Schema) (c : Command) (x : Item)
    → (lock_of schema c x ≡ free → ⊥) → standing_after c ≡ None
wanting_plain schema c x wants = go c (kind_of c) wants
  where
    go : (d : Command) → Kind d → (lock_of schema d x ≡ free → ⊥) → standing_after d ≡ None
    go command.Begin begins want = absurd (want refl)
    go command.Commit commits want = absurd (want refl)
    go command.Abort aborts want = absurd (want refl)
    go d (plain h) want = plain_standing d h

conflict_free : (m : Mode) → conflict m free ≡ true → ⊥
conflict_free free e = true≢false (sym e)
conflict_free shared e = true≢false (sym e)
conflict_free exclusive e = true≢false (sym e)

-- nothing conflicts with a lock that isn't wanted
pub conflict_wants : (m wanted : Mode) → conflict m wanted ≡ true → wanted ≡ free → ⊥
conflict_wants m wanted is none = conflict_free m (ap (conflict m) (sym none) ∙ is)

-- ---- what is kept

pub kept_push : (cs : List Command) (c : Command)
    → kept_of (cs ++ c ∷ []) ≡ kept_of cs ++ kept_of (c ∷ [])
kept_push [] c = refl
kept_push (d ∷ cs) c = go (is_kept d) (kept_push cs c)
  where
    go : (b : Bool) → kept_of (cs ++ c ∷ []) ≡ kept_of cs ++ kept_of (c ∷ [])
        → cond b (d ∷ kept_of (cs ++ c ∷ [])) (kept_of (cs ++ c ∷ []))
        ≡ cond b (d ∷ kept_of cs) (kept_of cs) ++ kept_of (c ∷ [])
    go true e = ap (λ (es : List Command). d ∷ es) e
    go false e = e

pub kept_more : (schema : Schema) (cs : List Command) (c : Command) → AreKept schema cs
    → IsOfSchema schema c → AreKept schema (cs ++ kept_of (c ∷ []))
kept_more schema cs c are of_schema = go (is_kept c) refl
  where
    at : (b : Bool) → is_kept c ≡ b → (i : ℕ) → i < length (cs ++ c ∷ [])
        → (i < length cs) ⊎ (length cs ≤ i) → is_kept c ≡ true
        → IsOfSchema schema (get_or (cs ++ c ∷ []) i command.Nothing)
        × (is_kept (get_or (cs ++ c ∷ []) i command.Nothing) ≡ true)
    at b e i lt (inl front) keeps =
        subst (λ (d : Command). IsOfSchema schema d × (is_kept d ≡ true))
        (sym (get_or_append_left cs (c ∷ []) command.Nothing i front)) (are i front)
    at b e i lt (inr last) keeps =
        let long : length (cs ++ c ∷ []) ≡ length cs + 1 = length-append cs (c ∷ []) in
        subst (λ (d : Command). IsOfSchema schema d × (is_kept d ≡ true))
        (sym (get_or_push cs c command.Nothing i (omega (arith, lt, last, long)))) (
          of_schema,
          keeps,
        )

    go : (b : Bool) → is_kept c ≡ b → AreKept schema (cs ++ cond b (c ∷ []) [])
    go true e = λ i lt. at true e i lt (cases_lt i (length cs)) e
    go false e = subst (AreKept schema) (sym (append-nil cs)) are

-- a transaction goes on by a command
pub went_on : (schema : Schema) (cs : List Command) (c : Command) (old new : SessionState)
    → IsSession schema (inside cs) old → new.standing ≡ old.standing
    → new.kept.items ≡ old.kept.items ++ kept_of (c ∷ [])
    → AreStronger schema c old.locks.items new.locks.items
    → IsSession schema (inside (cs ++ c ∷ [])) new
went_on schema cs c old new is standing kept locks = record {
  standing = standing ∙ is.standing;
  kept = kept ∙ ap (λ (es : List Command). es ++ kept_of (c ∷ [])) is.kept ∙ sym (kept_push cs c);
  locks = λ i lt.
      locks.each i (omega (arith, lt, locks.many))
      ∙ ap (λ m. stronger m (lock_of schema c (item_at schema i)))
      (is.locks i (omega (arith, lt, locks.many)))
      ∙ sym (held_push schema cs c (item_at schema i));
}

-- ---- locks, one after the other

module _ (schema : Schema) (c : Command) (old locks : List Lock) (place : ℕ) (x : Lock)
    (many : length locks ≡ length old) (lt : place < length old) where
  pub stronger_behind : ((i : ℕ) → i < place → mode_of (lock_in locks i)
      ≡ stronger (mode_of (lock_in old i)) (lock_of schema c (item_at schema i)))
      → ((i : ℕ) → place ≤ i → lock_in locks i ≡ lock_in old i)
      → mode_of x ≡ stronger (mode_of (lock_in locks place)) (lock_of schema c (item_at schema
      place))
      → (i : ℕ) → i < place + 1 → mode_of (lock_in (set locks place x) i)
      ≡ stronger (mode_of (lock_in old i)) (lock_of schema c (item_at schema i))
  stronger_behind behind ahead is i within = elim (cases_lt i place) [
    | inl before ↦ ap mode_of (get_or-set_other locks place i x Free (omega (arith, before)))
        ∙ behind i before
    | inr after ↦
        let e : i ≡ place = omega (arith, within, after) in
        ap mode_of (get_or-set_at locks place i x Free e (omega (arith, lt, many)))
        ∙ is ∙ ap (λ l. stronger (mode_of l) (lock_of schema c (item_at schema place)))
        (ahead place (omega arith))
        ∙ ap (λ k. stronger (mode_of (lock_in old k)) (lock_of schema c (item_at schema k))) (sym e)
  ]

  pub stronger_ahead : ((i : ℕ) → place ≤ i → lock_in locks i ≡ lock_in old i)
      → (i : ℕ) → place + 1 ≤ i → lock_in (set locks place x) i ≡ lock_in old i
  stronger_ahead ahead i past =
      get_or-set_other locks place i x Free (omega (arith, past)) ∙ ahead i (omega (arith, past))
