-- What committed is a play: it is kept by each turn.
use Rattle.std.proofs.Common.{◌≡◌, ℕ, List, [], ◌∷◌, ◌++◌, Bool, true, false, Option, Some, None, refl, sym, ap, subst, ◌∙◌, codes, inl, inr, cond}
use Rattle.std.specs.Prelude.{◌==◌, ◌⊎◌}
use Rattle.std.proofs.lemmas.Bool.{true≢false, eq-eqb, ne_eqb, eqb-true, cases_Bool}
use Rattle.std.proofs.lemmas.List.{append-nil}
use Rattle.gx_laws.specs.Members.{In}
use Rattle.gx_schema.specs.declared.schema.Schema.{Schema}
use Rattle.gx_commands.specs.declared.command.Command.{Command}
use Rattle.gx_commands.specs.declared.command.Command.TheVariants as command
use Rattle.gx_commands.specs.declared.command.LineWhy.{LineWhy}
use Rattle.gx_commands.specs.declared.command.LineWhy.TheVariants as why
use Rattle.gx_commands.specs.Commands.{place_reason}
use Rattle.gx_script.specs.Grammar.{IsLineOf}
use Rattle.gx_model.specs.States.{State}
use Rattle.gx_model.specs.Play.{Playing, start_at, after_command, IsAnswered}
use Rattle.gx_model.specs.Runs.{Step}
use Rattle.gx_sharing.specs.Locks.{Item, free, is_held, conflict, lock_of, held, IsItem, items_of}
use Rattle.gx_sharing.specs.Sharing.{is_nothing, Sharing, Session, outside, inside, ended, is_in, sessions, played, holds, holder_among, Outcome, answered, skipped, ended_by, refused_by, outcome_in, outcome_of, session_after, with_session, after_turn, IsSaid, share_start, view_in}
use Rattle.gx_sharing.specs.Turns.{Turn, TurnStep, Shares, ArePlayed, Log, log_start, with_going, going_on, log_answered, log_after, log_of, resting, alone}
use Rattle.gx_sharing.proofs.Modes.{conflict_sym, conflict_free, conflict_join, apart_modes, held_push, no_conflict}
use Rattle.gx_sharing.proofs.Agreement.{IsSized}
use Rattle.gx_sharing.proofs.Carried.{is_control, Kind, begins, commits, aborts, plain, kind_of, plain_answered, plain_after, joined, plain_session, plain_log, played_elsewhere, IsCarriedOn, AreCarriedOn, carried_alike, carried_push, in_play, played_on, carried_played}

-- a session's open transaction, as the log has it: its `begin`, and then the commands that were
-- carried out, with the answers that they have on the last kept state
pub record IsGoing (schema : Schema) (kept : State) (cs : List Command)
    (ts : List Turn) : Type 0 where
  pub first : Turn
  pub rest : List Turn
  pub parts : ts ≡ first ∷ rest
  pub begins_is : IsLineOf schema first.line command.Begin
  pub begun : first.said ≡ codes "begun\n"
  pub are : AreCarriedOn schema kept cs rest

abbrev pub IsLogged : Schema → State → Session → List Turn → Type 0
IsLogged schema kept outside ts = ts ≡ []
IsLogged schema kept (inside cs) ts = IsGoing schema kept cs ts
IsLogged schema kept ended ts = ts ≡ []

-- what two sessions hold goes together
abbrev pub AreApart : Schema → Session → Session → Type 0
AreApart schema a b =
    (x : Item) → IsItem schema x → conflict (holds schema a x) (holds schema b x) ≡ false

-- What committed so far is a play from the start, each open transaction goes on the last kept
-- state, and what the sessions hold goes together.
pub record IsSerial (schema : Schema) (start : State) (log : Log) (p : Sharing) : Type 0 where
  pub sized : IsSized schema p.kept
  pub plays : ArePlayed schema (start_at start) log.committed (resting p)
  pub going : (n : ℕ) → In n sessions → IsLogged schema p.kept (p.session n) (log.going n)
  pub apart : (m n : ℕ) → In m sessions → In n sessions → (m == n) ≡ false
      → AreApart schema (p.session m) (p.session n)

-- ---- one session changes

with_same : {A : Type 0} (f : ℕ → A) (n : ℕ) (x : A) → cond (n == n) x (f n) ≡ x
with_same f n x = ap (λ b. cond b x (f n)) (eq-eqb n n refl)

with_other : {A : Type 0} (f : ℕ → A) (m n : ℕ) (x : A) → (m == n) ≡ false
    → cond (m == n) x (f m) ≡ f m
with_other f m n x e = ap (λ b. cond b x (f m)) e

other_way : (m n : ℕ) → (m == n) ≡ false → (n == m) ≡ false
other_way m n e = ne_eqb n m (λ same. true≢false (sym (eq-eqb m n (sym same)) ∙ e))

apart_sym : (schema : Schema) (a b : Session) → AreApart schema a b → AreApart schema b a
apart_sym schema a b h x is =
    conflict_sym (holds schema b x) (holds schema a x) ∙ h x is

-- the kept states stay, and of the sessions one alone changes
moved : (schema : Schema) (start : State) (log after : Log) (p : Sharing) (n : ℕ) (s : Session)
    → IsSerial schema start log p
    → ArePlayed schema (start_at start) after.committed (resting p)
    → ((m : ℕ) → (m == n) ≡ false → after.going m ≡ log.going m)
    → IsLogged schema p.kept s (after.going n)
    → ((m : ℕ) → In m sessions → (m == n) ≡ false → AreApart schema (p.session m) s)
    → IsSerial schema start after (record p { session = with_session p.session n s })
moved schema start log after p n s is ran others here apart_is = record {
  sized = is.sized;
  plays = ran;
  going = λ m h. elim (cases_Bool (m == n)) [
    | inl e ↦ subst (λ k. IsLogged schema p.kept (with_session p.session n s k) (after.going k))
        (sym (eqb-true m n e))
        (subst (λ (t : Session). IsLogged schema p.kept t (after.going n))
        (sym (with_same p.session n s)) here)
    | inr e ↦ subst (λ (t : Session). IsLogged schema p.kept t (after.going m))
        (sym (with_other p.session m n s e))
        (subst (λ (ts : List Turn). IsLogged schema p.kept (p.session m) ts) (sym (others m e))
        (is.going m h))
  ];
  apart = λ a b ha hb ne. pair a b ha hb ne (cases_Bool (a == n)) (cases_Bool (b == n));
}
  where
    now : ℕ → Session
    now = with_session p.session n s

    at : (a : ℕ) → (a == n) ≡ true → now a ≡ s
    at a e = ap (λ c. cond c s (p.session a)) e

    at_other : (a : ℕ) → (a == n) ≡ false → now a ≡ p.session a
    at_other a e = with_other p.session a n s e

    pair : (a b : ℕ) → In a sessions → In b sessions → (a == b) ≡ false
        → ((a == n) ≡ true) ⊎ ((a == n) ≡ false) → ((b == n) ≡ true) ⊎ ((b == n) ≡ false)
        → AreApart schema (now a) (now b)
    pair a b ha hb ne (inl x) (inl y) =
        absurd (true≢false (sym (eq-eqb a b (eqb-true a n x ∙ sym (eqb-true b n y))) ∙ ne))
    pair a b ha hb ne (inl x) (inr y) =
        subst (λ (t : Session). AreApart schema t (now b)) (sym (at a x))
        (subst (λ (t : Session). AreApart schema s t) (sym (at_other b y))
        (apart_sym schema (p.session b) s (apart_is b hb y)))
    pair a b ha hb ne (inr x) (inl y) =
        subst (λ (t : Session). AreApart schema (now a) t) (sym (at b y))
        (subst (λ (t : Session). AreApart schema t s) (sym (at_other a x)) (apart_is a ha x))
    pair a b ha hb ne (inr x) (inr y) =
        subst (λ (t : Session). AreApart schema (now a) t) (sym (at_other b y))
        (subst (λ (t : Session). AreApart schema t (p.session b)) (sym (at_other a x))
        (is.apart a b ha hb ne))

-- a session that holds nothing goes with each other
apart_free : (schema : Schema) (a b : Session) → ((x : Item) → holds schema b x ≡ free)
    → AreApart schema a b
apart_free schema a b none x is =
    ap (conflict (holds schema a x)) (none x) ∙ conflict_free (holds schema a x)

-- ---- one session commits

-- what committed goes on by the turns of a transaction
commit_played : (schema : Schema) (start : State) (p : Sharing) (before : List Turn)
    (cs : List Command) (first : Turn) (rest : List Turn) (t : Turn) (q : Playing)
    → ArePlayed schema (start_at start) before (resting p)
    → IsLineOf schema first.line command.Begin → first.said ≡ codes "begun\n"
    → AreCarriedOn schema p.kept cs rest
    → Step schema (in_play p (played schema p.kept cs)) t.line t.said q
    → ArePlayed schema (start_at start) (before ++ (first ∷ rest ++ t ∷ [])) q
commit_played schema start p before cs first rest t q ran begins_is begun are step =
    played_on schema (start_at start) (resting p) q before (first ∷ rest ++ t ∷ []) ran whole
  where
    behind : ArePlayed schema (in_play p p.kept) (rest ++ t ∷ []) q
    behind =
        played_on schema (in_play p p.kept) (in_play p (played schema p.kept cs)) q rest (t ∷ [])
        (carried_played schema p p.kept cs rest are) (q, step, refl)

    whole : ArePlayed schema (resting p) (first ∷ rest ++ t ∷ []) q
    whole = (
      in_play p p.kept,
      record {
        command = command.Begin;
        means = begins_is;
        allowed = refl;
        answered = begun;
        next_is = refl;
      },
      behind,
    )

false_of : (b : Bool) → (b ≡ true → ⊥) → b ≡ false
false_of true h = absurd (h refl)
false_of false h = refl

-- no commit of another session changes what an open transaction answers
others_go_on : (schema : Schema) (kept : State) (s : Session) (ts : List Turn) (cs : List Command)
    → IsSized schema kept → AreApart schema s (inside cs) → IsLogged schema kept s ts
    → IsLogged schema (played schema kept cs) s ts
others_go_on schema kept outside ts cs is apart going = going
others_go_on schema kept ended ts cs is apart going = going
others_go_on schema kept (inside ds) ts cs is apart going = record {
  first = going.first;
  rest = going.rest;
  parts = going.parts;
  begins_is = going.begins_is;
  begun = going.begun;
  are = carried_alike schema at kept (played schema kept cs) ds going.rest
      (played_elsewhere schema at kept cs is
      (λ x i h. apart_modes (held schema ds x) (held schema cs x) (apart x i) h))
      (λ x h. h) going.are;
}
  where
    at : Item → Bool
    at x = is_held (held schema ds x)

-- a commit of session n, whose transaction is open with these commands
committed : (schema : Schema) (start : State) (outer : Bool) (log : Log) (p : Sharing) (t : Turn)
    (cs : List Command) → IsSerial schema start log p → In t.session sessions
    → p.session t.session ≡ inside cs → IsLineOf schema t.line command.Commit
    → IsAnswered schema (in_play p (played schema p.kept cs)) command.Commit t.said
    → IsSerial schema start (log_answered outer log t command.Commit)
    (record {
      earlier = p.earlier ++ p.kept ∷ [];
      kept = played schema p.kept cs;
      commits = (after_command schema (in_play p (played schema p.kept cs)) command.Commit).commits;
      session = with_session p.session t.session outside;
    })
committed schema start outer log p t cs is h at_n means said = record {
  sized = (played_elsewhere schema (λ x. false) p.kept cs is.sized (λ x i e. refl)).other;
  plays = subst (λ (ts : List Turn). ArePlayed schema (start_at start) (log.committed ++ ts) after)
      (sym (ap (λ (ts : List Turn). going_on ts t) mine.parts))
      (commit_played schema start p log.committed cs mine.first mine.rest t after is.plays
      mine.begins_is mine.begun mine.are
      (record {
        command = command.Commit;
        means = means;
        allowed = refl;
        answered = said;
        next_is = refl;
      }));
  going = λ m hm. elim (cases_Bool (m == n)) [
    | inl e ↦ subst (λ k. IsLogged schema kept (with_session p.session n outside k)
        (with_going log.going n [] k)) (sym (eqb-true m n e))
        (subst (λ (s : Session). IsLogged schema kept s (with_going log.going n [] n))
        (sym (with_same p.session n outside)) (with_same log.going n []))
    | inr e ↦ subst (λ (s : Session). IsLogged schema kept s (with_going log.going n [] m))
        (sym (with_other p.session m n outside e))
        (subst (λ (ts : List Turn). IsLogged schema kept (p.session m) ts)
        (sym (with_other log.going m n [] e))
        (others_go_on schema p.kept (p.session m) (log.going m) cs is.sized
        (subst (λ (s : Session). AreApart schema (p.session m) s) at_n (is.apart m n hm h e))
        (is.going m hm)))
  ];
  apart = moved_apart;
}
  where
    n : ℕ
    n = t.session

    kept : State
    kept = played schema p.kept cs

    after : Playing
    after = after_command schema (in_play p (played schema p.kept cs)) command.Commit

    mine : IsGoing schema p.kept cs (log.going n)
    mine = subst (λ (s : Session). IsLogged schema p.kept s (log.going n)) at_n (is.going n h)

    moved_apart : (a b : ℕ) → In a sessions → In b sessions → (a == b) ≡ false
        → AreApart schema (with_session p.session n outside a) (with_session p.session n outside b)
    moved_apart = (moved schema start log
        (record log { going = with_going log.going n [] }) p n outside is is.plays
        (λ m e. with_other log.going m n [] e) (with_same log.going n [])
        (λ m hm e. apart_free schema (p.session m) outside (λ x. refl))).apart

-- ---- each turn

answered_not_skipped : ◌≡◌ {A = Outcome} answered skipped → ⊥
answered_not_skipped e = cc

answered_not_ended : (m : ℕ) → ◌≡◌ {A = Outcome} answered (ended_by m) → ⊥
answered_not_ended m e = cc

skipped_not_ended : (m : ℕ) → ◌≡◌ {A = Outcome} skipped (ended_by m) → ⊥
skipped_not_ended m e = cc

none_held : (r : Option ℕ) → answered ≡ refused_by r → r ≡ None
none_held None e = refl
none_held (Some m) e = absurd (answered_not_ended m e)

not_refused : (r : Option ℕ) → skipped ≡ refused_by r → ⊥
not_refused None e = answered_not_skipped (sym e)
not_refused (Some m) e = skipped_not_ended m e

some_not_none : (why : LineWhy) → ◌≡◌ {A = Option LineWhy} (Some why) None → ⊥
some_not_none why e = cc

not_ended : (b : Bool) (m : ℕ) → ended_by m ≡ cond b answered skipped → ⊥
not_ended true m e = answered_not_ended m (sym e)
not_ended false m e = skipped_not_ended m (sym e)

is_answered : (b : Bool) → answered ≡ cond b answered skipped → b ≡ true
is_answered true e = refl
is_answered false e = absurd (answered_not_skipped e)

-- an empty line may stand outside
nothing_outside : (c : Command) → is_nothing c ≡ true → place_reason false c ≡ None
nothing_outside command.Nothing e = refl
nothing_outside command.Begin e = refl
nothing_outside (command.Get f key) e = refl
nothing_outside (command.Members l owner order) e = refl
nothing_outside (command.Owner l member) e = refl
nothing_outside (command.Find q) e = refl
nothing_outside command.Commit e = absurd (true≢false (sym e))
nothing_outside command.Abort e = absurd (true≢false (sym e))
nothing_outside (command.Insert f values) e = absurd (true≢false (sym e))
nothing_outside (command.Update f key changes) e = absurd (true≢false (sym e))
nothing_outside (command.Delete f key) e = absurd (true≢false (sym e))
nothing_outside (command.Connect l owner member) e = absurd (true≢false (sym e))
nothing_outside (command.Disconnect l member) e = absurd (true≢false (sym e))
nothing_outside (command.ReorganizeFile f) e = absurd (true≢false (sym e))
nothing_outside (command.ReorganizeLink l) e = absurd (true≢false (sym e))

module _ (schema : Schema) (start : State) (outer : Bool) (log : Log) (p : Sharing) (t : Turn)
    (is : IsSerial schema start log p) (h : In t.session sessions) where
  -- only the session of the turn changes, and its transaction, if any, is over
  over : (after : Log) (s : Session) → ((x : Item) → holds schema s x ≡ free)
      → ArePlayed schema (start_at start) after.committed (resting p)
      → ((m : ℕ) → (m == t.session) ≡ false → after.going m ≡ log.going m)
      → IsLogged schema p.kept s (after.going t.session)
      → IsSerial schema start after (record p { session = with_session p.session t.session s })
  over after s none ran others here =
      moved schema start log after p t.session s is ran others here
      (λ m hm e. apart_free schema (p.session m) s none)

  abbrev gone : Log
  gone = record log { going = with_going log.going t.session [] }

  left : (s : Session) → ((x : Item) → holds schema s x ≡ free)
      → IsLogged schema p.kept s []
      → IsSerial schema start gone (record p { session = with_session p.session t.session s })
  left s none here =
      over gone s none is.plays (λ m e. with_other log.going m t.session [] e)
      (subst (λ (ts : List Turn). IsLogged schema p.kept s ts)
      (sym (with_same log.going t.session [])) here)

  -- `begin` outside
  begun_step : IsLineOf schema t.line command.Begin → t.said ≡ codes "begun\n"
      → IsSerial schema start (record log { going = with_going log.going t.session (t ∷ []) })
      (record p { session = with_session p.session t.session (inside []) })
  begun_step means said =
      over (record log { going = with_going log.going t.session (t ∷ []) }) (inside []) (λ x. refl)
      is.plays (λ m e. with_other log.going m t.session (t ∷ []) e)
      (subst (λ (ts : List Turn). IsLogged schema p.kept (inside []) ts)
      (sym (with_same log.going t.session (t ∷ [])))
      (record {
        first = t;
        rest = [];
        parts = refl;
        begins_is = means;
        begun = said;
        are = tt;
      }))

  abbrev going_log : Log
  going_log = record {
    going = with_going log.going t.session (going_on (log.going t.session) t);
    committed = log.committed ++ alone outer (log.going t.session) t;
  }

  none_alone : (o : Bool) (first : Turn) (rest : List Turn)
      → log.committed ++ alone o (first ∷ rest) t ≡ log.committed
  none_alone true first rest = append-nil log.committed
  none_alone false first rest = append-nil log.committed

  same_plays : (ts : List Turn) → ts ≡ log.committed
      → ArePlayed schema (start_at start) ts (resting p)
  same_plays ts e = subst (λ (us : List Turn). ArePlayed schema (start_at start) us (resting p))
      (sym e) is.plays

  -- what committed goes on by a turn outside
  alone_played : (o : Bool) → Step schema (resting p) t.line t.said (resting p)
      → ArePlayed schema (start_at start) (log.committed ++ alone o [] t) (resting p)
  alone_played false step = same_plays (log.committed ++ []) (append-nil log.committed)
  alone_played true step =
      played_on schema (start_at start) (resting p) (resting p) log.committed (t ∷ []) is.plays
      (resting p, step, refl)

  -- a command that was carried out in an open transaction
  carried_step : (cs : List Command) (c : Command) → p.session t.session ≡ inside cs
      → holder_among schema p t.session c (items_of schema) ≡ None
      → IsCarriedOn schema (played schema p.kept cs) c t
      → IsSerial schema start going_log
      (record p { session = with_session p.session t.session (inside (cs ++ c ∷ [])) })
  carried_step cs c at_n free_is carried =
      moved schema start log going_log p t.session (inside (cs ++ c ∷ [])) is
      (same_plays going_log.committed
      (ap (λ (ts : List Turn). log.committed ++ alone outer ts t) mine.parts
      ∙ none_alone outer mine.first mine.rest))
      (λ m e. with_other log.going m t.session (going_on (log.going t.session) t) e)
      (subst (λ (ts : List Turn). IsLogged schema p.kept (inside (cs ++ c ∷ [])) ts)
      (sym (with_same log.going t.session (going_on (log.going t.session) t)))
      (record {
        first = mine.first;
        rest = mine.rest ++ t ∷ [];
        parts = ap (λ (ts : List Turn). going_on ts t) mine.parts;
        begins_is = mine.begins_is;
        begun = mine.begun;
        are = carried_push schema p.kept cs mine.rest c t mine.are carried;
      }))
      (λ m hm e x i.
      ap (conflict (holds schema (p.session m) x)) (held_push schema cs c x)
      ∙ conflict_join (holds schema (p.session m) x) (held schema cs x) (lock_of schema c x)
      (subst (λ (s : Session). conflict (holds schema (p.session m) x) (holds schema s x) ≡ false)
      at_n (is.apart m t.session hm h e x i))
      (no_conflict schema p t.session c free_is m hm e x i))
    where
      mine : IsGoing schema p.kept cs (log.going t.session)
      mine = subst (λ (s : Session). IsLogged schema p.kept s (log.going t.session)) at_n
          (is.going t.session h)

  -- a command outside, or an empty line of a session whose transaction was ended: nothing changes
  still : (s : Session) → p.session t.session ≡ s → log.going t.session ≡ []
      → Step schema (resting p) t.line t.said (resting p)
      → IsSerial schema start going_log
      (record p { session = with_session p.session t.session s })
  still s at_n none step =
      moved schema start log going_log p t.session s is
      (subst (λ (ts : List Turn). ArePlayed schema (start_at start)
      (log.committed ++ alone outer ts t) (resting p)) (sym none)
      (alone_played outer step))
      (λ m e. with_other log.going m t.session (going_on (log.going t.session) t) e)
      (subst (λ (ts : List Turn). IsLogged schema p.kept s ts)
      (sym (with_same log.going t.session (going_on (log.going t.session) t)
      ∙ ap (λ (ts : List Turn). going_on ts t) none ∙ sym none))
      (subst (λ (u : Session). IsLogged schema p.kept u (log.going t.session)) at_n
      (is.going t.session h)))
      (λ m hm e. subst (λ (u : Session). AreApart schema (p.session m) u) at_n
      (is.apart m t.session hm h e))

  logged_at : (s : Session) → p.session t.session ≡ s
      → IsLogged schema p.kept s (log.going t.session)
  logged_at s at_n =
      subst (λ (u : Session). IsLogged schema p.kept u (log.going t.session)) at_n
      (is.going t.session h)

  -- the play as a session sees it that stands so
  abbrev play_in : Session → Playing
  play_in s = record {
    earlier = p.earlier;
    kept = p.kept;
    working = view_in schema p.kept s;
    commits = p.commits;
  }

  abbrev after_in : Session → Command → Sharing
  after_in s c =
      let q = after_command schema (play_in s) c in
      record {
        earlier = q.earlier;
        kept = q.kept;
        commits = q.commits;
        session = with_session p.session t.session (session_after s c);
      }

  after_plain : (s : Session) (c : Command) → is_control c ≡ false
      → after_in s c ≡ record p { session = with_session p.session t.session (joined s c) }
  after_plain s c e =
      let one = plain_after schema (play_in s) c e in
      let two = plain_session s c e in
      λ i. record {
        earlier = (one i).earlier;
        kept = (one i).kept;
        commits = (one i).commits;
        session = with_session p.session t.session (two i);
      }

  -- a command outside is a step that changes nothing
  outer_step : (c : Command) → is_control c ≡ false → IsLineOf schema t.line c
      → place_reason false c ≡ None → IsAnswered schema (resting p) c t.said
      → Step schema (resting p) t.line t.said (resting p)
  outer_step c e means place said = record {
    command = c;
    means = means;
    allowed = place;
    answered = said;
    next_is = sym (plain_after schema (resting p) c e);
  }

  plain_kept : (s : Session) (c : Command) → p.session t.session ≡ s → is_control c ≡ false
      → IsLineOf schema t.line c → place_reason (is_in s) c ≡ None
      → answered ≡ outcome_in schema p t.session c s
      → IsAnswered schema (play_in s) c t.said
      → IsSerial schema start going_log
      (record p { session = with_session p.session t.session (joined s c) })
  plain_kept outside c at_n e means place out said =
      still outside at_n (logged_at outside at_n) (outer_step c e means place said)
  plain_kept ended c at_n e means place out said =
      still ended at_n (logged_at ended at_n)
      (outer_step c e means (nothing_outside c (is_answered (is_nothing c) out)) said)
  plain_kept (inside cs) c at_n e means place out said =
      carried_step cs c at_n (none_held (holder_among schema p t.session c (items_of schema)) out)
      (record {
        means = means;
        plain_is = e;
        answered_is = subst (λ (F : List ℕ → Type 0). F t.said)
            (plain_answered schema (play_in (inside cs)) c e) said;
      })

  answered_kept : (s : Session) (c : Command) → p.session t.session ≡ s → Kind c
      → IsLineOf schema t.line c → place_reason (is_in s) c ≡ None
      → answered ≡ outcome_in schema p t.session c s → IsAnswered schema (play_in s) c t.said
      → IsSerial schema start (log_answered outer log t c) (after_in s c)
  answered_kept outside command.Begin at_n begins means place out said = begun_step means said
  answered_kept (inside cs) command.Begin at_n begins means place out said =
      absurd (some_not_none why.InTransaction place)
  answered_kept ended command.Begin at_n begins means place out said =
      absurd (some_not_none why.InTransaction place)
  answered_kept outside command.Commit at_n commits means place out said =
      absurd (some_not_none why.NoTransaction place)
  answered_kept (inside cs) command.Commit at_n commits means place out said =
      committed schema start outer log p t cs is h at_n means said
  answered_kept ended command.Commit at_n commits means place out said =
      absurd (answered_not_skipped out)
  answered_kept outside command.Abort at_n aborts means place out said =
      absurd (some_not_none why.NoTransaction place)
  answered_kept (inside cs) command.Abort at_n aborts means place out said =
      left outside (λ x. refl) refl
  answered_kept ended command.Abort at_n aborts means place out said =
      absurd (answered_not_skipped out)
  answered_kept s c at_n (plain e) means place out said =
      subst (λ (l : Log). IsSerial schema start l (after_in s c)) (sym (plain_log outer log t c e))
      (subst (λ (q : Sharing). IsSerial schema start going_log q) (sym (after_plain s c e))
      (plain_kept s c at_n e means place out said))

  abbrev passed : Session → Command → Sharing
  passed s c = record p { session = with_session p.session t.session (session_after s c) }

  skipped_kept : (s : Session) (c : Command) → p.session t.session ≡ s → Kind c
      → place_reason (is_in s) c ≡ None → skipped ≡ outcome_in schema p t.session c s
      → IsSerial schema start log (passed s c)
  skipped_kept outside c at_n kind place out = absurd (answered_not_skipped (sym out))
  skipped_kept (inside cs) c at_n kind place out =
      absurd (not_refused (holder_among schema p t.session c (items_of schema)) out)
  skipped_kept ended command.Begin at_n begins place out =
      absurd (some_not_none why.InTransaction place)
  skipped_kept ended command.Commit at_n commits place out =
      over log outside (λ x. refl) is.plays (λ m e. refl) (logged_at ended at_n)
  skipped_kept ended command.Abort at_n aborts place out =
      over log outside (λ x. refl) is.plays (λ m e. refl) (logged_at ended at_n)
  skipped_kept ended c at_n (plain e) place out =
      subst (λ (s : Session). IsSerial schema start log
      (record p { session = with_session p.session t.session s })) (sym (plain_session ended c e))
      (over log ended (λ x. refl) is.plays (λ m e. refl) (logged_at ended at_n))

  ended_kept : (s : Session) (c : Command) (m : ℕ)
      → ended_by m ≡ outcome_in schema p t.session c s
      → IsSerial schema start gone (record p { session = with_session p.session t.session ended })
  ended_kept s c m out = left ended (λ x. refl) refl

  by_outcome : (o : Outcome) → IsLineOf schema t.line t.command
      → place_reason (is_in (p.session t.session)) t.command ≡ None
      → o ≡ outcome_of schema p t.session t.command
      → IsSaid schema p t.session t.command o t.said
      → IsSerial schema start (log_after outer log t o) (after_turn schema p t.session t.command o)
  by_outcome answered means place out said =
      answered_kept (p.session t.session) t.command refl (kind_of t.command) means place out said
  by_outcome skipped means place out said =
      skipped_kept (p.session t.session) t.command refl (kind_of t.command) place out
  by_outcome (ended_by m) means place out said =
      ended_kept (p.session t.session) t.command m out

-- a turn keeps it
pub step_kept : (schema : Schema) (start : State) (outer : Bool) (log : Log) (p next : Sharing)
    (t : Turn) → IsSerial schema start log p → TurnStep schema p t next
    → IsSerial schema start (log_after outer log t t.outcome) next
step_kept schema start outer log p next t is step =
    subst (λ (q : Sharing). IsSerial schema start (log_after outer log t t.outcome) q)
    (sym step.next_is)
    (by_outcome schema start outer log p t is step.numbered t.outcome step.means step.allowed
    step.outcome_is step.said_is)

-- ---- turns one after another

pub shares_kept : (schema : Schema) (start : State) (outer : Bool) (log : Log) (p final : Sharing)
    (ts : List Turn) → IsSerial schema start log p → Shares schema p ts final
    → IsSerial schema start (log_of outer log ts) final
shares_kept schema start outer log p final [] is same =
    subst (λ (q : Sharing). IsSerial schema start log q) (sym same) is
shares_kept schema start outer log p final (t ∷ ts) is (next, step, rest) =
    shares_kept schema start outer (log_after outer log t t.outcome) next final ts
    (step_kept schema start outer log p next t is step) rest

-- it holds at the start
pub serial_start : (schema : Schema) (s : State) → IsSized schema s
    → IsSerial schema s log_start (share_start s)
serial_start schema s is = record {
  sized = is;
  plays = refl;
  going = λ n h. refl;
  apart = λ m n hm hn e x i. refl;
}

pub what_counts : (schema : Schema) (s : State) (outer : Bool) (ts : List Turn) (final : Sharing)
    → IsSized schema s → Shares schema (share_start s) ts final
    → ArePlayed schema (start_at s) (log_of outer log_start ts).committed (resting final)
what_counts schema s outer ts final is shares =
    (shares_kept schema s outer log_start (share_start s) final ts (serial_start schema s is)
    shares).plays
