-- Good lines of turns are played, whatever state they are played from.
use Rattle.std.proofs.Common.{◌≡◌, ℕ, ◌+◌, List, [], ◌∷◌, ◌++◌, length, Bool, true, false, Option, Some, None, Result, Ok, Err, refl, sym, ap, ◌∙◌, inl, inr}
use Rattle.std.specs.Prelude.{◌==◌, ◌&&◌, not, find, if◌then◌else◌}
use Rattle.std.specs.List.{list_any}
use Rattle.std.specs.Option.{option_or}
use Rattle.gx_schema.specs.declared.schema.Schema.{Schema}
use Rattle.gx_commands.specs.declared.command.Command.{Command}
use Rattle.gx_commands.specs.declared.command.Command.TheVariants as command
use Rattle.gx_commands.specs.Commands.{inside_after, place_reason}
use Rattle.gx_commands.specs.declared.command.LineWhy.{LineWhy}
use Rattle.gx_commands.specs.Lines.{script_lines}
use Rattle.gx_model.specs.Languages.{RunsIn, IsEndIn, IsPlayIn, AreFirstLines}
use Rattle.gx_model.specs.Play.{End, good, stopped, end_at}
use Rattle.gx_model.specs.States.{State}
use Rattle.gx_sharing.specs.Locks.{Item, file, link, Mode, free, shared, exclusive, conflict, lock_of, items_of}
use Rattle.gx_sharing.specs.Sharing.{Sharing, Session, outside, inside, ended, is_in, sessions, holds, is_barred, holder_among, Outcome, answered, skipped, ended_by, refused_by, is_nothing, outcome_in, outcome_of, session_after, after_turn, share_start}
use Rattle.gx_sharing.specs.Texts.{turns}
use Rattle.gx_sharing.specs.Turns.{Turn}
use Rattle.gx_shares.specs.Ends.{within_after, turn_lines, IsShareEnd}
use Rattle.gx_top.proofs.SharedLemmas.{turn_goes_on}

-- ---- a command without locks isn't barred

no_conflict : (m : Mode) → conflict m free ≡ false
no_conflict free = refl
no_conflict shared = refl
no_conflict exclusive = refl

and_false : (b : Bool) → (b && false) ≡ false
and_false true = refl
and_false false = refl

find_none : (f : ℕ → Bool) (ns : List ℕ) → ((n : ℕ) → f n ≡ false) → find f ns ≡ None
find_none f [] none = refl
find_none f (n ∷ ns) none =
    (λ i. if none n i then Some n else find f ns) ∙ find_none f ns none

module _ (schema : Schema) (p : Sharing) (n : ℕ) (c : Command)
    (unlocked : (item : Item) → lock_of schema c item ≡ free) where
  not_barred : (item : Item) (m : ℕ) → is_barred schema p n c item m ≡ false
  not_barred item m =
      ap (λ k. not (m == n) && conflict (holds schema (p.session m) item) k) (unlocked item)
      ∙ ap (λ b. not (m == n) && b) (no_conflict (holds schema (p.session m) item))
      ∙ and_false (not (m == n))

  no_holder : (items : List Item) → holder_among schema p n c items ≡ None
  no_holder [] = refl
  no_holder (item ∷ items) =
      ap (λ o. option_or o (holder_among schema p n c items))
      (find_none (is_barred schema p n c item) sessions (not_barred item)) ∙ no_holder items

commit_free : (schema : Schema) (item : Item) → lock_of schema command.Commit item ≡ free
commit_free schema (file i) = refl
commit_free schema (link j) = refl

abort_free : (schema : Schema) (item : Item) → lock_of schema command.Abort item ≡ free
abort_free schema (file i) = refl
abort_free schema (link j) = refl

-- ---- whether a session is in a transaction behind its turn

answered_or_ended : (m : ℕ) → ◌≡◌ {A = Outcome} answered (ended_by m) → ⊥
answered_or_ended m e = cc

-- a turn that is ended is no end of a transaction
stays_in : (schema : Schema) (p : Sharing) (n : ℕ) (c : Command) (m : ℕ)
    → refused_by (holder_among schema p n c (items_of schema)) ≡ ended_by m
    → inside_after true c ≡ true
stays_in schema p n command.Commit m is =
    absurd (answered_or_ended m (ap refused_by (sym (no_holder schema p n command.Commit
    (commit_free schema) (items_of schema))) ∙ is))
stays_in schema p n command.Abort m is =
    absurd (answered_or_ended m (ap refused_by (sym (no_holder schema p n command.Abort
    (abort_free schema) (items_of schema))) ∙ is))
stays_in schema p n command.Begin m is = refl
stays_in schema p n (command.Insert f values) m is = refl
stays_in schema p n (command.Get f key) m is = refl
stays_in schema p n (command.Update f key changes) m is = refl
stays_in schema p n (command.Delete f key) m is = refl
stays_in schema p n (command.Connect l owner member) m is = refl
stays_in schema p n (command.Disconnect l member) m is = refl
stays_in schema p n (command.Members l owner order) m is = refl
stays_in schema p n (command.Owner l member) m is = refl
stays_in schema p n (command.Find q) m is = refl
stays_in schema p n (command.ReorganizeFile f) m is = refl
stays_in schema p n (command.ReorganizeLink l) m is = refl
stays_in schema p n command.Nothing m is = refl

in_after : (s : Session) (c : Command) → is_in (session_after s c) ≡ inside_after (is_in s) c
in_after s command.Begin = refl
in_after s command.Commit = refl
in_after s command.Abort = refl
in_after outside (command.Insert f values) = refl
in_after (inside cs) (command.Insert f values) = refl
in_after ended (command.Insert f values) = refl
in_after outside (command.Get f key) = refl
in_after (inside cs) (command.Get f key) = refl
in_after ended (command.Get f key) = refl
in_after outside (command.Update f key changes) = refl
in_after (inside cs) (command.Update f key changes) = refl
in_after ended (command.Update f key changes) = refl
in_after outside (command.Delete f key) = refl
in_after (inside cs) (command.Delete f key) = refl
in_after ended (command.Delete f key) = refl
in_after outside (command.Connect l owner member) = refl
in_after (inside cs) (command.Connect l owner member) = refl
in_after ended (command.Connect l owner member) = refl
in_after outside (command.Disconnect l member) = refl
in_after (inside cs) (command.Disconnect l member) = refl
in_after ended (command.Disconnect l member) = refl
in_after outside (command.Members l owner order) = refl
in_after (inside cs) (command.Members l owner order) = refl
in_after ended (command.Members l owner order) = refl
in_after outside (command.Owner l member) = refl
in_after (inside cs) (command.Owner l member) = refl
in_after ended (command.Owner l member) = refl
in_after outside (command.Find q) = refl
in_after (inside cs) (command.Find q) = refl
in_after ended (command.Find q) = refl
in_after outside (command.ReorganizeFile f) = refl
in_after (inside cs) (command.ReorganizeFile f) = refl
in_after ended (command.ReorganizeFile f) = refl
in_after outside (command.ReorganizeLink l) = refl
in_after (inside cs) (command.ReorganizeLink l) = refl
in_after ended (command.ReorganizeLink l) = refl
in_after outside command.Nothing = refl
in_after (inside cs) command.Nothing = refl
in_after ended command.Nothing = refl

by_test : (b : Bool) (s t : Session)
    → is_in (if b then s else t) ≡ (if b then is_in s else is_in t)
by_test true s t = refl
by_test false s t = refl

module _ (schema : Schema) (p : Sharing) (n : ℕ) (c : Command) where
  abbrev Behind : Outcome → ℕ → Type 0
  Behind o m = is_in ((after_turn schema p n c o).session m)
      ≡ within_after (λ k. is_in (p.session k)) n c m

  -- the session goes on by its command
  moves : (m : ℕ)
      → is_in (if m == n then session_after (p.session n) c else p.session m)
      ≡ within_after (λ k. is_in (p.session k)) n c m
  moves m =
      by_test (m == n) (session_after (p.session n) c) (p.session m)
      ∙ ap (λ b. if m == n then b else is_in (p.session m)) (in_after (p.session n) c)

  -- it was in a transaction, and is so still
  stays : (m : ℕ) → is_in (p.session n) ≡ true → inside_after true c ≡ true
      → is_in (if m == n then ended else p.session m)
      ≡ within_after (λ k. is_in (p.session k)) n c m
  stays m was still =
      by_test (m == n) ended (p.session m)
      ∙ ap (λ b. if m == n then b else is_in (p.session m))
      (sym (ap (λ b. inside_after b c) was ∙ still))

  by_session : (s : Session) → p.session n ≡ s → (o : Outcome) → o ≡ outcome_in schema p n c s
      → (m : ℕ) → Behind o m
  by_session s at answered is m = moves m
  by_session s at skipped is m = moves m
  by_session outside at (ended_by k) is m = absurd (answered_or_ended k (sym is))
  by_session (inside cs) at (ended_by k) is m =
      stays m (ap is_in at) (stays_in schema p n c k (sym is))
  by_session ended at (ended_by k) is m = absurd (never (is_nothing c) is)
    where
      never : (b : Bool) → ended_by k ≡ (if b then answered else skipped) → ⊥
      never true e = cc
      never false e = cc

  pub in_turn : (m : ℕ) → Behind (outcome_of schema p n c) m
  in_turn m = by_session (p.session n) refl (outcome_of schema p n c) refl m

-- ---- lines

-- they are played, and the sessions are in transactions as the lines tell
record HaveShared (schema : Schema) (p : Sharing) (lines : List (List ℕ))
    (behind : ℕ → Bool) : Type 0 where
  ts : List Turn
  final : Sharing
  runs : RunsIn (turns schema) p lines ts final
  same : (n : ℕ) → is_in (final.session n) ≡ behind n

more_shared : (schema : Schema) (p next : Sharing) (line : List ℕ) (lines : List (List ℕ))
    (behind : ℕ → Bool) (t : List Turn) → (turns schema).Goes p line t next
    → HaveShared schema next lines behind → HaveShared schema p (line ∷ lines) behind
more_shared schema p next line lines behind t goes rest = record {
  ts = t ++ rest.ts;
  final = rest.final;
  runs = (t, rest.ts, next, goes, rest.runs, refl);
  same = rest.same;
}

good_runs : (schema : Schema) (lines : List (List ℕ)) (within behind : ℕ → Bool)
    (answers : List ℕ) (p : Sharing) → ((n : ℕ) → is_in (p.session n) ≡ within n)
    → RunsIn (turn_lines schema) within lines answers behind → HaveShared schema p lines behind
good_runs schema [] within behind answers p same (none, is) = record {
  ts = [];
  final = p;
  runs = (refl, refl);
  same = λ n. same n ∙ ap (λ f. f n) (sym is);
}
good_runs schema (line ∷ lines) within behind answers p same
    (answer, more, next, (none, inl (no_turn, is)), rest, all) =
    more_shared schema p p line lines behind [] (inl (no_turn, refl, refl))
    (good_runs schema lines next behind more p (λ n. same n ∙ ap (λ f. f n) (sym is)) rest)
good_runs schema (line ∷ lines) within behind answers p same
    (answer, more, next, (none, inr read), rest, all) =
    let n = read.session in
    let c = read.command in
    let step = turn_goes_on schema p line (n, read.rest) read.is_turn c read.means
    (ap (λ b. place_reason b c) (same n) ∙ read.placed) in
    let q = after_turn schema p n c (outcome_of schema p n c) in
    more_shared schema p q line lines behind step.0 step.1
    (good_runs schema lines next behind more q
    (λ m. in_turn schema p n c m
    ∙ (λ i. if m == n then inside_after (same n i) c else same m i)
    ∙ ap (λ f. f m) (sym read.behind_is)) rest)

-- a script that ends well by its lines plays to a good end
pub good_share : (schema : Schema) (start : State) (script : List ℕ) → IsShareEnd schema script good
    → (ts : List Turn) × (final : Sharing)
    × IsPlayIn (turns schema) (share_start start) (script_lines script) ts final good
good_share schema start script (answers, behind, play) = (
  run.ts,
  run.final,
  at play.next play.first
      play.ends,
)
  where
    run : HaveShared schema (share_start start) play.ran behind
    run = good_runs schema play.ran (λ n. false) behind answers (share_start start) (λ n. refl)
        play.runs

    never : (number : ℕ) (why : LineWhy) → ◌≡◌ {A = End} good (stopped number why) → ⊥
    never number why e = cc

    at : (next : Result (Option (List ℕ)) LineWhy)
        → AreFirstLines (script_lines script) play.ran next
        → IsEndIn (turn_lines schema) behind (length play.ran) next good
        → IsPlayIn (turns schema) (share_start start) (script_lines script) run.ts run.final good
    at (Ok None) first is = record {
      ran = play.ran;
      next = Ok None;
      first = first;
      runs = run.runs;
      ends = is ∙ (λ i. end_at (length play.ran) (list_any (λ n. sym (run.same n) i) sessions));
    }
    at (Ok (Some line)) first is = absurd (never (length play.ran + 1) is.0 is.2)
    at (Err why) first is = absurd (never (length play.ran + 1) why is)
