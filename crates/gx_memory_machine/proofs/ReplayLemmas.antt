-- A log carried out again, and what a crash then leaves.
use Rattle.std.proofs.Common.{◌≡◌, ◌⊎◌, inl, inr, ℕ, zero, suc, ◌+◌, ◌<◌, ◌≤◌, Bool, true, false, List, [], ◌∷◌, ◌++◌, length, take, drop, get_or, refl, sym, ap, subst, ◌∙◌, arith, length-drop}
use Rattle.std.proofs.lemmas.List.{drop-drop, drop_all, take_all, append-nil}
use Rattle.std.proofs.Math.Nat.{eq-or-lt_of_le}
use Rattle.gx_memory_machine.specs.declared.trace.Step.{Step}
use Rattle.gx_memory_machine.specs.declared.crash.Choice.{Choice}
use Rattle.gx_device.specs.Content.{Moment, block_of, is_pending, with_named}
use Rattle.gx_memory_machine.specs.Crash.{moment_at, chosen, IsSynced, IsLeft, IsSpoiled, StaysSynced}
use Rattle.std.specs.Prelude.{Result, Ok, Err, IfOk}
use Rattle.gx_memory_machine.specs.Trace.{Traced, Adds}
use Rattle.gx_memory_machine.proofs.LogLemmas.{advance_own}
use Rattle.gx_memory_machine.specs.Log.{uses, total, advance, earlier, latest, first}

pub earlier_count : (m : Moment) (steps : List Step) (bytes : List ℕ)
    → length (earlier m steps bytes) ≡ length steps
earlier_count m [] bytes = refl
earlier_count m (s ∷ steps) bytes =
    omega (arith, earlier_count (advance m s bytes) steps (drop (uses s) bytes))

-- the moment of that number of a log
abbrev pub logged : Moment → List Step → List ℕ → ℕ → Moment
logged m steps bytes i = moment_at (earlier m steps bytes) (latest m steps bytes) i

pub logged_first : (m : Moment) (steps : List Step) (bytes : List ℕ)
    → logged m steps bytes 0 ≡ m
logged_first m [] bytes = refl
logged_first m (s ∷ steps) bytes = refl

pub logged_next : (m : Moment) (steps : List Step) (bytes : List ℕ) (i : ℕ) (d : Step)
    → i < length steps → logged m steps bytes (suc i)
    ≡ advance (logged m steps bytes i) (get_or steps i d) (drop (total (take i steps)) bytes)
logged_next m [] bytes i d below = absurd (omega arith)
logged_next m (s ∷ steps) bytes zero d below =
    logged_first (advance m s bytes) steps (drop (uses s) bytes)
logged_next m (s ∷ steps) bytes (suc i) d below =
    logged_next (advance m s bytes) steps (drop (uses s) bytes) i d (omega arith)
    ∙ ap (λ (b : List ℕ). advance (logged (advance m s bytes) steps (drop (uses s) bytes) i)
    (get_or steps i d) b) (drop-drop (total (take i steps)) (uses s) bytes)

-- one call more of a log
pub total_next : (steps : List Step) (i : ℕ) (d : Step) → i < length steps
    → total (take (i + 1) steps) ≡ total (take i steps) + uses (get_or steps i d)
total_next [] i d below = absurd (omega arith)
total_next (s ∷ steps) zero d below = omega arith
total_next (s ∷ steps) (suc i) d below =
    let next : suc i + 1 ≡ suc (i + 1) = omega arith in
    ap (λ (k : ℕ). total (take k (s ∷ steps))) next
    ∙ omega (arith, total_next steps i d (omega arith))

pub total_front : (steps : List Step) (i : ℕ) → total (take i steps) ≤ total steps
total_front [] zero = omega arith
total_front [] (suc i) = omega arith
total_front (s ∷ steps) zero = omega arith
total_front (s ∷ steps) (suc i) = omega (arith, total_front steps i)

-- what is kept of a block goes on being its last synced bytes
pub synced_next : (moments : ℕ → Moment) (i : ℕ) (before after : List (List ℕ))
    → StaysSynced (moments i) (moments (i + 1)) before after
    → ((n : ℕ) → is_pending (moments i) n ≡ true → IsSynced moments i n (get_or before n []))
    → (n : ℕ) → is_pending (moments (i + 1)) n ≡ true → IsSynced moments (i + 1) n (get_or after n [])
synced_next moments i before after stays was n is = by_flag (is_pending (moments i) n) refl
  where
    at_last : (k : ℕ) → k ≡ i + 1 → is_pending (moments k) n ≡ true
    at_last k same = subst (λ (j : ℕ). is_pending (moments j) n ≡ true) (sym same) is

    later : (s : IsSynced moments i n (get_or before n [])) (k : ℕ) → s.at < k
        → (k ≡ i + 1) ⊎ (k < i + 1) → is_pending (moments k) n ≡ true
    later s k above (inl same) = at_last k same
    later s k above (inr less) = s.since k above (omega arith)

    by_flag : (b : Bool) → is_pending (moments i) n ≡ b
        → IsSynced moments (i + 1) n (get_or after n [])
    by_flag true flag =
        let s = was n flag in
        record {
          at = s.at;
          until = omega (arith, s.until);
          firm = s.firm;
          since = λ k above most. later s k above (eq-or-lt_of_le most);
          is = s.is ∙ sym (stays.kept n is flag);
        }
    by_flag false flag = record {
      at = i;
      until = omega arith;
      firm = flag;
      since = λ k above most. at_last k (omega arith);
      is = sym (stays.first n is flag);
    }

-- what a crash leaves after a log has been carried out again
pub is_left : (moments : ℕ → Moment) (i : ℕ) (choice : Choice) (synced : List (List ℕ))
    (m after : Moment) → m ≡ moments i → IsSpoiled choice synced m after
    → ((n : ℕ) → is_pending (moments i) n ≡ true → IsSynced moments i n (get_or synced n []))
    → IsLeft moments i choice after
is_left moments i choice synced m after same s kept =
    record {
      image = record {
        blocks = s.blocks;
        said = (moments i).said;
        shelf = (moments i).shelf;
      };
      is = record {
        said = refl;
        shelf = refl;
        count = s.are.count ∙ ap (λ (x : Moment). length x.blocks) same;
        same = λ n below firm. s.are.same n
            (ap (λ (x : Moment). is_pending x n) same ∙ firm)
            ∙ ap (λ (x : Moment). block_of x n) same;
      };
      pending = λ n is. (
        get_or synced n [],
        kept n is,
        s.are.spoiled n (ap (λ (x : Moment). is_pending x n) same ∙ is)
            ∙ ap (λ (x : Moment). chosen choice (get_or synced n []) (block_of x n)) same,
      );
      devices = s.devices ∙ ap (λ (x : Moment).
          first (with_named x.shelf.name s.blocks x.shelf.devices)) same;
    }

-- a slice that is written back whole is all of the list
pub written_back : (n : ℕ) (new old : List (List ℕ)) → n ≡ length old → length new ≡ length old
    → take n (new ++ drop (length new) old) ≡ new
written_back n new old all count =
    ap (λ (l : List (List ℕ)). take n (new ++ l)) (drop_all (length new) old (omega arith))
    ∙ ap (take n) (append-nil new) ∙ take_all n new (omega arith)

-- a log has been carried out again so far: what stands, the room that is left, and what is kept of
-- the blocks that are pending
pub record Replays (past : List Moment) (last : Moment) (steps : List Step) (written : List ℕ)
    (count i used : ℕ) (now : Moment) (calls bytes : ℕ) (synced : List (List ℕ)) : Type 0 where
  pub now_is : now ≡ moment_at past last i
  pub used_is : used ≡ total (take i steps)
  pub calls_left : count ≤ calls + i
  pub bytes_left : length written ≤ bytes + used
  pub blocks : length synced ≡ length now.blocks
  pub kept : (n : ℕ) → is_pending (moment_at past last i) n ≡ true
      → IsSynced (moment_at past last) i n (get_or synced n [])

pub if_ok_more : {T E : Type 0} {P Q : T → Type 0} (r : Result T E) → ((x : T) → P x → Q x)
    → IfOk r P → IfOk r Q
if_ok_more (Ok x) more p = more x p
if_ok_more (Err e) more p = p

module _ (m : Moment) (steps : List Step) (written : List ℕ) (past : List Moment) (last : Moment)
    (count : ℕ) (long : length written ≡ total steps) (past_is : past ≡ earlier m steps written)
    (last_is : last ≡ latest m steps written) where
  at_is : (i : ℕ) → moment_at past last i ≡ logged m steps written i
  at_is i = λ j. moment_at (past_is j) (last_is j) i

  pub begun : (now : Moment) (calls bytes : ℕ) (synced : List (List ℕ)) → now ≡ m
      → m.blocks ≡ [] → m.pending ≡ [] → count ≤ calls → length written ≤ bytes → synced ≡ []
      → Replays past last steps written count 0 0 now calls bytes synced
  begun now calls bytes synced is no_blocks no_flags calls_left bytes_left none = record {
    now_is = is ∙ sym start;
    used_is = refl;
    calls_left = omega arith;
    bytes_left = omega arith;
    blocks = ap (λ (l : List (List ℕ)). length l) (none ∙ sym no_blocks)
        ∙ ap (λ (x : Moment). length x.blocks) (sym is);
    kept = λ n flag. absurd (
        let clear : is_pending (moment_at past last 0) n ≡ false =
        ap (λ (x : Moment). is_pending x n) start
        ∙ ap (λ (l : List Bool). get_or l n false) no_flags in
        let both : ◌≡◌ {A = Bool} false true = sym clear ∙ flag in cc);
  }
    where
      start : moment_at past last 0 ≡ m
      start = at_is 0 ∙ logged_first m steps written

  pub next_fits : (i used : ℕ) (step : Step) → i < length steps → step ≡ get_or steps i step
      → used ≡ total (take i steps) → used + uses step ≤ length written
  next_fits i used step below is used_is = omega (
    arith,
    total_next steps i step below,
    total_front steps (i + 1),
    ap uses is,
  )

  pub goes_on : (i used : ℕ) (old new : Traced) (before after : List (List ℕ)) (step : Step)
      (piece : List ℕ) → i < length steps → step ≡ get_or steps i step
      → piece ≡ take (uses step) (drop used written) → length piece ≡ uses step
      → Adds (length piece) (advance old.now step piece) old new
      → length after ≡ length new.now.blocks → StaysSynced old.now new.now before after
      → Replays past last steps written count i used old.now old.calls old.bytes before
      → Replays past last steps written count (i + 1) (used + length piece) new.now new.calls
      new.bytes after
  goes_on i used old new before after step piece below is piece_is own adds blocks stays r =
      record {
        now_is = now_is;
        used_is = omega (arith, total_next steps i step below, ap uses is, r.used_is);
        calls_left = omega (arith, r.calls_left, adds.calls);
        bytes_left = omega (arith, r.bytes_left, adds.bytes);
        blocks = blocks;
        kept = synced_next (moment_at past last) i before after
            (subst (λ (x : Moment). StaysSynced x (moment_at past last (i + 1)) before after) r.now_is
            (subst (λ (x : Moment). StaysSynced old.now x before after) now_is stays)) r.kept;
      }
    where
      fits : uses step ≤ length (drop used written)
      fits = omega (
        arith,
        next_fits i used step below is r.used_is,
        length-drop used written,
      )

      more : i + 1 ≡ suc i
      more = omega arith

      now_is : new.now ≡ moment_at past last (i + 1)
      now_is = adds.now
          ∙ ap (advance old.now step) piece_is
          ∙ advance_own old.now step (drop used written) fits
          ∙ ap (λ (x : Moment). advance x step (drop used written)) (r.now_is ∙ at_is i)
          ∙ ap (λ (s : Step). advance (logged m steps written i) s (drop used written)) is
          ∙ ap (λ (k : ℕ). advance (logged m steps written i) (get_or steps i step)
          (drop k written)) r.used_is
          ∙ sym (logged_next m steps written i step below)
          ∙ ap (logged m steps written) (sym more)
          ∙ sym (at_is (i + 1))
