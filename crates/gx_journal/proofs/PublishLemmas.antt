-- Pages are written home.
use Rattle.std.proofs.Common.{◌≡◌, ◌⊎◌, inl, inr, ℕ, ◌+◌, ◌<◌, Bool, true, false, List, [], length, get_or, sym, ◌∙◌, ap, subst, arith, zero, suc, ◌∷◌}
use Rattle.std.specs.Prelude.{if◌then◌else◌}
use Rattle.std.proofs.lemmas.Bool.Decides.{eqb_tells}
use Rattle.gx_device.specs.Content.{Moment, Content, block_of}
use Rattle.gx_layout.specs.Layout.{OnlyBlocks, IsIn, Holds, slot, home}
use Rattle.gx_device.specs.Crash.{Through, Outside}
use Rattle.gx_device.proofs.RunLemmas.{outside_joined}
use Rattle.gx_layout.proofs.FormatLemmas.{run_more}
use Rattle.gx_layout.proofs.BlockLemmas.{blocks_twice, blocks_more}
use Rattle.std.proofs.lemmas.Bool.{true≢false, cases_Bool, cases_lt}
use Rattle.std.proofs.lemmas.List.{get_or_past}
use Rattle.gx_frames.specs.Pool.{Resident, find_page}
use Rattle.gx_journal.specs.Sources.{stored, page_of, IsCached, SamePages, OnlySlots, IsListed, IsHomeOf, IsCommitted, IsBody, IsAmong}
use Rattle.gx_journal.proofs.SourceLemmas.{page_apart}
use Rattle.gx_journal.proofs.SlotLemmas.{slots_silent}

-- one page more of a list is written home
module _ (N P : ℕ) (listed : List ℕ) (i p : ℕ) (at : p ≡ get_or listed i 0) (lt : i < length listed)
    (below : p < P)
    (before mid after : Content) (rest : OnlyBlocks (IsHomeOf N P listed) before mid)
    (more : OnlyBlocks (λ n. n ≡ home N P p) mid after) where
  pub more_rest : OnlyBlocks (IsHomeOf N P listed) before after
  more_rest = blocks_twice (IsHomeOf N P listed) before mid after rest
      (blocks_more (λ n. n ≡ home N P p) (IsHomeOf N P listed) (λ n is. record {
        place = i;
        below = lt;
        is = is ∙ ap (home N P) at;
      }) mid after more)

  pub more_run : Through (Outside (IsHomeOf N P listed) before.now) before mid
      → Through (Outside (λ n. n ≡ home N P p) mid.now) mid after
      → Through (Outside (IsHomeOf N P listed) before.now) before after
  more_run so_far next = outside_joined (IsHomeOf N P listed) before mid after so_far
      (run_more (λ n. n ≡ home N P p) (IsHomeOf N P listed)
      (λ n is. record { place = i; below = lt; is = is ∙ ap (home N P) at }) mid after next)

  slot_same : block_of mid.now (slot N p) ≡ block_of before.now (slot N p)
  slot_same = rest.blocks (slot N p)
      (λ (x : IsHomeOf N P listed (slot N p)). (let e = x.is in absurd (omega (arith, e, below))))

  pub more_homes : block_of after.now (home N P p) ≡ block_of mid.now (slot N p)
      → ((j : ℕ) → j < i → j < length listed
      → block_of mid.now (home N P (get_or listed j 0)) ≡ block_of before.now
      (slot N (get_or listed j 0)))
      → (j : ℕ) → j < i + 1 → j < length listed
      → block_of after.now (home N P (get_or listed j 0)) ≡ block_of before.now
      (slot N (get_or listed j 0))
  more_homes here held j lt_j within = elim (eqb_tells (get_or listed j 0) p) [
    | inl same ↦ ap (λ (k : ℕ). block_of after.now (home N P k)) same.1 ∙ here ∙ slot_same
        ∙ ap (λ (k : ℕ). block_of before.now (slot N k)) (sym same.1)
    | inr off ↦ more.blocks (home N P (get_or listed j 0))
        (λ (e : home N P (get_or listed j 0) ≡ home N P p). off.1 (omega (arith, e)))
        ∙ held j (elim (eqb_tells j i) [
          | inl e ↦ absurd (off.1 (ap (λ (k : ℕ). get_or listed k 0) e.1 ∙ sym at))
          | inr ne ↦ (let n = ne.1 in omega (arith, n, lt_j))
        ]) within
  ]

-- where the list has a page
pub record IsFound (listed : List ℕ) (p : ℕ) : Type 0 where
  pub place : ℕ
  pub below : place < length listed
  pub is : get_or listed place 0 ≡ p

find_place : (listed : List ℕ) (p : ℕ)
    → IsFound listed p ⊎ ((j : ℕ) → j < length listed → get_or listed j 0 ≡ p → ⊥)
find_place [] p = inr (λ j lt e. absurd (omega (arith, lt)))
find_place (x ∷ listed) p = elim (eqb_tells x p) [
  | inl here ↦ inl (record { place = 0; below = omega arith; is = here.1 })
  | inr off ↦ elim (find_place listed p) [
    | inl f ↦ inl (record {
      place = suc f.place;
      below = (let b = f.below in omega (arith, b));
      is = f.is;
    })
    | inr none ↦ inr (λ j lt e. nowhere off.1 none j lt e)
  ]
]
  where
    nowhere : (x ≡ p → ⊥) → ((j : ℕ) → j < length listed → get_or listed j 0 ≡ p → ⊥) → (j : ℕ)
        → j < length (x ∷ listed)
        → get_or (x ∷ listed) j 0 ≡ p → ⊥
    nowhere off none zero lt e = off e
    nowhere off none (suc j) lt e = none j (omega (arith, lt)) e

pub found : (listed : List ℕ) (p : ℕ) → IsAmong 0 listed p → IsFound listed p
found listed p among = elim (find_place listed p) [
  | inl f ↦ f
  | inr none ↦ absurd (among (λ j low lt e. none j lt e))
]

-- what is stored where a commit got as far as its homes
module _ (N P : ℕ) (spilled : List Bool) (listed : List ℕ) (h : IsListed spilled listed)
    (long : length spilled ≡ P) (mid new : Content)
    (rest : OnlyBlocks (IsCommitted N P listed) mid new) where
  not_home : (q : ℕ) → get_or spilled q false ≡ false → IsCommitted N P listed (home N P q) → ⊥
  not_home q off (inl e) = absurd (omega (arith, e))
  not_home q off (inr (inl e)) = absurd (omega (arith, e.1))
  not_home q off (inr (inr x)) =
      let e = x.is in
      let same : get_or listed x.place 0 ≡ q = omega (arith, e) in
      true≢false (sym (h.flagged x.place x.below) ∙ ap (λ (k : ℕ). get_or spilled k false) same
      ∙ off)

  not_slot : (q : ℕ) → q < P → IsCommitted N P listed (slot N q) → ⊥
  not_slot q lt (inl e) = absurd (omega (arith, e))
  not_slot q lt (inr (inl e)) = absurd (omega (arith, e.1))
  not_slot q lt (inr (inr x)) = (let e = x.is in absurd (omega (arith, e, lt)))

  flag_below : (q : ℕ) → get_or spilled q false ≡ true → q < P
  flag_below q on = elim (cases_lt q (length spilled)) [
    | inl below ↦ omega (arith, below, long)
    | inr past ↦ absurd (true≢false (sym on ∙ get_or_past spilled q false past))
  ]

  -- the flags stand: each page is stored as it was
  pub failed_stored : (q : ℕ)
      → stored N P new.now.blocks spilled q ≡ stored N P mid.now.blocks spilled q
  failed_stored q = elim (cases_Bool (get_or spilled q false)) [
    | inl on ↦ (let a = rest.blocks (slot N q) (not_slot q (flag_below q on)) in
        ap (λ (b : Bool). if b then get_or new.now.blocks (slot N q) [] else get_or new.now.blocks
        (home N P q) []) on ∙ a
        ∙ sym (ap (λ (b : Bool). if b then get_or mid.now.blocks
        (slot N q) [] else get_or mid.now.blocks (home N P q) []) on))
    | inr off ↦ (let a = rest.blocks (home N P q) (not_home q off) in
        ap (λ (b : Bool). if b then get_or new.now.blocks (slot N q) [] else get_or new.now.blocks
        (home N P q) []) off ∙ a
        ∙ sym (ap (λ (b : Bool). if b then get_or mid.now.blocks
        (slot N q) [] else get_or mid.now.blocks (home N P q) []) off))
  ]

  -- no flag stands, and what was spilled is at home
  pub done_stored : (flags : List Bool) → ((p : ℕ) → get_or flags p false ≡ false)
      → ((p : ℕ) → get_or spilled p false ≡ true
      → block_of new.now (home N P p) ≡ block_of mid.now (slot N p)) → (q : ℕ)
      → stored N P new.now.blocks flags q ≡ stored N P mid.now.blocks spilled q
  done_stored flags none homes q =
      ap (λ (b : Bool). if b then get_or new.now.blocks (slot N q) [] else get_or new.now.blocks
      (home N P q) []) (none q)
      ∙ elim (cases_Bool (get_or spilled q false)) [
        | inl on ↦ homes q on ∙ sym
            (ap (λ (b : Bool). if b then get_or mid.now.blocks (slot N q) [] else get_or
            mid.now.blocks
            (home N P q) []) on)
        | inr off ↦ rest.blocks (home N P q) (not_home q off)
            ∙ sym (ap (λ (b : Bool). if b then get_or mid.now.blocks
            (slot N q) [] else get_or mid.now.blocks (home N P q) []) off)
      ]

-- the same is stored, and the same pages are resident
module _ (N P : ℕ) (old new : List (List ℕ)) (was is : List Bool) (rs ss : List Resident)
    (found_same : (q : ℕ) → find_page q ss ≡ find_page q rs) (stored_same : (q : ℕ)
    → stored N P new is q ≡ stored N P old was q) where
  pub moved_cached : IsCached N P old was rs → IsCached N P new is ss
  moved_cached cached q r at plain = cached q r (sym (found_same q) ∙ at) plain
      ∙ sym (stored_same q)

  pub moved_pages : SamePages (page_of N P old was rs) (page_of N P new is ss)
  moved_pages q = page_apart N P old new was is rs ss q (found_same q) (stored_same q)

-- where no flag stands, what is stored of a page is its home
pub stored_home : (N P : ℕ) (blocks : List (List ℕ)) (flags : List Bool)
    → ((p : ℕ) → get_or flags p false ≡ false) → (q : ℕ)
    → stored N P blocks flags q ≡ get_or blocks (home N P q) []
stored_home N P blocks flags none q =
    ap (λ (b : Bool). if b then get_or blocks (slot N q) [] else get_or blocks (home N P q) [])
    (none q)

-- slots, and then what a commit writes, are no part of the head
pub slots_body : (N P : ℕ) (old new : Content) → OnlySlots N P old new → OnlyBlocks (IsBody N) old
    new
slots_body N P old new o = record {
  count = o.outside.count;
  blocks = λ n taken. o.outside.blocks n (λ s. taken (inr (inr s.0)));
  silent = slots_silent N P old new o;
}

pub committed_body : (N P : ℕ) (listed : List ℕ) (n : ℕ) → IsCommitted N P listed n → IsBody N n
committed_body N P listed n (inl e) = inl e
committed_body N P listed n (inr (inl e)) = inr (inl e)
committed_body N P listed n (inr (inr x)) = (let e = x.is in inr (inr (omega (arith, e))))

-- the homes of the listed pages are those of the spilled ones
pub home_in : (N P : ℕ) (spilled : List Bool) (listed : List ℕ) → IsListed spilled listed → (n : ℕ)
    → IsHomeOf N P listed n
    → IsIn (home N P 0) spilled n
home_in N P spilled listed h n is =
    record {
      page = get_or listed is.place 0;
      below = h.within is.place is.below;
      is = (let e = is.is in omega (arith, e));
      changes = h.flagged is.place is.below;
    }

-- the home of a listed page, by an equal number of blocks and of pages
pub home_moved : (M N Q P : ℕ) (listed : List ℕ) (n : ℕ) → M ≡ N → Q ≡ P → IsHomeOf M Q listed n
    → IsHomeOf N P listed n
home_moved M N Q P listed n size count is =
    subst (λ (k : ℕ). IsHomeOf N k listed n) count
    (subst (λ (k : ℕ). IsHomeOf k Q listed n) size is)

-- the pages in the slots stand at home
pub homes_hold : (N : ℕ) (pages : List (List ℕ)) (spilled : List Bool) (listed : List ℕ)
    → IsListed spilled listed → (a d : Moment)
    → ((i : ℕ) → i < length listed
    → block_of d (home N (length pages) (get_or listed i 0)) ≡ block_of a (slot N (get_or listed i
    0)))
    → ((p : ℕ) → p < length pages → get_or spilled p false ≡ true
    → block_of a (slot N p) ≡ get_or pages p [])
    → Holds (home N (length pages) 0) pages spilled d
homes_hold N pages spilled listed h a d brought slots p below on =
    let f = found listed p (h.every p on) in
    ap (block_of d) (omega arith)
    ∙ subst (λ (q : ℕ). block_of d (home N (length pages) q) ≡ block_of a (slot N q)) f.is
    (brought f.place f.below) ∙ slots p below on
