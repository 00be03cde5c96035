-- What recovery finds, and what it copies.
use Rattle.std.proofs.Common.{◌≡◌, inl, inr, ℕ, zero, suc, ◌+◌, ◌*◌, ◌/◌, ◌%◌, ◌<◌, ◌≤◌, Bool, true, false, List, [], ◌∷◌, ◌++◌, length, get_or, refl, sym, ◌∙◌, ap, subst, arith, length-append}
use Rattle.std.specs.Prelude.{◌&&◌, ◌==◌}
use Rattle.std.proofs.lemmas.Bool.{cases_eq, and_parts}
use Rattle.std.proofs.lemmas.Bool.Decides.{Decides-eqb}
use Rattle.gx_device.specs.Content.{Shelf, Moment, Content, block_of, is_pending, OnlyTime, Syncs, NonePending}
use Rattle.gx_device.specs.Crash.{Image, IsImage, EachImage, Through, LeavesOnly, Outside}
use Rattle.gx_device.proofs.RunLemmas.{ticked, joined, weakened, synced, outside_same, outside_joined, outside_more}
use Rattle.gx_layout.specs.Layout.{is_open, has_bit, has_bit_on, bit_in, bitmap_blocks, first_text, head_blocks, pages_of, most_pages, slot, head_in, View, StandsFor, ReadsAs, flags, CopiedBelow, IsIn, Holds, Fits, AtRest, IsReady, IsOpened, OnlyBlocks, home}
use Rattle.gx_layout.specs.declared.bitmap.TheConstants.{BITS}
use Rattle.gx_layout.specs.Recovered.{IsUnwritten, Recovers, IsOfRecovery}
use Rattle.gx_layout.proofs.BlockLemmas.{blocks_twice, blocks_more, blocks_read}
use Rattle.gx_layout.specs.PhaseLaws.{bool_cases, shut, set_bit, no_bit, opened_leaves, opened_homes, rest_leaves}
use Rattle.gx_layout.proofs.CommitLemmas.{home_images, homes_ready}

pub length-flags : (bit : ℕ → Bool) (n : ℕ) → length (flags bit n) ≡ n
length-flags bit zero = refl
length-flags bit (suc n) =
    omega (arith, length-append (flags bit n) (bit n ∷ []), length-flags bit n)

at_front : (xs ys : List Bool) (p : ℕ) → p < length xs
    → get_or (xs ++ ys) p false ≡ get_or xs p false
at_front [] ys p below = absurd (omega arith)
at_front (x ∷ xs) ys zero below = refl
at_front (x ∷ xs) ys (suc p) below = at_front xs ys p (omega arith)

at_end : (xs : List Bool) (y : Bool) → get_or (xs ++ y ∷ []) (length xs) false ≡ y
at_end [] y = refl
at_end (x ∷ xs) y = at_end xs y

pub get_or-flags : (bit : ℕ → Bool) (n p : ℕ) → p < n → get_or (flags bit n) p false ≡ bit p
get_or-flags bit zero p below = absurd (omega arith)
get_or-flags bit (suc n) p below = elim (cases_eq p n) [
  | inl same ↦ ap (λ (k : ℕ). get_or (flags bit (suc n)) k false)
      (same ∙ sym (length-flags bit n))
      ∙ at_end (flags bit n) (bit n) ∙ ap bit (sym same)
  | inr other ↦ at_front (flags bit n) (bit n ∷ []) p
      (omega (arith, length-flags bit n))
      ∙ get_or-flags bit n p (omega arith)
]

-- bit p of a block of the bitmap
pub bit_here : (i : ℕ) (block : List ℕ) (p : ℕ) → p / BITS ≡ i
    → bit_in i block p ≡ has_bit block (p % BITS)
bit_here i block p here =
    ap (λ (b : Bool). b && has_bit block (p % BITS)) ((Decides-eqb (p / BITS) i).1 here)

pub bit_parts : (i : ℕ) (block : List ℕ) (p : ℕ) → bit_in i block p ≡ true
    → (p / BITS ≡ i) × (has_bit block (p % BITS) ≡ true)
bit_parts i block p on =
    let both = and_parts (p / BITS == i) (has_bit block (p % BITS)) on in
    ((Decides-eqb (p / BITS) i).0 both.0, both.1)

-- a read leaves everything
pub read_run : (free : ℕ → Type 0) (old new : Content) → OnlyTime old new
    → Through (Outside free old.now) old new
read_run free old new r = ticked (Outside free old.now) old new r.time (outside_same free old.now)
    (subst (λ (m : Moment). Outside free old.now m) (sym r.now) (outside_same free old.now))

pub read_images : (P : Image → Type 0) (old new : Content) → OnlyTime old new → EachImage P old.now
    → LeavesOnly P old new
read_images P old new r leaves =
    ticked (EachImage P) old new r.time leaves
    (subst (λ (m : Moment). EachImage P m) (sym r.now) leaves)

-- of a device of so many blocks and pages, whose pages begin at a block
module _ (size P : ℕ) (bit : ℕ → Bool) (first : ℕ) (first_is : first ≡ head_blocks size) where
  abbrev copies : ℕ → Type 0
  copies = IsIn (home size P 0) (flags bit P)

  is_copied : (i : ℕ) → i < P → bit i ≡ true → (n : ℕ) → n ≡ first + P + i
      → IsIn (home size P 0) (flags bit P) n
  is_copied i below bit_on n is = record {
    page = i;
    below = omega (arith, length-flags bit P, below);
    is = omega (arith, is, first_is);
    changes = get_or-flags bit P i below ∙ bit_on;
  }

  -- one more page is copied
  pub more_copied_run : (i : ℕ) (old mid new : Content) → i < P → bit i ≡ true
      → Through (Outside (IsIn (home size P 0) (flags bit P)) old.now) old mid
      → Through (Outside (λ n. n ≡ first + P + i) mid.now) mid new
      → Through (Outside (IsIn (home size P 0) (flags bit P)) old.now) old new
  more_copied_run i old mid new below bit_on run w =
      outside_joined copies old mid new run
      (weakened (Outside (λ n. n ≡ first + P + i) mid.now) (Outside copies mid.now)
      (λ m o. outside_more (λ n. n ≡ first + P + i) copies (is_copied i below bit_on) mid.now m o)
      mid new w)

  pub more_touched : (i : ℕ) (old mid new : Content) → i < P → bit i ≡ true
      → OnlyBlocks (IsIn (home size P 0) (flags bit P)) old mid
      → OnlyBlocks (λ n. n ≡ first + P + i) mid new
      → OnlyBlocks (IsIn (home size P 0) (flags bit P)) old new
  more_touched i old mid new below bit_on so_far w =
      blocks_twice copies old mid new so_far
      (blocks_more (λ n. n ≡ first + P + i) copies (is_copied i below bit_on) mid new w)

  pub more_copied : (i : ℕ) (old mid new : Content) → i < P
      → CopiedBelow i size P bit old.now mid.now
      → Through (Outside (IsIn (home size P 0) (flags bit P)) old.now) old mid
      → Through (Outside (λ n. n ≡ first + P + i) mid.now) mid new
      → block_of new.now (first + P + i) ≡ block_of mid.now (first + i)
      → CopiedBelow (i + 1) size P bit old.now new.now
  more_copied i old mid new below so_far run w copied p under bit_on = elim (cases_eq p i) [
    | inl same ↦
        ap (block_of new.now) (omega (arith, same, first_is)) ∙ copied
        ∙ run.now.blocks (first + i)
        (λ (x : copies (first + i)). absurd (omega (arith, x.is, below, first_is)))
        ∙ ap (block_of old.now) (omega (arith, same, first_is))
    | inr other ↦ w.now.blocks (home size P p)
        (λ (e : home size P p ≡ first + P + i). other (omega (arith, e, first_is)))
        ∙ so_far p (omega arith) bit_on
  ]

  pub more_passed : (i : ℕ) (old m : Moment) → CopiedBelow i size P bit old m → bit i ≡ false
      → CopiedBelow (i + 1) size P bit old m
  more_passed i old m so_far bit_off p under bit_on = elim (cases_eq p i) [
    | inl same ↦ absurd (cc (ap bit same, bit_off, bit_on))
    | inr other ↦ so_far p (omega arith) bit_on
  ]

-- nothing is pending, and the blocks read as the view
module _ (c : Content) (v : View) (room : head_blocks (length c.now.blocks) ≤ length c.now.blocks)
    (few : length v.pages ≤ most_pages (length c.now.blocks)) (none : NonePending c)
    (reads : ReadsAs c.now v) where
  found_fits : Fits c.now v
  found_fits = record {
    size = reads.size;
    count = reads.pages.count ∙ ap pages_of reads.size;
    few = omega (arith, few, ap bitmap_blocks reads.size);
    room = omega (arith, room, reads.size, ap bitmap_blocks reads.size);
    head_kept = λ n is. none n;
    head = ap (λ (n : ℕ). head_in (first_text n) c.now.blocks) (sym reads.size) ∙ reads.head;
    said = reads.said;
    shelf = reads.shelf;
  }

  at_home : (p : ℕ) → block_of c.now (home v.size (length v.pages) p)
      ≡ block_of c.now (home (length c.now.blocks) (length v.pages) p)
  at_home p = ap (λ (n : ℕ). block_of c.now (home n (length v.pages) p)) (sym reads.size)

  pub found_rest : is_open (block_of c.now 1) ≡ false → AtRest c.now v
  found_rest is = record {
    fits = found_fits;
    gate_kept = none 1;
    gate = is;
    homes = λ p below. record {
      kept = none (home v.size (length v.pages) p);
      reads = at_home p ∙ sym (shut (length v.pages) c.now.blocks p is)
          ∙ reads.pages.each p below;
    };
  }

  pub found_open : is_open (block_of c.now 1) ≡ true
      → IsOpened c.now v (flags (has_bit_on c.now.blocks) (length v.pages))
  found_open is =
      let bit = has_bit_on c.now.blocks in
      record {
        fits = found_fits;
        gate_kept = none 1;
        gate = is;
        logged = record {
          bitmap_kept = λ n at. none n;
          bits = λ p below. sym (get_or-flags bit (length v.pages) p below);
          slots = λ p below on. record {
            kept = none (slot v.size p);
            reads = ap (λ (n : ℕ). block_of c.now (slot n p)) (sym reads.size)
                ∙ sym (set_bit (length v.pages) c.now.blocks p is
                (sym (get_or-flags bit (length v.pages) p below) ∙ on))
                ∙ reads.pages.each p below;
          };
        };
        homes = λ p below off. record {
          kept = none (home v.size (length v.pages) p);
          reads = at_home p ∙ sym (no_bit (length v.pages) c.now.blocks p is
              (sym (get_or-flags bit (length v.pages) p below) ∙ off))
              ∙ reads.pages.each p below;
        };
      }

-- of P pages each has been copied from its slot whose bit is set before block i of the bitmap
abbrev pub CopiedBefore : ℕ → ℕ → ℕ → Moment → Moment → Type 0
CopiedBefore i size P old m = (p : ℕ) → p < P → p < BITS * i → has_bit_on old.blocks p ≡ true
    → block_of m (home size P p) ≡ block_of old (slot size p)

-- one block of the bitmap after another was read, and the pages that it names were copied
module _ (size P : ℕ) (a : Content) where
  abbrev any_named : ℕ → Type 0
  any_named = IsIn (home size P 0) (flags (has_bit_on a.now.blocks) P)

  abbrev named_in : ℕ → List ℕ → ℕ → Type 0
  named_in i block = IsIn (home size P 0) (flags (bit_in i block) P)

  -- the next block of the bitmap is still as it was
  module _ (i : ℕ) (within : i < bitmap_blocks size) (b c d : Content) (block : List ℕ)
      (r : OnlyTime b c) (is : block ≡ block_of b.now (2 + i)) where
    of_bitmap : Outside (IsIn (home size P 0) (flags (has_bit_on a.now.blocks) P)) a.now b.now
        → (p : ℕ) → p < P → bit_in i block p ≡ true → has_bit_on a.now.blocks p ≡ true
    of_bitmap o p below on =
        let parts = bit_parts i block p on in
        let same : block ≡ block_of a.now (2 + p / BITS) =
        is ∙ o.blocks (2 + i) (λ (x : any_named (2 + i)). absurd (omega (arith, x.is, within)))
        ∙ ap (λ (n : ℕ). block_of a.now (2 + n)) (sym parts.0) in
        ap (λ (x : List ℕ). has_bit x (p % BITS)) (sym same) ∙ parts.1

    is_named : Outside (IsIn (home size P 0) (flags (has_bit_on a.now.blocks) P)) a.now b.now
        → (n : ℕ) → named_in i block n → any_named n
    is_named o n x =
        let below : x.page < P =
        omega (arith, x.below, length-flags (bit_in i block) P) in
        record {
          page = x.page;
          below = omega (arith, below, length-flags (has_bit_on a.now.blocks) P);
          is = x.is;
          changes = get_or-flags (has_bit_on a.now.blocks) P x.page below
              ∙ of_bitmap o x.page below
              (sym (get_or-flags (bit_in i block) P x.page below) ∙ x.changes);
        }

    pub more_named_run : Through (Outside any_named a.now) a b
        → Through (Outside (IsIn (home size P 0) (flags (bit_in i block) P)) c.now) c d
        → Through (Outside (IsIn (home size P 0) (flags (has_bit_on a.now.blocks) P)) a.now) a d
    more_named_run run w =
        outside_joined any_named a b d run
        (outside_joined any_named b c d (read_run any_named b c r)
        (weakened (Outside (named_in i block) c.now) (Outside any_named c.now)
        (λ m o. outside_more (named_in i block) any_named (is_named run.now) c.now m o) c d w))

    pub more_named : Outside any_named a.now b.now → OnlyBlocks any_named a b
        → OnlyBlocks (IsIn (home size P 0) (flags (bit_in i block) P)) c d
        → OnlyBlocks (IsIn (home size P 0) (flags (has_bit_on a.now.blocks) P)) a d
    more_named o so_far w =
        blocks_twice any_named a b d so_far
        (blocks_twice any_named b c d (blocks_read any_named b c r)
        (blocks_more (named_in i block) any_named (is_named o) c d w))

    pub more_copied_named : Through (Outside any_named a.now) a b → CopiedBefore i size P a.now b.now
        → Through (Outside (named_in i block) c.now) c d
        → CopiedBelow P size P (bit_in i block) c.now d.now → CopiedBefore (i + 1) size P a.now d.now
    more_copied_named run so_far w copied p below before on = elim (cases_eq (p / BITS) i) [
      | inl here ↦
          let same : block ≡ block_of a.now (2 + p / BITS) =
          is ∙ run.now.blocks (2 + i) (λ (x : any_named (2 + i)). absurd (omega (arith, x.is, within)))
          ∙ ap (λ (n : ℕ). block_of a.now (2 + n)) (sym here) in
          copied p below (bit_here i block p here
          ∙ ap (λ (x : List ℕ). has_bit x (p % BITS)) same ∙ on)
          ∙ ap (λ (m : Moment). block_of m (slot size p)) r.now
          ∙ run.now.blocks (slot size p)
          (λ (x : any_named (slot size p)). absurd (omega (arith, x.is, below)))
      | inr other ↦ w.now.blocks (home size P p)
          (λ (x : named_in i block (home size P p)).
          let at : x.page ≡ p = omega (arith, x.is) in
          let bit_on : bit_in i block p ≡ true =
          sym (get_or-flags (bit_in i block) P p below)
          ∙ ap (λ (n : ℕ). get_or (flags (bit_in i block) P) n false) (sym at) ∙ x.changes in
          other (bit_parts i block p bit_on).0)
          ∙ ap (λ (m : Moment). block_of m (home size P p)) r.now
          ∙ so_far p below (omega (arith, before, other)) on
    ]

-- the pages that the bitmap names were copied, and then there was a sync
module _ (v : View) (a : Content) (room : head_blocks (length a.now.blocks) ≤ length a.now.blocks)
    (few : length v.pages ≤ most_pages (length a.now.blocks)) (none : NonePending a)
    (reads : ReadsAs a.now v) (opened : is_open (block_of a.now 1) ≡ true) (size : ℕ)
    (size_is : length a.now.blocks ≡ size) (P : ℕ) (counts : length v.pages ≡ P) (d : Content)
    (run : Through (Outside (IsIn (home size P 0) (flags (has_bit_on a.now.blocks) P)) a.now) a d)
  where
    abbrev all : List Bool
    all = flags (has_bit_on a.now.blocks) (length v.pages)

    start_open : IsOpened a.now v all
    start_open = found_open a v room few none reads opened

    all_is : flags (has_bit_on a.now.blocks) P ≡ all
    all_is = ap (flags (has_bit_on a.now.blocks)) (sym counts)

    base : home size P 0 ≡ home v.size (length v.pages) 0
    base = omega (arith, counts, ap bitmap_blocks size_is, ap bitmap_blocks reads.size)

    here : Through (Outside (IsIn (home v.size (length v.pages) 0) all) a.now) a d
    here = subst (λ (n : ℕ). Through (Outside (IsIn n all) a.now) a d) base
        (subst (λ (f : List Bool). Through (Outside (IsIn (home size P 0) f) a.now) a d) all_is run)

    pub back_copied : LeavesOnly (StandsFor v) a d
    back_copied = home_images v all a d start_open here

    pub back_synced : (e : Content) → Syncs d e → LeavesOnly (StandsFor v) a e
    back_synced e s = joined (EachImage (StandsFor v)) a d e back_copied
        (synced (StandsFor v) d e s back_copied.now)

    pub back_ready : (e : Content) → Syncs d e → NonePending e
        → CopiedBelow P size P (has_bit_on a.now.blocks) a.now d.now
        → IsReady e.now v v (flags (has_bit_on a.now.blocks) P)
    back_ready e s settled copied =
        let held : Holds (home v.size (length v.pages) 0) v.pages all d.now =
        λ p below on.
        let under : p < P = omega (arith, below, counts) in
        let on_bit : has_bit_on a.now.blocks p ≡ true =
        sym (get_or-flags (has_bit_on a.now.blocks) P p under)
        ∙ ap (λ (f : List Bool). get_or f p false) all_is ∙ on in
        ap (block_of d.now)
        (omega (arith, counts, ap bitmap_blocks size_is, ap bitmap_blocks reads.size))
        ∙ copied p under on_bit
        ∙ ap (block_of a.now) (omega (arith, ap bitmap_blocks size_is, ap bitmap_blocks reads.size))
        ∙ (start_open.logged.slots p below on).reads in
        let q = homes_ready d e s settled v all
        (opened_homes a.now d.now v all here.now start_open) held in
        subst (λ (n : ℕ). IsReady e.now v v (flags (has_bit_on a.now.blocks) n)) counts q

-- where nothing is pending, a crash leaves what is read
pub found_leaves : (a : Content) (v : View)
    → head_blocks (length a.now.blocks) ≤ length a.now.blocks
    → length v.pages ≤ most_pages (length a.now.blocks) → NonePending a
    → ReadsAs a.now v → EachImage (StandsFor v) a.now
found_leaves a v room few none reads = elim (bool_cases (is_open (block_of a.now 1))) [
  | inl opened ↦ opened_leaves a.now v (flags (has_bit_on a.now.blocks) (length v.pages))
      (found_open a v room few none reads opened)
  | inr closed ↦ rest_leaves a.now v (found_rest a v room few none reads closed)
]

-- a read finds what was there
pub still_none : (a b : Content) → OnlyTime a b → NonePending a → NonePending b
still_none a b r none n = ap (λ (m : Moment). is_pending m n) r.now ∙ none n

pub still_reads : (a b : Content) (v : View) → OnlyTime a b → ReadsAs a.now v → ReadsAs b.now v
still_reads a b v r reads = subst (λ (m : Moment). ReadsAs m v) (sym r.now) reads

pub still_gate : (a b : Content) (g : Bool) → OnlyTime a b → is_open (block_of a.now 1) ≡ g
    → is_open (block_of b.now 1) ≡ g
still_gate a b g r is = ap (λ (m : Moment). is_open (block_of m 1)) r.now ∙ is

-- what is asked of the device holds of its blocks
pub room_of : (size P : ℕ) (blocks : List (List ℕ)) → size ≡ length blocks
    → head_blocks size + 2 * P ≤ size → head_blocks (length blocks) ≤ length blocks
room_of size P blocks same room = omega (arith, room, same, ap bitmap_blocks same)

pub few_of : (size P : ℕ) (blocks pages : List (List ℕ)) → size ≡ length blocks
    → length pages ≡ P → P ≤ most_pages size → length pages ≤ most_pages (length blocks)
few_of size P blocks pages same counts few = omega (arith, few, counts, ap bitmap_blocks same)

-- a sync changes no block
pub reads_same : (v : View) (old mid : Content) → Syncs old mid → ReadsAs old.now v
    → ReadsAs mid.now v
reads_same v old mid s reads =
    subst (λ (h : Shelf). StandsFor v
    (record { blocks = mid.now.blocks; said = mid.now.said; shelf = h })) (sym s.shelf)
    (subst (λ (bs : List (List ℕ)). StandsFor v
    (record { blocks = bs; said = mid.now.said; shelf = old.now.shelf })) (sym s.blocks)
    (subst (λ (t : List ℕ). StandsFor v
    (record { blocks = old.now.blocks; said = t; shelf = old.now.shelf })) (sym s.said) reads))

-- behind an open gate pages were copied, and the gate was written
module _ (size P : ℕ) (a b d : Content) (r : OnlyTime a b) (size_is : size ≡ length b.now.blocks)
    (opened : is_open (block_of b.now 1) ≡ true) where
  abbrev named : ℕ → Type 0
  named = IsIn (home size P 0) (flags (has_bit_on b.now.blocks) P)

  of_recovery : (n : ℕ) → named n → IsOfRecovery P b.now.blocks n
  of_recovery n is = (
    opened,
    inr (record {
      page = is.page;
      below = is.below;
      is = omega (arith, is.is, ap bitmap_blocks size_is);
      changes = is.changes;
    }),
  )

  pub settled_home : OnlyBlocks (IsIn (home size P 0) (flags (has_bit_on b.now.blocks) P)) b d
      → OnlyBlocks (IsOfRecovery P a.now.blocks) a d
  settled_home touched =
      blocks_twice (IsOfRecovery P a.now.blocks) a b d
      (blocks_read (IsOfRecovery P a.now.blocks) a b r)
      (subst (λ (m : Moment). OnlyBlocks (IsOfRecovery P m.blocks) b d) r.now
      (blocks_more named (IsOfRecovery P b.now.blocks) of_recovery b d touched))

  pub settled_gate : (e : Content)
      → OnlyBlocks (IsIn (home size P 0) (flags (has_bit_on b.now.blocks) P)) b d
      → OnlyBlocks (λ n. n ≡ 1) d e
      → OnlyBlocks (IsOfRecovery P a.now.blocks) a e
  settled_gate e touched gate =
      blocks_twice (IsOfRecovery P a.now.blocks) a d e (settled_home touched)
      (blocks_more (λ n. n ≡ 1) (IsOfRecovery P a.now.blocks)
      (λ n is. (ap (λ (m : Moment). is_open (block_of m 1)) (sym r.now) ∙ opened, inl is)) d e
      gate)

-- only a sync came
pub unwritten_sync : (a b : Content) → Syncs a b → IsUnwritten a b
unwritten_sync a b s = record {
  blocks = s.blocks;
  images = synced (IsImage a.now) a b s (λ image is. is);
}

-- a sync came, and a read
pub unwritten_read : (a b c : Content) → Syncs a b → OnlyTime b c → IsUnwritten a c
unwritten_read a b c s r =
    let first = synced (IsImage a.now) a b s (λ image is. is) in
    record {
      blocks = ap (λ (m : Moment). m.blocks) r.now ∙ s.blocks;
      images = joined (EachImage (IsImage a.now)) a b c first
          (read_images (IsImage a.now) b c r first.now);
    }

pub recovers_none : (v : View) (a b : Content) → Syncs a b → Recovers v a b
recovers_none v a b s = inl (unwritten_sync a b s, s.time)

-- the magic was read after a sync
module _ (v : View) (a b c : Content) (s : Syncs a b) (r : OnlyTime b c)
    (room : head_blocks (length a.now.blocks) ≤ length a.now.blocks)
    (few : length v.pages ≤ most_pages (length a.now.blocks)) (none : NonePending b)
    (reads : ReadsAs a.now v) where
  magic_images : LeavesOnly (StandsFor v) b c
  magic_images = read_images (StandsFor v) b c r
      (found_leaves b v
      (subst (λ (bs : List (List ℕ)). head_blocks (length bs) ≤ length bs) (sym s.blocks) room)
      (subst (λ (bs : List (List ℕ)). length v.pages ≤ most_pages (length bs)) (sym s.blocks) few)
      none (reads_same v a b s reads))

  pub recovers_read : Recovers v a c
  recovers_read = inr (record {
    mid = b;
    time = s.time;
    first = synced (IsImage a.now) a b s (λ image is. is);
    none_pending = none;
    then = magic_images;
  })

  pub recovers_settled : (d : Content)
      → (NonePending c → ReadsAs c.now v → LeavesOnly (StandsFor v) c d) → Recovers v a d
  recovers_settled d settled = inr (record {
    mid = b;
    time = s.time;
    first = synced (IsImage a.now) a b s (λ image is. is);
    none_pending = none;
    then = joined (EachImage (StandsFor v)) b c d magic_images (settled (still_none b c r none)
        (still_reads b c v r (reads_same v a b s reads)));
  })
