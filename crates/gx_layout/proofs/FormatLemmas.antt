-- A device that is laid out.
use Rattle.std.proofs.Common.{◌≡◌, inl, inr, ℕ, ◌+◌, ◌-◌, ◌/◌, ◌%◌, ◌<◌, ◌≤◌, List, [], ◌∷◌, ◌++◌, length, get_or, replicate, refl, sym, ◌∙◌, ap, arith, length-append, append_assoc}
use Rattle.std.proofs.lemmas.List.{replicate-append-replicate, length-replicate, get_or-set_same, get_or-set_other}
use Rattle.std.proofs.lemmas.Bool.{cases_eq}
use Rattle.gx_bytes.specs.Parts.{overwritten}
use Rattle.gx_bytes.proofs.PartLemmas.{overwritten-same}
use Rattle.gx_device.specs.Content.{Content, Written, Syncs, block_of}
use Rattle.gx_device.specs.Crash.{EachImage, Through, LeavesOnly, Outside}
use Rattle.gx_layout.proofs.BlockLemmas.{blocks_twice, blocks_more}
use Rattle.gx_device.proofs.RunLemmas.{joined, weakened, synced, outside_joined, outside_more}
use Rattle.gx_layout.specs.declared.bitmap.TheConstants.{BITS}
use Rattle.gx_layout.specs.PlaceLaws.{bit_block}
use Rattle.gx_layout.specs.Layout.{OnlyBlocks, first_text, most_pages, IsBitmap, has_bit, has_bit_on, head_of}
use Rattle.gx_layout.specs.Head.{IsText, IsFormatted, block_in}
use Rattle.gx_layout.specs.Besides.{IsImageBesides}

-- a part is written over the first of the zeros
filled : (front part : List ℕ) (n at : ℕ) → length front ≡ at → length part ≤ n
    → overwritten (front ++ replicate n 0) at part ≡ (front ++ part)
    ++ replicate (n - length part) 0
filled front part n at here fits =
    let gap = replicate {A = ℕ} (length part) 0 in
    let back = replicate {A = ℕ} (n - length part) 0 in
    let zeros : replicate n 0 ≡ gap ++ back =
    ap (λ (k : ℕ). replicate {A = ℕ} k 0) (omega (arith, fits))
    ∙ sym (replicate-append-replicate (length part) (n - length part) 0) in
    ap (λ (xs : List ℕ). overwritten (front ++ xs) at part) zeros
    ∙ overwritten-same front gap part back at here (length-replicate (length part) 0)
    ∙ sym (append_assoc front part back)

-- four parts are, one behind the other
pub laid : (n : ℕ) (a b s e : List ℕ) (w x y z : List ℕ) → length a ≡ 2 → length b ≡ 2
    → 4 + (length s + length e) ≤ n
    → w ≡ overwritten (replicate n 0) 0 a → x ≡ overwritten w 2 b → y ≡ overwritten x 4 s
    → z ≡ overwritten y (4 + length s) e
    → z ≡ (((a ++ b) ++ s) ++ e) ++ replicate (n - length (((a ++ b) ++ s) ++ e)) 0
laid n a b s e w x y z la lb fits ew ex ey ez =
    let ab = length-append a b in
    let abs = length-append (a ++ b) s in
    let abse = length-append ((a ++ b) ++ s) e in
    let w_is : w ≡ a ++ replicate (n - length a) 0 =
    ew ∙ filled [] a n 0 refl (omega (arith, la, fits)) in
    let x_is : x ≡ (a ++ b) ++ replicate ((n - length a) - length b) 0 =
    ex ∙ ap (λ (l : List ℕ). overwritten l 2 b) w_is
    ∙ filled a b (n - length a) 2 la (omega (arith, la, lb, fits)) in
    let y_is : y ≡ ((a ++ b) ++ s) ++ replicate (((n - length a) - length b) - length s) 0 =
    ey ∙ ap (λ (l : List ℕ). overwritten l 4 s) x_is
    ∙ filled (a ++ b) s ((n - length a) - length b) 4 (omega (arith, ab, la, lb))
    (omega (arith, la, lb, fits)) in
    ez ∙ ap (λ (l : List ℕ). overwritten l (4 + length s) e) y_is
    ∙ filled ((a ++ b) ++ s) e (((n - length a) - length b) - length s) (4 + length s)
    (omega (arith, abs, ab, la, lb))
    (omega (arith, la, lb, fits))
    ∙ ap (λ (k : ℕ). (((a ++ b) ++ s) ++ e) ++ replicate {A = ℕ} k 0)
    (omega (arith, abse, abs, ab, la, lb, fits))

-- a run outside of fewer blocks
pub run_more : (free more : ℕ → Type 0) → ((n : ℕ) → free n → more n) → (a b : Content)
    → Through (Outside free a.now) a b
    → Through (Outside more a.now) a b
run_more free more within a b run =
    weakened (Outside free a.now) (Outside more a.now)
    (λ m o. outside_more free more within a.now m o) a b run

-- what is left outside of free blocks
pub besides : (free : ℕ → Type 0) (a b : Content) → Through (Outside free a.now) a b
    → LeavesOnly (IsImageBesides free a.now) a b
besides free a b run = weakened (Outside free a.now) (EachImage (IsImageBesides free a.now))
    (λ m o image is. record {
      said = is.said ∙ o.said;
      shelf = is.shelf ∙ o.shelf;
      count = is.count ∙ o.count;
      same = λ n below taken firm. is.same n (omega (arith, below, o.count)) (o.pending n taken
          ∙ firm)
          ∙ o.blocks n taken;
    }) a b run

pub besides_synced : (free : ℕ → Type 0) (a b c : Content) → Through (Outside free a.now) a b
    → Syncs b c
    → LeavesOnly (IsImageBesides free a.now) a c
besides_synced free a b c run s =
    let first = besides free a b run in
    joined (EachImage (IsImageBesides free a.now)) a b c first
    (synced (IsImageBesides free a.now) b c s first.now)

-- one more text block is written
pub more_texts : (first : ℕ) (area : List ℕ) (i : ℕ) (bytes : List ℕ) (mid new : Content)
    → first + i < length mid.now.blocks → bytes ≡ block_in area i
    → Written (first + i) bytes mid new
    → ((k : ℕ) → k < i → block_of mid.now (first + k) ≡ block_in area k) → (k : ℕ) → k < i + 1
    → block_of new.now (first + k) ≡ block_in area k
more_texts first area i bytes mid new room is w so_far k below = elim (cases_eq k i) [
  | inl same ↦
      ap (λ (n : ℕ). block_of new.now (first + n)) same
      ∙ ap (λ (l : List (List ℕ)). get_or l (first + i) []) w.blocks
      ∙ get_or-set_same mid.now.blocks (first + i) bytes [] room
      ∙ is ∙ ap (λ (n : ℕ). block_in area n) (sym same)
  | inr other ↦
      ap (λ (l : List (List ℕ)). get_or l (first + k) []) w.blocks
      ∙ get_or-set_other mid.now.blocks (first + i) (first + k) bytes []
      (λ (e : first + k ≡ first + i). other (omega arith))
      ∙ so_far k (omega (arith, below, other))
]

-- the head after all are written
pub laid_head : (size : ℕ) (area all : List ℕ) (a d : Content) → length d.now.blocks ≡ size
    → area ≡ all → OnlyBlocks (IsFormatted size) a d
    → ((i : ℕ) → i < 4 → block_of d.now (first_text size + i) ≡ block_in area i)
    → head_of d.now.blocks ≡ block_of a.now 0 ∷ block_in all 0 ∷ block_in all 1 ∷ block_in all 2
    ∷ block_in all 3 ∷ []
laid_head size area all a d long is o texts =
    let a0 = o.blocks 0 (λ (f : IsFormatted size 0). (
    let low = f.0 in
    absurd (omega (arith, low))
    )) in
    let text : (k : ℕ) → k < 4
    → block_of d.now (first_text (length d.now.blocks) + k) ≡ block_in all k =
    λ k below. ap (λ (n : ℕ). block_of d.now (first_text n + k)) long ∙ texts k below
    ∙ ap (λ (l : List ℕ). block_in l k) is in
    let first : block_of d.now (first_text (length d.now.blocks)) ≡ block_in all 0 =
    ap (block_of d.now) (omega arith) ∙ text 0 (omega arith) in
    let a1 = text 1 (omega arith) in
    let a2 = text 2 (omega arith) in
    let a3 = text 3 (omega arith) in
    λ i. a0 i ∷ first i ∷ a1 i ∷ a2 i ∷ a3 i ∷ []

-- the gate, the bitmap and the text blocks are written
pub of_gate : (size n : ℕ) → n ≡ 1 → IsFormatted size n
of_gate size n is = (omega (arith, is), omega (arith, is))

pub of_bitmap : (size n : ℕ) → IsBitmap size n → IsFormatted size n
of_bitmap size n is = (omega (arith, is.0), omega (arith, is.1))

pub of_texts : (size n : ℕ) → IsText size n → IsFormatted size n
of_texts size n is = (omega (arith, is.0), is.1)

module _ (size : ℕ) (a b c : Content) (gate : Through (Outside (λ n. n ≡ 1) a.now) a b)
    (bitmap : Through (Outside (IsBitmap size) b.now) b c) where
  pub laid_bitmap : Through (Outside (IsFormatted size) a.now) a c
  laid_bitmap = outside_joined (IsFormatted size) a b c
      (run_more (λ n. n ≡ 1) (IsFormatted size) (of_gate size) a b gate)
      (run_more (IsBitmap size) (IsFormatted size) (of_bitmap size) b c bitmap)

  pub laid_texts : (d : Content) → Through (Outside (IsText size) c.now) c d
      → Through (Outside (IsFormatted size) a.now) a d
  laid_texts d texts = outside_joined (IsFormatted size) a c d laid_bitmap
      (run_more (IsText size) (IsFormatted size) (of_texts size) c d texts)

module _ (size : ℕ) (a b c : Content) (gate : OnlyBlocks (λ n. n ≡ 1) a b)
    (bitmap : OnlyBlocks (IsBitmap size) b c) where
  pub laid_two : OnlyBlocks (IsFormatted size) a c
  laid_two = blocks_twice (IsFormatted size) a b c
      (blocks_more (λ n. n ≡ 1) (IsFormatted size) (of_gate size) a b gate)
      (blocks_more (IsBitmap size) (IsFormatted size) (of_bitmap size) b c bitmap)

  pub laid_three : (d : Content) → OnlyBlocks (IsText size) c d → OnlyBlocks (IsFormatted size) a d
  laid_three d texts = blocks_twice (IsFormatted size) a c d laid_two
      (blocks_more (IsText size) (IsFormatted size) (of_texts size) c d texts)

-- the text blocks have no bits
pub laid_bits : (size : ℕ) (d e : Content) → OnlyBlocks (IsText size) d e → (p : ℕ)
    → p < most_pages size → has_bit_on e.now.blocks p ≡ has_bit_on d.now.blocks p
laid_bits size d e o p below =
    let at = bit_block size p (most_pages size) below (omega arith) in
    ap (λ (b : List ℕ). has_bit b (p % BITS)) (o.blocks (2 + p / BITS)
    (λ (text : IsText size (2 + p / BITS)). absurd (omega (arith, at.1, text.0))))
