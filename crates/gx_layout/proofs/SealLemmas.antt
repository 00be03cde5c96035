-- The magic is written over pages at rest.
use Rattle.std.proofs.Common.{◌≡◌, inr, ℕ, ◌+◌, ◌<◌, false, List, [], ◌∷◌, length, get_or, drop, refl, sym, ◌∙◌, ap, arith}
use Rattle.std.proofs.lemmas.List.{get_or-set_same}
use Rattle.gx_bytes.specs.Parts.{overwritten}
use Rattle.gx_device.specs.Content.{Moment, Content, Writes, Written, Syncs, block_of, is_pending}
use Rattle.gx_device.specs.Crash.{Image, IsImage, EachImage, LeavesOnly, Outside}
use Rattle.gx_device.proofs.RunLemmas.{joined, weakened, synced, outside_write}
use Rattle.gx_layout.specs.Layout.{View, AtRest, IsHead, is_open, first_text, head_in, pages_of, home}
use Rattle.gx_layout.specs.Places.{magic_of}
use Rattle.gx_layout.specs.Head.{HasMagic}
use Rattle.gx_layout.specs.Besides.{IsUnsealed}
use Rattle.gx_layout.specs.PhaseLaws.{shut}

pub has_magic : (size : ℕ) (block zeros : List ℕ) → block ≡ overwritten zeros 0 (magic_of size)
    → HasMagic size block
has_magic size block zeros is = (drop (0 + length (magic_of size)) zeros, is)

-- the block was written, and then synced
pub magic_stands : (size : ℕ) (block : List ℕ) (a b c : Content) → 0 < length a.now.blocks
    → Written 0 block a b → Syncs b c → HasMagic size block
    → HasMagic size (block_of c.now 0)
magic_stands size block a b c room w s is =
    let at : block_of c.now 0 ≡ block =
    ap (λ (l : List (List ℕ)). get_or l 0 []) s.blocks
    ∙ ap (λ (l : List (List ℕ)). get_or l 0 []) w.blocks
    ∙ get_or-set_same a.now.blocks 0 block [] room in
    (is.0, at ∙ is.1)

module _ (v : View) (a m : Moment) (rest : AtRest a v) (o : Outside (λ n. n ≡ 0) a m)
    (image : Image) (is : IsImage m image) where
  stays : (n : ℕ) → 0 < n → n < length a.blocks → is_pending a n ≡ false
      → get_or image.blocks n [] ≡ block_of a n
  stays n past below firm =
      is.same n (omega (arith, below, o.count))
      (o.pending n (λ (e : n ≡ 0). absurd (omega (arith, e, past))) ∙ firm)
      ∙ o.blocks n (λ (e : n ≡ 0). absurd (omega (arith, e, past)))

  sized : length image.blocks ≡ v.size
  sized = is.count ∙ o.count ∙ rest.fits.size

  text_stays : (k : ℕ) → k < 4
      → get_or image.blocks (first_text v.size + k) [] ≡ block_of a (first_text v.size + k)
  text_stays k below =
      let at : IsHead v.size (first_text v.size + k) = inr (omega arith, omega (arith, below)) in
      stays (first_text v.size + k) (omega arith)
      (omega (arith, below, rest.fits.room, rest.fits.size))
      (rest.fits.head_kept (first_text v.size + k) at)

  gate_stays : is_open (get_or image.blocks 1 []) ≡ false
  gate_stays = ap is_open (stays 1 (omega arith) (omega (arith, rest.fits.room, rest.fits.size))
      rest.gate_kept)
      ∙ rest.gate

  pub unsealed : IsUnsealed v image
  unsealed =
      let P = length v.pages in
      let first = first_text v.size in
      let a0 : get_or image.blocks first [] ≡ block_of a first =
      ap (λ (n : ℕ). get_or image.blocks n []) (omega arith) ∙ text_stays 0 (omega arith)
      ∙ ap (block_of a) (omega arith) in
      let a1 = text_stays 1 (omega arith) in
      let a2 = text_stays 2 (omega arith) in
      let a3 = text_stays 3 (omega arith) in
      record {
        size = sized;
        pages = record {
          count = rest.fits.count ∙ ap pages_of (sym sized);
          each = λ p below. shut P image.blocks p gate_stays
              ∙ ap (λ (n : ℕ). get_or image.blocks (home n P p) []) sized
              ∙ stays (home v.size P p) (omega arith)
              (omega (arith, below, rest.fits.count, rest.fits.room, rest.fits.size))
              (rest.homes p below).kept
              ∙ (rest.homes p below).reads;
        };
        texts = ap (λ (n : ℕ). drop 1 (head_in (first_text n) image.blocks)) sized
            ∙ (λ i. a0 i ∷ a1 i ∷ a2 i ∷ a3 i ∷ [])
            ∙ ap (λ (h : List (List ℕ)). drop 1 h) rest.fits.head;
        said = is.said ∙ o.said ∙ rest.fits.said;
        shelf = is.shelf ∙ o.shelf ∙ rest.fits.shelf;
      }

pub unsealed_images : (v : View) (a b : Content) → AtRest a.now v → Writes 0 a b
    → LeavesOnly (IsUnsealed v) a b
unsealed_images v a b rest w =
    weakened (Outside (λ n. n ≡ 0) a.now) (EachImage (IsUnsealed v))
    (λ m o image is. unsealed v a.now m rest o image is) a b
    (outside_write (λ n. n ≡ 0) 0 a b refl w)

pub unsealed_synced : (v : View) (a b c : Content) → AtRest a.now v → Writes 0 a b → Syncs b c
    → LeavesOnly (IsUnsealed v) a c
unsealed_synced v a b c rest w s =
    let first = unsealed_images v a b rest w in
    joined (EachImage (IsUnsealed v)) a b c first (synced (IsUnsealed v) b c s first.now)
