-- A journal over a device at rest.
use Rattle.std.proofs.Common.{◌≡◌, ℕ, ◌+◌, ◌*◌, ◌≤◌, ◌<◌, Bool, true, false, List, [], ◌∷◌, length, get_or, drop, IsTrue, refl, sym, ◌∙◌, ap, subst, arith}
use Rattle.std.specs.Prelude.{if◌then◌else◌}
use Rattle.gx_device.specs.Content.{Content, NonePending, block_of}
use Rattle.gx_layout.specs.Layout.{View, AtRest, OnlyBlocks, is_open, bitmap_blocks, first_text, head_blocks, head_in, most_pages, pages_of, slot, home}
use Rattle.gx_layout.specs.Head.{IsFormatted}
use Rattle.gx_layout.proofs.ReplayLemmas.{length-replayed, homes_long, homes_apart, rest_homes, rest_calm, closed_calm}
use Rattle.gx_layout.specs.Recovered.{view_now, replayed_pages}
use Rattle.gx_layout.specs.PlaceLaws.{pages_fit}
use Rattle.gx_device.specs.declared.device.Device as device
use Rattle.gx_journal.specs.declared.journal.Journal.{Journal}
use Rattle.gx_journal.specs.DeviceCalls.{HasPlaces}
use Rattle.gx_frames.specs.Pool.{Resident}
use Rattle.gx_journal.specs.Sources.{stored, IsCached}
use Rattle.gx_journal.proofs.PageLemmas.{pages_same}
use Rattle.gx_journal.proofs.PublishLemmas.{moved_cached, moved_pages}
use Rattle.gx_journal.specs.State.{blank, pages_told, homes_told, head_told, CalmSince}

-- room for as many pages on a device of as many blocks
pub room_at : (M N Q P : ℕ) → M ≡ N → Q ≡ P → head_blocks N + 2 * P ≤ N → head_blocks M + 2 * Q ≤ M
room_at M N Q P size count room = omega (arith, size, count, room, ap bitmap_blocks size)

-- the bitmap has a bit for each page of a journal, and its device a slot and a home
pub places_of : {D : Type 0} {g : device.Ghosts D} (j : Journal D g)
    → HasPlaces g j.device (length j.working.spilled.items)
places_of {g = g} j = record {
  few = omega (arith, j.count, pages_fit (g.size j.device) j.limit);
  room = j.room;
  limit = j.limit;
}

module _ (tells : Bool) (told : IsTrue tells) (P : ℕ) (c : Content) (v : View)
    (count : length v.pages ≡ P)
    (room : head_blocks (length c.now.blocks) + 2 * P ≤ length c.now.blocks) (rest : AtRest c.now v)
  where
    pub opened_kept : homes_told tells P c ≡ v.pages
    opened_kept = ap (λ (b : Bool). homes_told b P c) told ∙ rest_homes c.now v P count room rest

    pub opened_calm : (failed : Bool) → failed ≡ false → CalmSince tells failed P c c
    opened_calm failed steady = record {
      told = told;
      steady = steady;
      count = ap (λ (pages : List (List ℕ)). length pages) (rest_homes c.now v P count room rest)
          ∙ count;
      calm = rest_calm c v P count room rest;
    }

-- the pages that recovery finds are as many as the journal has
pub replayed_many : (blocks : List (List ℕ)) (size asked count P : ℕ) → size ≡ length blocks
    → asked ≡ size → P ≡ pages_of asked → count ≡ P → length (replayed_pages blocks) ≡ count
replayed_many blocks size asked count P sized same pages made =
    length-replayed blocks ∙ ap pages_of (sym (same ∙ sized)) ∙ sym pages ∙ sym made

-- a device at rest with pages beside an earlier head has that head
pub recovered_head : (tells : Bool) (pages : List (List ℕ)) (old new : Content)
    → (IsTrue tells → AtRest new.now (view_now pages old))
    → head_told tells new ≡ head_told tells old
recovered_head true pages old new rest =
    ap (λ (n : ℕ). head_in (first_text n) new.now.blocks) (rest refl).fits.size
    ∙ (rest refl).fits.head
recovered_head false pages old new rest = refl

-- a device that is laid out
pub formatted_kept : (tells : Bool) (N P : ℕ) (a c : Content)
    → (IsTrue tells → N ≡ length a.now.blocks) → OnlyBlocks (IsFormatted N) a c
    → homes_told tells P c ≡ homes_told tells P a
formatted_kept true N P a c sized o =
    homes_apart P a.now.blocks c.now.blocks o.count (λ n high. o.blocks n
    (λ (f : IsFormatted N n).
    (let low = f.1 in let bits = ap bitmap_blocks (sized refl) in
    absurd (omega (arith, low, high, bits)))))
formatted_kept false N P a c sized o = refl

-- nothing is pending behind a closed gate
pub closed_since : (tells : Bool) (P : ℕ) (c : Content) → IsTrue tells
    → P ≡ pages_of (length c.now.blocks) → P ≤ most_pages (length c.now.blocks)
    → head_blocks (length c.now.blocks) ≤ length c.now.blocks
    → NonePending c → is_open (block_of c.now 1) ≡ false → (failed : Bool) → failed ≡ false
    → CalmSince tells failed P c c
closed_since tells P c told count few room none closed failed steady = record {
  told = told;
  steady = steady;
  count = homes_long P c.now.blocks (omega (arith, count, room));
  calm = closed_calm c P count few room none closed;
}

-- block 0 alone was written
module _ (N P : ℕ) (old new : Content) (o : OnlyBlocks (λ n. n ≡ 0) old new) where
  past : (n : ℕ) → 0 < n → get_or new.now.blocks n [] ≡ get_or old.now.blocks n []
  past n low = o.blocks n (λ (e : n ≡ 0). absurd (omega (arith, e, low)))

  pub sealed_kept : (tells : Bool) → homes_told tells P new ≡ homes_told tells P old
  sealed_kept tells = ap (λ (pages : List (List ℕ)). if tells then pages else blank P)
      (homes_apart P old.now.blocks new.now.blocks o.count (λ n high. past n (omega (arith, high))))

  pub sealed_texts : (tells : Bool) → drop 1 (head_told tells new) ≡ drop 1 (head_told tells old)
  sealed_texts true =
      let first = first_text (length old.now.blocks) in
      let same = ap (λ (n : ℕ). drop 1 (head_in (first_text n) new.now.blocks)) o.count in
      let a3 = past first (omega arith) in
      let a4 = past (first + 1) (omega arith) in
      let a5 = past (first + 2) (omega arith) in
      let a6 = past (first + 3) (omega arith) in
      same ∙ (λ i. a3 i ∷ a4 i ∷ a5 i ∷ a6 i ∷ [])
  sealed_texts false = refl

  sealed_stored : (spilled : List Bool) (q : ℕ)
      → stored N P new.now.blocks spilled q ≡ stored N P old.now.blocks spilled q
  sealed_stored spilled q =
      let at_slot = past (slot N q) (omega arith) in
      let at_home = past (home N P q) (omega arith) in
      λ i. if get_or spilled q false then at_slot i else at_home i

  pub sealed_cached : (spilled : List Bool) (rs : List Resident)
      → IsCached N P old.now.blocks spilled rs
      → IsCached N P new.now.blocks spilled rs
  sealed_cached spilled rs =
      moved_cached N P old.now.blocks new.now.blocks spilled spilled rs rs (λ q. refl)
      (sealed_stored spilled)

  pub sealed_pages : (tells : Bool) (spilled : List Bool) (rs : List Resident)
      → pages_told tells N P new spilled rs ≡ pages_told tells N P old spilled rs
  sealed_pages tells spilled rs = pages_same tells N P P old new spilled spilled rs rs refl
      (λ told. moved_pages N P old.now.blocks new.now.blocks spilled spilled rs rs (λ q. refl)
      (sealed_stored spilled))

  pub sealed_calm : (tells failed : Bool) (start : Content) → CalmSince tells failed P start old
      → NonePending new
      → CalmSince tells failed P new new
  sealed_calm tells failed start is none =
      let rest = is.calm.now in
      let same = ap bitmap_blocks o.count in
      closed_since tells P new is.told (sym is.count ∙ rest.fits.count ∙ ap pages_of (sym o.count))
      (omega (arith, rest.fits.few, is.count, same))
      (omega (arith, rest.fits.room, o.count, same)) none
      (ap is_open (past 1 (omega arith)) ∙ rest.gate) failed is.steady

-- calm says that the kept pages are at rest
pub calm_rest : (tells failed : Bool) (P : ℕ) (start c : Content) → CalmSince tells failed P start c
    → AtRest c.now (view_now (homes_told tells P c) c)
calm_rest tells failed P start c is =
    subst (λ (pages : List (List ℕ)). AtRest c.now (view_now pages c))
    (sym (ap (λ (b : Bool). homes_told b P c) is.told)) is.calm.now

-- block 0 is the first of the head
pub head_first : (tells : Bool) (c : Content) → IsTrue tells
    → get_or (head_told tells c) 0 [] ≡ block_of c.now 0
head_first tells c told = ap (λ (b : Bool). get_or (head_told b c) 0 []) told

-- the pages of calm
pub calm_count : (tells failed : Bool) (P : ℕ) (start c : Content)
    → CalmSince tells failed P start c → length (homes_told tells P c) ≡ P
calm_count tells failed P start c is = ap (λ (b : Bool). length (homes_told b P c)) is.told
    ∙ is.count
