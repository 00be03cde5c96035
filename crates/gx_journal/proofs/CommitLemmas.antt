-- A commit whose changed pages are in their slots.
use Rattle.std.proofs.Common.{◌≡◌, inl, inr, ℕ, ◌+◌, ◌*◌, ◌≤◌, Bool, true, false, List, ◌++◌, length, IsTrue, refl, sym, ◌∙◌, ap, subst, arith, length-append, Result, Ok, Err}
use Rattle.std.specs.Prelude.{◌||◌, OnOk, is_err}
use Rattle.std.proofs.lemmas.List.{append-nil}
use Rattle.std.proofs.lemmas.List.FromFn.{length-map-range_with_len}
use Rattle.std.proofs.lemmas.Bool.{or_parts}
use Rattle.gx_laws.proofs.ListLemmas.{none_long}
use Rattle.gx_frames.specs.Pool.{Resident}
use Rattle.gx_device.specs.declared.device.Failed.{Failed}
use Rattle.gx_device.specs.Content.{Content}
use Rattle.gx_device.specs.Crash.{Image, EachImage, LeavesOnly}
use Rattle.gx_device.specs.Quiet.{IsPrefix, IsQuiet, IsOldOrNew}
use Rattle.gx_device.proofs.RunLemmas.{joined, weakened}
use Rattle.gx_layout.specs.Layout.{View, Shows, head_blocks, StandsFor, Either, AtRest, SameButChanged, Holds, with_said, with_pages}
use Rattle.gx_layout.specs.Recovered.{view_now}
use Rattle.gx_layout.specs.Calm.{Calm}
use Rattle.gx_layout.specs.CalmLaws.{calm_now, calm_leaves}
use Rattle.gx_layout.proofs.CalmLemmas.{rest_own, rest_new}
use Rattle.gx_layout.proofs.CommitLemmas.{left}
use Rattle.gx_journal.specs.Publishing.{IsPrepared, Replaces}
use Rattle.gx_journal.specs.Sources.{stored, page_of, SamePages, OnlySlots, IsListed}
use Rattle.gx_journal.specs.State.{pages_told, homes_told, head_told, CalmSince}
use Rattle.gx_journal.proofs.ForgetLemmas.{none_left}
use Rattle.gx_journal.proofs.PageLemmas.{pages_same, slots_hold, homes_stored}
use Rattle.gx_journal.proofs.OpenLemmas.{opened_kept}

-- two lists that begin with each other are one
pub prefix_both : (xs ys : List ℕ) → IsPrefix xs ys → IsPrefix ys xs → ys ≡ xs
prefix_both xs ys p q =
    let more = length-append xs p.0 in
    let less = length-append ys q.0 in
    let up = ap (λ (l : List ℕ). length l) p.1 in
    let down = ap (λ (l : List ℕ). length l) q.1 in
    p.1 ∙ ap (λ (l : List ℕ). xs ++ l) (none_long p.0 (omega (arith, more, less, up, down)))
    ∙ append-nil xs

-- slots alone were written
module _ (N P : ℕ) (kept : View) (old mid : Content) (size : kept.size ≡ N)
    (count : length kept.pages ≡ P) (rest : AtRest old.now kept)
    (slots : OnlySlots N P old mid) where
  still_calm : Calm old kept mid
  still_calm = slots.calm old kept size count
      (calm_now kept old (rest_own kept old.now rest) (sym rest.fits.shelf))

  pub spilled_rest : AtRest mid.now kept
  spilled_rest = subst (λ (s : List ℕ). AtRest mid.now (with_said kept s)) (slots.outside.said
      ∙ rest.fits.said) still_calm.now

  quiet_stands : (image : Image) → IsQuiet (Shows kept.size kept.head kept.pages) old.now
      mid.now.said image
      → StandsFor kept image
  quiet_stands image q = record {
    size = q.is.count;
    pages = q.is.replays;
    head = q.is.head_is;
    said = prefix_both old.now.said image.said q.begins
        (subst (λ (s : List ℕ). IsPrefix image.said s) slots.outside.said q.goes_on)
        ∙ rest.fits.said;
    shelf = q.shelf ∙ rest.fits.shelf;
  }

  pub spilled_images : LeavesOnly (StandsFor kept) old mid
  spilled_images =
      let q = calm_leaves old kept mid still_calm in
      weakened (EachImage (IsQuiet (Shows kept.size kept.head kept.pages) old.now mid.now.said))
      (EachImage (StandsFor kept))
      (λ m leaves image is. quiet_stands image (leaves image is)) old mid
      (record { between = q.since; past = q.past; each = q.each; now = q.last })

  -- and then each page is as it is stored
  module _ (tells : Bool) (told : IsTrue tells) (room : head_blocks N + 2 * P ≤ N)
      (was is : List Bool) (rs ss : List Resident)
      (long : length is ≡ P) (same : SamePages (page_of N P old.now.blocks was rs)
      (page_of N P mid.now.blocks is ss))
      (at_slot : (q : ℕ) → page_of N P mid.now.blocks is ss q ≡ stored N P mid.now.blocks is q)
    where
      sized_mid : N ≡ length mid.now.blocks
      sized_mid = sym size ∙ sym spilled_rest.fits.size

      room_mid : head_blocks (length mid.now.blocks) + 2 * P ≤ length mid.now.blocks
      room_mid = subst (λ (n : ℕ). head_blocks n + 2 * P ≤ n) sized_mid room

      pages_long : length (pages_told tells N P old was rs) ≡ P
      pages_long =
          ap (λ (b : Bool). length (pages_told b N P old was rs)) told
          ∙ length-map-range_with_len (page_of N P old.now.blocks was rs) 0 P

      moved : pages_told tells N P mid is ss ≡ pages_told tells N P old was rs
      moved = pages_same tells N P P old mid was is rs ss refl (λ b. same)

      pub spilled_count : length kept.pages ≡ length (pages_told tells N P old was rs)
      spilled_count = count ∙ sym pages_long

      pub spilled_long : length is ≡ length (pages_told tells N P old was rs)
      spilled_long = long ∙ sym pages_long

      pub spilled_same : SameButChanged is kept.pages (pages_told tells N P old was rs)
      spilled_same =
          subst (λ (homes : List (List ℕ)). SameButChanged is homes (pages_told tells N P old was rs))
          (opened_kept tells told P mid kept count room_mid spilled_rest)
          (subst (λ (pages : List (List ℕ)). SameButChanged is (homes_told tells P mid) pages) moved
          (homes_stored tells N P mid is ss told sized_mid at_slot))

      pub spilled_held : Holds (head_blocks kept.size) (pages_told tells N P old was rs) is mid.now
      spilled_held =
          subst (λ (n : ℕ). Holds (head_blocks n) (pages_told tells N P old was rs) is mid.now)
          (sym size)
          (subst (λ (pages : List (List ℕ)). Holds (head_blocks N) pages is mid.now) moved
          (slots_hold tells N P mid is ss told at_slot))

      -- where nothing was spilled, it is at rest with these pages
      pub none_spilled : (listed : List ℕ) → length listed ≡ 0 → IsListed is listed
          → AtRest mid.now (with_pages kept (pages_told tells N P old was rs))
      none_spilled listed empty h =
          subst (λ (s : List ℕ). AtRest mid.now
          (with_said (with_pages kept (pages_told tells N P old was rs)) s)) spilled_rest.fits.said
          (rest_new mid.now kept (pages_told tells N P old was rs) is spilled_count spilled_same
          (none_left 0 listed is (omega (arith, empty)) h.every) (rest_own kept mid.now spilled_rest))

      pub spilled_prepared : IsPrepared kept (pages_told tells N P old was rs) is mid.now
      spilled_prepared = record {
        kept_count = spilled_count;
        count = spilled_long;
        rest = spilled_rest;
        same = spilled_same;
        slots = spilled_held;
      }

  -- no page was published
  pub spilled_only : {T : Type 0} {result : Result T Failed} (pages : List (List ℕ))
      → OnOk result (AtRest mid.now (with_pages kept pages)) → Replaces kept pages old mid result
  spilled_only pages at_rest = record {
    images = left kept (with_pages kept pages) old mid spilled_images;
    at_rest = at_rest;
  }

  -- and then they were
  pub spilled_replaced : {T : Type 0} {result : Result T Failed} (pages : List (List ℕ))
      (new : Content) → Replaces kept pages mid new result → Replaces kept pages old new result
  spilled_replaced pages new then = record {
    images = joined (EachImage (Either kept (with_pages kept pages))) old mid new
        (left kept (with_pages kept pages) old mid spilled_images) then.images;
    at_rest = then.at_rest;
  }

-- what a commit leaves, in the words of the journal
module _ (tells : Bool) (told : IsTrue tells) (kept pages : List (List ℕ)) (a b : Content) where
  shown : (ps : List (List ℕ)) (image : Image) → StandsFor (view_now ps a) image
      → Shows (length a.now.blocks) (head_told tells a) ps image.blocks
  shown ps image s = record {
    count = s.size;
    replays = s.pages;
    head_is = s.head
        ∙ sym (ap (λ (t : Bool). head_told t a) told);
  }

  old_or_new : (image : Image) → Either (view_now kept a) (view_now pages a) image
      → IsOldOrNew (Shows (length a.now.blocks) (head_told tells a) kept)
      (Shows (length a.now.blocks) (head_told tells a) pages) a.now image
  old_or_new image (inl s) =
      record { is = inl (shown kept image s); said = s.said; shelf = s.shelf }
  old_or_new image (inr s) =
      record { is = inr (shown pages image s); said = s.said; shelf = s.shelf }

  pub either_images : LeavesOnly (Either (view_now kept a) (view_now pages a)) a b
      → LeavesOnly (IsOldOrNew (Shows (length a.now.blocks) (head_told tells a) kept)
      (Shows (length a.now.blocks) (head_told tells a) pages)
      a.now) a b
  either_images run = weakened (EachImage (Either (view_now kept a) (view_now pages a)))
      (EachImage (IsOldOrNew (Shows (length a.now.blocks) (head_told tells a) kept)
      (Shows (length a.now.blocks) (head_told tells a) pages)
      a.now))
      (λ m leaves image is. old_or_new image (leaves image is)) a b run

pub pages_many : (tells : Bool) (told : IsTrue tells) (N P : ℕ) (c : Content) (spilled : List Bool)
    (rs : List Resident)
    → length (pages_told tells N P c spilled rs) ≡ P
pages_many tells told N P c spilled rs =
    ap (λ (b : Bool). length (pages_told b N P c spilled rs)) told
    ∙ length-map-range_with_len (page_of N P c.now.blocks spilled rs) 0 P

-- no commit failed before this one
pub calm_committed : {T E : Type 0} (r : Result T E) (tells was bad : Bool) (P : ℕ) (c : Content)
    → was ≡ false → bad ≡ is_err r
    → OnOk r (CalmSince tells false P c c) → OnOk r (CalmSince tells (was || bad) P c c)
calm_committed (Ok x) tells was bad P c steady is calm =
    subst (λ (b : Bool). CalmSince tells b P c c) (sym (λ i. steady i || is i)) calm
calm_committed (Err e) tells was bad P c steady is calm = tt

-- where none failed, this one didn't
pub committed_still : {T E A : Type 0} (r : Result T E) (was bad : Bool) → bad ≡ is_err r
    → (was || bad) ≡ false → (was ≡ false → OnOk r A)
    → A
committed_still (Ok x) was bad is none then = then (or_parts was bad none).0
committed_still (Err e) was bad is none then =
    absurd (let f : true ≡ false = sym is ∙ (or_parts was bad none).1 in cc)
