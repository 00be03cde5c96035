-- A part of a commit: blocks are written, and synced.
use Rattle.std.proofs.Common.{◌≡◌, inr, ℕ, ◌+◌, ◌<◌, Bool, List, [], length, get_or, refl, sym, ◌∙◌, ap, arith}
use Rattle.gx_device.specs.Content.{Content, Syncs, NonePending, block_of}
use Rattle.gx_device.specs.Crash.{EachImage, Through, LeavesOnly, Outside}
use Rattle.gx_device.proofs.RunLemmas.{joined, synced, guarded}
use Rattle.gx_layout.specs.Layout.{View, Names, head_blocks, home, has_bit_on, IsBitmap, IsIn, Holds, StandsFor, AtRest, SameButChanged, IsReady, IsOpened, with_pages}
use Rattle.gx_layout.specs.Besides.{Flushes}
use Rattle.gx_layout.specs.PhaseLaws.{rest_leaves, rest_bitmap, opened_homes}
use Rattle.gx_layout.proofs.CommitLemmas.{held_past, log_ready, homes_ready, home_synced}
use Rattle.gx_layout.proofs.FormatLemmas.{run_more}

-- a sync that does nothing
pub no_sync : (c : Content) → Syncs c c
no_sync c = record {
  time = inr refl;
  blocks = refl;
  kept = λ n is. is;
  said = refl;
  shelf = refl;
  script = refl;
  aside = refl;
}

-- no sync came
pub unflushed : (free : ℕ → Type 0) (a c : Content) → Through (Outside free a.now) a c
    → Flushes free a c
unflushed free a c run = record { written = c; run = run; synced = no_sync c }

same_block : (c d : Content) → Syncs c d → (n : ℕ) → block_of d.now n ≡ block_of c.now n
same_block c d s n = ap (λ (l : List (List ℕ)). get_or l n []) s.blocks

-- the bitmap is written at rest
module _ (kept : View) (a d : Content) (rest : AtRest a.now kept)
    (f : Flushes (IsBitmap kept.size) a d)
  where
    pub bitmap_leaves : LeavesOnly (StandsFor kept) a d
    bitmap_leaves =
        let first = guarded (IsBitmap kept.size) (λ m. AtRest m kept) (StandsFor kept) a f.written
        (λ m o. rest_bitmap a.now m kept o rest)
        (λ m r. rest_leaves m kept r) f.run in
        joined (EachImage (StandsFor kept)) a f.written d first
        (synced (StandsFor kept) f.written d f.synced first.now)

    pub bitmap_ready : (pages : List (List ℕ)) (changed : List Bool)
        → length kept.pages ≡ length pages → length changed ≡ length pages
        → SameButChanged changed kept.pages pages
        → Holds (head_blocks kept.size) pages changed a.now
        → NonePending d → ((p : ℕ) → p < length changed → Names changed d.now.blocks p)
        → IsReady d.now kept (with_pages kept pages) changed
    bitmap_ready pages changed counts flags same held none names =
        log_ready f.written d f.synced none kept pages changed counts flags
        (rest_bitmap a.now f.written.now kept f.run.now rest) same
        (λ p below. sym (ap (λ (l : List (List ℕ)). has_bit_on l p) f.synced.blocks)
        ∙ names p below)
        (held_past kept.size (head_blocks kept.size) pages changed a.now f.written.now (omega arith)
        f.run.now held)

-- homes of changed pages are written behind the open gate
module _ (v : View) (changed : List Bool) (free : ℕ → Type 0) (within : (n : ℕ) → free n
    → IsIn (home v.size (length v.pages) 0) changed n)
    (a d : Content) (o : IsOpened a.now v changed) (f : Flushes free a d) where
  here : Through (Outside (IsIn (home v.size (length v.pages) 0) changed) a.now) a f.written
  here = run_more free (IsIn (home v.size (length v.pages) 0) changed) within a f.written f.run

  pub homes_leave : LeavesOnly (StandsFor v) a d
  homes_leave = home_synced v changed a f.written d o here f.synced

  pub homes_flushed : NonePending d → Holds (home v.size (length v.pages) 0) v.pages changed d.now
      → IsReady d.now v v changed
  homes_flushed none held =
      homes_ready f.written d f.synced none v changed
      (opened_homes a.now f.written.now v changed here.now o)
      (λ p below on. sym (same_block f.written d f.synced (home v.size (length v.pages) 0 + p))
      ∙ held p below on)
