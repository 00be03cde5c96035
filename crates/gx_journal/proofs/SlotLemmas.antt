-- Calls of the device that change slots alone.
use Rattle.std.proofs.Common.{◌≡◌, ◌≢◌, ℕ, Bool, true, false, Some, set, ◌<◌, List, [], length, get_or, sym, ◌∙◌, ap, subst, arith}
use Rattle.gx_device.specs.Content.{Moment, Content, Writes, OnlyTime, Silent, block_of}
use Rattle.gx_device.specs.Crash.{Outside}
use Rattle.gx_device.proofs.RunLemmas.{outside_same, outside_twice, outside_write}
use Rattle.gx_layout.specs.Layout.{is_open, slot, bitmap_blocks}
use Rattle.gx_layout.proofs.CalmLemmas.{calm_spill, calm_read}
use Rattle.std.proofs.lemmas.List.{get_or-set_same, get_or-set_other}
use Rattle.gx_frames.specs.Pool.{Resident, find_page, to_front}
use Rattle.gx_device.specs.Content.{Written}
use Rattle.gx_journal.specs.Sources.{IsSlot, OnlySlots, stored, page_of, IsCached, SamePages}
use Rattle.gx_journal.proofs.SourceLemmas.{find_front, stored_off, stored_slot, rewritten_pages, rewritten_cached}

module _ (N P : ℕ) where
  pub slots_twice : (a b c : Content) → OnlySlots N P a b → OnlySlots N P b c → OnlySlots N P a c
  slots_twice a b c first then = record {
    outside = outside_twice (IsSlot N P) a.now b.now c.now first.outside then.outside;
    script = then.script ∙ first.script;
    aside = then.aside ∙ first.aside;
    calm = λ start v at long calm. then.calm start v at long (first.calm start v at long calm);
  }

  pub slots_write : (p : ℕ) → p < P → (old new : Content) → Writes (slot N p) old new
      → OnlySlots N P old new
  slots_write p below old new w = record {
    outside = (outside_write (IsSlot N P) (slot N p) old new (omega arith, omega (arith, below))
        w).now;
    script = w.script;
    aside = w.aside;
    calm = λ start v at long calm.
        let bits = ap bitmap_blocks at in
        calm_spill start v (slot N p) old new (omega (arith, bits))
        (omega (arith, bits, long, below)) w calm;
  }

  pub slots_read : (old new : Content) → OnlyTime old new → OnlySlots N P old new
  slots_read old new r = record {
    outside = subst (λ (m : Moment). Outside (IsSlot N P) old.now m) (sym r.now)
        (outside_same (IsSlot N P) old.now);
    script = r.script;
    aside = r.aside;
    calm = λ start v at long calm. calm_read start v old new r calm;
  }

pub flags_off : (was is : List Bool) (p : ℕ) → is ≡ set was p true → (q : ℕ) → q ≢ p
    → get_or is q false ≡ get_or was q false
flags_off was is p e q ne = ap (λ (l : List Bool). get_or l q false) e
    ∙ get_or-set_other was p q true false ne

pub front_found : (p : ℕ) (rs ss : List Resident) → ss ≡ to_front p rs → (q : ℕ)
    → find_page q ss ≡ find_page q rs
front_found p rs ss e q = ap (find_page q) e ∙ find_front p q rs

-- a page is written to its slot
module _ (N P p : ℕ) (below : p < P) (old new : Content) (w : Writes (slot N p) old new)
    (was is : List Bool)
    (flags : (q : ℕ) → q ≢ p → get_or is q false ≡ get_or was q false) (rs ss : List Resident)
    (found : (q : ℕ) → find_page q ss ≡ find_page q rs) (r : Resident)
    (at : find_page p rs ≡ Some r) where
  write_off : (q : ℕ) → q ≢ p → stored N P new.now.blocks is q ≡ stored N P old.now.blocks was q
  write_off = stored_off N P old.now.blocks new.now.blocks was is p below
      (λ n ne. ap (λ (l : List (List ℕ)). get_or l n []) w.blocks
      ∙ get_or-set_other old.now.blocks (slot N p) n w.bytes [] ne) flags

  pub write_pages : SamePages (page_of N P old.now.blocks was rs) (page_of N P new.now.blocks is ss)
  write_pages = rewritten_pages N P old.now.blocks new.now.blocks was is rs ss p r at found
      write_off

  pub write_cached : r.changed ≡ true → IsCached N P old.now.blocks was rs
      → IsCached N P new.now.blocks is ss
  write_cached = rewritten_cached N P old.now.blocks new.now.blocks was is rs ss p r at found
      write_off

pub written_stored : (N P p : ℕ) (bytes : List ℕ) (old new : Content) (was is : List Bool)
    → p < length was → slot N p < length old.now.blocks
    → is ≡ set was p true → Written (slot N p) bytes old new → stored N P new.now.blocks is p ≡
    bytes
written_stored N P p bytes old new was is below room e w = stored_slot N P new.now.blocks is p bytes
    (ap (λ (l : List Bool). get_or l p false) e ∙ get_or-set_same was p true false below)
    (ap (λ (l : List (List ℕ)). get_or l (slot N p) []) w.blocks
    ∙ get_or-set_same old.now.blocks (slot N p) bytes [] room)

-- nothing was said, heard or attached
pub slots_silent : (N P : ℕ) (old new : Content) → OnlySlots N P old new → Silent old new
slots_silent N P old new o =
    record { said = o.outside.said; shelf = o.outside.shelf; script = o.script; aside = o.aside }

-- no slot is the gate
pub slots_gate : (N P : ℕ) (old new : Content) → OnlySlots N P old new
    → is_open (block_of old.now 1) ≡ false
    → is_open (block_of new.now 1) ≡ false
slots_gate N P old new o closed =
    ap is_open (o.outside.blocks 1
    (λ (s : IsSlot N P 1). (let low = s.0 in absurd (omega (arith, low))))) ∙ closed
