-- What calls on the working pages keep, and what two of them keep together.
use Rattle.std.proofs.Common.{◌≡◌, ◌≢◌, ◌<◌, ℕ, Bool, false, List, length, get_or, Result, Ok, Err, IsTrue, refl, ap, sym, subst, ◌∙◌, arith}
use Rattle.std.specs.Prelude.{IsErr}
use Rattle.gx_device.specs.declared.device.Device as device
use Rattle.gx_device.specs.declared.device.Failed.{Failed}
use Rattle.gx_device.specs.Content.{Moment}
use Rattle.gx_device.specs.Faults.{IsCounted}
use Rattle.gx_device.proofs.RunLemmas.{outside_same}
use Rattle.gx_layout.specs.Layout.{bitmap_blocks, slot}
use Rattle.gx_layout.proofs.BlockLemmas.{blocks_twice, blocks_more}
use Rattle.gx_frames.specs.Pool.{Pool, IsChanged, find_page, to_front, with_residents}
use Rattle.gx_journal.specs.declared.working.WorkingPages.{WorkingPages}
use Rattle.gx_journal.specs.DeviceCalls.{HasPlaces, ReadsOnly, WritesBlock, TouchesOnly}
use Rattle.gx_journal.specs.Publishing.{SameResidents}
use Rattle.gx_journal.specs.Sources.{IsSlot, OnlySlots, SamePages, IsCommitted, IsBody, stored, page_of, IsCached}
use Rattle.gx_journal.specs.Working.{size_in, page_in, IsCachedIn}
use Rattle.gx_journal.specs.WorkingCalls.{IsBacked, WritesSlots, KeepsWorking, KeepsHead}
use Rattle.gx_journal.proofs.CleanLemmas.{changed_at}
use Rattle.gx_layout.proofs.CallLemmas.{failed_counted}
use Rattle.gx_journal.proofs.PublishLemmas.{moved_cached, moved_pages, slots_body, committed_body}
use Rattle.gx_journal.proofs.SlotLemmas.{slots_twice, slots_read, slots_write, front_found, write_pages, write_cached}
use Rattle.gx_journal.proofs.SourceLemmas.{length_front}

-- a page that is used comes to the front
pub front_residents : (p : ℕ) (old new : Pool)
    → new ≡ with_residents old (to_front p old.resident) → SameResidents old new
front_residents p old new is = record {
  frames = ap (λ (x : Pool). x.frames) is;
  pages = ap (λ (x : Pool). x.pages) is;
  count =
      let same = ap (λ (x : Pool). length x.resident) is in
      omega (arith, same, length_front p old.resident);
  found = front_found p old.resident new.resident (ap (λ (x : Pool). x.resident) is);
}

module _ {D : Type 0} (g : device.Ghosts D) where
  -- the device has places for as many pages, and what is in a frame and hasn't changed is as stored
  pub places_kept : (d e : D) (P Q : ℕ) → Q ≡ P → g.size e ≡ g.size d → HasPlaces g d P
      → HasPlaces g e Q
  places_kept d e P Q count size places =
      let bits = ap bitmap_blocks size in
      record {
        few = let few = places.few in omega (arith, few, count, bits);
        room = let room = places.room in omega (arith, room, count, size, bits);
        limit = let limit = places.limit in omega (arith, limit, size);
      }

  pub still_backed : (d e : D) (v w : WorkingPages) → size_in w ≡ size_in v
      → g.size e ≡ g.size d → IsBacked g d v
      → (IsTrue g.tells → IsCachedIn (g.size d) (size_in v) (g.content e) w) → IsBacked g e w
  still_backed d e v w size blocks backed cached = record {
    places = places_kept d e (size_in v) (size_in w) size blocks backed.places;
    cached = λ told.
        subst (λ (P : ℕ). IsCachedIn (g.size e) P (g.content e) w) (sym size)
        (subst (λ (N : ℕ). IsCachedIn N (size_in v) (g.content e) w) (sym blocks) (cached told));
  }

  slots_none : (P : ℕ) (d : D) → OnlySlots (g.size d) P (g.content d) (g.content d)
  slots_none P d = record {
    outside = outside_same (IsSlot (g.size d) P) (g.content d).now;
    script = refl;
    aside = refl;
    calm = λ start v at long calm. calm;
  }

  -- no call
  pub keeps_itself : {T : Type 0} (x : T) (d : D) (w : WorkingPages) → IsBacked g d w
      → KeepsWorking g d d w w (Ok x)
  keeps_itself x d w backed = record {
    same = λ told p. refl;
    writes = record {
      size = refl;
      blocks = refl;
      frames = refl;
      backed = backed;
      slots = slots_none (size_in w) d;
      faults = record { later = omega arith; failed = tt; same = refl };
    };
  }

  -- a call that fails where one within it did
  pub writes_slots_failed : {T U : Type 0} {d e : D} {v w : WorkingPages} {why : Failed}
      (result : Result U Failed) → IsErr result → WritesSlots g {T = T} d e v w (Err why)
      → WritesSlots g d e v w result
  writes_slots_failed result is writes = record {
    size = writes.size;
    blocks = writes.blocks;
    frames = writes.frames;
    backed = writes.backed;
    slots = writes.slots;
    faults = failed_counted result is writes.faults;
  }

  pub keeps_failed : {T U : Type 0} {d e : D} {v w : WorkingPages} {why : Failed}
      (result : Result U Failed) → IsErr result → KeepsWorking g {T = T} d e v w (Err why)
      → KeepsWorking g d e v w result
  keeps_failed result is keeps = record {
    same = keeps.same;
    writes = writes_slots_failed result is keeps.writes;
  }

  -- two calls
  pub keeps_joined : {T U : Type 0} {a b c : D} {u v w : WorkingPages} {x : T}
      {result : Result U Failed} → KeepsWorking g a b u v (Ok x)
      → KeepsWorking g b c v w result → KeepsWorking g a c u w result
  keeps_joined {a = a} {b = b} {c = c} {u = u} {v = v} {w = w} {result = result} first then =
      let size = first.writes.size in
      let blocks = first.writes.blocks in
      let second = subst (λ (P : ℕ). IsTrue g.tells
      → SamePages (page_of (g.size a) P (g.content b).now.blocks v.spilled.items
      v.frames.resident)
      (page_of (g.size a) P (g.content c).now.blocks w.spilled.items w.frames.resident))
      size
      (subst (λ (N : ℕ). IsTrue g.tells
      → SamePages (page_of N (size_in v) (g.content b).now.blocks v.spilled.items
      v.frames.resident)
      (page_of N (size_in v) (g.content c).now.blocks w.spilled.items w.frames.resident))
      blocks then.same) in
      record {
        same = λ told p. second told p ∙ first.same told p;
        writes = record {
          size = then.writes.size ∙ size;
          blocks = then.writes.blocks ∙ blocks;
          frames = then.writes.frames ∙ first.writes.frames;
          backed = then.writes.backed;
          slots = slots_twice (g.size a) (size_in u) (g.content a) (g.content b) (g.content c)
              first.writes.slots
              (subst (λ (P : ℕ). OnlySlots (g.size a) P (g.content b) (g.content c)) size
              (subst (λ (N : ℕ). OnlySlots N (size_in v) (g.content b) (g.content c)) blocks
              then.writes.slots));
          faults = subst (λ (n : ℕ). IsCounted n (g.faults c)
              result) first.writes.faults.same then.writes.faults;
        };
      }

  -- and then what stands in the frames changes
  pub writes_placed : {T : Type 0} {d e : D} {u v : WorkingPages} {result : Result T Failed}
      (w : WorkingPages) → WritesSlots g d e u v result → size_in w ≡ size_in v
      → w.frames.frames ≡ v.frames.frames
      → (IsTrue g.tells → IsCachedIn (g.size d) (size_in u) (g.content e) v
      → IsCachedIn (g.size d) (size_in u) (g.content e) w) → WritesSlots g d e u w result
  writes_placed {d = d} {e = e} {u = u} {v = v} w writes size frames cached = record {
    size = size ∙ writes.size;
    blocks = writes.blocks;
    frames = frames ∙ writes.frames;
    backed = record {
      places = places_kept e e (size_in v) (size_in w) size refl writes.backed.places;
      cached = λ told.
          subst (λ (P : ℕ). IsCachedIn (g.size e) P (g.content e) w) (sym (size ∙ writes.size))
          (subst (λ (N : ℕ). IsCachedIn N (size_in u) (g.content e) w) (sym writes.blocks)
          (cached told
          (subst (λ (N : ℕ). IsCachedIn N (size_in u) (g.content e) v) writes.blocks
          (subst (λ (P : ℕ). IsCachedIn (g.size e) P (g.content e) v) writes.size
          (writes.backed.cached told)))));
    };
    slots = writes.slots;
    faults = writes.faults;
  }

  -- and then it changes, and no page by it
  pub keeps_placed : {T : Type 0} {d e : D} {u v : WorkingPages} {result : Result T Failed}
      (w : WorkingPages) → KeepsWorking g d e u v result → size_in w ≡ size_in v
      → w.frames.frames ≡ v.frames.frames
      → (IsTrue g.tells → SamePages (page_in (g.size d) (size_in u) (g.content e) v)
      (page_in (g.size d) (size_in u) (g.content e) w))
      → (IsTrue g.tells → IsCachedIn (g.size d) (size_in u) (g.content e) v
      → IsCachedIn (g.size d) (size_in u) (g.content e) w) → KeepsWorking g d e u w result
  keeps_placed w keeps size frames same cached = record {
    same = λ told p. same told p ∙ keeps.same told p;
    writes = writes_placed w keeps.writes size frames cached;
  }

  -- and then the frames are used in another order
  pub keeps_order : {T : Type 0} {d e : D} {u v : WorkingPages} {result : Result T Failed}
      (w : WorkingPages) → KeepsWorking g d e u v result → SameResidents v.frames w.frames
      → w.spilled.items ≡ v.spilled.items → KeepsWorking g d e u w result
  keeps_order {d = d} {e = e} {u = u} {v = v} w keeps order flags =
      let N = g.size d in
      let P = size_in u in
      let blocks = (g.content e).now.blocks in
      let stands : (q : ℕ) → stored N P blocks w.spilled.items q
      ≡ stored N P blocks v.spilled.items q =
      λ q. ap (λ (l : List Bool). stored N P blocks l q) flags in
      keeps_placed w keeps (ap (λ (l : List Bool). length l) flags) order.frames
      (λ told. moved_pages N P blocks blocks v.spilled.items w.spilled.items v.frames.resident
      w.frames.resident order.found stands)
      (λ told. moved_cached N P blocks blocks v.spilled.items w.spilled.items v.frames.resident
      w.frames.resident order.found stands)

  -- and then the device is read
  pub keeps_read : {T U : Type 0} {d e f : D} {v w : WorkingPages} {x : T}
      {result : Result U Failed} → KeepsWorking g d e v w (Ok x) → ReadsOnly g e f result
      → KeepsWorking g d f v w result
  keeps_read {d = d} {e = e} {f = f} {v = v} {w = w} keeps reads =
      let now = reads.rest.now in
      keeps_joined keeps (record {
        same = λ told p. ap (λ (m : Moment).
            page_of (g.size e) (size_in w) m.blocks w.spilled.items w.frames.resident p) now;
        writes = record {
          size = refl;
          blocks = reads.size;
          frames = refl;
          backed = still_backed e f w w refl reads.size keeps.writes.backed (λ told.
              subst (λ (m : Moment).
              IsCached (g.size e) (size_in w) m.blocks w.spilled.items w.frames.resident) (sym now)
              (keeps.writes.backed.cached told));
          slots = slots_read (g.size e) (size_in w) (g.content e) (g.content f) reads.rest;
          faults = reads.faults;
        };
      })

  -- a changed page is written to its slot, and may be flagged
  pub slot_written : {T : Type 0} {result : Result T Failed} (p : ℕ) (d e : D)
      (v w : WorkingPages) → p < size_in v → IsChanged v.frames p → IsBacked g d v
      → WritesBlock g (slot (g.size d) p) d e result → size_in w ≡ size_in v
      → ((q : ℕ) → q ≢ p
      → get_or w.spilled.items q false ≡ get_or v.spilled.items q false)
      → w.frames ≡ with_residents v.frames (to_front p v.frames.resident)
      → KeepsWorking g d e v w result
  slot_written p d e v w below changed backed write size flags front =
      let r = changed_at (find_page p v.frames.resident) changed in
      let order = front_residents p v.frames w.frames front in
      let N = g.size d in
      record {
        same = λ told. write_pages N (size_in v) p below (g.content d) (g.content e) write.rest
            v.spilled.items w.spilled.items flags v.frames.resident w.frames.resident order.found
            r.0 r.1;
        writes = record {
          size = size;
          blocks = write.size;
          frames = order.frames;
          backed = still_backed d e v w size write.size backed (λ told.
              write_cached N (size_in v) p below (g.content d) (g.content e) write.rest
              v.spilled.items w.spilled.items flags v.frames.resident w.frames.resident
              order.found r.0 r.1 r.2 (backed.cached told));
          slots = slots_write N (size_in v) p below (g.content d) (g.content e) write.rest;
          faults = write.faults;
        };
      }

  -- the slots are no part of the head
  pub head_spilled : {T : Type 0} {d e : D} {v w : WorkingPages} {result : Result T Failed}
      → WritesSlots g d e v w result → KeepsHead g d e v w result
  head_spilled {d = d} {e = e} {v = v} writes = record {
    size = writes.size;
    frames = writes.frames;
    backed = writes.backed;
    touches = record {
      rest = slots_body (g.size d) (size_in v) (g.content d) (g.content e) writes.slots;
      size = writes.blocks;
      faults = writes.faults;
    };
  }

  -- nor is what a commit writes then
  pub head_published : {T U : Type 0} {d e f : D} {u v : WorkingPages} {x : T}
      {result : Result U Failed} (w : WorkingPages) (listed : List ℕ)
      → WritesSlots g d e u v (Ok x)
      → TouchesOnly g (IsCommitted (g.size e) (size_in v) listed) e f result
      → size_in w ≡ size_in v → w.frames.frames ≡ v.frames.frames
      → (IsTrue g.tells → IsCachedIn (g.size d) (size_in u) (g.content e) v
      → IsCachedIn (g.size d) (size_in u) (g.content f) w) → KeepsHead g d f u w result
  head_published {d = d} {e = e} {f = f} {u = u} {v = v} {result = result} w listed writes
      touches size frames cached =
      let blocks = touches.size ∙ writes.blocks in
      record {
        size = size ∙ writes.size;
        frames = frames ∙ writes.frames;
        backed = record {
          places = places_kept e f (size_in v) (size_in w) size touches.size writes.backed.places;
          cached = λ told.
              subst (λ (P : ℕ). IsCachedIn (g.size f) P (g.content f) w)
              (sym (size ∙ writes.size))
              (subst (λ (N : ℕ). IsCachedIn N (size_in u) (g.content f) w) (sym blocks)
              (cached told
              (subst (λ (N : ℕ). IsCachedIn N (size_in u) (g.content e) v) writes.blocks
              (subst (λ (P : ℕ). IsCachedIn (g.size e) P (g.content e) v) writes.size
              (writes.backed.cached told)))));
        };
        touches = record {
          rest = blocks_twice (IsBody (g.size d)) (g.content d) (g.content e) (g.content f)
              (slots_body (g.size d) (size_in u) (g.content d) (g.content e) writes.slots)
              (blocks_more (IsCommitted (g.size e) (size_in v) listed) (IsBody (g.size d))
              (λ n is. subst (λ (N : ℕ). IsBody N n) writes.blocks
              (committed_body (g.size e) (size_in v) listed n is)) (g.content e) (g.content f)
              touches.rest);
          size = blocks;
          faults = subst (λ (n : ℕ). IsCounted n (g.faults f) result) writes.faults.same
              touches.faults;
        };
      }
