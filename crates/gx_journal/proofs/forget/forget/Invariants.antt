use Rattle.std.proofs.Common.{◌≡◌, ◌<◌, ℕ, Some, None, false, get_or}
use Rattle.gx_frames.specs.Pool.{Resident, find_page}
use Rattle.gx_journal.proofs.forget.forget.Given as goal

abbrev pub invariant-loop-i : goal.invariant-loop-i
invariant-loop-i l = record {
  spilled : l.working.spilled.items ≡ l.fn.working.spilled.items;
  listed : l.working.listed.items ≡ l.fn.working.listed.items;
  frames : l.working.frames.frames ≡ l.fn.working.frames.frames;
  kept : (q : ℕ) (r : Resident) → find_page q l.working.frames.resident ≡ Some r
      → (find_page q l.fn.working.frames.resident ≡ Some r) × (r.changed ≡ false);
  gone : (k : ℕ) → k < l.i
      → find_page (get_or l.fn.working.listed.items k 0) l.working.frames.resident ≡ None;
}
