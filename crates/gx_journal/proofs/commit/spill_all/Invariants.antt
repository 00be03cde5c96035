use Rattle.std.proofs.Common.{◌≡◌, ◌<◌, ◌-◌, ℕ, false, Ok, length, get_or}
use Rattle.gx_frames.specs.Pool.{IsChanged}
use Rattle.gx_journal.specs.WorkingCalls.{KeepsWorking}
use Rattle.gx_journal.proofs.commit.spill_all.Given as goal

abbrev pub invariant-loop-p : goal.invariant-loop-p
invariant-loop-p g l = record {
  keeps : KeepsWorking g.D.Device {T = Unit {0}} l.fn.device l.device l.fn.working l.working
      (Ok tt);
  idle : ((q : ℕ) → IsChanged l.fn.working.frames q → ⊥) → (l.device ≡ l.fn.device) ×
      (l.working ≡ l.fn.working);
  untouched : ((q : ℕ) → get_or l.working.spilled.items q false ≡ false)
      → l.working ≡ l.fn.working;
  below : (q : ℕ) → q < l.from → IsChanged l.working.frames q → ⊥;
}

abbrev pub decreases-loop-p : goal.decreases-loop-p
decreases-loop-p g l = length l.working.spilled.items - l.from
