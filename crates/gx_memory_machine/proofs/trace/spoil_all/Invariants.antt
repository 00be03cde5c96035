use Rattle.std.proofs.Common.{◌≡◌, ◌≤◌, ◌<◌, ℕ, true, false, [], length, get_or}
use Rattle.gx_memory_machine.specs.Crash.{chosen}
use Rattle.gx_memory_machine.proofs.trace.spoil_all.Given as goal

abbrev pub invariant-loop-n : goal.invariant-loop-n
invariant-loop-n l = record {
  count : length l.blocks ≡ length l.fn.blocks;
  ahead : (k : ℕ) → l.n ≤ k → get_or l.blocks k [] ≡ get_or l.fn.blocks k [];
  same : (k : ℕ) → get_or l.pending k false ≡ false
      → get_or l.blocks k [] ≡ get_or l.fn.blocks k [];
  done : (k : ℕ) → k < l.n → get_or l.pending k false ≡ true → get_or l.blocks k []
      ≡ chosen l.choice (get_or l.synced k []) (get_or l.fn.blocks k []);
}
