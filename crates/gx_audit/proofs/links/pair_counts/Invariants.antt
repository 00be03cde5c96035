use Rattle.std.proofs.Common.{◌≡◌, List, length, map}
use Rattle.std.specs.FinMap as fin
use Rattle.gx_ports.specs.Calls.{Reads}
use Rattle.gx_stack.specs.Held.{AreCounts}
use Rattle.gx_model.specs.States.{File, Link}
use Rattle.gx_audit.specs.Audits.{keys_of, AreFiles, AreFirstLinks}
use Rattle.gx_audit.proofs.links.pair_counts.Given as goal

abbrev pub invariant-loop-link : goal.invariant-loop-link
invariant-loop-link g l = let b = g.B.View in record {
  found : (fs : List File) → AreFiles l.schema l.built.files (b.working l.fn.leaves) fs
      → l.keys ≡ map keys_of fs → b.whole l.fn.leaves →
      (ls : List Link) × AreFirstLinks l.schema l.built (b.working l.fn.leaves) fs l.link ls
      × (l.counts.items ≡ map fin.len ls);
  many : length l.counts.items ≡ l.link;
  entries : b.whole l.fn.leaves → AreCounts (b.working l.fn.leaves) l.fn.entries
      → AreCounts (b.working l.fn.leaves) l.entries;
  reads : Reads b l.fn.leaves l.leaves;
  whole : b.whole l.fn.leaves → b.whole l.leaves;
  counted : b.faults l.leaves ≡ b.faults l.fn.leaves;
}
