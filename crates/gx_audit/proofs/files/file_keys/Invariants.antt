use Rattle.std.proofs.Common.{◌≡◌, List, length, map}
use Rattle.gx_ports.specs.Calls.{Reads}
use Rattle.gx_stack.specs.Held.{AreCounts}
use Rattle.gx_model.specs.States.{File}
use Rattle.gx_audit.specs.Audits.{keys_of, AreFirstFiles}
use Rattle.gx_audit.proofs.files.file_keys.Given as goal

abbrev pub invariant-loop-file : goal.invariant-loop-file
invariant-loop-file g l = let b = g.B.View in record {
  found : b.whole l.fn.leaves
      → (fs : List File) × AreFirstFiles l.schema l.built.files (b.working l.fn.leaves) l.file fs
      × (l.keys.items ≡ map keys_of fs);
  many : length l.keys.items ≡ l.file;
  entries : b.whole l.fn.leaves → AreCounts (b.working l.fn.leaves) l.fn.entries
      → AreCounts (b.working l.fn.leaves) l.entries;
  reads : Reads b l.fn.leaves l.leaves;
  whole : b.whole l.fn.leaves → b.whole l.leaves;
  counted : b.faults l.leaves ≡ b.faults l.fn.leaves;
}
