use Rattle.std.proofs.Common.{◌≡◌, length}
use Rattle.gx_journal.proofs.ForgetLemmas.{AreLeft}
use Rattle.gx_journal.proofs.commit.clear.Given as goal

abbrev pub invariant-loop-i : goal.invariant-loop-i
invariant-loop-i l = record {
  size : length l.spilled.items ≡ length l.fn.spilled.items;
  left : AreLeft l.i l.listed.items l.spilled.items;
}
