use Rattle.gx_journal.proofs.UnchangedLemmas.{all_unchanged}
use Rattle.gx_journal.proofs.forget.forget.Goals as goal

pub returns-clause-unchanged : goal.returns-clause-unchanged
returns-clause-unchanged c = record {
  clean = λ q. all_unchanged c.loop-i.working.frames.resident q
      (λ r is. (c.loop-i.invariant.kept q r is).1);
  unspilled = c.clear.ensures.none;
}
