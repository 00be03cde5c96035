use Rattle.gx_gather.proofs.Each.{AreEachUpTo}
use Rattle.gx_gather.proofs.gather.gather_each.Given as goal

abbrev pub invariant-loop-rec : goal.invariant-loop-rec
invariant-loop-rec g l =
    AreEachUpTo (g.M.Mapping.rule l.mapping) l.child l.rec-index l.fn.recs l.recs
