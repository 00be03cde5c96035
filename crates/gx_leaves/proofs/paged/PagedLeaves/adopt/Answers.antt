use Rattle.gx_leaves.proofs.PlaceLemmas.{laid_by}
use Rattle.gx_leaves.proofs.paged.PagedLeaves.adopt.Goals as goal

pub invariant_of-result : goal.invariant_of-result
invariant_of-result g c =
    record {
      laid_out = laid_by (g.P.PageView.ground c.args.pages) c.args.specs.now
          c.in-Ok.places.items c.requires c.in-Ok.ensures;
    }
