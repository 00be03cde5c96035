use Rattle.std.proofs.Common.{refl}
use Rattle.gx_leaves.proofs.PlaceLemmas.{placed, place_at}
use Rattle.gx_leaves.proofs.paged.PagedLeaves.place.Goals as goal

pub returns-clause-at : goal.returns-clause-at
returns-clause-at g c =
    place_at c.args.self.now.places.items c.args.leaf _ c.index.result.now refl c.requires
    c.index.ensures

pub returns-clause-is : goal.returns-clause-is
returns-clause-is g c =
    let l = c.args.self.now in
    (placed (g.P.PageView.ground l.pages) l.places.items l.laid_out c.args.leaf c.index.result.now
    (place_at l.places.items c.args.leaf _ c.index.result.now refl c.requires
    c.index.ensures)).is

pub returns-clause-built : goal.returns-clause-built
returns-clause-built g c =
    let l = c.args.self.now in
    (placed (g.P.PageView.ground l.pages) l.places.items l.laid_out c.args.leaf c.index.result.now
    (place_at l.places.items c.args.leaf _ c.index.result.now refl c.requires
    c.index.ensures)).built
