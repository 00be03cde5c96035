use Rattle.std.proofs.Common.{◌≤◌, length, subst, sym}
use Rattle.gx_ring.proofs.PlaceLemmas.{place_within}
use Rattle.gx_ring.proofs.places.neighbours_of.Goals as goal

pub split_at-requires : goal.split_at-requires
split_at-requires c = subst (λ n. n ≤ length c.args.members.now) (sym c.place_of.ensures)
    (place_within _ c.args.members.now)
