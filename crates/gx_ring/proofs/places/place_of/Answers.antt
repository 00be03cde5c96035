use Rattle.std.proofs.Common.{◌∙◌, ap, length}
use Rattle.std.specs.Prelude.{unwrap_or}
use Rattle.gx_ring.proofs.PlaceLemmas.{place_or_end}
use Rattle.gx_ring.proofs.places.place_of.Goals as goal

pub returns : goal.returns
returns c = c.unwrap_or.ensures
    ∙ ap (λ o. unwrap_or o (length c.args.members.now)) c.first_behind.ensures
    ∙ place_or_end _ c.args.members.now
