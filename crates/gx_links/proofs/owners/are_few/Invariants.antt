use Rattle.std.proofs.Common.{◌≤◌, take, length}
use Rattle.gx_mapping.specs.Rule.{In}
use Rattle.gx_links.specs.declared.pairs.Owned.{Owned}
use Rattle.gx_links.specs.Links.{most_members}
use Rattle.gx_links.proofs.owners.are_few.Given as goal

abbrev pub invariant-loop-owned : goal.invariant-loop-owned
invariant-loop-owned l = (g : Owned) → In g (take l.owned-index l.owned-items)
    → length g.members ≤ most_members
