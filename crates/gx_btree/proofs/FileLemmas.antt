-- The file of a tree, and a search in it.
use Rattle.std.proofs.Common.{◌≡◌, ℕ, ◌<◌, List, ap, arith}
use Rattle.gx_ports.specs.declared.kinds.LeafKind.TheVariants as kinds
use Rattle.gx_ports.specs.declared.pages.Place.{Place}
use Rattle.gx_ports.specs.Files.{IsPlace}
use Rattle.gx_ports.specs.LeafMaps.{LeafMap}
use Rattle.gx_ports.specs.Roots.{roots_of, roots_of_kind}
use Rattle.gx_ports.specs.Sheets.{Sheets, Ground, IsPast, bytes_at}
use Rattle.gx_btree.specs.Bplus.{IsBplus, IsOwned, ArePast}
use Rattle.gx_btree.specs.Hole.{IsAtHand}
use Rattle.gx_btree.specs.Tree.{BplusTree}
use Rattle.gx_btree.proofs.BoundLemmas.{ends}

pub past_of : (ground : Ground) (place : Place) (sheets : Sheets) (map : LeafMap)
    → IsBplus ground place sheets map
    → ArePast ground place.owner sheets
past_of ground place sheets map b q o = b.past q ((b.owned q).0 o)

pub place_past : (ground : Ground) (place : Place) → IsPlace ground place
    → place.spec.kind ≡ kinds.Bplus → IsPast ground place.root
place_past ground place p kind =
    let r : roots_of place.spec ≡ 1 = ap roots_of_kind kind in
    record { past = p.past; below = (let b = p.below in omega (arith, b, r)) }

-- a search ends within so many steps as there are pages
pub descent_ends : {steps : ℕ} (ground : Ground) (owner : ℕ) (sheets : Sheets) (root at : ℕ)
    (key : List ℕ)
    (old : BplusTree) → ArePast ground owner sheets
    → IsAtHand (bytes_at sheets) (IsOwned owner sheets) root at key old steps → steps < ground.size
descent_ends ground owner sheets root at key old past h =
    ends (bytes_at sheets) (IsOwned owner sheets) root at key old ground.size h
    (λ q o. (past q o).below)
