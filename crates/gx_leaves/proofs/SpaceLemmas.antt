-- How many pages leaves take, by their kinds.
use Rattle.std.proofs.Common.{◌≡◌, ◌+◌, ◌*◌, ◌≤◌, List, length, refl, subst}
use Rattle.gx_ports.specs.declared.kinds.LeafSpec.{LeafSpec}
use Rattle.gx_ports.specs.LeafMaps.{entry_count}
use Rattle.gx_ports.specs.Roots.{root_pages}
use Rattle.gx_ports.specs.Sheets.{Sheets, Ground}
use Rattle.gx_leaves.specs.Places.{places_of, IsRoomFor}
use Rattle.gx_leaves.specs.Space.{taken_pages}
use Rattle.gx_leaves.specs.Wholeness.{maps_of, AreLaid}
use Rattle.gx_leaves.proofs.CrowdLemmas.{few_taken}
use Rattle.gx_leaves.proofs.PlaceLemmas.{laid_by, specs_back}

pub few_pages : (base : Ground) (specs : List LeafSpec) (sheets : Sheets) → IsRoomFor base specs
    → length sheets.owners ≡ base.size → AreLaid base (places_of base specs) sheets
    → taken_pages sheets ≤ base.tables + root_pages specs
    + 2 * entry_count (maps_of base (places_of base specs) sheets)
few_pages base specs sheets room many whole =
    let places = places_of base specs in
    subst (λ (ss : List LeafSpec).
    taken_pages sheets ≤ base.tables + root_pages ss + 2 * entry_count (maps_of base places sheets))
    (specs_back specs base.tables 1)
    (few_taken base places (laid_by base specs places room refl) sheets whole many)
