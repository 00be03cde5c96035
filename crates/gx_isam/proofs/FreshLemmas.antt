-- The pages of the owner decide whether a file is fresh.
use Rattle.std.proofs.Common.{◌≤◌, List, ℕ, sym, subst}
use Rattle.std.specs.FinMap as fin
use Rattle.gx_ports.specs.declared.pages.Place.{Place}
use Rattle.gx_ports.specs.Files.{SameFor}
use Rattle.gx_ports.specs.LeafMaps.{LeafMap}
use Rattle.gx_ports.specs.Sheets.{Sheets, Ground}
use Rattle.gx_ports.proofs.PageLemmas.{bytes_same}
use Rattle.gx_isam_index.specs.Fresh.{HasFreshBuckets}
use Rattle.gx_isam.specs.Fresh.{IsFresh}
use Rattle.gx_isam.specs.Isam.{IsIsam}

pub fresh_same : (ground : Ground) (place : Place) (s t : Sheets) (held map : LeafMap)
    → ground.tables ≤ place.root
    → SameFor ground place.owner s t → IsIsam ground place s held → IsFresh place s map
    → IsFresh place t map
fresh_same ground place s t held map past same h fresh =
    subst (λ (b : List ℕ). HasFreshBuckets b (fin.keys map))
    (sym (bytes_same s t place.root (same.bytes place.root past h.root))) fresh
