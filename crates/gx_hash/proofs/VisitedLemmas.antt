-- Hashed files that are checked.
use Rattle.std.proofs.Common.{ℕ, ◌+◌, ◌<◌, ◌≤◌, Bool, List}
use Rattle.gx_ports.specs.declared.page_view.PageView.{Ghosts}
use Rattle.gx_ports.specs.declared.pages.Place.{Place}
use Rattle.gx_ports.specs.Files.{IsWhole}
use Rattle.gx_ports.specs.LeafMaps.{LeafMap}
use Rattle.gx_ports.specs.Roots.{roots_of}
use Rattle.gx_ports.specs.Sheets.{Sheets, Ground}
use Rattle.gx_seen.specs.Seen.{AreAllSeen}
use Rattle.gx_chain.specs.Map.{owned_map}
use Rattle.gx_chain.proofs.PlacedChainLemmas.{IsVisiting, all_marked, chain_there}
use Rattle.gx_hash.specs.Hash.{IsHash}
use Rattle.gx_hash.specs.Visited.{ArePlaced, HasUnseenBucket, AreVisitedBuckets}
use Rattle.gx_hash.proofs.PagesLemmas.{hash_read}

-- in a whole file each page of the owner is marked in the end
pub whole_all_seen : (ground : Ground) (place : Place) (s : Sheets) (map : LeafMap)
    → IsHash ground place s map → (seen : List Bool)
    → AreVisitedBuckets ground place s (roots_of place.spec) seen → AreAllSeen s place.owner seen
whole_all_seen ground place s map h seen v q o =
    all_marked ground place.owner s (λ n. place.root + n) (ArePlaced place s) h.pages
    (roots_of place.spec) h.chains seen q v (h.owned q o)

-- where each page of the owner is marked, the file is whole
pub seen_whole : (ground : Ground) (place : Place) (s : Sheets) (seen : List Bool) → 1 ≤ place.owner
    → 1 ≤ roots_of place.spec
    → AreVisitedBuckets ground place s (roots_of place.spec) seen → AreAllSeen s place.owner seen
    → IsHash ground place s (owned_map place.owner s)
seen_whole ground place s seen some roots v all =
    hash_read ground place s v.pages some roots v.chains (λ q o. (v.seen q).0 (all q o))
    (λ i k b below on. v.placed i below k b on)

-- ---- the loop

abbrev pub IsVisitingBuckets : {S : Type 0} → Ghosts S → Place → S → S → ℕ → List Bool → Type 0
IsVisitingBuckets g place start now count seen =
    IsVisiting g place.owner (λ n. place.root + n) (ArePlaced place) start now count
    (roots_of place.spec) seen

-- in a whole file the next chain is there, and isn't seen yet
pub bucket_there : {S : Type 0} (g : Ghosts S) (place : Place) (start now : S) (n : ℕ)
    (seen : List Bool) → n < roots_of place.spec
    → IsVisitingBuckets g place start now n seen → IsWhole g (IsHash (g.ground start) place) start
    → HasUnseenBucket g now place n seen
bucket_there g place start now n seen below i whole =
    let h = whole.1.file in
    chain_there g place.owner (λ m. place.root + m) (ArePlaced place) start
    (roots_of place.spec) now n seen i h.pages h.chains h.once
    below whole.1.told (λ k b on. h.placed n k b below on)
