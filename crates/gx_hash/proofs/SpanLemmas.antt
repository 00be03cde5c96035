-- The entries of a hashed file inside a span.
use Rattle.std.proofs.Common.{◌≡◌, ℕ, ◌+◌, ◌<◌, ◌≤◌, true, List}
use Rattle.gx_values.specs.Keys.{is_inside}
use Rattle.gx_ports.specs.declared.leaves.Entry.{Entry as LeafEntry}
use Rattle.gx_ports.specs.declared.pages.Place.{Place}
use Rattle.gx_ports.specs.LeafMaps.{LeafMap}
use Rattle.gx_ports.specs.Roots.{roots_of}
use Rattle.gx_ports.specs.Sheets.{Sheets, Ground}
use Rattle.gx_chain.specs.Chains.{AreGathered}
use Rattle.gx_chain.specs.Collect.{inside_on}
use Rattle.gx_chain.proofs.SpanLemmas.{pages_between, between_gathered}
use Rattle.gx_hash.specs.Buckets.{hash_bucket}
use Rattle.gx_hash.specs.Hash.{IsHash}
use Rattle.gx_hash.proofs.PagesLemmas.{hash_chains}

-- all of them stand on the chains of the buckets of its keys
pub gathered : (ground : Ground) (place : Place) (s : Sheets) (map : LeafMap)
    (h : IsHash ground place s map) (lo hi : List ℕ)
    (found : List LeafEntry) (from end : ℕ) → from ≤ end → end ≤ roots_of place.spec
    → ((key : List ℕ) → is_inside lo hi key ≡ true → (from ≤ hash_bucket place.spec key)
    × (hash_bucket place.spec key < end))
    → found ≡ inside_on s lo hi (pages_between h.pages from end) → AreGathered s lo hi map found
gathered ground place s map h lo hi found from end low high inside is =
    between_gathered ground place.owner s (λ n. place.root + n) (hash_bucket place.spec)
    (roots_of place.spec) h.pages
    (hash_chains ground place s map h) from end low high lo hi map h.map_is inside found is
