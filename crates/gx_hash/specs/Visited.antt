-- What is found of a hashed file that is checked.
use Rattle.std.specs.Prelude.{ℕ, ◌+◌, Bool, List}
use Rattle.gx_ports.specs.declared.page_view.PageView.{Ghosts}
use Rattle.gx_ports.specs.declared.pages.Place.{Place}
use Rattle.gx_ports.specs.Sheets.{Sheets, Ground}
use Rattle.gx_chain.specs.Placed.{HaveBucket, IsPlacedChain, HasPlacedChain, ArePlacedChains}
use Rattle.gx_hash.specs.Buckets.{hash_bucket}

-- the keys of these pages are those of a bucket
abbrev pub ArePlaced : Place → Sheets → ℕ → List ℕ → Type 0
ArePlaced place sheets = HaveBucket (hash_bucket place.spec) sheets

-- One chain with the keys of the bucket begins at its root, and its pages are marked beside those
-- that were marked before.
abbrev pub IsVisitedBucket : Ground → Place → Sheets → ℕ → List Bool → List Bool → Type 0
IsVisitedBucket the_ground place sheets bucket =
    IsPlacedChain the_ground place.owner sheets (place.root + bucket)
    (ArePlaced place sheets bucket)

-- the pages tell what the device holds, and such a chain stands there of which no page is marked
abbrev pub HasUnseenBucket : {S : Type 0} → Ghosts S → S → Place → ℕ → List Bool → Type 0
HasUnseenBucket g p place bucket =
    HasPlacedChain g p place.owner (place.root + bucket) (ArePlaced place (g.working p) bucket)

-- the first chains were visited, and their pages are marked
abbrev pub AreVisitedBuckets : Ground → Place → Sheets → ℕ → List Bool → Type 0
AreVisitedBuckets the_ground place sheets =
    ArePlacedChains the_ground place.owner sheets (λ bucket. place.root + bucket)
    (ArePlaced place sheets)
