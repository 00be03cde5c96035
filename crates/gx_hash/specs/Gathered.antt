-- The entries of a hashed file inside a span.
use Rattle.std.specs.Prelude.{◌≡◌, ◌<◌, ◌≤◌, ℕ, true, List, Option, MatchOption}
use Rattle.gx_values.specs.Keys.{is_inside}
use Rattle.gx_ports.specs.declared.kinds.LeafSpec.{LeafSpec}
use Rattle.gx_hash.specs.Buckets.{hash_bucket}

-- each key inside the span has this bucket, where there is one
abbrev pub IsOnlyBucket : LeafSpec → List ℕ → List ℕ → Option ℕ → Type 0
IsOnlyBucket spec lo hi bucket =
    MatchOption bucket (Unit {0}) (λ b. (key : List ℕ) → is_inside lo hi key ≡ true
    → hash_bucket spec key ≡ b)

-- each key inside the span has a bucket from one up to another
abbrev pub HaveBuckets : LeafSpec → List ℕ → List ℕ → ℕ → ℕ → Type 0
HaveBuckets spec lo hi from end = (key : List ℕ) → is_inside lo hi key ≡ true
    → (from ≤ hash_bucket spec key) × (hash_bucket spec key < end)
