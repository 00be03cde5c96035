-- The index of keys that are laid out anew: how many buckets it has, and with which key each
-- begins.
use Rattle.std.specs.Prelude.{◌≡◌, ℕ, ◌+◌, ◌-◌, ◌*◌, ◌/◌, ◌<◌, ◌≤◌, List, length, slice_get, min, max}
use Rattle.std.specs.List.{fold}
use Rattle.gx_isam_index.specs.Index.{bucket_count, separators_of}

-- the greatest length of keys, 0 where there is none
abbrev pub longest_of : List (List ℕ) → ℕ
longest_of keys = fold (λ most key. max most (length key)) 0 keys

-- how many buckets keys have: at least eight keys each, at most 64 buckets, and no more than an
-- index page has room for
abbrev pub fresh_count : List (List ℕ) → ℕ
fresh_count keys = min 64 (min (3800 / (longest_of keys + 6)) (max 1 (length keys / 8)))

-- the number of the first entry of a bucket, counted from 0, where entries are dealt out evenly
abbrev pub begin_of : ℕ → ℕ → ℕ → ℕ
begin_of bucket count entries = bucket * entries / count

-- an index has these buckets for ascending keys, and each bucket but the first has its first key as
-- separator
pub record HasFreshBuckets (index : List ℕ) (keys : List (List ℕ)) : Type 0 where
  pub count : bucket_count index ≡ fresh_count keys
  pub separators : (bucket : ℕ) → 1 ≤ bucket → bucket < bucket_count index
      → slice_get (separators_of index) (bucket - 1)
      ≡ slice_get keys (begin_of bucket (bucket_count index) (length keys))
