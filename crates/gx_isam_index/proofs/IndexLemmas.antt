-- Index pages: what is read of one, and what a change makes of it.
use Rattle.std.proofs.Common.{◌≡◌, ◌≢◌, ◌⊎◌, inl, inr, ℕ, ◌+◌, ◌-◌, ◌*◌, ◌^◌, ◌<◌, ◌≤◌, Bool, true, false, cond, List, ◌++◌, length, take, drop, get_or, refl, sym, ap, ap₂, ◌∙◌, subst, arith}
use Rattle.std.specs.Int.{w16, w32, to_be_bytes, from_be_bytes, from_bool}
use Rattle.std.specs.List.{count_by}
use Rattle.std.proofs.lemmas.Bool.{cases_lt}
use Rattle.std.proofs.lemmas.List.{drop_at, drop-drop, length-take-le, get_or-take, get_or-drop, get_or_append_left}
use Rattle.std.proofs.lemmas.List.Sums.{sum_by-cons}
use Rattle.gx_bytes.specs.Parts.{overwritten}
use Rattle.gx_bytes.proofs.NumberLemmas.{from_be_bytes-front_4}
use Rattle.gx_bytes.proofs.RecordLemmas.{count_behind, records-next}
use Rattle.gx_isam_index.specs.Index.{IsFitSeparator, HoldsAscending, HoldsCount, IsIndexPage, behind_firsts, bucket_count, first_page_of, separator_bytes, separators_in, separators_of}
use Rattle.gx_isam_index.proofs.SeparatorLemmas.{separator_format}

-- the separators of an index page
pub page_holds : (bytes : List ℕ) → IsIndexPage bytes
    → HoldsCount (bucket_count bytes - 1) (behind_firsts bytes)
page_holds bytes page =
    record {
      held = page.separators.held;
      count = page.separators.count;
      holds = page.separators.holds;
    }

-- ---- the bucket of a key

-- some separators were passed: those that met the test, and those ahead that do, are all
pub record IsCounting (test : List ℕ → Bool) (bytes : List ℕ) (count place : ℕ) (rest : List ℕ)
    (bucket : ℕ) : Type 0 where
  pub low : 1 ≤ place
  pub high : place ≤ count
  pub few : bucket < place
  pub ahead : HoldsCount (count - place) rest
  pub counted : bucket + count_by test (separators_in (count - place) rest)
      ≡ count_by test (separators_in (count - 1) bytes)

pub counting_first : (test : List ℕ → Bool) (bytes : List ℕ) (count : ℕ) → 1 ≤ count
    → HoldsCount (count - 1) bytes → IsCounting test bytes count 1 bytes 0
counting_first test bytes count some holds = record {
  low = omega arith;
  high = some;
  few = omega arith;
  ahead = holds;
  counted = omega arith;
}

abbrev pub tick : Bool → ℕ
tick b = cond b 1 0

pub tick_of : (n : ℕ) (b : Bool) → n ≡ from_bool b → n ≡ tick b
tick_of n true is = is
tick_of n false is = is

pub tick_small : (n : ℕ) (b : Bool) → n ≡ tick b → n ≤ 1
tick_small n true is = omega (arith, is)
tick_small n false is = omega (arith, is)

pub counting_more : (test : List ℕ → Bool) (bytes : List ℕ) (count place : ℕ) (rest : List ℕ)
    (bucket : ℕ) (separator behind : List ℕ) (more : ℕ)
    → IsCounting test bytes count place rest bucket → place < count → IsFitSeparator separator
    → rest ≡ separator_bytes separator ++ behind
    → more ≡ tick (test separator) → more ≤ 1
    → IsCounting test bytes count (place + 1) behind (bucket + more)
counting_more test bytes count place rest bucket separator behind more i less fit is more_is one =
    let low = i.low in
    let few = i.few in
    let counted = i.counted in
    let left : count - place - 1 ≡ count - (place + 1) = omega (arith, less) in
    let next = ap (count_by test)
    (records-next separator_format (count - place) separator rest behind (omega (arith, less)) fit
    is) in
    let here = sum_by-cons (λ (s : List ℕ). tick (test s)) separator
    (separators_in (count - place - 1) behind) in
    let same = ap (λ (n : ℕ). count_by test (separators_in n behind)) left in
    record {
      low = omega (arith, low);
      high = omega (arith, less);
      few = omega (arith, few, one);
      ahead = subst (λ (n : ℕ). HoldsCount n behind) left
          (count_behind separator_format (count - place) separator rest behind i.ahead
          (omega (arith, less)) fit is);
      counted = omega (arith, counted, next, here, same, more_is);
    }

pub counting_end : (test : List ℕ → Bool) (bytes : List ℕ) (count place : ℕ) (rest : List ℕ)
    (bucket : ℕ) → IsCounting test bytes count place rest bucket → place ≡ count
    → bucket ≡ count_by test (separators_in (count - 1) bytes)
counting_end test bytes count place rest bucket i end =
    let none : count - place ≡ 0 = omega (arith, end) in
    let empty = ap (λ (n : ℕ). count_by test (separators_in n rest)) none in
    let counted = i.counted in
    omega (arith, counted, empty)

-- ---- another first page

module _ (bytes part : List ℕ) (at : ℕ) (here : at + length part ≤ length bytes) where
  front_len : length (take at bytes) ≡ at
  front_len = length-take-le at bytes (omega (arith, here))

  -- behind the part nothing has changed
  pub drop_behind : (n : ℕ) → at + length part ≤ n
      → drop n (overwritten bytes at part) ≡ drop n bytes
  drop_behind n past =
      let k = n - (at + length part) in
      let parts : n ≡ at + (length part + k) = omega (arith, past) in
      let back : at + length part + k ≡ n = omega (arith, past) in
      ap (λ (m : ℕ). drop m (overwritten bytes at part)) parts
      ∙ sym (drop-drop (length part + k) at (overwritten bytes at part))
      ∙ ap (drop (length part + k))
      (drop_at (take at bytes) (part ++ drop (at + length part) bytes) at front_len)
      ∙ sym (drop-drop k (length part) (part ++ drop (at + length part) bytes))
      ∙ ap (drop k) (drop_at part (drop (at + length part) bytes) (length part) refl)
      ∙ drop-drop k (at + length part) bytes
      ∙ ap (λ (m : ℕ). drop m bytes) back

  -- the part stands there
  pub drop_here : drop at (overwritten bytes at part) ≡ part ++ drop (at + length part) bytes
  drop_here = drop_at (take at bytes) (part ++ drop (at + length part) bytes) at front_len

  -- nor before it
  pub get_before : (i : ℕ) → i < at → get_or (overwritten bytes at part) i 0 ≡ get_or bytes i 0
  get_before i less =
      get_or_append_left (take at bytes) (part ++ drop (at + length part) bytes) 0 i
      (omega (arith, less, front_len)) ∙ get_or-take at bytes i 0 less

  dropped_before : (n i : ℕ) → n + i < at
      → get_or (drop n (overwritten bytes at part)) i 0 ≡ get_or (drop n bytes) i 0
  dropped_before n i less =
      get_or-drop n (overwritten bytes at part) i 0 ∙ get_before (n + i) less
      ∙ sym (get_or-drop n bytes i 0)

  pub four_before : (n : ℕ) → n + 4 ≤ at
      → from_be_bytes w32 (drop n (overwritten bytes at part)) ≡ from_be_bytes w32 (drop n bytes)
  four_before n less =
      let a = dropped_before n 0 (omega (arith, less)) in
      let b = dropped_before n 1 (omega (arith, less)) in
      let c = dropped_before n 2 (omega (arith, less)) in
      let d = dropped_before n 3 (omega (arith, less)) in
      omega (arith, a, b, c, d)

  pub two_before : (n : ℕ) → n + 2 ≤ at
      → from_be_bytes w16 (drop n (overwritten bytes at part)) ≡ from_be_bytes w16 (drop n bytes)
  two_before n less =
      let a = dropped_before n 0 (omega (arith, less)) in
      let b = dropped_before n 1 (omega (arith, less)) in
      omega (arith, a, b)

-- one first page is written
module _ (bytes new : List ℕ) (bucket first at : ℕ) (page : IsIndexPage bytes)
    (below : bucket < bucket_count bytes) (fits : first < 2 ^ 32) (at_is : at ≡ 4 + 4 * bucket)
    (is : new ≡ overwritten bytes at (to_be_bytes w32 first)) (size_is : length new ≡ 4096) where
  room : at + 4 ≤ length bytes
  room = let most = page.most in omega (arith, at_is, below, most, page.size)

  pub count_stays : bucket_count new ≡ bucket_count bytes
  count_stays =
      ap bucket_count is ∙ two_before bytes (to_be_bytes w32 first) at room 2 (omega (arith, at_is))

  behind_stays : behind_firsts new ≡ behind_firsts bytes
  behind_stays =
      ap (λ (n : ℕ). drop (4 + 4 * n) new) count_stays ∙ ap (drop (4 + 4 * bucket_count bytes)) is
      ∙ drop_behind bytes (to_be_bytes w32 first) at room (4 + 4 * bucket_count bytes)
      (omega (arith, at_is, below))

  pub separators_stay : separators_of new ≡ separators_of bytes
  separators_stay = ap₂ (λ (n : ℕ) (b : List ℕ). separators_in (n - 1) b) count_stays behind_stays

  pub first_is : first_page_of new bucket ≡ first
  first_is =
      let same : drop (4 + 4 * bucket) new ≡ to_be_bytes w32 first ++ drop (at + 4) bytes =
      ap (λ (n : ℕ). drop n new) (sym at_is) ∙ ap (drop at) is
      ∙ drop_here bytes (to_be_bytes w32 first) at room in
      ap (from_be_bytes w32) same ∙ from_be_bytes-front_4 first (drop (at + 4) bytes) fits

  pub others_stay : (other : ℕ) → other < bucket_count bytes → other ≢ bucket
      → first_page_of new other ≡ first_page_of bytes other
  others_stay other in' apart =
      ap (λ (b : List ℕ). first_page_of b other) is ∙ go (cases_lt other bucket) where
        go : ((other < bucket) ⊎ (bucket ≤ other))
            → first_page_of (overwritten bytes at (to_be_bytes w32 first)) other
            ≡ first_page_of bytes other
        go (inl less) =
            four_before bytes (to_be_bytes w32 first) at room (4 + 4 * other)
            (omega (arith, at_is, less))
        go (inr more) =
            ap (from_be_bytes w32) (drop_behind bytes (to_be_bytes w32 first) at room
            (4 + 4 * other)
            (omega (arith, at_is, more, apart)))

  pub index_stays : IsIndexPage new
  index_stays = record {
    size = size_is;
    kind = ap (λ (b : List ℕ). get_or b 0 0) is
        ∙ get_before bytes (to_be_bytes w32 first) at room 0 (omega (arith, at_is)) ∙ page.kind;
    blank = ap (λ (b : List ℕ). get_or b 1 0) is
        ∙ get_before bytes (to_be_bytes w32 first) at room 1 (omega (arith, at_is)) ∙ page.blank;
    some = let some = page.some in omega (arith, some, count_stays);
    most = let most = page.most in omega (arith, most, count_stays);
    separators = subst (λ (n : ℕ). HoldsAscending (n - 1) (behind_firsts new)) (sym count_stays)
        (subst (HoldsAscending (bucket_count bytes - 1)) (sym behind_stays) page.separators);
  }
