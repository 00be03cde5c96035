-- Records that are written one after another are read as they were.
use Rattle.std.proofs.Common.{◌≡◌, ◌≢◌, ℕ, zero, suc, ◌+◌, ◌-◌, ◌<◌, ◌≤◌, List, [], ◌∷◌, ◌++◌, length, take, drop, get_or, Option, Some, None, true, refl, sym, ap, ap₂, ◌∙◌, subst, arith, append_assoc, length-append}
use Rattle.std.specs.Borrow.{Bor}
use Rattle.std.specs.List.{flat_map, All, HoldsAt, insert, remove, slice_get, sum_by}
use Rattle.std.specs.Option.{is_some, option_map}
use Rattle.std.proofs.lemmas.Option.{none-some}
use Rattle.std.proofs.lemmas.List.{append_cancel_left, append-nil, drop_at, drop-drop, drop_more, length-drop, length-take-le, take-append-drop, take_all, take_more}
use Rattle.std.proofs.lemmas.List.Concat.{flat_map-append}
use Rattle.std.proofs.lemmas.List.Elements.{All-head, All-tail, All-take, All-drop}
use Rattle.std.proofs.lemmas.List.Sums.{sum_by-cons}
use Rattle.gx_bytes.specs.Records.{records, HoldsRecords, HoldsRecordCount, SplitsRecord}

-- the element at a place, and what stands behind it
pub drop-is_cons : {X : Type 0} (xs : List X) (i : ℕ) (x : X) (rest : List X) → drop i xs ≡ x ∷ rest
    → (i < length xs) × ((d : X) → get_or xs i d ≡ x) × (drop (i + 1) xs ≡ rest)
drop-is_cons {X} xs i x rest is =
    let within : i < length xs = omega (arith, ap length is, length-drop i xs) in (
      within,
      λ d. at_head d (sym (drop_more xs i d within) ∙ is),
      sym (drop-drop 1 i xs) ∙ ap (drop 1) is,
    ) where
      at_head : (d : X) → get_or xs i d ∷ drop (i + 1) xs ≡ x ∷ rest → get_or xs i d ≡ x
      at_head d same = cc

-- a format of records: one that fits is read as it was written, and has the length that `size`
-- gives
pub record IsFormat {R : Type 0} (written : R → List ℕ) (first : List ℕ → R) (Fits : R → Type 0)
    (size : R → ℕ) : Type 0 where
  pub reads : (r : R) (tail : List ℕ) → Fits r → first (written r ++ tail) ≡ r
  pub sizes : (r : R) → length (written r) ≡ size r

module _ {R : Type 0} {written : R → List ℕ} {first : List ℕ → R} {Fits : R → Type 0} {size : R → ℕ}
    (format : IsFormat written first Fits size) where
  -- how many bytes records take
  pub length-flat_map : (rs : List R) → length (flat_map written rs) ≡ sum_by size rs
  length-flat_map [] = refl
  length-flat_map (r ∷ rs) =
      length-append (written r) (flat_map written rs)
      ∙ ap₂ ◌+◌ (format.sizes r) (length-flat_map rs) ∙ sym (sum_by-cons size r rs)

  -- reading goes on behind a record
  pub records-cons : (n : ℕ) (r : R) (bytes behind : List ℕ) → Fits r → bytes ≡ written r ++ behind
      → records written first (suc n) bytes ≡ r ∷ records written first n behind
  records-cons n r bytes behind fits is =
      let front : first bytes ≡ r = ap first is ∙ format.reads r behind fits in
      ap₂ ◌∷◌ front (ap (λ (x : R). records written first n (drop (length (written x)) bytes)) front
      ∙ ap (records written first n)
      (ap (drop (length (written r))) is ∙ drop_at (written r) behind (length (written r)) refl))

  pub records-flat_map : (rs : List R) (tail : List ℕ) → All Fits rs
      → records written first (length rs) (flat_map written rs ++ tail) ≡ rs
  records-flat_map [] tail fit = refl
  records-flat_map (r ∷ rs) tail fit =
      records-cons (length rs) r ((written r ++ flat_map written rs) ++ tail)
      (flat_map written rs ++ tail) (All-head Fits r rs fit)
      (append_assoc (written r) (flat_map written rs) tail)
      ∙ ap (λ xs. r ∷ xs) (records-flat_map rs tail (All-tail Fits r rs fit))

  pub records-held : (rs : List R) (bytes : List ℕ) → HoldsRecords written Fits rs bytes
      → records written first (length rs) bytes ≡ rs
  records-held rs bytes holds =
      ap (records written first (length rs)) holds.is ∙ records-flat_map rs holds.rest holds.fit

  -- as many records that stand in the same bytes are the same, and so is what stands behind them
  pub same_records : (rs ss : List R) (tail end : List ℕ) → All Fits rs → All Fits ss
      → length rs ≡ length ss → flat_map written rs ++ tail ≡ flat_map written ss ++ end → rs ≡ ss
  same_records rs ss tail end fit_r fit_s count same =
      sym (records-flat_map rs tail fit_r) ∙ ap₂ (records written first) count same
      ∙ records-flat_map ss end fit_s

  pub same_tails : (rs ss : List R) (tail end : List ℕ) → All Fits rs → All Fits ss
      → length rs ≡ length ss → flat_map written rs ++ tail ≡ flat_map written ss ++ end
      → tail ≡ end
  same_tails rs ss tail end fit_r fit_s count same =
      append_cancel_left (flat_map written rs) tail end (same
      ∙ ap (λ xs. flat_map written xs ++ end)
      (sym (same_records rs ss tail end fit_r fit_s count same)))

  -- where records stand, bytes begin with the first of them
  pub holds_first : (rs : List R) (bytes : List ℕ) → HoldsRecords written Fits rs bytes
      → 0 < length rs → ((r : R) (rest : List ℕ) → Fits r → bytes ≢ written r ++ rest) → ⊥
  holds_first [] bytes holds some none = omega arith
  holds_first (r ∷ rs) bytes holds some none =
      none r (flat_map written rs ++ holds.rest) (All-head Fits r rs holds.fit)
      (holds.is ∙ append_assoc (written r) (flat_map written rs) holds.rest)

  -- a record that bytes begin with is the first of those that stand there, and the others stand
  -- behind it
  pub first_same : (r found : R) (rs : List R) (bytes behind : List ℕ)
      → HoldsRecords written Fits (r ∷ rs) bytes → Fits found → bytes ≡ written found ++ behind
      → found ≡ r
  first_same r found rs bytes behind holds fit is =
      sym (format.reads found behind fit)
      ∙ ap first (sym is ∙ holds.is ∙ append_assoc (written r) (flat_map written rs) holds.rest)
      ∙ format.reads r (flat_map written rs ++ holds.rest) (All-head Fits r rs holds.fit)

  pub holds_behind : (r found : R) (rs : List R) (bytes behind : List ℕ)
      → HoldsRecords written Fits (r ∷ rs) bytes → Fits found → bytes ≡ written found ++ behind
      → HoldsRecords written Fits rs behind
  holds_behind r found rs bytes behind holds fit is =
      let same = first_same r found rs bytes behind holds fit is in
      let tail = append_cancel_left (written r) behind (flat_map written rs ++ holds.rest)
      (ap (λ (x : R). written x ++ behind) (sym same) ∙ sym is ∙ holds.is
      ∙ append_assoc (written r) (flat_map written rs) holds.rest) in
      record { fit = All-tail Fits r rs holds.fit; rest = holds.rest; is = tail }

  -- so one is split off
  pub holds_split : {A : Type 0} (lent : A → R) (rs : List R) (bytes : List ℕ)
      (result : Option (A × Bor (List ℕ))) → HoldsRecords written Fits rs bytes → 0 < length rs
      → SplitsRecord written Fits lent bytes result → is_some result ≡ true
  holds_split lent rs bytes None holds some splits = absurd (holds_first rs bytes holds some splits)
  holds_split lent rs bytes (Some found) holds some splits = refl

  -- the same of n records
  pub count_behind : (n : ℕ) (found : R) (bytes behind : List ℕ)
      → HoldsRecordCount written Fits n bytes → 0 < n → Fits found → bytes ≡ written found ++ behind
      → HoldsRecordCount written Fits (n - 1) behind
  count_behind n found bytes behind all some fit is = go all.held all.count all.holds where
    go : (rs : List R) → length rs ≡ n → HoldsRecords written Fits rs bytes
        → HoldsRecordCount written Fits (n - 1) behind
    go [] count holds = absurd (omega arith)
    go (r ∷ rs) count holds =
        record {
          held = rs;
          count = omega arith;
          holds = holds_behind r found rs bytes behind holds fit is;
        }

  pub length-records : (n : ℕ) (bytes : List ℕ) → length (records written first n bytes) ≡ n
  length-records zero bytes = refl
  length-records (suc n) bytes =
      ap suc (length-records n (drop (length (written (first bytes))) bytes))

  pub count_holds : (n : ℕ) (bytes : List ℕ) → HoldsRecordCount written Fits n bytes
      → HoldsRecords written Fits (records written first n bytes) bytes
  count_holds n bytes all =
      let same : records written first n bytes ≡ all.held =
      ap (λ (k : ℕ). records written first k bytes) (sym all.count)
      ∙ records-held all.held bytes all.holds in
      subst (λ (rs : List R). HoldsRecords written Fits rs bytes) (sym same) all.holds

  pub records-next : (n : ℕ) (found : R) (bytes behind : List ℕ) → 0 < n → Fits found
      → bytes ≡ written found ++ behind
      → records written first n bytes ≡ found ∷ records written first (n - 1) behind
  records-next n found bytes behind some fit is =
      ap (λ (k : ℕ). records written first k bytes)
      (let more : n ≡ suc (n - 1) = omega arith in more)
      ∙ records-cons (n - 1) found bytes behind fit is

  -- the records before a place and those from it on
  pub flat_map-parts : (i : ℕ) (rs : List R)
      → flat_map written rs ≡ flat_map written (take i rs) ++ flat_map written (drop i rs)
  flat_map-parts i rs =
      ap (flat_map written) (sym (take-append-drop i rs))
      ∙ flat_map-append written (take i rs) (drop i rs)

  pub holds_parts : (i : ℕ) (rs : List R) (bytes : List ℕ)
      (holds : HoldsRecords written Fits rs bytes)
      → bytes ≡ flat_map written (take i rs) ++ (flat_map written (drop i rs) ++ holds.rest)
  holds_parts i rs bytes holds =
      holds.is ∙ ap (λ (xs : List ℕ). xs ++ holds.rest) (flat_map-parts i rs)
      ∙ append_assoc (flat_map written (take i rs)) (flat_map written (drop i rs)) holds.rest

  pub holds_take : (i : ℕ) (rs : List R) (bytes : List ℕ) → HoldsRecords written Fits rs bytes
      → HoldsRecords written Fits (take i rs) bytes
  holds_take i rs bytes holds =
      record {
        fit = All-take Fits i rs holds.fit;
        rest = flat_map written (drop i rs)
            ++ holds.rest;
        is = holds_parts i rs bytes holds;
      }

  pub count_take : (i : ℕ) (rs : List R) (bytes : List ℕ) → HoldsRecords written Fits rs bytes
      → i ≤ length rs → HoldsRecordCount written Fits i bytes
  count_take i rs bytes holds within =
      record {
        held = take i rs;
        count = length-take-le i rs within;
        holds = holds_take i rs bytes holds;
      }

  pub records-take : (i : ℕ) (rs : List R) (bytes : List ℕ) → HoldsRecords written Fits rs bytes
      → i ≤ length rs → records written first i bytes ≡ take i rs
  records-take i rs bytes holds within =
      ap (λ (n : ℕ). records written first n bytes) (sym (length-take-le i rs within))
      ∙ records-held (take i rs) bytes (holds_take i rs bytes holds)

  pub holds_drop : (i start : ℕ) (rs : List R) (bytes : List ℕ) → HoldsRecords written Fits rs bytes
      → start ≡ sum_by size (take i rs) → HoldsRecords written Fits (drop i rs) (drop start bytes)
  holds_drop i start rs bytes holds here =
      let front = flat_map written (take i rs) in
      let back = flat_map written (drop i rs) in
      record {
        fit = All-drop Fits i rs holds.fit;
        rest = holds.rest;
        is = ap (drop start) (holds_parts i rs bytes holds)
            ∙ drop_at front (back ++ holds.rest) start (length-flat_map (take i rs) ∙ sym here);
      }

  pub flat_map-insert : (rs : List R) (i : ℕ) (r : R)
      → flat_map written (insert rs i r)
      ≡ flat_map written (take i rs) ++ (written r ++ flat_map written (drop i rs))
  flat_map-insert rs i r = flat_map-append written (take i rs) (r ∷ drop i rs)

  pub flat_map-remove : (rs : List R) (i : ℕ)
      → flat_map written (remove rs i)
      ≡ flat_map written (take i rs) ++ flat_map written (drop (suc i) rs)
  flat_map-remove rs i = flat_map-append written (take i rs) (drop (suc i) rs)

  -- records that bytes hold begin with those that were found there, and the rest hold the others
  pub found_same : (found : List R) (place : ℕ) (bytes rest : List ℕ) → All Fits found
      → bytes ≡ flat_map written found ++ rest → length found ≡ place → (rs : List R)
      → HoldsRecords written Fits rs bytes → place ≤ length rs
      → (found ≡ take place rs) × HoldsRecords written Fits (drop place rs) rest
  found_same found place bytes rest fit is count rs holds within =
      let front = take place rs in
      let tail = flat_map written (drop place rs) ++ holds.rest in
      let joined : flat_map written found ++ rest ≡ flat_map written front ++ tail =
      sym is ∙ holds_parts place rs bytes holds in
      let counts : length found ≡ length front = count ∙ sym (length-take-le place rs within) in
      let fits = All-take Fits place rs holds.fit in (
        same_records found front rest tail fit fits counts joined,
        record {
          fit = All-drop Fits place rs holds.fit;
          rest = holds.rest;
          is = same_tails found front rest tail fit fits counts joined;
        },
      )

  -- one more of them
  pub found_more : (found : List R) (r : R) (bytes rest behind : List ℕ)
      → bytes ≡ flat_map written found ++ rest → rest ≡ written r ++ behind
      → bytes ≡ flat_map written (found ++ r ∷ []) ++ behind
  found_more found r bytes rest behind is next =
      let pieces : flat_map written (found ++ r ∷ []) ≡ flat_map written found ++ written r =
      flat_map-append written found (r ∷ [])
      ∙ ap (λ (b : List ℕ). flat_map written found ++ b) (append-nil (written r)) in
      is ∙ ap (λ (b : List ℕ). flat_map written found ++ b) next
      ∙ sym (append_assoc (flat_map written found) (written r) behind)
      ∙ ap (λ (b : List ℕ). b ++ behind) (sym pieces)

  -- a record ahead is the next of those that stand there
  pub next_same : (found : R) (place : ℕ) (rs : List R) (rest behind : List ℕ)
      → HoldsRecords written Fits (drop place rs) rest → place < length rs → Fits found
      → rest ≡ written found ++ behind → found ≡ get_or rs place found
  next_same found place rs rest behind holds below fit is =
      let ahead : HoldsRecords written Fits (get_or rs place found ∷ drop (place + 1) rs) rest =
      subst (λ (ss : List R). HoldsRecords written Fits ss rest) (drop_more rs place found below)
      holds in
      first_same (get_or rs place found) found (drop (place + 1) rs) rest behind ahead fit is

-- of the records of some bytes, i are passed, and the rest is ahead
pub record Passed {R : Type 0} (written : R → List ℕ) (Fits : R → Type 0) (rs : List R) (i : ℕ)
    (bytes rest : List ℕ) : Type 0 where
  pub ahead : HoldsRecords written Fits (drop i rs) rest
  pub passed : length bytes ≡ length (flat_map written (take i rs)) + length rest

module _ {R : Type 0} {written : R → List ℕ} {first : List ℕ → R} {Fits : R → Type 0} {size : R → ℕ}
    (format : IsFormat written first Fits size) where
  pub passed_none : (rs : List R) (bytes : List ℕ) → HoldsRecords written Fits rs bytes
      → Passed written Fits rs 0 bytes bytes
  passed_none rs bytes holds = record { ahead = holds; passed = omega arith }

  pub passed_more : (rs : List R) (i : ℕ) (bytes rest : List ℕ) (found : R) (behind : List ℕ)
      → Passed written Fits rs i bytes rest → i < length rs → Fits found
      → rest ≡ written found ++ behind → Passed written Fits rs (i + 1) bytes behind
  passed_more rs i bytes rest found behind passed below fit is =
      let r = get_or rs i found in
      let held : HoldsRecords written Fits (r ∷ drop (i + 1) rs) rest = subst
      (λ (xs : List R). HoldsRecords written Fits xs rest) (drop_more rs i found below)
      passed.ahead in
      let same = first_same format r found (drop (i + 1) rs) rest behind held fit is in
      let len =
      ap length is ∙ length-append (written found) behind
      ∙ ap (λ (x : R). length (written x) + length behind) same in
      let before = ap (λ (xs : List R). length (flat_map written xs)) (take_more rs i found below)
      ∙ ap length (flat_map-append written (take i rs) (r ∷ []))
      ∙ length-append (flat_map written (take i rs)) (flat_map written (r ∷ []))
      ∙ ap (λ (xs : List ℕ). length (flat_map written (take i rs)) + length xs)
      (append-nil (written r)) in
      record {
        ahead = holds_behind format r found (drop (i + 1) rs) rest behind held fit is;
        passed = omega (arith, passed.passed, len, before);
      }

  -- where a record is ahead, one is split off
  pub passed_split : {A : Type 0} (lent : A → R) (rs : List R) (i : ℕ) (bytes rest : List ℕ)
      (result : Option (A × Bor (List ℕ))) → Passed written Fits rs i bytes rest → i < length rs
      → SplitsRecord written Fits lent rest result
      → is_some result ≡ true
  passed_split lent rs i bytes rest result passed below splits =
      holds_split format lent (drop i rs) rest result passed.ahead (omega (arith, length-drop i rs))
      splits

  pub passed_all : (rs : List R) (i : ℕ) (bytes rest : List ℕ) → Passed written Fits rs i bytes rest
      → i ≡ length rs → length bytes - length rest ≡ sum_by size rs
  passed_all rs i bytes rest passed all =
      let whole =
      ap (λ (xs : List R). length (flat_map written xs)) (take_all i rs (omega arith)) in
      omega (arith, passed.passed, whole, length-flat_map format rs)

pub split_found : {R A : Type 0} (written : R → List ℕ) (Fits : R → Type 0) (lent : A → R)
    (bytes : List ℕ) (result : Option (A × Bor (List ℕ))) (found : A × Bor (List ℕ))
    → result ≡ Some found → SplitsRecord written Fits lent bytes result
    → Fits (lent found.0) × (bytes ≡ written (lent found.0) ++ found.1.now)
split_found written Fits lent bytes result found is splits =
    subst (SplitsRecord written Fits lent bytes) is splits

-- the record at a place of what an iterator has left
pub lent_is_some : {R A : Type 0} (lent : A → R) (result : Option A) (rs : List R) (i : ℕ)
    → option_map lent result ≡ slice_get rs i → i < length rs → is_some result ≡ true
lent_is_some lent result [] i got below = absurd (omega arith)
lent_is_some lent result (r ∷ rs) (suc i) got below =
    lent_is_some lent result rs i got (omega arith)
lent_is_some lent (Some found) (r ∷ rs) zero got below = refl
lent_is_some lent None (r ∷ rs) zero got below = absurd (none-some r got)

pub lent_is_at : {R A : Type 0} (lent : A → R) (result : Option A) (found : A) (rs : List R) (i : ℕ)
    → option_map lent result ≡ slice_get rs i → result ≡ Some found
    → HoldsAt (λ r. r ≡ lent found) rs i
lent_is_at lent result found [] i got is d =
    absurd (none-some (lent found) (sym got ∙ ap (option_map lent) is))
lent_is_at lent result found (r ∷ rs) (suc i) got is d = lent_is_at lent result found rs i got is d
lent_is_at lent result found (r ∷ rs) zero got is d =
    let same : Some (lent found) ≡ Some r = sym (ap (option_map lent) is) ∙ got in
    cc
