-- A scan of bytes for records whose keys ascend.
use Rattle.std.proofs.Common.{◌≡◌, ◌≢◌, ◌⊎◌, inl, inr, ℕ, ◌+◌, ◌<◌, ◌≤◌, false, List, [], ◌∷◌, ◌++◌, length, take, drop, get_or, refl, sym, ap, ◌∙◌, subst, arith}
use Rattle.std.specs.Cmp.Lexicographic.{slice_cmp}
use Rattle.std.specs.List.{flat_map, All, AllPairs}
use Rattle.std.specs.Ordering.{is_lt, nat_cmp}
use Rattle.std.specs.declared.cmp.Ordering.{Ordering}
use Rattle.std.specs.declared.cmp.Ordering.TheVariants.{Less}
use Rattle.std.proofs.lemmas.Bool.{cases_lt, false≢true}
use Rattle.std.proofs.lemmas.Cmp.{nat_list_cmp_total}
use Rattle.std.proofs.lemmas.List.{append-nil, get_or-take, get_or_at, length-drop, length_push}
use Rattle.std.proofs.lemmas.List.Elements.{All-cons, All-nil, All-push}
use Rattle.std.proofs.lemmas.List.Quantifiers.{all_pairs_push}
use Rattle.gx_bytes.specs.Records.{HoldsRecords, HoldsAscendingRecords}
use Rattle.gx_bytes.proofs.RecordLemmas.{IsFormat, found_more, found_same, holds_first, next_same}

abbrev cmp : List ℕ → List ℕ → Ordering
cmp = slice_cmp nat_cmp

-- so many records whose keys ascend were found, this is the last key, and these bytes are left
pub record Scanned {R : Type 0} (written : R → List ℕ) (Fits : R → Type 0) (key_of : R → List ℕ)
    (bytes : List ℕ) (place : ℕ) (rest last : List ℕ) : Type 0 where
  pub before : List R
  pub end : R
  pub count : length before + 1 ≡ place
  pub fit : All Fits (before ++ end ∷ [])
  pub ascending : AllPairs (λ r s. cmp (key_of r) (key_of s) ≡ Less) (before ++ end ∷ [])
  pub is : bytes ≡ flat_map written (before ++ end ∷ []) ++ rest
  pub last_is : last ≡ key_of end

module _ {R : Type 0} {written : R → List ℕ} {first : List ℕ → R} {Fits : R → Type 0} {size : R → ℕ}
    (format : IsFormat written first Fits size) (key_of : R → List ℕ) where
  pub scanned_first : (bytes : List ℕ) (r : R) (behind : List ℕ) → Fits r
      → bytes ≡ written r ++ behind
      → Scanned written Fits key_of bytes 1 behind (key_of r)
  scanned_first bytes r behind fit is = record {
    before = [];
    end = r;
    count = refl;
    fit = All-cons Fits r [] fit (All-nil Fits);
    ascending = λ i j d lt below. absurd (omega arith);
    is = is ∙ ap (λ (b : List ℕ). b ++ behind) (sym (append-nil (written r)));
    last_is = refl;
  }

  pub scanned_all : (bytes : List ℕ) (place : ℕ) (rest last : List ℕ)
      → Scanned written Fits key_of bytes place rest last
      → HoldsAscendingRecords written Fits key_of place bytes
  scanned_all bytes place rest last scan = record {
    held = scan.before ++ scan.end ∷ [];
    count = length_push scan.before scan.end ∙ scan.count;
    holds = record { fit = scan.fit; rest = rest; is = scan.is };
    ascending = scan.ascending;
  }

  -- one record more
  pub scanned_more : (bytes : List ℕ) (place : ℕ) (rest last : List ℕ) (r : R) (behind : List ℕ)
      → Scanned written Fits key_of bytes place rest last → Fits r → rest ≡ written r ++ behind
      → cmp last (key_of r) ≡ Less → Scanned written Fits key_of bytes (place + 1) behind (key_of r)
  scanned_more bytes place rest last r behind scan fit is less = record {
    before = all;
    end = r;
    count = omega (arith, length_push scan.before scan.end, scan.count);
    fit = All-push Fits all r scan.fit fit;
    ascending = all_pairs_push (λ (a b : R). cmp (key_of a) (key_of b) ≡ Less) all r scan.ascending
        less_than;
    is = found_more format all r bytes rest behind scan.is is;
    last_is = refl;
  }
    where
      all : List R
      all = scan.before ++ scan.end ∷ []

      less_than : (k : ℕ) (d : R) → k < length all → cmp (key_of (get_or all k d)) (key_of r) ≡ Less
      less_than k d in' = go (cases_lt k (length scan.before)) where
        size_is : length all ≡ length scan.before + 1
        size_is = length_push scan.before scan.end

        read : get_or all (length scan.before) d ≡ scan.end
        read = get_or_at scan.before scan.end [] d (length scan.before) refl

        last_less : cmp (key_of (get_or all (length scan.before) d)) (key_of r) ≡ Less
        last_less = subst (λ (s : List ℕ). cmp s (key_of r) ≡ Less)
            (scan.last_is ∙ sym (ap key_of read)) less

        go : ((k < length scan.before) ⊎ (length scan.before ≤ k))
            → cmp (key_of (get_or all k d)) (key_of r) ≡ Less
        go (inl early) =
            nat_list_cmp_total.trans (key_of (get_or all k d))
            (key_of (get_or all (length scan.before) d)) (key_of r)
            (scan.ascending k (length scan.before) d early (omega (arith, size_is))) last_less
        go (inr late) =
            subst (λ (n : ℕ). cmp (key_of (get_or all n d)) (key_of r) ≡ Less)
            (let n : length scan.before ≡ k = omega (arith, size_is) in n) last_less

  -- records that the bytes hold begin with those that were found, and the rest hold the others
  held_same : (bytes : List ℕ) (place : ℕ) (rest last : List ℕ)
      (scan : Scanned written Fits key_of bytes place rest last) (rs : List R)
      → HoldsRecords written Fits rs bytes → place ≤ length rs
      → (scan.before ++ scan.end ∷ [] ≡ take place rs)
      × HoldsRecords written Fits (drop place rs) rest
  held_same bytes place rest last scan =
      found_same format (scan.before ++ scan.end ∷ []) place bytes rest scan.fit scan.is
      (length_push scan.before scan.end ∙ scan.count)

  -- where no record is ahead, there are no more records
  pub none_first : (bytes : List ℕ) (count : ℕ) → 0 < count
      → ((r : R) (tail : List ℕ) → Fits r → bytes ≢ written r ++ tail)
      → HoldsAscendingRecords written Fits key_of count bytes → ⊥
  none_first bytes count some none held =
      holds_first format held.held bytes held.holds (omega (arith, held.count)) none

  pub no_more : (bytes : List ℕ) (place : ℕ) (rest last : List ℕ) (count : ℕ)
      → Scanned written Fits key_of bytes place rest last → place < count
      → ((r : R) (tail : List ℕ) → Fits r → rest ≢ written r ++ tail)
      → HoldsAscendingRecords written Fits key_of count bytes → ⊥
  no_more bytes place rest last count scan below none held =
      let same =
      held_same bytes place rest last scan held.held held.holds (omega (arith, held.count)) in
      holds_first format (drop place held.held) rest same.1
      (omega (arith, length-drop place held.held, held.count)) none

  -- where the next key isn't behind the last one, the keys don't ascend
  pub not_ascending : (bytes : List ℕ) (place : ℕ) (rest last : List ℕ) (count : ℕ) (r : R)
      (behind : List ℕ) → Scanned written Fits key_of bytes place rest last → place < count → Fits r
      → rest ≡ written r ++ behind → is_lt (cmp last (key_of r)) ≡ false
      → HoldsAscendingRecords written Fits key_of count bytes → ⊥
  not_ascending bytes place rest last count r behind scan below fit is fails held =
      let rs = held.held in
      let inside : place < length rs = omega (arith, held.count) in
      let same = held_same bytes place rest last scan rs held.holds (omega (arith, held.count)) in
      let next = get_or rs place r in
      let here : r ≡ next = next_same format r place rs rest behind same.1 inside fit is in
      let one = length scan.before in
      let end_is : get_or rs one r ≡ scan.end =
      sym (get_or-take place rs one r (omega (arith, scan.count)))
      ∙ ap (λ (ss : List R). get_or ss one r) (sym same.0)
      ∙ get_or_at scan.before scan.end [] r one refl in
      let less = held.ascending one place r (omega (arith, scan.count)) inside in
      let left : key_of (get_or rs one r) ≡ last = ap key_of end_is ∙ sym scan.last_is in
      let right : key_of next ≡ key_of r = ap key_of (sym here) in
      let clash : cmp last (key_of r) ≡ Less =
      subst (λ (s : List ℕ). cmp s (key_of r) ≡ Less) left
      (subst (λ (s : List ℕ). cmp (key_of (get_or rs one r)) s ≡ Less) right less) in
      false≢true (sym fails ∙ ap is_lt clash)
