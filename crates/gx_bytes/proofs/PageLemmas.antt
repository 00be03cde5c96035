-- Pages of records: what is read of one, and what a change makes of it.
use Rattle.std.proofs.Common.{◌≡◌, ℕ, zero, suc, ◌+◌, ◌-◌, ◌^◌, ◌<◌, ◌≤◌, List, [], ◌∷◌, ◌++◌, length, take, drop, get_or, refl, sym, ap, ap₂, ◌∙◌, subst, arith, append_assoc, length-append, drop-cons}
use Rattle.std.specs.Int.{w16, w32, to_be_bytes, from_be_bytes}
use Rattle.std.specs.List.{flat_map, All, sum_by, insert, remove, copy_within}
use Rattle.std.proofs.lemmas.List.{drop_more, drop-drop, length-drop, length-take-le}
use Rattle.std.proofs.lemmas.List.Edits.{length-insert, length-remove}
use Rattle.std.proofs.lemmas.List.Elements.{All-append, All-cons, All-take, All-drop}
use Rattle.std.proofs.lemmas.List.Sums.{sum_by-cons, sum_by-take-drop, sum_by-take-le, sum_by_more_le}
use Rattle.std.proofs.lemmas.Nat.{be_bytes_2, be_bytes_4, from_be_bytes-to_be_bytes_2, from_be_bytes-to_be_bytes_4}
use Rattle.gx_bytes.specs.Parts.{overwritten}
use Rattle.gx_bytes.specs.Records.{records, HoldsRecords, HoldsRecordCount}
use Rattle.gx_bytes.specs.Page.{header, count_of, number_of, records_of, used, IsRecordPage}
use Rattle.gx_bytes.proofs.PartLemmas.{overwritten-same, overwritten-overwritten, moved_up, moved_down}
use Rattle.gx_bytes.proofs.RecordLemmas.{IsFormat, count_take, length-flat_map, records-held, records-take, holds_parts, holds_drop, flat_map-insert, flat_map-remove}

-- the first eight bytes and those behind them
pub eight_first : (bytes : List ℕ) → 8 ≤ length bytes
    → bytes
    ≡ get_or bytes 0 0 ∷ get_or bytes 1 0 ∷ get_or bytes 2 0 ∷ get_or bytes 3 0 ∷ get_or bytes 4 0
    ∷ get_or bytes 5 0 ∷ get_or bytes 6 0 ∷ get_or bytes 7 0 ∷ drop 8 bytes
eight_first bytes long =
    drop_more bytes 0 0 (omega arith)
    ∙ ap (λ (xs : List ℕ). get_or bytes 0 0 ∷ xs) (drop_more bytes 1 0 (omega arith)
    ∙ ap (λ (xs : List ℕ). get_or bytes 1 0 ∷ xs) (drop_more bytes 2 0 (omega arith)
    ∙ ap (λ (xs : List ℕ). get_or bytes 2 0 ∷ xs) (drop_more bytes 3 0 (omega arith)
    ∙ ap (λ (xs : List ℕ). get_or bytes 3 0 ∷ xs) (drop_more bytes 4 0 (omega arith)
    ∙ ap (λ (xs : List ℕ). get_or bytes 4 0 ∷ xs) (drop_more bytes 5 0 (omega arith)
    ∙ ap (λ (xs : List ℕ). get_or bytes 5 0 ∷ xs)
    (drop_more bytes 6 0 (omega arith)
    ∙ ap (λ (xs : List ℕ). get_or bytes 6 0 ∷ xs) (drop_more bytes 7 0 (omega arith))))))))

module _ {R : Type 0} {written : R → List ℕ} {first : List ℕ → R} {Fits : R → Type 0} {size : R → ℕ}
    (format : IsFormat written first Fits size) where
  pub used_within : (kind : ℕ) (rs : List R) (number : ℕ) (bytes : List ℕ)
      (page : IsRecordPage written Fits kind rs number bytes)
      → used size rs + length page.holds.rest ≡ 4096
  used_within kind rs number bytes page =
      let whole = sym page.size ∙ ap length page.is in
      let body = ap length page.holds.is ∙ length-append (flat_map written rs) page.holds.rest in
      omega (arith, whole, body, length-flat_map format rs)

  pub used_most : (kind : ℕ) (rs : List R) (number : ℕ) (bytes : List ℕ)
      → IsRecordPage written Fits kind rs number bytes → used size rs ≤ 4096
  used_most kind rs number bytes page = omega (arith, used_within kind rs number bytes page)

  pub count_of-page : (kind : ℕ) (rs : List R) (number : ℕ) (bytes : List ℕ)
      → IsRecordPage written Fits kind rs number bytes → length rs < 2 ^ 16
      → count_of bytes ≡ length rs
  count_of-page kind rs number bytes page few =
      ap count_of page.is ∙ from_be_bytes-to_be_bytes_2 (length rs) few

  -- a page has one meaning at most
  pub records_of-page : (kind : ℕ) (rs : List R) (number : ℕ) (bytes : List ℕ)
      → IsRecordPage written Fits kind rs number bytes → length rs < 2 ^ 16
      → records_of written first bytes ≡ rs
  records_of-page kind rs number bytes page few =
      ap₂ (records written first) (count_of-page kind rs number bytes page few)
      (ap (λ (b : List ℕ). drop 8 b) page.is) ∙ records-held format rs page.body page.holds

  pub number_of-page : (kind : ℕ) (rs : List R) (number : ℕ) (bytes : List ℕ)
      → IsRecordPage written Fits kind rs number bytes → number_of bytes ≡ number
  number_of-page kind rs number bytes page =
      ap number_of page.is ∙ from_be_bytes-to_be_bytes_4 number page.number_fits

  -- bytes with the header of such a page and as many records behind it are one
  pub page_from_bytes : (kind : ℕ) (bytes body : List ℕ) (count : ℕ) → length bytes ≡ 4096
      → get_or bytes 0 0 ≡ kind → get_or bytes 1 0 ≡ 0 → ((i : ℕ) → get_or bytes i 0 < 256)
      → body ≡ drop 8 bytes → count ≡ count_of bytes
      → (rs : List R) → length rs ≡ count → HoldsRecords written Fits rs body
      → IsRecordPage written Fits kind rs (number_of bytes) bytes
  page_from_bytes kind bytes body count whole is_kind blank small behind counted rs same holds =
      let counts = get_or bytes 2 0 ∷ get_or bytes 3 0 ∷ [] in
      let numbers =
      get_or bytes 4 0 ∷ get_or bytes 5 0 ∷ get_or bytes 6 0 ∷ get_or bytes 7 0 ∷ [] in
      let eight = eight_first bytes (omega arith) in
      let number = from_be_bytes w32 numbers in
      let number_is : number_of bytes ≡ number = ap number_of eight in
      let count_bytes : to_be_bytes w16 count ≡ counts = be_bytes_2 counts count refl
      (two_small (get_or bytes 2 0) (get_or bytes 3 0) (small 2) (small 3))
      (counted ∙ ap count_of eight) in
      let number_bytes : to_be_bytes w32 number ≡ numbers = be_bytes_4 numbers number refl
      (four_small (get_or bytes 4 0) (get_or bytes 5 0) (get_or bytes 6 0) (get_or bytes 7 0)
      (small 4) (small 5) (small 6) (small 7)) refl in
      let parts : bytes ≡ kind ∷ 0 ∷ (counts ++ (numbers ++ body)) =
      eight ∙ ap₂ (λ (a b : ℕ). a ∷ b ∷ (counts ++ (numbers ++ drop 8 bytes))) is_kind blank
      ∙ ap (λ (xs : List ℕ). kind ∷ 0 ∷ (counts ++ (numbers ++ xs))) (sym behind) in
      let top : kind ∷ 0 ∷ (counts ++ (numbers ++ body)) ≡ header kind (length rs) number ++ body =
      ap₂ (λ (a b : List ℕ). kind ∷ 0 ∷ (a ++ (b ++ body)))
      (sym count_bytes ∙ ap (to_be_bytes w16) (sym same)) (sym number_bytes) in
      let page : IsRecordPage written Fits kind rs number bytes =
      record {
        size = whole;
        number_fits = omega (arith, small 4, small 5, small 6, small 7);
        body = body;
        is = parts ∙ top;
        holds = holds;
      } in
      subst (λ (n : ℕ). IsRecordPage written Fits kind rs n bytes) (sym number_is) page
    where
      two_small : (a b : ℕ) → a < 256 → b < 256 → (i : ℕ) → get_or (a ∷ b ∷ []) i 0 < 256
      two_small a b a_small b_small zero = a_small
      two_small a b a_small b_small (suc zero) = b_small
      two_small a b a_small b_small (suc (suc i)) = omega arith

      four_small : (a b c d : ℕ) → a < 256 → b < 256 → c < 256 → d < 256 → (i : ℕ)
          → get_or (a ∷ b ∷ c ∷ d ∷ []) i 0 < 256
      four_small a b c d a_small b_small c_small d_small zero = a_small
      four_small a b c d a_small b_small c_small d_small (suc zero) = b_small
      four_small a b c d a_small b_small c_small d_small (suc (suc zero)) = c_small
      four_small a b c d a_small b_small c_small d_small (suc (suc (suc zero))) = d_small
      four_small a b c d a_small b_small c_small d_small (suc (suc (suc (suc i)))) = omega arith

  -- the records of a page as they are passed: those before a place, and those from it on
  pub page_holds : (kind : ℕ) (rs : List R) (number : ℕ) (bytes body : List ℕ)
      → IsRecordPage written Fits kind rs number bytes → body ≡ drop 8 bytes
      → HoldsRecords written Fits rs body
  page_holds kind rs number bytes body page behind =
      subst (HoldsRecords written Fits rs) (sym (behind ∙ ap (drop 8) page.is)) page.holds

  passed_start : (rs : List R) (body : List ℕ) (i start : ℕ) → HoldsRecords written Fits rs body
      → i ≤ length rs → start ≡ sum_by size (records written first i body)
      → start ≡ sum_by size (take i rs)
  passed_start rs body i start holds within is =
      is ∙ ap (sum_by size) (records-take format i rs body holds within)

  pub start_within : (rs : List R) (body : List ℕ) (i start : ℕ) → HoldsRecords written Fits rs body
      → i ≤ length rs → start ≡ sum_by size (records written first i body) → start ≤ length body
  start_within rs body i start holds within is =
      omega (
        arith,
        passed_start rs body i start holds within is,
        sum_by-take-le size rs i,
        ap length holds.is,
        length-append (flat_map written rs) holds.rest,
        length-flat_map format rs,
      )

  rest_holds : (rs : List R) (body rest : List ℕ) (i start : ℕ) → HoldsRecords written Fits rs body
      → start ≡ sum_by size (take i rs) → rest ≡ drop start body
      → HoldsRecords written Fits (drop i rs) rest
  rest_holds rs body rest i start holds is rest_is =
      subst (HoldsRecords written Fits (drop i rs)) (sym rest_is)
      (holds_drop format i start rs body holds is)

  pub rest_count : (rs : List R) (body rest : List ℕ) (i start count : ℕ)
      → HoldsRecords written Fits rs body → i ≤ length rs
      → start ≡ sum_by size (records written first i body) → rest ≡ drop start body
      → count ≡ length rs → HoldsRecordCount written Fits (count - i) rest
  rest_count rs body rest i start count holds within is rest_is counted =
      let start_is = passed_start rs body i start holds within is in
      count_take format (count - i) (drop i rs) rest
      (rest_holds rs body rest i start holds start_is rest_is)
      (omega (arith, length-drop i rs))

  -- where the records before a place end, and where all of them do
  pub parts_end : (rs : List R) (body rest : List ℕ) (i start count len : ℕ)
      → HoldsRecords written Fits rs body → i ≤ length rs
      → start ≡ sum_by size (records written first i body) → rest ≡ drop start body
      → count ≡ length rs → len ≡ sum_by size (records written first (count - i) rest)
      → (start ≡ sum_by size (take i rs)) × (start + len ≡ sum_by size rs)
  parts_end rs body rest i start count len holds within is rest_is counted len_is =
      let start_is = passed_start rs body i start holds within is in
      let behind = rest_holds rs body rest i start holds start_is rest_is in
      let left : length (drop i rs) ≡ count - i = omega (arith, length-drop i rs) in
      let all = len_is ∙ ap (λ (n : ℕ). sum_by size (records written first n rest)) (sym left)
      ∙ ap (sum_by size) (records-held format (drop i rs) rest behind) in
      (start_is, omega (arith, all, start_is, sum_by-take-drop size rs i))

  -- the record at a place of a page
  pub place_holds : (kind : ℕ) (rs : List R) (number : ℕ) (bytes rest : List ℕ) (i at : ℕ)
      → IsRecordPage written Fits kind rs number bytes → at ≡ used size (take i rs)
      → rest ≡ drop at bytes → HoldsRecords written Fits (drop i rs) rest
  place_holds kind rs number bytes rest i at page is rest_is =
      let start = sum_by size (take i rs) in
      rest_holds rs (drop 8 bytes) rest i start
      (page_holds kind rs number bytes (drop 8 bytes) page refl) refl
      (rest_is ∙ ap (λ (n : ℕ). drop n bytes) is ∙ sym (drop-drop start 8 bytes))

  first_len : (rs : List R) (rest : List ℕ) (i len : ℕ) (d : R)
      → HoldsRecords written Fits (drop i rs) rest → i < length rs
      → len ≡ sum_by size (records written first 1 rest) → len ≡ size (get_or rs i d)
  first_len rs rest i len d holds below is =
      let one : take 1 (drop i rs) ≡ get_or rs i d ∷ [] = ap (take 1) (drop-cons rs i d below) in
      let all =
      is
      ∙ ap (sum_by size)
      (records-take format 1 (drop i rs) rest holds (omega (arith, length-drop i rs)) ∙ one)
      ∙ sum_by-cons size (get_or rs i d) [] in
      omega (arith, all)

  place_end : (rs : List R) (i at end : ℕ) (d : R) → i < length rs → at ≡ used size (take i rs)
      → end ≡ used size rs → at + size (get_or rs i d) ≤ end
  place_end rs i at end d below at_is end_is = omega (arith, sum_by_more_le size rs i d below)

  pub place_count : (kind : ℕ) (rs : List R) (number : ℕ) (bytes rest : List ℕ) (i at : ℕ)
      → IsRecordPage written Fits kind rs number bytes → i < length rs → at ≡ used size (take i rs)
      → rest ≡ drop at bytes → HoldsRecordCount written Fits 1 rest
  place_count kind rs number bytes rest i at page below at_is rest_is =
      count_take format 1 (drop i rs) rest
      (place_holds kind rs number bytes rest i at page at_is rest_is)
      (omega (arith, length-drop i rs))

  -- it has the length that is read, and ends where the records end, or before
  pub place_len : (kind : ℕ) (rs : List R) (number : ℕ) (bytes rest : List ℕ) (i at end len : ℕ)
      (d : R)
      → IsRecordPage written Fits kind rs number bytes → i < length rs → at ≡ used size (take i rs)
      → end ≡ used size rs → rest ≡ drop at bytes → len ≡ sum_by size (records written first 1 rest)
      → (len ≡ size (get_or rs i d)) × (at + len ≤ end)
  place_len kind rs number bytes rest i at end len d page below at_is end_is rest_is len_is =
      let ahead = place_holds kind rs number bytes rest i at page at_is rest_is in
      let same = first_len rs rest i len d ahead below len_is in
      (same, omega (arith, same, place_end rs i at end d below at_is end_is))

  -- a page after its count and its records were changed
  page_changed : (kind : ℕ) (rs changed : List R) (number : ℕ) (bytes moved new rest : List ℕ)
      → IsRecordPage written Fits kind rs number bytes → All Fits changed
      → moved ≡ header kind (length rs) number ++ (flat_map written changed ++ rest)
      → new ≡ overwritten moved 2 (to_be_bytes w16 (length changed)) → length new ≡ 4096
      → IsRecordPage written Fits kind changed number new
  page_changed kind rs changed number bytes moved new rest page fit is counted whole = record {
    size = whole;
    number_fits = page.number_fits;
    body = flat_map written changed ++ rest;
    is = counted ∙ ap (λ (b : List ℕ). overwritten b 2 (to_be_bytes w16 (length changed))) is;
    holds = record { fit = fit; rest = rest; is = refl };
  }

  -- the bytes of a page around a place
  page_parts : (kind : ℕ) (rs : List R) (number : ℕ) (bytes : List ℕ)
      (page : IsRecordPage written Fits kind rs number bytes) (i : ℕ)
      → bytes
      ≡ (header kind (length rs) number ++ flat_map written (take i rs))
      ++ (flat_map written (drop i rs) ++ page.holds.rest)
  page_parts kind rs number bytes page i =
      let top = header kind (length rs) number in
      page.is ∙ ap (λ (b : List ℕ). top ++ b) (holds_parts format i rs page.body page.holds)
      ∙ sym (append_assoc top (flat_map written (take i rs))
      (flat_map written (drop i rs) ++ page.holds.rest))

  length-front : (kind : ℕ) (rs : List R) (number : ℕ) (i : ℕ)
      → length (header kind (length rs) number ++ flat_map written (take i rs))
      ≡ used size (take i rs)
  length-front kind rs number i =
      omega (
        arith,
        length-append (header kind (length rs) number) (flat_map written (take i rs)),
        length-flat_map format (take i rs),
      )

  -- a record put at a place
  pub page_added : (kind : ℕ) (rs : List R) (number : ℕ) (bytes : List ℕ)
      → IsRecordPage written Fits kind rs number bytes
      → (i : ℕ) (r : R) (at end : ℕ) (moved put new : List ℕ)
      → i ≤ length rs → Fits r → at ≡ used size (take i rs) → end ≡ used size rs
      → size r ≤ 4096 - end
      → moved ≡ copy_within bytes at end (at + size r) → put ≡ overwritten moved at (written r)
      → new ≡ overwritten put 2 (to_be_bytes w16 (length rs + 1)) → length new ≡ 4096
      → IsRecordPage written Fits kind (insert rs i r) number new
  page_added kind rs number bytes page i r at end moved put new in' fit at_is end_is room moved_is
      put_is new_is whole =
      let len = size r in
      let top = header kind (length rs) number in
      let front = flat_map written (take i rs) in
      let back = flat_map written (drop i rs) in
      let rest = page.holds.rest in
      let here : length (top ++ front) ≡ at = length-front kind rs number i ∙ sym at_is in
      let end_at : end ≡ at + length back =
      omega (arith, sum_by-take-drop size rs i, length-flat_map format (drop i rs)) in
      let free : len ≤ length rest = omega (arith, used_within kind rs number bytes page) in
      let gap = take len (back ++ rest) in
      let moved_to : moved ≡ (top ++ front) ++ (gap ++ (back ++ drop len rest)) =
      moved_is
      ∙ ap₂ (λ (b : List ℕ) (n : ℕ). copy_within b at n (at + len))
      (page_parts kind rs number bytes page i) end_at
      ∙ moved_up (top ++ front) back rest at len here free in
      let gap_len : length gap ≡ length (written r) = omega (
        arith,
        format.sizes r,
        length-take-le len (back ++ rest)
            (omega (arith, length-append back rest)),
      ) in
      let put_to : put ≡ (top ++ front) ++ (written r ++ (back ++ drop len rest)) =
      put_is ∙ ap (λ (b : List ℕ). overwritten b at (written r)) moved_to
      ∙ overwritten-same (top ++ front) gap (written r) (back ++ drop len rest) at here gap_len in
      let joined : (top ++ front) ++ (written r ++ (back ++ drop len rest)) ≡ top
      ++ (flat_map written (insert rs i r) ++ drop len rest) =
      append_assoc top front (written r ++ (back ++ drop len rest))
      ∙ ap (λ (b : List ℕ). top ++ b) (ap (λ (b : List ℕ). front ++ b)
      (sym (append_assoc (written r) back (drop len rest)))
      ∙ sym (append_assoc front (written r ++ back) (drop len rest))
      ∙ ap (λ (b : List ℕ). b ++ drop len rest) (sym (flat_map-insert format rs i r))) in
      let fits = All-append Fits (take i rs) (r ∷ drop i rs) (All-take Fits i rs page.holds.fit)
      (All-cons Fits r (drop i rs) fit (All-drop Fits i rs page.holds.fit)) in
      page_changed kind rs (insert rs i r) number bytes put new (drop len rest) page fits
      (put_to ∙ joined)
      (new_is
      ∙ ap (λ (n : ℕ). overwritten put 2 (to_be_bytes w16 n)) (sym (length-insert rs i r in')))
      whole

  -- the record at a place taken away
  pub page_taken : (kind : ℕ) (rs : List R) (number : ℕ) (bytes : List ℕ)
      → IsRecordPage written Fits kind rs number bytes
      → (i at behind end : ℕ) (d : R) (moved new : List ℕ)
      → i < length rs → at ≡ used size (take i rs) → behind ≡ at + size (get_or rs i d)
      → end ≡ used size rs
      → moved ≡ copy_within bytes behind end at
      → new ≡ overwritten moved 2 (to_be_bytes w16 (length rs - 1)) → length new ≡ 4096
      → IsRecordPage written Fits kind (remove rs i) number new
  page_taken kind rs number bytes page i at behind end d moved new below at_is behind_is end_is
      moved_is new_is whole =
      let gone = get_or rs i d in
      let top = header kind (length rs) number in
      let front = flat_map written (take i rs) in
      let back = flat_map written (drop (suc i) rs) in
      let rest = page.holds.rest in
      let here : length (top ++ front) ≡ at = length-front kind rs number i ∙ sym at_is in
      let split : drop i rs ≡ gone ∷ drop (suc i) rs = drop-cons rs i d below in
      let parts : bytes ≡ (top ++ front) ++ (written gone ++ (back ++ rest)) =
      page_parts kind rs number bytes page i
      ∙ ap (λ (xs : List R). (top ++ front) ++ (flat_map written xs ++ rest)) split
      ∙ ap (λ (b : List ℕ). (top ++ front) ++ b) (append_assoc (written gone) back rest) in
      let behind_at : behind ≡ at + length (written gone) = omega (arith, format.sizes gone) in
      let end_at : end ≡ at + length (written gone) + length back =
      omega (
        arith,
        sum_by-take-drop size rs i,
        ap (sum_by size) split,
        sum_by-cons size gone (drop (suc i) rs),
        length-flat_map format (drop (suc i) rs),
        format.sizes gone,
      ) in
      let left = drop (length back) (written gone ++ (back ++ rest)) in
      let moved_to : moved ≡ (top ++ front) ++ (back ++ left) =
      moved_is ∙ ap₂ (λ (b : List ℕ) (n : ℕ). copy_within b n end at) parts behind_at
      ∙ ap (λ (n : ℕ). copy_within ((top ++ front) ++ (written gone ++ (back ++ rest)))
      (at + length (written gone)) n at) end_at
      ∙ moved_down (top ++ front) (written gone) back rest at here in
      let joined : (top ++ front) ++ (back ++ left) ≡ top
      ++ (flat_map written (remove rs i) ++ left) =
      append_assoc top front (back ++ left)
      ∙ ap (λ (b : List ℕ). top ++ b)
      (sym (append_assoc front back left)
      ∙ ap (λ (b : List ℕ). b ++ left) (sym (flat_map-remove format rs i))) in
      let fits = All-append Fits (take i rs) (drop (suc i) rs) (All-take Fits i rs page.holds.fit)
      (All-drop Fits (suc i) rs page.holds.fit) in
      let count : length rs - 1 ≡ length (remove rs i) = omega (arith, length-remove rs i below) in
      page_changed kind rs (remove rs i) number bytes moved new left page fits (moved_to ∙ joined)
      (new_is ∙ ap (λ (n : ℕ). overwritten moved 2 (to_be_bytes w16 n)) count) whole

  -- another page number
  pub page_numbered : (kind : ℕ) (rs : List R) (number : ℕ) (bytes : List ℕ)
      → IsRecordPage written Fits kind rs number bytes → (other : ℕ) (new : List ℕ) → other < 2 ^ 32
      → new ≡ overwritten bytes 4 (to_be_bytes w32 other) → length new ≡ 4096
      → IsRecordPage written Fits kind rs other new
  page_numbered kind rs number bytes page other new number_fits is whole = record {
    size = whole;
    number_fits = number_fits;
    body = page.body;
    is = is ∙ ap (λ (b : List ℕ). overwritten b 4 (to_be_bytes w32 other)) page.is;
    holds = page.holds;
  }

  -- a page with no record
  pub page_empty : (kind number : ℕ) (bytes new : List ℕ) → length bytes ≡ 4096 → number < 2 ^ 32
      → new ≡ overwritten bytes 0 (header kind 0 number) → length new ≡ length bytes
      → IsRecordPage written Fits kind [] number new
  page_empty kind number bytes new whole number_fits is same = record {
    size = same ∙ whole;
    number_fits = number_fits;
    body = drop 8 bytes;
    is = is;
    holds = record { fit = λ k d below. absurd (omega arith); rest = drop 8 bytes; is = refl };
  }

  -- a page that is written whole: its header, and its records behind it
  pub page_filled : (kind : ℕ) (rs : List R) (number : ℕ) (bytes top new : List ℕ)
      → length bytes ≡ 4096 → number < 2 ^ 32 → All Fits rs → used size rs ≤ 4096
      → top ≡ overwritten bytes 0 (header kind (length rs) number)
      → new ≡ overwritten top 8 (flat_map written rs) → length new ≡ 4096
      → IsRecordPage written Fits kind rs number new
  page_filled kind rs number bytes top new whole number_fits fit room top_is new_is size_is =
      let head = header kind (length rs) number in
      let all = flat_map written rs in
      let rest = drop (0 + length (head ++ all)) bytes in
      let is : new ≡ head ++ (all ++ rest) =
      new_is ∙ ap (λ (b : List ℕ). overwritten b 8 all) top_is
      ∙ overwritten-overwritten bytes 0 8 head all refl (omega (arith, length-flat_map format rs))
      ∙ append_assoc head all rest in
      record {
        size = size_is;
        number_fits = number_fits;
        body = all ++ rest;
        is = is;
        holds = record { fit = fit; rest = rest; is = refl };
      }

  -- a page that counts fewer of its records
  pub page_cut : (kind : ℕ) (rs : List R) (number : ℕ) (bytes : List ℕ)
      (page : IsRecordPage written Fits kind rs number bytes) (i : ℕ) (new : List ℕ) → i ≤ length rs
      → new ≡ overwritten bytes 2 (to_be_bytes w16 i) → length new ≡ 4096
      → IsRecordPage written Fits kind (take i rs) number new
  page_cut kind rs number bytes page i new within is whole =
      page_changed kind rs (take i rs) number bytes bytes new
      (flat_map written (drop i rs) ++ page.holds.rest) page (All-take Fits i rs page.holds.fit)
      (page.is
      ∙ ap (λ (b : List ℕ). header kind (length rs) number ++ b)
      (holds_parts format i rs page.body page.holds))
      (is
      ∙ ap (λ (n : ℕ). overwritten bytes 2 (to_be_bytes w16 n)) (sym (length-take-le i rs within)))
      whole
