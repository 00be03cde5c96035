-- The split of a page without room.
use Rattle.std.proofs.Common.{◌≡◌, inl, inr, ℕ, ◌+◌, ◌-◌, ◌^◌, ◌<◌, ◌≤◌, List, ◌∷◌, ◌++◌, length, map, take, drop, get_or, sym, ap, ◌∙◌, subst, arith, length-append}
use Rattle.std.specs.Cmp.Lexicographic.{slice_cmp}
use Rattle.std.specs.Int.{w16, to_be_bytes}
use Rattle.std.specs.List.{flat_map, All, sum_by}
use Rattle.std.specs.Ordering.{nat_cmp}
use Rattle.std.specs.declared.cmp.Ordering.TheVariants.{Less}
use Rattle.std.proofs.lemmas.Bool.{cases_lt}
use Rattle.std.proofs.lemmas.List.{drop_more, drop-map, length-drop, length-take-le, map-append, take-append-drop, take-map, take_all, take_at}
use Rattle.std.proofs.lemmas.List.Elements.{All-drop}
use Rattle.std.proofs.lemmas.List.Sums.{sum_by-drop_more, sum_by-take-drop, sum_by_more}
use Rattle.gx_bytes.specs.Page.{header, used}
use Rattle.gx_bytes.specs.Parts.{overwritten}
use Rattle.gx_bytes.specs.Records.{HoldsRecords}
use Rattle.gx_bytes.proofs.PageLemmas as pages
use Rattle.gx_bytes.proofs.RecordLemmas.{holds_behind, length-flat_map, next_same}
use Rattle.gx_bnode.specs.Branches.{Branch, IsFit, AreAscending, branch_bytes, branch_len}
use Rattle.gx_bnode.specs.Page.{IsPageOf, IsInnerPage, HasRoom, separators_in, first_of, branches_of}
use Rattle.gx_bnode.proofs.BranchLemmas.{branch_format}
use Rattle.gx_bytes.proofs.PairLemmas.{all_pairs_take, all_pairs_drop}
use Rattle.gx_bnode.proofs.PageLemmas.{page_of, separators_len}

-- a page without room is more than half full
pub full_is : (branches : List Branch) → (HasRoom (separators_in branches) → ⊥)
    → 3682 < sum_by branch_len branches
full_is branches full = elim (cases_lt 3682 (sum_by branch_len branches)) [
  | inl more ↦ more
  | inr less ↦ absurd (full (omega (arith, less, separators_len branches)))
]

-- the branches on both sides of the one across the middle
pub sides : (branches : List Branch) (place : ℕ) (d : Branch) → All IsFit branches
    → place < length branches → 3682 < sum_by branch_len branches
    → sum_by branch_len branches ≤ 4088
    → sum_by branch_len (take place branches) ≤ 2044
    → 2044 < sum_by branch_len (take (place + 1) branches)
    → (0 < place) × (place + 1 < length branches)
    × (sum_by branch_len (drop (place + 1) branches) ≤ 2044)
sides branches place d fit below full most before across =
    let more = sum_by_more branch_len branches place d below in
    let short = (fit place d below).separator in
    let whole = sum_by-take-drop branch_len branches (place + 1) in
    let first : 0 < place = elim (cases_lt 0 place) [
      | inl some ↦ some
      | inr none ↦
          absurd (omega (
            arith,
            more,
            short,
            across,
            ap (λ (n : ℕ). sum_by branch_len (take n branches))
                (let n : place ≡ 0 = omega (arith, none) in n),
          ))
    ] in
    let last : place + 1 < length branches = elim (cases_lt (place + 1) (length branches)) [
      | inl some ↦ some
      | inr none ↦ absurd (omega (
        arith,
        more,
        short,
        before,
        full,
        ap (sum_by branch_len)
            (take_all (place + 1) branches none),
      ))
    ] in
    (first, last, omega (arith, whole, across, most))

-- the left page, which counts the branches before the middle
pub left_page : (first : ℕ) (branches : List Branch) (bytes : List ℕ)
    → IsPageOf first branches bytes → (place : ℕ) (new : List ℕ) → 0 < place
    → place ≤ length branches → new ≡ overwritten bytes 2 (to_be_bytes w16 place)
    → length new ≡ 4096
    → IsPageOf first (take place branches) new
left_page first branches bytes is place new some within new_is size = record {
  page =
      pages.page_cut branch_format 0x49 branches first bytes is.page place new within new_is size;
  some = omega (arith, length-take-le place branches within);
  ascending = subst AreAscending (take-map (λ b. b.separator) place branches)
      (all_pairs_take (λ a b. slice_cmp nat_cmp a b ≡ Less) (separators_in branches) place
      is.ascending);
}

-- the right page, which holds the branches behind the middle
pub right_page : (branches : List Branch) (place child : ℕ) (bytes top new others : List ℕ)
    → All IsFit branches → AreAscending (separators_in branches) → place + 1 < length branches
    → sum_by branch_len branches ≤ 4088 → child < 2 ^ 32 → length bytes ≡ 4096
    → top ≡ overwritten bytes 0 (header 0x49 (length branches - place - 1) child)
    → others ≡ flat_map branch_bytes (drop (place + 1) branches) → new ≡ overwritten top 8 others
    → length new ≡ 4096
    → IsPageOf child (drop (place + 1) branches) new
right_page branches place child bytes top new others fit ascending below most fits size top_is
    others_is new_is size_is =
    let rest = drop (place + 1) branches in
    let count : length branches - place - 1 ≡ length rest =
    omega (arith, length-drop (place + 1) branches) in
    record {
      page =
          pages.page_filled branch_format 0x49 rest child bytes top new size fits
          (All-drop IsFit (place + 1) branches fit)
          (omega (arith, sum_by-take-drop branch_len branches (place + 1)))
          (top_is ∙ ap (λ (n : ℕ). overwritten bytes 0 (header 0x49 n child)) count)
          (new_is ∙ ap (overwritten top 8) others_is) size_is;
      some = omega (arith, length-drop (place + 1) branches);
      ascending = subst AreAscending (drop-map (λ b. b.separator) (place + 1) branches)
          (all_pairs_drop (λ a b. slice_cmp nat_cmp a b ≡ Less) (separators_in branches)
          (place + 1) ascending);
    }

-- the branches behind the one at the middle
others_hold : (branches : List Branch) (place : ℕ) (found : Branch) (rest behind : List ℕ)
    → HoldsRecords branch_bytes IsFit (drop place branches) rest → place < length branches
    → IsFit found → rest ≡ branch_bytes found ++ behind
    → HoldsRecords branch_bytes IsFit (drop (place + 1) branches) behind
others_hold branches place found rest behind holds below =
    holds_behind branch_format (get_or branches place found) found (drop (place + 1) branches) rest
    behind
    (subst (λ (bs : List Branch). HoldsRecords branch_bytes IsFit bs rest)
    (drop_more branches place found below) holds)

-- the bytes of the branches behind the middle
pub others_are : (branches : List Branch) (place : ℕ) (found : Branch) (rest behind others : List ℕ)
    (len : ℕ) → HoldsRecords branch_bytes IsFit (drop place branches) rest → place < length branches
    → IsFit found → rest ≡ branch_bytes found ++ behind
    → others ≡ take len behind → len ≡ sum_by branch_len (drop (place + 1) branches)
    → others ≡ flat_map branch_bytes (drop (place + 1) branches)
others_are branches place found rest behind others len holds below fit is others_is len_is =
    let more = drop (place + 1) branches in
    let ahead = others_hold branches place found rest behind holds below fit is in
    others_is ∙ ap (take len) ahead.is
    ∙ take_at (flat_map branch_bytes more) ahead.rest len
    (length-flat_map branch_format more ∙ sym len_is)

pub others_fit : (branches : List Branch) (place : ℕ) (found : Branch) (rest behind : List ℕ)
    → HoldsRecords branch_bytes IsFit (drop place branches) rest → place < length branches
    → IsFit found → rest ≡ branch_bytes found ++ behind
    → sum_by branch_len (drop (place + 1) branches) ≤ length behind
others_fit branches place found rest behind holds below fit is =
    let more = drop (place + 1) branches in
    let ahead = others_hold branches place found rest behind holds below fit is in
    omega (
      arith,
      ap length ahead.is,
      length-append (flat_map branch_bytes more) ahead.rest,
      length-flat_map branch_format more,
    )

-- how many bytes they take
pub others_len : (branches : List Branch) (place : ℕ) (found : Branch) (rest behind : List ℕ)
    (at end len : ℕ) → HoldsRecords branch_bytes IsFit (drop place branches) rest
    → place < length branches → IsFit found → rest ≡ branch_bytes found ++ behind
    → at ≡ used branch_len (take place branches) → end ≡ used branch_len branches
    → len ≡ branch_len found → end - at - len ≡ sum_by branch_len (drop (place + 1) branches)
others_len branches place found rest behind at end len holds below fit is at_is end_is len_is =
    let same =
    ap branch_len (next_same branch_format found place branches rest behind holds below fit is) in
    omega (
      arith,
      same,
      sum_by-take-drop branch_len branches place,
      sum_by-drop_more branch_len branches place found below,
    )

-- the branches of a page around the one at a place
around : (branches : List Branch) (place : ℕ) (branch : Branch) → place < length branches
    → branch ≡ get_or branches place branch
    → branches ≡ take place branches ++ branch ∷ drop (place + 1) branches
around branches place branch below is =
    sym (take-append-drop place branches)
    ∙ ap (λ (bs : List Branch). take place branches ++ bs) (drop_more branches place branch below
    ∙ ap (λ (b : Branch). b ∷ drop (place + 1) branches) (sym is))

pub separators_around : (branches : List Branch) (place : ℕ) (branch : Branch)
    → place < length branches → branch ≡ get_or branches place branch
    → separators_in branches
    ≡ separators_in (take place branches) ++ branch.separator
    ∷ separators_in (drop (place + 1) branches)
separators_around branches place branch below is =
    ap separators_in (around branches place branch below is)
    ∙ map-append (λ b. b.separator) (take place branches) (branch ∷ drop (place + 1) branches)

pub children_around : (first : ℕ) (branches : List Branch) (place : ℕ) (branch : Branch)
    → place < length branches → branch ≡ get_or branches place branch
    → first ∷ map (λ b. b.child) branches
    ≡ (first ∷ map (λ b. b.child) (take place branches)) ++ branch.child
    ∷ map (λ b. b.child) (drop (place + 1) branches)
children_around first branches place branch below is =
    ap (λ (bs : List Branch). first ∷ map (λ b. b.child) bs) (around branches place branch below is)
    ∙ ap (λ (xs : List ℕ). first ∷ xs) (map-append (λ (b : Branch). b.child) (take place branches)
    (branch ∷ drop (place + 1) branches))

-- a side that takes at most half has room
pub half_has_room : (branches : List Branch) → sum_by branch_len branches ≤ 2044
    → HasRoom (separators_in branches)
half_has_room branches half = omega (arith, separators_len branches)

-- the branches of a page from the middle on
pub middle_holds : (page rest : List ℕ) (place at : ℕ) → IsInnerPage page
    → at ≡ used branch_len (take place (branches_of page)) → rest ≡ drop at page
    → HoldsRecords branch_bytes IsFit (drop place (branches_of page)) rest
middle_holds page rest place at is =
    pages.place_holds branch_format 0x49 (branches_of page) (first_of page) page rest place at
    (page_of page is).page
