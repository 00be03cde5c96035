-- Bytes that begin with branches with ascending separators, and inner pages.
use Rattle.std.proofs.Common.{◌≡◌, ℕ, ◌<◌, List, length, drop, get_or, sym, ap, ◌∙◌, arith}
use Rattle.std.specs.declared.cmp.Ordering.TheVariants.{Less}
use Rattle.gx_bytes.specs.Page.{count_of, number_of}
use Rattle.gx_bytes.proofs.PageLemmas as pages
use Rattle.gx_bytes.proofs.PairLemmas.{all_pairs_map, all_pairs_of_map}
use Rattle.gx_order.proofs.BelowLemmas.{cmp}
use Rattle.gx_bnode.specs.Page.{IsInnerPage, branches_of}
use Rattle.gx_bnode.specs.Scan.{HoldsAscending}
use Rattle.gx_bnode.proofs.BranchLemmas.{branch_format}
use Rattle.gx_bnode.proofs.PageLemmas.{body_holds, count_is, page_of}

abbrev IsLess : List ℕ → List ℕ → Type 0
IsLess a b = cmp a b ≡ Less

-- bytes with the header of an inner page and so many branches behind it are one
pub scanned_page : (bytes body : List ℕ) (count : ℕ) → length bytes ≡ 4096 → get_or bytes 0 0 ≡ 0x49
    → get_or bytes 1 0 ≡ 0 → ((i : ℕ) → get_or bytes i 0 < 256) → body ≡ drop 8 bytes
    → count ≡ count_of bytes → 0 < count → HoldsAscending count body → IsInnerPage bytes
scanned_page bytes body count size kind blank small behind counted some held = record {
  first = number_of bytes;
  branches = held.held;
  is = record {
    page = pages.page_from_bytes branch_format 0x49 bytes body count size kind blank small behind
        counted held.held held.count held.holds;
    some = omega (arith, held.count);
    ascending = all_pairs_map IsLess (λ branch. branch.separator) held.held held.ascending;
  };
}

-- an inner page has branches with ascending separators behind its header, as many as it counts
pub page_scanned : (bytes body : List ℕ) (count : ℕ) → body ≡ drop 8 bytes → count ≡ count_of bytes
    → IsInnerPage bytes → HoldsAscending count body
page_scanned bytes body count behind counted page = record {
  held = branches_of bytes;
  count = sym (counted ∙ count_is bytes page);
  holds = body_holds bytes body page behind;
  ascending = all_pairs_of_map IsLess (λ branch. branch.separator) (branches_of bytes)
      (page_of bytes page).ascending;
}

-- it begins with its kind and a 0, and counts one branch at least
pub page_kind : (bytes : List ℕ) → IsInnerPage bytes
    → (get_or bytes 0 0 ≡ 0x49) × (get_or bytes 1 0 ≡ 0)
page_kind bytes page = (
  ap (λ (b : List ℕ). get_or b 0 0) page.is.page.is,
  ap (λ (b : List ℕ). get_or b 1 0) page.is.page.is,
)

pub page_some : (bytes : List ℕ) (count : ℕ) → IsInnerPage bytes → count ≡ count_of bytes
    → 0 < count
page_some bytes count page counted =
    let all = counted ∙ count_is bytes page in
    omega (arith, all, (page_of bytes page).some)
