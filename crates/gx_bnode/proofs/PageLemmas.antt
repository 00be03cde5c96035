-- Inner pages: what is read of one, and what a change makes of it.
use Rattle.std.proofs.Common.{◌≡◌, ℕ, suc, ◌+◌, ◌-◌, ◌*◌, ◌^◌, ◌<◌, ◌≤◌, List, [], ◌∷◌, ◌++◌, length, map, take, drop, get_or, refl, sym, ap, ap₂, ◌∙◌, subst, arith, add-one}
use Rattle.std.specs.Cmp.Lexicographic.{slice_cmp}
use Rattle.std.specs.Int.{w16, w32, to_be_bytes}
use Rattle.std.specs.List.{sum_by, insert, remove, copy_within}
use Rattle.std.specs.Ordering.{nat_cmp}
use Rattle.std.specs.declared.cmp.Ordering.TheVariants.{Less}
use Rattle.std.proofs.lemmas.List.{append-nil, length-map, map-append, take-map, drop-map, get_or-map}
use Rattle.std.proofs.lemmas.List.Edits.{length-insert, length-remove}
use Rattle.std.proofs.lemmas.List.Elements.{All-cons, All-nil}
use Rattle.std.proofs.lemmas.List.Quantifiers.{all_pairs_remove}
use Rattle.std.proofs.lemmas.List.Sums.{sum_by-cons}
use Rattle.gx_bytes.specs.Page.{count_of, header, number_of, used}
use Rattle.gx_bytes.specs.Parts.{overwritten}
use Rattle.gx_bytes.specs.Records.{HoldsRecords}
use Rattle.gx_bytes.proofs.PageLemmas as pages
use Rattle.gx_bytes.proofs.RecordLemmas.{records-held}
use Rattle.gx_bnode.specs.Branches.{Branch, IsFit, AreAscending, HoldsCount, branch_bytes, branch_len, branches_in}
use Rattle.gx_bnode.specs.Page.{IsPageOf, IsInnerPage, separators_in, first_of, branches_of, separators_of, children_of}
use Rattle.gx_bnode.proofs.BranchLemmas.{branch_format}

-- a list read through a function, after an insert or a remove
pub map-insert : {X Y : Type 0} (f : X → Y) (xs : List X) (i : ℕ) (x : X)
    → map f (insert xs i x) ≡ insert (map f xs) i (f x)
map-insert f xs i x =
    map-append f (take i xs) (x ∷ drop i xs)
    ∙ ap₂ (λ ys zs. ys ++ f x ∷ zs) (sym (take-map f i xs)) (sym (drop-map f i xs))

pub map-remove : {X Y : Type 0} (f : X → Y) (xs : List X) (i : ℕ)
    → map f (remove xs i) ≡ remove (map f xs) i
map-remove f xs i =
    map-append f (take i xs) (drop (suc i) xs)
    ∙ ap₂ (λ ys zs. ys ++ zs) (sym (take-map f i xs)) (sym (drop-map f (suc i) xs))

-- a branch has six bytes at least
pub six_each : (branches : List Branch) → 6 * length branches ≤ sum_by branch_len branches
six_each [] = omega arith
six_each (branch ∷ branches) =
    omega (arith, sum_by-cons branch_len branch branches, six_each branches)

-- how many bytes branches take, by their separators
pub separators_len : (branches : List Branch)
    → sum_by (λ separator. 6 + length separator) (separators_in branches)
    ≡ sum_by branch_len branches
separators_len [] = refl
separators_len (branch ∷ branches) =
    sum_by-cons (λ separator. 6 + length separator) branch.separator (separators_in branches)
    ∙ ap (λ n. 6 + length branch.separator + n) (separators_len branches)
    ∙ sym (sum_by-cons branch_len branch branches)

pub count_small : (first : ℕ) (branches : List Branch) (bytes : List ℕ)
    → IsPageOf first branches bytes → length branches < 2 ^ 16
count_small first branches bytes is =
    omega
    (arith, pages.used_most branch_format 0x49 branches first bytes is.page, six_each branches)

-- a page has one meaning at most
pub first_of-page : (first : ℕ) (branches : List Branch) (bytes : List ℕ)
    → IsPageOf first branches bytes → first_of bytes ≡ first
unfolding first_of
first_of-page first branches bytes is =
    pages.number_of-page branch_format 0x49 branches first bytes is.page

pub branches_of-page : (first : ℕ) (branches : List Branch) (bytes : List ℕ)
    → IsPageOf first branches bytes → branches_of bytes ≡ branches
unfolding branches_of
branches_of-page first branches bytes is =
    pages.records_of-page branch_format 0x49 branches first bytes is.page
    (count_small first branches bytes is)

pub one_meaning : (first other : ℕ) (branches others : List Branch) (bytes : List ℕ)
    → IsPageOf first branches bytes → IsPageOf other others bytes
    → (first ≡ other) × (branches ≡ others)
one_meaning first other branches others bytes is same = (
  sym (first_of-page first branches bytes is) ∙ first_of-page other others bytes same,
  sym (branches_of-page first branches bytes is) ∙ branches_of-page other others bytes same,
)

-- bytes that are an inner page are one of what is read of them
pub page_of : (bytes : List ℕ) → IsInnerPage bytes
    → IsPageOf (first_of bytes) (branches_of bytes) bytes
page_of bytes page =
    subst (λ (bs : List Branch). IsPageOf (first_of bytes) bs bytes)
    (sym (branches_of-page page.first page.branches bytes page.is))
    (subst (λ (n : ℕ). IsPageOf n page.branches bytes)
    (sym (first_of-page page.first page.branches bytes page.is)) page.is)

pub inner_page : (first : ℕ) (branches : List Branch) (bytes : List ℕ)
    → IsPageOf first branches bytes → IsInnerPage bytes
inner_page first branches bytes is = record { first = first; branches = branches; is = is }

pub used_most : (bytes : List ℕ) → IsInnerPage bytes → used branch_len (branches_of bytes) ≤ 4096
used_most bytes page =
    pages.used_most branch_format 0x49 (branches_of bytes) (first_of bytes) bytes
    (page_of bytes page).page

pub page_size : (bytes : List ℕ) → IsInnerPage bytes → length bytes ≡ 4096
page_size bytes page = page.is.page.size

-- what the header tells
pub count_is : (bytes : List ℕ) → IsInnerPage bytes → count_of bytes ≡ length (branches_of bytes)
count_is bytes page =
    let is = page_of bytes page in
    pages.count_of-page branch_format 0x49 (branches_of bytes) (first_of bytes) bytes is.page
    (count_small (first_of bytes) (branches_of bytes) bytes is)

pub first_is : (bytes : List ℕ) → number_of bytes ≡ first_of bytes
unfolding first_of
first_is bytes = refl

pub separators_count : (branches : List Branch) → length (separators_in branches) ≡ length branches
separators_count branches = length-map branches (λ branch. branch.separator)

-- the branches behind the header, as many as the page counts
pub body_holds : (bytes body : List ℕ) → IsInnerPage bytes → body ≡ drop 8 bytes
    → HoldsRecords branch_bytes IsFit (branches_of bytes) body
body_holds bytes body page behind =
    pages.page_holds branch_format 0x49 (branches_of bytes) (first_of bytes) bytes body
    (page_of bytes page).page behind

pub body_count : (bytes body : List ℕ) (count : ℕ) → IsInnerPage bytes → body ≡ drop 8 bytes
    → count ≡ length (branches_of bytes) → HoldsCount count body
body_count bytes body count page behind counted = record {
  held = branches_of bytes;
  count = sym counted;
  holds = body_holds bytes body page behind;
}

pub body_branches : (bytes body : List ℕ) (count : ℕ) → IsInnerPage bytes → body ≡ drop 8 bytes
    → count ≡ length (branches_of bytes) → branches_in count body ≡ branches_of bytes
body_branches bytes body count page behind counted =
    ap (λ (n : ℕ). branches_in n body) counted
    ∙ records-held branch_format (branches_of bytes) body (body_holds bytes body page behind)

-- another first child
pub page_first : (first : ℕ) (branches : List Branch) (bytes : List ℕ)
    → IsPageOf first branches bytes → (other : ℕ) (new : List ℕ) → other < 2 ^ 32
    → new ≡ overwritten bytes 4 (to_be_bytes w32 other) → length new ≡ 4096
    → IsPageOf other branches new
page_first first branches bytes is other new fits new_is size =
    record {
      page = pages.page_numbered branch_format 0x49 branches first bytes is.page other new fits
          new_is size;
      some = is.some;
      ascending = is.ascending;
    }

-- a branch put at a place
pub page_added : (first : ℕ) (branches : List Branch) (bytes : List ℕ)
    → IsPageOf first branches bytes
    → (i : ℕ) (branch : Branch) (at end : ℕ) (moved put new : List ℕ)
    → i ≤ length branches → IsFit branch
    → AreAscending (insert (separators_in branches) i branch.separator)
    → at ≡ used branch_len (take i branches) → end ≡ used branch_len branches
    → branch_len branch ≤ 4096 - end
    → moved ≡ copy_within bytes at end (at + branch_len branch)
    → put ≡ overwritten moved at (branch_bytes branch)
    → new ≡ overwritten put 2 (to_be_bytes w16 (length branches + 1)) → length new ≡ 4096
    → IsPageOf first (insert branches i branch) new
page_added first branches bytes is i branch at end moved put new in' fit ascending at_is end_is room
    moved_is put_is new_is size = record {
      page = pages.page_added branch_format 0x49 branches first bytes is.page i branch at end moved
          put
          new in' fit at_is end_is room moved_is put_is new_is size;
      some = omega (arith, length-insert branches i branch in');
      ascending = subst AreAscending (sym (map-insert (λ b. b.separator) branches i branch))
          ascending;
    }

-- the branch at a place taken away
pub page_taken : (first : ℕ) (branches : List Branch) (bytes : List ℕ)
    → IsPageOf first branches bytes → (i at behind end : ℕ) (d : Branch) (moved new : List ℕ)
    → i < length branches → 2 ≤ length branches → at ≡ used branch_len (take i branches)
    → behind ≡ at + branch_len (get_or branches i d) → end ≡ used branch_len branches
    → moved ≡ copy_within bytes behind end at
    → new ≡ overwritten moved 2 (to_be_bytes w16 (length branches - 1)) → length new ≡ 4096
    → IsPageOf first (remove branches i) new
page_taken first branches bytes is i at behind end d moved new below several at_is behind_is end_is
    moved_is new_is size = record {
      page = pages.page_taken branch_format 0x49 branches first bytes is.page i at behind end d
          moved
          new below at_is behind_is end_is moved_is new_is size;
      some = omega (arith, length-remove branches i below);
      ascending = subst AreAscending (sym (map-remove (λ b. b.separator) branches i))
          (all_pairs_remove (λ a b. slice_cmp nat_cmp a b ≡ Less) (separators_in branches) i
          (omega (arith, separators_count branches))
          is.ascending);
    }

-- how many bytes the branches behind the header take
pub body_len : (bytes body : List ℕ) (count len : ℕ) → IsInnerPage bytes → body ≡ drop 8 bytes
    → count ≡ length (separators_of bytes) → len ≡ sum_by branch_len (branches_in count body)
    → len ≡ sum_by (λ separator. 6 + length separator) (separators_of bytes)
body_len bytes body count len page behind counted is =
    is
    ∙ ap (sum_by branch_len)
    (body_branches bytes body count page behind (counted ∙ separators_count (branches_of bytes)))
    ∙ sym (separators_len (branches_of bytes))

-- the separator and the child at a place
pub separator_at : (branches : List Branch) (i : ℕ) (branch : Branch) → i < length branches
    → ((d : Branch) → get_or branches i d ≡ branch)
    → branch.separator ≡ get_or (separators_in branches) i []
separator_at branches i branch below at =
    sym (get_or-map (λ b. b.separator) branches i branch [] below
    ∙ ap (λ (b : Branch). b.separator) (at branch))

pub child_at : (first : ℕ) (branches : List Branch) (i : ℕ) (branch : Branch) → 0 < i
    → i ≤ length branches → ((d : Branch) → get_or branches (i - 1) d ≡ branch)
    → branch.child ≡ get_or (first ∷ map (λ b. b.child) branches) i 0
child_at first branches i branch some within at =
    sym (ap (λ (n : ℕ). get_or (first ∷ map (λ (b : Branch). b.child) branches) n 0)
    (let n : i ≡ suc (i - 1) = omega arith in n)
    ∙ get_or-map (λ b. b.child) branches (i - 1) branch 0 (omega arith)
    ∙ ap (λ (b : Branch). b.child) (at branch))

-- what a page of other branches says
pub record Says (first : ℕ) (branches : List Branch) (bytes : List ℕ) : Type 0 where
  pub page : IsInnerPage bytes
  pub separators : separators_of bytes ≡ separators_in branches
  pub children : children_of bytes ≡ first ∷ map (λ branch. branch.child) branches

pub says : (first : ℕ) (branches : List Branch) (bytes : List ℕ) → IsPageOf first branches bytes
    → Says first branches bytes
says first branches bytes is = record {
  page = inner_page first branches bytes is;
  separators = ap separators_in (branches_of-page first branches bytes is);
  children = ap₂ (λ (n : ℕ) (bs : List Branch). n ∷ map (λ branch. branch.child) bs)
      (first_of-page first branches bytes is) (branches_of-page first branches bytes is);
}

-- a page of one separator between two children
pub page_made : (left : ℕ) (branch : Branch) (bytes top new : List ℕ) → length bytes ≡ 4096
    → left < 2 ^ 32 → IsFit branch → top ≡ overwritten bytes 0 (header 0x49 1 left)
    → new ≡ overwritten top 8 (branch_bytes branch) → length new ≡ 4096
    → IsPageOf left (branch ∷ []) new
page_made left branch bytes top new size fits fit top_is new_is size_is = record {
  page =
      pages.page_filled branch_format 0x49 (branch ∷ []) left bytes top new size fits
      (All-cons IsFit branch [] fit (All-nil IsFit))
      (omega (arith, sum_by-cons branch_len branch [], fit.separator))
      top_is (new_is ∙ ap (overwritten top 8) (sym (append-nil (branch_bytes branch)))) size_is;
  some = omega arith;
  ascending = λ i j d lt below. absurd (omega arith);
}

-- the children after a branch was put at a place, or taken away
pub children-insert : (first : ℕ) (branches : List Branch) (i : ℕ) (branch : Branch)
    → first ∷ map (λ b. b.child) (insert branches i branch)
    ≡ insert (first ∷ map (λ b. b.child) branches) (i + 1) branch.child
children-insert first branches i branch =
    ap (λ (xs : List ℕ). first ∷ xs) (map-insert (λ (b : Branch). b.child) branches i branch)
    ∙ ap (λ (n : ℕ). insert (first ∷ map (λ (b : Branch). b.child) branches) n branch.child)
    (sym (add-one i))

pub children-remove : (first : ℕ) (branches : List Branch) (i : ℕ) → 0 < i
    → first ∷ map (λ b. b.child) (remove branches (i - 1))
    ≡ remove (first ∷ map (λ b. b.child) branches) i
children-remove first branches i some =
    ap (λ (xs : List ℕ). first ∷ xs) (map-remove (λ (b : Branch). b.child) branches (i - 1))
    ∙ ap (λ (n : ℕ). remove (first ∷ map (λ (b : Branch). b.child) branches) n)
    (let n : suc (i - 1) ≡ i = omega arith in n)

pub children-remove_first : (first second : ℕ) (branches : List Branch) → 0 < length branches
    → second ≡ get_or (first ∷ map (λ b. b.child) branches) 1 0
    → second ∷ map (λ b. b.child) (remove branches 0)
    ≡ remove (first ∷ map (λ b. b.child) branches) 0
children-remove_first first second [] some is = absurd (omega arith)
children-remove_first first second (branch ∷ branches) some is =
    ap (λ (n : ℕ). n ∷ map (λ (b : Branch). b.child) branches) is
