-- The walk over an inner page, to the child on the way to a key.
use Rattle.std.proofs.Common.{◌≡◌, ◌≢◌, ℕ, ◌+◌, ◌<◌, ◌≤◌, true, false, List, ◌∷◌, ◌++◌, length, drop, get_or, Option, Some, refl, sym, ap, ◌∙◌, subst, arith}
use Rattle.std.proofs.lemmas.Bool.{cond-true, cond-false}
use Rattle.std.proofs.lemmas.List.{drop_all, drop_more, length-drop}
use Rattle.gx_bytes.specs.Page.{count_of, number_of}
use Rattle.gx_bytes.specs.Records.{HoldsRecords}
use Rattle.gx_bytes.proofs.RecordLemmas.{Passed, passed_none, passed_more, first_same, holds_first}
use Rattle.gx_bnode.specs.Branches.{Branch, IsFit, branch_bytes}
use Rattle.gx_bnode.specs.Page.{IsInnerPage, first_of, branches_of}
use Rattle.gx_bnode.proofs.BranchLemmas.{branch_format}
use Rattle.gx_bnode.proofs.PageLemmas.{body_holds, count_is, first_is}
use Rattle.gx_btree.specs.Order.{is_below}
use Rattle.gx_btree.specs.Tree.{child_for, bound_for}

-- so many branches of an inner page were passed, and the way goes on from this child
pub record IsOnWay (page body key : List ℕ) (hi : Option (List ℕ)) (place child : ℕ)
    (rest : List ℕ) : Type 0 where
  pub passed : Passed branch_bytes IsFit (branches_of page) place body rest
  pub child_is : child_for child (drop place (branches_of page)) key
      ≡ child_for (first_of page) (branches_of page) key
  pub bound_is : bound_for (drop place (branches_of page)) key hi
      ≡ bound_for (branches_of page) key hi

pub way_starts : (page body key : List ℕ) (hi : Option (List ℕ)) (first : ℕ) → body ≡ drop 8 page
    → first ≡ number_of page → IsInnerPage page → IsOnWay page (drop 8 page) key hi 0 first body
way_starts page body key hi first behind is inner = record {
  passed =
      subst (λ b. Passed branch_bytes IsFit (branches_of page) 0 b body) behind
      (passed_none branch_format (branches_of page) body (body_holds page body inner behind));
  child_is = ap (λ n. child_for n (branches_of page) key) (is ∙ first_is page);
  bound_is = refl;
}

module _ (page body key : List ℕ) (hi : Option (List ℕ)) (place child : ℕ) (rest : List ℕ)
    (count : ℕ)
    (w : IsInnerPage page → IsOnWay page body key hi place child rest)
    (counted : count ≡ count_of page) where
  inside : place < count → IsInnerPage page → place < length (branches_of page)
  inside below inner = omega (arith, below, counted, count_is page inner)

  -- a branch is ahead
  pub way_cut : place < count
      → ((b : Branch) (tail : List ℕ) → IsFit b → rest ≢ branch_bytes b ++ tail) → IsInnerPage page
      → ⊥
  way_cut below none inner =
      holds_first branch_format (drop place (branches_of page)) rest (w inner).passed.ahead
      (omega (arith, inside below inner, length-drop place (branches_of page))) none

  module _ (b : Branch) (behind : List ℕ) (below : place < count) (fit : IsFit b)
      (is : rest ≡ branch_bytes b ++ behind) (inner : IsInnerPage page) where
    next_is : drop place (branches_of page) ≡ b ∷ drop (place + 1) (branches_of page)
    next_is =
        let bs = branches_of page in
        let more = drop_more bs place b (inside below inner) in
        let same =
        first_same branch_format (get_or bs place b) b (drop (place + 1) bs) rest behind
        (subst (λ xs. HoldsRecords branch_bytes IsFit xs rest) more (w inner).passed.ahead) fit
        is in
        more ∙ ap (λ (x : Branch). x ∷ drop (place + 1) bs) (sym same)

    -- the key is below the separator: the way ends
    pub way_found : is_below key b.separator ≡ true
        → (child ≡ child_for (first_of page) (branches_of page) key)
        × (Some b.separator ≡ bound_for (branches_of page) key hi)
    way_found less =
        let bs = drop (place + 1) (branches_of page) in (
          sym (cond-true (is_below key b.separator) child (child_for b.child bs key) less)
              ∙ ap (λ xs. child_for child xs key) (sym next_is) ∙ (w inner).child_is,
          sym (cond-true (is_below key b.separator) (Some b.separator) (bound_for bs key hi) less)
              ∙ ap (λ xs. bound_for xs key hi) (sym next_is) ∙ (w inner).bound_is,
        )

    pub way_more : is_below key b.separator ≡ false
        → IsOnWay page body key hi (place + 1) b.child behind
    way_more over =
        let bs = drop (place + 1) (branches_of page) in
        record {
          passed = passed_more branch_format (branches_of page) place body rest b behind
              (w inner).passed (inside below inner) fit is;
          child_is =
              sym (cond-false (is_below key b.separator) child (child_for b.child bs key) over)
              ∙ ap (λ xs. child_for child xs key) (sym next_is) ∙ (w inner).child_is;
          bound_is =
              sym
              (cond-false (is_below key b.separator) (Some b.separator) (bound_for bs key hi) over)
              ∙ ap (λ xs. bound_for xs key hi) (sym next_is) ∙ (w inner).bound_is;
        }

  pub way_ended : count ≤ place → IsInnerPage page
      → (child ≡ child_for (first_of page) (branches_of page) key)
      × (hi ≡ bound_for (branches_of page) key hi)
  way_ended over inner =
      let none = drop_all place (branches_of page)
      (omega (arith, over, counted, count_is page inner)) in (
        ap (λ xs. child_for child xs key) (sym none) ∙ (w inner).child_is,
        ap (λ xs. bound_for xs key hi) (sym none) ∙ (w inner).bound_is,
      )
