-- The way to a key, as branches are looked at one after the other.
use Rattle.std.proofs.Common.{◌≡◌, ℕ, ◌+◌, ◌<◌, ◌≤◌, true, List, [], ◌∷◌, ◌++◌, length, map, take, drop, get_or, refl, sym, ap, ◌∙◌, subst, arith, length-append}
use Rattle.std.specs.List.{All, flat_map, sum_by}
use Rattle.std.specs.Ordering.{is_le}
use Rattle.std.specs.declared.cmp.Ordering.TheVariants.{Less}
use Rattle.std.proofs.lemmas.Cmp.{nat_list_cmp_total}
use Rattle.std.proofs.lemmas.List.{take_all, drop_all, take-append-le, drop-append-le, get_or_at, get_or-drop, get_or_append_left, length-drop, length-map, length_push, map-append}
use Rattle.std.proofs.lemmas.List.Elements.{All-nil, All-push}
use Rattle.gx_bytes.specs.Page.{count_of, number_of}
use Rattle.gx_bytes.proofs.PairLemmas.{all_pairs_map}
use Rattle.gx_bytes.proofs.RecordLemmas.{found_more, length-flat_map, records-cons, records-held}
use Rattle.gx_bytes.proofs.ScanLemmas.{Scanned}
use Rattle.gx_order.proofs.BelowLemmas.{cmp}
use Rattle.gx_bnode.specs.Branches.{Branch, IsFit, AreAscending, branch_bytes, branch_len, branches_in}
use Rattle.gx_bnode.specs.Forks.{IsWay}
use Rattle.gx_bnode.specs.Page.{IsInnerPage, first_of, branches_of, separators_in, separators_of}
use Rattle.gx_bnode.specs.Scan.{HoldsAscending}
use Rattle.gx_bnode.proofs.BranchLemmas.{branch_format}
use Rattle.gx_bnode.proofs.PageLemmas.{body_branches, body_len, count_is, first_is, separators_count, used_most}
use Rattle.gx_bnode.proofs.ScanLemmas.{scanned_page}

-- the way among no branches
pub way_none : (first : ℕ) (key : List ℕ) → IsWay first [] key 0 first
way_none first key = record {
  within = omega arith;
  before = λ k d below. absurd (omega (arith, below));
  behind = λ k d below. absurd (omega (arith, below));
  child_is = refl;
}

-- the way stays where one more separator stands behind the key
pub way_stops : (first : ℕ) (branches : List Branch) (branch : Branch) (key : List ℕ) (place child : ℕ)
    → IsWay first branches key place child → cmp key branch.separator ≡ Less
    → IsWay first (branches ++ branch ∷ []) key place child
way_stops first branches branch key place child is less =
    let old = separators_in branches in
    let size : length old ≡ length branches = length-map branches (λ b. b.separator) in
    let all : separators_in (branches ++ branch ∷ []) ≡ old ++ branch.separator ∷ [] =
    map-append (λ b. b.separator) branches (branch ∷ []) in
    let inside : place ≤ length old = omega (arith, is.within, size) in
    record {
      within = omega (arith, is.within, length_push branches branch);
      before = subst (All (λ s. is_le (cmp s key) ≡ true))
          (sym (ap (take place) all ∙ take-append-le place old (branch.separator ∷ []) inside))
          is.before;
      behind = subst (All (λ s. cmp key s ≡ Less))
          (sym (ap (drop place) all ∙ drop-append-le place old (branch.separator ∷ []) inside))
          (All-push (λ s. cmp key s ≡ Less) (drop place old) branch.separator is.behind less);
      child_is = is.child_is
          ∙ sym (ap (λ (cs : List ℕ). get_or (first ∷ cs) place 0)
          (map-append (λ b. b.child) branches (branch ∷ []))
          ∙ get_or_append_left (first ∷ map (λ b. b.child) branches) (branch.child ∷ []) 0 place
          (let n = length-map branches (λ b. b.child) in omega (arith, is.within, n)));
    }

-- so it does where it was found before
pub way_found : (first : ℕ) (branches : List Branch) (branch : Branch) (key : List ℕ)
    (place child : ℕ) → AreAscending (separators_in (branches ++ branch ∷ []))
    → IsWay first branches key place child → place < length branches
    → IsWay first (branches ++ branch ∷ []) key place child
way_found first branches branch key place child ascending is inside =
    let old = separators_in branches in
    let size : length old ≡ length branches = length-map branches (λ b. b.separator) in
    let all : separators_in (branches ++ branch ∷ []) ≡ old ++ branch.separator ∷ [] =
    map-append (λ b. b.separator) branches (branch ∷ []) in
    let up = subst AreAscending all ascending in
    let below : place < length old = omega (arith, inside, size) in
    let here : cmp key (get_or old place []) ≡ Less =
    subst (λ (s : List ℕ). cmp key s ≡ Less)
    (get_or-drop place old 0 []
    ∙ ap (λ (n : ℕ). get_or old n []) (let n : place + 0 ≡ place = omega arith in n))
    (is.behind 0 [] (omega (arith, length-drop place old, below))) in
    let less : cmp (get_or old place []) branch.separator ≡ Less =
    subst (λ (s : List ℕ). cmp (get_or old place []) s ≡ Less)
    (get_or_at old branch.separator [] [] (length old) refl)
    (subst (λ (s : List ℕ). cmp s (get_or (old ++ branch.separator ∷ []) (length old) []) ≡ Less)
    (get_or_append_left old (branch.separator ∷ []) [] place below)
    (up place (length old) [] below (omega (arith, length_push old branch.separator)))) in
    way_stops first branches branch key place child is
    (nat_list_cmp_total.trans key (get_or old place []) branch.separator here less)

-- it goes on behind one more separator at or below the key
pub way_goes : (first : ℕ) (branches : List Branch) (branch : Branch) (key : List ℕ)
    (place child new right : ℕ) → IsWay first branches key place child → length branches ≤ place
    → is_le (cmp branch.separator key) ≡ true → new ≡ length branches + 1 → right ≡ branch.child
    → IsWay first (branches ++ branch ∷ []) key new right
way_goes first branches branch key place child new right is over le new_is right_is =
    let old = separators_in branches in
    let size : length old ≡ length branches = length-map branches (λ b. b.separator) in
    let all : separators_in (branches ++ branch ∷ []) ≡ old ++ branch.separator ∷ [] =
    map-append (λ b. b.separator) branches (branch ∷ []) in
    let reach : length (old ++ branch.separator ∷ []) ≤ new =
    omega (arith, new_is, size, length_push old branch.separator) in
    let kids = map (λ (b : Branch). b.child) branches in
    let front : take place old ≡ old = take_all place old (omega (arith, over, size)) in
    record {
      within = omega (arith, new_is, length_push branches branch);
      before = subst (All (λ s. is_le (cmp s key) ≡ true))
          (sym (ap (take new) all ∙ take_all new (old ++ branch.separator ∷ []) reach))
          (All-push (λ s. is_le (cmp s key) ≡ true) old branch.separator
          (subst (All (λ s. is_le (cmp s key) ≡ true)) front is.before) le);
      behind = subst (All (λ s. cmp key s ≡ Less))
          (sym (ap (drop new) all ∙ drop_all new (old ++ branch.separator ∷ []) reach))
          (All-nil (λ s. cmp key s ≡ Less));
      child_is = right_is
          ∙ sym (ap (λ (cs : List ℕ). get_or (first ∷ cs) new 0)
          (map-append (λ b. b.child) branches (branch ∷ []))
          ∙ get_or_at (first ∷ kids) branch.child [] 0 new
          (let n = length-map branches (λ b. b.child) in omega (arith, new_is, n)));
    }

-- the branches that a scan has found
module _ (bytes : List ℕ) (place : ℕ) (rest last : List ℕ)
    (scan : Scanned branch_bytes IsFit (λ branch. branch.separator) bytes place rest last) where
  all_is : branches_in place bytes ≡ scan.before ++ scan.end ∷ []
  all_is =
      ap (λ (n : ℕ). branches_in n bytes) (sym (length_push scan.before scan.end ∙ scan.count))
      ∙ records-held branch_format (scan.before ++ scan.end ∷ []) bytes
      (record { fit = scan.fit; rest = rest; is = scan.is })

  pub scan_up : AreAscending (separators_in (branches_in place bytes))
  scan_up =
      subst (λ (bs : List Branch). AreAscending (separators_in bs)) (sym all_is)
      (all_pairs_map (λ a b. cmp a b ≡ Less) (λ branch. branch.separator)
      (scan.before ++ scan.end ∷ []) scan.ascending)

  pub scan_len : length bytes ≡ sum_by branch_len (branches_in place bytes) + length rest
  scan_len =
      ap length scan.is
      ∙ length-append (flat_map branch_bytes (scan.before ++ scan.end ∷ [])) rest
      ∙ ap (λ (n : ℕ). n + length rest)
      (length-flat_map branch_format (scan.before ++ scan.end ∷ [])
      ∙ ap (sum_by branch_len) (sym all_is))

  pub scan_more : (branch : Branch) (behind : List ℕ) → IsFit branch
      → rest ≡ branch_bytes branch ++ behind
      → branches_in (place + 1) bytes ≡ branches_in place bytes ++ branch ∷ []
  scan_more branch behind fit is =
      let front = scan.before ++ scan.end ∷ [] in
      let size : length (front ++ branch ∷ []) ≡ place + 1 =
      omega (arith, length_push front branch, length_push scan.before scan.end, scan.count) in
      ap (λ (n : ℕ). branches_in n bytes) (sym size)
      ∙ records-held branch_format (front ++ branch ∷ []) bytes
      (record {
        fit = All-push IsFit front branch scan.fit fit;
        rest = behind;
        is = found_more branch_format front branch bytes rest behind scan.is is;
      })
      ∙ ap (λ (bs : List Branch). bs ++ branch ∷ []) (sym all_is)

pub scan_one : (bytes : List ℕ) (branch : Branch) (behind : List ℕ) → IsFit branch
    → bytes ≡ branch_bytes branch ++ behind → branches_in 1 bytes ≡ branch ∷ []
scan_one bytes branch behind fit is = records-cons branch_format 0 branch bytes behind fit is

pub one_up : (branch : Branch) → AreAscending (separators_in (branch ∷ []))
one_up branch i j d lt below = absurd (omega (arith, lt, below))

-- a page whose branches were walked through
pub record IsWalked (page key : List ℕ) (count place child len : ℕ) : Type 0 where
  pub inner : IsInnerPage page
  pub way : IsWay (first_of page) (branches_of page) key place child
  pub counted : count ≡ length (separators_of page)
  pub len_is : len ≡ sum_by (λ separator. 6 + length separator) (separators_of page)
  pub most : 8 + len ≤ 4096

pub walked : (page body key : List ℕ) (count first place child len : ℕ) → length page ≡ 4096
    → get_or page 0 0 ≡ 0x49 → get_or page 1 0 ≡ 0 → ((i : ℕ) → get_or page i 0 < 256)
    → body ≡ drop 8 page → count ≡ count_of page → 0 < count → first ≡ number_of page
    → HoldsAscending count body → IsWay first (branches_in count body) key place child
    → len ≡ sum_by branch_len (branches_in count body) → IsWalked page key count place child len
walked page body key count first place child len size kind blank small behind counted some first_eq
    held way len_eq =
    let inner = scanned_page page body count size kind blank small behind counted some held in
    let number : count ≡ length (branches_of page) = counted ∙ count_is page inner in
    let same : branches_in count body ≡ branches_of page =
    body_branches page body count inner behind number in
    record {
      inner = inner;
      way = subst (λ (n : ℕ). IsWay n (branches_of page) key place child)
          (first_eq ∙ first_is page)
          (subst (λ (bs : List Branch). IsWay first bs key place child) same way);
      counted = number ∙ sym (separators_count (branches_of page));
      len_is = body_len page body count len inner behind
          (number ∙ sym (separators_count (branches_of page))) len_eq;
      most = let sum : len ≡ sum_by branch_len (branches_of page) =
          len_eq ∙ ap (sum_by branch_len) same in
          omega (arith, sum, used_most page inner);
    }
