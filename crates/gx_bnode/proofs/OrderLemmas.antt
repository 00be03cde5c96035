-- The place of a key among separators that ascend.
use Rattle.std.proofs.Common.{◌≡◌, ℕ, zero, suc, ◌+◌, ◌-◌, ◌<◌, ◌≤◌, Bool, true, false, cond, List, [], ◌∷◌, length, take, drop, get_or, refl, sym, ap, ◌∙◌, subst, arith}
use Rattle.std.specs.List.{All, count_by, insert}
use Rattle.std.specs.Ordering.{is_le, ordering_reverse}
use Rattle.std.specs.declared.cmp.Ordering.TheVariants.{Less}
use Rattle.std.proofs.lemmas.Cmp.{nat_list_cmp_total}
use Rattle.std.proofs.lemmas.List.{drop_all, get_or-drop, get_or-take, get_or-map, get_or_default, length-drop, length-map, length-take-le, take-map}
use Rattle.std.proofs.lemmas.List.Elements.{All-head, All-map, All-nil, All-tail, All-weaker}
use Rattle.std.proofs.lemmas.List.Sums.{sum_by-cons, sum_by-take-drop}
use Rattle.gx_order.proofs.BelowLemmas.{cmp}
use Rattle.gx_bytes.proofs.PairLemmas.{all_pairs_insert}
use Rattle.gx_bytes.proofs.SearchLemmas.{IsAt, HasPassed, at_next, at_end}
use Rattle.gx_bnode.specs.Branches.{Branch, AreAscending}
use Rattle.gx_bnode.specs.Page.{separators_in}

less_is_not_le : (key separator : List ℕ) → cmp key separator ≡ Less
    → is_le (cmp separator key) ≡ false
less_is_not_le key separator less =
    ap is_le (nat_list_cmp_total.antisymm separator key ∙ ap ordering_reverse less)

-- the separators behind one that a key stands before
pub all_behind : (separators : List (List ℕ)) (i : ℕ) (key : List ℕ) → AreAscending separators
    → i < length separators → cmp key (get_or separators i []) ≡ Less
    → All (λ separator. cmp key separator ≡ Less) (drop i separators)
all_behind separators i key ascending below less k d in' =
    subst (λ (s : List ℕ). cmp key s ≡ Less) (sym (get_or-drop i separators k d)) (go k in') where
      here : cmp key (get_or separators i d) ≡ Less
      here = subst (λ (s : List ℕ). cmp key s ≡ Less) (get_or_default separators i [] d below) less

      go : (k : ℕ) → k < length (drop i separators) → cmp key (get_or separators (i + k) d) ≡ Less
      go zero in' =
          subst (λ (n : ℕ). cmp key (get_or separators n d) ≡ Less)
          (let n : i ≡ i + 0 = omega arith in n) here
      go (suc k) in' =
          nat_list_cmp_total.trans key (get_or separators i d) (get_or separators (i + suc k) d)
          here
          (ascending i (i + suc k) d (omega arith) (omega (arith, length-drop i separators)))

-- a count of those that pass a test
abbrev tick : Bool → ℕ
tick b = cond b 1 0

count_all : (p : List ℕ → Bool) (xs : List (List ℕ)) → All (λ x. p x ≡ true) xs
    → count_by p xs ≡ length xs
count_all p [] all = refl
count_all p (x ∷ xs) all =
    let one : tick (p x) ≡ 1 = ap tick (All-head (λ y. p y ≡ true) x xs all) in
    omega (
      arith,
      sum_by-cons (λ y. tick (p y)) x xs,
      one,
      count_all p xs (All-tail (λ y. p y ≡ true) x xs all),
    )

count_none : (p : List ℕ → Bool) (xs : List (List ℕ)) → All (λ x. p x ≡ false) xs
    → count_by p xs ≡ 0
count_none p [] none = refl
count_none p (x ∷ xs) none =
    let one : tick (p x) ≡ 0 = ap tick (All-head (λ y. p y ≡ false) x xs none) in
    omega (
      arith,
      sum_by-cons (λ y. tick (p y)) x xs,
      one,
      count_none p xs (All-tail (λ y. p y ≡ false) x xs none),
    )

-- separators ascend with another one put behind those before it and before those behind it
pub ascending-insert : (separators : List (List ℕ)) (i : ℕ) (key : List ℕ) → AreAscending separators
    → i ≤ length separators → All (λ separator. cmp separator key ≡ Less) (take i separators)
    → All (λ separator. cmp key separator ≡ Less) (drop i separators)
    → AreAscending (insert separators i key)
ascending-insert separators i key ascending within before behind =
    all_pairs_insert (λ a b. cmp a b ≡ Less) separators i key within ascending
    (λ k d early. subst (λ (s : List ℕ). cmp s key ≡ Less) (get_or-take i separators k d early)
    (before k d (omega (arith, length-take-le i separators within))))
    (λ k d late in'. subst (λ (s : List ℕ). cmp key s ≡ Less) (get_or-drop i separators (k - i) d
    ∙ ap (λ (n : ℕ). get_or separators n d) (let n : i + (k - i) ≡ k = omega arith in n))
    (behind (k - i) d (omega (arith, length-drop i separators))))

-- how many separators are at or below a key
pub count-is : (separators : List (List ℕ)) (i : ℕ) (key : List ℕ) → i ≤ length separators
    → All (λ separator. is_le (cmp separator key) ≡ true) (take i separators)
    → All (λ separator. cmp key separator ≡ Less) (drop i separators)
    → i ≡ count_by (λ separator. is_le (cmp separator key)) separators
count-is separators i key within before behind =
    let p = λ (separator : List ℕ). is_le (cmp separator key) in
    let front = count_all p (take i separators) before in
    let back = count_none p (drop i separators)
    (All-weaker (λ s. cmp key s ≡ Less) (λ s. p s ≡ false) (λ s less. less_is_not_le key s less)
    (drop i separators) behind) in
    omega (
      arith,
      front,
      back,
      length-take-le i separators within,
      sum_by-take-drop (λ s. tick (p s)) separators i,
    )

-- the separator of a branch is at or below a key
abbrev pub IsUpTo : List ℕ → Branch → Type 0
IsUpTo key branch = is_le (cmp branch.separator key) ≡ true

-- so are the separators of the branches that a search has passed
pub passed_before : (branches : List Branch) (key : List ℕ) (place : ℕ) (left : List Branch)
    → HasPassed (IsUpTo key) branches place left
    → All (λ separator. is_le (cmp separator key) ≡ true) (take place (separators_in branches))
passed_before branches key place left passed =
    let upto = λ (separator : List ℕ). is_le (cmp separator key) ≡ true in
    subst (All upto) (sym (take-map (λ branch. branch.separator) place branches))
    (All-map upto (λ branch. branch.separator) (take place branches) passed.before)

-- where it has come to a separator that a key stands before, the key stands before all from there
-- on
pub at_behind : (branches : List Branch) (key : List ℕ) (place : ℕ) (left : List Branch)
    (branch : Branch) (rest : List Branch) → AreAscending (separators_in branches)
    → IsAt branches place left → left ≡ branch ∷ rest → cmp key branch.separator ≡ Less
    → All (λ separator. cmp key separator ≡ Less) (drop place (separators_in branches))
at_behind branches key place left branch rest ascending at is less =
    let next = at_next branches place left branch rest at is in
    let here : get_or (separators_in branches) place [] ≡ branch.separator =
    get_or-map (λ b. b.separator) branches place branch [] next.0
    ∙ ap (λ (b : Branch). b.separator) (next.1 branch) in
    all_behind (separators_in branches) place key ascending
    (omega (arith, next.0, length-map branches (λ b. b.separator)))
    (subst (λ (s : List ℕ). cmp key s ≡ Less) (sym here) less)

pub none_behind : (branches : List Branch) (key : List ℕ) (place : ℕ) (left : List Branch)
    → IsAt branches place left → left ≡ []
    → All (λ separator. cmp key separator ≡ Less) (drop place (separators_in branches))
none_behind branches key place left at none =
    let over : length (separators_in branches) ≤ place =
    omega (arith, at_end branches place left at none, length-map branches (λ b. b.separator)) in
    subst (All (λ separator. cmp key separator ≡ Less))
    (sym (drop_all place (separators_in branches) over))
    (All-nil (λ separator. cmp key separator ≡ Less))

pub passed_number : (branches : List Branch) (key : List ℕ) (place : ℕ) (left : List Branch)
    → HasPassed (IsUpTo key) branches place left
    → All (λ separator. cmp key separator ≡ Less) (drop place (separators_in branches))
    → place ≡ count_by (λ separator. is_le (cmp separator key)) (separators_in branches)
passed_number branches key place left passed behind =
    count-is (separators_in branches) place key
    (omega (arith, passed.at.within, length-map branches (λ b. b.separator)))
    (passed_before branches key place left passed) behind
