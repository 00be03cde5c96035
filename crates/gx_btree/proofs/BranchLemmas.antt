-- Places of children, and the child on the way to a key.
use Rattle.std.proofs.Common.{◌≡◌, ◌⊎◌, ◌↔◌, inl, inr, ℕ, zero, suc, ◌+◌, ◌-◌, ◌<◌, ◌≤◌, true, false, cond, List, [], ◌∷◌, length, map, take, drop, get_or, Option, Some, None, refl, sym, ap, ap₂, ◌∙◌, subst, arith}
use Rattle.std.specs.Prelude.{◌==◌}
use Rattle.std.specs.Cmp.Lexicographic.{slice_cmp}
use Rattle.std.specs.List.{All, count_by, insert, remove}
use Rattle.std.specs.Ordering.{nat_cmp, is_le}
use Rattle.std.specs.declared.cmp.Ordering.TheVariants.{Less}
use Rattle.std.proofs.lemmas.Bool.{cases_Bool, cases_eq, cond-true, cond-false, eqb-true, eq-eqb}
use Rattle.std.proofs.lemmas.List.{length-map, get_or-map}
use Rattle.std.proofs.lemmas.List.Elements.{All-head, All-tail}
use Rattle.std.proofs.lemmas.List.Sums.{count_by-le-length}
use Rattle.gx_bnode.specs.declared.leading.Fork.{Fork}
use Rattle.gx_bnode.specs.Branches.{Branch}
use Rattle.gx_bnode.specs.Forks.{IsFork}
use Rattle.gx_bnode.specs.Page.{IsInnerPage, separators_in, first_of, branches_of, separators_of, children_of}
use Rattle.gx_bnode.proofs.PageLemmas.{page_of as inner_page_of, map-insert, map-remove, children-insert}
use Rattle.gx_btree.specs.Order.{is_below}
use Rattle.gx_btree.specs.Reading.{IsLed}
use Rattle.gx_btree.specs.Tree.{In, ShowsInner, child_for, bound_for, with_branch, without_from, without_branch, first_without}
use Rattle.gx_btree.proofs.OrderLemmas.{is_below_of, not_below_of}

-- the separators before a place are at or below the key, and those behind it are above
pub record IsPlaceFor (branches : List Branch) (key : List ℕ) (i : ℕ) : Type 0 where
  pub within : i ≤ length branches
  pub before : All (λ s. is_le (slice_cmp nat_cmp s key) ≡ true) (take i (separators_in branches))
  pub behind : All (λ s. slice_cmp nat_cmp key s ≡ Less) (drop i (separators_in branches))

pub first_behind : (b : Branch) (bs : List Branch) (key : List ℕ) → IsPlaceFor (b ∷ bs) key 0
    → is_below key b.separator ≡ true
first_behind b bs key at =
    is_below_of key b.separator
    (All-head (λ s. slice_cmp nat_cmp key s ≡ Less) b.separator (separators_in bs) at.behind)

pub first_before : (b : Branch) (bs : List Branch) (key : List ℕ) (i : ℕ)
    → IsPlaceFor (b ∷ bs) key (suc i)
    → is_below key b.separator ≡ false
first_before b bs key i at =
    not_below_of key b.separator (All-head (λ s. is_le (slice_cmp nat_cmp s key) ≡ true) b.separator
    (take i (separators_in bs)) at.before)

rest_at : (b : Branch) (bs : List Branch) (key : List ℕ) (i : ℕ) → IsPlaceFor (b ∷ bs) key (suc i)
    → IsPlaceFor bs key i
rest_at b bs key i at = record {
  within = omega (arith, at.within);
  before = All-tail (λ s. is_le (slice_cmp nat_cmp s key) ≡ true) b.separator
      (take i (separators_in bs)) at.before;
  behind = at.behind;
}

pub child_is : (first : ℕ) (bs : List Branch) (key : List ℕ) (i : ℕ) → IsPlaceFor bs key i
    → get_or (first ∷ map (λ b. b.child) bs) i 0 ≡ child_for first bs key
child_is first [] key zero at = refl
child_is first [] key (suc i) at = absurd (omega (arith, at.within))
child_is first (b ∷ bs) key zero at =
    sym (cond-true (is_below key b.separator) first (child_for b.child bs key)
    (first_behind b bs key at))
child_is first (b ∷ bs) key (suc i) at =
    child_is b.child bs key i (rest_at b bs key i at)
    ∙ sym (cond-false (is_below key b.separator) first (child_for b.child bs key)
    (first_before b bs key i at))

pub insert_is : (bs : List Branch) (key : List ℕ) (i : ℕ) (new : Branch) → IsPlaceFor bs key i
    → insert bs i new ≡ with_branch bs key new
insert_is [] key zero new at = refl
insert_is [] key (suc i) new at = absurd (omega (arith, at.within))
insert_is (b ∷ bs) key zero new at =
    sym (cond-true (is_below key b.separator) (new ∷ b ∷ bs) (b ∷ with_branch bs key new)
    (first_behind b bs key at))
insert_is (b ∷ bs) key (suc i) new at =
    ap (λ (cs : List Branch). b ∷ cs) (insert_is bs key i new (rest_at b bs key i at))
    ∙ sym (cond-false (is_below key b.separator) (new ∷ b ∷ bs) (b ∷ with_branch bs key new)
    (first_before b bs key i at))

-- where one more child stands behind that on the way, the way goes to either
pub way_with : (first : ℕ) (bs : List Branch) (key : List ℕ) (new : Branch)
    → child_for first (with_branch bs key new) key
    ≡ cond (is_below key new.separator) (child_for first bs key) new.child
way_with first [] key new = refl
way_with first (b ∷ bs) key new = elim (cases_Bool (is_below key b.separator)) [
  | inl is ↦ ap (λ cs. child_for first cs key)
      (cond-true (is_below key b.separator) (new ∷ b ∷ bs) (b ∷ with_branch bs key new) is)
      ∙ ap (cond (is_below key new.separator) first)
      (cond-true (is_below key b.separator) new.child (child_for b.child bs key) is)
      ∙ sym (ap (λ c. cond (is_below key new.separator) c new.child)
      (cond-true (is_below key b.separator) first (child_for b.child bs key) is))
  | inr is ↦ ap (λ cs. child_for first cs key)
      (cond-false (is_below key b.separator) (new ∷ b ∷ bs) (b ∷ with_branch bs key new) is)
      ∙ cond-false (is_below key b.separator) first (child_for b.child (with_branch bs key new) key)
      is ∙ way_with b.child bs key new
      ∙ sym (ap (λ c. cond (is_below key new.separator) c new.child)
      (cond-false (is_below key b.separator) first (child_for b.child bs key) is))
]

from_is : (b : Branch) (bs : List Branch) (key : List ℕ) (i : ℕ) → IsPlaceFor bs key i
    → remove (b ∷ bs) i ≡ without_from b bs key
from_is b [] key zero at = refl
from_is b [] key (suc i) at = absurd (omega (arith, at.within))
from_is b (c ∷ bs) key zero at =
    sym (cond-true (is_below key c.separator) (c ∷ bs) (b ∷ without_from c bs key)
    (first_behind c bs key at))
from_is b (c ∷ bs) key (suc i) at =
    ap (λ (cs : List Branch). b ∷ cs) (from_is c bs key i (rest_at c bs key i at))
    ∙ sym (cond-false (is_below key c.separator) (c ∷ bs) (b ∷ without_from c bs key)
    (first_before c bs key i at))

-- branches are told by their separators and their children
pub same_branches : (bs cs : List Branch) → separators_in bs ≡ separators_in cs
    → map (λ b. b.child) bs ≡ map (λ b. b.child) cs → bs ≡ cs
same_branches [] [] s c = refl
same_branches [] (y ∷ ys) s c = let no : ⊥ = cc in absurd no
same_branches (x ∷ xs) [] s c = let no : ⊥ = cc in absurd no
same_branches (x ∷ xs) (y ∷ ys) s c =
    let s0 : x.separator ≡ y.separator = cc in
    let s1 : separators_in xs ≡ separators_in ys = cc in
    let c0 : x.child ≡ y.child = cc in
    let c1 : map (λ (b : Branch). b.child) xs ≡ map (λ (b : Branch). b.child) ys = cc in
    let same : x ≡ y = λ i. record { separator = s0 i; child = c0 i } in
    ap₂ (λ (b : Branch) (bs : List Branch). b ∷ bs) same (same_branches xs ys s1 c1)

pub tops : (m n : ℕ) (xs ys : List ℕ) → m ∷ xs ≡ n ∷ ys → (m ≡ n) × (xs ≡ ys)
tops m n xs ys e = (let a : m ≡ n = cc in a, let b : xs ≡ ys = cc in b)

-- a page after a branch was put at the place
pub with_is : (old new key separator : List ℕ) (i right : ℕ) → IsPlaceFor (branches_of old) key i
    → separators_of new ≡ insert (separators_of old) i separator
    → children_of new ≡ insert (children_of old) (i + 1) right
    → (first_of new ≡ first_of old)
    × (branches_of new
    ≡ with_branch (branches_of old) key (record { separator = separator; child = right }))
with_is old new key separator i right at seps kids =
    let b : Branch = record { separator = separator; child = right } in
    let t = tops (first_of new) (first_of old) _ _
    (kids ∙ sym (children-insert (first_of old) (branches_of old) i b)) in (
      t.0,
      same_branches (branches_of new) (insert (branches_of old) i b)
          (seps ∙ sym (map-insert (λ (c : Branch). c.separator) (branches_of old) i b)) t.1
          ∙ insert_is (branches_of old) key i b at,
    )

-- a page of two children
pub one_branch : (page s : List ℕ) (a b : ℕ) → IsInnerPage page → separators_of page ≡ s ∷ []
    → children_of page ≡ a ∷ b ∷ [] → ShowsInner page a (record { separator = s; child = b } ∷ [])
one_branch page s a b inner seps kids =
    let c : Branch = record { separator = s; child = b } in
    let t =
    tops (first_of page) a (map (λ (d : Branch). d.child) (branches_of page)) (b ∷ []) kids in
    let is : branches_of page ≡ c ∷ [] = same_branches (branches_of page) (c ∷ []) seps t.1 in
    subst (λ f. ShowsInner page f (c ∷ [])) t.0
    (subst (ShowsInner page (first_of page)) is (inner_page_of page inner))

-- a page after the child at the place was dropped
pub without_is : (old new key : List ℕ) (i : ℕ) → IsPlaceFor (branches_of old) key i
    → 1 ≤ length (branches_of old)
    → separators_of new ≡ remove (separators_of old) (i - 1)
    → children_of new ≡ remove (children_of old) i
    → (first_of new ≡ first_without (first_of old) (branches_of old) key)
    × (branches_of new ≡ without_branch (branches_of old) key)
without_is old new key i at some seps kids = go (branches_of old) i at some seps kids where
  go : (bs : List Branch) (i : ℕ) → IsPlaceFor bs key i → 1 ≤ length bs
      → separators_of new ≡ remove (separators_in bs) (i - 1)
      → children_of new ≡ remove (first_of old ∷ map (λ b. b.child) bs) i
      → (first_of new ≡ first_without (first_of old) bs key)
      × (branches_of new ≡ without_branch bs key)
  go [] i at some seps kids = absurd (omega (arith, some))
  go (b ∷ bs) zero at some seps kids =
      let is = first_behind b bs key at in
      let t = tops (first_of new) b.child (map (λ (c : Branch). c.child) (branches_of new))
      (map (λ (c : Branch). c.child) bs) kids in (
        t.0 ∙ sym (cond-true (is_below key b.separator) b.child (first_of old) is),
        same_branches (branches_of new) bs seps t.1
            ∙ sym (cond-true (is_below key b.separator) bs (without_from b bs key) is),
      )
  go (b ∷ bs) (suc i) at some seps kids =
      let is = first_before b bs key i at in
      let less : suc i - 1 ≡ i = omega arith in
      let t =
      tops (first_of new) (first_of old) (map (λ (c : Branch). c.child) (branches_of new))
      (remove (map (λ (c : Branch). c.child) (b ∷ bs)) i) kids in (
        t.0 ∙ sym (cond-false (is_below key b.separator) b.child (first_of old) is),
        same_branches (branches_of new) (remove (b ∷ bs) i)
            (seps ∙ ap (remove (separators_in (b ∷ bs))) less
            ∙ sym (map-remove (λ (c : Branch). c.separator) (b ∷ bs) i)) (t.1
            ∙ sym (map-remove (λ (c : Branch). c.child) (b ∷ bs) i))
            ∙ from_is b bs key i (rest_at b bs key i at)
            ∙ sym (cond-false (is_below key b.separator) bs (without_from b bs key) is),
      )

-- the place that a search among the separators of a page gives
pub place_for : (page key : List ℕ) (i : ℕ)
    → i ≡ count_by (λ s. is_le (slice_cmp nat_cmp s key)) (separators_of page)
    → All (λ s. is_le (slice_cmp nat_cmp s key) ≡ true) (take i (separators_of page))
    → All (λ s. slice_cmp nat_cmp key s ≡ Less) (drop i (separators_of page))
    → IsPlaceFor (branches_of page) key i
place_for page key i number before behind = record {
  within =
      omega (
        arith,
        number,
        count_by-le-length (λ s. is_le (slice_cmp nat_cmp s key))
            (separators_of page),
        length-map (branches_of page) (λ b. b.separator),
      );
  before = before;
  behind = behind;
}

-- the nearest separator behind the child at the place
pub bound_is : (bs : List Branch) (key : List ℕ) (i : ℕ) (hi : Option (List ℕ))
    → IsPlaceFor bs key i
    → (i < length (separators_in bs) → Some (get_or (separators_in bs) i []) ≡ bound_for bs key hi)
    × (length (separators_in bs) ≤ i → hi ≡ bound_for bs key hi)
bound_is [] key i hi at = ((λ b. absurd (omega (arith, b))), λ _. refl)
bound_is (b ∷ bs) key zero hi at = (
  (λ _. sym (cond-true (is_below key b.separator) (Some b.separator) (bound_for bs key hi)
      (first_behind b bs key at))),
  λ l. absurd (omega (arith, l)),
)
bound_is (b ∷ bs) key (suc i) hi at =
    let h = bound_is bs key i hi (rest_at b bs key i at) in
    let e = sym
    (cond-false (is_below key b.separator) (Some b.separator) (bound_for bs key hi)
    (first_before b bs key i at)) in
    ((λ l. h.0 (omega (arith, l)) ∙ e), (λ l. h.1 (omega (arith, l)) ∙ e))

-- there is none just where the child at the place is the last one
pub last_is : (bs : List Branch) (key : List ℕ) (i n : ℕ) → IsPlaceFor bs key i
    → n ≡ length (separators_in bs)
    → ((i == n) ≡ true) ↔ (bound_for bs key None ≡ None)
last_is bs key i n at number =
    let b = bound_is bs key i None at in (
      (λ is. let e = eqb-true i n is in sym (b.1 (omega (arith, e, number)))),
      (λ none. elim (cases_eq i n) [
        | inl e ↦ eq-eqb i n e
        | inr d ↦
            (let some = b.0 (let within = at.within in let same = length-map bs (λ b. b.separator)
            in
            omega (arith, d, number, within, same)) in
            let no : Some (get_or (separators_in bs) i []) ≡ None = some ∙ none in
            let clash : ⊥ = cc in absurd clash)
      ]),
    )

-- it is one of them, or the bound of the page
pub bound_in : (bs : List Branch) (key : List ℕ) (hi : Option (List ℕ)) (s : List ℕ)
    → bound_for bs key hi ≡ Some s
    → (hi ≡ Some s) ⊎ In s (separators_in bs)
bound_in [] key hi s e = inl e
bound_in (b ∷ bs) key hi s e = elim (cases_Bool (is_below key b.separator)) [
  | inl is ↦ (let f : Some b.separator ≡ Some s = sym
      (cond-true (is_below key b.separator) (Some b.separator) (bound_for bs key hi) is)
      ∙ e in let g : b.separator ≡ s = cc in inr (inl (sym g)))
  | inr is ↦ elim (bound_in bs key hi s
      (sym (cond-false (is_below key b.separator) (Some b.separator) (bound_for bs key hi) is) ∙ e))
      [ inl f ↦ inl f | inr i ↦ inr (inr i) ]
]

-- a separator has at most 400 bytes
pub separator_short : (page : List ℕ) (i : ℕ) → IsInnerPage page → i < length (separators_of page)
    → length (get_or (separators_of page) i []) ≤ 400
separator_short page i inner below =
    let d : Branch = record { separator = []; child = 0 } in
    let n = length-map (branches_of page) (λ b. b.separator) in
    let fit = (inner_page_of page inner).page.holds.fit i d (omega (arith, below, n)) in
    let s = ap length
    (get_or-map (λ (b : Branch). b.separator) (branches_of page) i d [] (omega (arith, below, n)))
    in
    omega (arith, fit.separator, s)

-- where an inner page leads is the child on the way to the key
pub led_is : (page key : List ℕ) (fork : Fork) → IsFork page key fork → IsLed key page fork
led_is page key fork is =
    let bs = branches_of page in
    let at : IsPlaceFor bs key fork.place = record {
      within = is.way.within;
      before = is.way.before;
      behind = is.way.behind;
    } in
    let last = last_is bs key fork.place (length (separators_in bs)) at refl in
    record {
      child = is.way.child_is ∙ child_is (first_of page) bs key fork.place at;
      last = (
        λ is_last. last.0 (eq-eqb fork.place (length (separators_in bs)) (is.last.0 is_last)),
        λ none. is.last.1 (eqb-true fork.place (length (separators_in bs)) (last.1 none)),
      );
      room = is.room;
    }
