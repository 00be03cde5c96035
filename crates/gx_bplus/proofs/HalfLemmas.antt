-- Children that are cut in two.
use Rattle.std.proofs.Common.{◌≡◌, ◌≢◌, ◌⊎◌, inl, inr, ◌++◌, ◌∷◌, ℕ, List, [], refl, sym, ap, ◌∙◌, subst}
use Rattle.gx_slots.specs.Entries.{Entry}
use Rattle.gx_bnode.specs.Branches.{Branch}
use Rattle.gx_btree.specs.Order.{IsBelow, IsUpTo}
use Rattle.gx_btree.specs.Tree.{In, BplusTree, BplusKids, node, last, more, page_of, first_of, branches_of, entries, kids_entries, pages, kids_pages, Stands, AllStand, ShowsInner, Ordered, AreOrdered, IsFilled, Apart, AreApart}
use Rattle.gx_btree.specs.Hole.{Same, Joins}
use Rattle.gx_btree.proofs.MemberLemmas.{in_left, in_right, in_cases, joins_append}
use Rattle.gx_btree.proofs.OrderLemmas.{below_below, up_to_below}
use Rattle.gx_btree.proofs.KidLemmas.{branch, all_stand_same, some_key}

-- children on both sides of a separator
pub record IsCut (at : ℕ → List ℕ) (kids : BplusKids) (l : List Branch) (s : List ℕ) (c : ℕ)
    (r : List Branch) : Type 0 where
  pub left : BplusKids
  pub right : BplusKids
  pub first_is : first_of left ≡ first_of kids
  pub left_are : branches_of left ≡ l
  pub second_is : first_of right ≡ c
  pub right_are : branches_of right ≡ r
  pub stand_left : AllStand at left
  pub stand_right : AllStand at right
  pub ordered_left : AreOrdered left
  pub ordered_right : AreOrdered right
  pub apart_left : AreApart left
  pub apart_right : AreApart right
  pub below : (x : Entry) → In x (kids_entries left) → IsBelow x.key s
  pub above : (x : Entry) → In x (kids_entries right) → IsUpTo s x.key
  pub entries_are : Joins (kids_entries kids) (kids_entries left) (kids_entries right)
  pub pages_are : Joins (kids_pages kids) (kids_pages left) (kids_pages right)
  pub alone : (q : ℕ) → In q (kids_pages left) → In q (kids_pages right) → ⊥

no_item : {A : Type 0} (xs : List A) (y : A) (ys : List A) → [] ≡ xs ++ y ∷ ys → ⊥
no_item [] y ys e = cc
no_item (x ∷ xs) y ys e = cc

-- a list goes to the front of the left part
joins_front : {A : Type 0} (zs xs ys rest : List A) → Joins xs ys rest
    → Joins (zs ++ xs) (zs ++ ys) rest
joins_front zs xs ys rest j x = (
  λ h. elim (in_cases x zs xs h) [
    | inl a ↦ inl (in_left x zs ys a)
    | inr b ↦ elim ((j x).0 b) [ inl c ↦ inl (in_right x zs ys c) | inr d ↦ inr d ]
  ],
  λ h. elim h [
    | inl a ↦ elim (in_cases x zs ys a)
        [ inl c ↦ in_left x zs xs c | inr d ↦ in_right x zs xs ((j x).1 (inl d)) ]
    | inr b ↦ in_right x zs xs ((j x).1 (inr b))
  ],
)

pub cut_kids : (at : ℕ → List ℕ) (kids : BplusKids) (l : List Branch) (s : List ℕ) (c : ℕ)
    (r : List Branch)
    → branches_of kids ≡ l ++ branch s c ∷ r
    → AllStand at kids → AreOrdered kids → AreApart kids → IsCut at kids l s c r
cut_kids at (last t) l s c r e stand ordered apart = absurd (no_item l (branch s c) r e)
cut_kids at (more t m kids) [] s c r e stand ordered apart =
    let r_is : branches_of kids ≡ r = cc in
    let pair : branch m (first_of kids) ≡ branch s c = cc in
    let m_is : m ≡ s = ap (λ (d : Branch). d.separator) pair in
    let c_is : first_of kids ≡ c = ap (λ (d : Branch). d.child) pair in
    record {
      left = last t;
      right = kids;
      first_is = refl;
      left_are = refl;
      second_is = c_is;
      right_are = r_is;
      stand_left = stand.0;
      stand_right = stand.1;
      ordered_left = (ordered.0, ordered.1);
      ordered_right = ordered.4;
      apart_left = apart.0;
      apart_right = apart.2;
      below = λ x i. subst (IsBelow x.key) m_is (ordered.2 x i);
      above = λ x i. subst (λ n. IsUpTo n x.key) m_is (ordered.3 x i);
      entries_are = joins_append (entries t) (kids_entries kids);
      pages_are = joins_append (pages t) (kids_pages kids);
      alone = apart.1;
    }
cut_kids at (more t m kids) (b ∷ l) s c r e stand ordered apart =
    let b_is : branch m (first_of kids) ≡ b = cc in
    let l_is : branches_of kids ≡ l ++ branch s c ∷ r = cc in
    let h = cut_kids at kids l s c r l_is stand.1 ordered.4 apart.2 in
    record {
      left = more t m h.left;
      right = h.right;
      first_is = refl;
      left_are = ap (λ f. branch m f ∷ branches_of h.left) h.first_is
          ∙ ap (λ bs. branch m (first_of kids) ∷ bs) h.left_are
          ∙ ap (λ d. d ∷ l) b_is;
      second_is = h.second_is;
      right_are = h.right_are;
      stand_left = (stand.0, h.stand_left);
      stand_right = h.stand_right;
      ordered_left = (
        ordered.0,
        ordered.1,
        ordered.2,
        (λ x i. ordered.3 x ((h.entries_are x).1 (inl i))),
        h.ordered_left,
      );
      ordered_right = h.ordered_right;
      apart_left = (apart.0, (λ q i j. apart.1 q i ((h.pages_are q).1 (inl j))), h.apart_left);
      apart_right = h.apart_right;
      below = λ x i. elim (in_cases x (entries t) (kids_entries h.left) i) [
        | inl a ↦ (let k = some_key h.left h.ordered_left in below_below x.key m s (ordered.2 x a)
            (up_to_below m k.0.key s (ordered.3 k.0 ((h.entries_are k.0).1 (inl k.1)))
            (h.below k.0 k.1)))
        | inr b ↦ h.below x b
      ];
      above = h.above;
      entries_are = joins_front (entries t) (kids_entries kids) (kids_entries h.left)
          (kids_entries h.right) h.entries_are;
      pages_are = joins_front (pages t) (kids_pages kids) (kids_pages h.left)
          (kids_pages h.right) h.pages_are;
      alone = λ q i j. elim (in_cases q (pages t) (kids_pages h.left) i) [
        | inl a ↦ apart.1 q a ((h.pages_are q).1 (inr j))
        | inr b ↦ h.alone q b j
      ];
    }

-- two trees that have these children, on the pages a and fresh
pub record AreHalves (new : ℕ → List ℕ) (kids : BplusKids) (s : List ℕ) (a fresh : ℕ) : Type 0 where
  pub l : BplusTree
  pub r : BplusTree
  pub l_page : page_of l ≡ a
  pub r_page : page_of r ≡ fresh
  pub l_stands : Stands new l
  pub r_stands : Stands new r
  pub l_ordered : Ordered l
  pub r_ordered : Ordered r
  pub l_apart : Apart l
  pub r_apart : Apart r
  pub l_filled : IsFilled l
  pub r_filled : IsFilled r
  pub below : (x : Entry) → In x (entries l) → IsBelow x.key s
  pub above : (x : Entry) → In x (entries r) → IsUpTo s x.key
  pub entries_are : Joins (kids_entries kids) (entries l) (entries r)
  pub l_pages : (q : ℕ) → In q (pages l) → (q ≡ a) ⊎ In q (kids_pages kids)
  pub r_pages : (q : ℕ) → In q (pages r) → (q ≡ fresh) ⊎ In q (kids_pages kids)
  pub kids_in : (q : ℕ) → In q (kids_pages kids) → In q (pages l) ⊎ In q (pages r)
  pub alone : (q : ℕ) → In q (pages l) → In q (pages r) → ⊥

pub halves : (at new : ℕ → List ℕ) (kids : BplusKids) (l : List Branch) (s : List ℕ) (c : ℕ)
    (r : List Branch) (a fresh : ℕ)
    → branches_of kids ≡ l ++ branch s c ∷ r
    → AllStand at kids → AreOrdered kids → AreApart kids → (In a (kids_pages kids) → ⊥)
    → (In fresh (kids_pages kids) → ⊥) → (fresh ≢ a)
    → Same (kids_pages kids) at new
    → ShowsInner (new a) (first_of kids) l → ShowsInner (new fresh) c r
    → AreHalves new kids s a fresh
halves at new kids l s c r a fresh e stand ordered apart a_out fresh_out other same at_a at_fresh =
    let h = cut_kids at kids l s c r e stand ordered apart in
    let l_shows : ShowsInner (new a) (first_of h.left) (branches_of h.left) =
    subst (λ f. ShowsInner (new a) f (branches_of h.left))
    (sym h.first_is) (subst (ShowsInner (new a) (first_of kids)) (sym h.left_are) at_a) in
    let r_shows : ShowsInner (new fresh) (first_of h.right) (branches_of h.right) =
    subst (λ f. ShowsInner (new fresh) f (branches_of h.right)) (sym h.second_is)
    (subst (ShowsInner (new fresh) c) (sym h.right_are) at_fresh) in
    record {
      l = node a h.left;
      r = node fresh h.right;
      l_page = refl;
      r_page = refl;
      l_stands = (
        l_shows,
        all_stand_same at new h.left
            (λ q i. same q ((h.pages_are q).1 (inl i))) h.stand_left,
      );
      r_stands = (
        r_shows,
        all_stand_same at new h.right
            (λ q i. same q ((h.pages_are q).1 (inr i))) h.stand_right,
      );
      l_ordered = h.ordered_left;
      r_ordered = h.ordered_right;
      l_apart = ((λ i. a_out ((h.pages_are a).1 (inl i))), h.apart_left);
      r_apart = ((λ i. fresh_out ((h.pages_are fresh).1 (inr i))), h.apart_right);
      l_filled = some_key h.left h.ordered_left;
      r_filled = some_key h.right h.ordered_right;
      below = h.below;
      above = h.above;
      entries_are = h.entries_are;
      l_pages = λ q i. elim i [ inl d ↦ inl d | inr d ↦ inr ((h.pages_are q).1 (inl d)) ];
      r_pages = λ q i. elim i [ inl d ↦ inl d | inr d ↦ inr ((h.pages_are q).1 (inr d)) ];
      kids_in = λ q i. elim ((h.pages_are q).0 i) [ inl d ↦ inl (inr d) | inr d ↦ inr (inr d) ];
      alone = λ q i j. elim i [
        | inl d ↦ elim j [
          | inl f ↦ other (sym f ∙ d)
          | inr f ↦ a_out ((h.pages_are a).1 (inr (subst (λ n. In n (kids_pages h.right)) d f)))
        ]
        | inr d ↦ elim j [
          | inl f ↦ fresh_out ((h.pages_are fresh).1
              (inl (subst (λ n. In n (kids_pages h.left)) f d)))
          | inr f ↦ h.alone q d f
        ]
      ];
    }
