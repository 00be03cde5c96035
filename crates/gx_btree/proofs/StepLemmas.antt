-- The steps of a search on its way down.
use Rattle.std.proofs.Common.{◌≡◌, inl, inr, ◌+◌, ◌++◌, ◌∷◌, ℕ, List, [], None, refl, sym, ap, ◌∙◌, subst, arith}
use Rattle.gx_slots.specs.Entries.{Entry}
use Rattle.gx_bnode.specs.Branches.{Branch}
use Rattle.gx_btree.specs.Order.{IsUpTo, IsUnder}
use Rattle.gx_btree.specs.Tree.{In, BplusTree, BplusKids, leaf, node, page_of, first_of, branches_of, entries, kids_entries, pages, kids_pages, Stands, AllStand, ShowsEntries, ShowsInner, Ordered, AreOrdered, IsFilled, Apart, AreApart, IsWhole, Owns, child_for, bound_for}
use Rattle.gx_btree.specs.Hole.{IsFitting, Same, Joins, KidHole, IsAtHand}
use Rattle.gx_btree.proofs.MemberLemmas.{in_left, in_right, in_cases, joins_none, joins_through, joins_below}
use Rattle.gx_btree.proofs.OrderLemmas.{nothing_up_to, below_up_to, up_to_up_to}
use Rattle.gx_btree.proofs.PageLemmas.{one_list, one_inner, one_kind}
use Rattle.gx_btree.proofs.KidLemmas.{some_key, kid_hole}

-- at first it stands at the root
pub at_root : (at : ℕ → List ℕ) (owned : ℕ → Type 0) (root : ℕ) (key : List ℕ) (t : BplusTree)
    → IsWhole at root t
    → Owns owned t → IsAtHand at owned root root key t 0
at_root at owned root key t w owns = record {
  lo = [];
  hi = None;
  rest = [];
  others = [];
  subtree = t;
  hole = record {
    out = λ x i. absurd i;
    fill = λ new u same fit filled. record {
      tree = u;
      whole = record {
        root_is = fit.page_is;
        stands = fit.stands;
        ordered = fit.ordered;
        apart = fit.apart;
      };
      entries_are = joins_none (entries u);
      pages_are = joins_none (pages u);
    };
  };
  fits =
      record {
        page_is = w.root_is;
        stands = w.stands;
        ordered = w.ordered;
        apart = w.apart;
        bounds = λ x i.
            (nothing_up_to x.key, tt);
        alone = λ q i n. n;
      };
  from = nothing_up_to key;
  to = tt;
  entries_are = joins_none (entries t);
  owns = λ q. ((λ i. inl ((owns q).0 i)), λ i. elim i [ inl a ↦ (owns q).1 a | inr b ↦ absurd b ]);
  path = [];
  path_is = refl;
  unique = tt;
  path_in = λ q i. i;
}

-- and nothing bounds it
pub root_hi : (at : ℕ → List ℕ) (owned : ℕ → Type 0) (root : ℕ) (key : List ℕ) (t : BplusTree)
    (w : IsWhole at root t)
    (owns : Owns owned t) → (at_root at owned root key t w owns).hi ≡ None
unfolding at_root
root_hi at owned root key t w owns = refl

-- the children of a page
pub record IsNode (first : ℕ) (branches : List Branch) (p : ℕ) (t : BplusTree) : Type 0 where
  pub kids : BplusKids
  pub is : t ≡ node p kids
  pub first_is : first_of kids ≡ first
  pub branches_are : branches_of kids ≡ branches

pub node_at : (at : ℕ → List ℕ) (first : ℕ) (branches : List Branch) (t : BplusTree)
    → ShowsInner (at (page_of t)) first branches → Stands at t → IsNode first branches (page_of t) t
node_at at first branches (leaf p es) e stands = absurd (one_kind (at p) es first branches stands e)
node_at at first branches (node p kids) e stands =
    let same = one_inner (at p) (first_of kids) first (branches_of kids) branches stands.0 e in
    record { kids = kids; is = refl; first_is = same.0; branches_are = same.1 }

pub leaf_is : (at : ℕ → List ℕ) (t : BplusTree) (es : List Entry) → ShowsEntries (at (page_of t)) es
    → Stands at t → t ≡ leaf (page_of t) es
leaf_is at (leaf p old) es e stands = ap (leaf p) (one_list (at p) old es stands e)
leaf_is at (node p kids) es e stands =
    absurd (one_kind (at p) es (first_of kids) (branches_of kids) e stands.0)

pub top_in : (t : BplusTree) → In (page_of t) (pages t)
top_in (leaf p es) = inl refl
top_in (node p kids) = inl refl

-- The subtree at hand has children, of which one is on the way.
pub record IsAtNode {steps : ℕ} (at : ℕ → List ℕ) (owned : ℕ → Type 0) (root p : ℕ) (key : List ℕ)
    (old : BplusTree)
    (first : ℕ) (branches : List Branch) (h : IsAtHand at owned root p key old steps) : Type 0 where
  pub kids : BplusKids
  pub is : h.subtree ≡ node p kids
  pub first_is : first_of kids ≡ first
  pub branches_are : branches_of kids ≡ branches
  pub shows : ShowsInner (at p) (first_of kids) (branches_of kids)
  pub stand : AllStand at kids
  pub ordered : AreOrdered kids
  pub out : In p (kids_pages kids) → ⊥
  pub apart : AreApart kids
  pub entries_is : entries h.subtree ≡ kids_entries kids
  pub pages_is : pages h.subtree ≡ p ∷ kids_pages kids
  pub bounds : (x : Entry) → In x (kids_entries kids) → IsUpTo h.lo x.key × IsUnder x.key h.hi
  pub alone : (x : ℕ) → In x (kids_pages kids) → In x h.others → ⊥
  pub top_alone : In p h.others → ⊥
  pub kids_owned : (x : ℕ) → In x (kids_pages kids) → owned x
  pub top_owned : owned p
  pub hole : KidHole at kids key h.lo h.hi
  pub goes : child_for first branches key ≡ page_of hole.kid
  pub in_kids : (x : ℕ) → In x (pages hole.kid) → In x (kids_pages kids)
  pub in_others : (x : ℕ) → In x hole.others → In x (kids_pages kids)

pub at_node : {steps : ℕ} (at : ℕ → List ℕ) (owned : ℕ → Type 0) (root p : ℕ) (key : List ℕ)
    (old : BplusTree)
    (first : ℕ) (branches : List Branch) → ShowsInner (at p) first branches
    → (h : IsAtHand at owned root p key old steps)
    → IsAtNode at owned root p key old first branches h
at_node at owned root p key old first branches e h =
    let n = node_at at first branches h.subtree
    (subst (λ q. ShowsInner (at q) first branches) (sym h.fits.page_is) e) h.fits.stands in
    let is : h.subtree ≡ node p n.kids = n.is ∙ ap (λ q. node q n.kids) h.fits.page_is in
    let stands : Stands at (node p n.kids) = subst (Stands at) is h.fits.stands in
    let ordered : AreOrdered n.kids = subst Ordered is h.fits.ordered in
    let apart : Apart (node p n.kids) = subst Apart is h.fits.apart in
    let entries_is : entries h.subtree ≡ kids_entries n.kids = ap entries is in
    let pages_is : pages h.subtree ≡ p ∷ kids_pages n.kids = ap pages is in
    let bounds : (x : Entry) → In x (kids_entries n.kids) → IsUpTo h.lo x.key × IsUnder x.key h.hi =
    λ x i. h.fits.bounds x (subst (In x) (sym entries_is) i) in
    let k = kid_hole at n.kids key h.lo h.hi stands.1 ordered apart.1 bounds h.from h.to in
    record {
      kids = n.kids;
      is = is;
      first_is = n.first_is;
      branches_are = n.branches_are;
      shows = stands.0;
      stand = stands.1;
      ordered = ordered;
      out = apart.0;
      apart = apart.1;
      entries_is = entries_is;
      pages_is = pages_is;
      bounds = bounds;
      alone = λ x i j. h.fits.alone x (subst (In x) (sym pages_is) (inr i)) j;
      top_alone = λ j. h.fits.alone p (subst (In p) (sym pages_is) (inl refl)) j;
      kids_owned = λ x i. (h.owns x).1 (inl (subst (In x) (sym pages_is) (inr i)));
      top_owned = (h.owns p).1 (inl (subst (In p) (sym pages_is) (inl refl)));
      hole = k;
      goes =
          ap (λ f. child_for f branches key) (sym n.first_is)
          ∙ ap (λ bs. child_for (first_of n.kids) bs key) (sym n.branches_are) ∙ k.way;
      in_kids = λ x i. (k.pages_are x).1 (inl i);
      in_others = λ x i. (k.pages_are x).1 (inr i);
    }

-- one page down
pub descend : {steps : ℕ} (at : ℕ → List ℕ) (owned : ℕ → Type 0) (root p : ℕ) (key : List ℕ)
    (old : BplusTree)
    (first : ℕ) (branches : List Branch) → ShowsInner (at p) first branches
    → (g : IsAtHand at owned root p key old steps)
    → (h : IsAtHand at owned root (child_for first branches key) key old (steps + 1))
    × IsFilled h.subtree
    × (h.hi ≡ bound_for branches key g.hi)
descend {steps = steps} at owned root p key old first branches e h =
    let n = at_node at owned root p key old first branches e h in
    let k = n.hole in
    subst (λ c. (d : IsAtHand at owned root c key old (steps + 1)) × IsFilled d.subtree
    × (d.hi ≡ bound_for branches key h.hi)) (sym n.goes) (
      record {
        lo = k.low;
        hi = k.high;
        rest = k.rest ++ h.rest;
        others = p ∷ (k.others ++ h.others);
        subtree = k.kid;
        hole = record {
          out = λ x i. elim (in_cases x k.rest h.rest i) [
            | inl a ↦ k.out x a
            | inr b ↦ elim (h.hole.out x b) [
              | inl c ↦ inl (below_up_to x.key h.lo k.low c k.lower)
              | inr d ↦ inr (k.higher.over x.key d)
            ]
          ];
          fill = λ new u same fit filled.
              let beside : Same k.others at new =
              λ x i. same x (inr (in_left x k.others h.others i)) in
              let fit_below : IsFitting new (page_of k.kid) k.low k.high k.others u =
              record {
                page_is = fit.page_is;
                stands = fit.stands;
                ordered = fit.ordered;
                apart = fit.apart;
                bounds = fit.bounds;
                alone = λ x i j. fit.alone x i (inr (in_left x k.others h.others j));
              } in
              let w = k.one new u beside fit_below filled in
              let at_p : ShowsInner (new p) (first_of w.kids) (branches_of w.kids) =
              subst (λ b. ShowsInner b (first_of w.kids) (branches_of w.kids))
              (sym (same p (inl refl)))
              (subst (λ f. ShowsInner (at p) f (branches_of w.kids)) (sym w.first_is)
              (subst (ShowsInner (at p) (first_of n.kids)) (sym w.branches_are) n.shows)) in
              let inside : (x : Entry) → In x (kids_entries w.kids)
              → IsUpTo h.lo x.key × IsUnder x.key h.hi =
              λ x i. elim ((w.entries_are x).0 i) [
                | inl a ↦ (let b = fit.bounds x a in
                    (up_to_up_to h.lo k.low x.key k.lower b.0, k.higher.under x.key b.1))
                | inr a ↦ n.bounds x ((k.entries_are x).1 (inr a))
              ] in
              let fresh : In p (kids_pages w.kids) → ⊥ = λ i. elim ((w.pages_are p).0 i) [
                | inl a ↦ fit.alone p a (inl refl)
                | inr b ↦ n.out (n.in_others p b)
              ] in
              let apart_from : (x : ℕ) → In x (p ∷ kids_pages w.kids) → In x h.others
              → ⊥ = λ x i j. elim i [
                | inl a ↦ h.fits.alone x (subst (In x) (sym n.pages_is) (inl a)) j
                | inr b ↦ elim ((w.pages_are x).0 b) [
                  | inl c ↦ fit.alone x c (inr (in_right x k.others h.others j))
                  | inr d ↦ n.alone x (n.in_others x d) j
                ]
              ] in
              let whole : IsFitting new p h.lo h.hi h.others (node p w.kids) =
              record {
                page_is = refl;
                stands = (at_p, w.stand);
                ordered = w.ordered;
                apart =
                    (fresh, w.apart);
                bounds = inside;
                alone = apart_from;
              } in
              let v =
              h.hole.fill new (node p w.kids) (λ x i. same x (inr (in_right x k.others h.others i)))
              whole
              (some_key w.kids w.ordered) in
              record {
                tree = v.tree;
                whole = v.whole;
                entries_are = joins_through (kids_entries w.kids) (entries u) k.rest h.rest
                    (entries v.tree) w.entries_are v.entries_are;
                pages_are = joins_below p (kids_pages w.kids) (pages u) k.others h.others
                    (pages v.tree) w.pages_are v.pages_are;
              };
        };
        fits = record {
          page_is = refl;
          stands = k.fits.stands;
          ordered = k.fits.ordered;
          apart = k.fits.apart;
          bounds = k.fits.bounds;
          alone = λ x i j. elim j [
            | inl a ↦ n.out (subst (λ c. In c (kids_pages n.kids)) a (n.in_kids x i))
            | inr b ↦ elim (in_cases x k.others h.others b) [
              | inl c ↦ k.fits.alone x i c
              | inr d ↦ n.alone x (n.in_kids x i) d
            ]
          ];
        };
        from = k.from;
        to = k.to;
        entries_are =
            joins_through (kids_entries n.kids) (entries k.kid) k.rest h.rest (entries old)
            k.entries_are
            (subst (λ xs. Joins (entries old) xs h.rest) n.entries_is h.entries_are);
        owns = λ x. (
          (λ o. elim ((h.owns x).0 o) [
            | inl a ↦ elim (subst (In x) n.pages_is a) [
              | inl c ↦ inr (inl c)
              | inr d ↦ elim ((k.pages_are x).0 d)
                  [ inl f ↦ inl f | inr g ↦ inr (inr (in_left x k.others h.others g)) ]
            ]
            | inr b ↦ inr (inr (in_right x k.others h.others b))
          ]),
          (λ i. elim i [
            | inl a ↦ n.kids_owned x (n.in_kids x a)
            | inr b ↦ elim b [
              | inl c ↦ subst owned (sym c) n.top_owned
              | inr d ↦ elim (in_cases x k.others h.others d)
                  [ inl f ↦ n.kids_owned x (n.in_others x f) | inr g ↦ (h.owns x).1 (inr g) ]
            ]
          ]),
        );
        path = p ∷ h.path;
        path_is = (let l = h.path_is in omega (arith, l));
        unique = ((λ i. n.top_alone (h.path_in p i)), h.unique);
        path_in = λ x i. elim i
            [ inl e ↦ inl e | inr j ↦ inr (in_right x k.others h.others (h.path_in x j)) ];
      },
      k.filled,
      k.high_is ∙ ap (λ bs. bound_for bs key h.hi) n.branches_are,
    )
