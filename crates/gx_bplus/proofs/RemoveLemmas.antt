-- The steps of a search that removes a key.
use Rattle.std.proofs.Common.{◌≡◌, ◌≢◌, ◌⊎◌, inl, inr, ◌∷◌, ℕ, List, [], refl, sym, ap, ◌∙◌, subst}
use Rattle.std.proofs.lemmas.Bool.{cases_Bool, cond-true, cond-false}
use Rattle.gx_slots.specs.Entries.{Entry}
use Rattle.gx_bnode.specs.Branches.{Branch}
use Rattle.gx_btree.specs.Order.{IsUpTo, IsUnder, is_below}
use Rattle.gx_btree.specs.Tree.{In, BplusTree, BplusKids, leaf, node, last, more, page_of, first_of, branches_of, entries, kids_entries, pages, kids_pages, Stands, AllStand, ShowsEntries, ShowsInner, Ascending, Ordered, AreOrdered, IsFilled, Apart, AreApart, IsWhole, Owns, child_for, without_branch, first_without, IsSome}
use Rattle.gx_btree.specs.Hole.{IsFitting, Same, AreMany, IsAtHand}
use Rattle.gx_btree.proofs.OrderLemmas.{not_both, not_under_over}
use Rattle.gx_btree.proofs.KidLemmas.{all_stand_same, some_key}
use Rattle.gx_btree.proofs.StepLemmas.{at_node, leaf_is, top_in}
use Rattle.gx_bplus.specs.Changes.{IsTakenFrom, IsRemoved}
use Rattle.gx_bplus.proofs.PutLemmas.{beside}
use Rattle.gx_ports.proofs.KeyLemmas.{key_cases}

-- the tree that takes the place of the subtree at hand has its entries but one, and pages among its
-- own
pub filled_in : {steps : ℕ} (at new : ℕ → List ℕ) (owned now : ℕ
    → Type 0) (root p : ℕ) (key : List ℕ) (old : BplusTree)
    (h : IsAtHand at owned root p key old steps) (u : BplusTree) → Same h.others at new
    → IsFitting new p h.lo h.hi h.others u → IsFilled u
    → IsTakenFrom key (entries h.subtree) (entries u)
    → ((q : ℕ) → now q → owned q × (In q (pages h.subtree) → In q (pages u)))
    → ((q : ℕ) → In q (pages u) ⊎ In q h.others → now q)
    → IsRemoved new now root key old
filled_in at new owned now root p key old h u same fit filled taken now_from now_to =
    let w = h.hole.fill new u same fit filled in
    record {
      tree = w.tree;
      whole = w.whole;
      owns = λ q. (
        (λ i. let n = now_from q i in
            (w.pages_are q).1 (elim ((h.owns q).0 n.0) [ inl a ↦ inl (n.1 a) | inr b ↦ inr b ])),
        (λ i. now_to q ((w.pages_are q).0 i)),
      );
      taken = λ x. (
        (λ i. elim ((w.entries_are x).0 i) [
          | inl a ↦ (let k = (taken x).0 a in ((h.entries_are x).1 (inl k.0), k.1))
          | inr b ↦ ((h.entries_are x).1 (inr b), beside at owned root p key old h x b)
        ]),
        (λ i. (w.entries_are x).1 (elim ((h.entries_are x).0 i.0) [
          | inl a ↦ inl ((taken x).1 (a, i.1))
          | inr b ↦ inr b
        ])),
      );
    }

-- an entry page below another page keeps an entry
pub taken_below : {steps : ℕ} (at new : ℕ → List ℕ) (owned now : ℕ
    → Type 0) (root p : ℕ) (key : List ℕ) (old : BplusTree) (es fs : List Entry)
    → ShowsEntries (at p) es → ShowsEntries (new p) fs → (Ascending es → Ascending fs)
    → (Ascending es → IsTakenFrom key es fs) → IsSome fs
    → ((q : ℕ) → owned q → q ≢ p → new q ≡ at q) → ((q : ℕ) → (now q → owned q) × (owned q → now q))
    → IsAtHand at owned root p key old steps → IsRemoved new now root key old
taken_below at new owned now root p key old es fs was is up taken some elsewhere now_is h =
    let kid_is : h.subtree ≡ leaf p es =
    leaf_is at h.subtree es (subst (λ q. ShowsEntries (at q) es) (sym h.fits.page_is) was)
    h.fits.stands ∙ ap (λ q. leaf q es) h.fits.page_is in
    let ascending : Ascending es = subst Ordered kid_is h.fits.ordered in
    let entries_is : entries h.subtree ≡ es = ap entries kid_is in
    let pages_is : pages h.subtree ≡ p ∷ [] = ap pages kid_is in
    let takes = taken ascending in
    let p_in : In p (pages h.subtree) = subst (In p) (sym pages_is) (inl refl) in
    let not_p : (q : ℕ) → In q h.others
    → q ≢ p = λ q i d. h.fits.alone p p_in (subst (λ y. In y h.others) d i) in
    let fit : IsFitting new p h.lo h.hi h.others (leaf p fs) = record {
      page_is = refl;
      stands = is;
      ordered = up ascending;
      apart = tt;
      bounds = λ x i. h.fits.bounds x (subst (In x) (sym entries_is) ((takes x).0 i).0);
      alone = λ q i j. elim i [ inl d ↦ not_p q j d | inr n ↦ absurd n ];
    } in
    filled_in at new owned now root p key old h (leaf p fs)
    (λ q i. elsewhere q ((h.owns q).1 (inr i)) (not_p q i)) fit some
    (subst (λ xs. IsTakenFrom key xs fs) (sym entries_is) takes)
    (λ q i. ((now_is q).0 i, λ a. subst (In q) pages_is a))
    (λ q i. (now_is q).1 ((h.owns q).1
    (elim i [ inl a ↦ inl (subst (In q) (sym pages_is) a) | inr b ↦ inr b ])))

-- the root is the one page
pub taken_root : (at new : ℕ → List ℕ) (owned now : ℕ → Type 0) (root : ℕ) (key : List ℕ)
    (old : BplusTree) (es fs : List Entry)
    → ShowsEntries (at root) es → ShowsEntries (new root) fs → (Ascending es → Ascending fs)
    → (Ascending es → IsTakenFrom key es fs)
    → ((q : ℕ) → (now q → owned q) × (owned q → now q))
    → IsWhole at root old → Owns owned old → IsRemoved new now root key old
taken_root at new owned now root key old es fs was is up taken now_is whole owns =
    let old_is : old ≡ leaf root es =
    leaf_is at old es (subst (λ q. ShowsEntries (at q) es) (sym whole.root_is) was) whole.stands
    ∙ ap (λ q. leaf q es) whole.root_is in
    let ascending : Ascending es = subst Ordered old_is whole.ordered in
    record {
      tree = leaf root fs;
      whole = record { root_is = refl; stands = is; ordered = up ascending; apart = tt };
      owns = λ q. (
        (λ i. subst (λ (t : BplusTree). In q (pages t)) old_is ((owns q).0 ((now_is q).0 i))),
        (λ i. (now_is q).1 ((owns q).1 (subst (λ (t : BplusTree). In q (pages t)) (sym old_is) i))),
      );
      taken = subst (λ (t : BplusTree). IsTakenFrom key (entries t) fs) (sym old_is)
          (taken ascending);
    }

pub many_of : (kids : BplusKids) (b : Branch) (bs : List Branch) → branches_of kids ≡ b ∷ bs
    → AreMany kids
many_of (last t) b bs e = let no : ⊥ = cc in absurd no
many_of (more t s kids) b bs e = tt

-- what is left of a list without this key is empty, so each of it has the key
all_taken : (key : List ℕ) (es : List Entry) → IsTakenFrom key es [] → (x : Entry) → In x es
    → x.key ≡ key
all_taken key es taken x i =
    elim (key_cases x.key key) [ inl e ↦ e | inr d ↦ absurd ((taken x).1 (i, d)) ]

-- a child that has this key alone is freed
pub dropped : {steps : ℕ} (at new : ℕ → List ℕ) (owned now : ℕ → Type 0) (root p : ℕ) (key : List ℕ)
    (old : BplusTree) (first : ℕ) (b : Branch)
    (bs : List Branch) (es : List Entry)
    → ShowsInner (at p) first (b ∷ bs) → ShowsEntries (at (child_for first (b ∷ bs) key)) es
    → IsTakenFrom key es []
    → ShowsInner (new p) (first_without first (b ∷ bs) key) (without_branch (b ∷ bs) key)
    → ((q : ℕ) → owned q → q ≢ p → q ≢ child_for first (b ∷ bs) key → new q ≡ at q)
    → ((q : ℕ) → (now q → owned q × (q ≢ child_for first (b ∷ bs) key))
    × (owned q × (q ≢ child_for first (b ∷ bs) key) → now q))
    → IsAtHand at owned root p key old steps → IsRemoved new now root key old
dropped at new owned now root p key old first b bs es at_p at_c taken new_p elsewhere now_is h =
    let n = at_node at owned root p key old first (b ∷ bs) at_p h in
    let k = n.hole in
    let child = child_for first (b ∷ bs) key in
    let kid_is : k.kid ≡ leaf child es =
    leaf_is at k.kid es (subst (λ q. ShowsEntries (at q) es) n.goes at_c) k.fits.stands
    ∙ ap (λ q. leaf q es) (sym n.goes) in
    let entries_is : entries k.kid ≡ es = ap entries kid_is in
    let pages_is : pages k.kid ≡ child ∷ [] = ap pages kid_is in
    let child_in : In child (kids_pages n.kids) =
    n.in_kids child (subst (In child) (sym pages_is) (inl refl)) in
    let not_top : (q : ℕ) → In q (kids_pages n.kids)
    → q ≢ p = λ q i e. n.out (subst (λ y. In y (kids_pages n.kids)) e i) in
    let not_kid : (q : ℕ) → In q k.others
    → q ≢ child = λ q i e. k.fits.alone child (subst (In child) (sym pages_is) (inl refl))
    (subst (λ y. In y k.others) e i) in
    let out_p : (q : ℕ) → In q h.others
    → q ≢ p = λ q i e. n.top_alone (subst (λ y. In y h.others) e i) in
    let out_child : (q : ℕ) → In q h.others
    → q ≢ child = λ q i e. n.alone child child_in (subst (λ y. In y h.others) e i) in
    let w = k.gone new (λ q i. elsewhere q (n.kids_owned q (n.in_others q i))
    (not_top q (n.in_others q i)) (not_kid q i))
    (many_of n.kids b bs n.branches_are) in
    let first_is : first_of w.kids ≡ first_without first (b ∷ bs) key = w.first_is
    ∙ ap (λ f. first_without f (branches_of n.kids) key) n.first_is
    ∙ ap (λ c. first_without first c key) n.branches_are in
    let branches_are : branches_of w.kids ≡ without_branch (b ∷ bs) key = w.branches_are
    ∙ ap (λ c. without_branch c key) n.branches_are in
    let shows : ShowsInner (new p) (first_of w.kids) (branches_of w.kids) =
    subst (λ f. ShowsInner (new p) f (branches_of w.kids))
    (sym first_is) (subst (ShowsInner (new p) (first_without first (b ∷ bs) key))
    (sym branches_are) new_p) in
    let entries_from : (x : Entry) → In x (kids_entries w.kids)
    → In x k.rest = λ x i. elim ((w.entries_are x).0 i) [ inl a ↦ a | inr z ↦ absurd z ] in
    let pages_from : (q : ℕ) → In q (kids_pages w.kids)
    → In q k.others = λ q i. elim ((w.pages_are q).0 i) [ inl a ↦ a | inr z ↦ absurd z ] in
    let beside_kid : (x : Entry) → In x k.rest → x.key ≢ key = λ x i d. elim (k.out x i) [
      | inl a ↦ not_both x.key k.low a (subst (IsUpTo k.low) (sym d) k.from)
      | inr c ↦ not_under_over x.key k.high (subst (λ y. IsUnder y k.high) (sym d) k.to) c
    ] in
    let u : BplusTree = node p w.kids in
    let fit : IsFitting new p h.lo h.hi h.others u = record {
      page_is = refl;
      stands = (shows, w.stand);
      ordered = w.ordered;
      apart = ((λ i. n.out (n.in_others p (pages_from p i))), w.apart);
      bounds = λ x i. n.bounds x ((k.entries_are x).1 (inr (entries_from x i)));
      alone = λ q i j. elim i
          [ inl e ↦ out_p q j e | inr d ↦ n.alone q (n.in_others q (pages_from q d)) j ];
    } in
    filled_in at new owned now root p key old h u
    (λ q i. elsewhere q ((h.owns q).1 (inr i)) (out_p q i) (out_child q i)) fit
    (some_key w.kids w.ordered)
    (λ x. (
      (λ i. (
        subst (In x) (sym n.entries_is) ((k.entries_are x).1 (inr (entries_from x i))),
        beside_kid x (entries_from x i),
      )),
      (λ i. (w.entries_are x).1 (inl (elim ((k.entries_are x).0 (subst (In x) n.entries_is i.0)) [
        | inl a ↦ absurd (i.1 (all_taken key es taken x (subst (In x) entries_is a)))
        | inr c ↦ c
      ]))),
    ))
    (λ q i. let o = (now_is q).0 i in (
      o.0,
      λ a. elim (subst (In q) n.pages_is a) [
        | inl e ↦ inl e
        | inr d ↦ inr ((w.pages_are q).1 (inl (elim ((k.pages_are q).0 d) [
          | inl m ↦ elim (subst (In q) pages_is m) [ inl e ↦ absurd (o.1 e) | inr z ↦ absurd z ]
          | inr m ↦ m
        ])))
      ],
    ))
    (λ q i. (now_is q).1 (elim i [
      | inl a ↦ elim a [
        | inl e ↦ (subst owned (sym e) n.top_owned, λ f. not_top child child_in (sym f ∙ e))
        | inr d ↦ (n.kids_owned q (n.in_others q (pages_from q d)), not_kid q (pages_from q d))
      ]
      | inr c ↦ ((h.owns q).1 (inr c), out_child q c)
    ]))

-- one child
record IsOne (kids : BplusKids) : Type 0 where
  pub tree : BplusTree
  pub is : kids ≡ last tree

one_of : (kids : BplusKids) → branches_of kids ≡ [] → IsOne kids
one_of (last t) e = record { tree = t; is = refl }
one_of (more t s kids) e = let no : ⊥ = cc in absurd no

none_without : (b : Branch) (key : List ℕ) → without_branch (b ∷ []) key ≡ []
none_without b key = elim (cases_Bool (is_below key b.separator)) [
  | inl e ↦ cond-true (is_below key b.separator) _ _ e
  | inr e ↦ cond-false (is_below key b.separator) _ _ e
]

-- a tree on another page
pub record IsMoved (new : ℕ → List ℕ) (a : ℕ) (t : BplusTree) : Type 0 where
  pub tree : BplusTree
  pub page_is : page_of tree ≡ a
  pub stands : Stands new tree
  pub ordered : Ordered tree
  pub apart : Apart tree
  pub entries_are : entries tree ≡ entries t
  pub pages_are : (q : ℕ) → In q (pages tree) → (q ≡ a) ⊎ (In q (pages t) × (q ≢ page_of t))
  pub pages_stay : (q : ℕ) → In q (pages t) → q ≢ page_of t → In q (pages tree)

pub move : (at new : ℕ → List ℕ) (a : ℕ) (t : BplusTree) → Stands at t → Ordered t → Apart t
    → (In a (pages t) → ⊥)
    → ((q : ℕ) → In q (pages t) → q ≢ page_of t → new q ≡ at q) → new a ≡ at (page_of t)
    → IsMoved new a t
move at new a (leaf p es) stands ordered apart free same at_a = record {
  tree = leaf a es;
  page_is = refl;
  stands = subst (λ b. ShowsEntries b es) (sym at_a) stands;
  ordered = ordered;
  apart = tt;
  entries_are = refl;
  pages_are = λ q i. elim i [ inl e ↦ inl e | inr n ↦ absurd n ];
  pages_stay = λ q i d. elim i [ inl e ↦ absurd (d e) | inr n ↦ absurd n ];
}
move at new a (node p kids) stands ordered apart free same at_a = record {
  tree = node a kids;
  page_is = refl;
  stands = (
    subst (λ b. ShowsInner b (first_of kids) (branches_of kids)) (sym at_a) stands.0,
    all_stand_same at new kids
        (λ q i. same q (inr i) (λ e. apart.0 (subst (λ y. In y (kids_pages kids)) e i))) stands.1,
  );
  ordered = ordered;
  apart = ((λ i. free (inr i)), apart.1);
  entries_are = refl;
  pages_are = λ q i. elim i [
    | inl e ↦ inl e
    | inr j ↦ inr (
      inr j,
      λ e. apart.0
          (subst (λ y. In y (kids_pages kids)) e j),
    )
  ];
  pages_stay = λ q i d. elim i [ inl e ↦ absurd (d e) | inr j ↦ inr j ];
}

-- the one child that is left takes the place of its page
pub replaced : {steps : ℕ} (at new : ℕ → List ℕ) (owned now : ℕ
    → Type 0) (root p : ℕ) (key : List ℕ) (old : BplusTree) (first : ℕ) (b : Branch)
    (es : List Entry)
    → ShowsInner (at p) first (b ∷ []) → ShowsEntries (at (child_for first (b ∷ []) key)) es
    → IsTakenFrom key es []
    → new p ≡ at (first_without first (b ∷ []) key)
    → ((q : ℕ) → owned q → q ≢ p → q ≢ child_for first (b ∷ []) key
    → q ≢ first_without first (b ∷ []) key → new q ≡ at q)
    → ((q : ℕ) → (now q → owned q × (q ≢ child_for first (b ∷ []) key)
    × (q ≢ first_without first (b ∷ []) key))
    × (owned q × (q ≢ child_for first (b ∷ []) key) × (q ≢ first_without first (b ∷ []) key)
    → now q))
    → IsAtHand at owned root p key old steps → IsRemoved new now root key old
replaced at new owned now root p key old first b es at_p at_c taken new_p elsewhere now_is h =
    let n = at_node at owned root p key old first (b ∷ []) at_p h in
    let k = n.hole in
    let child = child_for first (b ∷ []) key in
    let kid_is : k.kid ≡ leaf child es =
    leaf_is at k.kid es (subst (λ q. ShowsEntries (at q) es) n.goes at_c) k.fits.stands
    ∙ ap (λ q. leaf q es) (sym n.goes) in
    let entries_is : entries k.kid ≡ es = ap entries kid_is in
    let pages_is : pages k.kid ≡ child ∷ [] = ap pages kid_is in
    let kid_in : In child (pages k.kid) = subst (In child) (sym pages_is) (inl refl) in
    let child_in : In child (kids_pages n.kids) = n.in_kids child kid_in in
    let w = k.gone at (λ q i. refl) (many_of n.kids b [] n.branches_are) in
    let one = one_of w.kids (w.branches_are ∙ ap (λ c. without_branch c key) n.branches_are
    ∙ none_without b key) in
    let o = one.tree in
    let o_stands : Stands at o = subst (AllStand at) one.is w.stand in
    let o_ordered : Ordered o × IsFilled o = subst AreOrdered one.is w.ordered in
    let o_apart : Apart o = subst AreApart one.is w.apart in
    let o_page : page_of o ≡ first_without first (b ∷ []) key = sym (ap first_of one.is)
    ∙ w.first_is
    ∙ ap (λ f. first_without f (branches_of n.kids) key) n.first_is
    ∙ ap (λ c. first_without first c key) n.branches_are in
    let o_entries : (x : Entry) → In x (entries o)
    → In x k.rest = λ x i. elim ((w.entries_are x).0
    (subst (λ t. In x (kids_entries t)) (sym one.is) i)) [
      | inl a ↦ a
      | inr z ↦ absurd z
    ] in
    let o_entries_to : (x : Entry) → In x k.rest
    → In x (entries o) = λ x i. subst (λ t. In x (kids_entries t)) one.is
    ((w.entries_are x).1 (inl i)) in
    let o_pages : (q : ℕ) → In q (pages o) → In q k.others =
    λ q i. elim ((w.pages_are q).0 (subst (λ t. In q (kids_pages t)) (sym one.is) i))
    [ inl a ↦ a | inr z ↦ absurd z ] in
    let o_pages_to : (q : ℕ) → In q k.others
    → In q (pages o) = λ q i. subst (λ t. In q (kids_pages t)) one.is ((w.pages_are q).1 (inl i)) in
    let o_in : In (page_of o) (kids_pages n.kids) =
    n.in_others (page_of o) (o_pages (page_of o) (top_in o)) in
    let not_top : (q : ℕ) → In q (kids_pages n.kids)
    → q ≢ p = λ q i e. n.out (subst (λ y. In y (kids_pages n.kids)) e i) in
    let not_kid : (q : ℕ) → In q k.others
    → q ≢ child = λ q i e. k.fits.alone child kid_in (subst (λ y. In y k.others) e i) in
    let out_p : (q : ℕ) → In q h.others
    → q ≢ p = λ q i e. n.top_alone (subst (λ y. In y h.others) e i) in
    let out_of : (q r : ℕ) → In q h.others → In r (kids_pages n.kids)
    → q ≢ r = λ q r i j e. n.alone r j (subst (λ y. In y h.others) e i) in
    let beside_kid : (x : Entry) → In x k.rest → x.key ≢ key = λ x i d. elim (k.out x i) [
      | inl a ↦ not_both x.key k.low a (subst (IsUpTo k.low) (sym d) k.from)
      | inr c ↦ not_under_over x.key k.high (subst (λ y. IsUnder y k.high) (sym d) k.to) c
    ] in
    let m = move at new p o o_stands o_ordered.0 o_apart
    (λ i. not_top p (n.in_others p (o_pages p i)) refl)
    (λ q i d. elsewhere q (n.kids_owned q (n.in_others q (o_pages q i)))
    (not_top q (n.in_others q (o_pages q i)))
    (not_kid q (o_pages q i)) (λ e. d (e ∙ sym o_page))) (new_p ∙ ap at (sym o_page)) in
    let fit : IsFitting new p h.lo h.hi h.others m.tree = record {
      page_is = m.page_is;
      stands = m.stands;
      ordered = m.ordered;
      apart = m.apart;
      bounds = λ x i. n.bounds x
          ((k.entries_are x).1 (inr (o_entries x (subst (In x) m.entries_are i))));
      alone = λ q i j. elim (m.pages_are q i) [
        | inl e ↦ out_p q j e
        | inr d ↦ n.alone q (n.in_others q (o_pages q d.0)) j
      ];
    } in
    filled_in at new owned now root p key old h m.tree
    (λ q i. elsewhere q ((h.owns q).1 (inr i)) (out_p q i) (out_of q child i child_in)
    (λ e. out_of q (page_of o) i o_in (e ∙ sym o_page)))
    fit (o_ordered.1.0, subst (In o_ordered.1.0) (sym m.entries_are) o_ordered.1.1)
    (λ x. (
      (λ i. let r = o_entries x (subst (In x) m.entries_are i) in
          (subst (In x) (sym n.entries_is) ((k.entries_are x).1 (inr r)), beside_kid x r)),
      (λ i. subst (In x) (sym m.entries_are)
          (o_entries_to x (elim ((k.entries_are x).0 (subst (In x) n.entries_is i.0)) [
            | inl a ↦ absurd (i.1 (all_taken key es taken x (subst (In x) entries_is a)))
            | inr c ↦ c
          ]))),
    ))
    (λ q i. let r = (now_is q).0 i in (
      r.0,
      λ a. elim (subst (In q) n.pages_is a) [
        | inl e ↦ subst (λ y. In y (pages m.tree)) (m.page_is ∙ sym e) (top_in m.tree)
        | inr d ↦ m.pages_stay q (o_pages_to q (elim ((k.pages_are q).0 d) [
          | inl f ↦ elim (subst (In q) pages_is f) [ inl e ↦ absurd (r.1 e) | inr z ↦ absurd z ]
          | inr f ↦ f
        ])) (λ e. r.2 (e ∙ o_page))
      ],
    ))
    (λ q i. (now_is q).1 (elim i [
      | inl a ↦ elim (m.pages_are q a) [
        | inl e ↦ (
          subst owned (sym e) n.top_owned,
          (λ f. not_top child child_in (sym f ∙ e)),
          (λ f. not_top (page_of o) o_in (o_page ∙ sym f ∙ e)),
        )
        | inr d ↦ (
          n.kids_owned q (n.in_others q (o_pages q d.0)),
          not_kid q (o_pages q d.0),
          (λ f. d.1 (f ∙ sym o_page)),
        )
      ]
      | inr c ↦ (
        (h.owns q).1 (inr c),
        out_of q child c child_in,
        (λ e. out_of q (page_of o) c o_in (e ∙ sym o_page)),
      )
    ]))
