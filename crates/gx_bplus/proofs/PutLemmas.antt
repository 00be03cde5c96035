-- The steps of a search that puts an entry.
use Rattle.std.proofs.Common.{◌≡◌, ◌≢◌, ◌⊎◌, inl, inr, ◌++◌, ◌∷◌, ℕ, List, [], refl, sym, ap, ◌∙◌, subst}
use Rattle.gx_slots.specs.Entries.{Entry}
use Rattle.gx_bnode.specs.Branches.{Branch}
use Rattle.gx_btree.specs.Order.{IsBelow, IsUpTo, IsUnder}
use Rattle.gx_btree.specs.Tree.{In, BplusTree, leaf, node, page_of, first_of, branches_of, entries, kids_entries, pages, kids_pages, Stands, ShowsEntries, ShowsInner, Ascending, Ordered, Apart, IsFilled, child_for, with_branch}
use Rattle.gx_btree.specs.Hole.{IsFitting, Same, Joins, IsAtHand}
use Rattle.gx_btree.proofs.MemberLemmas.{in_left, in_right, in_cases}
use Rattle.gx_btree.proofs.OrderLemmas.{not_both, not_under_over, up_to_up_to}
use Rattle.gx_btree.proofs.KidLemmas.{branch, some_key}
use Rattle.gx_btree.proofs.StepLemmas.{IsAtNode, at_node, node_at, leaf_is, top_in}
use Rattle.gx_bplus.specs.Changes.{IsPutIn, IsPut}
use Rattle.gx_bplus.proofs.HalfLemmas.{halves}

-- a key within bounds isn't one that stands outside
pub beside : {steps : ℕ} (at : ℕ → List ℕ) (owned : ℕ → Type 0) (root p : ℕ) (key : List ℕ)
    (old : BplusTree)
    (h : IsAtHand at owned root p key old steps) (x : Entry) → In x h.rest → x.key ≢ key
beside at owned root p key old h x i e = elim (h.hole.out x i) [
  | inl a ↦ not_both x.key h.lo a (subst (IsUpTo h.lo) (sym e) h.from)
  | inr b ↦ not_under_over x.key h.hi (subst (λ y. IsUnder y h.hi) (sym e) h.to) b
]

-- an entry put into a part is put into the whole
pub put_through : {steps : ℕ} (at : ℕ → List ℕ) (owned : ℕ → Type 0) (root p : ℕ) (old : BplusTree)
    (e : Entry)
    (h : IsAtHand at owned root p e.key old steps) (part all : List Entry)
    → IsPutIn e (entries h.subtree) part → Joins all part h.rest → IsPutIn e (entries old) all
put_through at owned root p old e h part all put joins x = (
  λ i. elim ((joins x).0 i) [
    | inl a ↦ elim ((put x).0 a)
        [ inl c ↦ inl c | inr c ↦ inr ((h.entries_are x).1 (inl c.0), c.1) ]
    | inr b ↦ inr ((h.entries_are x).1 (inr b), beside at owned root p e.key old h x b)
  ],
  λ i. elim i [
    | inl a ↦ (joins x).1 (inl ((put x).1 (inl a)))
    | inr b ↦ elim ((h.entries_are x).0 b.0)
        [ inl c ↦ (joins x).1 (inl ((put x).1 (inr (c, b.1)))) | inr c ↦ (joins x).1 (inr c) ]
  ],
)

-- the entry page where the search ends has the entry
pub added : {steps : ℕ} (at new : ℕ → List ℕ) (owned now : ℕ → Type 0) (root p : ℕ) (e : Entry)
    (old : BplusTree) (es fs : List Entry)
    → ShowsEntries (at p) es → ShowsEntries (new p) fs → (Ascending es → Ascending fs)
    → (Ascending es → IsPutIn e es fs)
    → ((q : ℕ) → owned q → q ≢ p → new q ≡ at q) → ((q : ℕ) → (now q → owned q) × (owned q → now q))
    → IsAtHand at owned root p e.key old steps → IsPut new now root e old
added at new owned now root p e old es fs was is up put elsewhere now_is h =
    let kid_is : h.subtree ≡ leaf p es =
    leaf_is at h.subtree es (subst (λ q. ShowsEntries (at q) es) (sym h.fits.page_is) was)
    h.fits.stands ∙ ap (λ q. leaf q es) h.fits.page_is in
    let ascending : Ascending es = subst Ordered kid_is h.fits.ordered in
    let entries_is : entries h.subtree ≡ es = ap entries kid_is in
    let pages_is : pages h.subtree ≡ p ∷ [] = ap pages kid_is in
    let puts = put ascending in
    let p_in : In p (pages h.subtree) = subst (In p) (sym pages_is) (inl refl) in
    let not_p : (q : ℕ) → In q h.others
    → q ≢ p = λ q i d. h.fits.alone p p_in (subst (λ y. In y h.others) d i) in
    let fit : IsFitting new p h.lo h.hi h.others (leaf p fs) = record {
      page_is = refl;
      stands = is;
      ordered = up ascending;
      apart = tt;
      bounds = λ x i. elim ((puts x).0 i) [
        | inl d ↦ (
          subst (λ y. IsUpTo h.lo y.key) (sym d) h.from,
          subst (λ (y : Entry). IsUnder y.key h.hi) (sym d) h.to,
        )
        | inr d ↦ h.fits.bounds x (subst (In x) (sym entries_is) d.0)
      ];
      alone = λ q i j. elim i [ inl d ↦ not_p q j d | inr n ↦ absurd n ];
    } in
    let w = h.hole.fill new (leaf p fs) (λ q i. elsewhere q ((h.owns q).1 (inr i)) (not_p q i)) fit
    (e, (puts e).1 (inl refl)) in
    record {
      tree = w.tree;
      whole = w.whole;
      owns = λ q. (
        (λ i. elim ((h.owns q).0 ((now_is q).0 i)) [
          | inl j ↦ (w.pages_are q).1 (inl (subst (In q) pages_is j))
          | inr j ↦ (w.pages_are q).1 (inr j)
        ]),
        (λ i. (now_is q).1 (elim ((w.pages_are q).0 i) [
          | inl j ↦ (h.owns q).1 (inl (subst (In q) (sym pages_is) j))
          | inr j ↦ (h.owns q).1 (inr j)
        ])),
      );
      put = put_through at owned root p old e h fs (entries w.tree)
          (subst (λ xs. IsPutIn e xs fs) (sym entries_is) puts) w.entries_are;
    }

-- The child on the way gave place to two trees, with a separator between: what stands at the page
-- now.
pub record IsParted {steps : ℕ} (at new : ℕ → List ℕ) (owned : ℕ
    → Type 0) (root p : ℕ) (key : List ℕ) (old : BplusTree) (first : ℕ)
    (branches : List Branch) (h : IsAtHand at owned root p key old steps)
    (n : IsAtNode at owned root p key old first branches h)
    (l r : BplusTree) : Type 0 where
  pub tree : BplusTree
  pub fits : IsFitting new p h.lo h.hi h.others tree
  pub filled : IsFilled tree
  pub entries_are : Joins (entries tree) (entries l ++ entries r) n.hole.rest
  pub pages_to : (q : ℕ) → In q (pages tree) → (q ≡ p) ⊎ (In q (pages l) ⊎ In q (pages r))
      ⊎ In q n.hole.others
  pub pages_from : (q : ℕ) → (q ≡ p) ⊎ (In q (pages l) ⊎ In q (pages r)) ⊎ In q n.hole.others
      → In q (pages tree)

pub parted : {steps : ℕ} (at new : ℕ → List ℕ) (owned : ℕ → Type 0) (root p : ℕ) (key : List ℕ)
    (old : BplusTree) (first : ℕ)
    (branches : List Branch) (h : IsAtHand at owned root p key old steps)
    (n : IsAtNode at owned root p key old first branches h)
    (l r : BplusTree) (s : List ℕ) (fresh : ℕ) → (owned fresh → ⊥) → page_of r ≡ fresh
    → ((q : ℕ) → owned q → q ≢ p → q ≢ child_for first branches key → new q ≡ at q)
    → ShowsInner (new p) first (with_branch branches key (branch s fresh))
    → page_of l ≡ page_of n.hole.kid → Stands new l → Stands new r → Ordered l → Ordered r → Apart l
    → Apart r → IsFilled l → IsFilled r
    → ((x : Entry) → In x (entries l) → IsUpTo n.hole.low x.key × IsUnder x.key n.hole.high)
    → ((x : Entry) → In x (entries r) → IsUpTo n.hole.low x.key × IsUnder x.key n.hole.high)
    → ((x : Entry) → In x (entries l) → IsBelow x.key s)
    → ((x : Entry) → In x (entries r) → IsUpTo s x.key)
    → ((q : ℕ) → In q (pages l) → In q (pages n.hole.kid))
    → ((q : ℕ) → In q (pages r) → (q ≡ fresh) ⊎ In q (pages n.hole.kid))
    → ((q : ℕ) → In q (pages l) → In q (pages r) → ⊥)
    → IsParted at new owned root p key old first branches h n l r
parted at new owned root p key old first branches h n l r s fresh free r_page elsewhere at_p l_page
    l_stands r_stands l_ordered r_ordered
    l_apart r_apart l_filled r_filled l_bounds r_bounds below above l_in r_in alone =
    let k = n.hole in
    let not_fresh : (q : ℕ) → owned q → q ≢ fresh = λ q i e. free (subst owned e i) in
    let not_top : (q : ℕ) → In q (kids_pages n.kids)
    → q ≢ p = λ q i e. n.out (subst (λ y. In y (kids_pages n.kids)) e i) in
    let same : Same k.others at new =
    λ q i. elsewhere q (n.kids_owned q (n.in_others q i)) (not_top q (n.in_others q i))
    (λ e. k.fits.alone q (subst (λ y. In y (pages k.kid)) (sym (e ∙ n.goes)) (top_in k.kid)) i) in
    let fit_l : IsFitting new (page_of k.kid) k.low k.high k.others l = record {
      page_is = l_page;
      stands = l_stands;
      ordered = l_ordered;
      apart = l_apart;
      bounds = l_bounds;
      alone = λ q i j. k.fits.alone q (l_in q i) j;
    } in
    let fit_r : IsFitting new (page_of r) k.low k.high k.others r = record {
      page_is = refl;
      stands = r_stands;
      ordered = r_ordered;
      apart = r_apart;
      bounds = r_bounds;
      alone = λ q i j. elim (r_in q i)
          [ inl e ↦ not_fresh q (n.kids_owned q (n.in_others q j)) e | inr d ↦ k.fits.alone q d j ];
    } in
    let w = k.two new l r s same fit_l l_filled fit_r r_filled alone below above in
    let first_is : first_of w.kids ≡ first = w.first_is ∙ n.first_is in
    let branches_are : branches_of w.kids ≡ with_branch branches key (branch s fresh) =
    w.branches_are
    ∙ ap (λ bs. with_branch bs key (branch s (page_of r))) n.branches_are
    ∙ ap (λ c. with_branch branches key (branch s c)) r_page in
    let shows : ShowsInner (new p) (first_of w.kids) (branches_of w.kids) =
    subst (λ f. ShowsInner (new p) f (branches_of w.kids))
    (sym first_is) (subst (ShowsInner (new p) first) (sym branches_are) at_p) in
    let pages_from : (q : ℕ) → In q (kids_pages w.kids) → (q ≡ fresh) ⊎ In q (kids_pages n.kids) =
    λ q i. elim ((w.pages_are q).0 i) [
      | inl a ↦ elim (in_cases q (pages l) (pages r) a) [
        | inl d ↦ inr (n.in_kids q (l_in q d))
        | inr d ↦ elim (r_in q d) [ inl e ↦ inl e | inr f ↦ inr (n.in_kids q f) ]
      ]
      | inr b ↦ inr (n.in_others q b)
    ] in
    record {
      tree = node p w.kids;
      fits = record {
        page_is = refl;
        stands = (shows, w.stand);
        ordered = w.ordered;
        apart = (
          (λ i. elim (pages_from p i) [ inl e ↦ not_fresh p n.top_owned e | inr d ↦ n.out d ]),
          w.apart,
        );
        bounds = λ x i. elim ((w.entries_are x).0 i) [
          | inl a ↦ (let b : IsUpTo k.low x.key × IsUnder x.key k.high =
              elim (in_cases x (entries l) (entries r) a) [
                | inl d ↦ l_bounds x d
                | inr d ↦ r_bounds x d
              ] in (up_to_up_to h.lo k.low x.key k.lower b.0, k.higher.under x.key b.1))
          | inr b ↦ n.bounds x ((k.entries_are x).1 (inr b))
        ];
        alone = λ q i j. elim i [
          | inl a ↦ n.top_alone (subst (λ y. In y h.others) a j)
          | inr b ↦ elim (pages_from q b)
              [ inl e ↦ not_fresh q ((h.owns q).1 (inr j)) e | inr d ↦ n.alone q d j ]
        ];
      };
      filled = some_key w.kids w.ordered;
      entries_are = w.entries_are;
      pages_to = λ q i. elim i [
        | inl e ↦ inl e
        | inr j ↦ elim ((w.pages_are q).0 j)
            [ inl a ↦ inr (inl (in_cases q (pages l) (pages r) a)) | inr b ↦ inr (inr b) ]
      ];
      pages_from = λ q i. elim i [
        | inl e ↦ inl e
        | inr j ↦ inr
            ((w.pages_are q).1
            (elim j [
              | inl a ↦ inl (elim a [
                | inl d ↦ in_left q (pages l) (pages r) d
                | inr d ↦ in_right q (pages l) (pages r) d
              ])
              | inr b ↦ inr b
            ]))
      ];
    }

-- an inner child is cut in two, and the search stays where it is
pub split : {steps : ℕ} (at new : ℕ → List ℕ) (owned now : ℕ → Type 0) (root p : ℕ) (key : List ℕ)
    (old : BplusTree) (first : ℕ)
    (branches : List Branch)
    (f : ℕ) (bs ls : List Branch) (s : List ℕ) (c : ℕ) (rs : List Branch) (fresh : ℕ)
    → bs ≡ ls ++ branch s c ∷ rs
    → ShowsInner (at p) first branches → ShowsInner (at (child_for first branches key)) f bs
    → (owned fresh → ⊥) → ((q : ℕ)
    → (now q → (q ≡ fresh) ⊎ owned q) × ((q ≡ fresh) ⊎ owned q → now q))
    → ((q : ℕ) → owned q → q ≢ p → q ≢ child_for first branches key → new q ≡ at q)
    → ShowsInner (new p) first (with_branch branches key (branch s fresh))
    → ShowsInner (new (child_for first branches key)) f ls
    → ShowsInner (new fresh) c rs
    → IsAtHand at owned root p key old steps → IsAtHand new now root p key old steps
split at new owned now root p key old first branches f bs ls s c rs fresh cut at_p at_c free now_is
    elsewhere new_p new_c new_fresh h =
    let n = at_node at owned root p key old first branches at_p h in
    let k = n.hole in
    let child = child_for first branches key in
    let kid_page : page_of k.kid ≡ child = sym n.goes in
    let m = node_at at f bs k.kid (subst (λ q. ShowsInner (at q) f bs) n.goes at_c) k.fits.stands in
    let kid_is : k.kid ≡ node child m.kids = m.is ∙ ap (λ q. node q m.kids) kid_page in
    let stands : Stands at (node child m.kids) = subst (Stands at) kid_is k.fits.stands in
    let ordered : Ordered (node child m.kids) = subst Ordered kid_is k.fits.ordered in
    let apart : Apart (node child m.kids) = subst Apart kid_is k.fits.apart in
    let entries_is : entries k.kid ≡ kids_entries m.kids = ap entries kid_is in
    let pages_is : pages k.kid ≡ child ∷ kids_pages m.kids = ap pages kid_is in
    let in_kid : (q : ℕ) → In q (kids_pages m.kids)
    → In q (pages k.kid) = λ q i. subst (In q) (sym pages_is) (inr i) in
    let child_in : In child (pages k.kid) = subst (In child) (sym pages_is) (inl refl) in
    let not_fresh : (q : ℕ) → owned q → q ≢ fresh = λ q i e. free (subst owned e i) in
    let kid_owned : (q : ℕ) → In q (pages k.kid) → owned q = λ q i. n.kids_owned q (n.in_kids q i)
    in
    let not_p : (q : ℕ) → In q (kids_pages n.kids)
    → q ≢ p = λ q i e. n.out (subst (λ y. In y (kids_pages n.kids)) e i) in
    let same : Same (kids_pages m.kids) at new =
    λ q i. elsewhere q (kid_owned q (in_kid q i)) (not_p q (n.in_kids q (in_kid q i)))
    (λ e. apart.0 (subst (λ y. In y (kids_pages m.kids)) e i)) in
    let hv = halves at new m.kids ls s c rs child fresh (m.branches_are ∙ cut) stands.1 ordered
    apart.1 apart.0
    (λ i. free (kid_owned fresh (in_kid fresh i)))
    (λ e. not_fresh child (kid_owned child child_in) (sym e)) same
    (subst (λ g. ShowsInner (new child) g ls) (sym m.first_is) new_c) new_fresh in
    let to_kid : (x : Entry) → In x (entries hv.l) ⊎ In x (entries hv.r)
    → In x (entries k.kid) = λ x i. subst (In x) (sym entries_is) ((hv.entries_are x).1 i) in
    let w = parted at new owned root p key old first branches h n hv.l hv.r s fresh free hv.r_page
    elsewhere new_p
    (hv.l_page ∙ n.goes) hv.l_stands hv.r_stands hv.l_ordered hv.r_ordered hv.l_apart hv.r_apart
    hv.l_filled hv.r_filled
    (λ x i. k.fits.bounds x (to_kid x (inl i))) (λ x i. k.fits.bounds x (to_kid x (inr i))) hv.below
    hv.above
    (λ q i. elim (hv.l_pages q i)
    [ inl e ↦ subst (λ y. In y (pages k.kid)) (sym e) child_in | inr j ↦ in_kid q j ])
    (λ q i. elim (hv.r_pages q i) [ inl e ↦ inl e | inr j ↦ inr (in_kid q j) ]) hv.alone in
    let kid_to : (q : ℕ) → In q (pages k.kid) → In q (pages hv.l) ⊎ In q (pages hv.r) =
    λ q i. elim (subst (In q) pages_is i) [
      | inl e ↦ inl (subst (λ y. In y (pages hv.l)) (hv.l_page ∙ sym e) (top_in hv.l))
      | inr j ↦ hv.kids_in q j
    ] in
    let halves_owned : (q : ℕ) → In q (pages hv.l) ⊎ In q (pages hv.r) → (q ≡ fresh) ⊎ owned q =
    λ q i. elim i [
      | inl a ↦ elim (hv.l_pages q a) [
        | inl e ↦ inr (subst owned (sym e) (kid_owned child child_in))
        | inr j ↦ inr (kid_owned q (in_kid q j))
      ]
      | inr a ↦ elim (hv.r_pages q a) [ inl e ↦ inl e | inr j ↦ inr (kid_owned q (in_kid q j)) ]
    ] in
    let out_p : (q : ℕ) → In q h.others
    → q ≢ p = λ q i e. n.top_alone (subst (λ y. In y h.others) e i) in
    let out_child : (q : ℕ) → In q h.others
    → q ≢ child = λ q i e. n.alone child (n.in_kids child child_in) (subst (λ y. In y h.others) e i)
    in
    record {
      lo = h.lo;
      hi = h.hi;
      rest = h.rest;
      others = h.others;
      subtree = w.tree;
      hole = record {
        out = h.hole.out;
        fill = λ later t same fit filled. h.hole.fill later t
            (λ q i. same q i ∙ elsewhere q ((h.owns q).1 (inr i)) (out_p q i) (out_child q i)) fit
            filled;
      };
      fits = w.fits;
      from = h.from;
      to = h.to;
      entries_are = λ x. (
        (λ i. elim ((h.entries_are x).0 i) [
          | inl a ↦ inl (elim ((k.entries_are x).0 (subst (In x) n.entries_is a)) [
            | inl b ↦ (w.entries_are x).1
                (inl (elim ((hv.entries_are x).0 (subst (In x) entries_is b)) [
                  | inl d ↦ in_left x (entries hv.l) (entries hv.r) d
                  | inr d ↦ in_right x (entries hv.l) (entries hv.r) d
                ]))
            | inr b ↦ (w.entries_are x).1 (inr b)
          ])
          | inr b ↦ inr b
        ]),
        (λ i. (h.entries_are x).1 (elim i [
          | inl a ↦ inl (subst (In x) (sym n.entries_is)
              ((k.entries_are x).1 (elim ((w.entries_are x).0 a) [
                | inl b ↦ inl (to_kid x (in_cases x (entries hv.l) (entries hv.r) b))
                | inr b ↦ inr b
              ])))
          | inr b ↦ inr b
        ])),
      );
      owns = λ q. (
        (λ i. elim ((now_is q).0 i) [
          | inl e ↦ inl (w.pages_from q
              (inr (inl (inr (subst (λ y. In y (pages hv.r)) (hv.r_page ∙ sym e) (top_in hv.r))))))
          | inr o ↦ elim ((h.owns q).0 o) [
            | inl a ↦ inl (w.pages_from q (elim (subst (In q) n.pages_is a) [
              | inl e ↦ inl e
              | inr b ↦ inr (elim ((k.pages_are q).0 b)
                  [ inl d ↦ inl (kid_to q d) | inr d ↦ inr d ])
            ]))
            | inr b ↦ inr b
          ]
        ]),
        (λ i. (now_is q).1 (elim i [
          | inl a ↦ elim (w.pages_to q a) [
            | inl e ↦ inr (subst owned (sym e) n.top_owned)
            | inr b ↦ elim b [
              | inl d ↦ halves_owned q d
              | inr d ↦ inr (n.kids_owned q (n.in_others q d))
            ]
          ]
          | inr b ↦ inr ((h.owns q).1 (inr b))
        ])),
      );
      path = h.path;
      path_is = h.path_is;
      unique = h.unique;
      path_in = h.path_in;
    }
