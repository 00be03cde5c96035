-- Entry pages without room, and roots without room.
use Rattle.std.proofs.Common.{◌≡◌, ◌≢◌, ◌⊎◌, inl, inr, ◌++◌, ◌∷◌, ℕ, List, [], refl, sym, ap, ◌∙◌, subst}
use Rattle.gx_slots.specs.Entries.{Entry}
use Rattle.gx_bnode.specs.Branches.{Branch}
use Rattle.gx_btree.specs.Order.{IsUpTo, IsUnder}
use Rattle.gx_btree.specs.Tree.{In, BplusTree, BplusKids, leaf, node, last, more, page_of, entries, kids_entries, pages, kids_pages, Stands, ShowsEntries, ShowsInner, Ascending, Ordered, Apart, IsWhole, Owns, child_for, with_branch}
use Rattle.gx_btree.specs.Hole.{IsAtHand}
use Rattle.gx_btree.proofs.MemberLemmas.{in_left, in_right, in_cases}
use Rattle.gx_btree.proofs.OrderLemmas.{not_both, not_under_over}
use Rattle.gx_btree.proofs.KidLemmas.{branch}
use Rattle.gx_btree.proofs.StepLemmas.{at_root, at_node, node_at, leaf_is, top_in, descend}
use Rattle.gx_bplus.specs.Changes.{IsPutIn, IsSpread, IsPut}
use Rattle.gx_bplus.proofs.HalfLemmas.{halves}
use Rattle.gx_bplus.proofs.PutLemmas.{parted, put_through}

-- an entry page below another page goes to two pages, with the entry
pub spread : {steps : ℕ} (at new : ℕ → List ℕ) (owned now : ℕ → Type 0) (root p : ℕ) (e : Entry)
    (old : BplusTree) (first : ℕ)
    (branches : List Branch)
    (es ls rs : List Entry) (s : List ℕ) (fresh : ℕ) → (Ascending es → IsSpread es e ls rs s)
    → ShowsInner (at p) first branches → ShowsEntries (at (child_for first branches e.key)) es
    → (owned fresh → ⊥) → ((q : ℕ)
    → (now q → (q ≡ fresh) ⊎ owned q) × ((q ≡ fresh) ⊎ owned q → now q))
    → ((q : ℕ) → owned q → q ≢ p → q ≢ child_for first branches e.key → new q ≡ at q)
    → ShowsInner (new p) first (with_branch branches e.key (branch s fresh))
    → ShowsEntries (new (child_for first branches e.key)) ls
    → ShowsEntries (new fresh) rs
    → IsAtHand at owned root p e.key old steps → IsPut new now root e old
spread at new owned now root p e old first branches es ls rs s fresh spreads at_p at_c free now_is
    elsewhere new_p new_c new_fresh h =
    let n = at_node at owned root p e.key old first branches at_p h in
    let k = n.hole in
    let child = child_for first branches e.key in
    let kid_page : page_of k.kid ≡ child = sym n.goes in
    let kid_is : k.kid ≡ leaf child es =
    leaf_is at k.kid es (subst (λ q. ShowsEntries (at q) es) n.goes at_c) k.fits.stands
    ∙ ap (λ q. leaf q es) kid_page in
    let w = spreads (subst Ordered kid_is k.fits.ordered) in
    let entries_is : entries k.kid ≡ es = ap entries kid_is in
    let pages_is : pages k.kid ≡ child ∷ [] = ap pages kid_is in
    let child_in : In child (pages k.kid) = subst (In child) (sym pages_is) (inl refl) in
    let child_owned : owned child = n.kids_owned child (n.in_kids child child_in) in
    let bounds : (x : Entry) → In x (ls ++ rs) → IsUpTo k.low x.key × IsUnder x.key k.high =
    λ x i. elim ((w.put x).0 i) [
      | inl d ↦ (
        subst (λ y. IsUpTo k.low y.key) (sym d) k.from,
        subst (λ (y : Entry). IsUnder y.key k.high) (sym d) k.to,
      )
      | inr d ↦ k.fits.bounds x (subst (In x) (sym entries_is) d.0)
    ] in
    let g = parted at new owned root p e.key old first branches h n (leaf child ls)
    (leaf fresh rs) s fresh free refl elsewhere new_p
    n.goes new_c new_fresh w.left_up w.right_up tt tt w.left_some w.right_some
    (λ x i. bounds x (in_left x ls rs i)) (λ x i. bounds x (in_right x ls rs i)) w.below w.above
    (λ q i. elim i [ inl d ↦ subst (λ y. In y (pages k.kid)) (sym d) child_in | inr z ↦ absurd z ])
    (λ q i. elim i [ inl d ↦ inl d | inr z ↦ absurd z ])
    (λ q i j. elim i [
      | inl d ↦ elim j [
        | inl f ↦ free (subst owned (sym d ∙ f) child_owned)
        | inr z ↦ absurd z
      ]
      | inr z ↦ absurd z
    ]) in
    let out_p : (q : ℕ) → In q h.others
    → q ≢ p = λ q i d. n.top_alone (subst (λ y. In y h.others) d i) in
    let out_child : (q : ℕ) → In q h.others
    → q ≢ child = λ q i d. n.alone child (n.in_kids child child_in) (subst (λ y. In y h.others) d i)
    in
    let v = h.hole.fill new g.tree
    (λ q i. elsewhere q ((h.owns q).1 (inr i)) (out_p q i) (out_child q i)) g.fits g.filled in
    let beside_kid : (x : Entry) → In x k.rest → x.key ≢ e.key = λ x i d. elim (k.out x i) [
      | inl a ↦ not_both x.key k.low a (subst (IsUpTo k.low) (sym d) k.from)
      | inr b ↦ not_under_over x.key k.high (subst (λ y. IsUnder y k.high) (sym d) k.to) b
    ] in
    let puts : IsPutIn e (entries h.subtree) (entries g.tree) = λ x. (
      (λ i. elim ((g.entries_are x).0 i) [
        | inl a ↦ elim ((w.put x).0 a) [
          | inl d ↦ inl d
          | inr d ↦ inr (
            subst (In x) (sym n.entries_is)
                ((k.entries_are x).1 (inl (subst (In x) (sym entries_is) d.0))),
            d.1,
          )
        ]
        | inr b ↦ inr (
          subst (In x) (sym n.entries_is) ((k.entries_are x).1 (inr b)),
          beside_kid x b,
        )
      ]),
      (λ i. (g.entries_are x).1 (elim i [
        | inl d ↦ inl ((w.put x).1 (inl d))
        | inr d ↦ elim ((k.entries_are x).0 (subst (In x) n.entries_is d.0)) [
          | inl a ↦ inl ((w.put x).1 (inr (subst (In x) entries_is a, d.1)))
          | inr b ↦ inr b
        ]
      ])),
    ) in
    record {
      tree = v.tree;
      whole = v.whole;
      owns = λ q. (
        (λ i. (v.pages_are q).1 (elim ((now_is q).0 i) [
          | inl d ↦ inl (g.pages_from q (inr (inl (inr (inl d)))))
          | inr o ↦ elim ((h.owns q).0 o) [
            | inl a ↦ inl (g.pages_from q (elim (subst (In q) n.pages_is a) [
              | inl d ↦ inl d
              | inr b ↦ inr (elim ((k.pages_are q).0 b)
                  [ inl d ↦ inl (inl (subst (In q) pages_is d)) | inr d ↦ inr d ])
            ]))
            | inr b ↦ inr b
          ]
        ])),
        (λ i. (now_is q).1 (elim ((v.pages_are q).0 i) [
          | inl a ↦ elim (g.pages_to q a) [
            | inl d ↦ inr (subst owned (sym d) n.top_owned)
            | inr b ↦ elim b [
              | inl d ↦ elim d [
                | inl f ↦ elim f [
                  | inl z ↦ inr (subst owned (sym z) child_owned)
                  | inr z ↦ absurd z
                ]
                | inr f ↦ elim f [ inl z ↦ inl z | inr z ↦ absurd z ]
              ]
              | inr d ↦ inr (n.kids_owned q (n.in_others q d))
            ]
          ]
          | inr b ↦ inr ((h.owns q).1 (inr b))
        ])),
      );
      put = put_through at owned root p old e h (entries g.tree)
          (entries v.tree) puts v.entries_are;
    }

-- the one page goes to two others, with the entry, and becomes the page above them
pub root_spread : (at new : ℕ → List ℕ) (owned now : ℕ → Type 0) (root : ℕ) (e : Entry)
    (old : BplusTree)
    (es ls rs : List Entry) (s : List ℕ)
    (f1 f2 : ℕ) → (Ascending es → IsSpread es e ls rs s)
    → ShowsEntries (at root) es → (owned f1 → ⊥) → (owned f2 → ⊥) → f1 ≢ f2
    → ((q : ℕ) → (now q → (q ≡ f1) ⊎ (q ≡ f2) ⊎ owned q) × ((q ≡ f1) ⊎ (q ≡ f2) ⊎ owned q → now q))
    → ShowsInner (new root) f1 (branch s f2 ∷ []) → ShowsEntries (new f1) ls
    → ShowsEntries (new f2) rs
    → IsWhole at root old → Owns owned old → IsPut new now root e old
root_spread at new owned now root e old es ls rs s f1 f2 spreads at_root free1 free2 other now_is
    new_root new_1 new_2 whole owns =
    let is : old ≡ leaf root es =
    leaf_is at old es (subst (λ q. ShowsEntries (at q) es) (sym whole.root_is) at_root)
    whole.stands
    ∙ ap (λ q. leaf q es) whole.root_is in
    let w = spreads (subst Ordered is whole.ordered) in
    let pages_is : pages old ≡ root ∷ [] = ap pages is in
    let root_owned : owned root = (owns root).1 (subst (In root) (sym pages_is) (inl refl)) in
    record {
      tree = node root (more (leaf f1 ls) s (last (leaf f2 rs)));
      whole = record {
        root_is = refl;
        stands = (new_root, (new_1, new_2));
        ordered = (w.left_up, w.left_some, w.below, w.above, (w.right_up, w.right_some));
        apart = (
          (λ i. elim i [
            | inl d ↦ free1 (subst owned d root_owned)
            | inr j ↦ elim j [ inl d ↦ free2 (subst owned d root_owned) | inr z ↦ absurd z ]
          ]),
          (
            tt,
            (λ q i j. elim i [
              | inl d ↦ elim j [ inl f ↦ other (sym d ∙ f) | inr z ↦ absurd z ]
              | inr z ↦ absurd z
            ]),
            tt,
          ),
        );
      };
      owns = λ q. (
        (λ i. elim ((now_is q).0 i) [
          | inl d ↦ inr (inl d)
          | inr j ↦ elim j [
            | inl d ↦ inr (inr (inl d))
            | inr o ↦ elim (subst (In q) pages_is ((owns q).0 o))
                [ inl d ↦ inl d | inr z ↦ absurd z ]
          ]
        ]),
        (λ i. (now_is q).1 (elim i [
          | inl d ↦ inr (inr (subst owned (sym d) root_owned))
          | inr j ↦ elim j [
            | inl d ↦ inl d
            | inr k ↦ elim k [ inl d ↦ inr (inl d) | inr z ↦ absurd z ]
          ]
        ])),
      );
      put = subst (λ (t : BplusTree). IsPutIn e (entries t) (ls ++ rs)) (sym is) w.put;
    }

-- An inner root goes to two pages and becomes the page above them: the search goes on below it.
pub root_split : (at new : ℕ → List ℕ) (owned now : ℕ → Type 0) (root : ℕ) (key : List ℕ)
    (old : BplusTree) (f : ℕ) (bs ls : List Branch)
    (s : List ℕ) (c : ℕ) (rs : List Branch) (f1 f2 : ℕ) → bs ≡ ls ++ branch s c ∷ rs
    → ShowsInner (at root) f bs → (owned f1 → ⊥) → (owned f2 → ⊥) → f1 ≢ f2
    → ((q : ℕ) → (now q → (q ≡ f1) ⊎ (q ≡ f2) ⊎ owned q) × ((q ≡ f1) ⊎ (q ≡ f2) ⊎ owned q → now q))
    → ((q : ℕ) → owned q → q ≢ root → new q ≡ at q)
    → ShowsInner (new root) f1 (branch s f2 ∷ []) → ShowsInner (new f1) f ls
    → ShowsInner (new f2) c rs
    → IsWhole at root old → Owns owned old
    → IsAtHand new now root (child_for f1 (branch s f2 ∷ []) key) key old 1
root_split at new owned now root key old f bs ls s c rs f1 f2 cut shows free1 free2 other now_is
    elsewhere new_root new_1 new_2 whole owns =
    let m = node_at at f bs old (subst (λ q. ShowsInner (at q) f bs) (sym whole.root_is) shows)
    whole.stands in
    let is : old ≡ node root m.kids = m.is ∙ ap (λ q. node q m.kids) whole.root_is in
    let stands : Stands at (node root m.kids) = subst (Stands at) is whole.stands in
    let ordered : Ordered (node root m.kids) = subst Ordered is whole.ordered in
    let apart : Apart (node root m.kids) = subst Apart is whole.apart in
    let entries_is : entries old ≡ kids_entries m.kids = ap entries is in
    let pages_is : pages old ≡ root ∷ kids_pages m.kids = ap pages is in
    let root_owned : owned root = (owns root).1 (subst (In root) (sym pages_is) (inl refl)) in
    let kid_owned : (q : ℕ) → In q (kids_pages m.kids)
    → owned q = λ q i. (owns q).1 (subst (In q) (sym pages_is) (inr i)) in
    let hv = halves at new m.kids ls s c rs f1 f2 (m.branches_are ∙ cut) stands.1 ordered apart.1
    (λ i. free1 (kid_owned f1 i))
    (λ i. free2 (kid_owned f2 i)) (λ e. other (sym e))
    (λ q i. elsewhere q (kid_owned q i) (λ e. apart.0 (subst (λ y. In y (kids_pages m.kids)) e i)))
    (subst (λ g. ShowsInner (new f1) g ls) (sym m.first_is) new_1) new_2 in
    let kids : BplusKids = more hv.l s (last hv.r) in
    let tree : BplusTree = node root kids in
    let root_shows : ShowsInner (new root) (page_of hv.l) (branch s (page_of hv.r) ∷ []) =
    subst (λ g. ShowsInner (new root) g (branch s (page_of hv.r) ∷ [])) (sym hv.l_page)
    (subst (λ g. ShowsInner (new root) f1 (branch s g ∷ [])) (sym hv.r_page) new_root) in
    let w : IsWhole new root tree = record {
      root_is = refl;
      stands = (root_shows, (hv.l_stands, hv.r_stands));
      ordered = (hv.l_ordered, hv.l_filled, hv.below, hv.above, (hv.r_ordered, hv.r_filled));
      apart = (
        (λ i. elim (in_cases root (pages hv.l) (pages hv.r) i) [
          | inl a ↦ elim (hv.l_pages root a)
              [ inl e ↦ free1 (subst owned e root_owned) | inr j ↦ apart.0 j ]
          | inr a ↦ elim (hv.r_pages root a)
              [ inl e ↦ free2 (subst owned e root_owned) | inr j ↦ apart.0 j ]
        ]),
        (hv.l_apart, hv.alone, hv.r_apart),
      );
    } in
    let o : Owns now tree = λ q. (
      (λ i. elim ((now_is q).0 i) [
        | inl e ↦ inr (in_left q (pages hv.l) (pages hv.r)
            (subst (λ y. In y (pages hv.l)) (hv.l_page ∙ sym e) (top_in hv.l)))
        | inr j ↦ elim j [
          | inl e ↦ inr (in_right q (pages hv.l) (pages hv.r)
              (subst (λ y. In y (pages hv.r)) (hv.r_page ∙ sym e) (top_in hv.r)))
          | inr k ↦ elim (subst (In q) pages_is ((owns q).0 k)) [
            | inl e ↦ inl e
            | inr d ↦ inr
                (elim (hv.kids_in q d) [
                  | inl a ↦ in_left q (pages hv.l) (pages hv.r) a
                  | inr a ↦ in_right q (pages hv.l) (pages hv.r) a
                ])
          ]
        ]
      ]),
      (λ i. (now_is q).1 (elim i [
        | inl e ↦ inr (inr (subst owned (sym e) root_owned))
        | inr j ↦ elim (in_cases q (pages hv.l) (pages hv.r) j) [
          | inl a ↦ elim (hv.l_pages q a) [ inl e ↦ inl e | inr d ↦ inr (inr (kid_owned q d)) ]
          | inr a ↦ elim (hv.r_pages q a)
              [ inl e ↦ inr (inl e) | inr d ↦ inr (inr (kid_owned q d)) ]
        ]
      ])),
    ) in
    let h = at_root new now root key tree w o in
    let same : (x : Entry) → (In x (entries old) → In x (entries tree))
    × (In x (entries tree) → In x (entries old)) = λ x. (
      (λ i. elim ((hv.entries_are x).0 (subst (In x) entries_is i)) [
        | inl a ↦ in_left x (entries hv.l) (entries hv.r) a
        | inr a ↦ in_right x (entries hv.l) (entries hv.r) a
      ]),
      (λ i. subst (In x) (sym entries_is)
          ((hv.entries_are x).1 (in_cases x (entries hv.l) (entries hv.r) i))),
    ) in
    let g : IsAtHand new now root root key old 0 = record {
      lo = h.lo;
      hi = h.hi;
      rest = h.rest;
      others = h.others;
      subtree = h.subtree;
      hole = h.hole;
      fits = h.fits;
      from = h.from;
      to = h.to;
      entries_are = λ x. (
        (λ i. (h.entries_are x).0 ((same x).0 i)),
        (λ i. (same x).1 ((h.entries_are x).1 i)),
      );
      owns = h.owns;
      path = h.path;
      path_is = h.path_is;
      unique = h.unique;
      path_in = h.path_in;
    } in
    (descend new now root root key old f1 (branch s f2 ∷ []) new_root g).0
