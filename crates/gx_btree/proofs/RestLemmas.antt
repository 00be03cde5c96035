-- The parts of a tree that are yet to be visited, and what is left when the next one is visited.
use Rattle.std.proofs.Common.{◌≡◌, ◌≢◌, ◌⊎◌, ◌↔◌, inl, inr, ℕ, ◌+◌, ◌<◌, Bool, true, List, [], ◌∷◌, ◌++◌, map, length, slice_set, Option, Some, None, refl, sym, ap, ap₂, ◌∙◌, subst, arith, append-nil, append_assoc}
use Rattle.std.specs.Prelude.{slice_get}
use Rattle.std.specs.FinMap as fin
use Rattle.std.specs.Cmp.Lexicographic.{nat_list_cmp_total}
use Rattle.std.proofs.lemmas.Bool.{cases_eq}
use Rattle.gx_ports.specs.declared.pages.Place.{Place}
use Rattle.gx_ports.specs.LeafMaps.{LeafMap}
use Rattle.gx_ports.specs.Sheets.{Sheets, Ground, IsPast, bytes_at}
use Rattle.gx_slots.specs.Entries.{Entry}
use Rattle.gx_slots.specs.Page.{entries_of}
use Rattle.gx_bnode.specs.Branches.{Branch}
use Rattle.gx_bnode.specs.Page as bnode
use Rattle.gx_btree.specs.declared.checking.Part.{Part}
use Rattle.gx_btree.specs.declared.reading.Shape.{Shape}
use Rattle.gx_btree.specs.declared.reading.Shape.TheVariants as shapes
use Rattle.gx_btree.specs.Bplus.{IsBplus, IsOwned, Shows}
use Rattle.gx_btree.specs.Checking.{root_part, child_parts, low_of, IsAtPart, AreAtParts, pages_of, AreLeft, HasRest, IsInside, parts_behind, high_behind}
use Rattle.gx_btree.specs.Hole.{AreUnique}
use Rattle.gx_btree.specs.Order.{IsUpTo, IsUnder}
use Rattle.gx_btree.specs.Tree.{In, BplusTree, BplusKids, leaf, node, last, more, page_of, first_of, branches_of, entries, kids_entries, pages, kids_pages, Stands, AllStand, ShowsEntries, ShowsInner, Ordered, AreOrdered, IsFilled, Apart, AreApart}
use Rattle.gx_btree.proofs.BoundLemmas.{few}
use Rattle.gx_btree.proofs.EntryLemmas.{shows_entries, entries_up, shows_inner}
use Rattle.gx_btree.proofs.KidLemmas.{some_key}
use Rattle.gx_btree.proofs.MemberLemmas.{in_left, in_right, in_cases}
use Rattle.gx_btree.proofs.OrderLemmas.{nothing_up_to, below_is_up_to, up_to_below, below_up_to, under_below}
use Rattle.gx_btree.proofs.PageLemmas.{one_list, one_inner, one_kind}
use Rattle.gx_btree.proofs.SelectLemmas.{pair, at, tree_up, found_in, in_found}
use Rattle.gx_btree.proofs.SheetLemmas.{get_set_other, get_set_same}
use Rattle.gx_btree.proofs.StepLemmas.{top_in}

-- ---- lists without an item twice

module _ (p : ℕ) where
  pub in_more : (xs ys : List ℕ) (q : ℕ) → In q (xs ++ ys) → In q (xs ++ p ∷ ys)
  in_more xs ys q i = elim (in_cases q xs ys i)
      [ inl a ↦ in_left q xs (p ∷ ys) a | inr b ↦ in_right q xs (p ∷ ys) (inr b) ]

  pub in_less : (xs ys : List ℕ) (q : ℕ) → In q (xs ++ p ∷ ys) → (q ≡ p) ⊎ In q (xs ++ ys)
  in_less xs ys q i = elim (in_cases q xs (p ∷ ys) i) [
    | inl a ↦ inr (in_left q xs ys a)
    | inr b ↦ elim b [ inl e ↦ inl e | inr c ↦ inr (in_right q xs ys c) ]
  ]

  pub in_here : (xs ys : List ℕ) → In p (xs ++ p ∷ ys)
  in_here xs ys = in_right p xs (p ∷ ys) (inl refl)

  unique_less : (xs ys : List ℕ) → AreUnique (xs ++ p ∷ ys)
      → AreUnique (xs ++ ys) × (In p (xs ++ ys) → ⊥)
  unique_less [] ys u = (u.1, u.0)
  unique_less (x ∷ xs) ys u =
      let h = unique_less xs ys u.1 in (
        ((λ i. u.0 (in_more xs ys x i)), h.0),
        λ i. elim i [
          | inl e ↦ u.0 (subst (λ z. In z (xs ++ p ∷ ys)) e (in_here xs ys))
          | inr j ↦ h.1 j
        ],
      )

  unique_more : (xs ys : List ℕ) → AreUnique (xs ++ ys) → (In p (xs ++ ys) → ⊥)
      → AreUnique (xs ++ p ∷ ys)
  unique_more [] ys u out = (out, u)
  unique_more (x ∷ xs) ys u out = (
    (λ i. elim (in_less xs ys x i) [ inl e ↦ out (inl (sym e)) | inr j ↦ u.0 j ]),
    unique_more xs ys u.1 (λ i. out (inr i)),
  )

unique_left : (xs ys : List ℕ) → AreUnique (xs ++ ys) → AreUnique xs
unique_left [] ys u = tt
unique_left (x ∷ xs) ys u = ((λ i. u.0 (in_left x xs ys i)), unique_left xs ys u.1)

unique_right : (xs ys : List ℕ) → AreUnique (xs ++ ys) → AreUnique ys
unique_right [] ys u = u
unique_right (x ∷ xs) ys u = unique_right xs ys u.1

unique_apart : (xs ys : List ℕ) → AreUnique (xs ++ ys) → (q : ℕ) → In q xs → In q ys → ⊥
unique_apart [] ys u q i j = i
unique_apart (x ∷ xs) ys u q i j = elim i [
  | inl e ↦ u.0 (in_right x xs ys (subst (λ z. In z ys) e j))
  | inr k ↦ unique_apart xs ys u.1 q k j
]

unique_both : (xs ys : List ℕ) → AreUnique xs → AreUnique ys → ((q : ℕ) → In q xs → In q ys → ⊥)
    → AreUnique (xs ++ ys)
unique_both [] ys u v d = v
unique_both (x ∷ xs) ys u v d = (
  (λ i. elim (in_cases x xs ys i) [ inl a ↦ u.0 a | inr b ↦ d x (inl refl) b ]),
  unique_both xs ys u.1 v (λ q i j. d q (inr i) j),
)

mutual
  tree_unique : (t : BplusTree) → Apart t → AreUnique (pages t)
  tree_unique (leaf p es) a = ((λ i. i), tt)
  tree_unique (node p kids) a = (a.0, kids_unique kids a.1)

  kids_unique : (kids : BplusKids) → AreApart kids → AreUnique (kids_pages kids)
  kids_unique (last t) a = tree_unique t a
  kids_unique (more t s kids) a =
      unique_both (pages t) (kids_pages kids) (tree_unique t a.0) (kids_unique kids a.2) a.1

mutual
  tree_apart : (t : BplusTree) → AreUnique (pages t) → Apart t
  tree_apart (leaf p es) u = tt
  tree_apart (node p kids) u = (u.0, kids_apart kids u.1)

  kids_apart : (kids : BplusKids) → AreUnique (kids_pages kids) → AreApart kids
  kids_apart (last t) u = tree_apart t u
  kids_apart (more t s kids) u = (
    tree_apart t (unique_left (pages t) (kids_pages kids) u),
    unique_apart (pages t) (kids_pages kids) u,
    kids_apart kids (unique_right (pages t) (kids_pages kids) u),
  )

-- ---- a page is seen

module _ (ground : Ground) (owner : ℕ) (sheets : Sheets) (seen : List Bool) (p : ℕ) (xs ys : List ℕ)
    (below : p < length seen) where
  marked_here : slice_get (slice_set seen p true) p ≡ Some true
  marked_here = get_set_same seen p true below

  marked_other : (q : ℕ) → q ≢ p → slice_get (slice_set seen p true) q ≡ slice_get seen q
  marked_other q d = get_set_other seen p q true d

  pub left_less : AreLeft ground owner sheets seen (xs ++ p ∷ ys)
      → AreLeft ground owner sheets (slice_set seen p true) (xs ++ ys)
  left_less l =
      let u = unique_less p xs ys l.unique in
      record {
        unique = u.0;
        unseen = λ q i is. l.unseen q (in_more p xs ys q i)
            (sym (marked_other q (λ e. u.1 (subst (λ z. In z (xs ++ ys)) e i))) ∙ is);
        owned = λ q i. l.owned q (in_more p xs ys q i);
        past = λ q i. l.past q (in_more p xs ys q i);
        all = λ q o. elim (cases_eq q p) [
          | inl e ↦ inl (ap (slice_get (slice_set seen p true)) e ∙ marked_here)
          | inr d ↦ elim (l.all q o) [
            | inl is ↦ inl (marked_other q d ∙ is)
            | inr i ↦ elim (in_less p xs ys q i) [ inl e ↦ absurd (d e) | inr j ↦ inr j ]
          ]
        ];
      }

  pub left_more : IsOwned owner sheets p → IsPast ground p → slice_get seen p ≢ Some true
      → AreLeft ground owner sheets (slice_set seen p true) (xs ++ ys)
      → AreLeft ground owner sheets seen (xs ++ p ∷ ys)
  left_more owned past unseen l =
      let out : In p (xs ++ ys) → ⊥ = λ i. l.unseen p i marked_here in
      record {
        unique = unique_more p xs ys l.unique out;
        unseen = λ q i is. elim (in_less p xs ys q i) [
          | inl e ↦ unseen (ap (slice_get seen) (sym e) ∙ is)
          | inr j ↦ l.unseen q j (marked_other q (λ e. out (subst (λ z. In z (xs ++ ys)) e j)) ∙ is)
        ];
        owned = λ q i. elim (in_less p xs ys q i)
            [ inl e ↦ subst (IsOwned owner sheets) (sym e) owned | inr j ↦ l.owned q j ];
        past = λ q i. elim (in_less p xs ys q i)
            [ inl e ↦ subst (IsPast ground) (sym e) past | inr j ↦ l.past q j ];
        all = λ q o. elim (cases_eq q p) [
          | inl e ↦ inr (subst (λ z. In z (xs ++ p ∷ ys)) (sym e) (in_here p xs ys))
          | inr d ↦ elim (l.all q o)
              [ inl is ↦ inl (sym (marked_other q d) ∙ is) | inr i ↦ inr (in_more p xs ys q i) ]
        ];
      }

-- ---- trees at parts

pub pages_append : (us vs : List BplusTree) → pages_of (us ++ vs) ≡ pages_of us ++ pages_of vs
pages_append [] vs = refl
pages_append (t ∷ us) vs =
    ap (λ ps. pages t ++ ps) (pages_append us vs)
    ∙ sym (append_assoc (pages t) (pages_of us) (pages_of vs))

low_append : (parts others : List Part) (high : Option (List ℕ))
    → low_of (parts ++ others) high ≡ low_of parts (low_of others high)
low_append [] others high = refl
low_append (p ∷ parts) others high = refl

-- trees at some parts and at those behind them
pub record AreBoth (p : ℕ → List ℕ) (parts others : List Part) (high : Option (List ℕ))
    (ts : List BplusTree) : Type 0 where
  pub before : List BplusTree
  pub behind : List BplusTree
  pub are : ts ≡ before ++ behind
  pub stand_before : AreAtParts p parts (low_of others high) before
  pub stand_behind : AreAtParts p others high behind

both_at : (p : ℕ → List ℕ) (parts others : List Part) (high : Option (List ℕ)) (ts : List BplusTree)
    → AreAtParts p (parts ++ others) high ts → AreBoth p parts others high ts
both_at p [] others high ts a =
    record { before = []; behind = ts; are = refl; stand_before = tt; stand_behind = a }
both_at p (w ∷ parts) others high [] a = absurd a
both_at p (w ∷ parts) others high (t ∷ ts) a =
    let h = both_at p parts others high ts a.1 in
    record {
      before = t ∷ h.before;
      behind = h.behind;
      are = ap (λ us. t ∷ us) h.are;
      stand_before =
          (subst (λ b. IsAtPart p w b t) (low_append parts others high) a.0, h.stand_before);
      stand_behind = h.stand_behind;
    }

at_both : (p : ℕ → List ℕ) (parts others : List Part) (high : Option (List ℕ))
    (us vs : List BplusTree)
    → AreAtParts p parts (low_of others high) us → AreAtParts p others high vs
    → AreAtParts p (parts ++ others) high (us ++ vs)
at_both p [] others high [] vs a b = b
at_both p [] others high (u ∷ us) vs a b = absurd a
at_both p (w ∷ parts) others high [] vs a b = absurd a
at_both p (w ∷ parts) others high (u ∷ us) vs a b = (
  subst (λ x. IsAtPart p w x u) (sym (low_append parts others high)) a.0,
  at_both p parts others high us vs a.1 b,
)

one_at : (p : ℕ → List ℕ) (part : Part) (high : Option (List ℕ)) (ts : List BplusTree)
    → AreAtParts p (part ∷ []) high ts → (t : BplusTree) × (ts ≡ t ∷ []) × IsAtPart p part high t
one_at p part high [] a = absurd a
one_at p part high (t ∷ []) a = (t, refl, a.0)
one_at p part high (t ∷ u ∷ ts) a = absurd a.1

-- ---- the children of a page as parts

abbrev kid_list : BplusKids → List BplusTree
kid_list (last t) = t ∷ []
kid_list (more t s kids) = t ∷ kid_list kids

kid_pages : (kids : BplusKids) → pages_of (kid_list kids) ≡ kids_pages kids
kid_pages (last t) = append-nil (pages t)
kid_pages (more t s kids) = ap (λ ps. pages t ++ ps) (kid_pages kids)

kids_at : (p : ℕ → List ℕ) (above : ℕ) (low : List ℕ) (high : Option (List ℕ)) (kids : BplusKids)
    → AllStand p kids → AreOrdered kids
    → ((x : Entry) → In x (kids_entries kids) → IsUpTo low x.key × IsUnder x.key high)
    → AreAtParts p (child_parts above low (first_of kids) (branches_of kids)) high (kid_list kids)
kids_at p above low high (last t) stand ordered bounds = (
  record {
    page_is = refl;
    stands = stand;
    ordered = ordered.0;
    filled = λ _. ordered.1;
    bounds = bounds;
  },
  tt,
)
kids_at p above low high (more t s kids) stand ordered bounds = (
  record {
    page_is = refl;
    stands = stand.0;
    ordered = ordered.0;
    filled = λ _. ordered.1;
    bounds = λ x i. ((bounds x (in_left x (entries t) (kids_entries kids) i)).0, ordered.2 x i);
  },
  kids_at p above s high kids stand.1 ordered.4
      (λ x i. (ordered.3 x i, (bounds x (in_right x (entries t) (kids_entries kids) i)).1)),
)

-- trees that are children of one page
pub record AreKids (p : ℕ → List ℕ) (low : List ℕ) (high : Option (List ℕ)) (first : ℕ)
    (bs : List Branch) (ts : List BplusTree) : Type 0 where
  pub kids : BplusKids
  pub first_is : first_of kids ≡ first
  pub branches_are : branches_of kids ≡ bs
  pub stand : AllStand p kids
  pub ordered : AreOrdered kids
  pub bounds : (x : Entry) → In x (kids_entries kids) → IsUpTo low x.key × IsUnder x.key high
  pub pages_are : pages_of ts ≡ kids_pages kids

at_kids : (p : ℕ → List ℕ) (above : ℕ) (low : List ℕ) (high : Option (List ℕ)) (first : ℕ)
    (bs : List Branch) (ts : List BplusTree) → AreAtParts p (child_parts above low first bs) high ts
    → (In above (pages_of ts) → ⊥) → AreKids p low high first bs ts
at_kids p above low high first bs [] a out = absurd a
at_kids p above low high first [] (t ∷ u ∷ ts) a out = absurd a.1
at_kids p above low high first [] (t ∷ []) a out =
    let h = a.0 in
    let filled : IsFilled t = h.filled
    (λ e. out (in_left above (pages t) []
    (subst (λ q. In q (pages t)) (h.page_is ∙ sym e) (top_in t)))) in
    record {
      kids = last t;
      first_is = h.page_is;
      branches_are = refl;
      stand = h.stands;
      ordered = (h.ordered, filled);
      bounds = h.bounds;
      pages_are = append-nil (pages t);
    }
at_kids p above low high first (b ∷ bs) (t ∷ ts) a out =
    let h = a.0 in
    let filled : IsFilled t = h.filled
    (λ e. out (in_left above (pages t) (pages_of ts)
    (subst (λ q. In q (pages t)) (h.page_is ∙ sym e) (top_in t)))) in
    let k = at_kids p above b.separator high b.child bs ts a.1
    (λ i. out (in_right above (pages t) (pages_of ts) i)) in
    let some = some_key k.kids k.ordered in
    record {
      kids = more t b.separator k.kids;
      first_is = h.page_is;
      branches_are = ap₂
          (λ (n : ℕ) (cs : List Branch). record { separator = b.separator; child = n } ∷ cs)
          k.first_is k.branches_are;
      stand = (h.stands, k.stand);
      ordered =
          (h.ordered, filled, (λ x i. (h.bounds x i).1), (λ x i. (k.bounds x i).0), k.ordered);
      bounds = λ x i. elim (in_cases x (entries t) (kids_entries k.kids) i) [
        | inl j ↦ (
          (h.bounds x j).0,
          under_below x.key some.0.key high
              (below_up_to x.key b.separator some.0.key (h.bounds x j).1 (k.bounds some.0 some.1).0)
              (k.bounds some.0 some.1).1,
        )
        | inr j ↦ (
          below_is_up_to low x.key
              (below_up_to low b.separator x.key
              (up_to_below low filled.0.key b.separator (h.bounds filled.0 filled.1).0
              (h.bounds filled.0 filled.1).1) (k.bounds x j).0),
          (k.bounds x j).1,
        )
      ];
      pages_are = ap (λ ps. pages t ++ ps) k.pages_are;
    }

-- ---- the next part is visited

leaf_at : (p : ℕ → List ℕ) (t : BplusTree) (q : ℕ) (es : List Entry) → page_of t ≡ q
    → ShowsEntries (p q) es → Stands p t → t ≡ leaf q es
leaf_at p (leaf r old) q es is shows stands =
    ap₂ leaf is (one_list (p r) old es stands (subst (λ n. ShowsEntries (p n) es) (sym is) shows))
leaf_at p (node r kids) q es is shows stands =
    absurd (one_kind (p r) es (first_of kids) (branches_of kids)
    (subst (λ n. ShowsEntries (p n) es) (sym is) shows) stands.0)

node_at : (p : ℕ → List ℕ) (t : BplusTree) (q first : ℕ) (bs : List Branch) → page_of t ≡ q
    → ShowsInner (p q) first bs → Stands p t
    → (kids : BplusKids) × (t ≡ node q kids) × (first_of kids ≡ first) × (branches_of kids ≡ bs)
node_at p (leaf r es) q first bs is shows stands =
    absurd
    (one_kind (p r) es first bs stands (subst (λ n. ShowsInner (p n) first bs) (sym is) shows))
node_at p (node r kids) q first bs is shows stands =
    let o = one_inner (p r) (first_of kids) first (branches_of kids) bs stands.0
    (subst (λ n. ShowsInner (p n) first bs) (sym is) shows) in
    (kids, ap (λ n. node n kids) is, o.0, o.1)

module _ (ground : Ground) (owner : ℕ) (sheets : Sheets) (parts : List Part) (part : Part)
    (high : Option (List ℕ)) (seen : List Bool) (below : part.page < length seen) where
  abbrev p : ℕ → List ℕ
  p = bytes_at sheets

  abbrev marks : List Bool
  marks = slice_set seen part.page true

  abbrev Rest : Type 0
  Rest = HasRest ground owner sheets (parts ++ part ∷ []) high seen

  abbrev Behind : Shape → List ℕ → Type 0
  Behind shape bytes =
      HasRest ground owner sheets (parts_behind shape bytes part parts)
      (high_behind shape part high) marks

  -- what holds of its page
  pub record IsNextPage (shape : Shape) (bytes : List ℕ) : Type 0 where
    pub owned : IsOwned owner sheets part.page
    pub past : IsPast ground part.page
    pub unseen : slice_get seen part.page ≢ Some true
    pub inside : IsInside shape bytes part high

  entries_next : (bytes : List ℕ) → p part.page ≡ bytes → Shows shapes.Entries bytes → Rest
      → IsNextPage shapes.Entries bytes × Behind shapes.Entries bytes
  entries_next bytes is shown rest =
      let b = both_at p parts (part ∷ []) high rest.trees rest.stand in
      let o = one_at p part high b.behind b.stand_behind in
      let es = entries_of bytes in
      let shows : ShowsEntries (p part.page) es =
      subst (λ x. ShowsEntries x es) (sym is) (shows_entries bytes shown) in
      let tree : o.0 ≡ leaf part.page es =
      leaf_at p o.0 part.page es o.2.page_is shows o.2.stands in
      let own : entries o.0 ≡ es = ap entries tree in
      let pages_are : pages_of rest.trees ≡ pages_of b.before ++ part.page ∷ [] =
      ap pages_of (b.are ∙ ap (λ ts. b.before ++ ts) (o.1 ∙ ap (λ t. t ∷ []) tree))
      ∙ pages_append b.before (leaf part.page es ∷ []) in
      let left = subst (AreLeft ground owner sheets seen) pages_are rest.left in
      let here = in_here part.page (pages_of b.before) [] in (
        record {
          owned = left.owned part.page here;
          past = left.past part.page here;
          unseen = left.unseen part.page here;
          inside = (
            (λ d. let f = o.2.filled d in (f.0, subst (In f.0) own f.1)),
            (λ x i. o.2.bounds x (subst (In x) (sym own) i)),
          );
        },
        record {
          trees = b.before;
          stand = b.stand_before;
          left = subst (AreLeft ground owner sheets marks) (append-nil (pages_of b.before))
              (left_less ground owner sheets seen part.page (pages_of b.before) [] below left);
        },
      )

  next_entries : (bytes : List ℕ) → p part.page ≡ bytes → Shows shapes.Entries bytes
      → IsNextPage shapes.Entries bytes → Behind shapes.Entries bytes → Rest
  next_entries bytes is shown next rest =
      let es = entries_of bytes in
      let shows : ShowsEntries (p part.page) es =
      subst (λ x. ShowsEntries x es) (sym is) (shows_entries bytes shown) in
      record {
        trees = rest.trees ++ leaf part.page es ∷ [];
        stand = at_both p parts (part ∷ []) high rest.trees (leaf part.page es ∷ []) rest.stand (
          record {
            page_is = refl;
            stands = shows;
            ordered = entries_up bytes shown;
            filled = next.inside.0;
            bounds = next.inside.1;
          },
          tt,
        );
        left =
            subst (AreLeft ground owner sheets seen)
            (sym (pages_append rest.trees (leaf part.page es ∷ [])))
            (left_more ground owner sheets seen part.page (pages_of rest.trees) [] below next.owned
            next.past next.unseen
            (subst (AreLeft ground owner sheets marks) (sym (append-nil (pages_of rest.trees)))
            rest.left));
      }

  inner_next : (bytes : List ℕ) → p part.page ≡ bytes → Shows shapes.Inner bytes → Rest
      → IsNextPage shapes.Inner bytes × Behind shapes.Inner bytes
  inner_next bytes is shown rest =
      let b = both_at p parts (part ∷ []) high rest.trees rest.stand in
      let o = one_at p part high b.behind b.stand_behind in
      let first = bnode.first_of bytes in
      let bs = bnode.branches_of bytes in
      let shows : ShowsInner (p part.page) first bs =
      subst (λ x. ShowsInner x first bs) (sym is) (shows_inner bytes shown) in
      let n = node_at p o.0 part.page first bs o.2.page_is shows o.2.stands in
      let kids = n.0 in
      let stands : Stands p (node part.page kids) = subst (Stands p) n.1 o.2.stands in
      let ordered : AreOrdered kids = subst Ordered n.1 o.2.ordered in
      let own : entries o.0 ≡ kids_entries kids = ap entries n.1 in
      let stand : AreAtParts p (child_parts part.page part.low first bs) high (kid_list kids) =
      subst (λ f. AreAtParts p (child_parts part.page part.low f bs) high (kid_list kids)) n.2
      (subst (λ cs. AreAtParts p (child_parts part.page part.low (first_of kids) cs) high
      (kid_list kids)) n.3
      (kids_at p part.page part.low high kids stands.1 ordered
      (λ x i. o.2.bounds x (subst (In x) (sym own) i)))) in
      let pages_are : pages_of rest.trees ≡ pages_of b.before ++ part.page ∷ kids_pages kids =
      ap pages_of (b.are ∙ ap (λ ts. b.before ++ ts) (o.1 ∙ ap (λ t. t ∷ []) n.1))
      ∙ pages_append b.before (node part.page kids ∷ [])
      ∙ ap (λ ps. pages_of b.before ++ part.page ∷ ps) (append-nil (kids_pages kids)) in
      let left = subst (AreLeft ground owner sheets seen) pages_are rest.left in
      let here = in_here part.page (pages_of b.before) (kids_pages kids) in (
        record {
          owned = left.owned part.page here;
          past = left.past part.page here;
          unseen = left.unseen part.page here;
          inside = tt;
        },
        record {
          trees = b.before ++ kid_list kids;
          stand = at_both p parts (child_parts part.page part.low first bs) high b.before
              (kid_list kids) b.stand_before stand;
          left =
              subst (AreLeft ground owner sheets marks) (ap (λ ps. pages_of b.before ++ ps)
              (sym (kid_pages kids)) ∙ sym (pages_append b.before (kid_list kids)))
              (left_less ground owner sheets seen part.page (pages_of b.before)
              (kids_pages kids) below left);
        },
      )

  next_inner : (bytes : List ℕ) → p part.page ≡ bytes → Shows shapes.Inner bytes
      → IsNextPage shapes.Inner bytes → Behind shapes.Inner bytes → Rest
  next_inner bytes is shown next rest =
      let first = bnode.first_of bytes in
      let bs = bnode.branches_of bytes in
      let shows : ShowsInner (p part.page) first bs =
      subst (λ x. ShowsInner x first bs) (sym is) (shows_inner bytes shown) in
      let b =
      both_at p parts (child_parts part.page part.low first bs) high rest.trees rest.stand in
      let pages_are : pages_of rest.trees ≡ pages_of b.before ++ pages_of b.behind =
      ap pages_of b.are ∙ pages_append b.before b.behind in
      let marked = get_set_same seen part.page true below in
      let out : In part.page (pages_of b.behind) → ⊥ = λ i. rest.left.unseen part.page
      (subst (In part.page) (sym pages_are)
      (in_right part.page (pages_of b.before) (pages_of b.behind) i)) marked in
      let k = at_kids p part.page part.low high first bs b.behind b.stand_behind out in
      let tree = node part.page k.kids in
      let at_page : ShowsInner (p part.page) (first_of k.kids) (branches_of k.kids) =
      subst (λ f. ShowsInner (p part.page) f (branches_of k.kids)) (sym k.first_is)
      (subst (ShowsInner (p part.page) first) (sym k.branches_are) shows) in
      record {
        trees = b.before ++ tree ∷ [];
        stand = at_both p parts (part ∷ []) high b.before (tree ∷ []) b.stand_before (
          record {
            page_is = refl;
            stands = (at_page, k.stand);
            ordered = k.ordered;
            filled = λ _. some_key k.kids k.ordered;
            bounds = k.bounds;
          },
          tt,
        );
        left = subst (AreLeft ground owner sheets seen)
            (ap (λ ps. pages_of b.before ++ part.page ∷ ps) (sym (append-nil (kids_pages k.kids)))
            ∙ sym (pages_append b.before (tree ∷ [])))
            (left_more ground owner sheets seen part.page (pages_of b.before)
            (kids_pages k.kids) below next.owned next.past next.unseen
            (subst (AreLeft ground owner sheets marks)
            (pages_are ∙ ap (λ ps. pages_of b.before ++ ps) k.pages_are) rest.left));
      }

  pub to_behind : (shape : Shape) (bytes : List ℕ) → p part.page ≡ bytes → Shows shape bytes → Rest
      → IsNextPage shape bytes × Behind shape bytes
  to_behind shapes.Entries bytes is shown rest = entries_next bytes is shown rest
  to_behind shapes.Inner bytes is shown rest = inner_next bytes is shown rest

  pub from_behind : (shape : Shape) (bytes : List ℕ) → p part.page ≡ bytes → Shows shape bytes
      → IsNextPage shape bytes → Behind shape bytes → Rest
  from_behind shapes.Entries bytes is shown next rest = next_entries bytes is shown next rest
  from_behind shapes.Inner bytes is shown next rest = next_inner bytes is shown next rest

-- ---- the first part and the last one

-- the map of some entries
abbrev map_of : List Entry → LeafMap
map_of es = fin.from_entries (map pair es)

map_found : (t : BplusTree) → Ordered t → (k b : List ℕ)
    → (fin.get (map_of (entries t)) k ≡ Some b) ↔ In (at k b) (entries t)
map_found t ordered k b =
    let get = fin.get-from_entries nat_list_cmp_total (map pair (entries t)) k in (
      (λ is. found_in (entries t) k b (sym get ∙ is)),
      (λ i. get ∙ in_found (entries t) k b (tree_up t ordered) i),
    )

module _ (ground : Ground) (place : Place) (sheets : Sheets) (seen : List Bool)
    (none : (q : ℕ) → slice_get seen q ≢ Some true) where
  pub whole_rest : (m : LeafMap) → IsBplus ground place sheets m
      → HasRest ground place.owner sheets (root_part place.root ∷ []) None seen
  whole_rest m b =
      let ps = sym (append-nil (pages b.tree)) in
      record {
        trees = b.tree ∷ [];
        stand = (
          record {
            page_is = b.whole.root_is;
            stands = b.whole.stands;
            ordered = b.whole.ordered;
            filled = λ d. absurd (d refl);
            bounds = λ x i. (nothing_up_to x.key, tt);
          },
          tt,
        );
        left = subst (AreLeft ground place.owner sheets seen) ps (record {
          unique = tree_unique b.tree b.whole.apart;
          unseen = λ q i. none q;
          owned = λ q i. (b.owned q).1 i;
          past = b.past;
          all = λ q o. inr ((b.owned q).0 o);
        });
      }

  pub rest_whole : HasRest ground place.owner sheets (root_part place.root ∷ []) None seen
      → (m : LeafMap) × IsBplus ground place sheets m
  rest_whole rest =
      let o = one_at (bytes_at sheets) (root_part place.root) None rest.trees rest.stand in
      let t = o.0 in
      let left = subst (AreLeft ground place.owner sheets seen) (ap pages_of o.1
      ∙ append-nil (pages t)) rest.left in (
        map_of (entries t),
        record {
          tree = t;
          whole = record {
            root_is = o.2.page_is;
            stands = o.2.stands;
            ordered = o.2.ordered;
            apart = tree_apart t left.unique;
          };
          past = left.past;
          owned = λ q. (
            (λ i. elim (left.all q i) [ inl is ↦ absurd (none q is) | inr j ↦ j ]),
            left.owned q,
          );
          map_is = map_found t o.2.ordered;
        },
      )

no_trees : (p : ℕ → List ℕ) (high : Option (List ℕ)) (ts : List BplusTree) → AreAtParts p [] high ts
    → ts ≡ []
no_trees p high [] a = refl
no_trees p high (t ∷ ts) a = absurd a

module _ (ground : Ground) (owner : ℕ) (sheets : Sheets) (high : Option (List ℕ)) (seen : List Bool)
  where
    pub rest_seen : HasRest ground owner sheets [] high seen → (q : ℕ) → IsOwned owner sheets q
        → slice_get seen q ≡ Some true
    rest_seen rest q o = elim (rest.left.all q o) [
      | inl is ↦ is
      | inr i ↦ absurd (subst (λ (ts : List BplusTree). In q (pages_of ts))
          (no_trees (bytes_at sheets) high rest.trees rest.stand) i)
    ]

    pub seen_rest : ((q : ℕ) → IsOwned owner sheets q → slice_get seen q ≡ Some true)
        → HasRest ground owner sheets [] high seen
    seen_rest all = record {
      trees = [];
      stand = tt;
      left = record {
        unique = tt;
        unseen = λ q i. absurd i;
        owned = λ q i. absurd i;
        past = λ q i. absurd i;
        all = λ q o. inl (all q o);
      };
    }

-- ---- the visits end

-- a page of the owner that wasn't seen yet
first_left : (ground : Ground) (owner : ℕ) (sheets : Sheets) (part : Part) (parts : List Part)
    (high : Option (List ℕ)) (seen : List Bool)
    → HasRest ground owner sheets (part ∷ parts) high seen
    → (q : ℕ) × (q < ground.size) × (slice_get seen q ≢ Some true)
first_left ground owner sheets part parts high seen rest = go rest.trees rest.stand rest.left where
  go : (ts : List BplusTree) → AreAtParts (bytes_at sheets) (part ∷ parts) high ts
      → AreLeft ground owner sheets seen (pages_of ts)
      → (q : ℕ) × (q < ground.size) × (slice_get seen q ≢ Some true)
  go [] a l = absurd a
  go (t ∷ ts) a l = let i = in_left (page_of t) (pages t) (pages_of ts) (top_in t) in
      (page_of t, (l.past (page_of t) i).below, l.unseen (page_of t) i)

-- so many different pages were seen
pub record AreSeen (size : ℕ) (seen : List Bool) (steps : ℕ) : Type 0 where
  pub done : List ℕ
  pub unique : AreUnique done
  pub many : length done ≡ steps
  pub marked : (q : ℕ) → In q done → slice_get seen q ≡ Some true
  pub below : (q : ℕ) → In q done → q < size

pub seen_more : (size : ℕ) (seen : List Bool) (steps p : ℕ) → AreSeen size seen steps
    → slice_get seen p ≢ Some true → p < size → p < length seen
    → AreSeen size (slice_set seen p true) (steps + 1)
seen_more size seen steps p a unseen less within = record {
  done = p ∷ a.done;
  unique = ((λ i. unseen (a.marked p i)), a.unique);
  many = (let m = a.many in omega (arith, m));
  marked = λ q i. elim i [
    | inl e ↦ ap (slice_get (slice_set seen p true)) e ∙ get_set_same seen p true within
    | inr j ↦ get_set_other seen p q true (λ e. unseen (ap (slice_get seen) (sym e) ∙ a.marked q j))
        ∙ a.marked q j
  ];
  below = λ q i. elim i [ inl e ↦ omega (arith, e, less) | inr j ↦ a.below q j ];
}

pub seen_few : (ground : Ground) (owner : ℕ) (sheets : Sheets) (part : Part) (parts : List Part)
    (high : Option (List ℕ)) (seen : List Bool) (steps : ℕ) → AreSeen ground.size seen steps
    → HasRest ground owner sheets (part ∷ parts) high seen → steps < ground.size
seen_few ground owner sheets part parts high seen steps a rest =
    let f = first_left ground owner sheets part parts high seen rest in
    let few_pages = few ground.size (f.0 ∷ a.done) ((λ i. f.2 (a.marked f.0 i)), a.unique)
    (λ q i. elim i [ inl e ↦ (let b = f.1 in omega (arith, e, b)) | inr j ↦ a.below q j ]) in
    let m = a.many in
    omega (arith, few_pages, m)
