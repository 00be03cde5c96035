-- The children of a page around the one on the way to a key.
use Rattle.std.proofs.Common.{◌≡◌, inl, inr, ◌++◌, ◌∷◌, ℕ, List, [], Option, Some, true, false, refl, sym, ap, ◌∙◌, subst}
use Rattle.std.proofs.lemmas.Bool.{cases_Bool, cond-true, cond-false}
use Rattle.gx_slots.specs.Entries.{Entry}
use Rattle.gx_bnode.specs.Branches.{Branch}
use Rattle.gx_bnode.specs.Page.{separators_in}
use Rattle.gx_btree.specs.Order.{IsBelow, IsUpTo, is_below, IsUnder}
use Rattle.gx_btree.specs.Tree.{In, BplusTree, BplusKids, leaf, node, last, more, page_of, first_of, branches_of, entries, kids_entries, pages, kids_pages, Stands, AllStand, AreOrdered, AreApart, ShowsEntries, ShowsInner, child_for, bound_for}
use Rattle.gx_btree.specs.Hole.{IsFitting, Same, IsBefore, IsWithin, KidHole}
use Rattle.gx_btree.proofs.MemberLemmas.{in_left, in_right, in_cases, joins_none, joins_append, joins_more, joins_append_three, joins_more_left, joins_end}
use Rattle.gx_btree.proofs.OrderLemmas.{up_to_itself, below_is_up_to, below_below, up_to_below, below_up_to, up_to_up_to, below_of, up_to_of, is_below_of, not_below_of, below_or_not, not_under_over, under_within}

-- a separator and the child right of it
abbrev pub branch : List ℕ → ℕ → Branch
branch s c = record { separator = s; child = c }

pub within_itself : (hi : Option (List ℕ)) → IsWithin hi hi
within_itself hi = record { under = λ key h. h; over = λ key h. h }

-- a separator that is up to a key under a bound
pub within_bound : (s x : List ℕ) (hi : Option (List ℕ)) → IsUpTo s x → IsUnder x hi
    → IsWithin (Some s) hi
within_bound s x hi h k =
    record {
      under = under_within s x hi h k;
      over = λ y over. elim
          (below_or_not y s) [
            | inl l ↦ absurd (not_under_over y hi
                (under_within s x hi h k y l) over)
            | inr m ↦ m
          ];
    }

mutual
  pub stands_same : (at new : ℕ → List ℕ) (t : BplusTree) → Same (pages t) at new → Stands at t
      → Stands new t
  stands_same at new (leaf p es) same h = subst (λ b. ShowsEntries b es) (sym (same p (inl refl))) h
  stands_same at new (node p kids) same h = (
    subst (λ b. ShowsInner b (first_of kids) (branches_of kids))
        (sym (same p (inl refl))) h.0,
    all_stand_same at new kids (λ q i. same q (inr i)) h.1,
  )

  pub all_stand_same : (at new : ℕ → List ℕ) (kids : BplusKids) → Same (kids_pages kids) at new
      → AllStand at kids → AllStand new kids
  all_stand_same at new (last t) same h = stands_same at new t same h
  all_stand_same at new (more t s kids) same h = (
    stands_same at new t (λ q i. same q (in_left q (pages t) (kids_pages kids) i)) h.0,
    all_stand_same at new kids (λ q i. same q (in_right q (pages t) (kids_pages kids) i)) h.1,
  )

-- separators stand above a bound below all entries
above_bound : (kids : BplusKids) → AreOrdered kids → (s : List ℕ)
    → ((x : Entry) → In x (kids_entries kids) → IsUpTo s x.key) → (m : List ℕ)
    → In m (separators_in (branches_of kids)) → IsBelow s m
above_bound (last t) ordered s above m i = absurd i
above_bound (more t n kids) ordered s above m i =
    let some = ordered.1 in
    let here : IsBelow s n = up_to_below s some.0.key n
    (above some.0 (in_left some.0 (entries t) (kids_entries kids) some.1))
    (ordered.2 some.0 some.1) in
    elim i [
      | inl e ↦ subst (IsBelow s) (sym e) here
      | inr j ↦ below_below s n m here (above_bound kids ordered.4 n ordered.3 m j)
    ]

-- the last child
hole_last : (at : ℕ → List ℕ) (t : BplusTree) (key lo : List ℕ) (hi : Option (List ℕ))
    → AllStand at (last t)
    → AreOrdered (last t) → AreApart (last t)
    → ((x : Entry) → In x (entries t) → IsUpTo lo x.key × IsUnder x.key hi) → IsUpTo lo key
    → IsUnder key hi → KidHole at (last t) key lo hi
hole_last at t key lo hi stand ordered apart bounds from to = record {
  kid = t;
  low = lo;
  high = hi;
  rest = [];
  others = [];
  way = refl;
  fits = record {
    page_is = refl;
    stands = stand;
    ordered = ordered.0;
    apart = apart;
    bounds = bounds;
    alone = λ q i n. n;
  };
  filled = ordered.1;
  lower = up_to_itself lo;
  higher = within_itself hi;
  high_is = refl;
  from = from;
  to = to;
  out = λ x h. absurd h;
  beside = λ x least most s i. absurd i;
  entries_are = joins_none (entries t);
  pages_are = joins_none (pages t);
  one = λ new u same fit filled. record {
    kids = last u;
    first_is = fit.page_is;
    branches_are = refl;
    stand = fit.stands;
    ordered = (fit.ordered, filled);
    apart = fit.apart;
    entries_are = joins_none (entries u);
    pages_are = joins_none (pages u);
  };
  two = λ new l r s same fit_l filled_l fit_r filled_r apart_lr below above. record {
    kids = more l s (last r);
    first_is = fit_l.page_is;
    branches_are = refl;
    stand = (fit_l.stands, fit_r.stands);
    ordered = (fit_l.ordered, filled_l, below, above, (fit_r.ordered, filled_r));
    apart = (fit_l.apart, apart_lr, fit_r.apart);
    entries_are = joins_none (entries l ++ entries r);
    pages_are = joins_none (pages l ++ pages r);
  };
  gone = λ new same many. absurd many;
  gone_behind = λ new f s same b. record {
    kids = last f;
    first_is = refl;
    branches_are = refl;
    stand = b.stands;
    ordered = (b.ordered, b.filled);
    apart = b.apart;
    entries_are = joins_end (entries f);
    pages_are = joins_end (pages f);
  };
}

-- the first child, which stands before a separator
hole_first : (at : ℕ → List ℕ) (t : BplusTree) (s : List ℕ) (kids : BplusKids) (key lo : List ℕ)
    (hi : Option (List ℕ))
    → AllStand at (more t s kids) → AreOrdered (more t s kids) → AreApart (more t s kids)
    → ((x : Entry) → In x (kids_entries (more t s kids)) → IsUpTo lo x.key × IsUnder x.key hi)
    → IsUpTo lo key
    → IsUnder key hi → is_below key s ≡ true → IsWithin (Some s) hi
    → KidHole at (more t s kids) key lo hi
hole_first at t s kids key lo hi stand ordered apart bounds from to is s_hi = record {
  kid = t;
  low = lo;
  high = Some s;
  rest = kids_entries kids;
  others = kids_pages kids;
  way =
      cond-true (is_below key s) (page_of t) (child_for (first_of kids) (branches_of kids) key) is;
  fits =
      record {
        page_is = refl;
        stands = stand.0;
        ordered = ordered.0;
        apart = apart.0;
        bounds = λ x i.
            ((bounds x (in_left x (entries t) (kids_entries kids) i)).0, ordered.2 x i);
        alone = apart.1;
      };
  filled = ordered.1;
  lower = up_to_itself lo;
  higher = s_hi;
  high_is = sym (cond-true (is_below key s) (Some s) (bound_for (branches_of kids) key hi) is);
  from = from;
  to = below_of key s is;
  out = λ x h. inr (ordered.3 x h);
  beside = λ x least most m i. elim i [
    | inl e ↦ is_below_of x m (subst (IsBelow x) (sym e) most) ∙ sym (ap (is_below key) e ∙ is)
    | inr j ↦ (let up = above_bound kids ordered.4 s ordered.3 m j in
        is_below_of x m (below_below x s m most up)
        ∙ sym (is_below_of key m (below_below key s m (below_of key s is) up)))
  ];
  entries_are = joins_append (entries t) (kids_entries kids);
  pages_are = joins_append (pages t) (kids_pages kids);
  one = λ new u same fit filled. record {
    kids = more u s kids;
    first_is = fit.page_is;
    branches_are = refl;
    stand = (fit.stands, all_stand_same at new kids same stand.1);
    ordered = (fit.ordered, filled, (λ x i. (fit.bounds x i).1), ordered.3, ordered.4);
    apart = (fit.apart, fit.alone, apart.2);
    entries_are = joins_append (entries u) (kids_entries kids);
    pages_are = joins_append (pages u) (kids_pages kids);
  };
  two = λ new l r m same fit_l filled_l fit_r filled_r apart_lr below above. record {
    kids = more l m (more r s kids);
    first_is = fit_l.page_is;
    branches_are = sym (cond-true (is_below key s) _ _ is);
    stand = (fit_l.stands, (fit_r.stands, all_stand_same at new kids same stand.1));
    ordered = (
      fit_l.ordered,
      filled_l,
      below,
      (λ x i. elim (in_cases x (entries r) (kids_entries kids) i) [
        | inl a ↦ above x a
        | inr b ↦ up_to_up_to m s x.key
            (below_is_up_to m s (up_to_below m filled_r.0.key s (above filled_r.0 filled_r.1)
            (fit_r.bounds filled_r.0 filled_r.1).1)) (ordered.3 x b)
      ]),
      (fit_r.ordered, filled_r, (λ x i. (fit_r.bounds x i).1), ordered.3, ordered.4),
    );
    apart = (
      fit_l.apart,
      (λ q i j. elim (in_cases q (pages r) (kids_pages kids) j)
          [ inl a ↦ apart_lr q i a | inr b ↦ fit_l.alone q i b ]),
      (fit_r.apart, fit_r.alone, apart.2),
    );
    entries_are = joins_append_three (entries l) (entries r) (kids_entries kids);
    pages_are = joins_append_three (pages l) (pages r) (kids_pages kids);
  };
  gone = λ new same many. record {
    kids = kids;
    first_is = sym (cond-true (is_below key s) _ _ is);
    branches_are = sym (cond-true (is_below key s) _ _ is);
    stand = all_stand_same at new kids same stand.1;
    ordered = ordered.4;
    apart = apart.2;
    entries_are = joins_none (kids_entries kids);
    pages_are = joins_none (kids_pages kids);
  };
  gone_behind = λ new f m same b. record {
    kids = more f s kids;
    first_is = refl;
    branches_are = sym (cond-true (is_below key s) _ _ is);
    stand = (b.stands, all_stand_same at new kids same stand.1);
    ordered = (
      b.ordered,
      b.filled,
      (λ x i. below_below x.key m s (b.below x i)
          (up_to_below m ordered.1.0.key s
          (b.above ordered.1.0 (in_left ordered.1.0 (entries t) (kids_entries kids) ordered.1.1))
          (ordered.2 ordered.1.0 ordered.1.1))),
      ordered.3,
      ordered.4,
    );
    apart = (b.apart, (λ q i j. b.alone q i (in_right q (pages t) (kids_pages kids) j)), apart.2);
    entries_are = joins_none (entries f ++ kids_entries kids);
    pages_are = joins_none (pages f ++ kids_pages kids);
  };
}

-- a tree that fits beside more pages fits beside fewer
narrowed : (at : ℕ → List ℕ) (p : ℕ) (low : List ℕ) (high : Option (List ℕ)) (wide others : List ℕ)
    (t : BplusTree)
    → IsFitting at p low high (wide ++ others) t → IsFitting at p low high others t
narrowed at p low high wide others t fit = record {
  page_is = fit.page_is;
  stands = fit.stands;
  ordered = fit.ordered;
  apart = fit.apart;
  bounds = fit.bounds;
  alone = λ q i j. fit.alone q i (in_right q wide others j);
}

-- the first child stands before the others, also where other pages have changed
first_before : (at new : ℕ → List ℕ) (t : BplusTree) (s : List ℕ) (kids : BplusKids)
    → AllStand at (more t s kids)
    → AreOrdered (more t s kids) → AreApart (more t s kids) → Same (pages t) at new
    → IsBefore new t s kids
first_before at new t s kids stand ordered apart same = record {
  stands = stands_same at new t same stand.0;
  ordered = ordered.0;
  filled = ordered.1;
  apart = apart.0;
  below = ordered.2;
  above = ordered.3;
  alone = apart.1;
}

-- a child behind a separator
hole_behind : (at : ℕ → List ℕ) (t : BplusTree) (s : List ℕ) (kids : BplusKids) (key lo : List ℕ)
    (hi : Option (List ℕ))
    → AllStand at (more t s kids) → AreOrdered (more t s kids) → AreApart (more t s kids)
    → ((x : Entry) → In x (kids_entries (more t s kids)) → IsUpTo lo x.key × IsUnder x.key hi)
    → is_below key s ≡ false → IsUpTo lo s → KidHole at kids key s hi
    → KidHole at (more t s kids) key lo hi
hole_behind at t s kids key lo hi stand ordered apart bounds is lo_s h = record {
  kid = h.kid;
  low = h.low;
  high = h.high;
  rest = entries t ++ h.rest;
  others = pages t ++ h.others;
  way = cond-false (is_below key s) (page_of t) (child_for (first_of kids) (branches_of kids) key)
      is ∙ h.way;
  fits = record {
    page_is = refl;
    stands = h.fits.stands;
    ordered = h.fits.ordered;
    apart = h.fits.apart;
    bounds = h.fits.bounds;
    alone =
        λ q i j. elim (in_cases q (pages t) h.others j)
        [ inl a ↦ apart.1 q a ((h.pages_are q).1 (inl i)) | inr b ↦ h.fits.alone q i b ];
  };
  filled = h.filled;
  lower = up_to_up_to lo s h.low lo_s h.lower;
  higher = h.higher;
  high_is = h.high_is
      ∙ sym (cond-false (is_below key s) (Some s) (bound_for (branches_of kids) key hi) is);
  from = h.from;
  to = h.to;
  out = λ x i. elim (in_cases x (entries t) h.rest i) [
    | inl a ↦ inl (below_up_to x.key s h.low (ordered.2 x a) h.lower)
    | inr b ↦ h.out x b
  ];
  beside = λ x least most m i. elim i [
    | inl e ↦ not_below_of x m
        (subst (λ n. IsUpTo n x) (sym e) (up_to_up_to s h.low x h.lower least))
        ∙ sym (ap (is_below key) e ∙ is)
    | inr j ↦ h.beside x least most m j
  ];
  entries_are = joins_more (entries t) (kids_entries kids) (entries h.kid) h.rest h.entries_are;
  pages_are = joins_more (pages t) (kids_pages kids) (pages h.kid) h.others h.pages_are;
  one = λ new u same fit filled.
      let below = narrowed new (page_of h.kid) h.low h.high (pages t) h.others u fit in
      let r = h.one new u (λ q i. same q (in_right q (pages t) h.others i)) below filled in
      record {
        kids = more t s r.kids;
        first_is = refl;
        branches_are = ap (λ f. branch s f ∷ branches_of r.kids) r.first_is
            ∙ ap (λ bs. branch s (first_of kids) ∷ bs) r.branches_are;
        stand = (
          stands_same at new t (λ q i. same q (in_left q (pages t) h.others i))
              stand.0,
          r.stand,
        );
        ordered = (
          ordered.0,
          ordered.1,
          ordered.2,
          (λ x i. elim ((r.entries_are x).0 i) [
            | inl a ↦ up_to_up_to s h.low x.key h.lower (fit.bounds x a).0
            | inr b ↦ ordered.3 x ((h.entries_are x).1 (inr b))
          ]),
          r.ordered,
        );
        apart = (
          apart.0,
          (λ q i j. elim ((r.pages_are q).0 j) [
            | inl a ↦ fit.alone q a (in_left q (pages t) h.others i)
            | inr b ↦ apart.1 q i ((h.pages_are q).1 (inr b))
          ]),
          r.apart,
        );
        entries_are = joins_more (entries t) (kids_entries r.kids) (entries u) h.rest r.entries_are;
        pages_are = joins_more (pages t) (kids_pages r.kids) (pages u) h.others r.pages_are;
      };
  two = λ new l r m same fit_l filled_l fit_r filled_r apart_lr below above.
      let fits_l = narrowed new (page_of h.kid) h.low h.high (pages t) h.others l fit_l in
      let fits_r = narrowed new (page_of r) h.low h.high (pages t) h.others r fit_r in
      let w = h.two new l r m (λ q i. same q (in_right q (pages t) h.others i)) fits_l filled_l
      fits_r filled_r apart_lr below above in
      record {
        kids = more t s w.kids;
        first_is = refl;
        branches_are =
            ap (λ f. branch s f ∷ branches_of w.kids) w.first_is
            ∙ ap (λ bs. branch s (first_of kids) ∷ bs) w.branches_are
            ∙ sym (cond-false (is_below key s) _ _ is);
        stand = (
          stands_same at new t (λ q i. same q (in_left q (pages t) h.others i))
              stand.0,
          w.stand,
        );
        ordered = (
          ordered.0,
          ordered.1,
          ordered.2,
          (λ x i. elim ((w.entries_are x).0 i) [
            | inl a ↦ elim (in_cases x (entries l) (entries r) a) [
              | inl b ↦ up_to_up_to s h.low x.key h.lower (fit_l.bounds x b).0
              | inr b ↦ up_to_up_to s h.low x.key h.lower (fit_r.bounds x b).0
            ]
            | inr b ↦ ordered.3 x ((h.entries_are x).1 (inr b))
          ]),
          w.ordered,
        );
        apart = (
          apart.0,
          (λ q i j. elim ((w.pages_are q).0 j) [
            | inl a ↦ elim (in_cases q (pages l) (pages r) a) [
              | inl b ↦ fit_l.alone q b (in_left q (pages t) h.others i)
              | inr b ↦ fit_r.alone q b (in_left q (pages t) h.others i)
            ]
            | inr b ↦ apart.1 q i ((h.pages_are q).1 (inr b))
          ]),
          w.apart,
        );
        entries_are = joins_more (entries t) (kids_entries w.kids) (entries l ++ entries r) h.rest
            w.entries_are;
        pages_are =
            joins_more (pages t) (kids_pages w.kids) (pages l ++ pages r) h.others w.pages_are;
      };
  gone = λ new same many.
      let first = first_before at new t s kids stand ordered apart
      (λ q i. same q (in_left q (pages t) h.others i)) in
      let r = h.gone_behind new t s (λ q i. same q (in_right q (pages t) h.others i)) first in
      record {
        kids = r.kids;
        first_is = r.first_is ∙ sym (cond-false (is_below key s) _ _ is);
        branches_are = r.branches_are ∙ sym (cond-false (is_below key s) _ _ is);
        stand = r.stand;
        ordered = r.ordered;
        apart = r.apart;
        entries_are = r.entries_are;
        pages_are = r.pages_are;
      };
  gone_behind = λ new f m same b.
      let first = first_before at new t s kids stand ordered apart
      (λ q i. same q (in_left q (pages t) h.others i)) in
      let r = h.gone_behind new t s (λ q i. same q (in_right q (pages t) h.others i)) first in
      record {
        kids = more f m r.kids;
        first_is = refl;
        branches_are =
            ap (λ n. branch m n ∷ branches_of r.kids) r.first_is
            ∙ ap (λ bs. branch m (page_of t) ∷ bs) r.branches_are
            ∙ sym (cond-false (is_below key s) _ _ is);
        stand = (b.stands, r.stand);
        ordered = (
          b.ordered,
          b.filled,
          b.below,
          (λ x i. b.above x (elim ((r.entries_are x).0 i) [
            | inl a ↦ elim (in_cases x (entries t) h.rest a) [
              | inl d ↦ in_left x (entries t) (kids_entries kids) d
              | inr d ↦ in_right x (entries t)
                  (kids_entries kids) ((h.entries_are x).1 (inr d))
            ]
            | inr n ↦ absurd n
          ])),
          r.ordered,
        );
        apart = (
          b.apart,
          (λ q i j. b.alone q i (elim ((r.pages_are q).0 j) [
            | inl a ↦ elim (in_cases q (pages t) h.others a) [
              | inl d ↦ in_left q (pages t) (kids_pages kids) d
              | inr d ↦ in_right q (pages t) (kids_pages kids)
                  ((h.pages_are q).1 (inr d))
            ]
            | inr n ↦ absurd n
          ])),
          r.apart,
        );
        entries_are =
            joins_more_left (entries f) (kids_entries r.kids) (entries t ++ h.rest) r.entries_are;
        pages_are = joins_more_left (pages f) (kids_pages r.kids) (pages t ++ h.others) r.pages_are;
      };
}

-- some key stands among children
pub some_key : (kids : BplusKids) → AreOrdered kids → (x : Entry) × In x (kids_entries kids)
some_key (last t) o = o.1
some_key (more t s kids) o = (o.1.0, in_left o.1.0 (entries t) (kids_entries kids) o.1.1)

pub kid_hole : (at : ℕ → List ℕ) (kids : BplusKids) (key lo : List ℕ) (hi : Option (List ℕ))
    → AllStand at kids → AreOrdered kids → AreApart kids
    → ((x : Entry) → In x (kids_entries kids) → IsUpTo lo x.key × IsUnder x.key hi) → IsUpTo lo key
    → IsUnder key hi
    → KidHole at kids key lo hi
kid_hole at (last t) key lo hi stand ordered apart bounds from to =
    hole_last at t key lo hi stand ordered apart bounds from to
kid_hole at (more t s kids) key lo hi stand ordered apart bounds from to =
    let front = ordered.1 in
    let behind = some_key kids ordered.4 in
    let a = bounds front.0 (in_left front.0 (entries t) (kids_entries kids) front.1) in
    let b = ordered.2 front.0 front.1 in
    let c = bounds behind.0 (in_right behind.0 (entries t) (kids_entries kids) behind.1) in
    let d = ordered.3 behind.0 behind.1 in
    elim (cases_Bool (is_below key s)) [
      | inl is ↦ hole_first at t s kids key lo hi stand ordered apart bounds from to is
          (within_bound s behind.0.key hi d c.1)
      | inr is ↦ hole_behind at t s kids key lo hi stand ordered apart bounds is
          (below_is_up_to lo s (up_to_below lo front.0.key s a.0 b))
          (kid_hole at kids key s hi stand.1 ordered.4 apart.2
          (λ x i. (ordered.3 x i, (bounds x (in_right x (entries t) (kids_entries kids) i)).1))
          (up_to_of key s is) to)
    ]
