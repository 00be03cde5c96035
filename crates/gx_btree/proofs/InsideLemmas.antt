-- The page of a part that is visited: its keys between the bounds, and its children.
use Rattle.std.proofs.Common.{◌≡◌, ◌↔◌, inl, inr, ℕ, zero, suc, ◌+◌, ◌<◌, ◌≤◌, Bool, List, [], ◌∷◌, ◌++◌, map, length, get_or, Option, refl, sym, ap, ◌∙◌, subst, arith, append_assoc, append-nil, eq-eqb}
use Rattle.std.specs.Prelude.{◌==◌, ◌&&◌, IsTrue}
use Rattle.std.specs.List.{HoldsAt}
use Rattle.std.proofs.lemmas.Bool.{cases_eq, eqb-true, and_from}
use Rattle.std.proofs.lemmas.List.{length-map}
use Rattle.std.specs.Cmp.{first_so, second_so}
use Rattle.gx_slots.specs.Entries.{Entry}
use Rattle.gx_slots.specs.Page.{entries_of}
use Rattle.gx_bnode.specs.Branches.{Branch}
use Rattle.gx_bnode.specs.Page.{IsInnerPage, branches_of, separators_in}
use Rattle.gx_btree.specs.declared.checking.Part.{Part}
use Rattle.gx_btree.specs.declared.reading.Shape.TheVariants as shapes
use Rattle.gx_btree.specs.Bplus.{Shows}
use Rattle.gx_btree.specs.Checking.{child_parts, IsInside}
use Rattle.gx_btree.specs.Order.{IsUpTo, IsUnder}
use Rattle.gx_btree.specs.Tree.{In, Ascending}
use Rattle.gx_btree.proofs.BranchLemmas.{separator_short}
use Rattle.gx_btree.proofs.EntryLemmas.{entries_up, none_of, some_of, place_in, in_place}
use Rattle.gx_btree.proofs.OrderLemmas.{up_to_itself, below_is_up_to, up_to_up_to, under_up_to}

-- ---- keys between bounds

pub none_inside : (bytes : List ℕ) (part : Part) (high : Option (List ℕ))
    → length (entries_of bytes) ≡ 0
    → IsTrue (part.above == part.page) ↔ IsInside shapes.Entries bytes part high
none_inside bytes part high none =
    let es = none_of (entries_of bytes) none in (
      λ is. (
        (λ d. absurd (d (eqb-true part.above part.page is))),
        (λ x i. absurd (subst (In x) es i)),
      ),
      λ inside. elim (cases_eq part.above part.page) [
        | inl e ↦ eq-eqb part.above part.page e
        | inr d ↦ (let s = inside.0 d in absurd (subst (In s.0) es s.1))
      ],
    )

first_up_to : (es : List Entry) (d x : Entry) → Ascending es → In x es
    → IsUpTo (get_or es 0 d).key x.key
first_up_to [] d x up i = absurd i
first_up_to (e ∷ es) d x up i = elim i [
  | inl s ↦ subst (λ (y : Entry). IsUpTo e.key y.key) (sym s) (up_to_itself e.key)
  | inr j ↦ below_is_up_to e.key x.key (up.0 x j)
]

last_above : (es : List Entry) (d x : Entry) (n : ℕ) → length es ≡ n + 1 → Ascending es → In x es
    → IsUpTo x.key (get_or es n d).key
last_above [] d x n len up i = absurd i
last_above (e ∷ []) d x zero len up i = elim i [
  | inl s ↦ subst (λ (y : Entry). IsUpTo y.key e.key) (sym s) (up_to_itself e.key)
  | inr j ↦ absurd j
]
last_above (e ∷ []) d x (suc n) len up i = absurd (omega (arith, len))
last_above (e ∷ f ∷ es) d x zero len up i = absurd (omega (arith, len))
last_above (e ∷ f ∷ es) d x (suc n) len up i =
    let rest = last_above (f ∷ es) d in
    let short : length (f ∷ es) ≡ n + 1 = omega (arith, len) in
    elim i [
      | inl s ↦ subst (λ (y : Entry). IsUpTo y.key (get_or (f ∷ es) n d).key) (sym s)
          (up_to_up_to e.key f.key (get_or (f ∷ es) n d).key
          (below_is_up_to e.key f.key (up.0 f (inl refl))) (rest f n short up.1 (inl refl)))
      | inr j ↦ rest x n short up.1 j
    ]

pub some_inside : (bytes : List ℕ) (part : Part) (high : Option (List ℕ)) (first last : Entry)
    (n : ℕ) (low under : Bool) → Shows shapes.Entries bytes → length (entries_of bytes) ≡ n + 1
    → HoldsAt (λ e. e ≡ first) (entries_of bytes) 0 → HoldsAt (λ e. e ≡ last) (entries_of bytes) n
    → (IsTrue low ↔ IsUpTo part.low first.key) → (IsTrue under ↔ IsUnder last.key high)
    → IsTrue (low && under) ↔ IsInside shapes.Entries bytes part high
some_inside bytes part high first last n low under shown len at_first at_last is_low is_under =
    let es = entries_of bytes in
    let up = entries_up bytes shown in
    let first_is = at_first first in
    let last_is = at_last last in (
      λ is. (
        (λ d. some_of es (omega (arith, len))),
        (λ x i. (
          up_to_up_to part.low first.key x.key (is_low.0 (first_so low under is))
              (subst (λ (e : Entry). IsUpTo e.key x.key) first_is (first_up_to es first x up i)),
          under_up_to x.key last.key high
              (subst (λ (e : Entry). IsUpTo x.key e.key) last_is (last_above es last x n len up i))
              (is_under.0 (second_so low under is)),
        )),
      ),
      λ inside. and_from low under
          (is_low.1 (inside.1 first
          (subst (λ e. In e es) first_is (in_place es 0 first (omega (arith, len))))).0)
          (is_under.1 (inside.1 last
          (subst (λ e. In e es) last_is (in_place es n last (omega (arith, len))))).1),
    )

pub first_inside : (bytes : List ℕ) (part : Part) (high : Option (List ℕ)) (first : Entry)
    → 0 < length (entries_of bytes) → HoldsAt (λ e. e ≡ first) (entries_of bytes) 0
    → IsInside shapes.Entries bytes part high → IsUpTo part.low first.key
first_inside bytes part high first some at_first inside =
    let es = entries_of bytes in
    (inside.1 first (subst (λ e. In e es) (at_first first) (in_place es 0 first some))).0

-- ---- children

-- the parts with those of the branches still to come are all
pub record IsPushing (before : List Part) (above : ℕ) (low : List ℕ) (first : ℕ) (bs : List Branch)
    (parts : List Part) (left : List Branch) : Type 0 where
  pub gives : parts ++ map (λ b. record { above = above; page = b.child; low = b.separator }) left
      ≡ before ++ child_parts above low first bs
  pub short : (b : Branch) → In b left → length b.separator ≤ 400

separators_at : (bs : List Branch) (i : ℕ) (d : Branch) → i < length bs
    → get_or (separators_in bs) i [] ≡ (get_or bs i d).separator
separators_at [] i d below = absurd (omega (arith, below))
separators_at (b ∷ bs) zero d below = refl
separators_at (b ∷ bs) (suc i) d below = separators_at bs i d (omega (arith, below))

pub all_short : (page : List ℕ) → IsInnerPage page → (b : Branch) → In b (branches_of page)
    → length b.separator ≤ 400
all_short page inner b i =
    let p = place_in b (branches_of page) i in
    let less = p.below in
    let many = length-map (branches_of page) (λ (b : Branch). b.separator) in
    subst (λ (s : List ℕ). length s ≤ 400)
    (separators_at (branches_of page) p.place b less ∙ ap (λ (c : Branch). c.separator) (p.is b))
    (separator_short page p.place inner (omega (arith, less, many)))

pub pushing_starts : (before : List Part) (above : ℕ) (low : List ℕ) (first : ℕ) (bs : List Branch)
    (parts : List Part) (left : List Branch)
    → parts ≡ before ++ record { above = above; page = first; low = low } ∷ [] → left ≡ bs
    → ((b : Branch) → In b bs → length b.separator ≤ 400)
    → IsPushing before above low first bs parts left
pushing_starts before above low first bs parts left are is short =
    let f = λ (b : Branch). let w : Part =
    record { above = above; page = b.child; low = b.separator } in w in
    record {
      gives = ap (λ (ps : List Part). ps ++ map f left) are
          ∙ append_assoc before (record { above = above; page = first; low = low } ∷ [])
          (map f left)
          ∙ ap (λ (cs : List Branch). before ++ record { above = above; page = first; low = low }
          ∷ map f cs) is;
      short = λ b i. short b (subst (In b) is i);
    }

pub pushing_goes : (before : List Part) (above : ℕ) (low : List ℕ) (first : ℕ) (bs : List Branch)
    (parts new : List Part) (left rest : List Branch) (b : Branch)
    → IsPushing before above low first bs parts left → left ≡ b ∷ rest
    → new ≡ parts ++ record { above = above; page = b.child; low = b.separator } ∷ []
    → IsPushing before above low first bs new rest
pushing_goes before above low first bs parts new left rest b p is are =
    let f = λ (b : Branch). let w : Part =
    record { above = above; page = b.child; low = b.separator } in w in
    record {
      gives = ap (λ (ps : List Part). ps ++ map f rest) are
          ∙ append_assoc parts (f b ∷ []) (map f rest)
          ∙ ap (λ (cs : List Branch). parts ++ map f cs) (sym is) ∙ p.gives;
      short = λ c i. p.short c (subst (In c) (sym is) (inr i));
    }

pub pushing_ended : (before : List Part) (above : ℕ) (low : List ℕ) (first : ℕ) (bs : List Branch)
    (parts : List Part) (left : List Branch) → IsPushing before above low first bs parts left
    → left ≡ [] → parts ≡ before ++ child_parts above low first bs
pushing_ended before above low first bs parts left p none =
    let f = λ (b : Branch). let w : Part =
    record { above = above; page = b.child; low = b.separator } in w in
    sym (append-nil parts) ∙ ap (λ (cs : List Branch). parts ++ map f cs) (sym none) ∙ p.gives
