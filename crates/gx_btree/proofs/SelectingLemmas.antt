-- A selection goes from page to page, and ends.
use Rattle.std.proofs.Common.{◌≡◌, ◌⊎◌, inl, inr, ℕ, ◌+◌, ◌<◌, ◌≤◌, Bool, true, false, cond, List, [], ◌∷◌, ◌++◌, map, take, length, Option, Some, None, refl, sym, ap, ◌∙◌, subst, arith, append_assoc, append-nil, length-append}
use Rattle.std.specs.Prelude.{filter, ◌&&◌, Result, Err}
use Rattle.std.specs.Cmp.Lexicographic.{slice_cmp}
use Rattle.std.specs.Ordering.{nat_cmp, is_le, is_gt}
use Rattle.std.specs.declared.cmp.Ordering.{Ordering}
use Rattle.std.specs.declared.cmp.Ordering.TheVariants.{Less, Equal, Greater}
use Rattle.gx_ports.specs.declared.leaves.Entry.{Entry as LeafEntry}
use Rattle.gx_ports.specs.declared.page_view.PageView.{Ghosts}
use Rattle.gx_ports.specs.declared.pages.Place.{Place}
use Rattle.gx_ports.specs.declared.stop.Stop.{Stop}
use Rattle.gx_ports.specs.declared.stop.Stop.TheVariants.{Damaged}
use Rattle.gx_ports.specs.Files.{Holds, IsWhole, EndsFile}
use Rattle.gx_ports.specs.LeafMaps.{LeafMap, Extends, selected}
use Rattle.gx_ports.specs.PageCalls.{ReadsPages}
use Rattle.gx_ports.specs.Sheets.{Sheets, Ground, IsPast, IsHome, bytes_at}
use Rattle.gx_ports.proofs.KeyLemmas.{front_le, le_trans}
use Rattle.gx_ports.proofs.PageLemmas.{pages_read_themselves, read_pages_joined}
use Rattle.gx_slots.specs.Entries.{Entry}
use Rattle.gx_btree.specs.Bplus.{IsBplus, IsOwned}
use Rattle.gx_btree.specs.Hole.{AreUnique}
use Rattle.gx_btree.specs.Order.{IsUpTo, is_below}
use Rattle.gx_btree.specs.Search.{IsFound}
use Rattle.gx_btree.specs.Selection.{given_entry, given_from}
use Rattle.gx_btree.specs.Tree as trees
use Rattle.gx_btree.specs.Tree.{In, BplusTree, BplusKids, leaf, node, last, more, entries, pages, kids_pages, separators, kids_separators, Apart, AreApart, Ascending}
use Rattle.gx_btree.proofs.BoundLemmas.{few}
use Rattle.gx_btree.proofs.CallLemmas.{ends_after, ends_shown}
use Rattle.gx_btree.proofs.MemberLemmas.{in_cases}
use Rattle.gx_btree.proofs.OrderLemmas.{below_or_not, not_both, up_to_itself, up_to_cases, up_to_up_to, below_is_up_to, is_below_of, not_below_of}
use Rattle.gx_btree.proofs.SelectLemmas.{given_under, given_next, given_all}

-- ---- where nothing is left

ext : (p q : Entry → Bool) (es : List Entry) → ((e : Entry) → p e ≡ q e) → filter p es ≡ filter q es
ext p q [] same = refl
ext p q (e ∷ es) same =
    ap (λ b. cond b (e ∷ filter p es) (filter p es)) (same e)
    ∙ ap (λ (xs : List Entry). cond (q e) (e ∷ xs) xs) (ext p q es same)

not_greater : (o : Ordering) → is_le o ≡ true → is_gt o ≡ true → ⊥
not_greater Less h k = let never : ⊥ = cc in never
not_greater Equal h k = let never : ⊥ = cc in never
not_greater Greater h k = let never : ⊥ = cc in never

fronts : (n : ℕ) (x y : List ℕ) → IsUpTo x y
    → is_le (slice_cmp nat_cmp (take n x) (take n y)) ≡ true
fronts n x y h =
    elim (up_to_cases x y h) [
      | inl l ↦ front_le n x y l
      | inr e ↦ subst
          (λ z. is_le (slice_cmp nat_cmp (take n x) (take n z)) ≡ true) e (up_to_itself (take n x))
    ]

past_cases : (lo hi b key : List ℕ) (low front : Bool)
    → is_le (slice_cmp nat_cmp (take (length hi) key) hi) ≡ front
    → is_gt (slice_cmp nat_cmp (take (length hi) b) hi) ≡ true
    → ((low && front) && is_below key b) ≡ ((low && front) && true)
past_cases lo hi b key false front is past = refl
past_cases lo hi b key true false is past = refl
past_cases lo hi b key true true is past = elim (below_or_not key b) [
  | inl l ↦ is_below_of key b l
  | inr l ↦ absurd (not_greater (slice_cmp nat_cmp (take (length hi) b) hi)
      (le_trans (take (length hi) b) (take (length hi) key) hi (fronts (length hi) b key l) is)
      past)
]

-- behind the span there is nothing more
pub given_past : (lo hi b : List ℕ) (es : List Entry)
    → is_gt (slice_cmp nat_cmp (take (length hi) b) hi) ≡ true
    → given_under lo hi (Some b) es ≡ given_under lo hi None es
given_past lo hi b es past =
    ap (map given_entry) (ext _ _ es
    (λ e. past_cases lo hi b e.key (is_le (slice_cmp nat_cmp lo e.key))
    (is_le (slice_cmp nat_cmp (take (length hi) e.key) hi)) refl past))

none_cases : (lo key : List ℕ) (low front : Bool) → is_le (slice_cmp nat_cmp lo key) ≡ low
    → ((low && front) && is_below key lo) ≡ false
none_cases lo key false front is = refl
none_cases lo key true false is = refl
none_cases lo key true true is = not_below_of key lo is

nothing : (es : List Entry) → filter (λ _. false) es ≡ []
nothing [] = refl
nothing (e ∷ es) = nothing es

-- nothing is given below the span
pub given_none : (lo hi : List ℕ) (es : List Entry) → given_under lo hi (Some lo) es ≡ []
given_none lo hi es =
    ap (map given_entry) (ext _ (λ _. false) es
    (λ e. none_cases lo e.key (is_le (slice_cmp nat_cmp lo e.key))
    (is_le (slice_cmp nat_cmp (take (length hi) e.key) hi)) refl) ∙ nothing es)

-- ---- how many separators a tree has

mutual
  few_separators : (t : BplusTree) → length (separators t) + 1 ≤ length (pages t)
  few_separators (leaf p es) = omega arith
  few_separators (node p kids) = let h = few_kids kids in omega (arith, h)

  few_kids : (kids : BplusKids) → length (kids_separators kids) + 1 ≤ length (kids_pages kids)
  few_kids (last t) = few_separators t
  few_kids (more t s kids) =
      let a = few_separators t in
      let b = few_kids kids in
      let k = length-append (separators t) (kids_separators kids) in
      let q = length-append (pages t) (kids_pages kids) in
      omega (arith, a, b, k, q)

append_unique : (xs ys : List ℕ) → AreUnique xs → AreUnique ys → ((x : ℕ) → In x xs → In x ys → ⊥)
    → AreUnique (xs ++ ys)
append_unique [] ys u v d = v
append_unique (x ∷ xs) ys u v d = (
  (λ i. elim (in_cases x xs ys i) [ inl a ↦ u.0 a | inr b ↦ d x (inl refl) b ]),
  append_unique xs ys u.1 v (λ y i j. d y (inr i) j),
)

mutual
  unique_pages : (t : BplusTree) → Apart t → AreUnique (pages t)
  unique_pages (leaf p es) a = ((λ i. i), tt)
  unique_pages (node p kids) a = (a.0, unique_kids kids a.1)

  unique_kids : (kids : BplusKids) → AreApart kids → AreUnique (kids_pages kids)
  unique_kids (last t) a = unique_pages t a
  unique_kids (more t s kids) a =
      append_unique (pages t) (kids_pages kids) (unique_pages t a.0) (unique_kids kids a.2) a.1

-- no key stands twice
abbrev pub AreDistinct : List (List ℕ) → Type 0
AreDistinct [] = Unit {0}
AreDistinct (x ∷ xs) = (In x xs → ⊥) × AreDistinct xs

record IsRest (x : List ℕ) (ys : List (List ℕ)) : Type 0 where
  pub rest : List (List ℕ)
  pub shorter : length ys ≡ length rest + 1
  pub others : (y : List ℕ) → In y ys → (y ≡ x) ⊎ In y rest

take_away : (x : List ℕ) (ys : List (List ℕ)) → In x ys → IsRest x ys
take_away x [] i = absurd i
take_away x (y ∷ ys) (inl e) =
    record {
      rest = ys;
      shorter = omega arith;
      others = λ z j. elim j [ inl s ↦ inl (s ∙ sym e) | inr k ↦ inr k ];
    }
take_away x (y ∷ ys) (inr i) =
    let r = take_away x ys i in
    record {
      rest = y ∷ r.rest;
      shorter =
          (let s = r.shorter in omega (arith, s));
      others =
          λ z j. elim j [
            | inl s ↦ inr (inl s)
            | inr k ↦ elim (r.others z k) [ inl s ↦ inl s | inr l ↦ inr (inr l) ]
          ];
    }

few_of : (xs ys : List (List ℕ)) → AreDistinct xs → ((x : List ℕ) → In x xs → In x ys)
    → length xs ≤ length ys
few_of [] ys u h = omega arith
few_of (x ∷ xs) ys u h =
    let r = take_away x ys (h x (inl refl)) in
    let k = few_of xs r.rest u.1
    (λ y i. elim (r.others y (h y (inr i)))
    [ inl e ↦ absurd (u.0 (subst (λ z. In z xs) e i)) | inr j ↦ j ]) in
    let s = r.shorter in
    omega (arith, k, s)

-- the keys that a selection came to, so many, up to this one
pub record HasSeen (tree : BplusTree) (key : List ℕ) (steps : ℕ) : Type 0 where
  pub keys : List (List ℕ)
  pub count : length keys ≡ steps
  pub distinct : AreDistinct keys
  pub among : (k : List ℕ) → In k keys → In k (separators tree)
  pub upto : (k : List ℕ) → In k keys → IsUpTo k key

pub seen_ends : (ground : Ground) (place : Place) (sheets : Sheets) (m : LeafMap)
    (b : IsBplus ground place sheets m) (key : List ℕ) (steps : ℕ) → HasSeen b.tree key steps
    → steps < ground.size
seen_ends ground place sheets m b key steps seen =
    let a = few_of seen.keys (separators b.tree) seen.distinct seen.among in
    let c = few_separators b.tree in
    let d = few ground.size (pages b.tree) (unique_pages b.tree b.whole.apart)
    (λ q i. (b.past q i).below) in
    let n = seen.count in
    omega (arith, a, c, d, n)

-- ---- the file after calls that read

abbrev pub same_file : (place : Place) (m : LeafMap) (ground other : Ground) (a b : Sheets) → b ≡ a
    → other ≡ ground
    → IsBplus ground place a m → IsBplus other place b m
same_file place m ground other a b e h f = record {
  tree = f.tree;
  whole = subst (λ s. trees.IsWhole (bytes_at s) place.root f.tree) (sym e) f.whole;
  past = subst (λ x. (q : ℕ) → In q (pages f.tree) → IsPast x q) (sym h) f.past;
  owned = subst (λ s. trees.Owns (IsOwned place.owner s) f.tree) (sym e) f.owned;
  map_is = f.map_is;
}

-- A selection has come to a key, and given what is inside the span below it.
pub record IsSelecting {S : Type 0} (g : Ghosts S) (place : Place) (lo hi : List ℕ) (start now : S)
    (before out : List LeafEntry) (key : List ℕ) (steps : ℕ) : Type 0 where
  pub reads : ReadsPages g start now
  pub faults : g.faults now ≡ g.faults start
  pub front : Extends before out
  pub given : (m : LeafMap) (holds : Holds g (IsBplus (g.ground start) place) start m)
      → out ≡ before ++ given_under lo hi (Some key) (entries holds.file.tree)
  pub seen : (m : LeafMap) (holds : Holds g (IsBplus (g.ground start) place) start m)
      → HasSeen holds.file.tree key steps

module _ {S : Type 0} (g : Ghosts S) (place : Place) (lo hi : List ℕ) (start : S)
    (before : List LeafEntry) where
  abbrev Whole : Type 0
  Whole = IsWhole g (IsBplus (g.ground start) place) start

  pub selecting_starts : (key : List ℕ) → key ≡ lo
      → IsSelecting g place lo hi start start before before key 0
  selecting_starts key is = record {
    reads = pages_read_themselves g start;
    faults = refl;
    front = ([], sym (append-nil before));
    given =
        λ m holds. sym (append-nil before)
        ∙ ap (λ (xs : List LeafEntry). before ++ xs)
        (sym (ap (λ k. given_under lo hi (Some k) (entries holds.file.tree)) is
        ∙ given_none lo hi (entries holds.file.tree)));
    seen = λ m holds. record
        { keys = []; count = refl; distinct = tt; among = λ k i. absurd i; upto = λ k i. absurd i };
  }

  module _ {steps : ℕ} (now : S) (out : List LeafEntry) (key : List ℕ)
      (s : IsSelecting g place lo hi start now before out key steps) where
    abbrev pub holds_now : (m : LeafMap) → Holds g (IsBplus (g.ground start) place) start m
        → Holds g (IsBplus (g.ground now) place) now m
    holds_now m holds =
        record {
          told = holds.told;
          file = same_file place m (g.ground start) (g.ground now) (g.working start)
              (g.working now) s.reads.working s.reads.keeps.ground holds.file;
        }

    pub selecting_ends : {T : Type 0} (b : S) (r : Result T Stop)
        → EndsFile g (IsWhole g (IsBplus (g.ground now) place) now) now b r
        → EndsFile g Whole start b r
    selecting_ends b r e =
        ends_after g Whole _ start now b r s.faults s.reads.keeps.ground
        (λ w. (w.0, holds_now w.0 w.1)) e

    next_out : (m : LeafMap) (holds : Holds g (IsBplus (g.ground start) place) start m)
        (es : List Entry)
        (bound : Option (List ℕ)) (new : List LeafEntry) → Ascending es
        → IsFound holds.file.tree key bound es
        → new ≡ out ++ given_from key lo hi es
        → new ≡ before ++ given_under lo hi bound (entries holds.file.tree)
    next_out m holds es bound new up found is =
        let t = holds.file.tree in
        is ∙ ap (λ (xs : List LeafEntry). xs ++ given_from key lo hi es) (s.given m holds)
        ∙ append_assoc before (given_under lo hi (Some key) (entries t)) (given_from key lo hi es)
        ∙ ap (λ (xs : List LeafEntry). before ++ xs)
        (sym (given_next lo hi key bound t es holds.file.whole.ordered up found))

    pub selecting_goes : (b : S) (es : List Entry) (next : List ℕ) (new : List LeafEntry)
        → ReadsPages g now b
        → g.faults b ≡ g.faults now → Extends out new
        → ((m : LeafMap) (holds : Holds g (IsBplus (g.ground start) place) start m)
        → Ascending es × (new ≡ out ++ given_from key lo hi es)
        × IsFound holds.file.tree key (Some next) es)
        → IsSelecting g place lo hi start b before new next (steps + 1)
    selecting_goes b es next new reads faults longer found = record {
      reads = read_pages_joined g s.reads reads;
      faults = faults ∙ s.faults;
      front = (
        s.front.0 ++ longer.0,
        longer.1 ∙ ap (λ (xs : List LeafEntry). xs ++ longer.0) s.front.1
            ∙ append_assoc before s.front.0 longer.0,
      );
      given = λ m holds. let f = found m holds in next_out m holds es (Some next) new f.0 f.2 f.1;
      seen = λ m holds.
          let f = (found m holds).2 in
          let h = s.seen m holds in
          record {
            keys = next ∷ h.keys;
            count = (let n = h.count in omega (arith, n));
            distinct = ((λ i. not_both key next f.to (h.upto next i)), h.distinct);
            among =
                λ k i. elim i [
                  | inl e ↦ subst (λ x. In x (separators holds.file.tree)) (sym e)
                      (f.separator next refl)
                  | inr j ↦ h.among k j
                ];
            upto =
                λ k i. elim i [
                  | inl e ↦ subst (λ x. IsUpTo x next) (sym e)
                      (up_to_itself next)
                  | inr j ↦ up_to_up_to k key next (h.upto k j) (below_is_up_to key next f.to)
                ];
          };
    }

    pub selecting_all : (m : LeafMap) (holds : Holds g (IsBplus (g.ground start) place) start m)
        (es : List Entry)
        (new : List LeafEntry) → Ascending es → IsFound holds.file.tree key None es
        → new ≡ out ++ given_from key lo hi es
        → new ≡ before ++ selected lo hi m
    selecting_all m holds es new up found is =
        next_out m holds es None new up found is
        ∙ ap (λ (xs : List LeafEntry). before ++ xs)
        (given_all lo hi m holds.file.tree holds.file.whole.ordered holds.file.map_is)

    pub selecting_past : (m : LeafMap) (holds : Holds g (IsBplus (g.ground start) place) start m)
        (es : List Entry)
        (next : List ℕ) (new : List LeafEntry) → Ascending es
        → IsFound holds.file.tree key (Some next) es
        → new ≡ out ++ given_from key lo hi es
        → is_gt (slice_cmp nat_cmp (take (length hi) next) hi) ≡ true
        → new ≡ before ++ selected lo hi m
    selecting_past m holds es next new up found is past =
        let t = holds.file.tree in
        next_out m holds es (Some next) new up found is
        ∙ ap (λ (xs : List LeafEntry). before ++ xs)
        (given_past lo hi next (entries t) past
        ∙ given_all lo hi m t holds.file.whole.ordered holds.file.map_is)

    pub selecting_front : (new : List LeafEntry) → Extends out new → Extends before new
    selecting_front new x = (
      s.front.0 ++ x.0,
      x.1 ∙ ap (λ (xs : List LeafEntry). xs ++ x.0) s.front.1 ∙ append_assoc before s.front.0 x.0,
    )

    -- a page shows that no tree stands there
    pub selecting_torn : {T : Type 0} (b : S) (n : ℕ) → g.faults b ≡ g.faults now
        → IsHome (g.ground start) n
        → ((m : LeafMap) → Holds g (IsBplus (g.ground start) place) start m → ⊥)
        → EndsFile {T = T} g Whole start b (Err (Damaged n))
    selecting_torn b n faults block none =
        ends_shown g Whole start b n (faults ∙ s.faults) block (λ w. none w.0 w.1)

    pub selecting_lost : {T : Type 0} (n : ℕ) → (g.ground start).size ≤ steps
        → IsHome (g.ground start) n
        → EndsFile {T = T} g Whole start now (Err (Damaged n))
    selecting_lost n over block = record {
      cause = record {
        later = (let e = s.faults in omega (arith, e));
        fault = λ is. let never : ⊥ = cc in absurd never;
        counted = λ _. s.faults;
        damaged =
            λ k is w. (let e = seen_ends (g.ground start) place (g.working start) w.0 w.1.file key
            steps
            (s.seen w.0 w.1) in omega (arith, e, over));
      };
      home = λ k is. let same : n ≡ k = cc in subst (IsHome (g.ground start)) same block;
    }
