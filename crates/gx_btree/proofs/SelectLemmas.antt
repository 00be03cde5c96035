-- What a selection has given, and what it gives of the next page.
use Rattle.std.proofs.Common.{◌≡◌, inl, inr, ℕ, Bool, true, false, cond, List, [], ◌∷◌, ◌++◌, map, Option, Some, None, refl, sym, ap, ap₂, ◌∙◌, subst}
use Rattle.std.specs.Prelude.{filter, ◌&&◌, T}
use Rattle.std.specs.Cmp.Lexicographic.{slice_cmp, nat_list_cmp_total}
use Rattle.std.specs.FinMap as fin
use Rattle.std.specs.FinMap.{get}
use Rattle.std.specs.FinMap.Entries.{below_all}
use Rattle.std.specs.Ordering.{nat_cmp, is_le, is_lt, eq_by_cmp}
use Rattle.std.specs.declared.cmp.Ordering.{Ordering}
use Rattle.std.proofs.lemmas.Bool.{and_from}
use Rattle.std.specs.Cmp.{first_so, second_so}
use Rattle.gx_laws.proofs.BoolLemmas.{both_true}
use Rattle.gx_values.specs.Keys.{is_inside}
use Rattle.gx_ports.specs.LeafMaps.{LeafMap, selected, entry_of}
use Rattle.gx_ports.specs.declared.leaves.Entry.{Entry as LeafEntry}
use Rattle.gx_ports.proofs.KeyLemmas.{only_equal, same_key, tied, other_key}
use Rattle.gx_ports.proofs.KeyedLemmas.{entries_of_sorted}
use Rattle.gx_slots.specs.Entries.{Entry}
use Rattle.gx_btree.specs.Order.{IsBelow, IsUnder, is_below}
use Rattle.gx_btree.specs.Search.{IsFound}
use Rattle.gx_btree.specs.Selection.{given_entry, given_from}
use Rattle.gx_btree.specs.Tree.{In, BplusTree, BplusKids, leaf, node, last, more, entries, kids_entries, Ascending, Ordered, AreOrdered}
use Rattle.gx_btree.proofs.GiveLemmas.{is_given}
use Rattle.gx_btree.proofs.MemberLemmas.{in_left, in_right, in_cases}
use Rattle.gx_btree.proofs.OrderLemmas.{below_or_not, not_itself, below_below, below_up_to, is_below_of, below_of, differ, under_below}

-- ---- filtered lists

filter_cases : (p : Entry → Bool) (y : Entry) (ys : List Entry) (x : Entry) (b : Bool) → p y ≡ b
    → ((In x (filter p ys) → In x ys × (p x ≡ true))
    × (In x ys × (p x ≡ true) → In x (filter p ys)))
    → (In x (cond b (y ∷ filter p ys) (filter p ys)) → In x (y ∷ ys) × (p x ≡ true))
    × (In x (y ∷ ys) × (p x ≡ true) → In x (cond b (y ∷ filter p ys) (filter p ys)))
filter_cases p y ys x true e h = (
  λ i. elim i [ inl s ↦ (inl s, ap p s ∙ e) | inr j ↦ (let k = h.0 j in (inr k.0, k.1)) ],
  λ k. elim k.0 [ inl s ↦ inl s | inr j ↦ inr (h.1 (j, k.1)) ],
)
filter_cases p y ys x false e h = (
  λ i. let k = h.0 i in (inr k.0, k.1),
  λ k. elim k.0 [
    | inl s ↦ (let clash : true ≡ false = sym k.1 ∙ ap p s ∙ e in let never : ⊥ = cc in
        absurd never)
    | inr j ↦ h.1 (j, k.1)
  ],
)

in_filter : (p : Entry → Bool) (xs : List Entry) (x : Entry)
    → (In x (filter p xs) → In x xs × (p x ≡ true)) × (In x xs × (p x ≡ true) → In x (filter p xs))
in_filter p [] x = ((λ i. absurd i), λ k. k.0)
in_filter p (y ∷ ys) x = filter_cases p y ys x (p y) refl (in_filter p ys x)

up_cases : (p : Entry → Bool) (y : Entry) (ys : List Entry) (b : Bool) → Ascending (y ∷ ys)
    → Ascending (filter p ys) → Ascending (cond b (y ∷ filter p ys) (filter p ys))
up_cases p y ys true up rest = ((λ x i. up.0 x ((in_filter p ys x).0 i).0), rest)
up_cases p y ys false up rest = rest

filter_up : (p : Entry → Bool) (xs : List Entry) → Ascending xs → Ascending (filter p xs)
filter_up p [] up = tt
filter_up p (y ∷ ys) up = up_cases p y ys (p y) up (filter_up p ys up.1)

append_up : (xs ys : List Entry) → Ascending xs → Ascending ys
    → ((x y : Entry) → In x xs → In y ys → IsBelow x.key y.key) → Ascending (xs ++ ys)
append_up [] ys up over across = over
append_up (x ∷ xs) ys up over across = (
  (λ y i. elim (in_cases y xs ys i) [ inl a ↦ up.0 y a | inr b ↦ across x y (inl refl) b ]),
  append_up xs ys up.1
      over (λ a b i j. across a b (inr i) j),
)

-- lists that ascend and have the same members are the same
same_list : (xs ys : List Entry) → Ascending xs → Ascending ys → ((x : Entry) → In x xs → In x ys)
    → ((x : Entry) → In x ys → In x xs) → xs ≡ ys
same_list [] [] up over to from = refl
same_list [] (y ∷ ys) up over to from = absurd (from y (inl refl))
same_list (x ∷ xs) [] up over to from = absurd (to x (inl refl))
same_list (x ∷ xs) (y ∷ ys) up over to from =
    let first : x ≡ y = elim (to x (inl refl)) [
      | inl e ↦ e
      | inr i ↦ elim (from y (inl refl)) [
        | inl e ↦ sym e
        | inr j ↦ absurd (not_itself x.key
            (below_below x.key y.key x.key (up.0 y j) (over.0 x i)))
      ]
    ] in
    let rest = same_list xs ys up.1 over.1
    (λ z i. elim (to z (inr i)) [
      | inl e ↦ absurd (differ x.key z.key (up.0 z i) (ap (λ (w : Entry). w.key) (first ∙ sym e)))
      | inr j ↦ j
    ])
    (λ z i. elim (from z (inr i)) [
      | inl e ↦ absurd
          (differ y.key z.key (over.0 z i) (ap (λ (w : Entry). w.key) (sym first ∙ sym e)))
      | inr j ↦ j
    ]) in
    ap₂ (λ (z : Entry) (zs : List Entry). z ∷ zs) first rest

-- ---- the entries of a tree

mutual
  pub tree_up : (t : BplusTree) → Ordered t → Ascending (entries t)
  tree_up (leaf p es) o = o
  tree_up (node p kids) o = kids_up kids o

  kids_up : (kids : BplusKids) → AreOrdered kids → Ascending (kids_entries kids)
  kids_up (last t) o = tree_up t o.0
  kids_up (more t s kids) o =
      append_up (entries t) (kids_entries kids) (tree_up t o.0) (kids_up kids o.4)
      (λ x y i j. below_up_to x.key s y.key (o.2 x i) (o.3 y j))

abbrev pub pair : Entry → List ℕ × List ℕ
pair e = (e.key, e.body)

abbrev pub key_cmp : List ℕ → List ℕ → Ordering
key_cmp = slice_cmp nat_cmp

abbrev pub at : List ℕ → List ℕ → Entry
at key body = record { key = key; body = body }

below_pairs : (k : List ℕ) (es : List Entry) → ((y : Entry) → In y es → IsBelow k y.key)
    → T (below_all key_cmp k (map pair es))
below_pairs k [] h = tt
below_pairs k (e ∷ es) h =
    both_true _ _ (subst (λ r. T (is_lt r)) (sym (h e (inl refl))) tt)
    (below_pairs k es (λ y i. h y (inr i)))

sorted_pairs : (es : List Entry) → Ascending es → T (fin.is_sorted key_cmp (map pair es))
sorted_pairs [] up = tt
sorted_pairs (e ∷ es) up = both_true _ _ (below_pairs e.key es up.0) (sorted_pairs es up.1)

found_cases : (es : List Entry) (e : Entry) (q : List ℕ) (v : List ℕ) (b : Bool)
    → eq_by_cmp key_cmp q e.key ≡ b
    → (fin.find key_cmp q (map pair es) ≡ Some v → In (at q v) es)
    → cond b (Some e.body) (fin.find key_cmp q (map pair es)) ≡ Some v → In (at q v) (e ∷ es)
found_cases es e q v true is later h =
    let k : q ≡ e.key = same_key q e.key is in
    let w : e.body ≡ v = cc in
    inl (λ i. record { key = k i; body = sym w i })
found_cases es e q v false is later h = inr (later h)

pub found_in : (es : List Entry) (q v : List ℕ) → fin.find key_cmp q (map pair es) ≡ Some v
    → In (at q v) es
found_in [] q v h = let never : ⊥ = cc in absurd never
found_in (e ∷ es) q v h = found_cases es e q v (eq_by_cmp key_cmp q e.key) refl (found_in es q v) h

pub in_found : (es : List Entry) (q v : List ℕ) → Ascending es → In (at q v) es
    → fin.find key_cmp q (map pair es) ≡ Some v
in_found [] q v up i = absurd i
in_found (e ∷ es) q v up (inl s) =
    let k : q ≡ e.key = ap (λ (w : Entry). w.key) s in
    ap (λ b. cond b (Some e.body) (fin.find key_cmp q (map pair es)))
    (ap (λ z. eq_by_cmp key_cmp z e.key) k ∙ tied e.key)
    ∙ ap Some (sym (ap (λ (w : Entry). w.body) s))
in_found (e ∷ es) q v up (inr i) =
    ap (λ b. cond b (Some e.body) (fin.find key_cmp q (map pair es)))
    (other_key q e.key (λ s. differ e.key q (up.0 (at q v) i) (sym s))) ∙ in_found es q v up.1 i

pub same_option : (a b : Option (List ℕ)) → ((v : List ℕ) → a ≡ Some v → b ≡ Some v)
    → ((v : List ℕ) → b ≡ Some v → a ≡ Some v) → a ≡ b
same_option None None f h = refl
same_option None (Some y) f h = h y refl
same_option (Some x) b f h = sym (f x refl)

pub map_entries : (m : LeafMap) (es : List Entry) → Ascending es
    → ((k b : List ℕ) → (get m k ≡ Some b → In (at k b) es) × (In (at k b) es → get m k ≡ Some b))
    → fin.entries m ≡ map pair es
map_entries m es up is =
    ap fin.entries
    (fin.same_map nat_list_cmp_total only_equal m (fin.from_entries (map pair es)) (λ q.
    same_option (get m q) (fin.find key_cmp q (map pair es))
    (λ v h. in_found es q v up ((is q v).0 h))
    (λ v h. (is q v).1 (found_in es q v h))
    ∙ sym (fin.get-from_entries nat_list_cmp_total (map pair es) q)))
    ∙ entries_of_sorted (map pair es) (sorted_pairs es up)

-- ---- what was given

abbrev pub is_under : List ℕ → Option (List ℕ) → Bool
is_under key None = true
is_under key (Some b) = is_below key b

-- the entries inside a span and under a bound
abbrev pub given_under : List ℕ → List ℕ → Option (List ℕ) → List Entry → List LeafEntry
given_under lo hi bound es =
    map given_entry (filter (λ e. is_inside lo hi e.key && is_under e.key bound) es)

selected_cases : (lo hi : List ℕ) (e : Entry) (es : List Entry) (b : Bool)
    → map entry_of (cond b (pair e ∷ filter (λ f. is_inside lo hi f.0) (map pair es))
    (filter (λ f. is_inside lo hi f.0) (map pair es))) ≡ cond b
    (given_entry e ∷ map entry_of (filter (λ f. is_inside lo hi f.0) (map pair es)))
    (map entry_of (filter (λ f. is_inside lo hi f.0) (map pair es)))
selected_cases lo hi e es true = refl
selected_cases lo hi e es false = refl

given_cases : (lo hi : List ℕ) (e : Entry) (es : List Entry) (b : Bool)
    → map given_entry (cond (b && true) (e ∷ filter (λ f. is_inside lo hi f.key && true) es)
    (filter (λ f. is_inside lo hi f.key && true) es)) ≡ cond b (given_entry e
    ∷ given_under lo hi None es) (given_under lo hi None es)
given_cases lo hi e es true = refl
given_cases lo hi e es false = refl

selected_pairs : (lo hi : List ℕ) (es : List Entry)
    → map entry_of (filter (λ f. is_inside lo hi f.0) (map pair es)) ≡ given_under lo hi None es
selected_pairs lo hi [] = refl
selected_pairs lo hi (e ∷ es) =
    selected_cases lo hi e es (is_inside lo hi e.key)
    ∙ ap (λ (xs : List LeafEntry). cond (is_inside lo hi e.key) (given_entry e ∷ xs) xs)
    (selected_pairs lo hi es) ∙ sym (given_cases lo hi e es (is_inside lo hi e.key))

-- all that is inside
pub given_all : (lo hi : List ℕ) (m : LeafMap) (t : BplusTree) → Ordered t
    → ((k b : List ℕ)
    → (get m k ≡ Some b → In (at k b) (entries t)) × (In (at k b) (entries t) → get m k ≡ Some b))
    → given_under lo hi None (entries t) ≡ selected lo hi m
given_all lo hi m t o is =
    sym (selected_pairs lo hi (entries t))
    ∙ ap (λ (xs : List (List ℕ × List ℕ)). map entry_of (filter (λ f. is_inside lo hi f.0) xs))
    (sym (map_entries m (entries t) (tree_up t o) is))

under_of : (key : List ℕ) (bound : Option (List ℕ)) → is_under key bound ≡ true → IsUnder key bound
under_of key None h = tt
under_of key (Some b) h = below_of key b h

is_under_of : (key : List ℕ) (bound : Option (List ℕ)) → IsUnder key bound
    → is_under key bound ≡ true
is_under_of key None h = refl
is_under_of key (Some b) h = is_below_of key b h

map_append : (xs ys : List Entry)
    → map given_entry (xs ++ ys) ≡ map given_entry xs ++ map given_entry ys
map_append [] ys = refl
map_append (x ∷ xs) ys = ap (λ (zs : List LeafEntry). given_entry x ∷ zs) (map_append xs ys)

-- those of the page that was found come next
pub given_next : (lo hi key : List ℕ) (bound : Option (List ℕ)) (t : BplusTree) (es : List Entry)
    → Ordered t
    → Ascending es → IsFound t key bound es
    → given_under lo hi bound (entries t)
    ≡ given_under lo hi (Some key) (entries t) ++ given_from key lo hi es
given_next lo hi key bound t es o up found =
    let all = entries t in
    let p = λ (e : Entry). is_inside lo hi e.key && is_under e.key bound in
    let q = λ (e : Entry). is_inside lo hi e.key && is_under e.key (Some key) in
    let r = is_given key lo hi in
    let lists : filter p all ≡ filter q all ++ filter r es =
    same_list (filter p all) (filter q all ++ filter r es) (filter_up p all (tree_up t o))
    (append_up (filter q all) (filter r es) (filter_up q all (tree_up t o)) (filter_up r es up)
    (λ x y i j.
    let a = ((in_filter q all x).0 i).1 in
    let b = ((in_filter r es y).0 j).1 in
    below_up_to x.key key y.key
    (below_of x.key key (second_so (is_inside lo hi x.key) (is_below x.key key) a))
    (first_so (is_le (slice_cmp nat_cmp key y.key)) (is_inside lo hi y.key) b)))
    (λ x i.
    let a = (in_filter p all x).0 i in
    let inside = first_so (is_inside lo hi x.key) (is_under x.key bound) a.1 in
    let under =
    under_of x.key bound (second_so (is_inside lo hi x.key) (is_under x.key bound) a.1) in
    elim (below_or_not x.key key) [
      | inl l ↦ in_left x (filter q all) (filter r es)
          ((in_filter q all x).1 (
            a.0,
            and_from (is_inside lo hi x.key) (is_below x.key key) inside
                (is_below_of x.key key l),
          ))
      | inr l ↦ in_right x (filter q all) (filter r es)
          ((in_filter r es x).1 (
            found.all x a.0 l under,
            and_from (is_le (slice_cmp nat_cmp key x.key)) (is_inside lo hi x.key) l inside,
          ))
    ])
    (λ x i. (in_filter p all x).1 (elim (in_cases x (filter q all) (filter r es) i) [
      | inl j ↦ (let a = (in_filter q all x).0 j in
          let l = below_of x.key key (second_so (is_inside lo hi x.key) (is_below x.key key) a.1) in (
            a.0,
            and_from (is_inside lo hi x.key) (is_under x.key bound)
                (first_so (is_inside lo hi x.key) (is_below x.key key) a.1)
                (is_under_of x.key bound (under_below x.key key bound l found.to)),
          ))
      | inr j ↦ (let a = (in_filter r es x).0 j in (
        found.among x a.0,
        and_from (is_inside lo hi x.key) (is_under x.key bound)
            (second_so (is_le (slice_cmp nat_cmp key x.key)) (is_inside lo hi x.key) a.1)
            (is_under_of x.key bound (found.under x a.0)),
      ))
    ])) in
    ap (map given_entry) lists ∙ map_append (filter q all) (filter r es)
