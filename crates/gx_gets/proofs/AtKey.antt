-- At the key of a record the leaf of each of its fragments has the entries of the fragment, in
-- their order, and no others.
use Rattle.std.proofs.Common.{◌≡◌, ◌∙◌, ℕ, suc, ◌+◌, ◌<◌, ◌≤◌, ◌^◌, List, [], ◌∷◌, ◌++◌, map, length, Bool, true, false, if◌then◌else◌, Option, Some, None, inl, inr, refl, sym, ap, subst, arith, pos}
use Rattle.std.specs.Prelude.{T}
use Rattle.std.specs.FinMap as fin
use Rattle.std.specs.FinMap.Entries.{below_all}
use Rattle.std.specs.Int.{w64}
use Rattle.std.specs.Int.RustNames.{FitsSigned}
use Rattle.std.specs.List.{filter, AllByRecursion}
use Rattle.std.specs.Ordering.{nat_cmp, int_cmp, ordering_then}
use Rattle.std.specs.declared.cmp.Ordering.{Ordering}
use Rattle.std.specs.declared.cmp.Ordering.TheVariants.{Less}
use Rattle.std.specs.Cmp.{tied_itself, int_cmp_is}
use Rattle.std.specs.Cmp.Lexicographic.{slice_cmp, nat_list_cmp_total}
use Rattle.std.proofs.lemmas.Cmp.{on_total}
use Rattle.std.proofs.lemmas.Int.{ints}
use Rattle.std.proofs.lemmas.Grind.{flat_map-append}
use Rattle.gx_laws.proofs.BoolLemmas.{first_of_both, second_of_both}
use Rattle.gx_laws.proofs.OrderingLemmas.{is_less}
use Rattle.gx_order.proofs.OrderLemmas.{front_order}
use Rattle.gx_values.specs.declared.keys.Span.{Span}
use Rattle.gx_values.specs.declared.records.Rec.{Rec}
use Rattle.gx_values.specs.declared.values.Kind.TheVariants as kind
use Rattle.gx_values.specs.declared.values.Value.{Value}
use Rattle.gx_values.specs.declared.values.Value.TheVariants as value
use Rattle.gx_values.specs.Keys.{bytes_of, key_of, is_inside}
use Rattle.gx_values.proofs.OrderLemmas.{key_order}
use Rattle.gx_ports.specs.declared.leaves.Entry.{Entry}
use Rattle.gx_ports.specs.LeafMaps.{LeafMap, map_at, entry_of, selected}
use Rattle.gx_mapping.specs.declared.parts.Part.{Part}
use Rattle.gx_mapping.specs.Rule.{Rule, In}
use Rattle.gx_gather.proofs.Lists.{in_map, from_map, from_each, in_each}
use Rattle.gx_gather.proofs.Orders.{Ascends, ascends_unique, ascends_filter}
use Rattle.gx_divide.specs.Pieces.{pieces}
use Rattle.gx_divide.specs.Rules.{bytes_in, numbered}
use Rattle.gx_stack.specs.declared.entries.LeafEntry.{LeafEntry}
use Rattle.gx_stack.specs.Tree.{Tree, entry_in}
use Rattle.gx_access.specs.declared.access.Fragment.{Fragment}
use Rattle.gx_access.specs.Access.{Choice, fragments_of, fragments_entries, fragment_entries, leaf_entries, is_absent, seen}
use Rattle.gx_access.specs.Held.{IsHeldInside, leaf_pair}
use Rattle.gx_access.specs.Whole.{data_leaves}
use Rattle.gx_gets.specs.AtKey.{IsOneInside, NoneInside, AreFew}

abbrev Pair : Type 0
Pair = List ℕ × List ℕ

abbrev pair_cmp : Pair → Pair → Ordering
pair_cmp a b = slice_cmp nat_cmp a.0 b.0

-- ---- the order of entries

module _ {K X : Type 0} (R : K → K → Ordering) where
  below_each : (x : K) (es : List (K × X)) → T (below_all R x es)
      → AllByRecursion (λ e. R x e.0 ≡ Less) es
  below_each x [] h = tt
  below_each x (e ∷ es) h =
      (is_less _ (first_of_both _ _ h), below_each x es (second_of_both _ _ h))

  entries_ascend : (es : List (K × X)) → T (fin.is_sorted R es) → Ascends (λ a b. R a.0 b.0) es
  entries_ascend [] h = tt
  entries_ascend (e ∷ es) h =
      (below_each e.0 es (first_of_both _ _ h), entries_ascend es (second_of_both _ _ h))

fits_int : (n : ℕ) → n < 2 ^ 63 → FitsSigned w64 (pos n)
fits_int n lt = record { sfits = omega arith }

numbers : (i j : ℕ) → i < j → int_cmp (pos i) (pos j) ≡ Less
numbers i j less = sym (int_cmp_is (pos i) (pos j) Less (grind (arith, ints, less)))

abbrev piece_pair : List Value → ℕ → List ℕ → Pair
piece_pair key j p = (key_of (key ++ value.Int (pos j) ∷ []), p)

number_before : (key : List Value) (i j : ℕ) (p q : List ℕ) → i < j → j < 2 ^ 63
    → pair_cmp (piece_pair key i p) (piece_pair key j q) ≡ Less
number_before key i j p q less small =
    let lower : i < 2 ^ 63 = omega arith in
    let one = value.Int (pos i) ∷ [] in
    let other = value.Int (pos j) ∷ [] in
    (λ h. slice_cmp nat_cmp (flat_map-append bytes_of key one h) (flat_map-append bytes_of key other h))
    ∙ front_order (key_of key) (key_of key) (key_of one) (key_of other) refl
    ∙ ap (λ o. ordering_then o (slice_cmp nat_cmp (key_of one) (key_of other)))
    (tied_itself nat_list_cmp_total (key_of key))
    ∙ front_order (bytes_of (value.Int (pos i))) (bytes_of (value.Int (pos j))) [] [] refl
    ∙ ap (λ o. ordering_then o (slice_cmp nat_cmp [] []))
    (key_order kind.Int (value.Int (pos i)) (value.Int (pos j)) tt (fits_int i lower)
    (fits_int j small) ∙ numbers i j less)

abbrev pair_in : LeafEntry → Pair
pair_in e = (e.key, e.body)

abbrev numbered_pairs : ℕ → List Value → ℕ → List (List ℕ) → List Pair
numbered_pairs n key j ps =
    map pair_in (map (λ (p : Part). entry_in n p.rec) (numbered key j ps))

numbers_after : (n : ℕ) (key : List Value) (i j : ℕ) (p : List ℕ) (ps : List (List ℕ)) → i < j
    → j + length ps ≤ 2 ^ 63
    → AllByRecursion (λ e. pair_cmp (piece_pair key i p) e ≡ Less) (numbered_pairs n key j ps)
numbers_after n key i j p [] less small = tt
numbers_after n key i j p (q ∷ ps) less small =
    let next : suc j + length ps ≤ 2 ^ 63 = omega (arith, small) in
    let here : j < 2 ^ 63 = omega (arith, small) in
    let further : i < suc j = omega (arith, less) in
    (number_before key i j p q less here, numbers_after n key i (suc j) p ps further next)

numbers_ascend : (n : ℕ) (key : List Value) (j : ℕ) (ps : List (List ℕ))
    → j + length ps ≤ 2 ^ 63 → Ascends pair_cmp (numbered_pairs n key j ps)
numbers_ascend n key j [] small = tt
numbers_ascend n key j (p ∷ ps) small =
    let next : suc j + length ps ≤ 2 ^ 63 = omega (arith, small) in
    let less : j < suc j = omega arith in
    (numbers_after n key j (suc j) p ps less next, numbers_ascend n key (suc j) ps next)

leaf_ascends : (n : ℕ) (piece : Option ℕ) (q : Rec) → AreFew piece q
    → Ascends pair_cmp (map pair_in (leaf_entries n piece q))
leaf_ascends n None q few = (tt, tt)
leaf_ascends n (Some size) q few =
    numbers_ascend n q.key 0 (pieces size (bytes_in q.fields)) (omega (arith, few))

-- ---- the leaf of an entry

piece_leaf : (n : ℕ) (key : List Value) (j : ℕ) (ps : List (List ℕ)) (e : LeafEntry)
    → In e (map (λ (p : Part). entry_in n p.rec) (numbered key j ps)) → e.leaf ≡ n
piece_leaf n key j [] e h = absurd h
piece_leaf n key j (p ∷ ps) e (inl is) = ap (λ (x : LeafEntry). x.leaf) is
piece_leaf n key j (p ∷ ps) e (inr h) = piece_leaf n key (suc j) ps e h

leaf_is : (n : ℕ) (piece : Option ℕ) (q : Rec) (e : LeafEntry) → In e (leaf_entries n piece q)
    → e.leaf ≡ n
leaf_is n None q e (inl is) = ap (λ (x : LeafEntry). x.leaf) is
leaf_is n None q e (inr h) = absurd h
leaf_is n (Some size) q e h = piece_leaf n q.key 0 (pieces size (bytes_in q.fields)) e h

pub fragment_leaf : (r : Rec) (f : Fragment) (e : LeafEntry) → In e (fragment_entries r f)
    → e.leaf ≡ f.leaf
fragment_leaf r f e h = go (is_absent f.view.groups r.fields) h
  where
    go : (b : Bool) → In e (if b then [] else leaf_entries f.leaf f.piece (seen f.view r))
        → e.leaf ≡ f.leaf
    go true h = absurd h
    go false h = leaf_is f.leaf f.piece (seen f.view r) e h

fragment_ascends : (r : Rec) (f : Fragment) → AreFew f.piece (seen f.view r)
    → Ascends pair_cmp (map pair_in (fragment_entries r f))
fragment_ascends r f few = go (is_absent f.view.groups r.fields)
  where
    go : (b : Bool) → Ascends pair_cmp
        (map pair_in (if b then [] else leaf_entries f.leaf f.piece (seen f.view r)))
    go true = tt
    go false = leaf_ascends f.leaf f.piece (seen f.view r) few

pairs_are : (es : List LeafEntry) → map entry_of (map pair_in es) ≡ map leaf_pair es
pairs_are [] = refl
pairs_are (e ∷ es) = ap (λ ps. leaf_pair e ∷ ps) (pairs_are es)

abbrev pair_of : Entry → Pair
pair_of e = (e.key, e.body)

-- ---- at the key of a record

module _ {M : Type 0} (rule : M → Rule) (t : Tree M) (ch : Choice) (R : List Rec)
    (maps : List LeafMap) (span : Span) (held : IsHeldInside rule t ch R maps span)
    (r : Rec) (is : IsOneInside span R r)
    (f : Fragment) (there : In f (fragments_of ch r)) (leaf_in : In f.leaf (data_leaves rule t))
    (alone : (g : Fragment) → In g (fragments_of ch r) → g.leaf ≡ f.leaf → g ≡ f)
    (few : AreFew f.piece (seen f.view r)) where
  abbrev chosen : List Pair
  chosen = filter (λ (e : Pair). is_inside span.lo span.hi e.0) (fin.entries (map_at maps f.leaf))

  found_is : (e : Pair) → In e chosen → In e (map pair_in (fragment_entries r f))
  found_is e h =
      let q = held.only f.leaf (entry_of e) leaf_in (in_map entry_of e chosen h) in
      let l : LeafEntry = record { leaf = f.leaf; key = e.0; body = e.1 } in
      let here : In l (fragments_entries (fragments_of ch r) r) =
      subst (λ (x : Rec). In l (fragments_entries (fragments_of ch x) x)) (is.one q.0 q.1 q.2) q.3 in
      let g = from_each (fragment_entries r) l (fragments_of ch r) here in
      let same = alone g.0 g.1 (sym (fragment_leaf r g.0 l g.2)) in
      in_map pair_in l (fragment_entries r f)
      (subst (λ (x : Fragment). In l (fragment_entries r x)) same g.2)

  is_found : (e : Pair) → In e (map pair_in (fragment_entries r f)) → In e chosen
  is_found e h =
      let l = from_map pair_in e (fragment_entries r f) h in
      let leaf_same = fragment_leaf r f l.0 l.1 in
      let s = held.there r l.0 is.among is.inside
      (in_each (fragment_entries r) f l.0 (fragments_of ch r) there l.1) in
      let p = from_map entry_of (leaf_pair l.0) (filter (λ (e : Pair).
      is_inside span.lo span.hi e.0) (fin.entries (map_at maps l.0.leaf))) s in
      let same : p.0 ≡ e = sym (ap pair_of p.2) ∙ sym l.2 in
      subst (λ (x : Pair). In x chosen) same
      (subst (λ n. In p.0 (filter (λ (e : Pair). is_inside span.lo span.hi e.0)
      (fin.entries (map_at maps n)))) leaf_same p.1)

  pub at_key : selected span.lo span.hi (map_at maps f.leaf)
      ≡ map leaf_pair (fragment_entries r f)
  at_key =
      ap (map entry_of) (ascends_unique (on_total (λ (e : Pair). e.0) nat_list_cmp_total) chosen
      (map pair_in (fragment_entries r f))
      (ascends_filter pair_cmp (λ (e : Pair). is_inside span.lo span.hi e.0)
      (fin.entries (map_at maps f.leaf))
      (entries_ascend (slice_cmp nat_cmp) (fin.entries (map_at maps f.leaf))
      (fin.entries_sorted (map_at maps f.leaf))))
      (fragment_ascends r f few) found_is is_found)
      ∙ pairs_are (fragment_entries r f)

-- at the key of no record the data leaves have no entry
module _ {M : Type 0} (rule : M → Rule) (t : Tree M) (ch : Choice) (R : List Rec)
    (maps : List LeafMap) (span : Span) (held : IsHeldInside rule t ch R maps span)
    (none : NoneInside span R) where
  pub at_no_key : (n : ℕ) → In n (data_leaves rule t)
      → selected span.lo span.hi (map_at maps n) ≡ []
  at_no_key n leaf_in = empty (selected span.lo span.hi (map_at maps n))
      (λ e h. let q = held.only n e leaf_in h in none q.0 q.1 q.2)
    where
      empty : (es : List Entry) → ((e : Entry) → In e es → ⊥) → es ≡ []
      empty [] nothing = refl
      empty (e ∷ es) nothing = absurd (nothing e (inl refl))
