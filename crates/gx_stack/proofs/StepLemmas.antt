-- How many steps it takes to read the leaves of a node: one for each and one for each of its
-- entries.
use Rattle.std.proofs.Common.{◌≡◌, ◌<◌, ◌≤◌, ◌+◌, ◌-◌, ◌^◌, ℕ, zero, suc, Bool, true, false, cond, List, [], ◌∷◌, refl, sym, ap, ◌∙◌, subst, length, map, min, get_or, arith}
use Rattle.std.specs.List.{sum_by, filter}
use Rattle.std.specs.FinMap.{entries, len, len-entries}
use Rattle.std.proofs.lemmas.List.{length-map}
use Rattle.std.proofs.lemmas.List.Sums.{sum_by-append}
use Rattle.gx_values.specs.Keys.{is_inside}
use Rattle.gx_ports.specs.declared.leaves.Entry.{Entry}
use Rattle.gx_ports.specs.LeafMaps.{LeafMap, map_at, entry_of, selected, counted}
use Rattle.gx_stack.specs.declared.node.Node.{Node}
use Rattle.gx_stack.specs.declared.node.Node.TheVariants as V
use Rattle.gx_stack.specs.declared.node.LayerNode.{LayerNode}
use Rattle.gx_stack.specs.declared.node.LeafNode.{LeafNode}
use Rattle.gx_stack.specs.Tree.{Tree, Kids, no_kids, kid, leaves_of, kids_leaves}
use Rattle.gx_stack.specs.Seen.{tree_of, kids_from}
use Rattle.gx_stack.proofs.Seen.{seen_layer, seen_leaf}
use Rattle.gx_stack.proofs.Selects.{plus_one}

-- ---- one leaf

fewer : {A : Type 0} (f : A → Bool) (xs : List A) → length (filter f xs) ≤ length xs
fewer f [] = omega arith
fewer {A} f (x ∷ xs) = go (f x) (fewer f xs)
  where
    go : (b : Bool) → length (filter f xs) ≤ length xs
        → length (cond b (x ∷ filter f xs) (filter f xs)) ≤ length (x ∷ xs)
    go true h = omega (arith, h)
    go false h = omega (arith, h)

selected_fewer : (lo hi : List ℕ) (m : LeafMap) → length (selected lo hi m) ≤ len m
selected_fewer lo hi m =
    let all = filter (λ (e : List ℕ × List ℕ). is_inside lo hi e.0) (entries m) in
    omega (
      arith,
      length-map all entry_of,
      fewer (λ (e : List ℕ × List ℕ). is_inside lo hi e.0)
          (entries m),
      len-entries m,
    )

pub few_read : (before now k : ℕ) (lo hi : List ℕ) (m : LeafMap) (out : List Entry)
    → now ≡ counted before (1 + (length out - k)) → out ≡ selected lo hi m
    → now ≤ before + (1 + len m)
few_read before now k lo hi m out is same =
    omega (
      arith,
      is,
      capped (before + (1 + (length out - k))) (2 ^ 64 - 1),
      ap length same,
      selected_fewer lo hi m,
    )
  where
    capped : (a b : ℕ) → min a b ≤ a
    capped a b = omega arith

-- ---- the leaves of a tree

abbrev pub tree_steps : {M : Type 0} → List LeafMap → Tree M → ℕ
tree_steps maps t = sum_by (λ n. 1 + len (map_at maps n)) (leaves_of t)

-- those of the first children
abbrev pub steps_below : {M : Type 0} → List LeafMap → ℕ → Kids M → ℕ
steps_below maps zero ks = 0
steps_below maps (suc c) no_kids = 0
steps_below maps (suc c) (kid t ks) = tree_steps maps t + steps_below maps c ks

below_all : {M : Type 0} (maps : List LeafMap) (c : ℕ) (ks : Kids M)
    → steps_below maps c ks ≤ sum_by (λ n. 1 + len (map_at maps n)) (kids_leaves ks)
below_all maps zero ks = omega arith
below_all maps (suc c) no_kids = omega arith
below_all maps (suc c) (kid t ks) =
    omega (
      arith,
      below_all maps c ks,
      sum_by-append (λ n. 1 + len (map_at maps n)) (leaves_of t)
          (kids_leaves ks),
    )

below_more : {M : Type 0} (maps : List LeafMap) (ns : List (Node M)) (c : ℕ) (n : Node M)
    → c < length ns → steps_below maps (c + 1) (kids_from (map tree_of ns)) ≡ steps_below maps c
    (kids_from (map tree_of ns)) + tree_steps maps (tree_of (get_or ns c n))
below_more {M} maps ns c n l =
    ap (λ k. steps_below maps k (kids_from (map tree_of ns))) (plus_one c) ∙ go ns c l
  where
    go : (ns : List (Node M)) (c : ℕ) → c < length ns
        → steps_below maps (suc c) (kids_from (map tree_of ns)) ≡ steps_below maps c
        (kids_from (map tree_of ns)) + tree_steps maps (tree_of (get_or ns c n))
    go [] c l = absurd (omega arith)
    go (x ∷ ns) zero l = omega arith
    go (x ∷ ns) (suc c) l =
        let later = go ns c (omega arith) in
        let left : steps_below maps (suc (suc c)) (kids_from (map tree_of (x ∷ ns)))
        ≡ tree_steps maps (tree_of x) + steps_below maps (suc c) (kids_from (map tree_of ns)) =
        refl in
        let right : steps_below maps (suc c) (kids_from (map tree_of (x ∷ ns))) ≡ tree_steps maps
        (tree_of x) + steps_below maps c (kids_from (map tree_of ns)) = refl in
        omega (arith, later, left, right)

pub leaf_steps : {M : Type 0} (n : Node M) (l : LeafNode) (maps : List LeafMap) → n ≡ V.Leaf l
    → tree_steps maps (tree_of n) ≡ 1 + len (map_at maps l.leaf)
leaf_steps n l maps is = ap (tree_steps maps) (seen_leaf n l is) ∙ sum_by-one
  where
    sum_by-one : sum_by (λ k. 1 + len (map_at maps k)) (l.leaf ∷ []) ≡ 1 + len (map_at maps l.leaf)
    sum_by-one = omega arith

module _ {M : Type 0} (n : Node M) (l : LayerNode M) (is : n ≡ V.Layer l)
    (maps : List LeafMap) where
  pub layer_steps : (c : ℕ)
      → steps_below maps c (kids_from (map tree_of l.kids.items)) ≤ tree_steps maps (tree_of n)
  layer_steps c = subst (λ t. steps_below maps c (kids_from (map tree_of l.kids.items)) ≤ tree_steps
      maps t) (sym (seen_layer n l is)) (below_all maps c (kids_from (map tree_of l.kids.items)))

  -- with one child more
  pub child_steps : (c : ℕ) (k : Node M) → c < length l.kids.items → k ≡ get_or l.kids.items c k
      → steps_below maps (c + 1) (kids_from (map tree_of l.kids.items)) ≡ steps_below maps c
      (kids_from (map tree_of l.kids.items)) + tree_steps maps (tree_of k)
  child_steps c k there read = below_more maps l.kids.items c k there
      ∙ ap (λ x. steps_below maps c (kids_from (map tree_of l.kids.items)) + tree_steps maps
      (tree_of x)) (sym read)
