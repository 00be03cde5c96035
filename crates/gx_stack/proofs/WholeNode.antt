-- A node whose children were read whole.
use Rattle.std.proofs.Common.{◌≡◌, ◌<◌, ℕ, suc, List, [], ◌∷◌, ◌++◌, Option, Some, None, inl, inr, refl, sym, ◌∙◌, subst, length, map, get_or, arith}
use Rattle.std.specs.Prelude.{is_some, true}
use Rattle.std.proofs.lemmas.Bool.{true≢false}
use Rattle.gx_laws.proofs.ListLemmas.{get_or_any}
use Rattle.gx_values.specs.declared.records.Rec.{Rec}
use Rattle.gx_ports.specs.LeafMaps.{LeafMap, map_at}
use Rattle.gx_mapping.specs.declared.parts.Part.{Part}
use Rattle.gx_mapping.specs.Rule.{Rule, In, IsOf}
use Rattle.gx_mapping.specs.Laws.{MappingLaws}
use Rattle.gx_stack.specs.declared.node.Node.{Node}
use Rattle.gx_stack.specs.declared.node.Node.TheVariants as V
use Rattle.gx_stack.specs.declared.node.LayerNode.{LayerNode}
use Rattle.gx_stack.specs.declared.node.LeafNode.{LeafNode}
use Rattle.gx_stack.specs.Tree.{Tree, tree_form, IsValid}
use Rattle.gx_stack.specs.Seen.{tree_of, kids_from}
use Rattle.gx_stack.specs.Internal.{IsSet, IsInternal, AreInternal, HasSet, child_records}
use Rattle.gx_gather.specs.Gather.{rec_cmp, part_for}
use Rattle.gx_stack.specs.Held.{AreHeld, IsHeld, IsLeafHeld, AreMadeWith, AreJoined}
use Rattle.gx_stack.proofs.Seen.{seen_layer, seen_leaf, layer_form, count_kids, child_there, child_valid, child_internal}
use Rattle.gx_gather.proofs.Lists.{in_cases, from_map}
use Rattle.gx_gather.proofs.Orders.{ascends, ascends_once}
use Rattle.gx_stack.proofs.Same.{internal_of_members}
use Rattle.gx_stack.proofs.Told.{internal_told}
use Rattle.gx_stack.proofs.WholeLayer.{AreRead, IsByMembers, Tells, all_held, none_joined}

-- the child with this number holds the records
abbrev pub ChildHolds : {M : Type 0} (rule : M → Rule) → List (Node M) → List LeafMap → ℕ → List Rec
    → Type 0
ChildHolds {M} rule kids maps d R = (k : Node M) → k ≡ get_or kids d k
    → IsInternal rule (tree_of k) R maps

-- records that were found under one key are one
pub held_set : {M : Type 0} (rule : M → Rule) (t : Tree M) (whole : Type 0) (maps : List LeafMap)
    (found : List Rec) → AreHeld rule t whole maps found → whole → IsSet (tree_form rule t) found
held_set rule t whole maps found are w =
    record {
      fits = are.fit;
      one = λ r s h k e. ascends_once found r s
          (ascends rec_cmp found (are.in_order w)) h k e;
    }

pub found_set : {M : Type 0} (rule : M → Rule) (t : Tree M) (whole : Type 0) (maps : List LeafMap)
    (o : Option (List Rec)) → IsHeld rule t whole maps o → is_some o ≡ true → whole
    → HasSet rule t maps
found_set rule t whole maps None are is w = absurd (true≢false (sym is))
found_set rule t whole maps (Some found) are is w =
    (found, held_set rule t whole maps found are w, are.held w)

-- what one child holds
pub one_holds : {M : Type 0} (rule : M → Rule) (kids : List (Node M)) (c : ℕ) (k : Node M)
    (maps now : List LeafMap) (found : List Rec) → c < length kids → k ≡ get_or kids c k
    → now ≡ maps → IsInternal rule (tree_of k) found now → ChildHolds rule kids maps c found
one_holds {M} rule kids c k maps now found lt read same held = λ k' read'.
    let one : k ≡ k' = read ∙ get_or_any kids c k k' lt ∙ sym read' in
    subst (λ (x : Node M). IsInternal rule (tree_of x) found maps) one
    (subst (IsInternal rule (tree_of k) found) same held)

pub others_fit : (rule : Rule) (c : ℕ) (ps : List Part) (found : List Rec)
    → ((r : Rec) → In r found → IsOf (rule.kid_form c) r)
    → ((p : Part) → In p ps → IsOf (rule.kid_form p.child) p.rec) → (p : Part)
    → In p (ps ++ map (part_for c) found) → IsOf (rule.kid_form p.child) p.rec
others_fit rule c ps found fit before p h = elim (in_cases p ps (map (part_for c) found) h) [
  | inl k ↦ before p k
  | inr k ↦ (let q = from_map (part_for c) p found k in
      subst (λ (x : Part). IsOf (rule.kid_form x.child) x.rec) (sym q.2) (fit q.0 q.1))
]

kids_hold : {M : Type 0} (rule : M → Rule) (maps : List LeafMap) (ns : List (Node M)) (Rs : ℕ
    → List Rec) → ((d : ℕ) → d < length ns → ChildHolds rule ns maps d (Rs d))
    → AreInternal rule (kids_from (map tree_of ns)) Rs maps
kids_hold rule maps [] Rs hold = tt
kids_hold rule maps (n ∷ ns) Rs hold = (
  hold 0 (omega arith) n refl,
  kids_hold rule maps ns (λ d. Rs (suc d))
      (λ d lt k read. hold (suc d) (omega arith) k read),
)

pub leaf_node_held : {M : Type 0} (rule : M → Rule) (n : Node M) (l : LeafNode) → n ≡ V.Leaf l
    → (whole : Type 0) (maps : List LeafMap) (o : Option (List Rec))
    → IsLeafHeld l.form whole (map_at maps l.leaf) o → IsHeld rule (tree_of n) whole maps o
leaf_node_held rule n l is whole maps None none =
    subst (λ t. whole → ¬ HasSet rule t maps) (sym (seen_leaf n l is)) none
leaf_node_held rule n l is whole maps (Some found) some =
    subst (λ t. AreHeld rule t whole maps found) (sym (seen_leaf n l is))
    (record { fit = some.fit; in_order = some.in_order; held = some.held })

module _ {M : Type 0} (rule : M → Rule) (laws : (m : M) → MappingLaws (rule m)) (n : Node M)
    (l : LayerNode M) (is : n ≡ V.Layer l) (valid : IsValid rule (tree_of n))
    (maps : List LeafMap) where
  pub by_members : IsByMembers (rule l.mapping).kids (ChildHolds rule l.kids.items maps)
  by_members d R S lt to from held = λ k read.
      let there = child_there rule n l is d valid lt in
      internal_of_members rule (tree_of k) R S maps (child_valid rule n l is d k valid there read).1
      to from (held k read)

  tells : Tells (rule l.mapping) (ChildHolds rule l.kids.items maps)
  tells d R S lt set_R set_S is_R is_S r h =
      let there = child_there rule n l is d valid lt in
      let k = get_or l.kids.items d n in
      let read : k ≡ get_or l.kids.items d k = get_or_any l.kids.items d n k there in
      let v = child_valid rule n l is d k valid there read in
      internal_told rule laws maps (tree_of k) R S v.1 (subst (λ f. IsSet f R) (sym v.0) set_R)
      (subst (λ f. IsSet f S) (sym v.0) set_S) (is_R k read) (is_S k read) r h

  layer_held : (whole : Type 0) (main others : List Part) (found : List Rec)
      → (whole → AreRead (rule l.mapping) (ChildHolds rule l.kids.items maps)
      (rule l.mapping).kids main others) → AreMadeWith (rule l.mapping) main others found
      → AreHeld rule (tree_of n) whole maps found
  layer_held whole main others found are made = record {
    fit = λ r h. subst (λ f. IsOf f r) (sym (layer_form rule n l is)) (made.made.fit r h);
    in_order = λ w. made.made.in_order;
    held = λ w. subst (λ t. IsInternal rule t found maps) (sym (seen_layer n l is))
        (kids_hold rule maps l.kids.items (λ d. child_records (rule l.mapping) d found) (λ d lt.
        let count : d < (rule l.mapping).kids = omega (arith, lt, kids_many) in
        all_held (laws l.mapping) (ChildHolds rule l.kids.items maps) by_members main others found
        (are w) made d count));
  }
    where
      kids_many : length l.kids.items ≡ (rule l.mapping).kids
      kids_many = (let v = subst (IsValid rule) (seen_layer n l is) valid in
          omega (arith, v.0, count_kids l.kids.items))

  layer_none : (whole : Type 0) (main others : List Part)
      → (whole → AreRead (rule l.mapping) (ChildHolds rule l.kids.items maps)
      (rule l.mapping).kids main others)
      → ((p : Part) → In p main → IsOf ((rule l.mapping).kid_form p.child) p.rec)
      → ((p : Part) → In p others → IsOf ((rule l.mapping).kid_form p.child) p.rec)
      → AreJoined (rule l.mapping) main others None → whole → ¬ HasSet rule (tree_of n) maps
  layer_none whole main others are fit fit_others none w (R, set, held) =
      let set' = subst (λ f. IsSet f R) (layer_form rule n l is) set in
      none_joined (laws l.mapping) (ChildHolds rule l.kids.items maps) tells main others
      (are w) fit fit_others R set'
      (λ d lt k read. child_internal rule n l is d k R maps
      (child_there rule n l is d valid lt) read held) none

  pub layer_joined : (whole : Type 0) (main others : List Part)
      → (whole → AreRead (rule l.mapping) (ChildHolds rule l.kids.items maps)
      (rule l.mapping).kids main others)
      → ((p : Part) → In p main → IsOf ((rule l.mapping).kid_form p.child) p.rec)
      → ((p : Part) → In p others → IsOf ((rule l.mapping).kid_form p.child) p.rec)
      → (o : Option (List Rec)) → AreJoined (rule l.mapping) main others o
      → IsHeld rule (tree_of n) whole maps o
  layer_joined whole main others are fit fit_others None none =
      layer_none whole main others are fit fit_others none
  layer_joined whole main others are fit fit_others (Some found) made =
      layer_held whole main others found are made
