-- Records that have an entry in one leaf and may have one in a second.
use Rattle.std.proofs.Common.{◌≡◌, ℕ, ◌<◌, List, [], ◌∷◌, ◌++◌, length, get_or, map, Bool, true, false, cond, Option, Some, None, inl, inr, refl, sym, ap, subst, append-nil, ◌∙◌, arith, ◌≢◌}
use Rattle.std.specs.Prelude.{not}
use Rattle.std.specs.List.{flat_map}
use Rattle.std.proofs.lemmas.Option.{same_Some}
use Rattle.gx_values.specs.declared.records.Rec.{Rec}
use Rattle.gx_values.specs.declared.values.Value.{Value}
use Rattle.gx_values.specs.Keys.{key_of}
use Rattle.gx_mapping.specs.declared.parts.Part.{Part}
use Rattle.gx_mapping.specs.Rule.{In}
use Rattle.gx_split.specs.declared.layer.Segment.{Segment}
use Rattle.gx_split.specs.Groups.{chosen, are_default}
use Rattle.gx_split.specs.SegmentRules.{is_short, other_part}
use Rattle.gx_stack.specs.declared.entries.LeafEntry.{LeafEntry}
use Rattle.gx_stack.specs.declared.node.Node.{Node}
use Rattle.gx_stack.specs.declared.node.LayerNode.{LayerNode}
use Rattle.gx_stack.specs.declared.node.Node.TheVariants as nodes
use Rattle.gx_stack.specs.Tree.{Tree, Kids, leaf, layer, no_kids, kid, IsValid, AreValid, leaves_of, kids_leaves, tree_form, entries_of, kid_entries}
use Rattle.gx_stack.specs.Seen.{tree_of, kids_from}
use Rattle.gx_stack.proofs.Seen.{seen_layer, child_valid, layer_part}
use Rattle.gx_gather.proofs.Lists.{in_left, in_right, none_some}
use Rattle.gx_types.specs.declared.any.AnyMapping.{AnyMapping}
use Rattle.gx_types.specs.declared.any.AnyMapping.TheVariants as any
use Rattle.gx_types.specs.Any.{any_rule, any_laws}
use Rattle.gx_entries.specs.Entries.{IsOnlyLeaf, Splits, AreTwoLeaves, AreOwnLeaves, AreDataOf, IsOnlyBody, IsFirstBody, AreBodies, other_entry, others_of, others_in, others_below}
use Rattle.gx_entries.proofs.OneLemmas.{only_in_tree, body_in, one_entry, HasOwn, only_has}

-- ---- the entries of a record

split_of : (m : AnyMapping) → Splits m → (x : Segment) × (m ≡ any.Segment x)
split_of (any.Segment x) splits = (x, refl)
split_of (any.Actual x) splits = absurd splits
split_of (any.Encode x) splits = absurd splits
split_of (any.Transpose x) splits = absurd splits
split_of (any.Partition x) splits = absurd splits
split_of (any.Divide x) splits = absurd splits
split_of (any.Index x) splits = absurd splits

abbrev first_rec : Segment → Rec → Rec
first_rec x r = record { key = r.key; fields = chosen x.mask r.fields }

abbrev other_rec : Segment → Rec → Rec
other_rec x r = record { key = r.key; fields = chosen (map not x.mask) r.fields }

segment_entries : (x : Segment) (a b : Tree AnyMapping) (ks : Kids AnyMapping) (r : Rec)
    → entries_of any_rule (layer (any.Segment x) (kid a (kid b ks))) r ≡ entries_of any_rule a
    (first_rec x r) ++ cond (is_short x.mask x.form r) [] (entries_of any_rule b (other_rec x r))
segment_entries x a b ks r =
    ap (λ (es : List LeafEntry). entries_of any_rule a (first_rec x r) ++ es)
    (rest (is_short x.mask x.form r))
  where
    rest : (s : Bool) → flat_map (λ (p : Part). kid_entries any_rule (kid a (kid b ks)) p.child
        p.rec) (cond s [] (other_part x.mask r ∷ [])) ≡ cond s []
        (entries_of any_rule b (other_rec x r))
    rest true = refl
    rest false = append-nil (entries_of any_rule b (other_rec x r))

-- the body of the second entry, by the values of the second group
abbrev pub other_body : Tree AnyMapping → List Value → Option (List ℕ)
other_body (layer (any.Segment x) (kid a (kid b ks))) others =
    cond (are_default (chosen (map not x.mask) x.form.fields) others) None (Some (body_in b others))
other_body _ others = None

-- one in the first leaf, and maybe one in the second
abbrev pub HasShape : Tree AnyMapping → ℕ → ℕ → Rec → Type 0
HasShape t n k r = (body : List ℕ) × (entries_of any_rule t r
    ≡ record { leaf = n; key = key_of r.key; body = body }
    ∷ other_entry k (key_of r.key) (other_body t (others_in t r.fields)))

segment_shape : (x : Segment) (a b : Tree AnyMapping) (ks : Kids AnyMapping) (n k : ℕ)
    → IsOnlyLeaf a n → IsOnlyLeaf b k → (r : Rec)
    → HasShape (layer (any.Segment x) (kid a (kid b ks))) n k r
segment_shape x a b ks n k first second r = (
  body_in a (first_rec x r).fields,
  segment_entries x a b ks r
      ∙ (λ i. one_entry a n first (first_rec x r) i ++ rest (is_short x.mask x.form r) i),
)
  where
    rest : (s : Bool) → cond s [] (entries_of any_rule b (other_rec x r)) ≡ other_entry k
        (key_of r.key) (cond s None (Some (body_in b (chosen (map not x.mask) r.fields))))
    rest true = refl
    rest false = one_entry b k second (other_rec x r)

pub two_shape : (t : Tree AnyMapping) (n k : ℕ) → AreTwoLeaves t n k → (r : Rec) → HasShape t n k r
two_shape (leaf i form) n k two r = absurd two
two_shape (layer m no_kids) n k two r = absurd two
two_shape (layer m (kid a no_kids)) n k two r = absurd two
two_shape (layer m (kid a (kid b ks))) n k two r =
    let split = split_of m two.0 in
    subst (λ (x : AnyMapping). HasShape (layer x (kid a (kid b ks))) n k r) (sym split.1)
    (segment_shape split.0 a b ks n k two.1 two.2 r)

pub first_in_tree : (t : Tree AnyMapping) (n k : ℕ) → AreTwoLeaves t n k → In n (leaves_of t)
first_in_tree (leaf i form) n k two = absurd two
first_in_tree (layer m no_kids) n k two = absurd two
first_in_tree (layer m (kid a no_kids)) n k two = absurd two
first_in_tree (layer m (kid a (kid b ks))) n k two =
    in_left n (leaves_of a) (kids_leaves (kid b ks)) (only_in_tree a n two.1)

pub second_in_tree : (t : Tree AnyMapping) (n k : ℕ) → AreTwoLeaves t n k → In k (leaves_of t)
second_in_tree (leaf i form) n k two = absurd two
second_in_tree (layer m no_kids) n k two = absurd two
second_in_tree (layer m (kid a no_kids)) n k two = absurd two
second_in_tree (layer m (kid a (kid b ks))) n k two =
    in_right k (leaves_of a) (kids_leaves (kid b ks))
    (in_left k (leaves_of b) (kids_leaves ks) (only_in_tree b k two.2))

kids_valid : (m : AnyMapping) (ks : Kids AnyMapping) → IsValid any_rule (layer m ks)
    → AreValid any_rule (any_rule m).kid_form ks
kids_valid m ks valid = valid.1

-- they are different leaves
pub two_apart : (t : Tree AnyMapping) (n k : ℕ) → AreTwoLeaves t n k → IsValid any_rule t → n ≢ k
two_apart (leaf i form) n k two valid same = absurd two
two_apart (layer m no_kids) n k two valid same = absurd two
two_apart (layer m (kid a no_kids)) n k two valid same = absurd two
two_apart (layer m (kid a (kid b ks))) n k two valid same =
    let each = kids_valid m (kid a (kid b ks)) valid in
    each.2 n (only_in_tree a n two.1)
    (in_left n (leaves_of b) (kids_leaves ks)
    (subst (λ (j : ℕ). In j (leaves_of b)) (sym same) (only_in_tree b k two.2)))

own_key : (n k : ℕ) (key body : List ℕ) (other : Option (List ℕ)) (e : LeafEntry)
    → In e (record { leaf = n; key = key; body = body } ∷ other_entry k key other) → e.key ≡ key
own_key n k key body other e (inl is) = ap (λ (y : LeafEntry). y.key) is
own_key n k key body None e (inr none) = absurd none
own_key n k key body (Some b) e (inr (inl is)) = ap (λ (y : LeafEntry). y.key) is
own_key n k key body (Some b) e (inr (inr none)) = absurd none

pub two_has : (t : Tree AnyMapping) (n k : ℕ) → AreTwoLeaves t n k → HasOwn t n
two_has t n k two = record {
  among = first_in_tree t n k two;
  entry = λ r. (
      let shape = two_shape t n k two r in (
        shape.0,
        subst (In (record { leaf = n; key = key_of r.key; body = shape.0 })) (sym shape.1)
            (inl refl),
      ));
  key = λ r e h. (
      let shape = two_shape t n k two r in
      own_key n k (key_of r.key) shape.0 (other_body t (others_in t r.fields)) e
      (subst (In e) shape.1 h));
}

pub own_has : (t : Tree AnyMapping) (n : ℕ) (second : Option ℕ) → AreOwnLeaves t n second
    → HasOwn t n
own_has t n None only = only_has t n only
own_has t n (Some k) two = two_has t n k two

-- ---- bodies of a record without the record

-- the body of the values of the second group, where they are stored
abbrev pub IsOtherBody : Tree AnyMapping → Option (List Value) → Option (List ℕ) → Type 0
IsOtherBody b None None = Unit {0}
IsOtherBody b None (Some body) = ⊥
IsOtherBody b (Some values) None = ⊥
IsOtherBody b (Some values) (Some body) = IsOnlyBody b values body

segment_bodies : (x : Segment) (a b : Tree AnyMapping) (ks : Kids AnyMapping) (fields : List Value)
    (rest : Option (List Value)) (body : List ℕ) (other : Option (List ℕ))
    → rest ≡ others_of x fields → IsOnlyBody a (chosen x.mask fields) body
    → IsOtherBody b rest other
    → AreBodies (layer (any.Segment x) (kid a (kid b ks))) fields body other
segment_bodies x a b ks fields rest body other rest_is first second = λ n k key two.
    let r : Rec = record { key = key; fields = fields } in
    segment_entries x a b ks r ∙ (λ i. first n key two.1 i ++ more k key two.2
    (is_short x.mask x.form r) rest other rest_is second i)
  where
    more : (k : ℕ) (key : List Value) → IsOnlyLeaf b k
        → (s : Bool) (rest : Option (List Value)) (other : Option (List ℕ))
        → rest ≡ cond s None (Some (chosen (map not x.mask) fields)) → IsOtherBody b rest other
        → cond s [] (entries_of any_rule b
        (record { key = key; fields = chosen (map not x.mask) fields })) ≡ other_entry k
        (key_of key) other
    more k key only true None None is has = refl
    more k key only true None (Some body) is has = absurd has
    more k key only true (Some values) other is has = absurd (none_some values (sym is))
    more k key only false None other is has = absurd (none_some (chosen (map not x.mask) fields) is)
    more k key only false (Some values) None is has = absurd has
    more k key only false (Some values) (Some body) is has =
        ap (λ (vs : List Value). entries_of any_rule b (record { key = key; fields = vs }))
        (sym (same_Some values (chosen (map not x.mask) fields) is)) ∙ has k key only

segment_first : (x : Segment) (a b : Tree AnyMapping) (ks : Kids AnyMapping) (fields : List Value)
    (body : List ℕ) → IsOnlyBody a (chosen x.mask fields) body
    → IsFirstBody (layer (any.Segment x) (kid a (kid b ks))) fields body
segment_first x a b ks fields body first = λ n k key two.
    let r : Rec = record { key = key; fields = fields } in
    let e : LeafEntry = record { leaf = n; key = key_of key; body = body } in
    subst (In e) (sym (segment_entries x a b ks r))
    (in_left e (entries_of any_rule a (first_rec x r))
    (cond (is_short x.mask x.form r) [] (entries_of any_rule b (other_rec x r)))
    (subst (In e) (sym (first n key two.1)) (inl refl)))

pub read_second : (ks : List (Node AnyMapping)) (w z : Node AnyMapping) → 1 < length ks
    → w ≡ get_or ks 1 w → z ≡ get_or ks 1 z → w ≡ z
read_second [] w z lt is_w is_z = absurd (omega arith)
read_second (q ∷ []) w z lt is_w is_z = absurd (omega arith)
read_second (q ∷ v ∷ ks) w z lt is_w is_z = is_w ∙ sym is_z

module _ (node : Node AnyMapping) (l : LayerNode AnyMapping) (is : node ≡ nodes.Layer l) where
  pub two_kids : (n k : ℕ) → AreTwoLeaves (tree_of node) n k → 1 < length l.kids.items
  two_kids n k two =
      many l.kids.items (subst (λ (t : Tree AnyMapping). AreTwoLeaves t n k) (seen_layer node l is)
      two)
    where
      many : (ks : List (Node AnyMapping))
          → AreTwoLeaves (layer l.mapping (kids_from (map tree_of ks))) n k → 1 < length ks
      many [] two = absurd two
      many (q ∷ []) two = absurd two
      many (q ∷ w ∷ ks) two = omega arith

  pub first_only : (n k : ℕ) (q : Node AnyMapping) → q ≡ get_or l.kids.items 0 q
      → AreTwoLeaves (tree_of node) n k → IsOnlyLeaf (tree_of q) n
  first_only n k q read two =
      below l.kids.items read (subst (λ (t : Tree AnyMapping). AreTwoLeaves t n k)
      (seen_layer node l is) two)
    where
      below : (ks : List (Node AnyMapping)) → q ≡ get_or ks 0 q
          → AreTwoLeaves (layer l.mapping (kids_from (map tree_of ks))) n k
          → IsOnlyLeaf (tree_of q) n
      below [] read two = absurd two
      below (y ∷ []) read two = absurd two
      below (y ∷ v ∷ ks) read two =
          subst (λ (z : Node AnyMapping). IsOnlyLeaf (tree_of z) n) (sym read) two.1

  pub first_valid : (n k : ℕ) (q : Node AnyMapping) → q ≡ get_or l.kids.items 0 q
      → AreTwoLeaves (tree_of node) n k → IsValid any_rule (tree_of node)
      → IsValid any_rule (tree_of q)
  first_valid n k q read two valid =
      (child_valid any_rule node l is 0 q valid (omega (arith, two_kids n k two)) read).1

  pub second_only : (n k : ℕ) (w : Node AnyMapping) → w ≡ get_or l.kids.items 1 w
      → AreTwoLeaves (tree_of node) n k → IsOnlyLeaf (tree_of w) k
  second_only n k w read two =
      below l.kids.items read (subst (λ (t : Tree AnyMapping). AreTwoLeaves t n k)
      (seen_layer node l is) two)
    where
      below : (ks : List (Node AnyMapping)) → w ≡ get_or ks 1 w
          → AreTwoLeaves (layer l.mapping (kids_from (map tree_of ks))) n k
          → IsOnlyLeaf (tree_of w) k
      below [] read two = absurd two
      below (q ∷ []) read two = absurd two
      below (q ∷ v ∷ ks) read two =
          subst (λ (y : Node AnyMapping). IsOnlyLeaf (tree_of y) k) (sym read) two.2

  module _ (x : Segment) (seg : l.mapping ≡ any.Segment x) (fields : List Value)
      (valid : IsValid any_rule (tree_of node))
      (has : AreDataOf (tree_form any_rule (tree_of node)) fields) where
    pub first_ready : (q : Node AnyMapping) (vs : List Value) → q ≡ get_or l.kids.items 0 q
        → vs ≡ chosen x.mask fields → AreDataOf (tree_form any_rule (tree_of q)) vs
    first_ready q vs read is_vs =
        let p : Part = record { child = 0; rec = record { key = has.0; fields = vs } } in
        let among : In p ((any_rule l.mapping).parts (record { key = has.0; fields = fields })) =
        subst (λ (m : AnyMapping). In p
        ((any_rule m).parts (record { key = has.0; fields = fields }))) (sym seg)
        (inl (λ i. record { child = 0; rec = record { key = has.0; fields = is_vs i } })) in
        let part = layer_part any_rule node l is (any_laws l.mapping)
        (record { key = has.0; fields = fields }) p valid has.1 among in
        (has.0, (part.1 q read).1)

    pub second_ready : (w : Node AnyMapping) (vs : List Value) → w ≡ get_or l.kids.items 1 w
        → Some vs ≡ others_of x fields → IsValid any_rule (tree_of w)
        × AreDataOf (tree_form any_rule (tree_of w)) vs
    second_ready w vs read is_vs =
        let r : Rec = record { key = has.0; fields = fields } in
        let p : Part = record { child = 1; rec = record { key = has.0; fields = vs } } in
        let among : In p ((any_rule l.mapping).parts r) =
        subst (λ (m : AnyMapping). In p ((any_rule m).parts r)) (sym seg)
        (inr (stored (is_short x.mask x.form r) is_vs)) in
        let part = layer_part any_rule node l is (any_laws l.mapping) r p valid has.1 among in
        let both = part.1 w read in
        (both.0, (has.0, both.1))
      where
        stored : (s : Bool) → Some vs ≡ cond s None (Some (chosen (map not x.mask) fields))
            → In (record { child = 1; rec = record { key = has.0; fields = vs } })
            (cond s [] (other_part x.mask (record { key = has.0; fields = fields }) ∷ []))
        stored true e = absurd (none_some vs (sym e))
        stored false e =
            inl (λ i. record {
              child = 1;
              rec = record {
                key = has.0;
                fields = same_Some vs
                    (chosen (map not x.mask) fields) e i;
              };
            })

    pub node_bodies : (q : Node AnyMapping) (rest : Option (List Value)) (body : List ℕ)
        (other : Option (List ℕ)) → q ≡ get_or l.kids.items 0 q → rest ≡ others_of x fields
        → IsOnlyBody (tree_of q) (chosen x.mask fields) body
        → ((w : Node AnyMapping) → w ≡ get_or l.kids.items 1 w → IsOtherBody (tree_of w) rest other)
        → AreBodies (tree_of node) fields body other
    node_bodies q rest body other read rest_is first second =
        subst (λ (t : Tree AnyMapping). AreBodies t fields body other) (sym (seen_layer node l is))
        (seen l.mapping l.kids.items seg read second)
      where
        seen : (m : AnyMapping) (ks : List (Node AnyMapping)) → m ≡ any.Segment x
            → q ≡ get_or ks 0 q → ((w : Node AnyMapping) → w ≡ get_or ks 1 w
            → IsOtherBody (tree_of w) rest other)
            → AreBodies (layer m (kids_from (map tree_of ks))) fields body other
        seen m [] e read second = λ n k key two. absurd two
        seen m (y ∷ []) e read second = λ n k key two. absurd two
        seen m (y ∷ z ∷ ks) e read second =
            subst (λ (c : AnyMapping). AreBodies
            (layer c (kid (tree_of y) (kid (tree_of z) (kids_from (map tree_of ks))))) fields body
            other) (sym e)
            (segment_bodies x (tree_of y) (tree_of z) (kids_from (map tree_of ks)) fields rest body
            other rest_is (subst (λ (c : Node AnyMapping). IsOnlyBody (tree_of c)
            (chosen x.mask fields) body) read first) (second z refl))

    pub node_first : (q : Node AnyMapping) (body : List ℕ) → q ≡ get_or l.kids.items 0 q
        → IsOnlyBody (tree_of q) (chosen x.mask fields) body
        → IsFirstBody (tree_of node) fields body
    node_first q body read first =
        subst (λ (t : Tree AnyMapping). IsFirstBody t fields body) (sym (seen_layer node l is))
        (seen l.mapping l.kids.items seg read)
      where
        seen : (m : AnyMapping) (ks : List (Node AnyMapping)) → m ≡ any.Segment x
            → q ≡ get_or ks 0 q → IsFirstBody (layer m (kids_from (map tree_of ks))) fields body
        seen m [] e read = λ n k key two. absurd two
        seen m (y ∷ []) e read = λ n k key two. absurd two
        seen m (y ∷ z ∷ ks) e read =
            subst (λ (c : AnyMapping). IsFirstBody
            (layer c (kid (tree_of y) (kid (tree_of z) (kids_from (map tree_of ks))))) fields body)
            (sym e)
            (segment_first x (tree_of y) (tree_of z) (kids_from (map tree_of ks)) fields body
            (subst (λ (c : Node AnyMapping). IsOnlyBody (tree_of c) (chosen x.mask fields) body)
            read first))

    -- the one child that is read is the second
    pub other_read : (n k : ℕ) → AreTwoLeaves (tree_of node) n k
        → (w : Node AnyMapping) (vs : List Value) (body : List ℕ) → w ≡ get_or l.kids.items 1 w
        → IsOnlyBody (tree_of w) vs body
        → (z : Node AnyMapping) → z ≡ get_or l.kids.items 1 z
        → IsOtherBody (tree_of z) (Some vs) (Some body)
    other_read n k two w vs body read body_is z read_z =
        subst (λ (c : Node AnyMapping). IsOnlyBody (tree_of c) vs body)
        (read_second l.kids.items w z (two_kids n k two) read read_z) body_is

-- the values of the second group
pub others_seen : (node : Node AnyMapping) (l : LayerNode AnyMapping) (x : Segment)
    → node ≡ nodes.Layer l → l.mapping ≡ any.Segment x → (vs : List Value)
    → others_in (tree_of node) vs ≡ chosen (map not x.mask) vs
others_seen node l x is seg vs =
    ap (λ (t : Tree AnyMapping). others_in t vs) (seen_layer node l is)
    ∙ ap (λ (m : AnyMapping). others_below m vs) seg
