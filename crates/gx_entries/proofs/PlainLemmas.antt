-- Bodies of both groups, straight from the values.
use Rattle.std.proofs.Common.{◌≡◌, ℕ, List, [], ◌∷◌, get_or, Option, Some, None, refl, sym, subst}
use Rattle.std.specs.Prelude.{option_map, IfSome}
use Rattle.std.specs.List.{AllByRecursion}
use Rattle.gx_values.specs.declared.values.Value.{Value}
use Rattle.gx_values.specs.declared.records.Field.{Field}
use Rattle.gx_values.specs.Values.{AreFit}
use Rattle.gx_actual.specs.declared.layer.Actual.{Actual}
use Rattle.gx_actual.specs.Bodies.{body_of, AreShort, HasLength}
use Rattle.gx_actual.proofs.BodyLemmas.{has_length}
use Rattle.gx_split.specs.declared.layer.Segment.{Segment}
use Rattle.gx_split.specs.Groups.{chosen}
use Rattle.gx_stack.specs.declared.node.Node.{Node}
use Rattle.gx_stack.specs.declared.node.LayerNode.{LayerNode}
use Rattle.gx_stack.specs.declared.node.Node.TheVariants as nodes
use Rattle.gx_stack.specs.Tree.{Tree, leaf, layer, no_kids, kid, IsValid, tree_form}
use Rattle.gx_stack.specs.Seen.{tree_of}
use Rattle.gx_types.specs.declared.any.AnyMapping.{AnyMapping}
use Rattle.gx_types.specs.declared.any.AnyMapping.TheVariants as any
use Rattle.gx_types.specs.Any.{any_rule}
use Rattle.gx_entries.specs.Entries.{IsActual, IsPlain, AreTwoLeaves, AreDataOf, IsOnlyBody, IsFirstBody, AreBodies, others_of}
use Rattle.gx_entries.proofs.OneLemmas.{one_entry}
use Rattle.gx_entries.proofs.TwoLemmas.{IsOtherBody, first_ready, second_ready, node_bodies, node_first, read_second, two_kids}

-- ---- such a tree

actual_of : (m : AnyMapping) → IsActual m → (x : Actual) × (m ≡ any.Actual x)
actual_of (any.Actual x) is = (x, refl)
actual_of (any.Segment x) is = absurd is
actual_of (any.Encode x) is = absurd is
actual_of (any.Transpose x) is = absurd is
actual_of (any.Partition x) is = absurd is
actual_of (any.Divide x) is = absurd is
actual_of (any.Index x) is = absurd is

-- the body is the joined bytes
pub plain_only : (t : Tree AnyMapping) → IsPlain t → (fields : List Value)
    → IsOnlyBody t fields (body_of fields)
plain_only (leaf i form) plain fields = absurd plain
plain_only (layer m no_kids) plain fields = absurd plain
plain_only (layer m (kid (layer q qs) ks)) plain fields = absurd plain
plain_only (layer m (kid (leaf i form) ks)) plain fields =
    let a = actual_of m plain in
    subst (λ (y : AnyMapping). IsOnlyBody (layer y (kid (leaf i form) ks)) fields (body_of fields))
    (sym a.1)
    (λ n key only. one_entry (layer (any.Actual a.0) (kid (leaf i form) ks)) n only
    (record { key = key; fields = fields }))

fit_lengths : (fs : List Field) (vs : List Value) → AreShort fs → AreFit fs vs
    → AllByRecursion HasLength vs
fit_lengths [] [] short fit = tt
fit_lengths [] (v ∷ vs) short fit = absurd fit
fit_lengths (f ∷ fs) [] short fit = absurd fit
fit_lengths (f ∷ fs) (v ∷ vs) short fit =
    (has_length f.kind v short.0 fit.0, fit_lengths fs vs short.1 fit.1)

-- the length of each value can be written
pub plain_lengths : (t : Tree AnyMapping) → IsPlain t → (fields : List Value)
    → AreDataOf (tree_form any_rule t) fields → AllByRecursion HasLength fields
plain_lengths (leaf i form) plain fields has = absurd plain
plain_lengths (layer m no_kids) plain fields has = absurd plain
plain_lengths (layer m (kid (layer q qs) ks)) plain fields has = absurd plain
plain_lengths (layer m (kid (leaf i form) ks)) plain fields has =
    let a = actual_of m plain in
    fit_lengths a.0.form.fields fields a.0.short
    (subst (λ (y : AnyMapping). AreFit (any_rule y).form.fields fields) a.1 has.1.fields)

-- ---- a segment over two such trees

module _ (node : Node AnyMapping) (l : LayerNode AnyMapping) (is : node ≡ nodes.Layer l)
    (x : Segment) (seg : l.mapping ≡ any.Segment x) (fields : List Value)
    (valid : IsValid any_rule (tree_of node))
    (has : AreDataOf (tree_form any_rule (tree_of node)) fields) where
  pub first_lengths : (q : Node AnyMapping) → q ≡ get_or l.kids.items 0 q → IsPlain (tree_of q)
      → AllByRecursion HasLength (chosen x.mask fields)
  first_lengths q read plain =
      plain_lengths (tree_of q) plain (chosen x.mask fields)
      (first_ready node l is x seg fields valid has q (chosen x.mask fields) read refl)

  pub other_lengths : (w : Node AnyMapping) → w ≡ get_or l.kids.items 1 w → IsPlain (tree_of w)
      → IfSome (others_of x fields) (AllByRecursion HasLength)
  other_lengths w read plain = of_each (others_of x fields) refl
    where
      of_each : (o : Option (List Value)) → o ≡ others_of x fields
          → IfSome o (AllByRecursion HasLength)
      of_each None o_is = tt
      of_each (Some vs) o_is =
          plain_lengths (tree_of w) plain vs
          (second_ready node l is x seg fields valid has w vs read o_is).1

  pub plain_first : (q : Node AnyMapping) (body : List ℕ) → q ≡ get_or l.kids.items 0 q
      → IsPlain (tree_of q) → body ≡ body_of (chosen x.mask fields)
      → IsFirstBody (tree_of node) fields body
  plain_first q body read plain body_is =
      node_first node l is x seg fields valid has q body read
      (subst (IsOnlyBody (tree_of q) (chosen x.mask fields)) (sym body_is)
      (plain_only (tree_of q) plain (chosen x.mask fields)))

  pub plain_both : (n k : ℕ) → AreTwoLeaves (tree_of node) n k
      → (q w : Node AnyMapping) (body : List ℕ) (other : Option (List ℕ))
      → q ≡ get_or l.kids.items 0 q → w ≡ get_or l.kids.items 1 w → IsPlain (tree_of q)
      → IsPlain (tree_of w)
      → body ≡ body_of (chosen x.mask fields) → other ≡ option_map body_of (others_of x fields)
      → AreBodies (tree_of node) fields body other
  plain_both n k two q w body other read read_w plain plain_w body_is other_is =
      node_bodies node l is x seg fields valid has q (others_of x fields) body other read refl
      (subst (IsOnlyBody (tree_of q) (chosen x.mask fields)) (sym body_is)
      (plain_only (tree_of q) plain (chosen x.mask fields)))
      (λ z read_z.
      let same = read_second l.kids.items w z (two_kids node l is n k two) read_w read_z in
      subst (IsOtherBody (tree_of z) (others_of x fields)) (sym other_is)
      (of_each (tree_of z) (subst (λ (y : Node AnyMapping). IsPlain (tree_of y)) same plain_w)
      (others_of x fields)))
    where
      of_each : (t : Tree AnyMapping) → IsPlain t → (o : Option (List Value))
          → IsOtherBody t o (option_map body_of o)
      of_each t plain None = tt
      of_each t plain (Some vs) = plain_only t plain vs
