-- A node that a term means is valid, has the term's form, and has leaves with the numbers of the
-- term.
use Rattle.std.proofs.Common.{◌≡◌, ℕ, zero, suc, ◌+◌, ◌-◌, ◌<◌, ◌≤◌, List, [], ◌∷◌, refl, sym, ap, subst, inl, inr, ◌∙◌, arith}
use Rattle.std.proofs.lemmas.Bool.{cases_lt}
use Rattle.gx_values.specs.Keys.{widths}
use Rattle.gx_values.specs.declared.values.Kind.{Kind}
use Rattle.gx_values.specs.declared.records.Field.{Field}
use Rattle.gx_values.specs.declared.records.Form.{Form}
use Rattle.gx_mapping.specs.Rule.{Rule, In}
use Rattle.gx_laws.proofs.MemberLemmas.{in_cases, in_left, in_right}
use Rattle.gx_equation.specs.declared.heads.Head.{Head}
use Rattle.gx_equation.specs.declared.heads.Head.TheVariants as heads
use Rattle.gx_equation.specs.Trees.{TermTree, Trees, head_of, node, none, kid}
use Rattle.gx_stack.specs.Tree.{Tree as NodeTree, Kids as NodeKids, leaf, layer, no_kids, kid as node_kid, leaves_of, kids_leaves, kid_count, tree_form, IsBytesUpTo, IsLeafData as IsNodeData, IsLeafForm, IsValid, AreValid}
use Rattle.gx_types.specs.declared.any.AnyMapping.{AnyMapping}
use Rattle.gx_types.specs.Any.{any_rule}
use Rattle.gx_types.specs.Build.{leaf_count, leaf_counts, IsMappingOf, kids_of, IsLeafOf, IsTreeOf, AreTreesOf, IsReady, AreReady}
use Rattle.gx_types.specs.FileForms.{AreDistinct, IsFileForm}
use Rattle.gx_equation.specs.Printing.{IsTerm}
use Rattle.gx_types.specs.HeadRules.{IsLayer}
use Rattle.gx_types.proofs.HeadLaws.{rule_form, rule_kid_form, rule_kids}
use Rattle.gx_forms.specs.Forms.{kid_form}
use Rattle.gx_typing.specs.Places.{leaves_at}
use Rattle.gx_typing.specs.Typed.{IsLeafData, IsLeaf, IsMet}
use Rattle.gx_typing.specs.Typing.{count}
use Rattle.gx_types.proofs.MakerLaws.{some_leaves}
use Rattle.gx_types.proofs.ReadyLaws.{kids_ready, first_ready, others_ready}

-- ---- leaves

-- a leaf has the number, the form, and the conditions of its term
record IsLeafAt (n : ℕ) (form : Form) (top : Head) (kids : Trees) (m : ℕ) (f : Form) : Type 0 where
  number : m ≡ n
  records : f ≡ form
  one : leaves_at top ≡ 1
  alone : leaf_counts kids ≡ 0
  met : IsMet top form (count kids) → IsLeaf form

leaf_at : (n : ℕ) (form : Form) (top : Head) (kids : Trees) (m : ℕ) (f : Form)
    → IsLeafOf n form top kids m f → IsLeafAt n form top kids m f
leaf_at n form (heads.Leaf kind) none m f is =
    record { number = is.0; records = is.1; one = refl; alone = refl; met = λ h. h }
leaf_at n form (heads.Leaf kind) (kid t ts) m f is = absurd is
leaf_at n form heads.Actual kids m f is = absurd is
leaf_at n form (heads.Encode name code) kids m f is = absurd is
leaf_at n form (heads.Segment names) kids m f is = absurd is
leaf_at n form heads.Transpose kids m f is = absurd is
leaf_at n form (heads.Partition name bounds) kids m f is = absurd is
leaf_at n form (heads.Divide size) kids m f is = absurd is
leaf_at n form (heads.Index name) kids m f is = absurd is

leaf_data : (fs : List Field) (bytes most : ℕ) → IsLeafData fs bytes → bytes ≤ most
    → IsNodeData fs most
leaf_data [] bytes most is le = tt
leaf_data (f ∷ []) bytes most is le = subst (λ (k : Kind). IsBytesUpTo k most) (sym is) le
leaf_data (f ∷ g ∷ fs) bytes most is le = absurd is

leaf_form : (levels : ℕ) (form : Form) → IsFileForm levels form → IsLeaf form → IsLeafForm form
leaf_form levels form fits is = record {
  keys = fits.keys;
  key_small = is.key;
  entry_small = leaf_data form.fields is.bytes (1000 - widths form.keys) is.fields
      (omega (arith, is.entry));
}

-- ---- the numbers of the leaves

mutual
  pub leaves_between : (n : ℕ) (form : Form) (t : TermTree) (u : NodeTree AnyMapping) (x : ℕ)
      → IsTreeOf n form t u → In x (leaves_of u) → (n ≤ x) × (x < n + leaf_count t)
  leaves_between n form (node top kids) (leaf m f) x is (inl e) =
      let at = leaf_at n form top kids m f is in
      let number : x ≡ n = e ∙ at.number in
      let one = at.one in
      (omega arith, omega arith)
  leaves_between n form (node top kids) (leaf m f) x is (inr h) = absurd h
  leaves_between n form (node top kids) (layer m ks) x is h =
      let b = kids_between n (kid_form top form) 0 kids ks x is.1 h in
      (b.0, omega (arith, b.1))

  pub kids_between : (n : ℕ) (forms : ℕ → Form) (i : ℕ) (ts : Trees) (us : NodeKids AnyMapping)
      (x : ℕ) → AreTreesOf n forms i ts us → In x (kids_leaves us)
      → (n ≤ x) × (x < n + leaf_counts ts)
  kids_between n forms i none no_kids x are h = absurd h
  kids_between n forms i none (node_kid u us) x are h = absurd are
  kids_between n forms i (kid t ts) no_kids x are h = absurd are
  kids_between n forms i (kid t ts) (node_kid u us) x are h =
      elim (in_cases x (leaves_of u) (kids_leaves us) h) [
        | inl a ↦ (let b = leaves_between n (forms i) t u x are.0 a in (b.0, omega (arith, b.1)))
        | inr a ↦ (let b = kids_between (n + leaf_count t) forms (suc i) ts us x are.1 a in
            (omega (arith, b.0), omega (arith, b.1)))
      ]

-- ---- layers

mapping_form : (top : Head) (form : Form) (m : AnyMapping) → IsMappingOf top form m
    → (any_rule m).form ≡ form
mapping_form top form m is = ap (λ (r : Rule). r.form) is.1 ∙ rule_form top form

mapping_kid_form : (top : Head) (form : Form) (kids : ℕ) (m : AnyMapping) → IsMappingOf top form m
    → IsMet top form kids → AreDistinct form.fields → (c : ℕ)
    → (any_rule m).kid_form c ≡ kid_form top form c
mapping_kid_form top form kids m is met names c = ap (λ (r : Rule). r.kid_form c) is.1
    ∙ rule_kid_form top form kids met names c

mapping_kids : (levels : ℕ) (top : Head) (form : Form) (kids : Trees) (m : AnyMapping)
    → IsMappingOf top form m → IsMet top form (count kids) → IsTerm levels (node top kids)
    → count kids ≡ (any_rule m).kids
mapping_kids zero top form kids m is met term = absurd term
mapping_kids (suc levels) top form kids m is met term = rule_kids top form kids is.0 term.1 met
    ∙ sym (ap (λ (r : Rule). r.kids) is.1)

-- the forms of the children
kid_forms : (n : ℕ) (form : Form) (top : Head) (kids : Trees) (m : AnyMapping)
    → IsReady n form (node top kids) → IsMappingOf top form m
    → (any_rule m).kid_form ≡ kid_form top form
kid_forms n form top kids m ready is =
    λ i c. mapping_kid_form top form (count kids) m is ready.typed.0 ready.records.distinct c i

pub layer_ready : (n : ℕ) (form : Form) (t : TermTree) (m : AnyMapping) → IsReady n form t
    → IsMappingOf (head_of t) form m → AreReady n (any_rule m).kid_form 0 (kids_of t)
layer_ready n form (node top kids) m ready is =
    subst (λ (forms : ℕ → Form). AreReady n forms 0 kids)
    (sym (kid_forms n form top kids m ready is)) (kids_ready n form top kids ready)

pub layer_kids : (n : ℕ) (form : Form) (t : TermTree) (m : AnyMapping) → IsReady n form t
    → IsMappingOf (head_of t) form m → count (kids_of t) ≡ (any_rule m).kids
layer_kids n form (node top kids) m ready is =
    mapping_kids ready.levels top form kids m is ready.typed.0 ready.term

pub layer_few : (n : ℕ) (form : Form) (t : TermTree) → IsReady n form t → count (kids_of t) ≤ 255
layer_few n form (node top kids) ready =
    let below = kids_ready n form top kids ready in
    omega (arith, some_leaves below.levels form kids below.terms, below.few)

-- a layer over what its children mean
pub layer_tree : (n : ℕ) (form : Form) (t : TermTree) (m : AnyMapping) (ks : NodeKids AnyMapping)
    → IsReady n form t → IsMappingOf (head_of t) form m
    → AreTreesOf n (any_rule m).kid_form 0 (kids_of t) ks → IsTreeOf n form t (layer m ks)
layer_tree n form (node top kids) m ks ready is are = (
  is,
  subst (λ (forms : ℕ → Form). AreTreesOf n forms 0 kids ks)
      (kid_forms n form top kids m ready is) are,
)

pub layer_leaves : (t : TermTree) → IsLayer (head_of t) → leaf_count t ≡ leaf_counts (kids_of t)
layer_leaves (node top kids) is = omega (arith, none_at top is)
  where
    none_at : (top : Head) → IsLayer top → leaves_at top ≡ 0
    none_at (heads.Leaf kind) is = absurd is
    none_at heads.Actual is = refl
    none_at (heads.Encode name code) is = refl
    none_at (heads.Segment names) is = refl
    none_at heads.Transpose is = refl
    none_at (heads.Partition name bounds) is = refl
    none_at (heads.Divide size) is = refl
    none_at (heads.Index name) is = refl

-- each number from the first on is that of a leaf
mutual
  pub in_tree : (n : ℕ) (form : Form) (t : TermTree) (u : NodeTree AnyMapping) (x : ℕ)
      → IsTreeOf n form t u → n ≤ x → x < n + leaf_count t → In x (leaves_of u)
  in_tree n form (node top kids) (leaf m f) x is from below =
      let at = leaf_at n form top kids m f is in
      inl (omega (arith, at.number, at.one, at.alone))
  in_tree n form (node top kids) (layer m ks) x is from below =
      in_trees n (kid_form top form) 0 kids ks x is.1 from
      (omega (arith, layer_leaves (node top kids) is.0.0))

  pub in_trees : (n : ℕ) (forms : ℕ → Form) (i : ℕ) (ts : Trees) (us : NodeKids AnyMapping) (x : ℕ)
      → AreTreesOf n forms i ts us → n ≤ x → x < n + leaf_counts ts → In x (kids_leaves us)
  in_trees n forms i none no_kids x are from below = absurd (omega arith)
  in_trees n forms i none (node_kid u us) x are from below = absurd are
  in_trees n forms i (kid t ts) no_kids x are from below = absurd are
  in_trees n forms i (kid t ts) (node_kid u us) x are from below =
      elim (cases_lt x (n + leaf_count t)) [
        | inl lt ↦ in_left x (leaves_of u) (kids_leaves us)
            (in_tree n (forms i) t u x are.0 from lt)
        | inr ge ↦ in_right x (leaves_of u) (kids_leaves us)
            (in_trees (n + leaf_count t) forms (suc i) ts us x are.1 ge (omega arith))
      ]

as_many : (n : ℕ) (forms : ℕ → Form) (i : ℕ) (ts : Trees) (us : NodeKids AnyMapping)
    → AreTreesOf n forms i ts us → kid_count us ≡ count ts
as_many n forms i none no_kids are = refl
as_many n forms i none (node_kid u us) are = absurd are
as_many n forms i (kid t ts) no_kids are = absurd are
as_many n forms i (kid t ts) (node_kid u us) are =
    ap suc (as_many (n + leaf_count t) forms (suc i) ts us are.1)

-- ---- valid nodes

pub all_shift : (c : ℕ) → c ≡ 0 + c
all_shift c = omega arith

pub no_shift : (i : ℕ) → i + 0 ≡ i
no_shift i = omega arith

pub one_shift : (i c : ℕ) → i + suc c ≡ suc i + c
one_shift i c = omega arith

mutual
  pub valid : (n : ℕ) (form : Form) (t : TermTree) (u : NodeTree AnyMapping) → IsReady n form t
      → IsTreeOf n form t u → IsValid any_rule u × (tree_form any_rule u ≡ form)
  valid n form (node top kids) (leaf m f) ready is =
      let at = leaf_at n form top kids m f is in (
        subst IsLeafForm (sym at.records)
            (leaf_form ready.levels form ready.records (at.met ready.typed.0)),
        at.records,
      )
  valid n form (node top kids) (layer m ks) ready is = (
    (
      as_many n (kid_form top form) 0 kids ks is.1
          ∙ mapping_kids ready.levels top form kids m is.0 ready.typed.0 ready.term,
      are_valid n (kid_form top form) 0 kids ks (any_rule m).kid_form
          (λ c. mapping_kid_form top form (count kids) m is.0 ready.typed.0 ready.records.distinct c
          ∙ ap (kid_form top form) (all_shift c)) (kids_ready n form top kids ready) is.1,
    ),
    mapping_form top form m is.0,
  )

  pub are_valid : (n : ℕ) (forms : ℕ → Form) (i : ℕ) (ts : Trees) (us : NodeKids AnyMapping)
      (given : ℕ → Form) → ((c : ℕ) → given c ≡ forms (i + c)) → AreReady n forms i ts
      → AreTreesOf n forms i ts us → AreValid any_rule given us
  are_valid n forms i none no_kids given same ready are = tt
  are_valid n forms i none (node_kid u us) given same ready are = absurd are
  are_valid n forms i (kid t ts) no_kids given same ready are = absurd are
  are_valid n forms i (kid t ts) (node_kid u us) given same ready are =
      let v = valid n (forms i) t u (first_ready n forms i t ts ready) are.0 in (
        v.1 ∙ sym (same 0 ∙ ap forms (no_shift i)),
        v.0,
        λ x h k. (let a = leaves_between n (forms i) t u x are.0 h in let b =
            kids_between (n + leaf_count t) forms (suc i) ts us x are.1 k in
            omega (arith, a.1, b.0)),
        are_valid (n + leaf_count t) forms (suc i) ts us (λ c. given (suc c)) (λ c. same (suc c)
            ∙ ap forms (one_shift i c)) (others_ready n forms i t ts ready) are.1,
      )
