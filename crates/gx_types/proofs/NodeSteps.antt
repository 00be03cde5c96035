-- Steps of building: terms of each kind as trees, and a child behind those before it.
use Rattle.std.proofs.Common.{◌≡◌, ◌≢◌, ◌⊎◌, Vec, Global, true, false, ℕ, zero, suc, ◌+◌, ◌<◌, ◌≤◌, List, [], ◌∷◌, ◌++◌, length, get_or, map, drop, refl, sym, ap, subst, inl, inr, ◌∙◌, arith, append_assoc}
use Rattle.std.specs.Prelude.{nat_eq, Option}
use Rattle.std.specs.Cmp.Lexicographic.{pointwise, bytes_decides}
use Rattle.std.proofs.lemmas.Bool.{true≢false, cond-false}
use Rattle.std.proofs.lemmas.List.{drop_more, append-nil}
use Rattle.std.proofs.Math.Numerals.{add-one}
use Rattle.gx_values.specs.Values.{kind_in}
use Rattle.gx_ports.specs.declared.kinds.LeafKind.{LeafKind}
use Rattle.gx_values.specs.declared.values.Kind.{Kind}
use Rattle.gx_values.specs.declared.values.Value.{Value}
use Rattle.gx_values.specs.declared.records.Field.{Field}
use Rattle.gx_values.specs.declared.records.Form.{Form}
use Rattle.gx_schema.specs.declared.schema.FileDef.{FileDef}
use Rattle.gx_equation.specs.declared.heads.Head.TheVariants as heads
use Rattle.gx_equation.specs.declared.equation.Term.{Term}
use Rattle.gx_equation.specs.declared.equation.Term.TheVariants as terms
use Rattle.gx_equation.specs.declared.equation.Term.TheOpen.{Leaf}
use Rattle.gx_equation.specs.declared.equation.Term.TheFolds.{fold-roll-Term}
use Rattle.gx_equation.specs.Trees.{TermTree, Trees, node, none, kid, kids_from, list_of}
use Rattle.gx_equation.proofs.Again.{from_list}
use Rattle.gx_equation.specs.declared.equation.Definition.{Definition}
use Rattle.gx_equation.specs.Seen.{seen_step, tree_of, trees_of, definitions_of}
use Rattle.gx_stack.specs.declared.node.Node.{Node}
use Rattle.gx_stack.specs.Tree.{no_kids}
use Rattle.gx_stack.specs.Seen.{tree_of as node_tree, kids_from as node_kids}
use Rattle.gx_types.specs.declared.any.AnyMapping.{AnyMapping}
use Rattle.gx_types.specs.Build.{kids_of, leaf_count, leaf_counts, IsFirstOf, file_leaf_count, IsTreeOf, AreTreesOf, AreTreesOfFiles, IsReady, AreReady}
use Rattle.gx_types.proofs.ReadyLaws.{first_ready, others_ready}
use Rattle.gx_types.proofs.TreeLaws.{no_shift}
use Rattle.gx_typing.proofs.SeenAs.{seen_transpose, seen_partition}
use Rattle.gx_typing.proofs.TermSize.{tree_size, trees_size}

pub seen_leaf : (t : Term) (kind : LeafKind) → t ≡ terms.Leaf kind
    → tree_of t ≡ node (heads.Leaf kind) none
seen_leaf t kind is = ap tree_of (is ∙ sym (terms.rolls-Leaf kind))
    ∙ fold-roll-Term TermTree seen_step (Leaf kind)

-- the children of a term that has a list of them
pub listed : (t : Term) (kids : Vec Term Global)
    → (t ≡ terms.Transpose kids)
    ⊎ ((name : List ℕ) × (bounds : List Value) × (t ≡ terms.Partition name bounds kids))
    → kids_of (tree_of t) ≡ kids_from (trees_of kids.items)
listed t kids (inl is) = ap kids_of (seen_transpose t kids is)
listed t kids (inr is) = ap kids_of (seen_partition t is.0 is.1 kids is.2)

pub listed_at : (ts : List Term) (i : ℕ) (t : Term) (d : TermTree) → i < length ts
    → tree_of (get_or ts i t) ≡ get_or (list_of (kids_from (trees_of ts))) i d
listed_at [] i t d lt = absurd (omega arith)
listed_at (x ∷ ts) zero t d lt = refl
listed_at (x ∷ ts) (suc i) t d lt = listed_at ts i t d (omega arith)

-- the children are smaller
pub kids_below : (t : TermTree) → trees_size (kids_of t) < tree_size t
kids_below (node top kids) = omega arith

-- ---- one child of several

kids_at : (ts : List TermTree) (i : ℕ) (d t : TermTree) → i < length ts → t ≡ get_or ts i d
    → kids_from (drop i ts) ≡ kid t (kids_from (drop (i + 1) ts))
kids_at ts i d t lt read = ap kids_from (drop_more ts i d lt)
    ∙ ap (λ (x : TermTree). kid x (kids_from (drop (i + 1) ts))) (sym read)

size_at : (ts : List TermTree) (i : ℕ) (d : TermTree) → i < length ts
    → tree_size (get_or ts i d) < trees_size (kids_from ts)
size_at [] i d lt = absurd (omega arith)
size_at (x ∷ ts) zero d lt = omega arith
size_at (x ∷ ts) (suc i) d lt = omega (arith, size_at ts i d (omega arith))

-- a child is smaller than all of them
pub child_smaller : (kids : Trees) (i : ℕ) (d t : TermTree) → i < length (list_of kids)
    → t ≡ get_or (list_of kids) i d → tree_size t < trees_size kids
child_smaller kids i d t lt read =
    subst (λ (x : TermTree). tree_size x < trees_size kids) (sym read)
    (subst (λ (us : Trees). tree_size (get_or (list_of kids) i d) < trees_size us)
    (from_list kids) (size_at (list_of kids) i d lt))

module _ (n : ℕ) (forms : ℕ → Form) (ts : List TermTree) (i : ℕ) (d t : TermTree)
    (lt : i < length ts)
    (read : t ≡ get_or ts i d) where
  pub child_ready : AreReady n forms i (kids_from (drop i ts)) → IsReady n (forms i) t
  child_ready r = first_ready n forms i t (kids_from (drop (i + 1) ts))
      (subst (AreReady n forms i) (kids_at ts i d t lt read) r)

  pub behind_ready : (next : ℕ) → next ≡ n + leaf_count t
      → AreReady n forms i (kids_from (drop i ts))
      → AreReady next forms (i + 1) (kids_from (drop (i + 1) ts))
  behind_ready next is r =
      let rest = kids_from (drop (i + 1) ts) in
      let more = others_ready n forms i t rest
      (subst (AreReady n forms i) (kids_at ts i d t lt read) r) in
      let more' = subst (λ (m : ℕ). AreReady m forms (suc i) rest) (sym is) more in
      subst (λ (j : ℕ). AreReady next forms j rest) (sym (add-one i)) more'

  pub behind_count : (next total : ℕ) → next ≡ n + leaf_count t
      → n + leaf_counts (kids_from (drop i ts)) ≡ total
      → next + leaf_counts (kids_from (drop (i + 1) ts)) ≡ total
  behind_count next total is so_far =
      let e : leaf_counts (kids_from (drop i ts)) ≡ leaf_count t + leaf_counts
      (kids_from (drop (i + 1) ts)) = ap leaf_counts (kids_at ts i d t lt read) in
      omega arith

  pub behind_trees : (next : ℕ) (Goal : List (Node AnyMapping)
      → Type 0) (nodes pushed : List (Node AnyMapping)) (x : Node AnyMapping)
      → next ≡ n + leaf_count t → pushed ≡ nodes ++ x ∷ []
      → IsTreeOf n (forms i) t (node_tree x)
      → ((more : List (Node AnyMapping))
      → AreTreesOf n forms i (kids_from (drop i ts)) (node_kids (map node_tree more))
      → Goal (nodes ++ more))
      → (more : List (Node AnyMapping))
      → AreTreesOf next forms (i + 1) (kids_from (drop (i + 1) ts))
      (node_kids (map node_tree more)) → Goal (pushed ++ more)
  behind_trees next Goal nodes pushed x is push tree so_far more h =
      let rest = kids_from (drop (i + 1) ts) in
      let h' = subst (λ (m : ℕ). AreTreesOf m forms (i + 1) rest (node_kids (map node_tree more)))
      is h in
      let h'' = subst (λ (j : ℕ). AreTreesOf (n + leaf_count t) forms j rest
      (node_kids (map node_tree more))) (add-one i) h' in
      let all = so_far (x ∷ more)
      (subst (λ (us : Trees). AreTreesOf n forms i us (node_kids (map node_tree (x ∷ more))))
      (sym (kids_at ts i d t lt read)) (tree, h'')) in
      subst Goal (sym (ap (λ (ys : List (Node AnyMapping)). ys ++ more) push
      ∙ append_assoc nodes (x ∷ []) more)) all

pub none_left : (i : ℕ) (ts : List TermTree) → length ts ≤ i → drop i ts ≡ []
none_left zero [] le = refl
none_left (suc i) [] le = refl
none_left zero (t ∷ ts) le = absurd (omega arith)
none_left (suc i) (t ∷ ts) le = none_left i ts (omega arith)

-- behind the last child
pub all_trees : (next : ℕ) (forms : ℕ → Form) (ts : List TermTree) (i : ℕ)
    (Goal : List (Node AnyMapping) → Type 0) (nodes : List (Node AnyMapping)) → length ts ≤ i
    → ((more : List (Node AnyMapping))
    → AreTreesOf next forms i (kids_from (drop i ts)) (node_kids (map node_tree more))
    → Goal (nodes ++ more)) → Goal nodes
all_trees next forms ts i Goal nodes end so_far =
    let last : drop i ts ≡ [] = none_left i ts end in
    subst Goal (append-nil nodes)
    (so_far [] (subst (λ (us : List TermTree). AreTreesOf next forms i (kids_from us) no_kids)
    (sym last) tt))

-- behind the last file
pub all_files : (first next total : ℕ) (files left : List FileDef)
    (definitions rest : List Definition) (nodes : List (Node AnyMapping)) → length left < 1
    → ((more : List (Node AnyMapping)) → AreTreesOfFiles next left (definitions_of rest) more
    → AreTreesOfFiles first files (definitions_of definitions) (nodes ++ more))
    → next + file_leaf_count left (definitions_of rest) ≡ total
    → AreTreesOfFiles first files (definitions_of definitions) nodes × (next ≡ total)
all_files first next total files [] definitions rest nodes end so_far count = (
  subst (AreTreesOfFiles first files (definitions_of definitions)) (append-nil nodes)
      (so_far [] tt),
  omega (arith, count),
)
all_files first next total files (file ∷ left) definitions rest nodes end so_far count =
    absurd (omega (arith, end))

-- ---- one field of several

plus_one : (i k : ℕ) → i + suc k ≡ i + 1 + k
plus_one i k = omega arith

module _ (fs : List Field) (name spelled : List ℕ) (i : ℕ) (f : Field) (lt : i < length fs)
    (read : f ≡ get_or fs i f) (spelling : spelled ≡ f.name) where
  name_at : spelled ≡ (get_or fs i f).name
  name_at = spelling ∙ ap (λ (g : Field). g.name) read

  pub first_here : pointwise nat_eq spelled name ≡ true
      → ((k : ℕ) → IsFirstOf (drop i fs) name k → IsFirstOf fs name (i + k)) → IsFirstOf fs name i
  first_here same so_far =
      let here : (get_or fs i f).name ≡ name = sym name_at ∙ (bytes_decides spelled name).0 same in
      subst (IsFirstOf fs name) (no_shift i)
      (so_far 0 (subst (λ (gs : List Field). IsFirstOf gs name 0) (sym (drop_more fs i f lt))
      here))

  pub first_behind : pointwise nat_eq spelled name ≡ false
      → ((k : ℕ) → IsFirstOf (drop i fs) name k → IsFirstOf fs name (i + k)) → (k : ℕ)
      → IsFirstOf (drop (i + 1) fs) name k → IsFirstOf fs name (i + 1 + k)
  first_behind other so_far k h =
      let ne : (get_or fs i f).name ≢ name =
      λ e. true≢false (sym ((bytes_decides spelled name).1 (name_at ∙ e)) ∙ other) in
      subst (IsFirstOf fs name) (plus_one i k)
      (so_far (suc k) (subst (λ (gs : List Field). IsFirstOf gs name (suc k))
      (sym (drop_more fs i f lt)) (ne, h)))

  pub kind_behind : (total : Option Kind) → pointwise nat_eq spelled name ≡ false
      → kind_in (drop i fs) name ≡ total → kind_in (drop (i + 1) fs) name ≡ total
  kind_behind total other so_far =
      sym (ap (λ (gs : List Field). kind_in gs name) (drop_more fs i f lt)
      ∙ cond-false (pointwise nat_eq (get_or fs i f).name name) _ _
      (ap (λ (n : List ℕ). pointwise nat_eq n name) (sym name_at) ∙ other)) ∙ so_far
