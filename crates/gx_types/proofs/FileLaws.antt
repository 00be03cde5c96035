-- The nodes of a typed equation's files are what an engine needs.
use Rattle.std.proofs.Common.{◌≡◌, ℕ, zero, suc, ◌+◌, ◌<◌, ◌≤◌, List, [], ◌∷◌, ◌++◌, length, map, refl, sym, ap, ◌∙◌, arith, length-append}
use Rattle.std.specs.Prelude.{slice_index_or}
use Rattle.gx_values.specs.declared.records.Form.{Form}
use Rattle.gx_mapping.specs.Rule.{In}
use Rattle.gx_schema.specs.declared.schema.Schema.{Schema}
use Rattle.gx_schema.specs.declared.schema.FileDef.{FileDef}
use Rattle.gx_schema.specs.declared.schema.LinkDef.{LinkDef}
use Rattle.gx_schema.specs.Lookups.{no_file}
use Rattle.gx_schema.specs.Rules.{AreFiles, IsSchema}
use Rattle.gx_equation.specs.declared.heads.Head.{Head}
use Rattle.gx_equation.specs.declared.heads.Head.TheVariants as heads
use Rattle.gx_equation.specs.Trees.{TermTree, Trees, node, none, kid, kids_from, SideTree, file_side, link_side, DefinitionTree}
use Rattle.gx_stack.specs.declared.node.Node.{Node}
use Rattle.gx_stack.specs.Tree.{leaves_of as node_leaves, tree_form, IsValid}
use Rattle.gx_stack.specs.Seen.{tree_of}
use Rattle.gx_types.specs.declared.any.AnyMapping.{AnyMapping}
use Rattle.gx_typing.specs.declared.dues.Due.{Due}
use Rattle.gx_typing.specs.declared.dues.Stored.{Stored}
use Rattle.gx_typing.specs.declared.dues.Stored.TheVariants as stored
use Rattle.gx_types.specs.Any.{any_rule}
use Rattle.gx_types.specs.Build.{leaf_count, leaf_counts, side_leaf_count, all_leaf_count, file_leaf_count, link_definitions, IsTreeOfSide, AreTreesOfFiles, IsReadySide, AreReadyFiles}
use Rattle.gx_types.specs.FileForms.{IsFileForm}
use Rattle.gx_types.proofs.MakerLaws.{file_fits}
use Rattle.std.specs.List.{AllByRecursion}
use Rattle.gx_equation.specs.Printing.{IsSide, IsDefinition, AreWritten}
use Rattle.gx_typing.specs.Dues.{file_form, file_due, link_due}
use Rattle.gx_forms.specs.Forms.{kid_form, link_form}
use Rattle.gx_types.specs.Nodes.{tree_at, AreNodes}
use Rattle.gx_typing.specs.Places.{leaves_at}
use Rattle.gx_typing.specs.Typed.{IsTypedSide, AreTyped, leaf_here, leaves_of, leaves_of_kids, leaves_of_side, leaves_of_all, leaves, IsTyped}
use Rattle.gx_types.proofs.TreeLaws.{leaves_between, valid}

-- ---- definitions

side_ready : (n : ℕ) (form : Form) (side : SideTree) → IsFileForm 16 form → IsSide side
    → IsTypedSide (stored.File form) side → n + side_leaf_count side ≤ 255 → IsReadySide n form side
side_ready n form (file_side t) fits term typed few =
    record {
      levels = 16;
      few_levels = omega arith;
      term = term;
      records = fits;
      typed = typed;
      few = few;
    }
side_ready n form (link_side linkset ts) fits term typed few = absurd typed

ready_from : (all before files : List FileDef) (links : List LinkDef) (ds : List DefinitionTree)
    (n : ℕ) → AreFiles before files → AllByRecursion IsDefinition ds
    → AreTyped (map file_due files ++ map (link_due all) links) ds → n + all_leaf_count ds ≤ 255
    → AreReadyFiles n files ds
ready_from all before [] links ds n are terms typed few = tt
ready_from all before (file ∷ files) links [] n are terms typed few = absurd typed
ready_from all before (file ∷ files) links (d ∷ ds) n are terms typed few =
    let total : n + (side_leaf_count d.side + all_leaf_count ds) ≤ 255 = few in (
      side_ready n (file_form file) d.side (file_fits file file.fields refl are.0.fields)
          terms.0.side typed.1 (omega arith),
      ready_from all (before ++ file ∷ []) files links ds (n + side_leaf_count d.side) are.1 terms.1
          typed.2 (omega arith),
    )

-- ---- how many leaves there are

here_count : (owner : ℕ) (top : Head) (form : Form)
    → length (leaf_here owner top form) ≡ leaves_at top
here_count owner (heads.Leaf kind) form = refl
here_count owner heads.Actual form = refl
here_count owner (heads.Encode name code) form = refl
here_count owner (heads.Segment names) form = refl
here_count owner heads.Transpose form = refl
here_count owner (heads.Partition name bounds) form = refl
here_count owner (heads.Divide size) form = refl
here_count owner (heads.Index name) form = refl

mutual
  term_count : (owner : ℕ) (form : Form) (t : TermTree)
      → length (leaves_of owner form t) ≡ leaf_count t
  term_count owner form (node top kids) =
      omega (
        arith,
        length-append (leaf_here owner top form)
            (leaves_of_kids owner (kid_form top form) 0 kids),
        here_count owner top form,
        kids_count owner (kid_form top form) 0 kids,
      )

  kids_count : (owner : ℕ) (forms : ℕ → Form) (i : ℕ) (ts : Trees)
      → length (leaves_of_kids owner forms i ts) ≡ leaf_counts ts
  kids_count owner forms i none = refl
  kids_count owner forms i (kid t ts) =
      omega (
        arith,
        length-append (leaves_of owner (forms i) t)
            (leaves_of_kids owner forms (suc i) ts),
        term_count owner (forms i) t,
        kids_count owner forms (suc i) ts,
      )

pub side_count : (owner : ℕ) (due : Stored) (side : SideTree) → IsTypedSide due side
    → length (leaves_of_side owner due side) ≡ side_leaf_count side
side_count owner (stored.File form) (file_side t) typed = term_count owner form t
side_count owner (stored.File form) (link_side linkset ts) typed = absurd typed
side_count owner (stored.Link o m) (file_side t) typed = absurd typed
side_count owner (stored.Link o m) (link_side linkset ts) typed =
    kids_count owner (link_form linkset o m) 0 (kids_from ts)

all_count : (owner : ℕ) (dues : List Due) (ds : List DefinitionTree) → AreTyped dues ds
    → length (leaves_of_all owner dues ds) ≡ all_leaf_count ds
all_count owner [] [] typed = refl
all_count owner [] (d ∷ ds) typed = absurd typed
all_count owner (due ∷ dues) [] typed = absurd typed
all_count owner (due ∷ dues) (d ∷ ds) typed =
    omega (
      arith,
      length-append (leaves_of_side owner due.stored d.side)
          (leaves_of_all (suc owner) dues ds),
      side_count owner due.stored d.side typed.1,
      all_count (suc owner) dues ds typed.2,
    )

pub few_leaves : (schema : Schema) (ds : List DefinitionTree) → IsTyped schema ds
    → all_leaf_count ds ≤ 255
few_leaves schema ds typed = omega (arith, all_count 0 _ ds typed.definitions, typed.few)

pub files_ready : (schema : Schema) (ds : List DefinitionTree) → IsSchema schema → AreWritten ds
    → IsTyped schema ds → AreReadyFiles 0 schema.files ds
files_ready schema ds is written typed =
    ready_from schema.files [] schema.files schema.links ds 0 is.files written.each
    typed.definitions (omega (arith, few_leaves schema ds typed))

-- a definition for each file
pub many_definitions : (n : ℕ) (files : List FileDef) (ds : List DefinitionTree)
    → AreReadyFiles n files ds → length files ≤ length ds
many_definitions n [] ds ready = omega arith
many_definitions n (file ∷ files) [] ready = absurd ready
many_definitions n (file ∷ files) (d ∷ ds) ready =
    omega (arith, many_definitions (n + side_leaf_count d.side) files ds ready.1)

-- the leaves of the first definitions, and of those behind
pub split_count : (files : List FileDef) (ds : List DefinitionTree)
    → all_leaf_count ds ≡ file_leaf_count files ds + all_leaf_count (link_definitions files ds)
split_count [] ds = omega arith
split_count (file ∷ files) [] = omega arith
split_count (file ∷ files) (d ∷ ds) = omega (arith, split_count files ds)

pub total_count : (schema : Schema) (ds : List DefinitionTree) (total : ℕ) → IsTyped schema ds
    → total ≡ length (leaves schema ds)
    → file_leaf_count schema.files ds + all_leaf_count (link_definitions schema.files ds)
    ≡ total
total_count schema ds total typed total_is = sym (split_count schema.files ds)
    ∙ sym (all_count 0 _ ds typed.definitions) ∙ sym total_is

-- ---- the nodes

node_valid : (n : ℕ) (files : List FileDef) (ds : List DefinitionTree) (xs : List (Node AnyMapping))
    (i : ℕ) → AreReadyFiles n files ds → AreTreesOfFiles n files ds xs → i < length files
    → IsValid any_rule (tree_at xs i)
    × (tree_form any_rule (tree_at xs i) ≡ file_form (slice_index_or files i no_file))
node_valid n [] ds xs i ready are lt = absurd (omega arith)
node_valid n (file ∷ files) [] xs i ready are lt = absurd ready
node_valid n (file ∷ files) (d ∷ ds) [] i ready are lt = absurd are
node_valid n (file ∷ files) (d ∷ ds) (x ∷ xs) zero ready are lt = side_valid d.side ready.0 are.0
  where
    side_valid : (side : SideTree) → IsReadySide n (file_form file) side
        → IsTreeOfSide n (file_form file) side (tree_of x)
        → IsValid any_rule (tree_of x) × (tree_form any_rule (tree_of x) ≡ file_form file)
    side_valid (file_side t) r is = valid n (file_form file) t (tree_of x) r is
    side_valid (link_side linkset ts) r is = absurd is
node_valid n (file ∷ files) (d ∷ ds) (x ∷ xs) (suc i) ready are lt =
    node_valid (n + side_leaf_count d.side) files ds xs i ready.1 are.1 (omega arith)

pub side_between : (n : ℕ) (form : Form) (side : SideTree) (x : Node AnyMapping) (m : ℕ)
    → IsTreeOfSide n form side (tree_of x) → In m (node_leaves (tree_of x))
    → (n ≤ m) × (m < n + side_leaf_count side)
side_between n form (file_side t) x m is h = leaves_between n form t (tree_of x) m is h
side_between n form (link_side linkset ts) x m is h = absurd is

pub node_between : (n : ℕ) (files : List FileDef) (ds : List DefinitionTree)
    (xs : List (Node AnyMapping)) (i m : ℕ) → AreTreesOfFiles n files ds xs → i < length files
    → In m (node_leaves (tree_at xs i)) → (n ≤ m) × (m < n + file_leaf_count files ds)
node_between n [] ds xs i m are lt h = absurd (omega arith)
node_between n (file ∷ files) [] xs i m are lt h = absurd are
node_between n (file ∷ files) (d ∷ ds) [] i m are lt h = absurd are
node_between n (file ∷ files) (d ∷ ds) (x ∷ xs) zero m are lt h =
    let b = side_between n (file_form file) d.side x m are.0 h in
    (b.0, omega (arith, b.1))
node_between n (file ∷ files) (d ∷ ds) (x ∷ xs) (suc i) m are lt h =
    let b = node_between (n + side_leaf_count d.side) files ds xs i m are.1 (omega arith) h in
    (omega (arith, b.0), omega (arith, b.1))

nodes_apart : (n : ℕ) (files : List FileDef) (ds : List DefinitionTree)
    (xs : List (Node AnyMapping)) (i j m : ℕ) → AreTreesOfFiles n files ds xs → i < length files
    → j < length files
    → In m (node_leaves (tree_at xs i)) → In m (node_leaves (tree_at xs j)) → i ≡ j
nodes_apart n [] ds xs i j m are lt_i lt_j h k = absurd (omega arith)
nodes_apart n (file ∷ files) [] xs i j m are lt_i lt_j h k = absurd are
nodes_apart n (file ∷ files) (d ∷ ds) [] i j m are lt_i lt_j h k = absurd are
nodes_apart n (file ∷ files) (d ∷ ds) (x ∷ xs) zero zero m are lt_i lt_j h k = refl
nodes_apart n (file ∷ files) (d ∷ ds) (x ∷ xs) zero (suc j) m are lt_i lt_j h k =
    absurd (omega (
      arith,
      (side_between n (file_form file) d.side x m are.0 h).1,
      (node_between (n + side_leaf_count d.side) files ds xs j m are.1 (omega arith) k).0,
    ))
nodes_apart n (file ∷ files) (d ∷ ds) (x ∷ xs) (suc i) zero m are lt_i lt_j h k =
    absurd (omega (
      arith,
      (side_between n (file_form file) d.side x m are.0 k).1,
      (node_between (n + side_leaf_count d.side) files ds xs i m are.1 (omega arith) h).0,
    ))
nodes_apart n (file ∷ files) (d ∷ ds) (x ∷ xs) (suc i) (suc j) m are lt_i lt_j h k =
    ap suc (nodes_apart (n + side_leaf_count d.side) files ds xs i j m are.1 (omega arith)
    (omega arith) h k)

as_many_nodes : (n : ℕ) (files : List FileDef) (ds : List DefinitionTree)
    (xs : List (Node AnyMapping)) → AreTreesOfFiles n files ds xs → length xs ≡ length files
as_many_nodes n [] ds [] are = refl
as_many_nodes n [] ds (x ∷ xs) are = absurd are
as_many_nodes n (file ∷ files) [] xs are = absurd are
as_many_nodes n (file ∷ files) (d ∷ ds) [] are = absurd are
as_many_nodes n (file ∷ files) (d ∷ ds) (x ∷ xs) are =
    ap suc (as_many_nodes (n + side_leaf_count d.side) files ds xs are.1)

pub are_nodes : (schema : Schema) (ds : List DefinitionTree) (xs : List (Node AnyMapping))
    (total : ℕ) → IsSchema schema → AreWritten ds → IsTyped schema ds
    → AreTreesOfFiles 0 schema.files ds xs → total ≡ length (leaves schema ds)
    → AreNodes schema xs total
are_nodes schema ds xs total is written typed are total_is =
    let ready = files_ready schema ds is written typed in
    record {
      many = as_many_nodes 0 schema.files ds xs are;
      valid = λ i lt. (node_valid 0 schema.files ds xs i ready are lt).0;
      form = λ i lt. (node_valid 0 schema.files ds xs i ready are lt).1;
      below = λ i n lt h. omega (
        arith,
        (node_between 0 schema.files ds xs i n are lt h).1,
        total_count schema ds total typed total_is,
      );
      apart = λ i j n lt_i lt_j h k. nodes_apart 0 schema.files ds xs i j n are lt_i lt_j h k;
    }
