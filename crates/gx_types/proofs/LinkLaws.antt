-- The nodes of a typed equation's links are what an engine needs.
use Rattle.std.proofs.Common.{◌≡◌, ℕ, zero, suc, ◌+◌, ◌<◌, ◌≤◌, true, List, [], ◌∷◌, ◌++◌, length, map, refl, sym, ap, subst, arith}
use Rattle.std.specs.Prelude.{slice_index_or}
use Rattle.std.specs.List.{AllByRecursion}
use Rattle.gx_values.specs.declared.values.Kind.{Kind}
use Rattle.gx_values.specs.declared.records.Field.{Field}
use Rattle.gx_values.specs.Values.{no_field}
use Rattle.gx_mapping.specs.Rule.{In}
use Rattle.gx_schema.specs.declared.schema.Schema.{Schema}
use Rattle.gx_schema.specs.declared.schema.FileDef.{FileDef}
use Rattle.gx_schema.specs.declared.schema.LinkDef.{LinkDef}
use Rattle.gx_schema.specs.Lookups.{no_file, no_link, key_kind}
use Rattle.gx_schema.specs.Rules.{IsKind, AreFields, AreFiles, AreLinks, IsSchema}
use Rattle.gx_equation.specs.declared.heads.Linkset.{Linkset}
use Rattle.gx_equation.specs.Printing.{IsSide, IsDefinition, AreWritten}
use Rattle.gx_equation.specs.Trees.{SideTree, file_side, link_side, kids_from, DefinitionTree}
use Rattle.gx_forms.specs.Forms.{link_form}
use Rattle.gx_stack.specs.declared.node.Node.{Node}
use Rattle.gx_stack.specs.Tree.{kids_leaves, AreValid}
use Rattle.gx_typing.specs.declared.dues.Stored.TheVariants as stored
use Rattle.gx_typing.specs.Dues.{file_due, link_due, owner_kind, member_kind}
use Rattle.gx_typing.specs.Typed.{IsTypedSide, AreTyped, leaves, IsTyped}
use Rattle.gx_types.specs.declared.any.AnyMapping.{AnyMapping}
use Rattle.gx_types.specs.declared.built.LinkTree.{LinkTree}
use Rattle.gx_types.specs.Any.{any_rule}
use Rattle.gx_types.specs.Build.{side_leaf_count, all_leaf_count, file_leaf_count, link_definitions, AreTreesOfFiles, IsLinkTreeOfSide, AreTreesOfLinks, IsReadyLinkSide, AreReadyLinks}
use Rattle.gx_types.specs.Links.{linkset_of, link_kids, linkset_at, link_kids_at}
use Rattle.gx_types.specs.Nodes.{AreLinkNodes}
use Rattle.gx_types.proofs.FileLaws.{few_leaves, split_count, total_count, node_between}
use Rattle.gx_types.proofs.MakerLaws.{first_width, link_ready}
use Rattle.gx_types.proofs.TreeLaws.{all_shift, kids_between, are_valid}

-- ---- the kinds of keys

first_kind : (fs : List Field) → 0 < length fs → AreFields [] fs
    → IsKind true (slice_index_or fs 0 no_field).kind
first_kind [] some are = absurd (omega arith)
first_kind (f ∷ fs) some are = are.0.kind

key_is : (before files : List FileDef) (i : ℕ) → AreFiles before files → i < length files
    → IsKind true (key_kind (slice_index_or files i no_file))
key_is before [] i are lt = absurd (omega arith)
key_is before (file ∷ files) zero are lt = first_kind file.fields are.0.some are.0.fields
key_is before (file ∷ files) (suc i) are lt =
    key_is (before ++ file ∷ []) files i are.1 (omega arith)

-- ---- definitions

side_ready : (n : ℕ) (o m : Kind) (side : SideTree) → IsKind true o → IsKind true m → IsSide side
    → IsTypedSide (stored.Link o m) side → n + side_leaf_count side ≤ 255
    → IsReadyLinkSide n o m side
side_ready n o m (file_side t) is_o is_m terms typed few = absurd typed
side_ready n o m (link_side linkset ts) is_o is_m terms typed few = record {
  terms = link_ready n linkset o m ts is_o is_m terms typed few;
  narrow_owner = first_width o is_o;
  narrow_member = first_width m is_m;
}

ready_from : (files : List FileDef) (before links : List LinkDef) (ds : List DefinitionTree) (n : ℕ)
    → AreFiles [] files → AreLinks files before links → AllByRecursion IsDefinition ds
    → AreTyped (map (link_due files) links) ds → n + all_leaf_count ds ≤ 255
    → AreReadyLinks files n links ds
ready_from files before [] [] n are links_are terms typed few = tt
ready_from files before [] (d ∷ ds) n are links_are terms typed few = absurd typed
ready_from files before (link ∷ links) [] n are links_are terms typed few = absurd typed
ready_from files before (link ∷ links) (d ∷ ds) n are links_are terms typed few =
    let total : n + (side_leaf_count d.side + all_leaf_count ds) ≤ 255 = few in (
      side_ready n (owner_kind files link) (member_kind files link) d.side
          (key_is [] files link.owner are links_are.0.owner)
          (key_is [] files link.member are links_are.0.member) terms.0.side typed.1
          (omega arith),
      ready_from files (before ++ link ∷ []) links ds (n + side_leaf_count d.side) are links_are.1
          terms.1 typed.2 (omega arith),
    )

-- the definitions behind those of the files
pub typed_behind : (all files : List FileDef) (links : List LinkDef) (ds : List DefinitionTree)
    → AreTyped (map file_due files ++ map (link_due all) links) ds
    → AreTyped (map (link_due all) links) (link_definitions files ds)
typed_behind all [] links ds typed = typed
typed_behind all (file ∷ files) links [] typed = absurd typed
typed_behind all (file ∷ files) links (d ∷ ds) typed = typed_behind all files links ds typed.2

written_behind : (files : List FileDef) (ds : List DefinitionTree) → AllByRecursion IsDefinition ds
    → AllByRecursion IsDefinition (link_definitions files ds)
written_behind [] ds are = are
written_behind (file ∷ files) [] are = tt
written_behind (file ∷ files) (d ∷ ds) are = written_behind files ds are.1

pub links_ready : (schema : Schema) (ds : List DefinitionTree) → IsSchema schema → AreWritten ds
    → IsTyped schema ds → AreReadyLinks schema.files (file_leaf_count schema.files ds) schema.links
    (link_definitions schema.files ds)
links_ready schema ds is written typed =
    ready_from schema.files [] schema.links (link_definitions schema.files ds)
    (file_leaf_count schema.files ds) is.files is.links
    (written_behind schema.files ds written.each)
    (typed_behind schema.files schema.files schema.links ds typed.definitions)
    (omega (arith, split_count schema.files ds, few_leaves schema ds typed))

-- ---- the nodes

side_valid : (n : ℕ) (o m : Kind) (side : SideTree) (x : LinkTree) → IsReadyLinkSide n o m side
    → IsLinkTreeOfSide n o m side x → AreValid any_rule (link_form (linkset_of x) o m) (link_kids x)
side_valid n o m (file_side t) x ready is = absurd ready
side_valid n o m (link_side linkset ts) x ready is =
    subst (λ (l : Linkset). AreValid any_rule (link_form l o m) (link_kids x)) (sym is.head)
    (are_valid n (link_form linkset o m) 0 (kids_from ts) (link_kids x) (link_form linkset o m)
    (λ c. ap (link_form linkset o m) (all_shift c)) ready.terms is.trees)

links_valid : (files : List FileDef) (n : ℕ) (links : List LinkDef) (ds : List DefinitionTree)
    (xs : List LinkTree) (i : ℕ) → AreReadyLinks files n links ds
    → AreTreesOfLinks files n links ds xs → i < length links
    → AreValid any_rule (link_form (linkset_at xs i)
    (owner_kind files (slice_index_or links i no_link))
    (member_kind files (slice_index_or links i no_link))) (link_kids_at xs i)
links_valid files n [] ds xs i ready are lt = absurd (omega arith)
links_valid files n (link ∷ links) [] xs i ready are lt = absurd ready
links_valid files n (link ∷ links) (d ∷ ds) [] i ready are lt = absurd are
links_valid files n (link ∷ links) (d ∷ ds) (x ∷ xs) zero ready are lt =
    side_valid n (owner_kind files link) (member_kind files link) d.side x ready.0 are.0
links_valid files n (link ∷ links) (d ∷ ds) (x ∷ xs) (suc i) ready are lt =
    links_valid files (n + side_leaf_count d.side) links ds xs i ready.1 are.1 (omega arith)

pub link_side_between : (n : ℕ) (o m : Kind) (side : SideTree) (x : LinkTree) (l : ℕ)
    → IsLinkTreeOfSide n o m side x → In l (kids_leaves (link_kids x))
    → (n ≤ l) × (l < n + side_leaf_count side)
link_side_between n o m (file_side t) x l is h = absurd is
link_side_between n o m (link_side linkset ts) x l is h =
    kids_between n (link_form linkset o m) 0 (kids_from ts) (link_kids x) l is.trees h

pub link_between : (files : List FileDef) (n : ℕ) (links : List LinkDef) (ds : List DefinitionTree)
    (xs : List LinkTree) (i l : ℕ) → AreTreesOfLinks files n links ds xs → i < length links
    → In l (kids_leaves (link_kids_at xs i))
    → (n ≤ l) × (l < n + all_leaf_count ds)
link_between files n [] ds xs i l are lt h = absurd (omega arith)
link_between files n (link ∷ links) [] xs i l are lt h = absurd are
link_between files n (link ∷ links) (d ∷ ds) [] i l are lt h = absurd are
link_between files n (link ∷ links) (d ∷ ds) (x ∷ xs) zero l are lt h =
    let b = link_side_between n (owner_kind files link) (member_kind files link) d.side x l are.0 h
    in
    (b.0, omega (arith, b.1))
link_between files n (link ∷ links) (d ∷ ds) (x ∷ xs) (suc i) l are lt h =
    let b = link_between files (n + side_leaf_count d.side) links ds xs i l are.1 (omega arith) h in
    (omega (arith, b.0), omega (arith, b.1))

links_apart : (files : List FileDef) (n : ℕ) (links : List LinkDef) (ds : List DefinitionTree)
    (xs : List LinkTree) (i j l : ℕ) → AreTreesOfLinks files n links ds xs → i < length links
    → j < length links
    → In l (kids_leaves (link_kids_at xs i)) → In l (kids_leaves (link_kids_at xs j)) → i ≡ j
links_apart files n [] ds xs i j l are lt_i lt_j h k = absurd (omega arith)
links_apart files n (link ∷ links) [] xs i j l are lt_i lt_j h k = absurd are
links_apart files n (link ∷ links) (d ∷ ds) [] i j l are lt_i lt_j h k = absurd are
links_apart files n (link ∷ links) (d ∷ ds) (x ∷ xs) zero zero l are lt_i lt_j h k = refl
links_apart files n (link ∷ links) (d ∷ ds) (x ∷ xs) zero (suc j) l are lt_i lt_j h k =
    absurd (omega (
      arith,
      (link_side_between n (owner_kind files link) (member_kind files link) d.side x l are.0 h).1,
      (link_between files (n + side_leaf_count d.side) links ds xs j l are.1 (omega arith) k).0,
    ))
links_apart files n (link ∷ links) (d ∷ ds) (x ∷ xs) (suc i) zero l are lt_i lt_j h k =
    absurd (omega (
      arith,
      (link_side_between n (owner_kind files link) (member_kind files link) d.side x l are.0 k).1,
      (link_between files (n + side_leaf_count d.side) links ds xs i l are.1 (omega arith) h).0,
    ))
links_apart files n (link ∷ links) (d ∷ ds) (x ∷ xs) (suc i) (suc j) l are lt_i lt_j h k =
    ap suc (links_apart files (n + side_leaf_count d.side) links ds xs i j l are.1 (omega arith)
    (omega arith) h k)

as_many_links : (files : List FileDef) (n : ℕ) (links : List LinkDef) (ds : List DefinitionTree)
    (xs : List LinkTree) → AreTreesOfLinks files n links ds xs → length xs ≡ length links
as_many_links files n [] [] [] are = refl
as_many_links files n [] [] (x ∷ xs) are = absurd are
as_many_links files n [] (d ∷ ds) xs are = absurd are
as_many_links files n (link ∷ links) [] xs are = absurd are
as_many_links files n (link ∷ links) (d ∷ ds) [] are = absurd are
as_many_links files n (link ∷ links) (d ∷ ds) (x ∷ xs) are =
    ap suc (as_many_links files (n + side_leaf_count d.side) links ds xs are.1)

pub are_link_nodes : (schema : Schema) (ds : List DefinitionTree) (nodes : List (Node AnyMapping))
    (xs : List LinkTree) (total : ℕ) → IsSchema schema → AreWritten ds → IsTyped schema ds
    → AreTreesOfFiles 0 schema.files ds nodes
    → AreTreesOfLinks schema.files (file_leaf_count schema.files ds) schema.links
    (link_definitions schema.files ds) xs → total ≡ length (leaves schema ds)
    → AreLinkNodes schema nodes xs total
are_link_nodes schema ds nodes xs total is written typed files_are are total_is =
    let n = file_leaf_count schema.files ds in
    let behind = link_definitions schema.files ds in
    record {
      many = as_many_links schema.files n schema.links behind xs are;
      valid = λ i lt. links_valid schema.files n schema.links behind xs i
          (links_ready schema ds is written typed) are lt;
      below = λ i l lt h. omega (
        arith,
        (link_between schema.files n schema.links behind xs i l are lt h).1,
        total_count schema ds total typed total_is,
      );
      apart = λ i j l lt_i lt_j h k. links_apart schema.files n schema.links behind xs i j l are
          lt_i lt_j h k;
      file_apart = λ i j l lt_i lt_j h k.
          omega (
            arith,
            (node_between 0 schema.files ds nodes i l files_are lt_i h).1,
            (link_between schema.files n schema.links behind xs j l are lt_j k).0,
          );
    }
