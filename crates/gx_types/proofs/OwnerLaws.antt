-- The owner of a leaf is the definition in whose nodes it is.
use Rattle.std.proofs.Common.{◌≡◌, ℕ, zero, suc, ◌+◌, ◌-◌, ◌<◌, ◌≤◌, List, [], ◌∷◌, ◌++◌, length, map, Option, Some, inl, inr, refl, sym, ap, subst, ◌∙◌, arith}
use Rattle.std.specs.Prelude.{slice_get}
use Rattle.std.specs.List.{AllByRecursion}
use Rattle.std.specs.Option.{option_map}
use Rattle.std.proofs.lemmas.Bool.{cases_lt}
use Rattle.std.proofs.lemmas.List.{length-map}
use Rattle.std.proofs.lemmas.Option.{slice_get-map, slice_get_within}
use Rattle.gx_values.specs.declared.values.Kind.{Kind}
use Rattle.gx_values.specs.declared.records.Form.{Form}
use Rattle.gx_mapping.specs.Rule.{In}
use Rattle.gx_schema.specs.declared.schema.Schema.{Schema}
use Rattle.gx_schema.specs.declared.schema.FileDef.{FileDef}
use Rattle.gx_schema.specs.declared.schema.LinkDef.{LinkDef}
use Rattle.gx_equation.specs.declared.heads.Head.{Head}
use Rattle.gx_equation.specs.declared.heads.Head.TheVariants as heads
use Rattle.gx_equation.specs.Trees.{TermTree, Trees, node, none, kid, kids_from, SideTree, file_side, link_side, DefinitionTree}
use Rattle.gx_forms.specs.Forms.{kid_form, link_form}
use Rattle.gx_stack.specs.declared.node.Node.{Node}
use Rattle.gx_stack.specs.Tree.{leaves_of as node_leaves, kids_leaves}
use Rattle.gx_stack.specs.Seen.{tree_of}
use Rattle.gx_typing.specs.declared.dues.Due.{Due}
use Rattle.gx_typing.specs.declared.dues.Stored.{Stored}
use Rattle.gx_typing.specs.declared.dues.Stored.TheVariants as stored
use Rattle.gx_typing.specs.Dues.{file_form, file_due, link_due, owner_kind, member_kind}
use Rattle.gx_typing.specs.Typed.{Leaf, owner_of, AreTyped, leaf_here, leaves_of, leaves_of_kids, leaves_of_side, leaves_of_all, leaves, IsTyped}
use Rattle.gx_types.specs.declared.any.AnyMapping.{AnyMapping}
use Rattle.gx_types.specs.declared.built.LinkTree.{LinkTree}
use Rattle.gx_types.specs.Build.{side_leaf_count, all_leaf_count, file_leaf_count, link_definitions, IsTreeOfSide, AreTreesOfFiles, IsLinkTreeOfSide, AreTreesOfLinks}
use Rattle.gx_types.specs.Links.{link_kids, link_kids_at}
use Rattle.gx_types.specs.Nodes.{tree_at, AreOwned}
use Rattle.gx_types.proofs.TreeLaws.{in_tree, in_trees}
use Rattle.gx_types.proofs.FileLaws.{side_count, total_count, side_between, node_between}
use Rattle.gx_types.proofs.LinkLaws.{typed_behind, link_side_between, link_between}

-- ---- places in a list

get_first : {A : Type 0} (xs ys : List A) (k : ℕ) → k < length xs
    → slice_get (xs ++ ys) k ≡ slice_get xs k
get_first [] ys k lt = absurd (omega arith)
get_first (x ∷ xs) ys zero lt = refl
get_first (x ∷ xs) ys (suc k) lt = get_first xs ys k (omega arith)

get_behind : {A : Type 0} (xs ys : List A) (k : ℕ)
    → slice_get (xs ++ ys) (length xs + k) ≡ slice_get ys k
get_behind [] ys k = ap (slice_get ys) (let e : 0 + k ≡ k = omega arith in e)
get_behind (x ∷ xs) ys k =
    ap (slice_get (x ∷ xs ++ ys)) (let e : suc (length xs) + k ≡ suc (length xs + k) =
    omega arith in e) ∙ get_behind xs ys k

-- ---- the leaves of one definition

abbrev HasOwner : ℕ → Leaf → Type 0
HasOwner owner l = owner_of l ≡ owner

both_owned : (owner : ℕ) (xs ys : List Leaf) → AllByRecursion (HasOwner owner) xs
    → AllByRecursion (HasOwner owner) ys → AllByRecursion (HasOwner owner) (xs ++ ys)
both_owned owner [] ys first others = others
both_owned owner (x ∷ xs) ys first others = (first.0, both_owned owner xs ys first.1 others)

here_owned : (owner : ℕ) (top : Head) (form : Form)
    → AllByRecursion (HasOwner owner) (leaf_here owner top form)
here_owned owner (heads.Leaf kind) form = (refl, tt)
here_owned owner heads.Actual form = tt
here_owned owner (heads.Encode name code) form = tt
here_owned owner (heads.Segment names) form = tt
here_owned owner heads.Transpose form = tt
here_owned owner (heads.Partition name bounds) form = tt
here_owned owner (heads.Divide size) form = tt
here_owned owner (heads.Index name) form = tt

mutual
  term_owned : (owner : ℕ) (form : Form) (t : TermTree)
      → AllByRecursion (HasOwner owner) (leaves_of owner form t)
  term_owned owner form (node top kids) =
      both_owned owner (leaf_here owner top form) (leaves_of_kids owner (kid_form top form) 0 kids)
      (here_owned owner top form) (kids_owned owner (kid_form top form) 0 kids)

  kids_owned : (owner : ℕ) (forms : ℕ → Form) (i : ℕ) (ts : Trees)
      → AllByRecursion (HasOwner owner) (leaves_of_kids owner forms i ts)
  kids_owned owner forms i none = tt
  kids_owned owner forms i (kid t ts) =
      both_owned owner (leaves_of owner (forms i) t) (leaves_of_kids owner forms (suc i) ts)
      (term_owned owner (forms i) t) (kids_owned owner forms (suc i) ts)

side_owned : (owner : ℕ) (due : Stored) (side : SideTree)
    → AllByRecursion (HasOwner owner) (leaves_of_side owner due side)
side_owned owner (stored.File form) (file_side t) = term_owned owner form t
side_owned owner (stored.File form) (link_side linkset ts) = tt
side_owned owner (stored.Link o m) (file_side t) = tt
side_owned owner (stored.Link o m) (link_side linkset ts) =
    kids_owned owner (link_form linkset o m) 0 (kids_from ts)

owned_at : (owner : ℕ) (ls : List Leaf) (k : ℕ) → AllByRecursion (HasOwner owner) ls → k < length ls
    → option_map owner_of (slice_get ls k) ≡ Some owner
owned_at owner [] k all lt = absurd (omega arith)
owned_at owner (l ∷ ls) zero all lt = ap Some all.0
owned_at owner (l ∷ ls) (suc k) all lt = owned_at owner ls k all.1 (omega arith)

-- ---- the owner at a place

abbrev owner_at : List Leaf → ℕ → Option ℕ
owner_at ls k = option_map owner_of (slice_get ls k)

-- the place is in the first definition
owner_first : (owner : ℕ) (due : Due) (dues : List Due) (d : DefinitionTree)
    (ds : List DefinitionTree) (k : ℕ) → AreTyped (due ∷ dues) (d ∷ ds) → k < side_leaf_count d.side
    → owner_at (leaves_of_all owner (due ∷ dues) (d ∷ ds)) k ≡ Some owner
owner_first owner due dues d ds k typed lt =
    let ls = leaves_of_side owner due.stored d.side in
    let within : k < length ls = omega (arith, lt, side_count owner due.stored d.side typed.1) in
    ap (option_map owner_of) (get_first ls (leaves_of_all (suc owner) dues ds) k within)
    ∙ owned_at owner ls k (side_owned owner due.stored d.side) within

-- the place is behind it
owner_behind : (owner : ℕ) (due : Due) (dues : List Due) (d : DefinitionTree)
    (ds : List DefinitionTree) (k j : ℕ) → AreTyped (due ∷ dues) (d ∷ ds)
    → k ≡ side_leaf_count d.side + j
    → owner_at (leaves_of_all owner (due ∷ dues) (d ∷ ds)) k ≡ owner_at
    (leaves_of_all (suc owner) dues ds) j
owner_behind owner due dues d ds k j typed is =
    let ls = leaves_of_side owner due.stored d.side in
    let place : k ≡ length ls + j = omega (arith, is, side_count owner due.stored d.side typed.1) in
    ap (owner_at (ls ++ leaves_of_all (suc owner) dues ds)) place
    ∙ ap (option_map owner_of) (get_behind ls (leaves_of_all (suc owner) dues ds) j)

-- ---- files

file_owner : (owner n : ℕ) (files : List FileDef) (behind : List Due) (ds : List DefinitionTree)
    (xs : List (Node AnyMapping)) (i m k : ℕ) → AreTyped (map file_due files ++ behind) ds
    → AreTreesOfFiles n files ds xs
    → i < length files → In m (node_leaves (tree_at xs i)) → m ≡ n + k
    → owner_at (leaves_of_all owner (map file_due files ++ behind) ds) k ≡ Some (owner + i)
file_owner owner n [] behind ds xs i m k typed are lt h is = absurd (omega arith)
file_owner owner n (file ∷ files) behind [] xs i m k typed are lt h is = absurd are
file_owner owner n (file ∷ files) behind (d ∷ ds) [] i m k typed are lt h is = absurd are
file_owner owner n (file ∷ files) behind (d ∷ ds) (x ∷ xs) zero m k typed are lt h is =
    let within = (side_between n (file_form file) d.side x m are.0 h).1 in
    let number : owner ≡ owner + 0 = omega arith in
    owner_first owner (file_due file) (map file_due files ++ behind) d ds k typed
    (omega (arith, within, is)) ∙ ap Some number
file_owner owner n (file ∷ files) behind (d ∷ ds) (x ∷ xs) (suc i) m k typed are lt h is =
    let c = side_leaf_count d.side in
    let from = (node_between (n + c) files ds xs i m are.1 (omega arith) h).0 in
    let place : k ≡ c + (k - c) = omega (arith, from, is) in
    let number : suc owner + i ≡ owner + suc i = omega arith in
    owner_behind owner (file_due file) (map file_due files ++ behind) d ds k (k - c) typed place
    ∙ file_owner (suc owner) (n + c) files behind ds xs i m (k - c) typed.2 are.1 (omega arith) h
    (omega (arith, from, is)) ∙ ap Some number

-- behind the leaves of the files
owner_of_links : (owner : ℕ) (files : List FileDef) (behind : List Due) (ds : List DefinitionTree)
    (k : ℕ) → AreTyped (map file_due files ++ behind) ds
    → owner_at (leaves_of_all owner (map file_due files ++ behind) ds)
    (file_leaf_count files ds + k) ≡ owner_at
    (leaves_of_all (length files + owner) behind (link_definitions files ds)) k
owner_of_links owner [] behind ds k typed =
    let place : 0 + k ≡ k = omega arith in
    let number : owner ≡ 0 + owner = omega arith in
    ap (owner_at (leaves_of_all owner behind ds)) place
    ∙ ap (λ o. owner_at (leaves_of_all o behind ds) k) number
owner_of_links owner (file ∷ files) behind [] k typed = absurd typed
owner_of_links owner (file ∷ files) behind (d ∷ ds) k typed =
    let number : length files + suc owner ≡ suc (length files) + owner = omega arith in
    owner_behind owner (file_due file) (map file_due files ++ behind) d ds _
    (file_leaf_count files ds + k) typed (omega arith)
    ∙ owner_of_links (suc owner) files behind ds k typed.2
    ∙ ap (λ o. owner_at (leaves_of_all o behind (link_definitions files ds)) k) number

-- ---- links

link_owner : (files : List FileDef) (owner n : ℕ) (links : List LinkDef) (ds : List DefinitionTree)
    (xs : List LinkTree) (i m k : ℕ) → AreTyped (map (link_due files) links) ds
    → AreTreesOfLinks files n links ds xs
    → i < length links → In m (kids_leaves (link_kids_at xs i)) → m ≡ n + k
    → owner_at (leaves_of_all owner (map (link_due files) links) ds) k ≡ Some (owner + i)
link_owner files owner n [] ds xs i m k typed are lt h is = absurd (omega arith)
link_owner files owner n (link ∷ links) [] xs i m k typed are lt h is = absurd are
link_owner files owner n (link ∷ links) (d ∷ ds) [] i m k typed are lt h is = absurd are
link_owner files owner n (link ∷ links) (d ∷ ds) (x ∷ xs) zero m k typed are lt h is =
    let within = (link_side_between n (owner_kind files link) (member_kind files link) d.side x m
    are.0 h).1 in
    let number : owner ≡ owner + 0 = omega arith in
    owner_first owner (link_due files link) (map (link_due files) links) d ds k typed
    (omega (arith, within, is)) ∙ ap Some number
link_owner files owner n (link ∷ links) (d ∷ ds) (x ∷ xs) (suc i) m k typed are lt h is =
    let c = side_leaf_count d.side in
    let from = (link_between files (n + c) links ds xs i m are.1 (omega arith) h).0 in
    let place : k ≡ c + (k - c) = omega (arith, from, is) in
    let number : suc owner + i ≡ owner + suc i = omega arith in
    owner_behind owner (link_due files link) (map (link_due files) links) d ds k (k - c) typed place
    ∙ link_owner files (suc owner) (n + c) links ds xs i m (k - c) typed.2 are.1 (omega arith) h
    (omega (arith, from, is)) ∙ ap Some number

-- ---- each number is that of a leaf in some nodes

in_side : (n : ℕ) (form : Form) (side : SideTree) (x : Node AnyMapping) (m : ℕ)
    → IsTreeOfSide n form side (tree_of x) → n ≤ m → m < n + side_leaf_count side
    → In m (node_leaves (tree_of x))
in_side n form (file_side t) x m is from below = in_tree n form t (tree_of x) m is from below
in_side n form (link_side linkset ts) x m is from below = absurd is

in_files : (n : ℕ) (files : List FileDef) (ds : List DefinitionTree) (xs : List (Node AnyMapping))
    (m : ℕ) → AreTreesOfFiles n files ds xs → n ≤ m → m < n + file_leaf_count files ds
    → (i : ℕ) × (i < length files) × In m (node_leaves (tree_at xs i))
in_files n [] ds xs m are from below = absurd (omega (arith, from, below))
in_files n (file ∷ files) [] xs m are from below = absurd are
in_files n (file ∷ files) (d ∷ ds) [] m are from below = absurd are
in_files n (file ∷ files) (d ∷ ds) (x ∷ xs) m are from below =
    elim (cases_lt m (n + side_leaf_count d.side)) [
      | inl lt ↦ (0, omega arith, in_side n (file_form file) d.side x m are.0 from lt)
      | inr ge ↦ (let found =
          in_files (n + side_leaf_count d.side) files ds xs m are.1 ge (omega (arith, below)) in
          (suc found.0, omega (arith, found.1), found.2))
    ]

in_link_side : (n : ℕ) (o m : Kind) (side : SideTree) (x : LinkTree) (l : ℕ)
    → IsLinkTreeOfSide n o m side x → n ≤ l → l < n + side_leaf_count side
    → In l (kids_leaves (link_kids x))
in_link_side n o m (file_side t) x l is from below = absurd is
in_link_side n o m (link_side linkset ts) x l is from below =
    in_trees n (link_form linkset o m) 0 (kids_from ts) (link_kids x) l is.trees from below

in_links : (files : List FileDef) (n : ℕ) (links : List LinkDef) (ds : List DefinitionTree)
    (xs : List LinkTree) (m : ℕ) → AreTreesOfLinks files n links ds xs → n ≤ m
    → m < n + all_leaf_count ds
    → (i : ℕ) × (i < length links) × In m (kids_leaves (link_kids_at xs i))
in_links files n [] [] xs m are from below = absurd (omega (arith, from, below))
in_links files n [] (d ∷ ds) xs m are from below = absurd are
in_links files n (link ∷ links) [] xs m are from below = absurd are
in_links files n (link ∷ links) (d ∷ ds) [] m are from below = absurd are
in_links files n (link ∷ links) (d ∷ ds) (x ∷ xs) m are from below =
    elim (cases_lt m (n + side_leaf_count d.side)) [
      | inl lt ↦ (
        0,
        omega arith,
        in_link_side n (owner_kind files link)
            (member_kind files link) d.side x m are.0 from lt,
      )
      | inr ge ↦ (let found =
          in_links files (n + side_leaf_count d.side) links ds xs m are.1 ge (omega (arith, below))
          in
          (suc found.0, omega (arith, found.1), found.2))
    ]

-- ---- the owners of a typed equation

module _ (schema : Schema) (ds : List DefinitionTree) (nodes : List (Node AnyMapping))
    (links : List LinkTree) (typed : IsTyped schema ds)
    (files_are : AreTreesOfFiles 0 schema.files ds nodes)
    (links_are : AreTreesOfLinks schema.files (file_leaf_count schema.files ds) schema.links
    (link_definitions schema.files ds) links) where
  abbrev owners : List ℕ
  owners = map owner_of (leaves schema ds)

  abbrev behind : List DefinitionTree
  behind = link_definitions schema.files ds

  abbrev first : ℕ
  first = file_leaf_count schema.files ds

  many : length owners ≡ length (leaves schema ds)
  many = length-map (leaves schema ds) owner_of

  of_file : (i m : ℕ) → i < length schema.files → In m (node_leaves (tree_at nodes i))
      → slice_get owners m ≡ Some i
  of_file i m lt h =
      let number : 0 + i ≡ i = omega arith in
      slice_get-map owner_of (leaves schema ds) m
      ∙ file_owner 0 0 schema.files (map (link_due schema.files) schema.links) ds nodes i m m
      typed.definitions files_are lt h (omega arith) ∙ ap Some number

  of_link : (i m : ℕ) → i < length schema.links → In m (kids_leaves (link_kids_at links i))
      → slice_get owners m ≡ Some (length schema.files + i)
  of_link i m lt h =
      let from = (link_between schema.files first schema.links behind links i m links_are lt h).0 in
      let place : m ≡ first + (m - first) = omega (arith, from) in
      let number : length schema.files + 0 + i ≡ length schema.files + i = omega arith in
      slice_get-map owner_of (leaves schema ds) m ∙ ap (owner_at (leaves schema ds)) place
      ∙ owner_of_links 0 schema.files (map (link_due schema.files) schema.links) ds
      (m - first) typed.definitions
      ∙ link_owner schema.files (length schema.files + 0) first schema.links behind links i m
      (m - first)
      (typed_behind schema.files schema.files schema.links ds typed.definitions) links_are lt h
      place
      ∙ ap Some number

  below_all : (m owner : ℕ) → slice_get owners m ≡ Some owner → m < first + all_leaf_count behind
  below_all m owner is = omega (
    arith,
    slice_get_within owners m owner is,
    many,
    total_count schema ds (length (leaves schema ds)) typed refl,
  )

  same : (a b : ℕ) (x : Option ℕ) → x ≡ Some a → x ≡ Some b → a ≡ b
  same a b x e f = cc

  to_file : (i m : ℕ) → i < length schema.files → slice_get owners m ≡ Some i
      → In m (node_leaves (tree_at nodes i))
  to_file i m lt is = elim (cases_lt m first) [
    | inl below ↦ (let found =
        in_files 0 schema.files ds nodes m files_are (omega arith) (omega (arith, below)) in
        subst (λ j. In m (node_leaves (tree_at nodes j)))
        (same found.0 i (slice_get owners m) (of_file found.0 m found.1 found.2) is) found.2)
    | inr from ↦ (let found =
        in_links schema.files first schema.links behind links m links_are from (below_all m i is) in
        let number = same (length schema.files + found.0) i (slice_get owners m)
        (of_link found.0 m found.1 found.2) is in
        absurd (omega (arith, number, lt)))
  ]

  to_link : (i m : ℕ) → i < length schema.links
      → slice_get owners m ≡ Some (length schema.files + i)
      → In m (kids_leaves (link_kids_at links i))
  to_link i m lt is = elim (cases_lt m first) [
    | inl below ↦ (let found =
        in_files 0 schema.files ds nodes m files_are (omega arith) (omega (arith, below)) in
        let number = same found.0 (length schema.files + i) (slice_get owners m)
        (of_file found.0 m found.1 found.2) is in
        absurd (omega (arith, number, found.1)))
    | inr from ↦ (let found =
        in_links schema.files first schema.links behind links m links_are from
        (below_all m (length schema.files + i) is) in
        let number = same (length schema.files + found.0) (length schema.files + i)
        (slice_get owners m) (of_link found.0 m found.1 found.2) is in
        let place : found.0 ≡ i = omega (arith, number) in
        subst (λ j. In m (kids_leaves (link_kids_at links j))) place found.2)
  ]

  pub are_owned : (total : ℕ) → total ≡ length (leaves schema ds)
      → AreOwned schema nodes links owners total
  are_owned total total_is = record {
    each = many ∙ sym total_is;
    of_files = λ i m lt. (of_file i m lt, to_file i m lt);
    of_links = λ i m lt. (of_link i m lt, to_link i m lt);
  }
