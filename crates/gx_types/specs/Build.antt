-- The nodes that equations mean.
use Rattle.std.specs.Prelude.{◌≡◌, ◌≢◌, ℕ, zero, suc, ◌+◌, ◌<◌, ◌≤◌, List, [], ◌∷◌, length, take, drop, None}
use Rattle.std.specs.List.{AllByRecursion}
use Rattle.gx_values.specs.Values.{kind_in}
use Rattle.gx_values.specs.Keys.{width_of}
use Rattle.gx_values.specs.declared.values.Kind.{Kind}
use Rattle.gx_values.specs.declared.records.Field.{Field}
use Rattle.gx_values.specs.declared.records.Form.{Form}
use Rattle.gx_schema.specs.declared.schema.FileDef.{FileDef}
use Rattle.gx_schema.specs.declared.schema.LinkDef.{LinkDef}
use Rattle.gx_equation.specs.declared.heads.Head.{Head}
use Rattle.gx_equation.specs.declared.heads.Head.TheVariants as heads
use Rattle.gx_equation.specs.declared.heads.Linkset.{Linkset}
use Rattle.gx_equation.specs.Printing.{IsTerm}
use Rattle.gx_equation.specs.Trees.{TermTree, Trees, node, none, kid, kids_from, list_of, SideTree, file_side, link_side, DefinitionTree}
use Rattle.gx_partition.specs.declared.place.Where.{Where}
use Rattle.gx_partition.specs.declared.place.Where.TheVariants.{Key, Rest}
use Rattle.gx_stack.specs.declared.node.Node.{Node}
use Rattle.gx_stack.specs.Tree.{Tree as NodeTree, Kids as NodeKids, leaf, layer, no_kids, kid as node_kid}
use Rattle.gx_stack.specs.Seen.{tree_of}
use Rattle.gx_types.specs.declared.any.AnyMapping.{AnyMapping}
use Rattle.gx_types.specs.declared.built.LinkTree.{LinkTree}
use Rattle.gx_types.specs.Any.{any_rule}
use Rattle.gx_types.specs.Links.{linkset_of, link_kids}
use Rattle.gx_typing.specs.Dues.{file_form, owner_kind, member_kind}
use Rattle.gx_types.specs.FileForms.{IsFileForm}
use Rattle.gx_forms.specs.Forms.{kid_form, link_form}
use Rattle.gx_types.specs.HeadRules.{head_rule, IsLayer}
use Rattle.gx_typing.specs.Places.{leaves_at}
use Rattle.gx_typing.specs.Typed.{IsTypedTerm, AreTypedTerms}
use Rattle.gx_typing.specs.Typing.{count}
use Rattle.gx_ports.specs.declared.kinds.TheConstants.{MAX_LEAVES}

-- ---- how many leaves there are

abbrev mutual
  pub leaf_count : TermTree → ℕ
  leaf_count (node top kids) = leaves_at top + leaf_counts kids

  pub leaf_counts : Trees → ℕ
  leaf_counts none = 0
  leaf_counts (kid t ts) = leaf_count t + leaf_counts ts

abbrev pub side_leaf_count : SideTree → ℕ
side_leaf_count (file_side t) = leaf_count t
side_leaf_count (link_side linkset ts) = leaf_counts (kids_from ts)

abbrev pub all_leaf_count : List DefinitionTree → ℕ
all_leaf_count [] = 0
all_leaf_count (d ∷ ds) = side_leaf_count d.side + all_leaf_count ds

-- the definitions of the files stand before those of the links
abbrev pub file_leaf_count : List FileDef → List DefinitionTree → ℕ
file_leaf_count files ds = all_leaf_count (take (length files) ds)

abbrev pub link_definitions : List FileDef → List DefinitionTree → List DefinitionTree
link_definitions files ds = drop (length files) ds

-- ---- what terms mean

-- the first field of the name has this number
abbrev pub IsFirstOf : List Field → List ℕ → ℕ → Type 0
IsFirstOf [] name i = ⊥
IsFirstOf (f ∷ fs) name zero = f.name ≡ name
IsFirstOf (f ∷ fs) name (suc i) = (f.name ≢ name) × IsFirstOf fs name i

-- keys before data
abbrev pub IsPlaceOf : Form → List ℕ → Where → Type 0
IsPlaceOf form name (Key i) = IsFirstOf form.keys name i
IsPlaceOf form name (Rest i) = (kind_in form.keys name ≡ None) × IsFirstOf form.fields name i

abbrev pub kids_of : TermTree → Trees
kids_of (node top kids) = kids

-- the mapping is that of the head, for the records of the form
abbrev pub IsMappingOf : Head → Form → AnyMapping → Type 0
IsMappingOf top form m = IsLayer top × (any_rule m ≡ head_rule top form)

-- the leaf has the number n, and the records of the form
abbrev pub IsLeafOf : ℕ → Form → Head → Trees → ℕ → Form → Type 0
IsLeafOf n form (heads.Leaf kind) none m f = (m ≡ n) × (f ≡ form)
IsLeafOf n form top kids m f = ⊥

-- the node is what the term means for the records of the form; its leaves have the numbers from n
-- on, in the order of the text
abbrev mutual
  pub IsTreeOf : ℕ → Form → TermTree → NodeTree AnyMapping → Type 0
  IsTreeOf n form (node top kids) (leaf m f) = IsLeafOf n form top kids m f
  IsTreeOf n form (node top kids) (layer m ks) =
      IsMappingOf top form m × AreTreesOf n (kid_form top form) 0 kids ks

  -- the first of the children has the number i
  pub AreTreesOf : ℕ → (ℕ → Form) → ℕ → Trees → NodeKids AnyMapping → Type 0
  AreTreesOf n forms i none no_kids = Unit {0}
  AreTreesOf n forms i none (node_kid u us) = ⊥
  AreTreesOf n forms i (kid t ts) no_kids = ⊥
  AreTreesOf n forms i (kid t ts) (node_kid u us) =
      IsTreeOf n (forms i) t u × AreTreesOf (n + leaf_count t) forms (suc i) ts us

abbrev pub IsTreeOfSide : ℕ → Form → SideTree → NodeTree AnyMapping → Type 0
IsTreeOfSide n form (file_side t) u = IsTreeOf n form t u
IsTreeOfSide n form (link_side linkset ts) u = ⊥

-- the nodes are what the first definitions mean, each for the records of its file
abbrev pub AreTreesOfFiles : ℕ → List FileDef → List DefinitionTree → List (Node AnyMapping)
    → Type 0
AreTreesOfFiles n [] ds [] = Unit {0}
AreTreesOfFiles n (file ∷ files) (d ∷ ds) (x ∷ xs) =
    IsTreeOfSide n (file_form file) d.side (tree_of x)
    × AreTreesOfFiles (n + side_leaf_count d.side) files ds xs
AreTreesOfFiles n files ds xs = ⊥

-- the nodes are what the side of a link means, whose files have keys of the kinds o and m
pub record IsLinkTreeOf (n : ℕ) (o m : Kind) (linkset : Linkset) (ts : List TermTree)
    (x : LinkTree) : Type 0 where
  pub head : linkset_of x ≡ linkset
  pub trees : AreTreesOf n (link_form linkset o m) 0 (kids_from ts) (link_kids x)

abbrev pub IsLinkTreeOfSide : ℕ → Kind → Kind → SideTree → LinkTree → Type 0
IsLinkTreeOfSide n o m (file_side t) x = ⊥
IsLinkTreeOfSide n o m (link_side linkset ts) x = IsLinkTreeOf n o m linkset ts x

-- the nodes are what the definitions mean, each for the pairs of its link between two of the files
abbrev pub AreTreesOfLinks : List FileDef → ℕ → List LinkDef → List DefinitionTree → List LinkTree
    → Type 0
AreTreesOfLinks files n [] [] [] = Unit {0}
AreTreesOfLinks files n (link ∷ links) (d ∷ ds) (x ∷ xs) =
    IsLinkTreeOfSide n (owner_kind files link) (member_kind files link) d.side x
    × AreTreesOfLinks files (n + side_leaf_count d.side) links ds xs
AreTreesOfLinks files n links ds xs = ⊥

-- ---- what building asks

-- a typed term of at most so many levels, whose leaves, numbered from n on, are among the first
-- `MAX_LEAVES`
pub record IsReady (n : ℕ) (form : Form) (t : TermTree) : Type 0 where
  pub levels : ℕ
  pub few_levels : levels ≤ 16
  pub term : IsTerm levels t
  pub records : IsFileForm levels form
  pub typed : IsTypedTerm form t
  pub few : n + leaf_count t ≤ MAX_LEAVES

-- likewise terms, of which the first is the child with the number i
pub record AreReady (n : ℕ) (forms : ℕ → Form) (i : ℕ) (ts : Trees) : Type 0 where
  pub levels : ℕ
  pub few_levels : levels ≤ 16
  pub terms : AllByRecursion (IsTerm levels) (list_of ts)
  pub records : (c : ℕ) → i ≤ c → c < i + count ts → IsFileForm levels (forms c)
  pub typed : AreTypedTerms forms i ts
  pub few : n + leaf_counts ts ≤ MAX_LEAVES

abbrev pub IsReadySide : ℕ → Form → SideTree → Type 0
IsReadySide n form (file_side t) = IsReady n form t
IsReadySide n form (link_side linkset ts) = ⊥

-- a definition for each file, and maybe others behind
abbrev pub AreReadyFiles : ℕ → List FileDef → List DefinitionTree → Type 0
AreReadyFiles n [] ds = Unit {0}
AreReadyFiles n (file ∷ files) [] = ⊥
AreReadyFiles n (file ∷ files) (d ∷ ds) =
    IsReadySide n (file_form file) d.side × AreReadyFiles (n + side_leaf_count d.side) files ds

-- the side of a link whose files have keys of the kinds o and m; a program counts the bytes of its
-- fields exactly
pub record IsReadyLink (n : ℕ) (o m : Kind) (linkset : Linkset) (ts : List TermTree) : Type 0 where
  pub terms : AreReady n (link_form linkset o m) 0 (kids_from ts)
  pub narrow_owner : width_of o ≤ 101
  pub narrow_member : width_of m ≤ 101

abbrev pub IsReadyLinkSide : ℕ → Kind → Kind → SideTree → Type 0
IsReadyLinkSide n o m (file_side t) = ⊥
IsReadyLinkSide n o m (link_side linkset ts) = IsReadyLink n o m linkset ts

-- a definition for each link
abbrev pub AreReadyLinks : List FileDef → ℕ → List LinkDef → List DefinitionTree → Type 0
AreReadyLinks files n [] [] = Unit {0}
AreReadyLinks files n (link ∷ links) (d ∷ ds) =
    IsReadyLinkSide n (owner_kind files link) (member_kind files link) d.side
    × AreReadyLinks files (n + side_leaf_count d.side) links ds
AreReadyLinks files n links ds = ⊥
