-- The nodes that store the records of a schema's files, and its links.
use Rattle.std.specs.Prelude.{◌≡◌, ◌↔◌, ℕ, zero, suc, ◌+◌, ◌<◌, List, [], ◌∷◌, length, slice_get, Some}
use Rattle.gx_schema.specs.declared.schema.Schema.{Schema}
use Rattle.gx_schema.specs.Lookups.{file_at, link_at}
use Rattle.gx_mapping.specs.Rule.{In}
use Rattle.gx_stack.specs.declared.node.Node.{Node}
use Rattle.gx_stack.specs.Tree.{Tree, leaf, leaves_of, kids_leaves, tree_form, IsValid, AreValid}
use Rattle.gx_stack.specs.Seen.{tree_of}
use Rattle.gx_types.specs.declared.any.AnyMapping.{AnyMapping}
use Rattle.gx_types.specs.declared.built.LinkTree.{LinkTree}
use Rattle.gx_types.specs.Any.{any_rule}
use Rattle.gx_types.specs.Links.{linkset_at, link_kids_at}
use Rattle.gx_typing.specs.Dues.{file_form, owner_kind, member_kind}
use Rattle.gx_forms.specs.Forms.{link_form}

-- what stands in the place of a tree that isn't there
abbrev pub no_tree : Tree AnyMapping
no_tree = leaf 0 (record { keys = []; fields = [] })

abbrev pub tree_at : List (Node AnyMapping) → ℕ → Tree AnyMapping
tree_at [] i = no_tree
tree_at (n ∷ ns) zero = tree_of n
tree_at (n ∷ ns) (suc i) = tree_at ns i

-- a node for each file, valid and of the file's form; each leaf is one of so many, and is in one of
-- the nodes alone
pub record AreNodes (schema : Schema) (nodes : List (Node AnyMapping)) (leaves : ℕ) : Type 0 where
  pub many : length nodes ≡ length schema.files
  pub valid : (i : ℕ) → i < length schema.files → IsValid any_rule (tree_at nodes i)
  pub form : (i : ℕ) → i < length schema.files
      → tree_form any_rule (tree_at nodes i) ≡ file_form (file_at schema i)
  pub below : (i n : ℕ) → i < length schema.files → In n (leaves_of (tree_at nodes i)) → n < leaves
  pub apart : (i j n : ℕ) → i < length schema.files → j < length schema.files
      → In n (leaves_of (tree_at nodes i)) → In n (leaves_of (tree_at nodes j)) → i ≡ j

-- nodes for each link, valid and of the forms of their linkset; each leaf is one of so many, and is
-- in the nodes of one link alone and in those of no file
pub record AreLinkNodes (schema : Schema) (nodes : List (Node AnyMapping)) (links : List LinkTree)
    (leaves : ℕ) : Type 0 where
  pub many : length links ≡ length schema.links
  pub valid : (i : ℕ) → i < length schema.links →
      AreValid any_rule
      (link_form (linkset_at links i) (owner_kind schema.files (link_at schema i))
      (member_kind schema.files (link_at schema i))) (link_kids_at links i)
  pub below : (i n : ℕ) → i < length schema.links → In n (kids_leaves (link_kids_at links i))
      → n < leaves
  pub apart : (i j n : ℕ) → i < length schema.links → j < length schema.links
      → In n (kids_leaves (link_kids_at links i)) → In n (kids_leaves (link_kids_at links j))
      → i ≡ j
  pub file_apart : (i j n : ℕ) → i < length schema.files → j < length schema.links
      → In n (leaves_of (tree_at nodes i)) → In n (kids_leaves (link_kids_at links j)) → ⊥

-- each of so many leaves has the number of its owner, the definition in whose nodes it is: the
-- files are counted first, and then the links
pub record AreOwned (schema : Schema) (nodes : List (Node AnyMapping)) (links : List LinkTree)
    (owners : List ℕ) (leaves : ℕ) : Type 0 where
  pub each : length owners ≡ leaves
  pub of_files : (i n : ℕ) → i < length schema.files → In n (leaves_of (tree_at nodes i))
      ↔ (slice_get owners n ≡ Some i)
  pub of_links : (i n : ℕ) → i < length schema.links → In n (kids_leaves (link_kids_at links i))
      ↔ (slice_get owners n ≡ Some (length schema.files + i))
