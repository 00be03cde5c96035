-- Files and links of a schema as they are stored.
use Rattle.gx_links.specs.Links.{IsLink}
use Rattle.gx_links.specs.Linksets.{LinkRule}
use Rattle.gx_linksets.proofs.LeafLemmas.{few_leaves}
use Rattle.gx_mapping.specs.Rule.{In}
use Rattle.gx_model.specs.States.{Link, State, file_in, link_in}
use Rattle.gx_pairs.specs.Stored.{file_of, node_tree, IsStoredFile, IsStoredLink, AreLinked, HaveLink}
use Rattle.gx_pairs.specs.declared.stored.StoredFile.{StoredFile}
use Rattle.gx_pairs.specs.declared.stored.StoredLink.{StoredLink}
use Rattle.gx_ports.specs.LeafMaps.{LeafMap}
use Rattle.gx_scan.specs.Files.{IsInternal, IsStorable, IsTreeFor, HasFile}
use Rattle.gx_schema.specs.Lookups.{file_at, link_at, key_kind}
use Rattle.gx_schema.specs.declared.schema.FileDef.{FileDef}
use Rattle.gx_schema.specs.declared.schema.Schema.{Schema}
use Rattle.gx_stack.specs.Seen.{tree_of}
use Rattle.gx_stack.specs.Tree.{Tree, leaves_of}
use Rattle.gx_stack.specs.declared.node.Node.{Node}
use Rattle.gx_types.specs.Nodes.{tree_at, AreNodes}
use Rattle.gx_types.specs.declared.any.AnyMapping.{AnyMapping}
use Rattle.gx_types.specs.declared.built.Built.{Built}
use Rattle.std.proofs.Common.{[], ◌≡◌, ℕ, zero, suc, ◌<◌, ◌≤◌, List, ◌∷◌, length, get_or, sym, ap, subst, ◌∙◌, arith}
use Rattle.gx_states.specs.Internal.{AreInternal, HaveState, AreFor}
use Rattle.gx_states.specs.Stored.{IsStoredLinkOf}
use Rattle.gx_states.proofs.LinkLemmas.{file_is, member_there, owner_there, link_fits}

-- ---- nodes of files

pub tree_read : (ns : List (Node AnyMapping)) (i : ℕ) (n : Node AnyMapping) → i < length ns
    → n ≡ get_or ns i n → tree_of n ≡ tree_at ns i
tree_read [] i n lt is = absurd (omega arith)
tree_read (m ∷ ns) zero n lt is = ap tree_of is
tree_read (m ∷ ns) (suc i) n lt is = tree_read ns i n (omega arith) is

pub tree_for : (schema : Schema) (ns : List (Node AnyMapping)) (leaves i : ℕ) (t : Tree AnyMapping)
    → i < length ns → t ≡ tree_at ns i → AreNodes schema ns leaves
    → IsTreeFor (file_at schema i) t leaves
tree_for schema ns leaves i t lt is nodes =
    let there : i < length schema.files = omega (arith, nodes.many) in
    subst (λ (x : Tree AnyMapping). IsTreeFor (file_at schema i) x leaves) (sym is) (record {
      valid = nodes.valid i there;
      form = nodes.form i there;
      below = λ n h. nodes.below i n there h;
    })

-- of a file and its tree under other names
pub internal_at : (schema : Schema) (built : Built) (i : ℕ) (file : FileDef) (t : Tree AnyMapping)
    (maps : List LeafMap) (s : State) → file ≡ file_at schema i → t ≡ tree_at built.files i
    → i < length schema.files → AreInternal schema built maps s
    → IsInternal file t maps (file_in s i)
internal_at schema built i file t maps s e d lt are =
    subst (λ (x : FileDef). IsInternal x t maps (file_in s i)) (sym e)
    (subst (λ (x : Tree AnyMapping). IsInternal (file_at schema i) x maps (file_in s i)) (sym d)
    (file_is schema built maps s i are lt))

pub has_file : (schema : Schema) (built : Built) (i : ℕ) (file : FileDef) (t : Tree AnyMapping)
    (maps : List LeafMap) → file ≡ file_at schema i → t ≡ tree_at built.files i
    → i < length schema.files → HaveState schema built maps → HasFile file t maps
has_file schema built i file t maps e d lt state =
    (file_in state.0 i, internal_at schema built i file t maps state.0 e d lt state.1)

-- ---- a link as it is stored

pub stored_file_is : (schema : Schema) (built : Built) (leaves i : ℕ) (x : StoredFile)
    → AreFor schema built leaves → i < length schema.files → file_of x ≡ file_at schema i
    → node_tree x ≡ tree_at built.files i → IsStoredFile x leaves
stored_file_is schema built leaves i x for lt file tree = record {
  tree = subst (λ f. IsTreeFor f (node_tree x) leaves) (sym file)
      (subst (λ (t : Tree AnyMapping). IsTreeFor (file_at schema i) t leaves) (sym tree) (record {
        valid = for.nodes.valid i lt;
        form = for.nodes.form i lt;
        below = λ n h. for.nodes.below i n lt h;
      }));
  storable = subst IsStorable (sym file) (for.storable.files i lt);
}

module _ {L : Type 0} (rule : L → LinkRule) (held : L → Link → List LeafMap → Type 0)
    (valid : L → Type 0) (schema : Schema) (built : Built) (leaves i : ℕ) (x : StoredLink L)
    (for : AreFor schema built leaves) (lt : i < length schema.links)
    (is : IsStoredLinkOf rule held valid schema built i x) where
  pub is_stored : IsStoredLink rule valid x leaves
  is_stored = record {
    owners = stored_file_is schema built leaves (link_at schema i).owner x.owners for
        (for.storable.links i lt).owner is.owner_file is.owner_tree;
    members = stored_file_is schema built leaves (link_at schema i).member x.members for
        (for.storable.links i lt).member is.member_file is.member_tree;
    owner_kind = ap (λ r. r.owner) is.rule_is ∙ ap key_kind (sym is.owner_file);
    member_kind = ap (λ r. r.member) is.rule_is ∙ ap key_kind (sym is.member_file);
    linkset = record {
      valid = is.valid_is;
      below = λ n h. for.link_nodes.below i n lt (subst (λ r. In n r.leaves) is.rule_is h);
      few = subst (λ r. length r.leaves ≤ leaves) (sym is.rule_is)
          (few_leaves schema built.files built.links leaves i for.link_nodes lt);
    };
    owners_apart = λ n h k. for.link_nodes.file_apart (link_at schema i).owner i n
        (for.storable.links i lt).owner lt
        (subst (λ (t : Tree AnyMapping). In n (leaves_of t)) is.owner_tree h)
        (subst (λ r. In n r.leaves) is.rule_is k);
    members_apart = λ n h k. for.link_nodes.file_apart (link_at schema i).member i n
        (for.storable.links i lt).member lt
        (subst (λ (t : Tree AnyMapping). In n (leaves_of t)) is.member_tree h)
        (subst (λ r. In n r.leaves) is.rule_is k);
  }

  internal_as : (j : ℕ) (y : StoredFile) (maps : List LeafMap) (s : State)
      → file_of y ≡ file_at schema j → node_tree y ≡ tree_at built.files j
      → AreInternal schema built maps s → j < length schema.files
      → IsInternal (file_of y) (node_tree y) maps (file_in s j)
  internal_as j y maps s file tree are h =
      subst (λ f. IsInternal f (node_tree y) maps (file_in s j)) (sym file)
      (subst (λ (t : Tree AnyMapping). IsInternal (file_at schema j) t maps (file_in s j))
      (sym tree) (file_is schema built maps s j are h))

  pub is_linked_in : (maps : List LeafMap) (s : State) → AreInternal schema built maps s
      → AreLinked rule held x maps (file_in s (link_at schema i).owner)
      (file_in s (link_at schema i).member) (link_in s i)
  is_linked_in maps s are = record {
    owners = internal_as (link_at schema i).owner x.owners maps s is.owner_file is.owner_tree are
        (for.storable.links i lt).owner;
    members = internal_as (link_at schema i).member x.members maps s is.member_file is.member_tree
        are (for.storable.links i lt).member;
    is_link = subst (λ r. IsLink r.owner r.member (link_in s i)) (sym is.rule_is)
        (link_fits schema s i lt (for.storable.links i lt) are.valid);
    link = is.held_to (link_in s i) maps (are.links i lt);
    there = λ m o e. (
      member_there s (link_at schema i) (link_in s i) m o (are.valid.links i lt) e,
      owner_there s (link_at schema i) (link_in s i) m o (are.valid.links i lt) e,
    );
  }

  pub have_link : (maps : List LeafMap) → HaveState schema built maps → HaveLink rule held x maps
  have_link maps h = (
    file_in h.0 (link_at schema i).owner,
    file_in h.0 (link_at schema i).member,
    link_in h.0 i,
    is_linked_in maps h.0 h.1,
  )
