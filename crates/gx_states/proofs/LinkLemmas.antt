-- What a valid state has in its links, and what its leaves hold of them.
use Rattle.std.proofs.Common.{[], ◌≡◌, ℕ, zero, suc, ◌*◌, ◌<◌, List, ◌∷◌, length, true, false, Some, refl, sym, ap, subst, ◌∙◌, arith}
use Rattle.std.specs.Prelude.{is_some, IsTrue}
use Rattle.std.specs.List.{flat_map}
use Rattle.std.specs.FinMap as fin
use Rattle.std.proofs.lemmas.Bool.{true≢false}
use Rattle.gx_values.specs.declared.values.Kind.{Kind}
use Rattle.gx_values.specs.declared.values.Value.{Value}
use Rattle.gx_values.specs.declared.records.Form.{Form}
use Rattle.gx_values.specs.declared.records.Rec.{Rec}
use Rattle.gx_values.specs.Values.{Fits}
use Rattle.gx_values.specs.Keys.{width_of, IsKeyKind}
use Rattle.gx_schema.specs.declared.schema.FileDef.{FileDef}
use Rattle.gx_schema.specs.declared.schema.LinkDef.{LinkDef}
use Rattle.gx_schema.specs.declared.schema.Schema.{Schema}
use Rattle.gx_schema.specs.Lookups.{file_at, link_at, key_kind}
use Rattle.gx_ports.specs.LeafMaps.{LeafMap, map_at}
use Rattle.gx_mapping.specs.Rule.{Rule, In}
use Rattle.gx_mapping.proofs.RuleLemmas.{all_in}
use Rattle.gx_equation.specs.declared.heads.Linkset.TheVariants as linksets
use Rattle.gx_stack.specs.declared.node.Node.{Node}
use Rattle.gx_stack.specs.Tree.{Kids, no_kids, kid, kids_leaves, kid_count, kid_entries, AreValid}
use Rattle.gx_stack.specs.Internal.{AreInternal as AreHeld}
use Rattle.gx_stack.proofs.Unique.{kid_leaf}
use Rattle.gx_stack.proofs.Children.{kids_union_from_internal, kids_internal_from_union}
use Rattle.gx_gather.proofs.Lists.{from_each, none_some}
use Rattle.gx_gather.proofs.Entries.{find_in}
use Rattle.gx_forms.specs.Forms.{link_form}
use Rattle.gx_typing.specs.Dues.{owner_kind, member_kind}
use Rattle.gx_types.specs.declared.any.AnyMapping.{AnyMapping}
use Rattle.gx_types.specs.declared.built.Built.{Built}
use Rattle.gx_types.specs.declared.built.LinkTree.{LinkTree}
use Rattle.gx_types.specs.declared.built.LinkTree.TheVariants as trees
use Rattle.gx_types.specs.Any.{any_rule, any_laws}
use Rattle.gx_types.specs.Links.{linkset_of, link_kids, linkset_at, link_kids_at}
use Rattle.gx_types.specs.Nodes.{tree_at, AreLinkNodes}
use Rattle.gx_links.specs.Links.{Link, IsLink}
use Rattle.gx_links.specs.Linksets.{LinksetLaws}
use Rattle.gx_links.specs.Rows.{two_forms, link_rule, IsHeldLink}
use Rattle.gx_links.proofs.MemberLemmas.{pair_in}
use Rattle.gx_links.proofs.RowLemmas.{linkset_laws}
use Rattle.gx_linksets.specs.Any.{array_row_laws, inverted_row_laws, ring_row_laws}
use Rattle.gx_linksets.specs.Stored.{IsStorableLink, rows_of, rounds_of, finds_owner, rule_at, IsHeldAt}
use Rattle.gx_model.specs.States.{File, State, file_in, link_in, HasRowsOf, IsLinkOf, IsValid, IsRowOf}
use Rattle.gx_scan.specs.Files.{IsInternal}
use Rattle.gx_values.proofs.OrderLemmas.{value_cmp_same}
-- those who ask states about their links find them here
pub use Rattle.gx_pairs.proofs.LinkedLemmas.{as_many}
pub use Rattle.gx_pairs.proofs.MemberLemmas.{some_there}
use Rattle.gx_states.specs.Internal.{AreInternal}

-- ---- files and links of a state

-- the leaves of a file's node hold its records
pub file_is : (schema : Schema) (built : Built) (maps : List LeafMap) (s : State) (i : ℕ)
    → AreInternal schema built maps s → i < length schema.files
    → IsInternal (file_at schema i) (tree_at built.files i) maps (file_in s i)
file_is schema built maps s i are lt = record { fit = are.valid.files i lt; held = are.files i lt }

-- a record that is there fits
pub there_fits : (file : FileDef) (f : File) (k : Value) (vs : List Value) → HasRowsOf file f
    → fin.get f k ≡ Some vs → IsRowOf file (k, vs)
there_fits file f k vs fit e = all_in (IsRowOf file) (fin.entries f) (k, vs) fit
    (find_in value_cmp_same k vs (fin.entries f) (sym (fin.get-entries f k) ∙ e))

-- a key that is there fits
pub key_fits : (file : FileDef) (f : File) (k : Value) → HasRowsOf file f
    → IsTrue (is_some (fin.get f k)) → Fits (key_kind file) k
key_fits file f k fit there = let found = some_there (fin.get f k) there in
    (there_fits file f k found.0 fit found.1).0

-- both ends of a pair are records
pub member_there : (s : State) (def : LinkDef) (link : Link) (m o : Value) → IsLinkOf s def link
    → fin.get link m ≡ Some o → IsTrue (is_some (fin.get (file_in s def.member) m))
member_there s def link m o is e =
    all_in (λ pair. IsTrue (is_some (fin.get (file_in s def.member) pair.0))) (fin.entries link)
    (m, o) is.members (pair_in link m o e)

pub owner_there : (s : State) (def : LinkDef) (link : Link) (m o : Value) → IsLinkOf s def link
    → fin.get link m ≡ Some o → IsTrue (is_some (fin.get (file_in s def.owner) o))
owner_there s def link m o is e =
    all_in (λ pair. IsTrue (is_some (fin.get (file_in s def.owner) pair.1))) (fin.entries link)
    (m, o) is.owners (pair_in link m o e)

-- a link of a valid state is one that nodes can hold
pub link_fits : (schema : Schema) (s : State) (i : ℕ) → i < length schema.links
    → IsStorableLink schema.files (link_at schema i) → IsValid schema s
    → IsLink (owner_kind schema.files (link_at schema i))
    (member_kind schema.files (link_at schema i)) (link_in s i)
link_fits schema s i lt storable valid =
    let def = link_at schema i in
    let link = link_in s i in
    let is = valid.links i lt in
    record {
      fit = λ m o e. (
        key_fits (file_at schema def.member) (file_in s def.member) m
            (valid.files def.member storable.member) (member_there s def link m o is e),
        key_fits (file_at schema def.owner) (file_in s def.owner) o
            (valid.files def.owner storable.owner) (owner_there s def link m o is e),
      );
      few = λ o. omega (arith, as_many link o, is.few o);
    }

-- ---- the rows of a schema's link keep the laws of rows

-- children are valid by any forms that are the same for each of them
pub valid_by : {M : Type 0} (rule : M → Rule) (ks : Kids M) (forms others : ℕ → Form)
    → ((c : ℕ) → c < kid_count ks → forms c ≡ others c) → AreValid rule forms ks
    → AreValid rule others ks
valid_by rule no_kids forms others same valid = tt
valid_by rule (kid t ks) forms others same valid = (
  valid.0 ∙ same 0 (omega arith),
  valid.1,
  valid.2,
  valid_by rule ks (λ c. forms (suc c))
      (λ c. others (suc c)) (λ c lt. same (suc c) (omega (arith, lt))) valid.3,
)

tree_laws : (x : LinkTree) (o m : Kind) → IsKeyKind m
    → AreValid any_rule (link_form (linkset_of x) o m) (link_kids x)
    → LinksetLaws (link_rule any_rule (link_kids x) (rows_of (linkset_of x)) o m
    (rounds_of (linkset_of x)) (finds_owner (linkset_of x)))
    (IsHeldLink any_rule (link_kids x) (rows_of (linkset_of x)))
tree_laws (trees.Array n) o m key valid =
    linkset_laws (array_row_laws o m (link_form linksets.Array o m 0)
    (500 * width_of m) key refl refl (omega arith)) any_rule any_laws
    (link_kids (trees.Array n)) valid refl (rounds_of linksets.Array) false (λ n. omega arith)
    (λ e n. omega arith)
tree_laws (trees.Ring n k) o m key valid =
    linkset_laws (ring_row_laws o m (link_form linksets.Ring o m 0)
    (link_form linksets.Ring o m 1) refl refl refl refl) any_rule any_laws
    (link_kids (trees.Ring n k))
    (valid_by any_rule (link_kids (trees.Ring n k)) (link_form linksets.Ring o m)
    (two_forms (link_form linksets.Ring o m 0) (link_form linksets.Ring o m 1))
    (elim [ zero ↦ λ lt. refl | suc c ↦ λ lt. refl ]) valid) refl (rounds_of linksets.Ring) true
    (λ n. omega arith) (λ e n. absurd (true≢false e))
tree_laws (trees.Inverted n k) o m key valid =
    linkset_laws (inverted_row_laws o m (link_form linksets.Inverted o m 0)
    (link_form linksets.Inverted o m 1) refl refl refl refl) any_rule any_laws
    (link_kids (trees.Inverted n k))
    (valid_by any_rule (link_kids (trees.Inverted n k)) (link_form linksets.Inverted o m)
    (two_forms (link_form linksets.Inverted o m 0) (link_form linksets.Inverted o m 1))
    (elim [ zero ↦ λ lt. refl | suc c ↦ λ lt. refl ]) valid) refl
    (rounds_of linksets.Inverted) true (λ n. omega arith) (λ e n. absurd (true≢false e))

laws_of : (xs : List LinkTree) (i : ℕ) (o m : Kind) → i < length xs → IsKeyKind m
    → AreValid any_rule (link_form (linkset_at xs i) o m) (link_kids_at xs i)
    → LinksetLaws (link_rule any_rule (link_kids_at xs i) (rows_of (linkset_at xs i)) o m
    (rounds_of (linkset_at xs i)) (finds_owner (linkset_at xs i))) (IsHeldAt xs i)
laws_of [] i o m lt key valid = absurd (omega arith)
laws_of (x ∷ xs) zero o m lt key valid = tree_laws x o m key valid
laws_of (x ∷ xs) (suc i) o m lt key valid = laws_of xs i o m (omega arith) key valid

pub linkset_laws_at : (schema : Schema) (nodes : List (Node AnyMapping)) (links : List LinkTree)
    (leaves i : ℕ) → AreLinkNodes schema nodes links leaves
    → IsStorableLink schema.files (link_at schema i) → i < length schema.links
    → LinksetLaws (rule_at schema links i) (IsHeldAt links i)
linkset_laws_at schema nodes links leaves i of storable lt =
    laws_of links i (owner_kind schema.files (link_at schema i))
    (member_kind schema.files (link_at schema i)) (omega (arith, of.many)) storable.member_key
    (of.valid i lt)

-- ---- other leaves

-- what children hold doesn't depend on other leaves
pub kids_elsewhere : {M : Type 0} (rule : M → Rule) (ks : Kids M) (forms : ℕ → Form)
    (Rs : ℕ → List Rec) (old new : List LeafMap) → AreValid rule forms ks
    → ((n : ℕ) → In n (kids_leaves ks) → map_at new n ≡ map_at old n) → AreHeld rule ks Rs old
    → AreHeld rule ks Rs new
kids_elsewhere rule ks forms Rs old new valid same held =
    let u = kids_union_from_internal rule ks Rs old held in
    kids_internal_from_union rule ks forms Rs new valid (record {
      holds = λ c e h. let q = from_each (kid_entries rule ks c) e (Rs c) h in
          ap (λ (m : LeafMap). fin.get m e.key) (same e.leaf (kid_leaf rule ks c q.0 e q.2))
          ∙ u.holds c e h;
      only = λ e l found. u.only e l
          (ap (λ (m : LeafMap). fin.get m e.key) (sym (same e.leaf l)) ∙ found);
    })

-- leaves without entries hold no records
pub kids_of_none : {M : Type 0} (rule : M → Rule) (ks : Kids M) (forms : ℕ → Form)
    (Rs : ℕ → List Rec) (maps : List LeafMap) → AreValid rule forms ks
    → ((n : ℕ) → map_at maps n ≡ fin.empty) → ((c : ℕ) → Rs c ≡ []) → AreHeld rule ks Rs maps
kids_of_none rule ks forms Rs maps valid none empty =
    kids_internal_from_union rule ks forms Rs maps valid (record {
      holds = λ c e h. absurd (let k =
          subst (λ (rs : List Rec). In e (flat_map (kid_entries rule ks c) rs)) (empty c) h in k);
      only = λ e l found. absurd (none_some e.body
          (sym (ap (λ (m : LeafMap). fin.get m e.key) (none e.leaf) ∙ fin.get-empty _ e.key)
          ∙ found));
    })

-- a link of the schema is held in the leaves that stay as they are
pub link_elsewhere : (schema : Schema) (nodes : List (Node AnyMapping)) (links : List LinkTree)
    (leaves i : ℕ) (link : Link) (old new : List LeafMap) → AreLinkNodes schema nodes links leaves
    → i < length schema.links → ((n : ℕ) → In n (kids_leaves (link_kids_at links i))
    → map_at new n ≡ map_at old n) → IsHeldAt links i link old → IsHeldAt links i link new
link_elsewhere schema nodes links leaves i link old new of lt same held =
    kids_elsewhere any_rule (link_kids_at links i) _ _ old new (of.valid i lt) same held
