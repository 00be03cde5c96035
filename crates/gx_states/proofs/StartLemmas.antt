-- A schema that some text means can be stored, and leaves without entries stand for the empty
-- state.
use Rattle.std.proofs.Common.{[], ◌≡◌, ℕ, zero, suc, ◌+◌, ◌<◌, ◌≤◌, List, ◌∷◌, ◌++◌, length, map, get_or, true, refl, sym, ap, subst, ◌∙◌, arith, Ordering, length-append}
use Rattle.std.specs.Prelude.{replicate, filter, is_some, IsTrue}
use Rattle.std.specs.List.{AllByRecursion, flat_map}
use Rattle.std.specs.FinMap as fin
use Rattle.std.proofs.lemmas.List.{get_or-replicate, length-replicate, nil_from_length}
use Rattle.gx_values.specs.declared.values.Value.{Value}
use Rattle.gx_values.specs.declared.records.Field.{Field}
use Rattle.gx_values.specs.declared.records.Rec.{Rec}
use Rattle.gx_values.specs.Values.{value_cmp, no_field}
use Rattle.gx_values.specs.Keys.{width_of, IsKeyKind}
use Rattle.gx_schema.specs.declared.schema.FileDef.{FileDef}
use Rattle.gx_schema.specs.declared.schema.LinkDef.{LinkDef}
use Rattle.gx_schema.specs.declared.schema.Schema.{Schema}
use Rattle.gx_schema.specs.Lookups.{no_link, file_at, link_at, key_kind}
use Rattle.gx_schema.specs.Rules.{IsKind, AreFields, AreLinks, IsSchema}
use Rattle.gx_schema.proofs.WellFormedLaws.{rules_at}
use Rattle.gx_ports.specs.LeafMaps.{map_at}
use Rattle.gx_mapping.specs.declared.parts.Part.{Part}
use Rattle.gx_stack.specs.Tree.{Tree, IsValid}
use Rattle.gx_stack.specs.Internal.{parts_for, IsInternal as IsHeld}
use Rattle.gx_stack.proofs.Same.{internal_of_none}
use Rattle.gx_types.specs.declared.any.AnyMapping.{AnyMapping}
use Rattle.gx_types.specs.declared.built.Built.{Built}
use Rattle.gx_types.specs.Any.{any_rule}
use Rattle.gx_types.specs.Links.{linkset_at, link_kids_at}
use Rattle.gx_types.specs.Nodes.{tree_at}
use Rattle.gx_types.proofs.MakerLaws.{first_width}
use Rattle.gx_links.specs.Links.{members_of, distinct}
use Rattle.gx_links.specs.Rows.{node_rows}
use Rattle.gx_linksets.specs.Stored.{IsStorableLink, rows_of, IsHeldAt}
use Rattle.gx_model.specs.States.{Link, State, IsRowOf, IsLinkOf, file_in, link_in, is_same, most_members, empty_state}
use Rattle.gx_scan.specs.Files.{rec_of, file_records, IsInternal}
use Rattle.gx_scan.proofs.StorableLemmas.{file_stored, file_named}
use Rattle.gx_states.specs.Internal.{AreInternal, AreStorable, AreFor}
use Rattle.gx_states.proofs.LinkLemmas.{kids_of_none}

-- ---- a schema that some text means

first_kind : (fs : List Field) → 0 < length fs → AreFields [] fs
    → IsKind true (get_or fs 0 no_field).kind
first_kind [] some are = absurd (omega arith)
first_kind (f ∷ fs) some are = are.0.kind

-- the key of a file of the schema
key_is : (schema : Schema) (i : ℕ) → IsSchema schema → i < length schema.files
    → IsKeyKind (key_kind (file_at schema i)) × (width_of (key_kind (file_at schema i)) ≤ 101)
key_is schema i is lt =
    let rules = rules_at [] schema.files i is.files lt in (
      (file_stored (file_at schema i) rules).key,
      first_width (key_kind (file_at schema i))
          (first_kind (file_at schema i).fields rules.some rules.fields),
    )

-- both files of a link are there
record HasFiles (files : List FileDef) (def : LinkDef) : Type 0 where
  owner : def.owner < length files
  member : def.member < length files

files_of : (files : List FileDef) (before links : List LinkDef) (i : ℕ)
    → AreLinks files before links → i < length links → HasFiles files (get_or links i no_link)
files_of files before [] i are lt = absurd (omega arith)
files_of files before (l ∷ links) zero are lt =
    record { owner = are.0.owner; member = are.0.member }
files_of files before (l ∷ links) (suc i) are lt =
    files_of files (before ++ l ∷ []) links i are.1 (omega arith)

few_links : (files : List FileDef) (before links : List LinkDef) → length before ≤ 32
    → AreLinks files before links → length before + length links ≤ 32
few_links files before [] few are = omega arith
few_links files before (l ∷ links) few are =
    let more : length (before ++ l ∷ []) ≡ length before + 1 = length-append before (l ∷ []) in
    omega (
      arith,
      more,
      few_links files (before ++ l ∷ []) links (omega (arith, more, are.0.room)) are.1,
    )

link_stored : (schema : Schema) (i : ℕ) → IsSchema schema → i < length schema.links
    → IsStorableLink schema.files (link_at schema i)
link_stored schema i is lt =
    let has = files_of schema.files [] schema.links i is.links lt in
    let owner = key_is schema (link_at schema i).owner is has.owner in
    let member = key_is schema (link_at schema i).member is has.member in
    record {
      owner = has.owner;
      member = has.member;
      owner_key = owner.0;
      member_key = member.0;
      narrow_owner = owner.1;
      narrow_member = member.1;
    }

pub are_storable : (schema : Schema) → IsSchema schema → AreStorable schema
are_storable schema is = record {
  files = λ i lt. file_stored (file_at schema i) (rules_at [] schema.files i is.files lt);
  named = λ i lt. file_named (file_at schema i) (rules_at [] schema.files i is.files lt);
  links = λ i lt. link_stored schema i is lt;
  few_links = omega (arith, few_links schema.files [] schema.links (omega arith) is.links);
}

-- ---- before the first command

no_entries : {K : Type 0} (R : K → K → Ordering) (X : Type 0)
    → fin.entries (fin.empty {X = X} {R = R}) ≡ []
no_entries R X = nil_from_length _
    (sym (fin.len-entries (fin.empty {X = X} {R = R})) ∙ fin.len-empty R X)

empty_at : (count n : ℕ) → map_at (replicate count fin.empty) n ≡ fin.empty
empty_at zero n = refl
empty_at (suc count) zero = refl
empty_at (suc count) (suc n) = empty_at count n

-- what the records of a file without entries are
no_records : file_records fin.empty ≡ []
no_records = ap (map rec_of) (no_entries value_cmp (List Value))

empty_internal : (file : FileDef) (t : Tree AnyMapping) (count : ℕ) → IsValid any_rule t
    → IsInternal file t (replicate count fin.empty) fin.empty
empty_internal file t count valid = record {
  fit = subst (AllByRecursion (IsRowOf file)) (sym (no_entries value_cmp (List Value))) tt;
  held = subst (λ (rs : List Rec). IsHeld any_rule t rs (replicate count fin.empty))
      (sym no_records) (internal_of_none any_rule t (replicate count fin.empty) valid
      (empty_at count));
}

-- what comes from the pairs of a link without entries
no_rows : (rows : Value → List Value → List Part) (c : ℕ) → node_rows rows fin.empty c ≡ []
no_rows rows c = ap (λ (es : List (Value × Value)). parts_for c
    (flat_map (λ o. rows o (members_of fin.empty o)) (distinct (map (λ pair. pair.1) es))))
    (no_entries value_cmp Value)

empty_link : (s : State) (def : LinkDef) → IsLinkOf s def fin.empty
empty_link s def = record {
  members = subst (AllByRecursion
      (λ pair. IsTrue (is_some (fin.get (file_in s def.member) pair.0))))
      (sym (no_entries value_cmp Value)) tt;
  owners = subst (AllByRecursion (λ pair. IsTrue (is_some (fin.get (file_in s def.owner) pair.1))))
      (sym (no_entries value_cmp Value)) tt;
  few = λ owner. subst (λ (es : List (Value × Value)). length
      (filter (λ pair. is_same pair.1 owner) es) ≤ most_members) (sym (no_entries value_cmp Value))
      (omega arith);
}

pub start_state : (schema : Schema) (built : Built) (leaves count : ℕ) → AreFor schema built leaves
    → AreInternal schema built (replicate count fin.empty) (empty_state schema)
start_state schema built leaves count for = record {
  valid = record {
    files_many = length-replicate (length schema.files) fin.empty;
    links_many = length-replicate (length schema.links) fin.empty;
    files = λ i lt. (file_empty i lt).fit;
    links = λ i lt. subst (IsLinkOf (empty_state schema) (link_at schema i)) (sym (link_empty i lt))
        (empty_link (empty_state schema) (link_at schema i));
  };
  files = λ i lt. (file_empty i lt).held;
  links = λ i lt. subst (λ (link : Link). IsHeldAt built.links i link (replicate count fin.empty))
      (sym (link_empty i lt))
      (kids_of_none any_rule (link_kids_at built.links i) _
      (node_rows (rows_of (linkset_at built.links i)) fin.empty) (replicate count fin.empty)
      (for.link_nodes.valid i lt) (empty_at count) (no_rows (rows_of (linkset_at built.links i))));
}
  where
    file_empty : (i : ℕ) → i < length schema.files
        → IsInternal (file_at schema i) (tree_at built.files i) (replicate count fin.empty)
        (file_in (empty_state schema) i)
    file_empty i lt =
        subst (λ f. IsInternal (file_at schema i) (tree_at built.files i)
        (replicate count fin.empty) f)
        (sym (get_or-replicate (length schema.files) i fin.empty fin.empty lt))
        (empty_internal (file_at schema i) (tree_at built.files i) count (for.nodes.valid i lt))

    link_empty : (i : ℕ) → i < length schema.links → link_in (empty_state schema) i ≡ fin.empty
    link_empty i lt = get_or-replicate (length schema.links) i fin.empty fin.empty lt
