-- Leaves stand for one state at most.
use Rattle.std.proofs.Common.{◌≡◌, ℕ, ◌<◌, List, length, Option, Some, None, refl, sym, ap, subst, ◌∙◌, arith}
use Rattle.std.specs.FinMap as fin
use Rattle.std.proofs.lemmas.List.{ext_get_or}
use Rattle.gx_values.specs.declared.values.Value.{Value}
use Rattle.gx_values.specs.declared.records.Rec.{Rec}
use Rattle.gx_values.proofs.OrderLemmas.{value_cmp_total, value_cmp_same}
use Rattle.gx_schema.specs.declared.schema.FileDef.{FileDef}
use Rattle.gx_schema.specs.declared.schema.Schema.{Schema}
use Rattle.gx_schema.specs.Lookups.{file_at}
use Rattle.gx_ports.specs.LeafMaps.{LeafMap}
use Rattle.gx_mapping.specs.Rule.{In}
use Rattle.gx_stack.specs.Tree.{Tree, tree_form, IsValid}
use Rattle.gx_stack.specs.Internal.{IsSet}
use Rattle.gx_stack.proofs.Told.{internal_told}
use Rattle.gx_types.specs.declared.any.AnyMapping.{AnyMapping}
use Rattle.gx_types.specs.Any.{any_rule, any_laws}
use Rattle.gx_typing.specs.Dues.{file_form}
use Rattle.gx_types.specs.declared.built.Built.{Built}
use Rattle.gx_types.specs.Nodes.{tree_at}
use Rattle.gx_model.specs.States.{File, State, file_in, link_in}
use Rattle.gx_scan.specs.Files.{rec_of, file_records, IsInternal}
use Rattle.gx_scan.proofs.FileLemmas.{in_there, there_in, one_key, set_of}
use Rattle.gx_states.specs.Internal.{AreInternal, AreFor}
use Rattle.gx_states.proofs.LinkLemmas.{file_is, link_fits, linkset_laws_at}

-- what one file has at a key the other has
got : (f g : File) (k : Value) (vs : List Value)
    → ((r : Rec) → In r (file_records f) → In r (file_records g)) → fin.get f k ≡ Some vs
    → fin.get g k ≡ Some vs
got f g k vs to e =
    let there = in_there g (rec_of (k, vs)) (to (rec_of (k, vs)) (there_in f k vs e)) in
    let key : k ≡ there.key = one_key k there.key (ap (λ (r : Rec). r.key) there.is) in
    let values : vs ≡ there.values = ap (λ (r : Rec). r.fields) there.is in
    ap (fin.get g) key ∙ there.found ∙ ap Some (sym values)

same_get : (f g : File) (k : Value) → ((r : Rec) → In r (file_records f) → In r (file_records g))
    → ((r : Rec) → In r (file_records g) → In r (file_records f)) → fin.get f k ≡ fin.get g k
same_get f g k to from = go (fin.get f k) (fin.get g k) refl refl
  where
    go : (o p : Option (List Value)) → fin.get f k ≡ o → fin.get g k ≡ p → fin.get f k ≡ fin.get g k
    go None None e d = e ∙ sym d
    go (Some vs) p e d = e ∙ sym (got f g k vs to e)
    go None (Some vs) e d = got g f k vs from d ∙ sym d

same_file : (file : FileDef) (t : Tree AnyMapping) (maps : List LeafMap) (f g : File)
    → 0 < length file.fields → IsValid any_rule t → tree_form any_rule t ≡ file_form file
    → IsInternal file t maps f → IsInternal file t maps g → f ≡ g
same_file file t maps f g keyed valid form is_f is_g =
    let set : (h : File) → IsInternal file t maps h
    → IsSet (tree_form any_rule t) (file_records h) =
    λ h is. subst (λ x. IsSet x (file_records h)) (sym form) (set_of file h keyed is.fit) in
    fin.same_map value_cmp_total value_cmp_same f g (λ k. same_get f g k
    (internal_told any_rule any_laws maps t (file_records f) (file_records g) valid (set f is_f)
    (set g is_g) is_f.held is_g.held)
    (internal_told any_rule any_laws maps t (file_records g) (file_records f) valid (set g is_g)
    (set f is_f) is_g.held is_f.held))

pub state_told : (schema : Schema) (built : Built) (leaves : ℕ) (maps : List LeafMap) (s t : State)
    → AreFor schema built leaves → AreInternal schema built maps s → AreInternal schema built maps t
    → s ≡ t
state_told schema built leaves maps s t of is_s is_t =
    let files : s.files ≡ t.files =
    ext_get_or fin.empty s.files t.files (is_s.valid.files_many ∙ sym is_t.valid.files_many)
    (λ i lt.
    let there : i < length schema.files = omega (arith, is_s.valid.files_many) in
    same_file (file_at schema i) (tree_at built.files i) maps (file_in s i) (file_in t i)
    (of.storable.files i there).keyed (of.nodes.valid i there) (of.nodes.form i there)
    (file_is schema built maps s i is_s there) (file_is schema built maps t i is_t there)) in
    let links : s.links ≡ t.links =
    ext_get_or fin.empty s.links t.links (is_s.valid.links_many ∙ sym is_t.valid.links_many)
    (λ i lt.
    let there : i < length schema.links = omega (arith, is_s.valid.links_many) in
    let storable = of.storable.links i there in
    (linkset_laws_at schema built.files built.links leaves i of.link_nodes storable there).told
    (link_in s i) (link_in t i) maps (link_fits schema s i there storable is_s.valid)
    (link_fits schema t i there storable is_t.valid) (is_s.links i there) (is_t.links i there)) in
    λ i. record { files = files i; links = links i }
