-- The keys of a file.
use Rattle.std.proofs.Common.{◌≡◌, ◌<◌, List, [], ◌∷◌, length, map, sym, ap, subst, ◌∙◌}
use Rattle.std.specs.Prelude.{T, is_some, IsTrue}
use Rattle.std.specs.List.{AllByRecursion}
use Rattle.std.specs.List.Sorted.{IsStrictlySortedBy}
use Rattle.std.specs.FinMap as fin
use Rattle.std.specs.FinMap.Entries.{below_all}
use Rattle.std.specs.declared.cmp.Ordering.TheVariants.{Less}
use Rattle.gx_laws.proofs.BoolLemmas.{first_of_both, second_of_both}
use Rattle.gx_laws.proofs.OrderingLemmas.{is_less}
use Rattle.gx_values.specs.declared.values.Value.{Value}
use Rattle.gx_values.specs.declared.records.Rec.{Rec}
use Rattle.gx_values.specs.Values.{value_cmp}
use Rattle.gx_values.proofs.OrderLemmas.{value_cmp_total, value_cmp_same}
use Rattle.gx_schema.specs.declared.schema.FileDef.{FileDef}
use Rattle.gx_ports.specs.LeafMaps.{LeafMap}
use Rattle.gx_mapping.specs.Rule.{In}
use Rattle.gx_gather.proofs.Lists.{in_map, from_map}
use Rattle.gx_gather.proofs.Orders.{Ascends, sorted, ascends_unique}
use Rattle.gx_gather.proofs.Entries.{find_in, in_find}
use Rattle.gx_stack.specs.Tree.{Tree, tree_form, IsValid}
use Rattle.gx_stack.specs.Internal.{IsSet}
use Rattle.gx_stack.proofs.Told.{internal_told}
use Rattle.gx_types.specs.declared.any.AnyMapping.{AnyMapping}
use Rattle.gx_types.specs.Any.{any_rule, any_laws}
use Rattle.gx_typing.specs.Dues.{file_form}
use Rattle.gx_model.specs.States.{File, Row}
use Rattle.gx_scan.specs.Files.{rec_of, file_records, IsInternal}
use Rattle.gx_scan.proofs.FileLemmas.{one_key, set_of}
use Rattle.gx_states.proofs.LinkLemmas.{some_there}
use Rattle.gx_audit.specs.Audits.{keys_of}

-- the row at a key that is there
pub row_there : (f : File) (k : Value) → In k (keys_of f) → (row : Row) × In row (fin.entries f)
    × (k ≡ row.0)
row_there f k h = from_map (λ (row : Row). row.0) k (fin.entries f) h

pub there : (f : File) (k : Value) → In k (keys_of f) → IsTrue (is_some (fin.get f k))
there f k h =
    let row = row_there f k h in
    ap is_some (ap (fin.get f) row.2 ∙ fin.get-entries f row.0.0
    ∙ in_find value_cmp_total row.0 (fin.entries f) (fin.entries_sorted f) row.1)

pub in_keys : (f : File) (k : Value) → IsTrue (is_some (fin.get f k)) → In k (keys_of f)
in_keys f k h =
    let found = some_there (fin.get f k) h in
    in_map (λ (row : Row). row.0) (k, found.0) (fin.entries f)
    (find_in value_cmp_same k found.0 (fin.entries f) (sym (fin.get-entries f k) ∙ found.1))

keys_ascend : (rows : List Row) → T (fin.is_sorted value_cmp rows)
    → Ascends value_cmp (map (λ (row : Row). row.0) rows)
keys_ascend [] h = tt
keys_ascend (r ∷ rows) h =
    (below rows (first_of_both _ _ h), keys_ascend rows (second_of_both _ _ h))
  where
    below : (xs : List Row) → T (below_all value_cmp r.0 xs)
        → AllByRecursion (λ k. value_cmp r.0 k ≡ Less) (map (λ (row : Row). row.0) xs)
    below [] h = tt
    below (x ∷ xs) h = (is_less _ (first_of_both _ _ h), below xs (second_of_both _ _ h))

keys_up : (f : File) → Ascends value_cmp (keys_of f)
keys_up f = keys_ascend (fin.entries f) (fin.entries_sorted f)

pub keys_sorted : (f : File) → IsStrictlySortedBy value_cmp (keys_of f)
keys_sorted f = sorted value_cmp (keys_of f) (keys_up f)

-- ---- the leaves of a tree tell the keys

keys_in : (f g : File) → ((r : Rec) → In r (file_records f) → In r (file_records g)) → (k : Value)
    → In k (keys_of f) → In k (keys_of g)
keys_in f g to k h =
    let row = row_there f k h in
    let other = from_map rec_of (rec_of row.0) (fin.entries g)
    (to (rec_of row.0) (in_map rec_of row.0 (fin.entries f) row.1)) in
    let same : row.0.0 ≡ other.0.0 = one_key row.0.0 other.0.0 (ap (λ (r : Rec). r.key) other.2) in
    subst (λ x. In x (keys_of g)) (sym (row.2 ∙ same))
    (in_map (λ (q : Row). q.0) other.0 (fin.entries g) other.1)

pub keys_told : (file : FileDef) (t : Tree AnyMapping) (maps : List LeafMap) (f g : File)
    → 0 < length file.fields → IsValid any_rule t
    → tree_form any_rule t ≡ file_form file → IsInternal file t maps f → IsInternal file t maps g
    → keys_of f ≡ keys_of g
keys_told file t maps f g keyed valid form is_f is_g =
    let set : (h : File) → IsInternal file t maps h
    → IsSet (tree_form any_rule t) (file_records h) =
    λ h is. subst (λ x. IsSet x (file_records h)) (sym form) (set_of file h keyed is.fit) in
    ascends_unique value_cmp_total (keys_of f) (keys_of g) (keys_up f) (keys_up g)
    (keys_in f g (internal_told any_rule any_laws maps t (file_records f) (file_records g) valid
    (set f is_f) (set g is_g) is_f.held is_g.held))
    (keys_in g f (internal_told any_rule any_laws maps t (file_records g) (file_records f) valid
    (set g is_g) (set f is_f) is_g.held is_f.held))
