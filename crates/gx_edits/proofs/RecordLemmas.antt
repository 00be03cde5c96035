-- Records of a file: what is found of them, and what edits do.
use Rattle.std.proofs.Common.{[], ◌≡◌, ℕ, zero, suc, ◌+◌, ◌-◌, ◌<◌, List, ◌∷◌, length, drop, get_or, set, Bool, true, false, Option, Some, None, refl, sym, ap, subst, ◌∙◌, arith}
use Rattle.std.specs.Prelude.{is_some, unwrap_or}
use Rattle.std.specs.FinMap as fin
use Rattle.gx_values.specs.declared.values.Value.{Value}
use Rattle.gx_values.specs.declared.records.Field.{Field}
use Rattle.gx_values.specs.declared.records.Rec.{Rec}
use Rattle.gx_values.specs.Values.{Fits, AreFit, no_field}
use Rattle.gx_schema.specs.declared.schema.FileDef.{FileDef}
use Rattle.gx_schema.specs.Lookups.{key_kind, data_fields}
use Rattle.gx_commands.specs.declared.command.Change.{Change}
use Rattle.gx_commands.specs.Commands.{IsChangeOf}
use Rattle.gx_ports.specs.LeafMaps.{LeafMap, Limits, map_at, entry_count, IsCrowdedBy}
use Rattle.gx_mapping.specs.Rule.{In}
use Rattle.gx_mapping.proofs.FieldLemmas.{values_count}
use Rattle.gx_stack.specs.Tree.{Tree, leaves_of, entries_of, IsValid}
use Rattle.gx_stack.specs.Internal.{changed as changed_records, IsInternal as IsHeld}
use Rattle.gx_types.specs.declared.any.AnyMapping.{AnyMapping}
use Rattle.gx_types.specs.Any.{any_rule}
use Rattle.gx_model.specs.States.{File, Row}
use Rattle.gx_model.specs.Commands.{Refusal, with_changes, updated, first_refusal}
use Rattle.gx_scan.specs.Files.{rec_of, file_records, IsInternal}
use Rattle.gx_edits.specs.Records.{IsEdited, IsEditedWhere}
use Rattle.gx_edits.proofs.ChangeLemmas.{held_inserted, held_updated, held_removed, insert_fits, remove_fits}

-- ---- what is found

pub missing : (f : File) (k : Value) (found : Option (List Value)) (some : Bool)
    → found ≡ fin.get f k → some ≡ is_some found → some ≡ false → is_some (fin.get f k) ≡ false
missing f k found some e t none = sym (t ∙ ap is_some e) ∙ none

-- ---- edits

pub unedited : (file : FileDef) (t : Tree AnyMapping) (old new : List LeafMap) (f : File)
    → new ≡ old → IsInternal file t old f → IsEdited file t old new f
unedited file t old new f same is = record {
  stands = subst (λ (maps : List LeafMap). IsInternal file t maps f) (sym same) is;
  others = λ n out. ap (λ (maps : List LeafMap). map_at maps n) same;
}

-- what isn't refused was done
pub is_done : (file : FileDef) (t : Tree AnyMapping) (old new : List LeafMap) (f after : File)
    (refusal : Refusal) (test : Bool) → test ≡ false → IsEdited file t old new after
    → IsEditedWhere file t old new f (first_refusal ((test, refusal) ∷ [])) after None
is_done file t old new f after refusal true fails is = absurd (let e : true ≡ false = fails in cc)
is_done file t old new f after refusal false fails is = record {
  why_is = refl;
  edited = is;
}

pub insert_edit : (file : FileDef) (t : Tree AnyMapping) (old new : List LeafMap) (f : File)
    (k : Value) (vs : List Value) (r : Rec) → IsValid any_rule t → Fits (key_kind file) k
    → AreFit (data_fields file) vs → IsInternal file t old f → fin.get f k ≡ None
    → r ≡ rec_of (k, vs)
    → IsHeld any_rule t (changed_records (file_records f) None (Some r)) new
    → ((n : ℕ) → ¬ In n (leaves_of t) → map_at new n ≡ map_at old n)
    → IsEdited file t old new (fin.insert f k vs)
insert_edit file t old new f k vs r valid of are is none same held others = record {
  stands = record {
    fit = insert_fits file f k vs of are is.fit;
    held = held_inserted t new valid f k vs none
        (subst (λ (x : Rec). IsHeld any_rule t (changed_records (file_records f) None (Some x)) new)
        same held);
  };
  others = others;
}

pub update_edit : (file : FileDef) (t : Tree AnyMapping) (old new : List LeafMap) (f : File)
    (k : Value) (before vs : List Value) (o r : Rec) → IsValid any_rule t → Fits (key_kind file) k
    → AreFit (data_fields file) vs → IsInternal file t old f → o ≡ rec_of (k, before)
    → r ≡ rec_of (k, vs)
    → IsHeld any_rule t (changed_records (file_records f) (Some o) (Some r)) new
    → ((n : ℕ) → ¬ In n (leaves_of t) → map_at new n ≡ map_at old n)
    → IsEdited file t old new (fin.insert f k vs)
update_edit file t old new f k before vs o r valid of are is was same held others = record {
  stands = record {
    fit = insert_fits file f k vs of are is.fit;
    held = held_updated t new valid f k before vs
        (subst (λ (x : Rec). IsHeld any_rule t
        (changed_records (file_records f) (Some x) (Some (rec_of (k, vs)))) new) was
        (subst (λ (x : Rec). IsHeld any_rule t (changed_records (file_records f) (Some o) (Some x))
        new) same held));
  };
  others = others;
}

pub delete_edit : (file : FileDef) (t : Tree AnyMapping) (old new : List LeafMap) (f : File)
    (k : Value) (before : List Value) (o : Rec) → IsValid any_rule t → IsInternal file t old f
    → o ≡ rec_of (k, before)
    → IsHeld any_rule t (changed_records (file_records f) (Some o) None) new
    → ((n : ℕ) → ¬ In n (leaves_of t) → map_at new n ≡ map_at old n)
    → IsEdited file t old new (fin.remove f k)
delete_edit file t old new f k before o valid is was held others = record {
  stands = record {
    fit = remove_fits file f k is.fit;
    held = held_removed t new valid f k before
        (subst (λ (x : Rec). IsHeld any_rule t (changed_records (file_records f) (Some x) None) new)
        was held);
  };
  others = others;
}

-- ---- an update

pub updated_is : (f : File) (k : Value) (cs : List Change) (vs after : List Value)
    → Some vs ≡ fin.get f k → after ≡ with_changes vs cs → fin.insert f k after ≡ updated f k cs
updated_is f k cs vs after there e =
    ap (fin.insert f k) e ∙ ap (λ (o : Option (List Value)). fin.insert f k
    (with_changes (unwrap_or o []) cs)) there

are_set_value : (fs : List Field) (vs : List Value) (i : ℕ) (d : Field) (v : Value) → AreFit fs vs
    → i < length fs → Fits (get_or fs i d).kind v → AreFit fs (set vs i v)
are_set_value [] vs i d v are lt is = absurd (omega arith)
are_set_value (f ∷ fs) [] i d v are lt is = absurd are
are_set_value (f ∷ fs) (w ∷ vs) zero d v are lt is = (is, are.1)
are_set_value (f ∷ fs) (w ∷ vs) (suc i) d v are lt is =
    (are.0, are_set_value fs vs i d v are.1 (omega arith) is)

-- the field of a change among those other than the key
data_field : (fs : List Field) (n : ℕ) (v : Value) → 0 < n → n < length fs
    → Fits (get_or fs n no_field).kind v → (n - 1 < length (drop 1 fs))
    × Fits (get_or (drop 1 fs) (n - 1) no_field).kind v
data_field [] n v some lt is = absurd (omega arith)
data_field (f ∷ fs) zero v some lt is = absurd (omega arith)
data_field (f ∷ fs) (suc n) v some lt is = (
  omega arith,
  subst (λ m. Fits (get_or fs m no_field).kind v)
      (let e : n ≡ suc n - 1 = omega arith in e) is,
)

pub value_fits : (file : FileDef) (c : Change) (vs : List Value) (v : Value) → IsChangeOf file c
    → AreFit (data_fields file) vs → v ≡ c.value
    → AreFit (data_fields file) (set vs (c.field - 1) v)
value_fits file c vs v is are same =
    let here = data_field file.fields c.field c.value is.past_key is.in_file is.fits in
    subst (λ (x : Value). AreFit (data_fields file) (set vs (c.field - 1) x)) (sym same)
    (are_set_value (data_fields file) vs (c.field - 1) no_field c.value are here.0 here.1)

-- the place of a change is one of the values
pub change_in : (file : FileDef) (c : Change) (vs : List Value) → IsChangeOf file c
    → AreFit (data_fields file) vs → c.field - 1 < length vs
change_in file c vs is are =
    let here = data_field file.fields c.field c.value is.past_key is.in_file is.fits in
    omega (arith, here.0, values_count (data_fields file) vs are)

-- ---- a new record

pub some_values : (fs : List Field) (values : List Value) → 0 < length fs → AreFit fs values
    → 0 < length values
some_values [] values some fit = absurd (omega arith)
some_values (f ∷ fs) [] some fit = absurd fit
some_values (f ∷ fs) (v ∷ vs) some fit = omega arith

-- the first value and the others
pub first_and_others : (values : List Value) (v : Value) → 0 < length values → v ≡ get_or values 0 v
    → values ≡ v ∷ drop 1 values
first_and_others [] v some is = absurd (omega arith)
first_and_others (w ∷ ws) v some is = ap (λ (x : Value). x ∷ ws) (sym is)

-- ---- records

-- the record after changes of its data
pub rec_made : (old new : Rec) (k : Value) (values : List Value) (cs : List Change)
    → old ≡ rec_of (k, values) → new.key ≡ old.key → new.fields ≡ with_changes old.fields cs
    → new ≡ rec_of (k, with_changes values cs)
rec_made old new k values cs was key fields =
    let keys : new.key ≡ k ∷ [] = key ∙ ap (λ (r : Rec). r.key) was in
    let others : new.fields ≡ with_changes values cs = fields
    ∙ ap (λ (r : Rec). with_changes r.fields cs) was in
    λ i. record { key = keys i; fields = others i }

-- the cause of a full device after a look-up, which changed nothing
pub crowded_same : (limit limit' : Option Limits) (maps maps' : List LeafMap) (t : Tree AnyMapping)
    (row : Row) (r : Rec) → limit' ≡ limit → maps' ≡ maps → r ≡ rec_of row
    → IsCrowdedBy limit' (entry_count maps' + length (entries_of any_rule t r))
    → IsCrowdedBy limit (entry_count maps + length (entries_of any_rule t (rec_of row)))
crowded_same limit limit' maps maps' t row r l m e crowded =
    subst (λ (o : Option Limits). IsCrowdedBy o
    (entry_count maps + length (entries_of any_rule t (rec_of row)))) l
    (subst (λ (ms : List LeafMap). IsCrowdedBy limit'
    (entry_count ms + length (entries_of any_rule t (rec_of row)))) m
    (subst (λ (x : Rec). IsCrowdedBy limit' (entry_count maps' + length (entries_of any_rule t x)))
    e crowded))
