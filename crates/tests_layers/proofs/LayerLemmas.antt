-- The layers of the tests: records of two ints, by bounds of the key and of the other field.
use Rattle.std.proofs.Common.{◌≡◌, ℕ, ◌<◌, ◌+◌, List, [], ◌∷◌, length, refl, sym, subst, ◌∙◌, arith, append-nil}
use Rattle.std.specs.Prelude.{pos}
use Rattle.std.specs.List.Sorted.{IsStrictlySortedBy}
use Rattle.gx_values.specs.declared.values.Kind.TheVariants as kind
use Rattle.gx_values.specs.declared.values.Value.{Value}
use Rattle.gx_values.specs.declared.values.Value.TheVariants as value
use Rattle.gx_values.specs.declared.records.Field.{Field}
use Rattle.gx_values.specs.declared.records.Form.{Form}
use Rattle.gx_values.specs.declared.records.Rec.{Rec}
use Rattle.gx_values.specs.Values.{AreFit}
use Rattle.gx_mapping.specs.declared.parts.Part.{Part}
use Rattle.gx_mapping.specs.Rule.{IsOf, IsOfKey, AreOfKey}
use Rattle.gx_mapping.proofs.RuleLemmas.{the_one}
use Rattle.gx_partition.specs.declared.place.Where.{Where}
use Rattle.gx_partition.specs.declared.place.Where.TheVariants.{Key, Rest}
use Rattle.gx_partition.specs.Bounds.{IsPartition}
use Rattle.gx_partition.specs.Rules.{partition_rule}

int_field : List ℕ → Field
int_field name = record { name = name; kind = kind.Int }

pair_form : List ℕ → List ℕ → Form
pair_form k v = record { keys = int_field k ∷ []; fields = int_field v ∷ [] }

by_key : (k v : List ℕ)
    → IsPartition (pair_form k v) (Key 0) (value.Int (pos 10) ∷ value.Int (pos 20) ∷ [])
unfolding IsStrictlySortedBy pair_form int_field
by_key k v = record {
  place = omega arith;
  kind = tt;
  narrow = omega arith;
  fit = (record { sfits = omega arith }, (record { sfits = omega arith }, tt));
  ascending = ((refl, tt), (tt, tt));
  few = omega arith;
}

by_field : (k v : List ℕ) → IsPartition (pair_form k v) (Rest 0) (value.Int (pos 10) ∷ [])
unfolding IsStrictlySortedBy pair_form int_field
by_field k v = record {
  place = omega arith;
  kind = tt;
  narrow = omega arith;
  fit = (record { sfits = omega arith }, tt);
  ascending = (tt, tt);
  few = omega arith;
}

same_form : (form : Form) (k v : List ℕ)
    → form.keys ≡ record { name = k; kind = kind.Int } ∷ []
    → form.fields ≡ record { name = v; kind = kind.Int } ∷ []
    → form ≡ pair_form k v
unfolding pair_form int_field
same_form form k v keys fields = λ i. record { keys = keys i; fields = fields i }

pub key_layer : (form : Form) (bounds : List Value) (k v : List ℕ)
    → form.keys ≡ record { name = k; kind = kind.Int } ∷ []
    → form.fields ≡ record { name = v; kind = kind.Int } ∷ []
    → bounds ≡ value.Int (pos 10) ∷ value.Int (pos 20) ∷ []
    → IsPartition form (Key 0) bounds
key_layer form bounds k v keys fields is =
    let bounded = subst (IsPartition (pair_form k v) (Key 0)) (sym is) (by_key k v) in
    subst (λ (f : Form). IsPartition f (Key 0) bounds) (sym (same_form form k v keys fields))
    bounded

pub field_layer : (form : Form) (bounds : List Value) (k v : List ℕ)
    → form.keys ≡ record { name = k; kind = kind.Int } ∷ []
    → form.fields ≡ record { name = v; kind = kind.Int } ∷ []
    → bounds ≡ value.Int (pos 10) ∷ []
    → IsPartition form (Rest 0) bounds
field_layer form bounds k v keys fields is =
    let bounded = subst (IsPartition (pair_form k v) (Rest 0)) (sym is) (by_field k v) in
    subst (λ (f : Form). IsPartition f (Rest 0) bounds) (sym (same_form form k v keys fields))
    bounded

-- a record in any child is a part under its own key
pub part_of_key : (form : Form) (at : Where) (bounds key : List Value) (c : ℕ) (r : Rec)
    (ps : List Part)
    → c < length bounds + 1
    → IsOf form r
    → key ≡ r.key
    → ps ≡ record { child = c; rec = r } ∷ []
    → AreOfKey (partition_rule form at bounds) key ps
part_of_key form at bounds key c r ps below is same ps_is =
    let rule = partition_rule form at bounds in
    let part : Part = record { child = c; rec = r } in
    let of_key : IsOfKey rule key part = record {
      child = below;
      rest = refl;
      fits = is;
      under = ([], sym same ∙ sym (append-nil key));
    } in
    subst (AreOfKey rule key) (sym ps_is) (record {
      key_fits = subst (AreFit form.keys) (sym same) is.key;
      each = λ p there. subst (IsOfKey rule key) (sym (the_one p part there)) of_key;
    })
