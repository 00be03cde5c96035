-- The layer keeps the laws of mappings.
use Rattle.std.proofs.Common.{inl, ◌≡◌, ℕ, zero, suc, ◌<◌, List, [], ◌∷◌, ◌++◌, length, get_or, Bool, true, false, Option, Some, None, refl, sym, ap, subst, ◌∙◌, arith, append-nil}
use Rattle.std.specs.Prelude.{◌||◌, ◌+◌}
use Rattle.std.specs.Ordering.{is_le}
use Rattle.std.specs.declared.cmp.Ordering.TheVariants.{Greater}
use Rattle.gx_values.specs.declared.values.Value.{Value}
use Rattle.gx_values.specs.declared.records.Field.{Field}
use Rattle.gx_values.specs.declared.records.Form.{Form}
use Rattle.gx_values.specs.declared.records.Rec.{Rec}
use Rattle.gx_values.specs.declared.keys.Span.{Span}
use Rattle.gx_values.specs.Values.{value_cmp, Fits, AreFit, no_field, no_value}
use Rattle.gx_values.specs.Keys.{bytes_of, key_of, is_inside}
use Rattle.gx_mapping.specs.declared.parts.Part.{Part}
use Rattle.gx_mapping.specs.Rule.{IsOf, is_field}
use Rattle.gx_mapping.specs.Laws.{MappingLaws, IsCarried}
use Rattle.gx_mapping.proofs.RuleLemmas.{the_one, sorted_one}
use Rattle.gx_mapping.proofs.FieldLemmas.{has_value}
use Rattle.gx_partition.specs.declared.place.Where.{Where}
use Rattle.gx_partition.specs.declared.place.Where.TheVariants.{Key, Rest}
use Rattle.gx_partition.specs.Places.{value_at, kind_at}
use Rattle.gx_partition.specs.Bounds.{IsPartition, child_of, lower_of, upper_of, ends_before, begins_after}
use Rattle.gx_partition.specs.RangeLaws.{upper_above, lower_at_most, child_small, fits_at, lower_fits, before_span, behind_span}
use Rattle.gx_partition.specs.Rules.{partition_part, partition_rule, is_outside}

-- ---- skipped children

-- the record of a child that is left out
module _ (form : Form) (bounds : List Value) (r : Rec) (span : Span)
    (sound : IsPartition form (Key 0) bounds) where
  child : ℕ
  child = child_of bounds (value_at (Key 0) r)

  by_upper : (v : Value) (rest : List ℕ) (o : Option Value) → value_at (Key 0) r ≡ v
      → Fits (kind_at (Key 0) form) v → o ≡ upper_of bounds child → ends_before o span.lo ≡ true
      → is_inside span.lo span.hi (bytes_of v ++ rest) ≡ false
  unfolding child
  by_upper v rest None here fit is ends = cc
  by_upper v rest (Some b) here fit is ends =
      let up : value_cmp b v ≡ Greater =
      ap (value_cmp b) (sym here) ∙ upper_above bounds (value_at (Key 0) r) b sound.ascending
      (sym is) in
      before_span (kind_at (Key 0) form) v b span.lo span.hi rest sound.kind fit
      (fits_at (kind_at (Key 0) form) bounds child b sound.fit (sym is)) up ends

  by_lower : (v : Value) (rest : List ℕ) (o : Option Value) → value_at (Key 0) r ≡ v
      → Fits (kind_at (Key 0) form) v → o ≡ lower_of bounds child → begins_after o span.hi ≡ true
      → is_inside span.lo span.hi (bytes_of v ++ rest) ≡ false
  unfolding child
  by_lower v rest None here fit is begins = cc
  by_lower v rest (Some b) here fit is begins =
      let at_most : is_le (value_cmp b v) ≡ true =
      ap (λ w. is_le (value_cmp b w)) (sym here) ∙ lower_at_most bounds
      (value_at (Key 0) r) b sound.ascending (sym is) in
      behind_span (kind_at (Key 0) form) v b span.lo span.hi rest sound.kind fit
      (lower_fits (kind_at (Key 0) form) bounds child b sound.fit (sym is)) at_most begins

  by_either : (v : Value) (rest : List ℕ) (a b : Bool) → value_at (Key 0) r ≡ v
      → Fits (kind_at (Key 0) form) v → a ≡ ends_before (upper_of bounds child) span.lo
      → b ≡ begins_after (lower_of bounds child) span.hi → a || b ≡ true
      → is_inside span.lo span.hi (bytes_of v ++ rest) ≡ false
  by_either v rest true b here fit ends begins e = by_upper v rest _ here fit refl (sym ends)
  by_either v rest false b here fit ends begins e = by_lower v rest _ here fit refl (sym begins ∙ e)

  by_key : (fs : List Field) (vs : List Value) → form.keys ≡ fs → r.key ≡ vs → AreFit fs vs
      → is_outside (Key 0) bounds child span ≡ true → is_inside span.lo span.hi (key_of vs) ≡ false
  by_key [] vs fields here fit out =
      absurd (let lt = sound.place in omega (arith, ap length fields))
  by_key (f ∷ fs) [] fields here fit out = absurd fit
  by_key (f ∷ fs) (v ∷ vs) fields here fit out =
      let kind_is : f.kind ≡ kind_at (Key 0) form =
      ap (λ (l : List Field). (get_or l 0 no_field).kind) (sym fields) in
      by_either v (key_of vs) _ _ (ap (λ (l : List Value). get_or l 0 no_value) here)
      (subst (λ k. Fits k v) kind_is fit.0) refl refl out

skipped_by : (form : Form) (at : Where) (bounds : List Value) (r : Rec) (span : Span)
    → IsPartition form at bounds → IsOf form r
    → is_outside at bounds (child_of bounds (value_at at r)) span ≡ true
    → is_inside span.lo span.hi (key_of r.key) ≡ false
unfolding child
skipped_by form (Key zero) bounds r span sound is out =
    by_key form bounds r span sound form.keys r.key refl refl is.key out
skipped_by form (Key (suc i)) bounds r span sound is out = cc
skipped_by form (Rest i) bounds r span sound is out = cc

-- ---- carried fields

carried_by : (form : Form) (at : Where) (bounds : List Value) (name : List ℕ) (r : Rec)
    → is_field form.fields name ≡ true → IsOf form r
    → IsCarried (partition_rule form at bounds) name r
carried_by form at bounds name r carries is =
    let v = has_value form.fields r.fields name is.fields carries in
    record {
      part = partition_part at bounds r;
      value = v.0;
      there = inl refl;
      carries = carries;
      only = λ q there also. the_one q (partition_part at bounds r) there;
      key = refl;
      of_record = v.1;
      of_part = v.1;
    }

-- ---- the laws

pub partition_laws : (form : Form) (at : Where) (bounds : List Value) → IsPartition form at bounds
    → MappingLaws (partition_rule form at bounds)
partition_laws form at bounds sound = record {
  fit = λ r p is there. subst (λ (q : Part). (q.child < length bounds + 1)
      × IsOf form q.rec) (sym (the_one p (partition_part at bounds r) there))
      (omega (arith, child_small bounds (value_at at r)), is);
  in_order = λ r is. sorted_one (partition_part at bounds r);
  apart = λ r s p q is_r is_s i j child key.
      ap (λ (x : Part). x.rec.key) (sym (the_one p (partition_part at bounds r) i)) ∙ key ∙ ap
      (λ (x : Part). x.rec.key) (the_one q (partition_part at bounds s) j);
  has_data = λ r is. (partition_part at bounds r, inl refl);
  told = λ r s is_r is_s e.
      ap (λ (ps : List Part). (get_or ps 0 (partition_part at bounds r)).rec) e;
  keys_lead = λ c lt rest. ([], sym (append-nil form.keys));
  key_leads =
      λ r p is there rest. (
        [],
        ap (λ (x : Part). x.rec.key) (the_one p (partition_part at bounds r) there)
            ∙ sym (append-nil r.key),
      );
  skipped =
      λ r p span is there skips.
      skipped_by form at bounds r span sound is
      (subst (λ (x : Part). is_outside at bounds x.child span ≡ true)
      (the_one p (partition_part at bounds r) there) skips);
  carried =
      λ name c lt carries.
      record {
        rest = refl;
        keys = refl;
        kind = refl;
        each = λ r is. carried_by form at bounds name r carries is;
      };
  indexed = λ name c is. cc;
}
