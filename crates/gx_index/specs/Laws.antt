-- The layer keeps the laws of mappings.
use Rattle.std.proofs.Common.{inl, inr, ◌≡◌, ℕ, ◌<◌, List, [], ◌∷◌, get_or, cond, Bool, true, false, Option, Some, None, refl, sym, ap, subst, ◌∙◌, arith, append-nil, ◌++◌}
use Rattle.std.specs.Prelude.{◌&&◌, nat_eq}
use Rattle.std.specs.List.Sorted.{IsStrictlySortedBy}
use Rattle.std.proofs.lemmas.Bool.Decides.{nat_tests}
use Rattle.gx_values.specs.declared.values.Value.{Value}
use Rattle.gx_values.specs.declared.records.Field.{Field}
use Rattle.gx_values.specs.declared.records.Form.{Form}
use Rattle.gx_values.specs.declared.records.Rec.{Rec}
use Rattle.gx_values.specs.Values.{no_field, no_value}
use Rattle.gx_mapping.specs.declared.parts.Part.{Part}
use Rattle.gx_mapping.specs.Rule.{In, IsOf, BeginsWith, KeepsRecords, part_cmp, is_field, first_in}
use Rattle.gx_mapping.specs.Laws.{MappingLaws, IsCarrier, IsEntered, IsIndex}
use Rattle.gx_mapping.proofs.FieldLemmas.{has_value, first_kind, first_value, fit_at}
use Rattle.gx_index.specs.Forms.{CanIndex}
use Rattle.gx_index.specs.Rules.{record_part, entry_part, index_rule}

-- ---- the two parts

two_sorted : (i : ℕ) (r : Rec) → IsStrictlySortedBy part_cmp (record_part r ∷ entry_part i r ∷ [])
unfolding IsStrictlySortedBy
two_sorted i r = ((refl, tt), (tt, tt))

same_keys : (i : ℕ) (r s : Rec) (p q : Part) → In p (record_part r ∷ entry_part i r ∷ [])
    → In q (record_part s ∷ entry_part i s ∷ []) → p.child ≡ q.child → p.rec.key ≡ q.rec.key
    → r.key ≡ s.key
same_keys i r s p q (inl a) (inl b) child key =
    ap (λ (x : Part). x.rec.key) (sym a) ∙ key ∙ ap (λ (x : Part). x.rec.key) b
same_keys i r s p q (inr (inl a)) (inr (inl b)) child key =
    ap tail (ap (λ (x : Part). x.rec.key) (sym a) ∙ key ∙ ap (λ (x : Part). x.rec.key) b)
  where
    tail : List Value → List Value
    tail [] = []
    tail (v ∷ vs) = vs
same_keys i r s p q (inl a) (inr (inl b)) child key =
    absurd (let e : 0
    ≡ 1 = ap (λ (x : Part). x.child) (sym a) ∙ child ∙ ap (λ (x : Part). x.child) b in omega
    (arith, e))
same_keys i r s p q (inr (inl a)) (inl b) child key =
    absurd (let e : 1
    ≡ 0 = ap (λ (x : Part). x.child) (sym a) ∙ child ∙ ap (λ (x : Part). x.child) b in omega
    (arith, e))
same_keys i r s p q (inr (inr a)) at child key = absurd a
same_keys i r s p q (inl a) (inr (inr b)) child key = absurd b
same_keys i r s p q (inr (inl a)) (inr (inr b)) child key = absurd b

-- ---- carried fields

record IsFirst (child : ℕ) (there : Bool) : Type 0 where
  is : child ≡ 0
  field : there ≡ true

is_first : (child : ℕ) (there : Bool) → nat_eq child 0 && there ≡ true → IsFirst child there
is_first child there e = by_test (nat_eq child 0) refl e
  where
    zero_of : nat_eq child 0 ≡ true → child ≡ 0
    zero_of e = grind (arith, nat_tests)

    by_test : (b : Bool) → nat_eq child 0 ≡ b → b && there ≡ true → IsFirst child there
    by_test true is e = record { is = zero_of is; field = e }
    by_test false is e = cc

carrier : (form : Form) (i : ℕ) (name : List ℕ) (child : ℕ)
    → (index_rule form i).carries child name ≡ true → IsCarrier (index_rule form i) name child
carrier form i name child carries =
    let f = is_first child (is_field form.fields name) carries in
    subst (IsCarrier (index_rule form i) name) (sym f.is) (record {
      rest = refl;
      keys = refl;
      kind = refl;
      each = λ r is.
          let v = has_value form.fields r.fields name is.fields f.field in record {
            part = record_part r;
            value = v.0;
            there = inl refl;
            carries = f.field;
            only = only r;
            key = refl;
            of_record = v.1;
            of_part = v.1;
          };
    })
  where
    only : (r : Rec) (q : Part) → In q (record_part r ∷ entry_part i r ∷ [])
        → (index_rule form i).carries q.child name ≡ true → q ≡ record_part r
    only r q (inl is) also = is
    only r q (inr (inl is)) also =
        absurd (let e : false
        ≡ true = sym (ap (λ (x : Part). (index_rule form i).carries x.child name) is) ∙ also in cc)
    only r q (inr (inr none)) also = absurd none

-- ---- the index

record IsField (form : Form) (i : ℕ) (name : List ℕ) (child : ℕ) : Type 0 where
  there : is_field form.fields name ≡ true
  number : first_in form.fields name ≡ i
  second : child ≡ 1

is_the_field : (form : Form) (i : ℕ) (name : List ℕ) (child : ℕ)
    → (index_rule form i).indexes name ≡ Some child → IsField form i name child
is_the_field form i name child e =
    by_test (is_field form.fields name) (nat_eq (first_in form.fields name) i) refl refl e
  where
    number_of : nat_eq (first_in form.fields name) i ≡ true → first_in form.fields name ≡ i
    number_of e = grind (arith, nat_tests)

    none : ◌≡◌ {A = Option ℕ} None (Some child) → ⊥
    none e = cc

    by_test : (a b : Bool) → is_field form.fields name ≡ a
        → nat_eq (first_in form.fields name) i ≡ b → cond (a && b) (Some 1) None ≡ Some child
        → IsField form i name child
    by_test true true there number e =
        record
        { there = there; number = number_of number; second = (let same : child ≡ 1 = cc in same) }
    by_test true false there number e = absurd (none e)
    by_test false b there number e = absurd (none e)

entered : (form : Form) (i : ℕ) (name : List ℕ) (r : Rec) → is_field form.fields name ≡ true
    → first_in form.fields name ≡ i → IsOf form r → IsEntered (index_rule form i) name 1 r
entered form i name r there number is = record {
  part = entry_part i r;
  value = get_or r.fields i no_value;
  there = inr (inl refl);
  child = refl;
  only = only;
  of_record =
      first_value form.fields r.fields name no_value is.fields there ∙ ap
      (λ (n : ℕ). Some (get_or r.fields n no_value)) number;
  key = refl;
  data_none = refl;
}
  where
    only : (q : Part) → In q (record_part r ∷ entry_part i r ∷ []) → q.child ≡ 1
        → q ≡ entry_part i r
    only q (inl is) child =
        absurd (let e : 0 ≡ 1 = ap (λ (x : Part). x.child) (sym is) ∙ child in omega (arith, e))
    only q (inr (inl is)) child = is
    only q (inr (inr none)) child = absurd none

the_index : (form : Form) (i : ℕ) (name : List ℕ) (child : ℕ) → CanIndex form i
    → (index_rule form i).indexes name ≡ Some child → IsIndex (index_rule form i) name child
the_index form i name child sound e =
    let f = is_the_field form i name child e in
    subst (IsIndex (index_rule form i) name) (sym f.second) (record {
      child = omega arith;
      not_rest = refl;
      field = get_or form.fields i no_field;
      kind = sound.kind;
      named = first_kind form.fields name no_field f.there ∙ ap
          (λ (n : ℕ). Some (get_or form.fields n no_field).kind) f.number;
      form = refl;
      entered = λ r is. entered form i name r f.there f.number is;
    })

-- ---- the laws

pub index_laws : (form : Form) (i : ℕ) → CanIndex form i → MappingLaws (index_rule form i)
index_laws form i sound = record {
  fit = λ r p is there. fit r p is there;
  in_order = λ r is. two_sorted i r;
  apart = λ r s p q is_r is_s a b child key. same_keys i r s p q a b child key;
  has_data = λ r is. (record_part r, inl refl);
  told = λ r s is_r is_s e. ap (λ (ps : List Part). (get_or ps 0 (record_part r)).rec) e;
  keys_lead =
      λ child lt rest.
      subst (λ (c : ℕ). BeginsLike c) (sym (first child rest)) ([], sym (append-nil form.keys));
  key_leads = λ r p is there rest. leads r p there rest;
  skipped = λ r p span is there skips. cc;
  carried = λ name child lt carries. carrier form i name child carries;
  indexed = λ name child e. the_index form i name child sound e;
}
  where
    first : (child : ℕ) → nat_eq child 0 ≡ true → child ≡ 0
    first child e = grind (arith, nat_tests)

    BeginsLike : ℕ → Type 0
    BeginsLike c = (more : List Field) × (((index_rule form i).kid_form c).keys ≡ form.keys ++ more)

    fit : (r : Rec) (p : Part) → IsOf form r → In p (record_part r ∷ entry_part i r ∷ [])
        → (p.child < 2) × IsOf ((index_rule form i).kid_form p.child) p.rec
    fit r p is (inl at) =
        subst (λ (q : Part). (q.child < 2) × IsOf ((index_rule form i).kid_form q.child) q.rec)
        (sym at) (omega arith, is)
    fit r p is (inr (inl at)) =
        subst (λ (q : Part). (q.child < 2) × IsOf ((index_rule form i).kid_form q.child) q.rec)
        (sym at) (
          omega arith,
          record {
            key = (
              fit_at i form.fields r.fields no_field no_value is.fields sound.place,
              is.key,
            );
            fields = tt;
          },
        )
    fit r p is (inr (inr none)) = absurd none

    leads : (r : Rec) (p : Part) → In p (record_part r ∷ entry_part i r ∷ [])
        → (index_rule form i).holds_rest p.child ≡ true → BeginsWith r.key p.rec.key
    leads r p (inl at) rest = ([], ap (λ (x : Part). x.rec.key) at ∙ sym (append-nil r.key))
    leads r p (inr (inl at)) rest =
        absurd (let e : false ≡ true = sym (ap (λ (x : Part). nat_eq x.child 0) at) ∙ rest in cc)
    leads r p (inr (inr none)) rest = absurd none

-- the first child has each record as it is
pub index_keeps : (form : Form) (i : ℕ) → KeepsRecords (index_rule form i)
index_keeps form i = record {
  child = omega arith;
  form = refl;
  rest = refl;
  others = λ r. entry_part i r ∷ [];
  first = λ r. refl;
  apart = apart;
}
  where
    apart : (r : Rec) (p : Part) → In p (entry_part i r ∷ []) → p.child ≡ 0 → ⊥
    apart r p (inl is) none =
        absurd (let e : 1 ≡ 0 = ap (λ (x : Part). x.child) (sym is) ∙ none in omega (arith, e))
    apart r p (inr none) zero = absurd none
