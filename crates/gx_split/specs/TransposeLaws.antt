-- A transposition keeps the laws of mappings.
use Rattle.std.proofs.Common.{inl, inr, ◌≡◌, ℕ, zero, suc, ◌+◌, ◌<◌, List, [], ◌∷◌, length, get_or, cond, Bool, true, false, Some, None, refl, sym, ap, subst, ◌∙◌, arith, append-nil}
use Rattle.std.specs.Prelude.{◌&&◌, ◌||◌, nat_eq}
use Rattle.std.specs.List.{AllByRecursion}
use Rattle.std.specs.List.Sorted.{IsStrictlySortedBy}
use Rattle.std.specs.Cmp.Lexicographic.{pointwise}
use Rattle.std.specs.Ordering.{nat_cmp, ordering_then}
use Rattle.std.specs.declared.cmp.Ordering.TheVariants.{Less}
use Rattle.std.proofs.lemmas.Bool.Decides.{nat_tests}
use Rattle.gx_laws.proofs.NumberLemmas.{equal_from_nat_eq, nat_eq_itself}
use Rattle.gx_laws.proofs.BoolLemmas.{both_parts}
use Rattle.gx_values.specs.declared.values.Value.{Value}
use Rattle.gx_values.specs.declared.records.Field.{Field}
use Rattle.gx_values.specs.declared.records.Form.{Form}
use Rattle.gx_values.specs.declared.records.Rec.{Rec}
use Rattle.gx_values.specs.Values.{values_cmp, Fits, AreFit, no_field, no_value, kind_in}
use Rattle.gx_mapping.specs.declared.parts.Part.{Part}
use Rattle.gx_mapping.specs.Rule.{In, IsOf, part_cmp, value_in, is_field, first_in}
use Rattle.gx_mapping.specs.Laws.{MappingLaws, IsCarried, IsCarrier}
use Rattle.gx_mapping.proofs.FieldLemmas.{has_value, first_within, fit_length}
use Rattle.gx_mapping.proofs.RuleLemmas.{all_data}
use Rattle.gx_split.specs.Forms.{column_form}
use Rattle.gx_split.specs.TransposeRules.{column_part, columns, transpose_rule, first_value}

-- ---- members

-- the part has one of the values, in the child of its number
pub record IsColumn (key : List Value) (from : ℕ) (vs : List Value) (p : Part) : Type 0 where
  pub at : ℕ
  pub within : at < length vs
  pub is : p ≡ column_part key (from + at) (get_or vs at no_value)

pub column_of : (key : List Value) (i : ℕ) (vs : List Value) (p : Part) → In p (columns key i vs)
    → IsColumn key i vs p
column_of key i [] p there = absurd there
column_of key i (v ∷ vs) p (inl same) =
    let none : i ≡ i + 0 = omega arith in
    record { at = 0; within = omega arith; is = same ∙ ap (λ (n : ℕ). column_part key n v) none }
column_of key i (v ∷ vs) p (inr there) =
    let later = column_of key (suc i) vs p there in
    let one : suc i + later.at ≡ i + suc later.at = omega arith in
    record {
      at = suc later.at;
      within = omega (arith, later.within);
      is = later.is
          ∙ ap (λ (n : ℕ). column_part key n (get_or vs later.at no_value)) one;
    }

column_there : (key : List Value) (i at : ℕ) (vs : List Value) → at < length vs
    → In (column_part key (i + at) (get_or vs at no_value)) (columns key i vs)
column_there key i at [] lt = absurd (omega arith)
column_there key i zero (v ∷ vs) lt =
    inl (ap (λ (n : ℕ). column_part key n v) (let none : i + 0 ≡ i = omega arith in none))
column_there key i (suc at) (v ∷ vs) lt =
    let one : suc i + at ≡ i + suc at = omega arith in
    inr (subst
    (λ (n : ℕ). In (column_part key n (get_or vs at no_value)) (columns key (suc i) vs)) one
    (column_there key (suc i) at vs (omega arith)))

-- ---- they fit

value_fits : (fs : List Field) (vs : List Value) (at : ℕ) → AreFit fs vs → at < length vs
    → (at < length fs) × Fits (get_or fs at no_field).kind (get_or vs at no_value)
value_fits [] [] at fit lt = absurd (omega arith)
value_fits [] (v ∷ vs) at fit lt = absurd fit
value_fits (f ∷ fs) [] at fit lt = absurd fit
value_fits (f ∷ fs) (v ∷ vs) zero fit lt = (omega arith, fit.0)
value_fits (f ∷ fs) (v ∷ vs) (suc at) fit lt = let later =
    value_fits fs vs at fit.1 (omega arith) in (omega (arith, later.0), later.1)

part_fits : (form : Form) (r : Rec) (p : Part) → IsOf form r → IsColumn r.key 0 r.fields p
    → (p.child < length form.fields) × IsOf (column_form form p.child) p.rec
part_fits form r p is column =
    let v = value_fits form.fields r.fields column.at is.fields column.within in
    let none : 0 + column.at ≡ column.at = omega arith in
    let same : p ≡ column_part r.key column.at (get_or r.fields column.at no_value) =
    column.is ∙ ap (λ (n : ℕ). column_part r.key n (get_or r.fields column.at no_value)) none in
    subst (λ (q : Part). (q.child < length form.fields) × IsOf (column_form form q.child) q.rec)
    (sym same) (v.0, record { key = is.key; fields = (v.1, tt) })

-- ---- they ascend

after : (key : List Value) (i j : ℕ) (v w : Value) → i < j
    → part_cmp (column_part key i v) (column_part key j w) ≡ Less
after key i j v w less =
    ap (λ o. ordering_then o (values_cmp key key))
    (let e : nat_cmp i j ≡ Less = search (arith, nat_tests) in e)

all_after : (key : List Value) (i j : ℕ) (v : Value) (vs : List Value) → i < j
    → AllByRecursion (λ q. part_cmp (column_part key i v) q ≡ Less) (columns key j vs)
all_after key i j v [] less = tt
all_after key i j v (w ∷ vs) less =
    (after key i j v w less, all_after key i (suc j) v vs (omega arith))

ascending : (key : List Value) (i : ℕ) (vs : List Value)
    → IsStrictlySortedBy part_cmp (columns key i vs)
unfolding IsStrictlySortedBy
ascending key i [] = tt
ascending key i (v ∷ vs) = (all_after key i (suc i) v vs (omega arith), ascending key (suc i) vs)

-- ---- they tell the record

pub values_of : List Part → List Value
values_of [] = []
values_of (p ∷ ps) = first_value p.rec.fields ∷ values_of ps

pub column_values_are : (key : List Value) (i : ℕ) (vs : List Value)
    → values_of (columns key i vs) ≡ vs
unfolding values_of
column_values_are key i [] = refl
column_values_are key i (v ∷ vs) =
    ap (λ (ws : List Value). v ∷ ws) (column_values_are key (suc i) vs)

first_key : (key : List Value) (vs : List Value) (other : Part) → 0 < length vs
    → (get_or (columns key 0 vs) 0 other).rec.key ≡ key
first_key key [] other lt = absurd (omega arith)
first_key key (v ∷ vs) other lt = refl

parts_tell : (form : Form) (r s : Rec) → 0 < length form.fields → IsOf form r → IsOf form s
    → columns r.key 0 r.fields ≡ columns s.key 0 s.fields → r ≡ s
parts_tell form r s some f g e =
    let other = column_part [] 0 no_value in
    let m = fit_length form.fields r.fields f.fields in
    let n = fit_length form.fields s.fields g.fields in
    let keys : r.key ≡ s.key =
    sym (first_key r.key r.fields other (omega arith)) ∙ ap
    (λ (ps : List Part). (get_or ps 0 other).rec.key) e ∙ first_key s.key s.fields other
    (omega arith) in
    let fields : r.fields ≡ s.fields =
    sym (column_values_are r.key 0 r.fields) ∙ ap values_of e ∙ column_values_are s.key 0
    s.fields in
    λ i. record { key = keys i; fields = fields i }

-- ---- carried fields

column_kind : (fs : List Field) (name : List ℕ) → is_field fs name ≡ true
    → kind_in (get_or fs (first_in fs name) no_field ∷ []) name ≡ kind_in fs name
column_kind [] name there = cc
column_kind (f ∷ fs) name there =
    by_test (column_kind fs name) (pointwise nat_eq f.name name) refl there
  where
    by_test : (is_field fs name ≡ true → kind_in (get_or fs (first_in fs name) no_field ∷ []) name
        ≡ kind_in fs name) → (t : Bool) → t ≡ pointwise nat_eq f.name name
        → t || is_field fs name ≡ true
        → kind_in (get_or (f ∷ fs) (cond t 0 (suc (first_in fs name))) no_field ∷ []) name
        ≡ cond t (Some f.kind) (kind_in fs name)
    by_test later true t_is have = ap (λ (u : Bool). cond u (Some f.kind) None) (sym t_is)
    by_test later false t_is have = later have

column_value : (fs : List Field) (vs : List Value) (name : List ℕ) → AreFit fs vs
    → is_field fs name ≡ true
    → value_in (get_or fs (first_in fs name) no_field ∷ [])
    (get_or vs (first_in fs name) no_value ∷ []) name ≡ value_in fs vs name
column_value [] vs name fit there = cc
column_value (f ∷ fs) [] name fit there = absurd fit
column_value (f ∷ fs) (v ∷ vs) name fit there =
    by_test (column_value fs vs name fit.1) (pointwise nat_eq f.name name) refl there
  where
    by_test :
        (is_field fs name ≡ true
        → value_in (get_or fs (first_in fs name) no_field ∷ [])
        (get_or vs (first_in fs name) no_value ∷ []) name ≡ value_in fs vs name) → (t : Bool)
        → t ≡ pointwise nat_eq f.name name → t || is_field fs name ≡ true
        → value_in (get_or (f ∷ fs) (cond t 0 (suc (first_in fs name))) no_field ∷ [])
        (get_or (v ∷ vs) (cond t 0 (suc (first_in fs name))) no_value ∷ []) name
        ≡ cond t (Some v) (value_in fs vs name)
    by_test later true t_is have = ap (λ (u : Bool). cond u (Some v) None) (sym t_is)
    by_test later false t_is have = later have

only_column : (form : Form) (name : List ℕ) (r : Rec) (q : Part) → IsColumn r.key 0 r.fields q
    → (transpose_rule form).carries q.child name ≡ true
    → q ≡ column_part r.key (first_in form.fields name)
    (get_or r.fields (first_in form.fields name) no_value)
only_column form name r q column carries =
    let child : q.child ≡ 0 + column.at = ap (λ (p : Part). p.child) column.is in
    let number =
    equal_from_nat_eq (first_in form.fields name) q.child
    (both_parts (is_field form.fields name) (nat_eq (first_in form.fields name) q.child) carries).1
    in
    let at : column.at ≡ first_in form.fields name = omega arith in
    let none : 0 + column.at ≡ first_in form.fields name = omega arith in
    column.is ∙ (λ i. column_part r.key (none i) (get_or r.fields (at i) no_value))

carried_by : (form : Form) (name : List ℕ) (r : Rec) → is_field form.fields name ≡ true
    → IsOf form r → IsCarried (transpose_rule form) name r
carried_by form name r there is =
    let n = first_in form.fields name in
    let v = has_value form.fields r.fields name is.fields there in
    let within : n < length r.fields =
    omega
    (arith, first_within form.fields name there, fit_length form.fields r.fields is.fields) in
    record {
      part = column_part r.key n (get_or r.fields n no_value);
      value = v.0;
      there = subst
          (λ (c : ℕ). In (column_part r.key c (get_or r.fields n no_value))
          (columns r.key 0 r.fields)) (let none : 0 + n ≡ n = omega arith in none)
          (column_there r.key 0 n r.fields within);
      carries = (λ i. there i && nat_eq_itself n i);
      only = λ q at also. only_column form name r q (column_of r.key 0 r.fields q at) also;
      key = refl;
      of_record = v.1;
      of_part = column_value form.fields r.fields name is.fields there ∙ v.1;
    }

carrier : (form : Form) (name : List ℕ) (c : ℕ) → (transpose_rule form).carries c name ≡ true
    → IsCarrier (transpose_rule form) name c
carrier form name c carries =
    let b = both_parts (is_field form.fields name) (nat_eq (first_in form.fields name) c) carries in
    subst (IsCarrier (transpose_rule form) name)
    (equal_from_nat_eq (first_in form.fields name) c b.1)
    (record {
      rest = refl;
      keys = refl;
      kind = column_kind form.fields name b.0;
      each = λ r is. carried_by form name r b.0 is;
    })

-- ---- the laws

column_key : (key : List Value) (vs : List Value) (p : Part) → In p (columns key 0 vs)
    → p.rec.key ≡ key
column_key key vs p there = ap (λ (q : Part). q.rec.key) (column_of key 0 vs p there).is

pub transpose_laws : (form : Form) → 0 < length form.fields → MappingLaws (transpose_rule form)
transpose_laws form some = record {
  fit = λ r p is there. part_fits form r p is (column_of r.key 0 r.fields p there);
  in_order = λ r is. ascending r.key 0 r.fields;
  apart = λ r s p q is_r is_s i j child key.
      sym (column_key r.key r.fields p i) ∙ key ∙ column_key s.key s.fields q j;
  has_data = λ r is.
      let n = fit_length form.fields r.fields is.fields in
      let first = column_there r.key 0 0 r.fields (omega arith) in (
        column_part r.key (0 + 0) (get_or r.fields 0 no_value),
        subst (In (column_part r.key (0 + 0) (get_or r.fields 0 no_value)))
            (sym (all_data (columns r.key 0 r.fields))) first,
      );
  told = λ r s is_r is_s e.
      parts_tell form r s some is_r is_s
      (sym (all_data (columns r.key 0 r.fields)) ∙ e ∙ all_data (columns s.key 0 s.fields));
  keys_lead = λ c lt rest. ([], sym (append-nil form.keys));
  key_leads = λ r p is there rest. ([], column_key r.key r.fields p there ∙ sym (append-nil r.key));
  skipped = λ r p span is there skips. cc;
  carried = λ name c lt carries. carrier form name c carries;
  indexed = λ name c is. cc;
}
