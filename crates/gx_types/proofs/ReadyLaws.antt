-- What building asks of a term is met by its children, and is what the mappings of its heads ask.
use Rattle.std.proofs.Common.{◌≡◌, ◌≢◌, ℕ, zero, suc, ◌+◌, ◌<◌, ◌≤◌, Bool, true, false, List, [], ◌∷◌, length, Some, None, refl, sym, inl, inr, ◌∙◌, arith}
use Rattle.std.specs.Prelude.{nat_eq, slice_index_or, Option}
use Rattle.std.specs.Cmp.Lexicographic.{pointwise, bytes_decides}
use Rattle.std.specs.List.{AllByRecursion}
use Rattle.std.specs.List.Sorted.{IsStrictlySortedBy}
use Rattle.std.specs.declared.cmp.Ordering.TheVariants.{Less}
use Rattle.std.proofs.lemmas.Bool.{cond-true, cond-false}
use Rattle.gx_values.specs.Values.{value_cmp, Fits, no_field, kind_in}
use Rattle.gx_values.specs.declared.values.Kind.{Kind}
use Rattle.gx_values.specs.declared.values.Kind.TheVariants as kinds
use Rattle.gx_values.specs.declared.values.Value.{Value}
use Rattle.gx_values.specs.declared.values.Value.TheVariants as values
use Rattle.gx_values.specs.declared.records.Field.{Field}
use Rattle.gx_values.specs.declared.records.Form.{Form}
use Rattle.gx_values.proofs.OrderLemmas.{value_cmp_total}
use Rattle.gx_partition.specs.Places.{kind_at, IsPlace}
use Rattle.gx_partition.specs.declared.place.Where.{Where}
use Rattle.gx_partition.specs.declared.place.Where.TheVariants.{Key, Rest}
use Rattle.gx_equation.specs.declared.heads.Head.{Head}
use Rattle.gx_equation.specs.Trees.{TermTree, Trees, node, kid}
use Rattle.gx_types.specs.FileForms.{IsFileForm}
use Rattle.gx_equation.specs.Printing.{IsTerm, IsBound}
use Rattle.gx_types.proofs.FormLaws.{kept}
use Rattle.gx_types.specs.Build.{leaf_count, leaf_counts, IsFirstOf, IsPlaceOf, IsReady, AreReady}
use Rattle.gx_forms.specs.Forms.{kid_form}
use Rattle.gx_typing.specs.Places.{leaves_at}
use Rattle.gx_typing.specs.Typed.{IsField, IsBoundFor, AscendStrictly}
use Rattle.gx_typing.specs.Typing.{count}

-- ---- children

pub kids_ready : (n : ℕ) (form : Form) (top : Head) (kids : Trees) → IsReady n form (node top kids)
    → AreReady n (kid_form top form) 0 kids
kids_ready n form top kids r = go r.levels r.few_levels r.term r.records
  where
    go : (levels : ℕ) → levels ≤ 16 → IsTerm levels (node top kids) → IsFileForm levels form
        → AreReady n (kid_form top form) 0 kids
    go zero le term fits = absurd term
    go (suc levels) le term fits =
        let few : n + (leaves_at top + leaf_counts kids) ≤ 255 = r.few in
        record {
          levels = levels;
          few_levels = omega arith;
          terms = term.2;
          records = λ c from below. kept top form (count kids) levels term.0 r.typed.0
              (omega arith) fits c (omega arith);
          typed = r.typed.1;
          few = omega arith;
        }

pub first_ready : (n : ℕ) (forms : ℕ → Form) (i : ℕ) (t : TermTree) (ts : Trees)
    → AreReady n forms i (kid t ts) → IsReady n (forms i) t
first_ready n forms i t ts r =
    let few : n + (leaf_count t + leaf_counts ts) ≤ 255 = r.few in
    record {
      levels = r.levels;
      few_levels = r.few_levels;
      term = r.terms.0;
      records = r.records i (omega arith) (omega arith);
      typed = r.typed.0;
      few = omega arith;
    }

pub others_ready : (n : ℕ) (forms : ℕ → Form) (i : ℕ) (t : TermTree) (ts : Trees)
    → AreReady n forms i (kid t ts) → AreReady (n + leaf_count t) forms (suc i) ts
others_ready n forms i t ts r =
    let few : n + (leaf_count t + leaf_counts ts) ≤ 255 = r.few in
    record {
      levels = r.levels;
      few_levels = r.few_levels;
      terms = r.terms.1;
      records = λ c from below. r.records c (omega arith) (omega arith);
      typed = r.typed.1;
      few = omega arith;
    }

-- ---- `partition`

other_name : (a b : List ℕ) → a ≢ b → pointwise nat_eq a b ≡ false
other_name a b ne = go (pointwise nat_eq a b) refl
  where
    go : (t : Bool) → pointwise nat_eq a b ≡ t → t ≡ false
    go true e = absurd (ne ((bytes_decides a b).0 e))
    go false e = refl

pub first_kind_is : (fs : List Field) (name : List ℕ) (i : ℕ) → IsFirstOf fs name i
    → (i < length fs) × (kind_in fs name ≡ Some (slice_index_or fs i no_field).kind)
first_kind_is [] name i is = absurd is
first_kind_is (f ∷ fs) name zero is =
    (omega arith, cond-true (pointwise nat_eq f.name name) _ _ ((bytes_decides f.name name).1 is))
first_kind_is (f ∷ fs) name (suc i) is =
    let more = first_kind_is fs name i is.1 in (
      omega arith,
      cond-false (pointwise nat_eq f.name name) _ _
          (other_name f.name name is.0) ∙ more.1,
    )

pub within : (form : Form) (name : List ℕ) (at : Where) → IsPlaceOf form name at → IsPlace at form
within form name (Key i) is = (first_kind_is form.keys name i is).0
within form name (Rest i) is = (first_kind_is form.fields name i is.1).0

pub kind_is : (form : Form) (name : List ℕ) (at : Where) (kind : Kind) → IsPlaceOf form name at
    → IsField form name kind → kind_at at form ≡ kind
kind_is form name (Key i) kind is (inl field) =
    some_same (sym (first_kind_is form.keys name i is).1 ∙ field)
  where
    some_same : {a b : Kind} → ◌≡◌ {A = Option Kind} (Some a) (Some b) → a ≡ b
    some_same e = cc
kind_is form name (Key i) kind is (inr field) =
    absurd (no_some (sym (first_kind_is form.keys name i is).1 ∙ field.no_key))
  where
    no_some : {a : Kind} → ◌≡◌ {A = Option Kind} (Some a) None → ⊥
    no_some e = cc
kind_is form name (Rest i) kind is (inl field) = absurd (no_some (sym field ∙ is.0))
  where
    no_some : {a : Kind} → ◌≡◌ {A = Option Kind} (Some a) None → ⊥
    no_some e = cc
kind_is form name (Rest i) kind is (inr field) =
    some_same (sym (first_kind_is form.fields name i is.1).1 ∙ field.is)
  where
    some_same : {a b : Kind} → ◌≡◌ {A = Option Kind} (Some a) (Some b) → a ≡ b
    some_same e = cc

bound_fits : (k : Kind) (v : Value) → IsBoundFor k v → IsBound v → Fits k v
bound_fits kinds.Int (values.Int n) is bound = bound
bound_fits kinds.Int (values.Text t) is bound = absurd is
bound_fits kinds.Int (values.Bytes t) is bound = absurd is
bound_fits (kinds.Text most) (values.Int n) is bound = absurd is
bound_fits (kinds.Text most) (values.Text t) is bound = is
bound_fits (kinds.Text most) (values.Bytes t) is bound = absurd is
bound_fits (kinds.Bytes most) v is bound = absurd is

pub bounds_fit : (k : Kind) (vs : List Value) → AllByRecursion (IsBoundFor k) vs
    → AllByRecursion IsBound vs → AllByRecursion (Fits k) vs
bounds_fit k [] are bound = tt
bounds_fit k (v ∷ vs) are bound = (bound_fits k v are.0 bound.0, bounds_fit k vs are.1 bound.1)

below_all : (a b : Value) (vs : List Value) → value_cmp a b ≡ Less
    → AllByRecursion (λ v. value_cmp b v ≡ Less) vs → AllByRecursion (λ v. value_cmp a v ≡ Less) vs
below_all a b [] less all = tt
below_all a b (v ∷ vs) less all =
    (value_cmp_total.trans a b v less all.0, below_all a b vs less all.1)

pub sorted_bounds : (vs : List Value) → AscendStrictly vs → IsStrictlySortedBy value_cmp vs
unfolding IsStrictlySortedBy
sorted_bounds [] up = tt
sorted_bounds (a ∷ []) up = (tt, tt)
sorted_bounds (a ∷ b ∷ vs) up =
    let more = sorted_bounds (b ∷ vs) up.1 in
    ((up.0, below_all a b vs up.0 more.0), more)
