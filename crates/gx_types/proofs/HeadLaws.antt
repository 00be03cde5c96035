-- The rule of a head has the form that it stands over, and the children that typing gives it.
use Rattle.std.proofs.Common.{◌≡◌, ◌≢◌, ℕ, zero, suc, ◌<◌, cond, Bool, true, false, List, [], ◌∷◌, length, map, Option, Some, None, refl, sym, ap, subst, inl, inr, ◌∙◌, arith}
use Rattle.std.specs.Prelude.{◌||◌, not, filter, nat_eq, slice_index_or}
use Rattle.std.specs.List.{list_any}
use Rattle.std.specs.Cmp.Lexicographic.{pointwise, bytes_decides}
use Rattle.std.proofs.lemmas.Bool.{cond-true, cond-false, true≢false}
use Rattle.std.proofs.lemmas.Bool.Decides.{nat_tests}
use Rattle.std.proofs.lemmas.List.{length-map}
use Rattle.gx_laws.proofs.NumberLemmas.{nat_eq_itself}
use Rattle.gx_values.specs.Keys.{IsKeyKind}
use Rattle.gx_values.specs.declared.values.Code.{Code}
use Rattle.gx_values.specs.declared.values.Kind.{Kind}
use Rattle.gx_values.specs.declared.values.Kind.TheVariants as kinds
use Rattle.gx_values.specs.declared.records.Field.{Field}
use Rattle.gx_values.specs.declared.records.Form.{Form}
use Rattle.gx_values.specs.Values.{no_field, coded_kind, kind_in}
use Rattle.gx_mapping.specs.Rule.{is_field, first_in}
use Rattle.gx_encode.specs.Forms.{changed, coded_field as field_by_code}
use Rattle.gx_index.specs.Forms.{entry_form}
use Rattle.gx_split.specs.Groups.{marks, chosen}
use Rattle.gx_partition.specs.declared.place.Where.{Where}
use Rattle.gx_partition.specs.declared.place.Where.TheVariants.{Key, Rest}
use Rattle.gx_equation.specs.declared.heads.Head.{Head}
use Rattle.gx_equation.specs.declared.heads.Head.TheVariants as heads
use Rattle.gx_equation.specs.Printing.{IsCount}
use Rattle.gx_equation.specs.Trees.{Trees, list_of, arity}
use Rattle.gx_types.specs.Build.{IsFirstOf, IsPlaceOf}
use Rattle.gx_forms.specs.Fields.{field, has_name}
use Rattle.gx_forms.specs.Forms.{coded_field, index_kind, kid_form}
use Rattle.gx_types.specs.FileForms.{AreDistinct}
use Rattle.gx_types.specs.HeadRules.{numbers_from, place_in, head_rule, IsLayer}
use Rattle.gx_typing.specs.Typed.{IsField, IsMet}
use Rattle.gx_typing.specs.Typing.{count}
use Rattle.gx_types.proofs.FormLaws.{coded_none, count_list}
use Rattle.gx_types.proofs.ReadyLaws.{first_kind_is}

-- ---- the first field of a name

pub field_there : (fs : List Field) (name : List ℕ) (kind : Kind) → kind_in fs name ≡ Some kind
    → is_field fs name ≡ true
field_there [] name kind is = absurd cc
field_there (f ∷ fs) name kind is =
    elim (pointwise nat_eq f.name name) as (λ b. cond b (Some f.kind) (kind_in fs name) ≡ Some kind
    → (b || is_field fs name) ≡ true) [
      | true ↦ λ e. refl
      | false ↦ λ e. field_there fs name kind e
    ] is

no_some : {k : Kind} → ◌≡◌ {A = Option Kind} (Some k) None → ⊥
no_some e = cc

pub field_none : (fs : List Field) (name : List ℕ) → kind_in fs name ≡ None
    → is_field fs name ≡ false
field_none [] name is = refl
field_none (f ∷ fs) name is =
    elim (pointwise nat_eq f.name name) as (λ b. cond b (Some f.kind) (kind_in fs name) ≡ None
    → (b || is_field fs name) ≡ false) [
      | true ↦ λ e. absurd (no_some e)
      | false ↦ λ e. field_none fs name e
    ] is

other_name : (a b : List ℕ) → a ≢ b → pointwise nat_eq a b ≡ false
other_name a b ne = go (pointwise nat_eq a b) refl
  where
    go : (t : Bool) → pointwise nat_eq a b ≡ t → t ≡ false
    go true e = absurd (ne ((bytes_decides a b).0 e))
    go false e = refl

pub first_is : (fs : List Field) (name : List ℕ) → is_field fs name ≡ true
    → IsFirstOf fs name (first_in fs name)
first_is [] name h = absurd (true≢false (sym h))
first_is (f ∷ fs) name h = go (pointwise nat_eq f.name name) refl (first_is fs name)
  where
    go : (t : Bool) → pointwise nat_eq f.name name ≡ t
        → (is_field fs name ≡ true → IsFirstOf fs name (first_in fs name))
        → IsFirstOf (f ∷ fs) name (first_in (f ∷ fs) name)
    go true e behind = subst (IsFirstOf (f ∷ fs) name)
        (sym (cond-true (pointwise nat_eq f.name name) 0 (suc (first_in fs name)) e))
        ((bytes_decides f.name name).0 e)
    go false e behind =
        let ne : f.name ≢ name = λ same. true≢false (sym ((bytes_decides f.name name).1 same) ∙ e)
        in
        subst (IsFirstOf (f ∷ fs) name)
        (sym (cond-false (pointwise nat_eq f.name name) 0 (suc (first_in fs name)) e))
        (ne, behind (ap (λ (t : Bool). t || is_field fs name) (sym e) ∙ h))

pub first_only : (fs : List Field) (name : List ℕ) (i : ℕ) → IsFirstOf fs name i
    → first_in fs name ≡ i
first_only [] name i is = absurd is
first_only (f ∷ fs) name zero is =
    cond-true (pointwise nat_eq f.name name) 0 (suc (first_in fs name))
    ((bytes_decides f.name name).1 is)
first_only (f ∷ fs) name (suc i) is =
    cond-false (pointwise nat_eq f.name name) 0 (suc (first_in fs name))
    (other_name f.name name is.0) ∙ ap suc (first_only fs name i is.1)

-- all fields stand before one that isn't there
pub none_first : (fs : List Field) (name : List ℕ) → kind_in fs name ≡ None
    → first_in fs name ≡ length fs
none_first [] name none = refl
none_first (f ∷ fs) name none =
    elim (pointwise nat_eq f.name name) as (λ b. cond b (Some f.kind) (kind_in fs name) ≡ None
    → cond b 0 (suc (first_in fs name)) ≡ suc (length fs)) [
      | true ↦ λ e. absurd (no_some e)
      | false ↦ λ e. ap suc (none_first fs name e)
    ] none

first_name : (fs : List Field) (name : List ℕ) (i : ℕ) → IsFirstOf fs name i
    → (slice_index_or fs i no_field).name ≡ name
first_name [] name i is = absurd is
first_name (f ∷ fs) name zero is = is
first_name (f ∷ fs) name (suc i) is = first_name fs name i is.1

-- a typed name has a place, which is the only one
pub place_is : (form : Form) (name : List ℕ) (kind : Kind) → IsField form name kind
    → IsPlaceOf form name (place_in form name)
place_is form name kind (inl is) =
    let there = field_there form.keys name kind is in
    subst (IsPlaceOf form name)
    (sym (cond-true (is_field form.keys name) (Key (first_in form.keys name))
    (Rest (first_in form.fields name)) there)) (first_is form.keys name there)
place_is form name kind (inr d) =
    subst (IsPlaceOf form name)
    (sym (cond-false (is_field form.keys name) (Key (first_in form.keys name))
    (Rest (first_in form.fields name)) (field_none form.keys name d.no_key)))
    (d.no_key, first_is form.fields name (field_there form.fields name kind d.is))

pub place_only : (form : Form) (name : List ℕ) (at : Where) → IsPlaceOf form name at
    → at ≡ place_in form name
place_only form name (Key i) is =
    let there = field_there form.keys name _ (first_kind_is form.keys name i is).1 in
    sym (cond-true (is_field form.keys name) (Key (first_in form.keys name))
    (Rest (first_in form.fields name)) there ∙ ap Key (first_only form.keys name i is))
place_only form name (Rest i) is =
    sym (cond-false (is_field form.keys name) (Key (first_in form.keys name))
    (Rest (first_in form.fields name)) (field_none form.keys name is.0)
    ∙ ap Rest (first_only form.fields name i is.1))

-- ---- chosen and changed fields

chosen_filter : (p : Field → Bool) (fs : List Field) → chosen (map p fs) fs ≡ filter p fs
chosen_filter p [] = refl
chosen_filter p (f ∷ fs) =
    elim (p f) as (λ b. cond b (f ∷ chosen (map p fs) fs) (chosen (map p fs) fs) ≡ cond b
    (f ∷ filter p fs) (filter p fs)) [
      | true ↦ ap (λ (gs : List Field). f ∷ gs) (chosen_filter p fs)
      | false ↦ chosen_filter p fs
    ]

not_each : (p : Field → Bool) (fs : List Field) → map not (map p fs) ≡ map (λ f. not (p f)) fs
not_each p [] = refl
not_each p (f ∷ fs) = ap (λ (bs : List Bool). not (p f) ∷ bs) (not_each p fs)

others_chosen : (p : Field → Bool) (fs : List Field)
    → chosen (map not (map p fs)) fs ≡ filter (λ f. not (p f)) fs
others_chosen p fs = ap (λ (bs : List Bool). chosen bs fs) (not_each p fs)
    ∙ chosen_filter (λ f. not (p f)) fs

-- numbers that are marked again
later : (i j : ℕ) → i < j → nat_eq i j ≡ false
later i j lt = grind (arith, nat_tests)

earlier : (i j : ℕ) → i < j → nat_eq j i ≡ false
earlier i j lt = grind (arith, nat_tests)

absent : (i j : ℕ) (bs : List Bool) → i < j → list_any (nat_eq i) (numbers_from j bs) ≡ false
absent i j [] lt = refl
absent i j (true ∷ bs) lt =
    ap (λ (b : Bool). b || list_any (nat_eq i) (numbers_from (suc j) bs)) (later i j lt)
    ∙ absent i (suc j) bs (omega arith)
absent i j (false ∷ bs) lt = absent i (suc j) bs (omega arith)

behind_marks : (k j n : ℕ) (ns : List ℕ) → k < j → marks (k ∷ ns) j n ≡ marks ns j n
behind_marks k j zero ns lt = refl
behind_marks k j (suc n) ns lt =
    let here = ap (λ (b : Bool). b || list_any (nat_eq j) ns) (earlier k j lt) in
    let rest = behind_marks k (suc j) n ns (omega arith) in
    λ i. here i ∷ rest i

marks_again : (j : ℕ) (bs : List Bool) → marks (numbers_from j bs) j (length bs) ≡ bs
marks_again j [] = refl
marks_again j (true ∷ bs) =
    let here = ap (λ (b : Bool). b || list_any (nat_eq j) (numbers_from (suc j) bs))
    (nat_eq_itself j) in
    let rest = behind_marks j (suc j) (length bs) (numbers_from (suc j) bs) (omega arith)
    ∙ marks_again (suc j) bs in
    λ i. here i ∷ rest i
marks_again j (false ∷ bs) =
    let here = absent j (suc j) bs (omega arith) in
    let rest = marks_again (suc j) bs in
    λ i. here i ∷ rest i

pub marked : (p : Field → Bool) (fs : List Field)
    → marks (numbers_from 0 (map p fs)) 0 (length fs) ≡ map p fs
marked p fs = ap (marks (numbers_from 0 (map p fs)) 0) (sym (length-map fs p))
    ∙ marks_again 0 (map p fs)

-- the layer and typing give a coded field one kind
same_field : (c : Code) → field_by_code c ≡ (λ (f : Field). field f.name (coded_kind c f.kind))
same_field c = refl

changed_first : (name : List ℕ) (c : Code) (fs : List Field) → AreDistinct fs
    → is_field fs name ≡ true
    → changed (first_in fs name) (λ f. field f.name (coded_kind c f.kind)) fs ≡ map
    (coded_field name c) fs
changed_first name c [] are h = refl
changed_first name c (f ∷ fs) are h =
    go (pointwise nat_eq f.name name) refl (changed_first name c fs are.1)
  where
    go : (t : Bool) → pointwise nat_eq f.name name ≡ t
        → (is_field fs name ≡ true
        → changed (first_in fs name) (λ f. field f.name (coded_kind c f.kind)) fs ≡ map
        (coded_field name c) fs)
        → changed (first_in (f ∷ fs) name) (λ f. field f.name (coded_kind c f.kind))
        (f ∷ fs) ≡ map (coded_field name c) (f ∷ fs)
    go true e behind =
        let here : coded_field name c f ≡ field f.name (coded_kind c f.kind) =
        cond-true (pointwise nat_eq f.name name) _ _ e in
        let rest = coded_none name c fs (ap (is_field fs) (sym ((bytes_decides f.name name).0 e))
        ∙ are.0) in
        ap (λ (n : ℕ). changed n (λ f. field f.name (coded_kind c f.kind)) (f ∷ fs))
        (cond-true (pointwise nat_eq f.name name) 0 (suc (first_in fs name)) e)
        ∙ sym (λ i. here i ∷ rest i)
    go false e behind =
        let here : coded_field name c f ≡ f = cond-false (pointwise nat_eq f.name name) _ _ e in
        let rest = behind (ap (λ (t : Bool). t || is_field fs name) (sym e) ∙ h) in
        ap (λ (n : ℕ). changed n (λ f. field f.name (coded_kind c f.kind)) (f ∷ fs))
        (cond-false (pointwise nat_eq f.name name) 0 (suc (first_in fs name)) e)
        ∙ (λ i. sym here i ∷ rest i)

-- ---- each head

pub rule_form : (top : Head) (form : Form) → (head_rule top form).form ≡ form
rule_form (heads.Leaf kind) form = refl
rule_form heads.Actual form = refl
rule_form (heads.Encode name c) form = refl
rule_form (heads.Segment names) form = refl
rule_form heads.Transpose form = refl
rule_form (heads.Partition name bounds) form = refl
rule_form (heads.Divide size) form = refl
rule_form (heads.Index name) form = refl

same_kind : {a b : Kind} → ◌≡◌ {A = Option Kind} (Some a) (Some b) → a ≡ b
same_kind e = cc

pub key_kind : (k : Kind) → IsKeyKind k → index_kind (Some k) ≡ k
key_kind kinds.Int is = refl
key_kind (kinds.Text most) is = refl
key_kind (kinds.Bytes most) is = absurd is

-- the field of a typed name
pub typed_kind : (fs : List Field) (name : List ℕ) (kind : Kind) → kind_in fs name ≡ Some kind
    → (first_in fs name < length fs) × ((slice_index_or fs (first_in fs name) no_field).kind ≡ kind)
typed_kind fs name kind is =
    let first = first_kind_is fs name (first_in fs name)
    (first_is fs name (field_there fs name kind is)) in
    (first.0, same_kind (sym first.1 ∙ is))

indexed_field : (fs : List Field) (name : List ℕ) (kind : Kind) → kind_in fs name ≡ Some kind
    → IsKeyKind kind → slice_index_or fs (first_in fs name) no_field ≡ field name
    (index_kind (kind_in fs name))
indexed_field fs name kind is key =
    let spelled = first_name fs name (first_in fs name)
    (first_is fs name (field_there fs name kind is)) in
    let same : (slice_index_or fs (first_in fs name) no_field).kind ≡ index_kind (kind_in fs name) =
    (typed_kind fs name kind is).1 ∙ sym (ap index_kind is ∙ key_kind kind key) in
    λ i. record { name = spelled i; kind = same i }

pub rule_kid_form : (top : Head) (form : Form) (kids : ℕ) → IsMet top form kids
    → AreDistinct form.fields → (c : ℕ) → (head_rule top form).kid_form c ≡ kid_form top form c
rule_kid_form (heads.Leaf kind) form kids met names c = refl
rule_kid_form heads.Actual form kids met names c = refl
rule_kid_form (heads.Encode name e) form kids met names c =
    let here = ap (λ (change : Field → Field). changed (first_in form.fields name) change
    form.fields) (same_field e)
    ∙ changed_first name e form.fields names
    (field_there form.fields name met.kind met.field.is) in
    λ i. record { keys = form.keys; fields = here i }
rule_kid_form (heads.Segment names) form kids met distinct zero =
    λ i. record {
      keys = form.keys;
      fields = chosen_filter
          (λ f. has_name names f.name) form.fields i;
    }
rule_kid_form (heads.Segment names) form kids met distinct (suc c) =
    λ i. record {
      keys = form.keys;
      fields = others_chosen
          (λ f. has_name names f.name) form.fields i;
    }
rule_kid_form heads.Transpose form kids met names c = refl
rule_kid_form (heads.Partition name bounds) form kids met names c = refl
rule_kid_form (heads.Divide size) form kids met names c = refl
rule_kid_form (heads.Index name) form kids met names zero = refl
rule_kid_form (heads.Index name) form kids met names (suc c) =
    let here = indexed_field form.fields name met.kind met.field.is met.key_kind in
    cond-false (nat_eq (suc c) 0) form (entry_form (first_in form.fields name) form)
    (earlier 0 (suc c) (omega arith)) ∙ (λ i. record { keys = here i ∷ form.keys; fields = [] })

pub rule_kids : (top : Head) (form : Form) (kids : Trees) → IsLayer top
    → IsCount (arity top) (list_of kids) → IsMet top form (count kids)
    → count kids ≡ (head_rule top form).kids
rule_kids (heads.Leaf kind) form kids is many met = absurd is
rule_kids heads.Actual form kids is many met = count_list kids ∙ many
rule_kids (heads.Encode name c) form kids is many met = count_list kids ∙ many
rule_kids (heads.Segment names) form kids is many met = count_list kids ∙ many
rule_kids heads.Transpose form kids is many met = met.each
rule_kids (heads.Partition name bounds) form kids is many met = omega (arith, met.each)
rule_kids (heads.Divide size) form kids is many met = count_list kids ∙ many
rule_kids (heads.Index name) form kids is many met = count_list kids ∙ many
