-- Typing doesn't tell a form from the one that a program keeps of it.
use Rattle.std.proofs.Common.{◌≡◌, ℕ, zero, suc, ◌+◌, min, cond, Bool, true, false, List, [], ◌∷◌, length, map, Option, Some, None, Result, Ok, Err, refl, sym, ap, ◌∙◌, arith}
use Rattle.std.specs.Prelude.{nat_eq, nat_le, nat_lt, not, ◌&&◌, filter, slice_index_or, is_some, codes, ◌||◌, ◌==◌}
use Rattle.std.specs.Cmp.Lexicographic.{pointwise}
use Rattle.std.specs.List.{list_all}
use Rattle.std.proofs.lemmas.Bool.Decides.{nat_tests}
use Rattle.std.proofs.lemmas.List.{length-map}
use Rattle.gx_values.specs.Values.{coded_kind, is_bytes, kind_in}
use Rattle.gx_values.specs.Keys.{widths}
use Rattle.gx_values.specs.declared.values.Code.{Code}
use Rattle.gx_values.specs.declared.values.Code.TheVariants as code
use Rattle.gx_values.specs.declared.values.Kind.{Kind}
use Rattle.gx_values.specs.declared.values.Kind.TheVariants as kinds
use Rattle.gx_values.specs.declared.values.Value.{Value}
use Rattle.gx_values.specs.declared.records.Field.{Field}
use Rattle.gx_values.specs.declared.records.Form.{Form}
use Rattle.gx_equation.specs.declared.heads.Head.{Head}
use Rattle.gx_equation.specs.declared.heads.Head.TheVariants as heads
use Rattle.gx_equation.specs.Trees.{TermTree, Trees, node, none, kid}
use Rattle.gx_typing.specs.declared.reasons.TypeWhy.{TypeWhy}
use Rattle.gx_typing.specs.declared.reasons.TypeWhy.TheVariants as why
use Rattle.gx_typing.specs.declared.typing.Typing.{Typing}
use Rattle.gx_forms.specs.Fields.{field, has_name, body_width, body_widths}
use Rattle.gx_typing.specs.Conditions.{is_key_kind, is_coded, is_bound, is_data, are_data, ascends, leaves_some}
use Rattle.gx_typing.specs.Rows.{◌>>=◌, tested, data_from, any_from, body_of, leaf_row, one_bytes, row}
use Rattle.gx_forms.specs.Forms.{coded_field, index_kind, kid_form}
use Rattle.gx_typing.specs.Typing.{Mistake, other_lines, at, count, with_head, typed_at, kids_typed}
use Rattle.gx_forms.specs.Narrow.{narrow_kind, narrow_field, narrow}

-- ---- kinds and fields

narrow_again : (k : Kind) → narrow_kind (narrow_kind k) ≡ narrow_kind k
narrow_again kinds.Int = refl
narrow_again (kinds.Text most) = refl
narrow_again (kinds.Bytes most) = let k : min 65535 (min 65535 most) ≡ min 65535 most =
    omega arith in ap kinds.Bytes k

fields_again : (fs : List Field) → map narrow_field (map narrow_field fs) ≡ map narrow_field fs
fields_again [] = refl
fields_again (f ∷ fs) =
    ap (λ (k : Kind). field f.name k ∷ map narrow_field (map narrow_field fs)) (narrow_again f.kind)
    ∙ ap (λ (gs : List Field). narrow_field f ∷ gs) (fields_again fs)

abbrev form_with : List Field → List Field → Form
form_with keys fields = record { keys = keys; fields = fields }

form_again : (f : Form) → narrow (narrow f) ≡ narrow f
form_again f = ap (λ (fs : List Field). let made : Form = record { keys = f.keys; fields = fs } in
    made) (fields_again f.fields)

narrow_option : Option Kind → Option Kind
narrow_option None = None
narrow_option (Some k) = Some (narrow_kind k)

kind_in_narrow : (fs : List Field) (name : List ℕ)
    → kind_in (map narrow_field fs) name ≡ narrow_option (kind_in fs name)
unfolding narrow_option
kind_in_narrow [] name = refl
kind_in_narrow (f ∷ fs) name =
    elim (pointwise nat_eq f.name name) as
    (λ b. cond b (Some (narrow_kind f.kind)) (kind_in (map narrow_field fs) name)
    ≡ narrow_option (cond b (Some f.kind) (kind_in fs name))) [
      | true ↦ refl
      | false ↦ kind_in_narrow fs name
    ]

widths_narrow : (fs : List Field)
    → min 65535 (body_widths (map narrow_field fs)) ≡ min 65535 (body_widths fs)
widths_narrow [] = refl
widths_narrow (f ∷ fs) =
    one f.kind (body_widths (map narrow_field fs)) (body_widths fs) (widths_narrow fs)
  where
    one : (k : Kind) (m n : ℕ) → min 65535 m ≡ min 65535 n
        → min 65535 (body_width (narrow_kind k) + m) ≡ min 65535 (body_width k + n)
    one kinds.Int m n e = omega arith
    one (kinds.Text most) m n e = omega arith
    one (kinds.Bytes most) m n e = omega arith

some_narrow : (o : Option Kind) → is_some (narrow_option o) ≡ is_some o
unfolding narrow_option
some_narrow None = refl
some_narrow (Some k) = refl

-- ---- what heads ask

le_narrow : (w n : ℕ) → nat_le (w + min 65535 n) 1000 ≡ nat_le (w + n) 1000
le_narrow w n = grind (arith, nat_tests)

body_narrow : (keys : List Field) (k : Kind)
    → (body_of (narrow_kind k) >>= λ body. tested why.KeyLength (nat_le (widths keys) 400) >>=
    λ short. tested why.EntryLength (nat_le (widths keys + body) 1000))
    ≡ (body_of k >>= λ body. tested why.KeyLength (nat_le (widths keys) 400) >>= λ short. tested
    why.EntryLength (nat_le (widths keys + body) 1000))
body_narrow keys kinds.Int = refl
body_narrow keys (kinds.Text most) = refl
body_narrow keys (kinds.Bytes most) =
    ap (λ (b : Bool). tested why.KeyLength (nat_le (widths keys) 400) >>= λ short. tested
    why.EntryLength b) (le_narrow (widths keys) most)

leaf_narrow : (keys fs : List Field)
    → leaf_row (form_with keys (map narrow_field fs)) ≡ leaf_row (form_with keys fs)
leaf_narrow keys [] = refl
leaf_narrow keys (f ∷ []) = body_narrow keys f.kind
leaf_narrow keys (f ∷ g ∷ fs) = refl

data_narrow : {A : Type 0} (g : Kind → Result A TypeWhy) (o p : Option Kind)
    → ((k : Kind) → g (narrow_kind k) ≡ g k)
    → (data_from o (narrow_option p) >>= g) ≡ (data_from o p >>= g)
unfolding narrow_option
data_narrow g None None same = refl
data_narrow g None (Some k) same = same k
data_narrow g (Some key) p same = refl

any_narrow : {A : Type 0} (g : Kind → Result A TypeWhy) (o p : Option Kind)
    → ((k : Kind) → g (narrow_kind k) ≡ g k)
    → (any_from o (narrow_option p) >>= g) ≡ (any_from o p >>= g)
unfolding narrow_option
any_narrow g None None same = refl
any_narrow g None (Some k) same = same k
any_narrow g (Some key) p same = refl

coded_test : (c : Code) (k : Kind) → is_coded c (narrow_kind k) ≡ is_coded c k
coded_test code.Pack kinds.Int = refl
coded_test code.Pack (kinds.Text most) = refl
coded_test code.Pack (kinds.Bytes most) = refl
coded_test code.Rle kinds.Int = refl
coded_test code.Rle (kinds.Text most) = refl
coded_test code.Rle (kinds.Bytes most) = refl

key_test : (k : Kind) → is_key_kind (narrow_kind k) ≡ is_key_kind k
key_test kinds.Int = refl
key_test (kinds.Text most) = refl
key_test (kinds.Bytes most) = refl

bytes_test : (k : Kind) → is_bytes (narrow_kind k) ≡ is_bytes k
bytes_test kinds.Int = refl
bytes_test (kinds.Text most) = refl
bytes_test (kinds.Bytes most) = refl

bounds_test : (bounds : List Value) (k : Kind)
    → (is_key_kind (narrow_kind k) && list_all (is_bound (narrow_kind k)) bounds)
    ≡ (is_key_kind k && list_all (is_bound k) bounds)
bounds_test bounds kinds.Int = refl
bounds_test bounds (kinds.Text most) = refl
bounds_test bounds (kinds.Bytes most) = refl

is_data_narrow : (f : Form) (name : List ℕ) → is_data (narrow f) name ≡ is_data f name
is_data_narrow f name =
    ap (λ (b : Bool). not (is_some (kind_in f.keys name)) && b)
    (ap is_some (kind_in_narrow f.fields name) ∙ some_narrow (kind_in f.fields name))

are_data_narrow : (f : Form) (names : List (List ℕ)) → are_data (narrow f) names ≡ are_data f names
are_data_narrow f [] = refl
are_data_narrow f (name ∷ names) =
    ap (λ (b : Bool). cond (b && not (has_name names name)) (are_data (narrow f) names) false)
    (is_data_narrow f name)
    ∙ ap (λ (r : Bool). cond (is_data f name && not (has_name names name)) r false)
    (are_data_narrow f names)

leaves_narrow : (fs : List Field) (names : List (List ℕ))
    → leaves_some (map narrow_field fs) names ≡ leaves_some fs names
leaves_narrow [] names = refl
leaves_narrow (f ∷ fs) names =
    ap (λ (r : Bool). not (has_name names f.name) || r) (leaves_narrow fs names)

one_narrow : (fs : List Field) → one_bytes (map narrow_field fs) ≡ one_bytes fs
one_narrow [] = refl
one_narrow (f ∷ []) = bytes_test f.kind
one_narrow (f ∷ g ∷ fs) = refl

abbrev bounded : List Value → ℕ → Kind → Result (Unit {0}) TypeWhy
bounded bounds kids kind =
    tested why.FieldKind (is_key_kind kind && list_all (is_bound kind) bounds) >>= λ fitting. tested
    why.Bounds (ascends bounds) >>= λ ordered. tested why.Children (kids == suc (length bounds))

row_narrow : (top : Head) (f : Form) (kids : ℕ) → row top (narrow f) kids ≡ row top f kids
row_narrow (heads.Leaf kind) f kids = leaf_narrow f.keys f.fields
row_narrow heads.Actual f kids = refl
row_narrow (heads.Encode name code) f kids =
    ap (λ (o : Option Kind). data_from (kind_in f.keys name) o >>= λ kind. tested why.FieldKind
    (is_coded code kind)) (kind_in_narrow f.fields name)
    ∙ data_narrow (λ kind. tested why.FieldKind (is_coded code kind)) (kind_in f.keys name)
    (kind_in f.fields name) (λ k. ap (tested why.FieldKind) (coded_test code k))
row_narrow (heads.Segment names) f kids =
    ap (λ (b : Bool). tested why.FieldName b >>= λ named. tested why.Groups
    (leaves_some (map narrow_field f.fields) names)) (are_data_narrow f names)
    ∙ ap (λ (b : Bool). tested why.FieldName (are_data f names) >>= λ named. tested why.Groups b)
    (leaves_narrow f.fields names)
row_narrow heads.Transpose f kids =
    ap (λ (n : ℕ). tested why.Children (nat_lt 0 n && kids == n)) (length-map f.fields narrow_field)
row_narrow (heads.Partition name bounds) f kids =
    ap (λ (o : Option Kind). any_from (kind_in f.keys name) o >>= bounded bounds kids)
    (kind_in_narrow f.fields name)
    ∙ any_narrow (bounded bounds kids) (kind_in f.keys name) (kind_in f.fields name)
    (λ k. ap (λ (b : Bool). tested why.FieldKind b >>= λ fitting. tested why.Bounds
    (ascends bounds) >>= λ ordered. tested why.Children (kids == suc (length bounds)))
    (bounds_test bounds k))
row_narrow (heads.Divide size) f kids = ap (tested why.OneBytes) (one_narrow f.fields)
row_narrow (heads.Index name) f kids =
    ap (λ (o : Option Kind). data_from (kind_in f.keys name) o >>= λ kind. tested why.FieldKind
    (is_key_kind kind)) (kind_in_narrow f.fields name)
    ∙ data_narrow (λ kind. tested why.FieldKind (is_key_kind kind)) (kind_in f.keys name)
    (kind_in f.fields name) (λ k. ap (tested why.FieldKind) (key_test k))

-- ---- the forms of children

coded_again : (c : Code) (k : Kind)
    → narrow_kind (coded_kind c (narrow_kind k)) ≡ narrow_kind (coded_kind c k)
coded_again code.Pack k = refl
coded_again code.Rle kinds.Int = refl
coded_again code.Rle (kinds.Text most) = refl
coded_again code.Rle (kinds.Bytes most) = narrow_again (kinds.Bytes most)

coded_narrow : (name : List ℕ) (c : Code) (f : Field)
    → narrow_field (coded_field name c (narrow_field f)) ≡ narrow_field (coded_field name c f)
coded_narrow name c f =
    elim (pointwise nat_eq f.name name) as
    (λ b. narrow_field (cond b (field f.name (coded_kind c (narrow_kind f.kind)))
    (narrow_field f)) ≡ narrow_field (cond b (field f.name (coded_kind c f.kind)) f)) [
      | true ↦ ap (field f.name) (coded_again c f.kind)
      | false ↦ ap (field f.name) (narrow_again f.kind)
    ]

all_coded : (name : List ℕ) (c : Code) (fs : List Field)
    → map narrow_field (map (coded_field name c) (map narrow_field fs)) ≡ map narrow_field
    (map (coded_field name c) fs)
all_coded name c [] = refl
all_coded name c (f ∷ fs) =
    ap (λ (g : Field). g ∷ map narrow_field (map (coded_field name c) (map narrow_field fs)))
    (coded_narrow name c f)
    ∙ ap (λ (gs : List Field). narrow_field (coded_field name c f) ∷ gs) (all_coded name c fs)

-- a choice of fields by their names
chosen : (p : List ℕ → Bool) (fs : List Field)
    → map narrow_field (filter (λ f. p f.name) (map narrow_field fs)) ≡ map narrow_field
    (filter (λ f. p f.name) fs)
chosen p [] = refl
chosen p (f ∷ fs) =
    elim (p f.name) as (λ b. map narrow_field
    (cond b (narrow_field f ∷ filter (λ g. p g.name) (map narrow_field fs))
    (filter (λ g. p g.name) (map narrow_field fs))) ≡ map narrow_field
    (cond b (f ∷ filter (λ g. p g.name) fs) (filter (λ g. p g.name) fs))) [
      | true ↦ ap (λ (k : Kind). field f.name k ∷ map narrow_field
          (filter (λ g. p g.name) (map narrow_field fs))) (narrow_again f.kind)
          ∙ ap (λ (gs : List Field). narrow_field f ∷ gs) (chosen p fs)
      | false ↦ chosen p fs
    ]

at_narrow : (fs : List Field) (i : ℕ)
    → narrow_field (slice_index_or (map narrow_field fs) i (field [] kinds.Int)) ≡ narrow_field
    (slice_index_or fs i (field [] kinds.Int))
at_narrow [] i = refl
at_narrow (f ∷ fs) zero = ap (field f.name) (narrow_again f.kind)
at_narrow (f ∷ fs) (suc i) = at_narrow fs i

index_narrow : (o : Option Kind) → index_kind (narrow_option o) ≡ index_kind o
unfolding narrow_option
index_narrow None = refl
index_narrow (Some kinds.Int) = refl
index_narrow (Some (kinds.Text most)) = refl
index_narrow (Some (kinds.Bytes most)) = refl

abbrev with_fields : Form → List Field → Form
with_fields form fs = record { keys = form.keys; fields = fs }

kid_narrow : (top : Head) (f : Form) (i : ℕ)
    → narrow (kid_form top (narrow f) i) ≡ narrow (kid_form top f i)
kid_narrow (heads.Leaf kind) f i = form_again f
kid_narrow heads.Actual f i =
    ap (λ (n : ℕ). with_fields f (field (codes "_body") (kinds.Bytes n) ∷ []))
    (widths_narrow f.fields)
kid_narrow (heads.Encode name code) f i = ap (with_fields f) (all_coded name code f.fields)
kid_narrow (heads.Segment names) f zero = ap (with_fields f) (chosen (has_name names) f.fields)
kid_narrow (heads.Segment names) f (suc i) =
    ap (with_fields f) (chosen (λ name. not (has_name names name)) f.fields)
kid_narrow heads.Transpose f i = ap (λ (g : Field). with_fields f (g ∷ [])) (at_narrow f.fields i)
kid_narrow (heads.Partition name bounds) f i = form_again f
kid_narrow (heads.Divide size) f i = refl
kid_narrow (heads.Index name) f zero = form_again f
kid_narrow (heads.Index name) f (suc i) =
    ap (λ (k : Kind). form_with (field name k ∷ f.keys) [])
    (ap index_kind (kind_in_narrow f.fields name) ∙ index_narrow (kind_in f.fields name))

-- ---- typing

same_behind : {A B : Type 0} (r : Result A Mistake) (f g : A → Result B Mistake)
    → ((x : A) → f x ≡ g x) → (r >>= f) ≡ (r >>= g)
same_behind (Ok x) f g same = same x
same_behind (Err e) f g same = refl

head_narrow : (owner : ℕ) (top : Head) (f : Form) (typing : Typing)
    → with_head owner top (narrow f) typing ≡ with_head owner top f typing
head_narrow owner (heads.Leaf kind) f typing = refl
head_narrow owner heads.Actual f typing = refl
head_narrow owner (heads.Encode name code) f typing = refl
head_narrow owner (heads.Segment names) f typing = refl
head_narrow owner heads.Transpose f typing = refl
head_narrow owner (heads.Partition name bounds) f typing = refl
head_narrow owner (heads.Divide size) f typing = refl
head_narrow owner (heads.Index name) f typing = refl

mutual
  typed_narrow : (owner : ℕ) (f : Form) (t : TermTree) (lines : List ℕ) (typing : Typing)
      → typed_at owner (narrow f) t lines typing ≡ typed_at owner f t lines typing
  typed_narrow owner f (node top kids) lines typing =
      ap (λ (r : Result (Unit {0}) TypeWhy). at lines r >>= λ met. at lines
      (with_head owner top (narrow f) typing) >>= λ more. kids_typed owner
      (kid_form top (narrow f)) 0 kids (other_lines lines) more) (row_narrow top f (count kids))
      ∙ ap (λ (r : Result Typing TypeWhy). at lines (row top f (count kids)) >>= λ met. at lines r
      >>= λ more. kids_typed owner (kid_form top (narrow f)) 0 kids (other_lines lines) more)
      (head_narrow owner top f typing)
      ∙ same_behind (at lines (row top f (count kids))) _ _
      (λ met. same_behind (at lines (with_head owner top f typing)) _ _
      (λ more. kids_narrow owner (kid_form top (narrow f)) (kid_form top f) 0 kids
      (other_lines lines) more (kid_narrow top f)))

  kids_narrow : (owner : ℕ) (g h : ℕ → Form) (i : ℕ) (ts : Trees) (lines : List ℕ) (typing : Typing)
      → ((j : ℕ) → narrow (g j) ≡ narrow (h j))
      → kids_typed owner g i ts lines typing ≡ kids_typed owner h i ts lines typing
  kids_narrow owner g h i none lines typing same = refl
  kids_narrow owner g h i (kid t ts) lines typing same =
      ap (λ (r : Result (List ℕ × Typing) Mistake). r >>= λ x. kids_typed owner g
      (suc i) ts x.0 x.1)
      (sym (typed_narrow owner (g i) t lines typing)
      ∙ ap (λ (form : Form). typed_at owner form t lines typing) (same i)
      ∙ typed_narrow owner (h i) t lines typing)
      ∙ same_behind (typed_at owner (h i) t lines typing) _ _
      (λ x. kids_narrow owner g h (suc i) ts x.0 x.1 same)

-- forms of which a program keeps the same
pub typed_same : (owner : ℕ) (f g : Form) (t : TermTree) (lines : List ℕ) (typing : Typing)
    → narrow f ≡ narrow g → typed_at owner f t lines typing ≡ typed_at owner g t lines typing
typed_same owner f g t lines typing same =
    sym (typed_narrow owner f t lines typing)
    ∙ ap (λ (form : Form). typed_at owner form t lines typing) same
    ∙ typed_narrow owner g t lines typing
