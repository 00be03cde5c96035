-- The tests of a head are passed exactly where its condition is met.
use Rattle.std.proofs.Common.{◌≡◌, ℕ, suc, ◌+◌, ◌<◌, ◌⊎◌, cond, Bool, true, false, List, [], ◌∷◌, length, Option, Some, None, Result, Ok, Err, refl, sym, ap, inl, inr, ◌∙◌, arith}
use Rattle.std.specs.Prelude.{nat_le, nat_lt, not, ◌&&◌, ◌||◌, ◌==◌, is_some, filter}
use Rattle.std.specs.List.{list_all, list_any, AllByRecursion}
use Rattle.std.specs.Ordering.{is_lt}
use Rattle.std.proofs.lemmas.Bool.Decides.{nat_tests}
use Rattle.std.proofs.lemmas.Bool.{and_parts}
use Rattle.gx_laws.proofs.OrderingLemmas.{less_from_lt}
use Rattle.gx_laws.proofs.NumberLemmas.{same_number, at_most_from_nat_le, nat_le_from_at_most}
use Rattle.gx_values.specs.Keys.{widths, IsKeyKind}
use Rattle.gx_values.specs.Values.{value_cmp, is_printable, is_bytes, kind_in}
use Rattle.gx_values.specs.declared.values.Code.{Code}
use Rattle.gx_values.specs.declared.values.Code.TheVariants as code
use Rattle.gx_values.specs.declared.values.Kind.{Kind}
use Rattle.gx_values.specs.declared.values.Kind.TheVariants as kinds
use Rattle.gx_values.specs.declared.values.Value.{Value}
use Rattle.gx_values.specs.declared.values.Value.TheVariants as values
use Rattle.gx_values.specs.declared.records.Field.{Field}
use Rattle.gx_values.specs.declared.records.Form.{Form}
use Rattle.gx_equation.specs.declared.heads.Head.{Head}
use Rattle.gx_equation.specs.declared.heads.Head.TheVariants as heads
use Rattle.gx_typing.specs.declared.reasons.TypeWhy.{TypeWhy}
use Rattle.gx_typing.specs.declared.reasons.TypeWhy.TheVariants as why
use Rattle.gx_forms.specs.Fields.{has_name}
use Rattle.gx_typing.specs.Conditions.{is_key_kind, is_coded, is_bound, is_data, are_data, ascends, leaves_some}
use Rattle.gx_typing.specs.Rows.{◌>>=◌, tested, data_from, any_from, data_kind, any_kind, body_of, leaf_body, one_bytes, row}
use Rattle.gx_typing.specs.Typed.{IsDataField, IsField, AreDataFields, IsCodeFor, IsBoundFor, AscendStrictly, IsLeafData, IsOneBytes, IsMet}

-- ---- steps

pub behind_ok : {A B E : Type 0} (r : Result A E) (f : A → Result B E) (y : B) → (r >>= f) ≡ Ok y
    → (x : A) × (r ≡ Ok x) × (f x ≡ Ok y)
behind_ok (Ok x) f y h = (x, refl, h)
behind_ok (Err e) f y h = absurd cc

pub ok_behind : {A B E : Type 0} (r : Result A E) (f : A → Result B E) (x : A) (y : Result B E)
    → r ≡ Ok x → f x ≡ y → (r >>= f) ≡ y
ok_behind r f x y is goes = ap (λ s. s >>= f) is ∙ goes

pub tested_ok : (reason : TypeWhy) (b : Bool) (u : Unit {0}) → tested reason b ≡ Ok u → b ≡ true
tested_ok reason true u h = refl
tested_ok reason false u h = absurd cc

pub ok_tested : (reason : TypeWhy) (b : Bool) → b ≡ true → tested reason b ≡ Ok tt
ok_tested reason true is = refl
ok_tested reason false is = absurd cc

true_both : (a b : Bool) → a ≡ true → b ≡ true → (a && b) ≡ true
true_both true b is h = h
true_both false b is h = absurd cc

not_true : (b : Bool) → not b ≡ true → b ≡ false
not_true true h = absurd cc
not_true false h = refl

true_not : (b : Bool) → b ≡ false → not b ≡ true
true_not true h = absurd cc
true_not false h = refl

-- a test, and then what follows it
then_true : (a b : Bool) → cond a b false ≡ true → (a ≡ true) × (b ≡ true)
then_true true b h = (refl, h)
then_true false b h = absurd cc

true_then : (a b : Bool) → a ≡ true → b ≡ true → cond a b false ≡ true
true_then true b is h = h
true_then false b is h = absurd cc

-- ---- fields by their names

data_ok : (o p : Option Kind) (kind : Kind) → data_from o p ≡ Ok kind → (o ≡ None) × (p ≡ Some kind)
data_ok None None kind h = absurd cc
data_ok None (Some k) kind h = (refl, cc)
data_ok (Some key) p kind h = absurd cc

ok_data : (o p : Option Kind) (kind : Kind) → o ≡ None → p ≡ Some kind → data_from o p ≡ Ok kind
ok_data None None kind h is = absurd cc
ok_data None (Some k) kind h is = cc
ok_data (Some key) p kind h is = absurd cc

any_ok : (o p : Option Kind) (kind : Kind) → any_from o p ≡ Ok kind
    → (o ≡ Some kind) ⊎ ((o ≡ None) × (p ≡ Some kind))
any_ok None None kind h = absurd cc
any_ok None (Some k) kind h = inr (refl, cc)
any_ok (Some key) p kind h = inl cc

ok_any : (o p : Option Kind) (kind : Kind) → o ≡ Some kind → any_from o p ≡ Ok kind
ok_any None p kind h = absurd cc
ok_any (Some key) p kind h = cc

field_found : (form : Form) (name : List ℕ) (kind : Kind) → data_kind form name ≡ Ok kind
    → IsDataField form name kind
field_found form name kind h = let d =
    data_ok (kind_in form.keys name) (kind_in form.fields name) kind h in
    record { no_key = d.0; is = d.1 }

field_again : (form : Form) (name : List ℕ) (kind : Kind) → IsDataField form name kind
    → data_kind form name ≡ Ok kind
field_again form name kind d =
    ok_data (kind_in form.keys name) (kind_in form.fields name) kind d.no_key d.is

any_found : (form : Form) (name : List ℕ) (kind : Kind) → any_kind form name ≡ Ok kind
    → IsField form name kind
any_found form name kind h =
    elim (any_ok (kind_in form.keys name) (kind_in form.fields name) kind h) [
      | inl is ↦ inl is
      | inr d ↦ inr (record { no_key = d.0; is = d.1 })
    ]

none_then : (o p : Option Kind) → o ≡ None → any_from o p ≡ data_from o p
none_then None p h = refl
none_then (Some key) p h = absurd cc

any_again : (form : Form) (name : List ℕ) (kind : Kind) → IsField form name kind
    → any_kind form name ≡ Ok kind
any_again form name kind (inl is) =
    ok_any (kind_in form.keys name) (kind_in form.fields name) kind is
any_again form name kind (inr d) =
    none_then (kind_in form.keys name) (kind_in form.fields name) d.no_key
    ∙ field_again form name kind d

is_data_ok : (o p : Option Kind) → (not (is_some o) && is_some p) ≡ true
    → (kind : Kind) × (o ≡ None) × (p ≡ Some kind)
is_data_ok None None h = absurd cc
is_data_ok None (Some k) h = (k, refl, refl)
is_data_ok (Some key) p h = absurd cc

ok_is_data : (o p : Option Kind) (kind : Kind) → o ≡ None → p ≡ Some kind
    → (not (is_some o) && is_some p) ≡ true
ok_is_data None None kind h is = absurd cc
ok_is_data None (Some k) kind h is = refl
ok_is_data (Some key) p kind h is = absurd cc

names_found : (form : Form) (names : List (List ℕ)) → are_data form names ≡ true
    → AreDataFields form names
names_found form [] h = tt
names_found form (name ∷ names) h =
    let both = then_true (is_data form name && not (has_name names name)) (are_data form names) h in
    let here = and_parts (is_data form name) (not (has_name names name)) both.0 in
    let d = is_data_ok (kind_in form.keys name) (kind_in form.fields name) here.0 in (
      (d.0, record { no_key = d.1; is = d.2 }),
      not_true (has_name names name) here.1,
      names_found form names both.1,
    )

names_again : (form : Form) (names : List (List ℕ)) → AreDataFields form names
    → are_data form names ≡ true
names_again form [] h = refl
names_again form (name ∷ names) h =
    true_then (is_data form name && not (has_name names name)) (are_data form names)
    (true_both (is_data form name) (not (has_name names name))
    (ok_is_data (kind_in form.keys name) (kind_in form.fields name) h.0.0 h.0.1.no_key h.0.1.is)
    (true_not (has_name names name) h.1))
    (names_again form names h.2)

any_filter : {X : Type 0} (p : X → Bool) (xs : List X) → list_any p xs ≡ true
    → 0 < length (filter p xs)
any_filter p [] h = absurd cc
any_filter p (x ∷ xs) h =
    elim (p x) as (λ b. (b || list_any p xs) ≡ true
    → 0 < length (cond b (x ∷ filter p xs) (filter p xs))) [
      | true ↦ λ e. omega arith
      | false ↦ λ e. any_filter p xs e
    ] h

filter_any : {X : Type 0} (p : X → Bool) (xs : List X) → 0 < length (filter p xs)
    → list_any p xs ≡ true
filter_any p [] h = absurd (omega arith)
filter_any p (x ∷ xs) h =
    elim (p x) as (λ b. 0 < length (cond b (x ∷ filter p xs) (filter p xs))
    → (b || list_any p xs) ≡ true) [
      | true ↦ λ e. refl
      | false ↦ λ e. filter_any p xs e
    ] h

-- ---- kinds and bounds

key_kind_ok : (k : Kind) → is_key_kind k ≡ true → IsKeyKind k
key_kind_ok kinds.Int h = tt
key_kind_ok (kinds.Text most) h = tt
key_kind_ok (kinds.Bytes most) h = absurd cc

ok_key_kind : (k : Kind) → IsKeyKind k → is_key_kind k ≡ true
ok_key_kind kinds.Int h = refl
ok_key_kind (kinds.Text most) h = refl
ok_key_kind (kinds.Bytes most) h = absurd h

code_ok : (c : Code) (k : Kind) → is_coded c k ≡ true → IsCodeFor c k
code_ok code.Pack kinds.Int h = tt
code_ok code.Pack (kinds.Text most) h = absurd cc
code_ok code.Pack (kinds.Bytes most) h = absurd cc
code_ok code.Rle kinds.Int h = absurd cc
code_ok code.Rle (kinds.Text most) h = tt
code_ok code.Rle (kinds.Bytes most) h = absurd cc

ok_code : (c : Code) (k : Kind) → IsCodeFor c k → is_coded c k ≡ true
ok_code code.Pack kinds.Int h = refl
ok_code code.Pack (kinds.Text most) h = absurd h
ok_code code.Pack (kinds.Bytes most) h = absurd h
ok_code code.Rle kinds.Int h = absurd h
ok_code code.Rle (kinds.Text most) h = refl
ok_code code.Rle (kinds.Bytes most) h = absurd h

bound_ok : (k : Kind) (v : Value) → is_bound k v ≡ true → IsBoundFor k v
bound_ok kinds.Int (values.Int n) h = tt
bound_ok kinds.Int (values.Text text) h = absurd cc
bound_ok kinds.Int (values.Bytes bytes) h = absurd cc
bound_ok (kinds.Text most) (values.Int n) h = absurd cc
bound_ok (kinds.Text most) (values.Text text) h =
    let both = and_parts (nat_le (length text) most) (list_all is_printable text) h in
    (at_most_from_nat_le (length text) most both.0, both.1)
bound_ok (kinds.Text most) (values.Bytes bytes) h = absurd cc
bound_ok (kinds.Bytes most) v h = absurd cc

ok_bound : (k : Kind) (v : Value) → IsBoundFor k v → is_bound k v ≡ true
ok_bound kinds.Int (values.Int n) h = refl
ok_bound kinds.Int (values.Text text) h = absurd h
ok_bound kinds.Int (values.Bytes bytes) h = absurd h
ok_bound (kinds.Text most) (values.Int n) h = absurd h
ok_bound (kinds.Text most) (values.Text text) h =
    true_both (nat_le (length text) most) (list_all is_printable text)
    (nat_le_from_at_most (length text) most h.0) h.1
ok_bound (kinds.Text most) (values.Bytes bytes) h = absurd h
ok_bound (kinds.Bytes most) v h = absurd h

bounds_ok : (k : Kind) (bounds : List Value) → list_all (is_bound k) bounds ≡ true
    → AllByRecursion (IsBoundFor k) bounds
bounds_ok k [] h = tt
bounds_ok k (v ∷ vs) h = let both = and_parts (is_bound k v) (list_all (is_bound k) vs) h in
    (bound_ok k v both.0, bounds_ok k vs both.1)

ok_bounds : (k : Kind) (bounds : List Value) → AllByRecursion (IsBoundFor k) bounds
    → list_all (is_bound k) bounds ≡ true
ok_bounds k [] h = refl
ok_bounds k (v ∷ vs) h =
    true_both (is_bound k v) (list_all (is_bound k) vs) (ok_bound k v h.0) (ok_bounds k vs h.1)

ascends_ok : (bounds : List Value) → ascends bounds ≡ true → AscendStrictly bounds
ascends_ok [] h = tt
ascends_ok (b ∷ []) h = tt
ascends_ok (b ∷ c ∷ bs) h = let both = then_true (is_lt (value_cmp b c)) (ascends (c ∷ bs)) h in
    (less_from_lt (value_cmp b c) both.0, ascends_ok (c ∷ bs) both.1)

ok_ascends : (bounds : List Value) → AscendStrictly bounds → ascends bounds ≡ true
ok_ascends [] h = refl
ok_ascends (b ∷ []) h = refl
ok_ascends (b ∷ c ∷ bs) h =
    true_then (is_lt (value_cmp b c)) (ascends (c ∷ bs)) (ap is_lt h.0) (ok_ascends (c ∷ bs) h.1)

-- ---- leaves and bytes

body_ok : (k : Kind) (n : ℕ) → body_of k ≡ Ok n → k ≡ kinds.Bytes n
body_ok kinds.Int n h = absurd cc
body_ok (kinds.Text most) n h = absurd cc
body_ok (kinds.Bytes most) n h = cc

data_found : (fs : List Field) (n : ℕ) → leaf_body fs ≡ Ok n → IsLeafData fs n
data_found [] n h = cc
data_found (f ∷ []) n h = body_ok f.kind n h
data_found (f ∷ g ∷ fs) n h = absurd cc

data_again : (fs : List Field) (n : ℕ) → IsLeafData fs n → leaf_body fs ≡ Ok n
data_again [] n h = ap Ok (sym h)
data_again (f ∷ []) n h = ap body_of h
data_again (f ∷ g ∷ fs) n h = absurd h

bytes_ok : (k : Kind) → is_bytes k ≡ true → (n : ℕ) × (k ≡ kinds.Bytes n)
bytes_ok kinds.Int h = absurd cc
bytes_ok (kinds.Text most) h = absurd cc
bytes_ok (kinds.Bytes most) h = (most, refl)

one_ok : (fs : List Field) → one_bytes fs ≡ true → IsOneBytes fs
one_ok [] h = absurd cc
one_ok (f ∷ []) h = bytes_ok f.kind h
one_ok (f ∷ g ∷ fs) h = absurd cc

ok_one : (fs : List Field) → IsOneBytes fs → one_bytes fs ≡ true
ok_one [] h = absurd h
ok_one (f ∷ []) h = ap is_bytes h.1
ok_one (f ∷ g ∷ fs) h = absurd h

-- ---- heads

some_each : (n kids : ℕ) → (nat_lt 0 n && kids == n) ≡ true → (0 < n) × (kids ≡ n)
some_each n kids h = let both = and_parts (nat_lt 0 n) (kids == n) h in
    (positive n both.0, same kids n both.1)
  where
    positive : (n : ℕ) → nat_lt 0 n ≡ true → 0 < n
    positive n e = grind (arith, nat_tests)

    same : (a b : ℕ) → (a == b) ≡ true → a ≡ b
    same a b e = grind (arith, nat_tests)

each_some : (n kids : ℕ) → 0 < n → kids ≡ n → (nat_lt 0 n && kids == n) ≡ true
each_some n kids some each = grind (arith, nat_tests)

equal_ok : (a b : ℕ) → (a == b) ≡ true → a ≡ b
equal_ok a b e = grind (arith, nat_tests)

pub row_found : (top : Head) (form : Form) (kids : ℕ) (u : Unit {0}) → row top form kids ≡ Ok u
    → IsMet top form kids
row_found (heads.Leaf kind) form kids u h =
    let body = behind_ok (leaf_body form.fields) _ _ h in
    let key = behind_ok (tested why.KeyLength (nat_le (widths form.keys) 400)) _ _ body.2 in
    record {
      bytes = body.0;
      fields = data_found form.fields body.0 body.1;
      key = at_most_from_nat_le (widths form.keys) 400
          (tested_ok why.KeyLength (nat_le (widths form.keys) 400) key.0 key.1);
      entry = at_most_from_nat_le (widths form.keys + body.0) 1000
          (tested_ok why.EntryLength (nat_le (widths form.keys + body.0) 1000) u key.2);
    }
row_found heads.Actual form kids u h = tt
row_found (heads.Encode name code) form kids u h =
    let k = behind_ok (data_kind form name) _ _ h in
    record {
      kind = k.0;
      field = field_found form name k.0 k.1;
      coded = code_ok code k.0 (tested_ok why.FieldKind (is_coded code k.0) u k.2);
    }
row_found (heads.Segment names) form kids u h =
    let n = behind_ok (tested why.FieldName (are_data form names)) _ _ h in
    record {
      named = names_found form names (tested_ok why.FieldName (are_data form names) n.0 n.1);
      others = any_filter (λ f. not (has_name names f.name)) form.fields
          (tested_ok why.Groups (leaves_some form.fields names) u n.2);
    }
row_found heads.Transpose form kids u h =
    let both = some_each (length form.fields) kids
    (tested_ok why.Children (nat_lt 0 (length form.fields) && kids == length form.fields) u h)
    in
    record { some = both.0; each = both.1 }
row_found (heads.Partition name bounds) form kids u h =
    let k = behind_ok (any_kind form name) _ _ h in
    let fitting = behind_ok
    (tested why.FieldKind (is_key_kind k.0 && list_all (is_bound k.0) bounds)) _ _ k.2 in
    let ordered = behind_ok (tested why.Bounds (ascends bounds)) _ _ fitting.2 in
    let both = and_parts (is_key_kind k.0) (list_all (is_bound k.0) bounds)
    (tested_ok why.FieldKind (is_key_kind k.0 && list_all (is_bound k.0) bounds) fitting.0
    fitting.1) in
    record {
      kind = k.0;
      field = any_found form name k.0 k.1;
      key_kind = key_kind_ok k.0 both.0;
      fit = bounds_ok k.0 bounds both.1;
      ascend = ascends_ok bounds (tested_ok why.Bounds (ascends bounds) ordered.0 ordered.1);
      each = equal_ok kids (suc (length bounds))
          (tested_ok why.Children (kids == suc (length bounds)) u ordered.2);
    }
row_found (heads.Divide size) form kids u h =
    one_ok form.fields (tested_ok why.OneBytes (one_bytes form.fields) u h)
row_found (heads.Index name) form kids u h =
    let k = behind_ok (data_kind form name) _ _ h in
    record {
      kind = k.0;
      field = field_found form name k.0 k.1;
      key_kind = key_kind_ok k.0 (tested_ok why.FieldKind (is_key_kind k.0) u k.2);
    }

pub row_again : (top : Head) (form : Form) (kids : ℕ) → IsMet top form kids
    → row top form kids ≡ Ok tt
row_again (heads.Leaf kind) form kids m =
    ok_behind (leaf_body form.fields) _ m.bytes _ (data_again form.fields m.bytes m.fields)
    (ok_behind (tested why.KeyLength (nat_le (widths form.keys) 400)) _ tt _
    (ok_tested why.KeyLength (nat_le (widths form.keys) 400)
    (nat_le_from_at_most (widths form.keys) 400 m.key))
    (ok_tested why.EntryLength (nat_le (widths form.keys + m.bytes) 1000)
    (nat_le_from_at_most (widths form.keys + m.bytes) 1000 m.entry)))
row_again heads.Actual form kids m = refl
row_again (heads.Encode name code) form kids m =
    ok_behind (data_kind form name) _ m.kind _ (field_again form name m.kind m.field)
    (ok_tested why.FieldKind (is_coded code m.kind) (ok_code code m.kind m.coded))
row_again (heads.Segment names) form kids m =
    ok_behind (tested why.FieldName (are_data form names)) _ tt _
    (ok_tested why.FieldName (are_data form names) (names_again form names m.named))
    (ok_tested why.Groups (leaves_some form.fields names)
    (filter_any (λ f. not (has_name names f.name)) form.fields m.others))
row_again heads.Transpose form kids m =
    ok_tested why.Children (nat_lt 0 (length form.fields) && kids == length form.fields)
    (each_some (length form.fields) kids m.some m.each)
row_again (heads.Partition name bounds) form kids m =
    ok_behind (any_kind form name) _ m.kind _ (any_again form name m.kind m.field)
    (ok_behind (tested why.FieldKind (is_key_kind m.kind && list_all (is_bound m.kind) bounds)) _
    tt _
    (ok_tested why.FieldKind (is_key_kind m.kind && list_all (is_bound m.kind) bounds)
    (true_both (is_key_kind m.kind) (list_all (is_bound m.kind) bounds)
    (ok_key_kind m.kind m.key_kind) (ok_bounds m.kind bounds m.fit)))
    (ok_behind (tested why.Bounds (ascends bounds)) _ tt _
    (ok_tested why.Bounds (ascends bounds) (ok_ascends bounds m.ascend))
    (ok_tested why.Children (kids == suc (length bounds))
    (same_number kids (suc (length bounds)) m.each))))
row_again (heads.Divide size) form kids m =
    ok_tested why.OneBytes (one_bytes form.fields) (ok_one form.fields m)
row_again (heads.Index name) form kids m =
    ok_behind (data_kind form name) _ m.kind _ (field_again form name m.kind m.field)
    (ok_tested why.FieldKind (is_key_kind m.kind) (ok_key_kind m.kind m.key_kind))
