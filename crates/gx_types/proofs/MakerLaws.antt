-- The forms of files and of links are kept from the start, and the makers of mappings can take what
-- is kept.
use Rattle.std.proofs.Common.{◌≡◌, ℕ, zero, suc, ◌+◌, ◌*◌, ◌<◌, ◌≤◌, Bool, true, false, List, [], ◌∷◌, ◌++◌, length, refl, sym, ap, subst, ◌∙◌, arith}
use Rattle.std.specs.Prelude.{◌||◌, ◌==◌, max, nat_eq, slice_index_or}
use Rattle.std.specs.List.{AllByRecursion}
use Rattle.std.specs.Cmp.Lexicographic.{pointwise, bytes_decides}
use Rattle.std.proofs.lemmas.Bool.{true≢false}
use Rattle.gx_values.specs.Keys.{key_of, width_of, widths, IsKeyKind}
use Rattle.gx_values.specs.Values.{Fits, no_field, is_bytes}
use Rattle.gx_values.specs.declared.values.Code.{Code}
use Rattle.gx_values.specs.declared.values.Code.TheVariants as code
use Rattle.gx_values.specs.declared.values.Kind.{Kind}
use Rattle.gx_values.specs.declared.values.Kind.TheVariants as kinds
use Rattle.gx_values.specs.declared.values.Value.{Value}
use Rattle.gx_values.specs.declared.records.Field.{Field}
use Rattle.gx_values.specs.declared.records.Form.{Form}
use Rattle.gx_values.specs.declared.records.Rec.{Rec}
use Rattle.gx_values.proofs.KeyLemmas.{fit_key}
use Rattle.gx_mapping.specs.Rule.{IsOf, is_field, first_in}
use Rattle.gx_schema.specs.declared.schema.FileDef.{FileDef}
use Rattle.gx_schema.specs.Rules.{IsKind, AreFields}
use Rattle.gx_schema.proofs.WellFormedLaws.{fields_few}
use Rattle.gx_actual.specs.Bodies.{body_of, IsShortText, AreShortTexts}
use Rattle.gx_actual.specs.Laws.{body_width}
use Rattle.gx_encode.specs.Codes.{IsCodeKind}
use Rattle.gx_divide.specs.Forms.{is_bytes_form, most_of, most_in}
use Rattle.gx_partition.specs.Bounds.{IsPartition}
use Rattle.gx_partition.specs.Places.{kind_at, IsPlace}
use Rattle.gx_partition.specs.declared.place.Where.{Where}
use Rattle.gx_partition.specs.declared.place.Where.TheVariants.{Key, Rest}
use Rattle.gx_equation.specs.declared.heads.Head.{Head}
use Rattle.gx_equation.specs.declared.heads.Head.TheVariants as heads
use Rattle.gx_equation.specs.declared.heads.Linkset.{Linkset}
use Rattle.gx_equation.specs.declared.heads.Linkset.TheVariants as linksets
use Rattle.gx_equation.specs.Printing.{IsBound, IsCount, IsTerm, IsSide}
use Rattle.gx_equation.specs.Trees.{TermTree, Trees, node, none, kid, kids_from, list_of, arity, link_side}
use Rattle.gx_equation.proofs.TermsFound.{list_from}
use Rattle.gx_types.specs.Build.{leaf_count, leaf_counts, IsReady, AreReady}
use Rattle.gx_typing.specs.Dues.{file_form}
use Rattle.gx_forms.specs.Forms.{link_form}
use Rattle.gx_types.specs.FileForms.{IsLimited, AreLimited, AreDistinct, room_of, rooms, IsFileForm}
use Rattle.gx_types.specs.HeadRules.{place_in}
use Rattle.gx_types.specs.Makers.{kind_of, CanMake}
use Rattle.gx_typing.specs.Places.{leaves_at}
use Rattle.gx_typing.specs.Typed.{IsCodeFor, IsOneBytes, IsPartitioned, IsTypedTerm, AreTypedTerms}
use Rattle.gx_typing.specs.Typing.{count}
use Rattle.gx_types.proofs.FormLaws.{body_room, count_list, keys_narrow, one_limited}
use Rattle.gx_types.proofs.HeadLaws.{place_is, typed_kind}
use Rattle.gx_types.proofs.ReadyLaws.{within, kind_is, bounds_fit, sorted_bounds}

-- ---- the forms of files

kind_key : (first : Bool) (k : Kind) → IsKind first k → IsKeyKind k
kind_key first kinds.Int is = tt
kind_key first (kinds.Text n) is = tt
kind_key first (kinds.Bytes n) is = absurd is

kind_limited : (first : Bool) (k : Kind) → IsKind first k → IsLimited k
kind_limited first kinds.Int is = tt
kind_limited first (kinds.Text n) is = is.1
kind_limited first (kinds.Bytes n) is = absurd is

kind_room : (first : Bool) (k : Kind) → IsKind first k → room_of k ≤ 402
kind_room first kinds.Int is = omega arith
kind_room first (kinds.Text n) is = omega (arith, is.1)
kind_room first (kinds.Bytes n) is = absurd is

fields_limited : (before fs : List Field) → AreFields before fs → AreLimited fs
fields_limited before [] are = tt
fields_limited before (f ∷ fs) are = (
  kind_limited (length before == 0) f.kind are.0.kind,
  fields_limited (before ++ f ∷ []) fs are.1,
)

fields_room : (before fs : List Field) → AreFields before fs → rooms fs ≤ 402 * length fs
fields_room before [] are = omega arith
fields_room before (f ∷ fs) are =
    omega (
      arith,
      kind_room (length before == 0) f.kind are.0.kind,
      fields_room (before ++ f ∷ []) fs are.1,
    )

still_there : (before more : List Field) (name : List ℕ) → is_field before name ≡ true
    → is_field (before ++ more) name ≡ true
still_there [] more name h = absurd (true≢false (sym h))
still_there (f ∷ fs) more name h = go (pointwise nat_eq f.name name) h (still_there fs more name)
  where
    go : (b : Bool) → (b || is_field fs name) ≡ true
        → (is_field fs name ≡ true → is_field (fs ++ more) name ≡ true)
        → (b || is_field (fs ++ more) name) ≡ true
    go true e behind = refl
    go false e behind = behind e

last_there : (before : List Field) (f : Field) → is_field (before ++ f ∷ []) f.name ≡ true
last_there [] f = ap (λ (b : Bool). b || false) ((bytes_decides f.name f.name).1 refl)
last_there (g ∷ before) f =
    ap (λ (b : Bool). pointwise nat_eq g.name f.name || b) (last_there before f)
    ∙ always (pointwise nat_eq g.name f.name)
  where
    always : (b : Bool) → (b || true) ≡ true
    always true = refl
    always false = refl

-- a name that stands before is new to none behind
none_behind : (before fs : List Field) (name : List ℕ) → is_field before name ≡ true
    → AreFields before fs → is_field fs name ≡ false
none_behind before [] name there are = refl
none_behind before (f ∷ fs) name there are =
    go (pointwise nat_eq f.name name) refl
    (none_behind (before ++ f ∷ []) fs name (still_there before (f ∷ []) name there) are.1)
  where
    go : (t : Bool) → pointwise nat_eq f.name name ≡ t → is_field fs name ≡ false
        → (pointwise nat_eq f.name name || is_field fs name) ≡ false
    go true e rest = absurd
        (true≢false (sym there ∙ ap (is_field before) (sym ((bytes_decides f.name name).0 e))
        ∙ are.0.new))
    go false e rest = ap (λ (b : Bool). b || is_field fs name) e ∙ rest

fields_distinct : (before fs : List Field) → AreFields before fs → AreDistinct fs
fields_distinct before [] are = tt
fields_distinct before (f ∷ fs) are = (
  none_behind (before ++ f ∷ []) fs f.name (last_there before f) are.1,
  fields_distinct (before ++ f ∷ []) fs are.1,
)

pub file_fits : (file : FileDef) (fs : List Field) → file.fields ≡ fs → AreFields [] fs
    → IsFileForm 16 (file_form file)
file_fits file [] is are =
    subst (λ (gs : List Field). IsFileForm 16
    (file_form (record { name = file.name; fields = gs }))) (sym is)
    (record {
      keys = tt;
      key_texts = tt;
      texts = tt;
      distinct = tt;
      few_fields = omega arith;
      room = omega arith;
    })
file_fits file (f ∷ fs) is are =
    let few : length fs + 1 ≤ 32 = omega (arith, fields_few (f ∷ []) fs are.1 (omega arith)) in
    subst (λ (gs : List Field). IsFileForm 16
    (file_form (record { name = file.name; fields = gs }))) (sym is) (record {
      keys = (kind_key true f.kind are.0.kind, tt);
      key_texts = (kind_limited true f.kind are.0.kind, tt);
      texts = fields_limited (f ∷ []) fs are.1;
      distinct = fields_distinct (f ∷ []) fs are.1;
      few_fields = omega arith;
      room = omega (arith, fields_room (f ∷ []) fs are.1);
    })

-- ---- the forms of links

pub first_width : (k : Kind) → IsKind true k → width_of k ≤ 101
first_width kinds.Int is = omega arith
first_width (kinds.Text n) is = omega (arith, is.2 refl)
first_width (kinds.Bytes n) is = absurd is

pub greater : (a b n : ℕ) → a ≤ n → b ≤ n → max a b ≤ n
greater a b n le also = grind arith

pub link_fits : (linkset : Linkset) (o m : Kind) → IsKind true o → IsKind true m → (i : ℕ)
    → IsFileForm 15 (link_form linkset o m i)
link_fits linksets.Array o m is_o is_m i = record {
  keys = (kind_key true o is_o, tt);
  key_texts = (kind_limited true o is_o, tt);
  texts = (tt, tt);
  distinct = (refl, tt);
  few_fields = omega arith;
  room = omega (arith, first_width m is_m);
}
link_fits linksets.Ring o m is_o is_m zero = record {
  keys = (kind_key true o is_o, tt);
  key_texts = (kind_limited true o is_o, tt);
  texts = (kind_limited true m is_m, tt);
  distinct = (refl, tt);
  few_fields = omega arith;
  room = omega (arith, kind_room true m is_m);
}
link_fits linksets.Ring o m is_o is_m (suc i) = record {
  keys = (kind_key true m is_m, tt);
  key_texts = (kind_limited true m is_m, tt);
  texts = (tt, (tt, (kind_limited true o is_o, tt)));
  distinct = (refl, (refl, (refl, tt)));
  few_fields = omega arith;
  room = omega (
    arith,
    greater (width_of o) (width_of m) 101 (first_width o is_o)
        (first_width m is_m),
    kind_room true o is_o,
  );
}
link_fits linksets.Inverted o m is_o is_m zero = record {
  keys = (kind_key true o is_o, (kind_key true m is_m, tt));
  key_texts = (kind_limited true o is_o, (kind_limited true m is_m, tt));
  texts = tt;
  distinct = tt;
  few_fields = omega arith;
  room = omega arith;
}
link_fits linksets.Inverted o m is_o is_m (suc i) = record {
  keys = (kind_key true m is_m, tt);
  key_texts = (kind_limited true m is_m, tt);
  texts = (kind_limited true o is_o, tt);
  distinct = (refl, tt);
  few_fields = omega arith;
  room = omega (arith, kind_room true o is_o);
}

-- the children of a link's head
pub link_ready : (n : ℕ) (linkset : Linkset) (o m : Kind) (ts : List TermTree) → IsKind true o
    → IsKind true m → IsSide (link_side linkset ts)
    → AreTypedTerms (link_form linkset o m) 0 (kids_from ts)
    → n + leaf_counts (kids_from ts) ≤ 255 → AreReady n (link_form linkset o m) 0 (kids_from ts)
link_ready n linkset o m ts is_o is_m side typed few = record {
  levels = 15;
  few_levels = omega arith;
  terms = subst (AllByRecursion (IsTerm 15)) (sym (list_from ts)) side.1;
  records = λ c from below. link_fits linkset o m is_o is_m c;
  typed = typed;
  few = few;
}

-- ---- each term has a leaf

head_some : (top : Head) (form : Form) (kids : Trees) → IsCount (arity top) (list_of kids)
    → 1 ≤ leaves_at top + count kids
head_some (heads.Leaf kind) form kids many = omega arith
head_some heads.Actual form kids many = omega (arith, count_list kids, many)
head_some (heads.Encode name c) form kids many = omega (arith, count_list kids, many)
head_some (heads.Segment names) form kids many = omega (arith, count_list kids, many)
head_some heads.Transpose form kids many = omega (arith, count_list kids, many)
head_some (heads.Partition name bounds) form kids many = omega (arith, count_list kids, many)
head_some (heads.Divide size) form kids many = omega (arith, count_list kids, many)
head_some (heads.Index name) form kids many = omega (arith, count_list kids, many)

mutual
  pub some_leaf : (levels : ℕ) (form : Form) (t : TermTree) → IsTerm levels t → 1 ≤ leaf_count t
  some_leaf zero form t term = absurd term
  some_leaf (suc levels) form (node top kids) term =
      omega (arith, head_some top form kids term.1, some_leaves levels form kids term.2)

  pub some_leaves : (levels : ℕ) (form : Form) (ts : Trees)
      → AllByRecursion (IsTerm levels) (list_of ts) → count ts ≤ leaf_counts ts
  some_leaves levels form none terms = omega arith
  some_leaves levels form (kid t ts) terms =
      omega (arith, some_leaf levels form t terms.0, some_leaves levels form ts terms.1)

-- ---- what the makers take

pub limited_short : (fs : List Field) → AreLimited fs → AreShortTexts fs
limited_short [] are = tt
limited_short (f ∷ fs) are = (one f.kind are.0, limited_short fs are.1)
  where
    one : (k : Kind) → IsLimited k → IsShortText k
    one kinds.Int is = tt
    one (kinds.Text most) is = omega (arith, is)
    one (kinds.Bytes most) is = tt

limited_width : (fs : List Field) (i : ℕ) → AreLimited fs → i < length fs
    → IsKeyKind (slice_index_or fs i no_field).kind
    → width_of (slice_index_or fs i no_field).kind ≤ 201
limited_width [] i are lt key = absurd (omega arith)
limited_width (f ∷ fs) zero are lt key = one f.kind are.0 key
  where
    one : (k : Kind) → IsLimited k → IsKeyKind k → width_of k ≤ 201
    one kinds.Int s k = omega arith
    one (kinds.Text most) s k = omega (arith, s)
    one (kinds.Bytes most) s k = absurd k
limited_width (f ∷ fs) (suc i) are lt key = limited_width fs i are.1 (omega arith) key

place_narrow : (levels : ℕ) (form : Form) (at : Where) → IsFileForm levels form → IsPlace at form
    → IsKeyKind (kind_at at form) → width_of (kind_at at form) ≤ 400
place_narrow levels form (Key i) fits place key =
    omega (arith, limited_width form.keys i fits.key_texts place key)
place_narrow levels form (Rest i) fits place key =
    omega (arith, limited_width form.fields i fits.texts place key)

pub partition_can : (levels : ℕ) (form : Form) (name : List ℕ) (bounds : List Value) (kids : ℕ)
    → IsFileForm levels form → IsPartitioned name bounds form kids → AllByRecursion IsBound bounds
    → length bounds ≤ 255 → IsPartition form (place_in form name) bounds
partition_can levels form name bounds kids fits met are few =
    let at = place_in form name in
    let place = place_is form name met.kind met.field in
    let is = kind_is form name at met.kind place met.field in
    let key : IsKeyKind (kind_at at form) = subst IsKeyKind (sym is) met.key_kind in
    record {
      place = within form name at place;
      kind = key;
      narrow = place_narrow levels form at fits (within form name at place) key;
      fit = subst (λ (k : Kind). AllByRecursion (Fits k) bounds) (sym is)
          (bounds_fit met.kind bounds met.fit are);
      ascending = sorted_bounds bounds met.ascend;
      few = omega arith;
    }

code_kind : (c : Code) (k : Kind) → IsCodeFor c k → IsLimited k → IsCodeKind c k
code_kind code.Pack kinds.Int is limited = tt
code_kind code.Pack (kinds.Text most) is limited = absurd is
code_kind code.Pack (kinds.Bytes most) is limited = absurd is
code_kind code.Rle kinds.Int is limited = absurd is
code_kind code.Rle (kinds.Text most) is limited = limited
code_kind code.Rle (kinds.Bytes most) is limited = absurd is

one_bytes : (fs : List Field) → IsOneBytes fs → (is_bytes_form fs ≡ true) × (most_in fs ≤ rooms fs)
one_bytes [] is = absurd is
one_bytes (f ∷ []) is =
    (ap is_bytes is.1, subst (λ (k : Kind). most_of k ≤ room_of k + 0) (sym is.1) (omega arith))
one_bytes (f ∷ g ∷ fs) is = absurd is

pub can_make : (levels : ℕ) (top : Head) (form : Form) (kids : Trees) → IsFileForm (suc levels) form
    → IsTerm (suc levels) (node top kids) → IsTypedTerm form (node top kids)
    → leaf_counts kids ≤ 255 → CanMake top form
can_make levels (heads.Leaf kind) form kids fits term typed few = tt
can_make levels heads.Actual form kids fits term typed few = record {
  texts = limited_short form.fields fits.texts;
  narrow = omega (arith, body_room form.fields, fits.room);
}
can_make levels (heads.Encode name c) form kids fits term typed few =
    let at = typed_kind form.fields name typed.0.kind typed.0.field.is in
    record {
      place = at.0;
      kind = code_kind c (kind_of form.fields (first_in form.fields name))
          (subst (IsCodeFor c) (sym at.1) typed.0.coded)
          (one_limited form.fields (first_in form.fields name) no_field at.0 fits.texts);
    }
can_make levels (heads.Segment names) form kids fits term typed few = omega (arith, fits.few_fields)
can_make levels heads.Transpose form kids fits term typed few =
    record { some = typed.0.some; few = omega (arith, fits.few_fields) }
can_make levels (heads.Partition name bounds) form kids fits term typed few =
    partition_can (suc levels) form name bounds (count kids) fits typed.0 term.0.2
    (omega (arith, typed.0.each, some_leaves levels form kids term.2))
can_make levels (heads.Divide size) form kids fits term typed few =
    let one = one_bytes form.fields typed.0 in
    record { bytes = one.0; narrow = omega (arith, one.1, fits.room); some = term.0.0 }
can_make levels (heads.Index name) form kids fits term typed few =
    let at = typed_kind form.fields name typed.0.kind typed.0.field.is in
    record { place = at.0; kind = subst IsKeyKind (sym at.1) typed.0.key_kind }

pub ready_can : (n : ℕ) (form : Form) (top : Head) (kids : Trees) → IsReady n form (node top kids)
    → CanMake top form
ready_can n form top kids r = go r.levels r.term r.records
  where
    go : (levels : ℕ) → IsTerm levels (node top kids) → IsFileForm levels form → CanMake top form
    go zero term fits = absurd term
    go (suc levels) term fits =
        let few : n + (leaves_at top + leaf_counts kids) ≤ 255 = r.few in
        can_make levels top form kids fits term r.typed (omega arith)

fields_many : (fs : List Field) → length fs ≤ widths fs
fields_many [] = omega arith
fields_many (f ∷ fs) = omega (arith, one f.kind, fields_many fs)
  where
    one : (k : Kind) → 1 ≤ width_of k
    one kinds.Int = omega arith
    one (kinds.Text most) = omega arith
    one (kinds.Bytes most) = omega arith

-- every key field has a byte
pub few_keys : (levels : ℕ) (form : Form) (t : TermTree) → IsTerm levels t → IsTypedTerm form t
    → length form.keys ≤ 400
few_keys levels form t term typed =
    omega (arith, fields_many form.keys, keys_narrow levels form t term typed)

pub ready_keys : (n : ℕ) (form : Form) (t : TermTree) → IsReady n form t → length form.keys ≤ 65535
ready_keys n form t r = omega (arith, few_keys r.levels form t r.term r.typed)

-- ---- records

pub body_fits : (levels : ℕ) (form : Form) (r : Rec) → IsFileForm levels form → IsOf form r
    → length (body_of r.fields) ≤ 65535
body_fits levels form r fits is =
    omega (arith, body_width form.fields r.fields is.fields, body_room form.fields, fits.room)

pub key_fits : (levels : ℕ) (form : Form) (t : TermTree) (r : Rec) → IsTerm levels t
    → IsTypedTerm form t → IsOf form r → length (key_of r.key) ≤ 400
key_fits levels form t r term typed is =
    omega (arith, fit_key form.keys r.key is.key, keys_narrow levels form t term typed)
