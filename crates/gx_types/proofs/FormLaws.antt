-- Every head keeps what is asked of forms.
use Rattle.std.proofs.Common.{◌≡◌, ℕ, zero, suc, ◌+◌, ◌<◌, ◌≤◌, ◌⊎◌, cond, Bool, true, false, List, [], ◌∷◌, ◌++◌, length, map, Option, Some, None, refl, sym, ap, subst, inl, inr, ◌∙◌, arith}
use Rattle.std.specs.Prelude.{◌||◌, not, filter, nat_eq, slice_index_or}
use Rattle.std.specs.List.{AllByRecursion}
use Rattle.std.specs.Cmp.Lexicographic.{pointwise, bytes_decides}
use Rattle.std.proofs.lemmas.Bool.{cond-true, cond-false, or_parts}
use Rattle.gx_values.specs.Values.{coded_kind, kind_in}
use Rattle.gx_values.specs.Keys.{widths, IsKeyKind, AreKeyFields}
use Rattle.gx_values.specs.declared.values.Code.{Code}
use Rattle.gx_values.specs.declared.values.Code.TheVariants as code
use Rattle.gx_values.specs.declared.values.Kind.{Kind}
use Rattle.gx_values.specs.declared.values.Kind.TheVariants as kinds
use Rattle.gx_values.specs.declared.records.Field.{Field}
use Rattle.gx_values.specs.declared.records.Form.{Form}
use Rattle.gx_mapping.specs.Rule.{is_field}
use Rattle.gx_actual.specs.Bodies.{field_width, field_widths}
use Rattle.gx_equation.specs.declared.heads.Head.{Head}
use Rattle.gx_equation.specs.declared.heads.Head.TheVariants as heads
use Rattle.gx_equation.specs.Printing.{IsHead, IsCount, IsTerm}
use Rattle.gx_equation.specs.Trees.{TermTree, Trees, node, none, kid, list_of, arity}
use Rattle.gx_forms.specs.Fields.{field, has_name}
use Rattle.gx_forms.specs.Forms.{coded_field, index_kind, kid_form}
use Rattle.gx_types.specs.FileForms.{IsLimited, AreLimited, AreDistinct, room_of, rooms, IsFileForm}
use Rattle.gx_typing.specs.Typed.{IsCodeFor, IsMet, IsTypedTerm, AreTypedTerms}
use Rattle.gx_typing.specs.Typing.{count}

-- ---- tests

-- ---- chosen fields

module _ (p : Field → Bool) where
  filter_limited : (fs : List Field) → AreLimited fs → AreLimited (filter p fs)
  filter_limited [] are = tt
  filter_limited (f ∷ fs) are =
      elim (p f) as (λ b. AreLimited (cond b (f ∷ filter p fs) (filter p fs))) [
        | true ↦ (are.0, filter_limited fs are.1)
        | false ↦ filter_limited fs are.1
      ]

  filter_absent : (fs : List Field) (name : List ℕ) → is_field fs name ≡ false
      → is_field (filter p fs) name ≡ false
  filter_absent [] name h = refl
  filter_absent (f ∷ fs) name h =
      let both = or_parts (pointwise nat_eq f.name name) (is_field fs name) h in
      elim (p f) as (λ b. is_field (cond b (f ∷ filter p fs) (filter p fs)) name ≡ false) [
        | true ↦ ap (λ (t : Bool). t || is_field (filter p fs) name) both.0
            ∙ filter_absent fs name both.1
        | false ↦ filter_absent fs name both.1
      ]

  filter_distinct : (fs : List Field) → AreDistinct fs → AreDistinct (filter p fs)
  filter_distinct [] are = tt
  filter_distinct (f ∷ fs) are =
      elim (p f) as (λ b. AreDistinct (cond b (f ∷ filter p fs) (filter p fs))) [
        | true ↦ (filter_absent fs f.name are.0, filter_distinct fs are.1)
        | false ↦ filter_distinct fs are.1
      ]

  filter_few : (fs : List Field) → length (filter p fs) ≤ length fs
  filter_few [] = omega arith
  filter_few (f ∷ fs) = elim (p f) as
      (λ b. length (cond b (f ∷ filter p fs) (filter p fs)) ≤ suc (length fs)) [
        | true ↦ omega (arith, filter_few fs)
        | false ↦ omega (arith, filter_few fs)
      ]

  filter_rooms : (fs : List Field) → rooms (filter p fs) ≤ rooms fs
  filter_rooms [] = omega arith
  filter_rooms (f ∷ fs) =
      elim (p f) as (λ b. rooms (cond b (f ∷ filter p fs) (filter p fs)) ≤ room_of f.kind
      + rooms fs) [
        | true ↦ omega (arith, filter_rooms fs)
        | false ↦ omega (arith, filter_rooms fs)
      ]

  filter_kept : (levels : ℕ) (form : Form) → IsFileForm (suc levels) form
      → IsFileForm levels (record { keys = form.keys; fields = filter p form.fields })
  filter_kept levels form fits = record {
    keys = fits.keys;
    key_texts = fits.key_texts;
    texts = filter_limited form.fields fits.texts;
    distinct = filter_distinct form.fields fits.distinct;
    few_fields = omega (arith, filter_few form.fields, fits.few_fields);
    room = omega (arith, filter_rooms form.fields, fits.room);
  }

-- ---- coded fields

module _ (name : List ℕ) (c : Code) where
  kind_limited : (c : Code) (k : Kind) → IsLimited k → IsLimited (coded_kind c k)
  kind_limited code.Pack k is = tt
  kind_limited code.Rle kinds.Int is = tt
  kind_limited code.Rle (kinds.Text most) is = tt
  kind_limited code.Rle (kinds.Bytes most) is = tt

  coded_limited : (fs : List Field) → AreLimited fs → AreLimited (map (coded_field name c) fs)
  coded_limited [] are = tt
  coded_limited (f ∷ fs) are = (
    elim (pointwise nat_eq f.name name) as
        (λ b. IsLimited (cond b (field f.name (coded_kind c f.kind)) f).kind) [
          | true ↦ kind_limited c f.kind are.0
          | false ↦ are.0
        ],
    coded_limited fs are.1,
  )

  coded_name : (f : Field) → (coded_field name c f).name ≡ f.name
  coded_name f = elim (pointwise nat_eq f.name name) as
      (λ b. (cond b (field f.name (coded_kind c f.kind)) f).name ≡ f.name) [
        | true ↦ refl
        | false ↦ refl
      ]

  coded_absent : (fs : List Field) (other : List ℕ)
      → is_field (map (coded_field name c) fs) other ≡ is_field fs other
  coded_absent [] other = refl
  coded_absent (f ∷ fs) other =
      ap (λ (n : List ℕ). pointwise nat_eq n other || is_field (map (coded_field name c) fs) other)
      (coded_name f)
      ∙ ap (λ (t : Bool). pointwise nat_eq f.name other || t) (coded_absent fs other)

  coded_distinct : (fs : List Field) → AreDistinct fs → AreDistinct (map (coded_field name c) fs)
  coded_distinct [] are = tt
  coded_distinct (f ∷ fs) are = (
    ap (is_field (map (coded_field name c) fs)) (coded_name f) ∙ coded_absent fs f.name ∙ are.0,
    coded_distinct fs are.1,
  )

  coded_many : (fs : List Field) → length (map (coded_field name c) fs) ≡ length fs
  coded_many [] = refl
  coded_many (f ∷ fs) = ap suc (coded_many fs)

  -- no field of the name: nothing is changed
  pub coded_none : (fs : List Field) → is_field fs name ≡ false → map (coded_field name c) fs ≡ fs
  coded_none [] h = refl
  coded_none (f ∷ fs) h =
      let both = or_parts (pointwise nat_eq f.name name) (is_field fs name) h in
      let here : coded_field name c f ≡ f = cond-false (pointwise nat_eq f.name name) _ _ both.0 in
      let more = coded_none fs both.1 in
      λ i. here i ∷ more i

  kind_room : (c : Code) (k : Kind) → IsCodeFor c k → room_of (coded_kind c k) ≤ room_of k
  kind_room code.Pack kinds.Int is = omega arith
  kind_room code.Pack (kinds.Text most) is = absurd is
  kind_room code.Pack (kinds.Bytes most) is = absurd is
  kind_room code.Rle kinds.Int is = absurd is
  kind_room code.Rle (kinds.Text most) is = omega arith
  kind_room code.Rle (kinds.Bytes most) is = absurd is

  some_same : {a b : Kind} → ◌≡◌ {A = Option Kind} (Some a) (Some b) → a ≡ b
  some_same e = cc

  -- only the first field of the name has it, and its code takes no more room
  coded_rooms : (fs : List Field) (kind : Kind) → AreDistinct fs → kind_in fs name ≡ Some kind
      → IsCodeFor c kind → rooms (map (coded_field name c) fs) ≤ rooms fs
  coded_rooms [] kind are is coded = absurd cc
  coded_rooms (f ∷ fs) kind are is coded =
      go (pointwise nat_eq f.name name) refl (λ more. coded_rooms fs kind are.1 more coded)
    where
      go : (t : Bool) → pointwise nat_eq f.name name ≡ t
          → (kind_in fs name ≡ Some kind → rooms (map (coded_field name c) fs) ≤ rooms fs)
          → rooms (map (coded_field name c) (f ∷ fs)) ≤ rooms (f ∷ fs)
      go true e below =
          let kind_here : f.kind ≡ kind =
          some_same (sym (cond-true (pointwise nat_eq f.name name) (Some f.kind)
          (kind_in fs name) e) ∙ is) in
          let coded_here : coded_field name c f ≡ field f.name (coded_kind c f.kind) =
          cond-true (pointwise nat_eq f.name name) _ _ e in
          let same_name : f.name ≡ name = (bytes_decides f.name name).0 e in
          let rest : rooms (map (coded_field name c) fs) ≡ rooms fs =
          ap rooms (coded_none fs (ap (is_field fs) (sym same_name) ∙ are.0)) in
          let room : room_of (coded_field name c f).kind ≡ room_of (coded_kind c f.kind) =
          ap (λ (g : Field). room_of g.kind) coded_here in
          omega (arith, kind_room c f.kind (subst (IsCodeFor c) (sym kind_here) coded))
      go false e below =
          let coded_here : coded_field name c f ≡ f =
          cond-false (pointwise nat_eq f.name name) _ _ e in
          let room : room_of (coded_field name c f).kind ≡ room_of f.kind =
          ap (λ (g : Field). room_of g.kind) coded_here in
          omega (
            arith,
            below (sym (cond-false (pointwise nat_eq f.name name) (Some f.kind) (kind_in fs name) e)
                ∙ is),
          )

-- ---- one field

pub one_limited : (fs : List Field) (i : ℕ) (d : Field) → i < length fs → AreLimited fs
    → IsLimited (slice_index_or fs i d).kind
one_limited [] i d lt are = absurd (omega arith)
one_limited (f ∷ fs) zero d lt are = are.0
one_limited (f ∷ fs) (suc i) d lt are = one_limited fs i d (omega arith) are.1

one_room : (fs : List Field) (i : ℕ) (d : Field) → i < length fs
    → room_of (slice_index_or fs i d).kind ≤ rooms fs
one_room [] i d lt = absurd (omega arith)
one_room (f ∷ fs) zero d lt = omega arith
one_room (f ∷ fs) (suc i) d lt = omega (arith, one_room fs i d (omega arith))

-- ---- bodies

kind_width : (k : Kind) → field_width k ≤ room_of k
kind_width kinds.Int = omega arith
kind_width (kinds.Text most) = omega arith
kind_width (kinds.Bytes most) = omega arith

pub body_room : (fs : List Field) → field_widths fs ≤ rooms fs
body_room [] = omega arith
body_room (f ∷ fs) = omega (arith, kind_width f.kind, body_room fs)

-- ---- keys

keys_more : (fs gs : List Field) → AreKeyFields fs → AreKeyFields gs → AreKeyFields (fs ++ gs)
keys_more [] gs are more = more
keys_more (f ∷ fs) gs are more = (are.0, keys_more fs gs are.1 more)

limited_more : (fs gs : List Field) → AreLimited fs → AreLimited gs → AreLimited (fs ++ gs)
limited_more [] gs are more = more
limited_more (f ∷ fs) gs are more = (are.0, limited_more fs gs are.1 more)

index_key : (o : Option Kind) → IsKeyKind (index_kind o)
index_key None = tt
index_key (Some kinds.Int) = tt
index_key (Some (kinds.Text most)) = tt
index_key (Some (kinds.Bytes most)) = tt

index_limited : (fs : List Field) (name : List ℕ) → AreLimited fs
    → IsLimited (index_kind (kind_in fs name))
index_limited [] name are = tt
index_limited (f ∷ fs) name are =
    elim (pointwise nat_eq f.name name) as
    (λ b. IsLimited (index_kind (cond b (Some f.kind) (kind_in fs name)))) [
      | true ↦ one f.kind are.0
      | false ↦ index_limited fs name are.1
    ]
  where
    one : (k : Kind) → IsLimited k → IsLimited (index_kind (Some k))
    one kinds.Int is = tt
    one (kinds.Text most) is = is
    one (kinds.Bytes most) is = tt

-- ---- each head

pub weaker : (levels : ℕ) (form : Form) → IsFileForm (suc levels) form → IsFileForm levels form
weaker levels form fits = record {
  keys = fits.keys;
  key_texts = fits.key_texts;
  texts = fits.texts;
  distinct = fits.distinct;
  few_fields = fits.few_fields;
  room = omega (arith, fits.room);
}

pub kept : (top : Head) (form : Form) (kids levels : ℕ) → IsHead top → IsMet top form kids
    → levels ≤ 16 → IsFileForm (suc levels) form → (i : ℕ) → i < kids
    → IsFileForm levels (kid_form top form i)
kept (heads.Leaf kind) form kids levels head met few fits i lt = weaker levels form fits
kept heads.Actual form kids levels head met few fits i lt = record {
  keys = fits.keys;
  key_texts = fits.key_texts;
  texts = (tt, tt);
  distinct = (refl, tt);
  few_fields = omega arith;
  room = omega (arith, body_room form.fields, fits.room);
}
kept (heads.Encode name c) form kids levels head met few fits i lt = record {
  keys = fits.keys;
  key_texts = fits.key_texts;
  texts = coded_limited name c form.fields fits.texts;
  distinct = coded_distinct name c form.fields fits.distinct;
  few_fields = omega (arith, coded_many name c form.fields, fits.few_fields);
  room = omega (
    arith,
    coded_rooms name c form.fields met.kind fits.distinct met.field.is
        met.coded,
    fits.room,
  );
}
kept (heads.Segment names) form kids levels head met few fits zero lt =
    filter_kept (λ f. has_name names f.name) levels form fits
kept (heads.Segment names) form kids levels head met few fits (suc i) lt =
    filter_kept (λ f. not (has_name names f.name)) levels form fits
kept heads.Transpose form kids levels head met few fits i lt =
    let within : i < length form.fields = omega (arith, lt, met.each) in
    record {
      keys = fits.keys;
      key_texts = fits.key_texts;
      texts = (one_limited form.fields i _ within fits.texts, tt);
      distinct = (refl, tt);
      few_fields = omega arith;
      room = omega (arith, one_room form.fields i (field [] kinds.Int) within, fits.room);
    }
kept (heads.Partition name bounds) form kids levels head met few fits i lt = weaker levels form fits
kept (heads.Divide size) form kids levels head met few fits i lt = record {
  keys = keys_more form.keys _ fits.keys (tt, tt);
  key_texts = limited_more form.keys _ fits.key_texts (tt, tt);
  texts = (tt, tt);
  distinct = (refl, tt);
  few_fields = omega arith;
  room = omega (arith, head.1, few);
}
kept (heads.Index name) form kids levels head met few fits zero lt = weaker levels form fits
kept (heads.Index name) form kids levels head met few fits (suc i) lt = record {
  keys = (index_key (kind_in form.fields name), fits.keys);
  key_texts = (index_limited form.fields name fits.texts, fits.key_texts);
  texts = tt;
  distinct = tt;
  few_fields = omega arith;
  room = omega (arith, fits.room);
}

-- ---- keys of typed terms

widths_more : (fs gs : List Field) → widths fs ≤ widths (fs ++ gs)
widths_more [] gs = omega arith
widths_more (f ∷ fs) gs = omega (arith, widths_more fs gs)

keys_grow : (top : Head) (form : Form) (i : ℕ)
    → widths form.keys ≤ widths (kid_form top form i).keys
keys_grow (heads.Leaf kind) form i = omega arith
keys_grow heads.Actual form i = omega arith
keys_grow (heads.Encode name c) form i = omega arith
keys_grow (heads.Segment names) form zero = omega arith
keys_grow (heads.Segment names) form (suc i) = omega arith
keys_grow heads.Transpose form i = omega arith
keys_grow (heads.Partition name bounds) form i = omega arith
keys_grow (heads.Divide size) form i = widths_more form.keys _
keys_grow (heads.Index name) form zero = omega arith
keys_grow (heads.Index name) form (suc i) = omega arith

pub count_list : (ts : Trees) → count ts ≡ length (list_of ts)
count_list none = refl
count_list (kid t ts) = ap suc (count_list ts)

-- a leaf takes the key, or there is a child
leaf_or : (top : Head) (form : Form) (kids : Trees) → IsCount (arity top) (list_of kids)
    → IsMet top form (count kids) → (widths form.keys ≤ 400) ⊎ (0 < count kids)
leaf_or (heads.Leaf kind) form kids many met = inl met.key
leaf_or heads.Actual form kids many met = inr (omega (arith, count_list kids, many))
leaf_or (heads.Encode name c) form kids many met = inr (omega (arith, count_list kids, many))
leaf_or (heads.Segment names) form kids many met = inr (omega (arith, count_list kids, many))
leaf_or heads.Transpose form kids many met = inr (omega (arith, count_list kids, many))
leaf_or (heads.Partition name bounds) form kids many met =
    inr (omega (arith, count_list kids, many))
leaf_or (heads.Divide size) form kids many met = inr (omega (arith, count_list kids, many))
leaf_or (heads.Index name) form kids many met = inr (omega (arith, count_list kids, many))

-- the key of a typed term fits a leaf, since there is one below and keys only grow
mutual
  pub keys_narrow : (levels : ℕ) (form : Form) (t : TermTree) → IsTerm levels t → IsTypedTerm form t
      → widths form.keys ≤ 400
  keys_narrow zero form t term typed = absurd term
  keys_narrow (suc levels) form (node top kids) term typed =
      elim (leaf_or top form kids term.1 typed.0) [
        | inl le ↦ le
        | inr some ↦ omega (
          arith,
          keys_grow top form 0,
          first_narrow levels (kid_form top form) 0 kids some term.2 typed.1,
        )
      ]

  first_narrow : (levels : ℕ) (forms : ℕ → Form) (i : ℕ) (ts : Trees) → 0 < count ts
      → AllByRecursion (IsTerm levels) (list_of ts) → AreTypedTerms forms i ts
      → widths (forms i).keys ≤ 400
  first_narrow levels forms i none some terms typed = absurd (omega arith)
  first_narrow levels forms i (kid t ts) some terms typed =
      keys_narrow levels (forms i) t terms.0 typed.0
