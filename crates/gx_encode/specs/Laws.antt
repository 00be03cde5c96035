-- The layer keeps the laws of mappings.
use Rattle.std.proofs.Common.{inl, ◌≡◌, ℕ, zero, suc, ◌<◌, List, [], ◌∷◌, length, get_or, cond, Bool, true, false, Some, refl, sym, ap, subst, ◌∙◌, arith, append-nil, drop}
use Rattle.std.specs.Prelude.{◌&&◌, not, nat_eq}
use Rattle.std.specs.Cmp.Lexicographic.{pointwise}
use Rattle.std.proofs.lemmas.Bool.Decides.{nat_tests}
use Rattle.gx_values.specs.declared.values.Code.{Code}
use Rattle.gx_values.specs.declared.values.Code.TheVariants as code
use Rattle.gx_values.specs.declared.values.Kind.{Kind}
use Rattle.gx_values.specs.declared.values.Kind.TheVariants as kind
use Rattle.gx_values.specs.declared.values.Value.{Value}
use Rattle.gx_values.specs.declared.values.Value.TheVariants as value
use Rattle.gx_values.specs.declared.records.Field.{Field}
use Rattle.gx_values.specs.declared.records.Form.{Form}
use Rattle.gx_values.specs.declared.records.Rec.{Rec}
use Rattle.gx_values.specs.Values.{Fits, AreFit, no_field, coded_kind, kind_in}
use Rattle.gx_mapping.specs.declared.parts.Part.{Part}
use Rattle.gx_mapping.specs.Rule.{IsOf, value_in, is_field, first_in}
use Rattle.gx_mapping.specs.Laws.{MappingLaws, IsCarried, IsCarrier}
use Rattle.gx_mapping.proofs.RuleLemmas.{the_one, sorted_one}
use Rattle.gx_mapping.proofs.FieldLemmas.{has_value}
use Rattle.gx_encode.specs.PackLaws.{same_pack, short_pack}
use Rattle.gx_encode.specs.RunLaws.{same_rle, short_rle}
use Rattle.gx_encode.specs.Codes.{code_of, IsCodable, IsCodeKind}
use Rattle.gx_encode.specs.Forms.{changed, coded_field, encode_form, IsEncode}
use Rattle.gx_encode.specs.Rules.{coded, encode_part, encode_rule, bytes_in}

-- ---- codes fit, and tell their values

pub code_fits : (c : Code) (k : Kind) (v : Value) → IsCodeKind c k → Fits k v
    → Fits (coded_kind c k) (coded c v)
code_fits code.Pack kind.Int (value.Int n) is fits = short_pack n
code_fits code.Rle (kind.Text most) (value.Text text) is fits =
    omega (arith, short_rle text, fits.0)
code_fits code.Pack kind.Int (value.Text text) is fits = absurd fits
code_fits code.Pack kind.Int (value.Bytes bytes) is fits = absurd fits
code_fits code.Rle (kind.Text most) (value.Int n) is fits = absurd fits
code_fits code.Rle (kind.Text most) (value.Bytes bytes) is fits = absurd fits
code_fits code.Pack (kind.Text most) v is fits = absurd is
code_fits code.Pack (kind.Bytes most) v is fits = absurd is
code_fits code.Rle kind.Int v is fits = absurd is
code_fits code.Rle (kind.Bytes most) v is fits = absurd is

pub has_code : (c : Code) (k : Kind) (v : Value) → IsCodeKind c k → Fits k v → IsCodable c v
has_code code.Pack kind.Int (value.Int n) is fits = tt
has_code code.Rle (kind.Text most) (value.Text text) is fits = omega (arith, fits.0, is)
has_code code.Pack kind.Int (value.Text text) is fits = absurd fits
has_code code.Pack kind.Int (value.Bytes bytes) is fits = absurd fits
has_code code.Rle (kind.Text most) (value.Int n) is fits = absurd fits
has_code code.Rle (kind.Text most) (value.Bytes bytes) is fits = absurd fits
has_code code.Pack (kind.Text most) v is fits = absurd is
has_code code.Pack (kind.Bytes most) v is fits = absurd is
has_code code.Rle kind.Int v is fits = absurd is
has_code code.Rle (kind.Bytes most) v is fits = absurd is

same_value : (c : Code) (k : Kind) (v w : Value) → IsCodeKind c k → Fits k v → Fits k w
    → code_of c v ≡ code_of c w → v ≡ w
same_value code.Pack kind.Int (value.Int m) (value.Int n) is f g e =
    ap value.Int (same_pack m n f g e)
same_value code.Rle (kind.Text most) (value.Text t) (value.Text u) is f g e =
    ap value.Text (same_rle t u e)
same_value code.Pack kind.Int (value.Int m) (value.Text u) is f g e = absurd g
same_value code.Pack kind.Int (value.Int m) (value.Bytes u) is f g e = absurd g
same_value code.Pack kind.Int (value.Text t) w is f g e = absurd f
same_value code.Pack kind.Int (value.Bytes t) w is f g e = absurd f
same_value code.Rle (kind.Text most) (value.Text t) (value.Int n) is f g e = absurd g
same_value code.Rle (kind.Text most) (value.Text t) (value.Bytes u) is f g e = absurd g
same_value code.Rle (kind.Text most) (value.Int n) w is f g e = absurd f
same_value code.Rle (kind.Text most) (value.Bytes t) w is f g e = absurd f
same_value code.Pack (kind.Text most) v w is f g e = absurd is
same_value code.Pack (kind.Bytes most) v w is f g e = absurd is
same_value code.Rle kind.Int v w is f g e = absurd is
same_value code.Rle (kind.Bytes most) v w is f g e = absurd is

-- ---- one field by its code

changed_fit : (c : Code) (i : ℕ) (fs : List Field) (vs : List Value) → i < length fs
    → IsCodeKind c (get_or fs i no_field).kind → AreFit fs vs
    → AreFit (changed i (coded_field c) fs) (changed i (coded c) vs)
changed_fit c i [] vs lt is fit = absurd (omega arith)
changed_fit c i (f ∷ fs) [] lt is fit = absurd fit
changed_fit c zero (f ∷ fs) (v ∷ vs) lt is fit = (code_fits c f.kind v is fit.0, fit.1)
changed_fit c (suc i) (f ∷ fs) (v ∷ vs) lt is fit =
    (fit.0, changed_fit c i fs vs (omega arith) is fit.1)

changed_same : (c : Code) (i : ℕ) (fs : List Field) (vs ws : List Value) → i < length fs
    → IsCodeKind c (get_or fs i no_field).kind → AreFit fs vs → AreFit fs ws
    → changed i (coded c) vs ≡ changed i (coded c) ws → vs ≡ ws
changed_same c i [] vs ws lt is f g e = absurd (omega arith)
changed_same c i (x ∷ fs) [] ws lt is f g e = absurd f
changed_same c i (x ∷ fs) (v ∷ vs) [] lt is f g e = absurd g
changed_same c zero (x ∷ fs) (v ∷ vs) (w ∷ ws) lt is f g e =
    let head : coded c v ≡ coded c w = ap (λ (l : List Value). get_or l 0 v) e in
    let here = same_value c x.kind v w is f.0 g.0 (ap bytes_in head) in
    let rest : vs ≡ ws = ap (λ (l : List Value). drop 1 l) e in
    λ j. here j ∷ rest j
changed_same c (suc i) (x ∷ fs) (v ∷ vs) (w ∷ ws) lt is f g e =
    let here : v ≡ w = ap (λ (l : List Value). get_or l 0 v) e in
    let rest =
    changed_same c i fs vs ws (omega arith) is f.1 g.1 (ap (λ (l : List Value). drop 1 l) e) in
    λ j. here j ∷ rest j

-- ---- other fields keep their kinds and values

other_kind : (c : Code) (i : ℕ) (fs : List Field) (name : List ℕ) → (first_in fs name ≡ i → ⊥)
    → kind_in (changed i (coded_field c) fs) name ≡ kind_in fs name
other_kind c i [] name ne = refl
other_kind c zero (f ∷ fs) name ne = by_test (pointwise nat_eq f.name name) ne
  where
    by_test : (t : Bool) → (cond t 0 (suc (first_in fs name)) ≡ 0 → ⊥)
        → cond t (Some (coded_kind c f.kind)) (kind_in fs name)
        ≡ cond t (Some f.kind) (kind_in fs name)
    by_test true ne = absurd (ne refl)
    by_test false ne = refl
other_kind c (suc i) (f ∷ fs) name ne =
    by_test (other_kind c i fs name) (pointwise nat_eq f.name name) ne
  where
    by_test : ((first_in fs name ≡ i → ⊥) → kind_in (changed i (coded_field c) fs) name
        ≡ kind_in fs name) → (t : Bool) → (cond t 0 (suc (first_in fs name)) ≡ suc i → ⊥)
        → cond t (Some f.kind) (kind_in (changed i (coded_field c) fs) name)
        ≡ cond t (Some f.kind) (kind_in fs name)
    by_test later true ne = refl
    by_test later false ne = later (λ e. ne (ap suc e))

other_value : (c : Code) (i : ℕ) (fs : List Field) (vs : List Value) (name : List ℕ) → AreFit fs vs
    → (first_in fs name ≡ i → ⊥)
    → value_in (changed i (coded_field c) fs) (changed i (coded c) vs) name ≡ value_in fs vs name
other_value c i [] vs name fit ne = refl
other_value c i (f ∷ fs) [] name fit ne = absurd fit
other_value c zero (f ∷ fs) (v ∷ vs) name fit ne = by_test (pointwise nat_eq f.name name) ne
  where
    by_test : (t : Bool) → (cond t 0 (suc (first_in fs name)) ≡ 0 → ⊥)
        → cond t (Some (coded c v)) (value_in fs vs name) ≡ cond t (Some v) (value_in fs vs name)
    by_test true ne = absurd (ne refl)
    by_test false ne = refl
other_value c (suc i) (f ∷ fs) (v ∷ vs) name fit ne =
    by_test (other_value c i fs vs name fit.1) (pointwise nat_eq f.name name) ne
  where
    by_test :
        ((first_in fs name ≡ i → ⊥)
        → value_in (changed i (coded_field c) fs) (changed i (coded c) vs) name
        ≡ value_in fs vs name) → (t : Bool) → (cond t 0 (suc (first_in fs name)) ≡ suc i → ⊥)
        → cond t (Some v) (value_in (changed i (coded_field c) fs) (changed i (coded c) vs) name)
        ≡ cond t (Some v) (value_in fs vs name)
    by_test later true ne = refl
    by_test later false ne = later (λ e. ne (ap suc e))

-- ---- carried fields

record IsOther (form : Form) (i : ℕ) (name : List ℕ) : Type 0 where
  there : is_field form.fields name ≡ true
  apart : first_in form.fields name ≡ i → ⊥
  test : nat_eq (first_in form.fields name) i ≡ false

unequal : (a b : ℕ) → nat_eq a b ≡ false → a ≡ b → ⊥
unequal a b e same = grind (arith, nat_tests)

is_other : (form : Form) (i : ℕ) (name : List ℕ) (a b : Bool) → a ≡ is_field form.fields name
    → b ≡ nat_eq (first_in form.fields name) i → a && not b ≡ true → IsOther form i name
is_other form i name true false there test e =
    record
    { there = sym there; apart = unequal (first_in form.fields name) i (sym test); test = sym test }
is_other form i name true true there test e = cc
is_other form i name false b there test e = cc

carried_by : (form : Form) (i : ℕ) (c : Code) (name : List ℕ) (r : Rec) → IsOther form i name
    → IsOf form r → IsCarried (encode_rule form i c) name r
carried_by form i c name r o is =
    let v = has_value form.fields r.fields name is.fields o.there in
    record {
      part = encode_part i c r;
      value = v.0;
      there = inl refl;
      carries = λ j. o.there j && not (o.test j);
      only = λ q there also. the_one q (encode_part i c r) there;
      key = refl;
      of_record = v.1;
      of_part = other_value c i form.fields r.fields name is.fields o.apart ∙ v.1;
    }

carrier : (form : Form) (i : ℕ) (c : Code) (name : List ℕ) (child : ℕ)
    → (encode_rule form i c).carries child name ≡ true → IsCarrier (encode_rule form i c) name child
carrier form i c name child carries =
    let o = is_other form i name (is_field form.fields name)
    (nat_eq (first_in form.fields name) i) refl refl carries in
    record {
      rest = refl;
      keys = refl;
      kind = other_kind c i form.fields name o.apart;
      each = λ r is. carried_by form i c name r o is;
    }

-- ---- the laws

parts_tell : (form : Form) (i : ℕ) (c : Code) (r s : Rec) → IsEncode form i c → IsOf form r
    → IsOf form s → encode_part i c r ≡ encode_part i c s → r ≡ s
parts_tell form i c r s is f g e =
    let keys : r.key ≡ s.key = ap (λ (p : Part). p.rec.key) e in
    let fields =
    changed_same c i form.fields r.fields s.fields is.place is.kind f.fields g.fields
    (ap (λ (p : Part). p.rec.fields) e) in
    λ j. record { key = keys j; fields = fields j }

pub encode_laws : (form : Form) (i : ℕ) (c : Code) → IsEncode form i c
    → MappingLaws (encode_rule form i c)
encode_laws form i c sound = record {
  fit = λ r p is there. subst (λ (q : Part). (q.child < 1)
      × IsOf (encode_form i c form) q.rec) (sym (the_one p (encode_part i c r) there)) (
        omega arith,
        record {
          key = is.key;
          fields = changed_fit c i form.fields r.fields sound.place sound.kind is.fields;
        },
      );
  in_order = λ r is. sorted_one (encode_part i c r);
  apart = λ r s p q is_r is_s a b child key.
      ap (λ (x : Part). x.rec.key) (sym (the_one p (encode_part i c r) a)) ∙ key ∙ ap
      (λ (x : Part). x.rec.key) (the_one q (encode_part i c s) b);
  has_data = λ r is. (encode_part i c r, inl refl);
  told = λ r s is_r is_s e.
      parts_tell form i c r s sound is_r is_s
      (ap (λ (ps : List Part). get_or ps 0 (encode_part i c r)) e);
  keys_lead = λ child lt rest. ([], sym (append-nil form.keys));
  key_leads =
      λ r p is there rest. (
        [],
        ap (λ (x : Part). x.rec.key) (the_one p (encode_part i c r) there)
            ∙ sym (append-nil r.key),
      );
  skipped = λ r p span is there skips. cc;
  carried = λ name child lt carries. carrier form i c name child carries;
  indexed = λ name child is. cc;
}
