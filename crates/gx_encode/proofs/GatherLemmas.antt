-- What is gathered from the part of a record.
use Rattle.std.proofs.Common.{inl, ◌≡◌, ℕ, zero, suc, ◌<◌, ◌≤◌, List, [], ◌∷◌, length, get_or, Some, None, refl, sym, ap, subst, ◌∙◌, arith, length-append}
use Rattle.std.proofs.Math.ListN.{set, replicate}
use Rattle.std.proofs.lemmas.List.{length-replicate}
use Rattle.gx_values.specs.declared.values.Code.{Code}
use Rattle.gx_values.specs.declared.values.Code.TheVariants as code
use Rattle.gx_values.specs.declared.values.Kind.{Kind}
use Rattle.gx_values.specs.declared.values.Kind.TheVariants as kind
use Rattle.gx_values.specs.declared.values.Value.{Value}
use Rattle.gx_values.specs.declared.values.Value.TheVariants as value
use Rattle.gx_values.specs.declared.records.Field.{Field}
use Rattle.gx_values.specs.declared.records.Form.{Form}
use Rattle.gx_values.specs.Values.{Fits, AreFit, no_field, no_value, coded_kind}
use Rattle.gx_values.specs.Written.{IsRead}
use Rattle.gx_mapping.specs.declared.parts.Part.{Part}
use Rattle.gx_mapping.specs.Rule.{AreOfKey, IsGathered}
use Rattle.gx_mapping.proofs.RuleLemmas.{whole_key}
use Rattle.gx_mapping.proofs.FieldLemmas.{fit_length}
use Rattle.gx_encode.specs.Runs.{runs_of, joined, AreShort, IsUnrle}
use Rattle.gx_encode.specs.RunLaws.{runs_joined}
use Rattle.gx_encode.specs.Codes.{code_of, IsCodeKind}
use Rattle.gx_encode.specs.Forms.{changed, coded_field, IsEncode}
use Rattle.gx_encode.specs.Rules.{coded, encode_rule, only_part, bytes_in}

pub changed_set : {A : Type 0} (i : ℕ) (x : A) (xs : List A) → set xs i x ≡ changed i (λ y. x) xs
changed_set i x [] = refl
changed_set zero x (y ∷ xs) = refl
changed_set (suc i) x (y ∷ xs) = ap (λ (ys : List _). y ∷ ys) (changed_set i x xs)

pub changed_field : (i : ℕ) (c : Code) (fs : List Field)
    → changed i (λ g. coded_field c (get_or fs i no_field)) fs ≡ changed i (coded_field c) fs
changed_field i c [] = refl
changed_field zero c (g ∷ fs) = refl
changed_field (suc i) c (g ∷ fs) = ap (λ (gs : List Field). g ∷ gs) (changed_field i c fs)

pub changed_value : (i : ℕ) (c : Code) (vs : List Value)
    → changed i (λ w. coded c (get_or vs i no_value)) vs ≡ changed i (coded c) vs
changed_value i c [] = refl
changed_value zero c (w ∷ vs) = refl
changed_value (suc i) c (w ∷ vs) = ap (λ (ws : List Value). w ∷ ws) (changed_value i c vs)

pub fits_at : (i : ℕ) (fs : List Field) (vs : List Value) → AreFit fs vs → i < length fs
    → Fits (get_or fs i no_field).kind (get_or vs i no_value)
fits_at i [] vs fit lt = absurd (omega arith)
fits_at i (g ∷ fs) [] fit lt = absurd fit
fits_at zero (g ∷ fs) (w ∷ vs) fit lt = fit.0
fits_at (suc i) (g ∷ fs) (w ∷ vs) fit lt = fits_at i fs vs fit.1 (omega arith)

pub length_changed : (i : ℕ) (c : Code) (fs : List Field)
    → length (changed i (coded_field c) fs) ≡ length fs
length_changed i c [] = refl
length_changed zero c (f ∷ fs) = refl
length_changed (suc i) c (f ∷ fs) = ap suc (length_changed i c fs)

-- a value of the code's kind is its bytes
bytes_is : (c : Code) (k : Kind) (q : Value) → IsCodeKind c k → Fits (coded_kind c k) q
    → q ≡ value.Bytes (bytes_in q)
bytes_is code.Pack kind.Int (value.Bytes b) is fits = refl
bytes_is code.Rle (kind.Text most) (value.Bytes b) is fits = refl
bytes_is code.Pack kind.Int (value.Int n) is fits = absurd fits
bytes_is code.Pack kind.Int (value.Text t) is fits = absurd fits
bytes_is code.Rle (kind.Text most) (value.Int n) is fits = absurd fits
bytes_is code.Rle (kind.Text most) (value.Text t) is fits = absurd fits
bytes_is code.Pack (kind.Text most) q is fits = absurd is
bytes_is code.Pack (kind.Bytes most) q is fits = absurd is
bytes_is code.Rle kind.Int q is fits = absurd is
bytes_is code.Rle (kind.Bytes most) q is fits = absurd is

decoded_fit : (c : Code) (i : ℕ) (fs : List Field) (qs : List Value) (v : Value) → i < length fs
    → Fits (get_or fs i no_field).kind v → AreFit (changed i (coded_field c) fs) qs
    → AreFit fs (changed i (λ w. v) qs)
decoded_fit c i [] qs v lt fits g = absurd (omega arith)
decoded_fit c zero (f ∷ fs) [] v lt fits g = absurd g
decoded_fit c (suc i) (f ∷ fs) [] v lt fits g = absurd g
decoded_fit c zero (f ∷ fs) (q ∷ qs) v lt fits g = (fits, g.1)
decoded_fit c (suc i) (f ∷ fs) (q ∷ qs) v lt fits g =
    (g.0, decoded_fit c i fs qs v (omega arith) fits g.1)

coded_again : (c : Code) (i : ℕ) (fs : List Field) (qs : List Value) (v : Value) → i < length fs
    → IsCodeKind c (get_or fs i no_field).kind → AreFit (changed i (coded_field c) fs) qs
    → code_of c v ≡ bytes_in (get_or qs i no_value)
    → changed i (coded c) (changed i (λ w. v) qs) ≡ qs
coded_again c i [] qs v lt is g e = absurd (omega arith)
coded_again c zero (f ∷ fs) [] v lt is g e = absurd g
coded_again c (suc i) (f ∷ fs) [] v lt is g e = absurd g
coded_again c zero (f ∷ fs) (q ∷ qs) v lt is g e =
    let here : coded c v ≡ q = ap value.Bytes e ∙ sym (bytes_is c f.kind q is g.0) in
    λ j. here j ∷ qs
coded_again c (suc i) (f ∷ fs) (q ∷ qs) v lt is g e =
    ap (λ (ws : List Value). q ∷ ws) (coded_again c i fs qs v (omega arith) is g.1 e)

code_at : (c : Code) (i : ℕ) (fs : List Field) (vs : List Value) → i < length fs → AreFit fs vs
    → (Fits (get_or fs i no_field).kind (get_or vs i no_value))
    × (code_of c (get_or vs i no_value) ≡ bytes_in (get_or (changed i (coded c) vs) i no_value))
code_at c i [] vs lt fit = absurd (omega arith)
code_at c i (f ∷ fs) [] lt fit = absurd fit
code_at c zero (f ∷ fs) (v ∷ vs) lt fit = (fit.0, refl)
code_at c (suc i) (f ∷ fs) (v ∷ vs) lt fit = code_at c i fs vs (omega arith) fit.1

module _ (form : Form) (i : ℕ) (c : Code) (sound : IsEncode form i c) (key : List Value) (p : Part)
    (req : AreOfKey (encode_rule form i c) key (p ∷ [])) where
  pub part_fits : AreFit (changed i (coded_field c) form.fields) p.rec.fields
  part_fits = (req.each p (inl refl)).fits.fields

  pub part_length : length form.fields ≡ length p.rec.fields
  part_length = sym (length_changed i c form.fields)
      ∙ fit_length (changed i (coded_field c) form.fields) p.rec.fields part_fits

  pub part_under : p.rec.key ≡ key
  part_under = let of = req.each p (inl refl) in
      whole_key form.keys key p.rec.key req.key_fits of.fits.key of.under

  pub part_whole : only_part p.rec ≡ p
  part_whole = let child : p.child ≡ 0 = (let below = (req.each p (inl refl)).child in omega arith)
      in λ j. record { child = sym child j; rec = p.rec }

  -- under its own key
  pub part_alone : AreOfKey (encode_rule form i c) p.rec.key (only_part p.rec ∷ [])
  part_alone = subst (λ (q : Part). AreOfKey (encode_rule form i c) p.rec.key (q ∷ []))
      (sym part_whole) (subst (λ (k : List Value). AreOfKey (encode_rule form i c) k (p ∷ []))
      (sym part_under) req)

  pub one_gathered : (copy fields : List Value) (v : Value)
      → IsRead (code_of c) (get_or form.fields i no_field).kind
      (bytes_in (get_or p.rec.fields i no_value)) (Some v) → copy ≡ key
      → fields ≡ changed i (λ w. v) p.rec.fields
      → IsGathered (encode_rule form i c) key (p ∷ [])
      (Some (record { key = copy; fields = fields }))
  one_gathered copy fields v read copied is =
      let of = req.each p (inl refl) in
      let child : p.child ≡ 0 = omega (arith, of.child) in
      let under = whole_key form.keys key p.rec.key req.key_fits of.fits.key of.under in
      let again = ap (changed i (coded c)) is
      ∙ coded_again c i form.fields p.rec.fields v sound.place sound.kind part_fits read.1 in (
        record {
          key = subst (AreFit form.keys) (sym copied) req.key_fits;
          fields = subst (AreFit form.fields) (sym is)
              (decoded_fit c i form.fields p.rec.fields v sound.place read.0 part_fits);
        },
        copied,
        (λ j. record {
          child = sym child j;
          rec = record { key = (copied ∙ sym under) j; fields = again j };
        } ∷ []),
      )

  pub none_gathered : IsRead (code_of c) (get_or form.fields i no_field).kind
      (bytes_in (get_or p.rec.fields i no_value)) None
      → IsGathered (encode_rule form i c) key (p ∷ []) None
  none_gathered none = λ r is same parts.
      let at = code_at c i form.fields r.fields sound.place is.fields in
      let fields : changed i (coded c) r.fields ≡ p.rec.fields =
      ap (λ (ps : List Part). (get_or ps 0 p).rec.fields) parts in
      none (get_or r.fields i no_value) at.0
      (at.1 ∙ ap (λ (vs : List Value). bytes_in (get_or vs i no_value)) fields)

-- ---- texts

short_all : (runs : List (ℕ × ℕ)) (n : ℕ) → length (joined runs) ≤ n → n ≤ 200 → AreShort runs
short_all [] n le few = tt
short_all (r ∷ runs) n le few =
    let all = length-append (replicate r.0 r.1) (joined runs) in
    let here = length-replicate r.0 r.1 in
    (omega (arith, all, here, le, few), short_all runs n (omega (arith, all, here, le)) few)

-- bytes that are the code of no text are that of no value
pub none_text : (most : ℕ) (bytes : List ℕ) → most ≤ 200 → IsUnrle most bytes None
    → IsRead (code_of code.Rle) (kind.Text most) bytes None
none_text most bytes few none (value.Text text) fits e =
    none text (record {
      fits = fits;
      short = short_all (runs_of text) most
          (subst (λ (n : ℕ). n ≤ most) (ap length (sym (runs_joined text))) fits.0) few;
    }) e
none_text most bytes few none (value.Int n) fits e = absurd fits
none_text most bytes few none (value.Bytes b) fits e = absurd fits

-- lists of one item
