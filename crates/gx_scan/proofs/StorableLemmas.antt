-- The files of a schema that some text means can be stored.
use Rattle.std.proofs.Common.{[], ◌≡◌, ℕ, zero, suc, ◌<◌, ◌≤◌, List, ◌∷◌, ◌++◌, length, get_or, drop, Bool, true, false, cond, refl, ap, ◌∙◌, arith}
use Rattle.std.specs.Prelude.{◌==◌, ◌||◌, nat_eq}
use Rattle.std.specs.Cmp.Lexicographic.{pointwise}
use Rattle.std.proofs.lemmas.Bool.{or_parts, or_from}
use Rattle.std.proofs.lemmas.Bool.Decides.{Decides-eqb}
use Rattle.std.proofs.lemmas.Slice.Eq.{slice_eq-Decides}
use Rattle.gx_values.specs.declared.values.Kind.{Kind}
use Rattle.gx_values.specs.declared.values.Kind.TheVariants as kind
use Rattle.gx_values.specs.declared.records.Field.{Field}
use Rattle.gx_values.specs.Keys.{width_of, IsKeyKind, AreKeyFields}
use Rattle.gx_values.specs.Values.{no_field}
use Rattle.gx_schema.specs.declared.schema.FileDef.{FileDef}
use Rattle.gx_schema.specs.Names.{has_field}
use Rattle.gx_mapping.specs.Rule.{is_field, first_in}
use Rattle.gx_schema.specs.Rules.{IsKind, AreFields}
use Rattle.gx_schema.proofs.WellFormedLaws.{HasRules}
use Rattle.gx_actual.specs.Bodies.{IsShort, AreShort}
use Rattle.gx_values.specs.declared.bytes.TheConstants.{MAX_KEY_LEN}
use Rattle.gx_scan.specs.Files.{IsStorable}
use Rattle.gx_scan.specs.Where.{AreNamed}

-- ---- records that can be stored

kind_short : (first : Bool) (k : Kind) → IsKind first k → IsShort k
kind_short first kind.Int is = tt
kind_short first (kind.Text most) is = omega (arith, is.1)
kind_short first (kind.Bytes most) is = absurd is

fields_short : (before fs : List Field) → AreFields before fs → AreShort fs
fields_short before [] are = tt
fields_short before (f ∷ fs) are =
    (kind_short (length before == 0) f.kind are.0.kind, fields_short (before ++ f ∷ []) fs are.1)

key_is : (first : Bool) (k : Kind) → IsKind first k → IsKeyKind k × (width_of k ≤ MAX_KEY_LEN)
key_is first kind.Int is = (tt, omega arith)
key_is first (kind.Text most) is = (tt, omega (arith, is.1))
key_is first (kind.Bytes most) is = absurd is

fields_plain : (before fs : List Field) → AreFields before fs → AreKeyFields fs
fields_plain before [] are = tt
fields_plain before (f ∷ fs) are =
    ((key_is (length before == 0) f.kind are.0.kind).0, fields_plain (before ++ f ∷ []) fs are.1)

first_stored : (fs : List Field) → AreFields [] fs → 0 < length fs
    → IsKeyKind (get_or fs 0 no_field).kind × (width_of (get_or fs 0 no_field).kind ≤ MAX_KEY_LEN)
    × AreKeyFields (drop 1 fs) × AreShort (drop 1 fs)
first_stored [] are some = absurd (omega arith)
first_stored (f ∷ fs) are some = let key = key_is true f.kind are.0.kind in
    (key.0, key.1, fields_plain (f ∷ []) fs are.1, fields_short (f ∷ []) fs are.1)

pub file_stored : (file : FileDef) → HasRules file → IsStorable file
file_stored file rules =
    let all = first_stored file.fields rules.fields rules.some in
    record { keyed = rules.some; key = all.0; key_small = all.1; others = all.2; short = all.3 }

-- ---- each data field is the first one of its name

has_more : (before : List Field) (f : Field) (name : List ℕ)
    → has_field (before ++ f ∷ []) name ≡ false
    → (has_field before name ≡ false) × (pointwise nat_eq f.name name ≡ false)
has_more [] f name h = (refl, (or_parts _ _ h).0)
has_more (g ∷ before) f name h = let p = or_parts _ _ h in let rest = has_more before f name p.1 in
    (or_from _ _ p.0 rest.0, rest.1)

not_before : (before fs : List Field) (i : ℕ) → AreFields before fs → i < length fs
    → has_field before (get_or fs i no_field).name ≡ false
not_before before [] i are lt = absurd (omega arith)
not_before before (f ∷ fs) zero are lt = are.0.new
not_before before (f ∷ fs) (suc i) are lt =
    (has_more before f (get_or fs i no_field).name
    (not_before (before ++ f ∷ []) fs i are.1 (omega arith))).0

first_of_name : (before fs : List Field) (i : ℕ) → AreFields before fs → i < length fs
    → (is_field fs (get_or fs i no_field).name ≡ true)
    × (first_in fs (get_or fs i no_field).name ≡ i)
first_of_name before [] i are lt = absurd (omega arith)
first_of_name before (f ∷ fs) zero are lt =
    let same : pointwise nat_eq f.name f.name ≡ true =
    (slice_eq-Decides Decides-eqb f.name f.name (pointwise nat_eq f.name f.name) refl).1 refl in (
      ap (λ (b : Bool). b || is_field fs f.name) same,
      ap (λ (b : Bool). cond b 0 (suc (first_in fs f.name))) same,
    )
first_of_name before (f ∷ fs) (suc i) are lt =
    let name = (get_or fs i no_field).name in
    let rest = first_of_name (before ++ f ∷ []) fs i are.1 (omega arith) in
    let other : pointwise nat_eq f.name name ≡ false =
    (has_more before f name (not_before (before ++ f ∷ []) fs i are.1 (omega arith))).1 in (
      ap (λ (b : Bool). b || is_field fs name) other ∙ rest.0,
      ap (λ (b : Bool). cond b 0 (suc (first_in fs name))) other ∙ ap suc rest.1,
    )

pub file_named : (file : FileDef) → HasRules file → AreNamed file
file_named file rules i lt = behind_key file.fields rules.fields lt
  where
    behind_key : (fs : List Field) → AreFields [] fs → i < length (drop 1 fs)
        → (is_field (drop 1 fs) (get_or (drop 1 fs) i no_field).name ≡ true)
        × (first_in (drop 1 fs) (get_or (drop 1 fs) i no_field).name ≡ i)
    behind_key [] are lt = absurd (omega arith)
    behind_key (f ∷ fs) are lt = first_of_name (f ∷ []) fs i are.1 lt
