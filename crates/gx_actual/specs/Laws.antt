-- The layer keeps the laws of mappings.
use Rattle.std.proofs.Common.{inl, ◌≡◌, List, [], ◌∷◌, length, get_or, refl, sym, ap, subst, ◌∙◌, arith, append-nil, length-append}
use Rattle.std.specs.Prelude.{ℕ, ◌≤◌, ◌<◌}
use Rattle.gx_values.specs.declared.values.Kind.{Kind}
use Rattle.gx_values.specs.declared.values.Kind.TheVariants as kind
use Rattle.gx_values.specs.declared.values.Value.{Value}
use Rattle.gx_values.specs.declared.values.Value.TheVariants as value
use Rattle.gx_values.specs.declared.records.Field.{Field}
use Rattle.gx_values.specs.declared.records.Form.{Form}
use Rattle.gx_values.specs.declared.records.Rec.{Rec}
use Rattle.gx_values.specs.Values.{Fits, AreFit}
use Rattle.gx_mapping.specs.declared.parts.Part.{Part}
use Rattle.gx_mapping.specs.Rule.{IsOf}
use Rattle.gx_mapping.specs.Laws.{MappingLaws}
use Rattle.gx_mapping.proofs.RuleLemmas.{the_one, sorted_one}
use Rattle.gx_actual.specs.Bodies.{field_bytes, body_of, field_width, field_widths, AreShort}
use Rattle.gx_actual.specs.BodyLaws.{same_body}
use Rattle.gx_actual.specs.Forms.{actual_form}
use Rattle.gx_actual.specs.Rules.{actual_part, actual_rule}

-- ---- the body fits its field

value_width : (k : Kind) (v : Value) → Fits k v → length (field_bytes v) ≤ field_width k
value_width kind.Int (value.Int n) h = omega arith
value_width (kind.Text most) (value.Text text) h = omega (arith, h.0)
value_width (kind.Bytes most) (value.Bytes bytes) h = omega (arith, h)
value_width kind.Int (value.Text text) h = absurd h
value_width kind.Int (value.Bytes text) h = absurd h
value_width (kind.Text most) (value.Int n) h = absurd h
value_width (kind.Text most) (value.Bytes n) h = absurd h
value_width (kind.Bytes most) (value.Int n) h = absurd h
value_width (kind.Bytes most) (value.Text n) h = absurd h

pub body_width : (fs : List Field) (vs : List Value) → AreFit fs vs
    → length (body_of vs) ≤ field_widths fs
body_width [] [] h = omega arith
body_width (f ∷ fs) (v ∷ vs) h =
    omega (
      arith,
      length-append (field_bytes v) (body_of vs),
      value_width f.kind v h.0,
      body_width fs vs h.1,
    )
body_width [] (v ∷ vs) h = absurd h
body_width (f ∷ fs) [] h = absurd h

-- ---- the laws

bytes_in : Part → List ℕ
bytes_in p = bytes_first p.rec.fields
  where
    bytes_first : List Value → List ℕ
    bytes_first (value.Bytes bytes ∷ vs) = bytes
    bytes_first other = []

same_rec : (form : Form) (r s : Rec) → AreShort form.fields → IsOf form r → IsOf form s
    → actual_part r ≡ actual_part s → r ≡ s
unfolding bytes_in
same_rec form r s short f g e =
    let keys : r.key ≡ s.key = ap (λ (p : Part). p.rec.key) e in
    let fields : r.fields ≡ s.fields =
    same_body form.fields r.fields s.fields short f.fields g.fields (ap bytes_in e) in
    λ i. record { key = keys i; fields = fields i }

pub actual_laws : (form : Form) → AreShort form.fields → MappingLaws (actual_rule form)
actual_laws form short = record {
  fit = λ r p is there. subst (λ (q : Part). (q.child < 1)
      × IsOf (actual_form form) q.rec) (sym (the_one p (actual_part r) there)) (
        omega arith,
        record {
          key = is.key;
          fields = (body_width form.fields r.fields is.fields, tt);
        },
      );
  in_order = λ r is. sorted_one (actual_part r);
  apart = λ r s p q is_r is_s i j child key.
      ap (λ (x : Part). x.rec.key) (sym (the_one p (actual_part r) i)) ∙ key ∙ ap
      (λ (x : Part). x.rec.key) (the_one q (actual_part s) j);
  has_data = λ r is. (actual_part r, inl refl);
  told = λ r s is_r is_s e.
      same_rec form r s short is_r is_s (ap (λ (ps : List Part). get_or ps 0 (actual_part r)) e);
  keys_lead = λ c lt rest. ([], sym (append-nil form.keys));
  key_leads =
      λ r p is there rest.
      ([], ap (λ (x : Part). x.rec.key) (the_one p (actual_part r) there) ∙ sym (append-nil r.key));
  skipped = λ r p span is there skips. cc;
  carried = λ name c lt carries. cc;
  indexed = λ name c is. cc;
}
