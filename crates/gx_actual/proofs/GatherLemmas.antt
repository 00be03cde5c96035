-- What is gathered from the part of a record.
use Rattle.std.proofs.Common.{inl, ◌≡◌, ℕ, List, [], ◌∷◌, refl, sym, ap, subst, ◌∙◌, arith}
use Rattle.gx_values.specs.declared.values.Value.{Value}
use Rattle.gx_values.specs.declared.values.Value.TheVariants as value
use Rattle.gx_values.specs.declared.records.Form.{Form}
use Rattle.gx_values.specs.Values.{AreFit}
use Rattle.gx_mapping.specs.declared.parts.Part.{Part}
use Rattle.gx_mapping.specs.Rule.{In, IsOf, AreOfKey}
use Rattle.gx_mapping.proofs.RuleLemmas.{whole_key}
use Rattle.gx_actual.specs.Bodies.{body_of}
use Rattle.gx_actual.specs.Rules.{actual_part, actual_rule, body_part}

pub gathered : (form : Form) (key copy fields : List Value) (body : List ℕ) (part : Part)
    (ps : List Part) → AreOfKey (actual_rule form) key ps → ps ≡ part ∷ []
    → part.rec.fields ≡ value.Bytes body ∷ []
    → AreFit form.fields fields × (body_of fields ≡ body) → copy ≡ key
    → IsOf form (record { key = copy; fields = fields }) × (copy ≡ key)
    × (actual_part (record { key = copy; fields = fields }) ∷ [] ≡ ps)
gathered form key copy fields body part ps req is one read copied =
    let of = req.each part (subst (In part) (sym is) (inl refl)) in
    let first : part.child ≡ 0 = omega (arith, of.child) in
    let under : part.rec.key ≡ key =
    whole_key form.keys key part.rec.key req.key_fits of.fits.key of.under in
    let fields_same = ap (λ (b : List ℕ). value.Bytes b ∷ []) read.1 ∙ sym one in (
      record { key = subst (AreFit form.keys) (sym copied) req.key_fits; fields = read.0 },
      copied,
      (λ i. record {
        child = sym first i;
        rec = record { key = (copied ∙ sym under) i; fields = fields_same i };
      } ∷ []) ∙ sym is,
    )

-- the one part of a record with this key
pub the_part : (form : Form) (key : List Value) (part : Part)
    → AreOfKey (actual_rule form) key (part ∷ []) → body_part key part.rec.fields ≡ part
the_part form key part req =
    let of = req.each part (inl refl) in
    let first : part.child ≡ 0 = omega (arith, of.child) in
    let under : part.rec.key ≡ key =
    whole_key form.keys key part.rec.key req.key_fits of.fits.key of.under in
    λ i. record {
      child = sym first i;
      rec = record { key = sym under i; fields = part.rec.fields };
    }

-- lists of one item
