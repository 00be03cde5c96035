-- The span of the keys that begin with one value.
use Rattle.std.proofs.Common.{◌≡◌, ◌<◌, ℕ, List, [], ◌∷◌, ◌++◌, length, ◌∙◌, arith, append_assoc}
use Rattle.gx_laws.proofs.ListLemmas.{right_empty}
use Rattle.gx_values.specs.declared.values.Value.{Value}
use Rattle.gx_values.specs.declared.values.Op.TheVariants as op
use Rattle.gx_values.specs.declared.records.Field.{Field}
use Rattle.gx_values.specs.declared.records.Form.{Form}
use Rattle.gx_values.specs.declared.keys.Span.{Span}
use Rattle.gx_values.specs.Values.{Fits, AreFit, first_kind}
use Rattle.gx_values.specs.Keys.{bytes_of, key_of, is_inside}
use Rattle.gx_values.specs.Spans.{HoldsThoseMet, IsValueSpan}
use Rattle.gx_stack.specs.Selected.{IsKeySpan}
use Rattle.gx_links.specs.Spans.{begins_with}

-- no key is a proper prefix of an end, where no first value's bytes are
pub whole_span : (form : Form) (span : Span) → 0 < length form.keys
    → IsValueSpan (first_kind form.keys) span → IsKeySpan form span
whole_span form span some whole = record {
  lo_whole = λ key rest fits e. go form.keys key some span.lo rest whole.lo_whole fits e;
  hi_whole = λ key rest fits e. go form.keys key some span.hi rest whole.hi_whole fits e;
}
  where
    go : (fs : List Field) (key : List Value) → 0 < length fs → (end rest : List ℕ)
        → ((v : Value) (more : List ℕ) → Fits (first_kind fs) v → end ≡ bytes_of v ++ more
        → more ≡ []) → AreFit fs key → end ≡ key_of key ++ rest → rest ≡ []
    go [] key some end rest whole fits e = absurd (omega arith)
    go (f ∷ fs) [] some end rest whole fits e = absurd fits
    go (f ∷ fs) (v ∷ key) some end rest whole fits e =
        right_empty (key_of key) rest
        (whole v (key_of key ++ rest) fits.0 (e ∙ append_assoc (bytes_of v) (key_of key) rest))

pub inside_span : (fs : List Field) (v : Value) (span : Span) → 0 < length fs
    → HoldsThoseMet (first_kind fs) op.Equal v span → (key : List Value) → AreFit fs key
    → is_inside span.lo span.hi (key_of key) ≡ begins_with v key
inside_span [] v span some those key fits = absurd (omega arith)
inside_span (f ∷ fs) v span some those [] fits = absurd fits
inside_span (f ∷ fs) v span some those (x ∷ key) fits = those x (key_of key) fits.0
