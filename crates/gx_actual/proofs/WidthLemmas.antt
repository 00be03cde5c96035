-- The widths of fields, one after the other.
use Rattle.std.proofs.Common.{◌≡◌, ℕ, zero, suc, ◌+◌, ◌<◌, ◌≤◌, List, [], ◌∷◌, length, drop, get_or, ap, sym, subst, ◌∙◌, arith}
use Rattle.gx_values.specs.declared.values.Kind.{Kind}
use Rattle.gx_values.specs.declared.values.Kind.TheVariants as kind
use Rattle.gx_values.specs.declared.records.Field.{Field}
use Rattle.gx_actual.specs.Bodies.{field_width, field_widths, IsShort, AreShort, IsShortText, AreShortTexts}

widths_from : (fs : List Field) (d : Field) (i : ℕ) → i < length fs
    → field_widths (drop i fs) ≡ field_width (get_or fs i d).kind + field_widths (drop (suc i) fs)
widths_from [] d i lt = absurd (omega arith)
widths_from (f ∷ fs) d zero lt = omega arith
widths_from (f ∷ fs) d (suc i) lt = widths_from fs d i (omega arith)

-- the width of the next field, and of those behind it
pub next_width : (fs items : List Field) (f : Field) (i : ℕ) → items ≡ fs → i < length items
    → f ≡ get_or items i f → field_widths (drop i fs) ≡ field_width f.kind + field_widths
    (drop (i + 1) fs)
next_width fs items f i same lt is =
    let in_range : i < length fs = subst (λ (l : List Field). i < length l) same lt in
    let here : f ≡ get_or fs i f = is ∙ ap (λ (l : List Field). get_or l i f) same in
    widths_from fs f i in_range
    ∙ (λ j. field_width (sym here j).kind + field_widths
    (drop (let e : suc i ≡ i + 1 = omega arith in e j) fs))

-- fields whose texts are short, and all of them not too wide, are short
pub are_short : (fs : List Field) → AreShortTexts fs → field_widths fs ≤ 65535 → AreShort fs
are_short [] texts narrow = tt
are_short (f ∷ fs) texts narrow =
    (is_short f.kind texts.0 (omega arith), are_short fs texts.1 (omega arith))
  where
    is_short : (k : Kind) → IsShortText k → field_width k ≤ 65535 → IsShort k
    is_short kind.Int text narrow = tt
    is_short (kind.Text most) text narrow = text
    is_short (kind.Bytes most) text narrow = omega arith
