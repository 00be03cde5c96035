use Rattle.std.proofs.Common.{ℕ, List, length, ap, sym, ◌∙◌}
use Rattle.std.specs.Prelude.{nat_eq}
use Rattle.std.specs.Ordering.{is_eq}
use Rattle.gx_values.specs.Values.{value_cmp, default_in}
use Rattle.gx_values.proofs.DefaultLemmas.{none_default}
use Rattle.gx_values.proofs.defaults.is_default.Goals as goal

pub returns-in-Text-Text : goal.returns-in-Text-Text
returns-in-Text-Text c =
    let text = c.is_empty.ensures ∙ ap (λ (t : List ℕ). nat_eq (length t) 0) c.as_slice.ensures
    ∙ none_default c.in-Text-Text.text in
    text ∙ (λ i. is_eq (value_cmp (sym c.in-Text-Text.is-1 i)
    (default_in (sym c.in-Text-Text.is-0 i))))

pub returns-in-Bytes-Bytes : goal.returns-in-Bytes-Bytes
returns-in-Bytes-Bytes c =
    let bytes = c.is_empty-in-Bytes-Bytes.ensures
    ∙ ap (λ (t : List ℕ). nat_eq (length t) 0) c.as_slice-in-Bytes-Bytes.ensures
    ∙ none_default c.in-Bytes-Bytes.bytes in
    bytes ∙ (λ i. is_eq (value_cmp (sym c.in-Bytes-Bytes.is-1 i)
    (default_in (sym c.in-Bytes-Bytes.is-0 i))))
