use Rattle.std.proofs.Common.{◌≡◌, ◌++◌, ◌∙◌, ℕ, List, sym, ap, subst}
use Rattle.gx_values.specs.declared.values.Value.TheVariants as value
use Rattle.gx_actual.specs.Bodies.{field_bytes}
use Rattle.gx_encode.specs.Codes.{code_of}
use Rattle.gx_codec.specs.Stored.{stored_value, HasCode}
use Rattle.gx_codec.proofs.StoredLemmas.{code_short}
use Rattle.gx_codec.proofs.fronts.split_stored.Goals as goal

pub returns-in_err-bytes-in-Some : goal.returns-in_err-bytes-in-Some
returns-in_err-bytes-in-Some c = λ v more fits has same.
    let code = c.in-Some.field-0 in
    let coded = subst (λ o. HasCode o v) c.in-Some.is has in
    absurd (c.in_err-bytes-in-Some.ensures.found (code_of code v) more (code_short code v coded)
    (subst (λ o. c.args.rest.now ≡ field_bytes (stored_value o v) ++ more) c.in-Some.is same))

pub returns-in_ok-bytes-in-Some : goal.returns-in_ok-bytes-in-Some
returns-in_ok-bytes-in-Some c = λ v more fits has same.
    let code = c.in-Some.field-0 in
    let coded = subst (λ o. HasCode o v) c.in-Some.is has in
    let front = c.in_ok-bytes-in-Some.ensures.found (code_of code v) more (code_short code v coded)
    (subst (λ o. c.args.rest.now ≡ field_bytes (stored_value o v) ++ more) c.in-Some.is same) in (
      ap (λ (l : List ℕ). value.Bytes l) front.0 ∙ ap (λ o. stored_value o v) (sym c.in-Some.is),
      front.1,
    )
