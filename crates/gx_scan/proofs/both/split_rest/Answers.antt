use Rattle.std.proofs.Common.{◌++◌, ◌∙◌, sym, ap, subst}
use Rattle.gx_actual.specs.Bodies.{field_bytes, body_of}
use Rattle.gx_codec.specs.Stored.{stored_value, stored_values, HasCode, HaveCodes}
use Rattle.gx_scan.proofs.BothLemmas.{stored_front}
use Rattle.gx_scan.proofs.both.split_rest.Goals as goal

pub returns-in_err-front : goal.returns-in_err-front
returns-in_err-front c = λ v more fits is.
    let codes = c.args.rest.codes.now in
    let front = stored_front codes v more is.0 in
    let code = sym c.split_code-code.ensures.first in
    let others = sym c.split_code-code.ensures.others in
    let has = subst (λ o. HasCode o v) code front.0 in
    let bytes = is.1 ∙ ap body_of front.2
    ∙ (λ j. field_bytes (stored_value (code j) v) ++ body_of (stored_values (others j) more)) in
    let left = body_of (stored_values c.split_code-code.result.1.now more) in
    absurd (c.in_err-front.ensures v left fits has bytes)

pub returns : goal.returns
returns c = λ v more fits is.
    let codes = c.args.rest.codes.now in
    let front = stored_front codes v more is.0 in
    let code = sym c.split_code-code.ensures.first in
    let others = sym c.split_code-code.ensures.others in
    let has = subst (λ o. HasCode o v) code front.0 in
    let bytes = is.1 ∙ ap body_of front.2
    ∙ (λ j. field_bytes (stored_value (code j) v) ++ body_of (stored_values (others j) more)) in
    let left = body_of (stored_values c.split_code-code.result.1.now more) in
    let read = c.in_ok-front.ensures v left fits has bytes in
    (has, read.0, (subst (λ cs. HaveCodes cs more) others front.1, read.1))
