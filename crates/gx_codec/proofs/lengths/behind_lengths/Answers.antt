use Rattle.std.proofs.Common.{◌≡◌, ◌∙◌, ◌*◌, length, drop, arith, ap}
use Rattle.gx_codec.proofs.LengthLemmas.{values_behind}
use Rattle.gx_codec.proofs.lengths.behind_lengths.Goals as goal

pub returns-in_err-values : goal.returns-in_err-values
returns-in_err-values c = λ r same.
    let long = (values_behind c.args.lengths r).long in
    absurd (omega (arith, long, ap length same, c.in_err-values.ensures.cases))

pub returns : goal.returns
returns c = λ r same.
    let back : c.in_ok-values.values.now ≡ drop (2 * c.args.lengths) c.args.body.now =
    c.in_ok-values.ensures.cases.2 in
    back ∙ ap (drop (2 * c.args.lengths)) same ∙ (values_behind c.args.lengths r).is
