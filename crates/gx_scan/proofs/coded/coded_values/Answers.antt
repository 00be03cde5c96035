use Rattle.std.proofs.Common.{◌≡◌, sym, subst}
use Rattle.std.specs.Prelude.{IsSomeAnd}
use Rattle.gx_values.specs.Values.{AreFit}
use Rattle.gx_actual.specs.Bodies.{body_of}
use Rattle.gx_scan.specs.Files.{rec_of}
use Rattle.gx_codec.specs.Stored.{stored_rec, stored_values}
use Rattle.gx_scan.proofs.coded.coded_values.Goals as goal

pub returns-in-Some-clause-read : goal.returns-in-Some-clause-read
returns-in-Some-clause-read c = λ r is same.
    let cs = c.args.place.now.codes in
    let values = subst (λ o. IsSomeAnd o (λ values. values.now ≡ body_of (stored_values cs r.1)))
    c.in-Some.is (c.behind_lengths.ensures (stored_rec cs (rec_of r)) same) in
    let fit = subst (λ fs. AreFit fs r.1) (sym c.data_fields.ensures) is.0.1 in
    c.read_stored.ensures.read r.1 fit is.1 values

pub returns-in-None-clause-read : goal.returns-in-None-clause-read
returns-in-None-clause-read c = λ r is same.
    let cs = c.args.place.now.codes in
    absurd (subst (λ o. IsSomeAnd o (λ values. values.now ≡ body_of (stored_values cs r.1)))
    c.in-None.is (c.behind_lengths.ensures (stored_rec cs (rec_of r)) same))
