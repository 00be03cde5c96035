use Rattle.std.proofs.Common.{rules, ◌≡◌, ◌∙◌, sym, ap, Some}
use Rattle.gx_hash.specs.Buckets.{hash_bucket, whole_front}
use Rattle.gx_hash.proofs.BucketLemmas.{one_bucket}
use Rattle.gx_hash.proofs.spans.only_bucket.Goals as goal

pub returns-then-eq-clause-only : goal.returns-then-eq-clause-only
returns-then-eq-clause-only c key inside =
    let spec = c.args.place.now.spec in
    let lo = c.args.span.now.lo in
    let hi = c.args.span.now.hi in
    let low : whole_front spec.first lo ≡ Some c.in_ok-lo.lo.now = search rules in
    let high : whole_front spec.first hi ≡ Some c.in_ok-hi.hi.now = search rules in
    let same : c.in_ok-hi.hi.now ≡ c.in_ok-lo.lo.now = search rules in
    let at : c.bucket.result ≡ hash_bucket spec lo = search rules in
    one_bucket spec lo hi c.in_ok-lo.lo.now low (high ∙ ap Some same) key inside ∙ sym at
