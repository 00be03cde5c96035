use Rattle.std.proofs.Common.{◌≡◌, take, Some, get_or, subst, suc, ◌+◌, arith, rules}
use Rattle.gx_hash.specs.Buckets.{through_zero}
use Rattle.gx_hash.proofs.BucketLemmas.{through_here, through_none}
use Rattle.gx_hash.proofs.buckets.through_zero.Goals as goal

pub returns-then-byte-eq0 : goal.returns-then-byte-eq0
returns-then-byte-eq0 c =
    let more : suc c.loop-last.last ≡ c.loop-last.last + 1 = omega arith in
    let zero : get_or c.args.key.now c.loop-last.last 0 ≡ 0 = search rules in
    subst (λ n. through_zero c.args.key.now ≡ Some (take n c.args.key.now)) more
    (through_here c.args.key.now c.loop-last.last c.loop-last-test.true c.loop-last.invariant zero)

pub returns : goal.returns
returns c =
    let over = c.loop-last-test.false in
    through_none c.args.key.now (λ k less. c.loop-last.invariant k (omega (arith, less, over)))
