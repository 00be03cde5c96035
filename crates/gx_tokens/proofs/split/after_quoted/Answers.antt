use Rattle.std.proofs.Common.{arith}
use Rattle.gx_tokens.proofs.QuoteLaws.{goes_on, ends_here, never_ends}
use Rattle.gx_tokens.proofs.split.after_quoted.Goals as goal

pub loop-after-preserved : goal.loop-after-preserved
loop-after-preserved c = (
  goes_on c.args.bytes.now c.loop-after.rest.now c.loop-after.invariant.0 c.in-Some.after.now
      c.in-Some-after_second.second.now c.in-Some.ensures.value
      c.in-Some-after_second.ensures.value,
  omega (
    arith,
    c.in-Some.ensures.shorter,
    c.in-Some-after_second.ensures.shorter,
    c.loop-after.invariant.1,
  ),
)

pub returns-in-None-clause-value : goal.returns-in-None-clause-value
returns-in-None-clause-value c =
    ends_here c.args.bytes.now c.loop-after.rest.now c.loop-after.invariant.0 c.in-Some.after.now
    c.in-Some.ensures.value c.in-None.ensures.value

pub returns-clause-value : goal.returns-clause-value
returns-clause-value c =
    never_ends c.args.bytes.now c.loop-after.rest.now c.loop-after.invariant.0
    c.in_default.ensures.value
