use Rattle.std.proofs.Common.{sym, subst, arith}
use Rattle.gx_journal.specs.Sources.{IsListed}
use Rattle.gx_journal.proofs.ForgetLemmas.{listed_none, none_left}
use Rattle.gx_journal.proofs.commit.clear.Goals as goal

pub returns-clause-none : goal.returns-clause-none
returns-clause-none c =
    none_left c.loop-i.i c.args.listed.now.items c.loop-i.spilled.items
    (omega (arith, c.loop-i-test.false)) c.loop-i.invariant.left

pub returns-clause-listed : goal.returns-clause-listed
returns-clause-listed c = subst (IsListed c.loop-i.spilled.items) (sym c.clear.ensures.items)
    (listed_none c.loop-i.spilled.items
    (none_left c.loop-i.i c.args.listed.now.items c.loop-i.spilled.items
    (omega (arith, c.loop-i-test.false)) c.loop-i.invariant.left))
