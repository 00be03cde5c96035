use Rattle.gx_commands.proofs.LineLaws.{ended_at, not_ended}
use Rattle.gx_reader.proofs.reader.run_len.Goals as goal

pub returns-in-Some-clause-clean : goal.returns-in-Some-clause-clean
returns-in-Some-clause-clean c =
    (ended_at 10 c.args.text.now c.memchr.result c.in-Some.at c.memchr.ensures c.in-Some.is).0

pub returns-in-Some-clause-within : goal.returns-in-Some-clause-within
returns-in-Some-clause-within c =
    (ended_at 10 c.args.text.now c.memchr.result c.in-Some.at c.memchr.ensures c.in-Some.is).1.0

pub returns-in-Some-clause-ended : goal.returns-in-Some-clause-ended
returns-in-Some-clause-ended c =
    λ _. (ended_at 10 c.args.text.now c.memchr.result c.in-Some.at c.memchr.ensures
    c.in-Some.is).1.1

pub returns-in-None-clause-clean : goal.returns-in-None-clause-clean
returns-in-None-clause-clean c =
    not_ended 10 c.args.text.now c.memchr.result _ c.memchr.ensures c.in-None.is
