use Rattle.std.proofs.Common.{◌≡◌, ◌<◌, length, arith}
use Rattle.std.proofs.lemmas.Grind.{common_steps}
use Rattle.gx_working.proofs.CountLemmas.{some_count, no_count}
use Rattle.gx_working.proofs.summary.found.Goals as goal

pub returns-then-is_empty : goal.returns-then-is_empty
returns-then-is_empty c = λ n tells.
    let none : length c.last_digits-digits.result.now ≡ 0 = grind (arith, common_steps) in
    no_count c.args.answer.now c.last_digits-digits.result.now n c.last_digits-digits.ensures none
    tells

pub returns-else-is_empty : goal.returns-else-is_empty
returns-else-is_empty c = λ n tells.
    let some : 0 < length c.last_digits-digits.result.now = grind (arith, common_steps) in
    some_count c.args.answer.now c.last_digits-digits.result.now n c.last_digits-digits.ensures some
    tells
