use Rattle.std.proofs.Common.{sym, refl}
use Rattle.gx_edits.proofs.one_record.before_changes.Goals as goal

pub returns-then-others_stay : goal.returns-then-others_stay
returns-then-others_stay c = λ key values. sym (c.others_stay.ensures c.if-others_stay.true values)

pub returns-else-others_stay : goal.returns-else-others_stay
returns-else-others_stay c = λ key values. refl
