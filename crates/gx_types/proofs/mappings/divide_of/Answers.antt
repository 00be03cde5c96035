use Rattle.gx_divide.specs.Rules.{divide_rule}
use Rattle.gx_types.proofs.mappings.divide_of.Goals as goal

pub returns : goal.returns
returns c =
    let form = c.in_ok-divide.ensures.form in
    let size = c.in_ok-divide.ensures.size in
    (tt, λ i. divide_rule (form i) (size i))
