use Rattle.std.proofs.Common.{ap, ◌∙◌}
use Rattle.std.specs.FinMap as fin
use Rattle.gx_plain.proofs.CommandLemmas.{owner_found}
use Rattle.gx_plain.proofs.replies.owner_line.Goals as goal

pub returns-in-Some : goal.returns-in-Some
returns-in-Some c =
    owner_found c.found_line.result c.args.schema.now c.args.state.now c.args.link c.args.member.now
    c.in-Some.owner.now c.owner_number.result c.owner_number.ensures.value
    (c.in-Some.ensures ∙ ap (λ m. fin.get m c.args.member.now) c.link.ensures)
    c.found_line.ensures
