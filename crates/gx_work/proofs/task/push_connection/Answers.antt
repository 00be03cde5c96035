use Rattle.std.proofs.Common.{codes}
use Rattle.std.specs.Fmt.{decimal}
use Rattle.gx_work.specs.Tasks.{department_of}
use Rattle.gx_work.proofs.TextLemmas.{five_pieces}
use Rattle.gx_work.proofs.task.push_connection.Goals as goal
use Rattle.std.proofs.Common.{ap, ◌∙◌, ◌++◌}

pub returns : goal.returns
returns c =
    let i = c.args.number in
    five_pieces c.args.out.now.items c.extend_from_slice.new.self.items c.push_number.new.out.items
    c.push.new.self.items c.push_number-2.new.out.items c.extend_from_slice-2.new.self.items
    (codes "connect works ") (decimal (department_of i)) (codes " ") (decimal i) (codes "\n")
    c.in_ok-extend_from_slice.ensures.items (c.in_ok-push_number.ensures
    ∙ ap (λ k. c.extend_from_slice.new.self.items ++ decimal k) c.owner.ensures)
    c.in_ok-push.ensures.items c.in_ok-push_number-2.ensures
    c.in_ok-extend_from_slice-2.ensures.items
