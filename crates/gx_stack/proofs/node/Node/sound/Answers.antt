use Rattle.std.proofs.Common.{◌≡◌, true, sym, ◌∙◌}
use Rattle.gx_stack.specs.Seen.{tree_of}
use Rattle.gx_stack.proofs.WholeNode.{found_set}
use Rattle.gx_stack.proofs.node.Node.sound.Goals as goal

pub returns-clause-yes : goal.returns-clause-yes
returns-clause-yes g c = λ e whole.
    let b = g.B.View in
    let is : c.is_some.result ≡ true = cc in
    found_set g.M.Mapping.rule (tree_of c.args.self.now) (b.whole c.args.leaves.now)
    (b.working c.args.leaves.now) c.in_ok-held.field-0 c.in_ok-held.ensures.held
    (sym c.is_some.ensures ∙ is) whole
