use Rattle.std.proofs.Common.{ap, ◌∙◌}
use Rattle.std.specs.FinMap as fin
use Rattle.gx_plain_state.proofs.MapLemmas.{remove_view, sorted_without}
use Rattle.gx_plain_state.proofs.links.PlainLink.remove.Goals as goal

pub invariant_of-self : goal.invariant_of-self
invariant_of-self c = sorted_without c.self.inside.pairs.items c.remove_pair.new.pairs.items
    c.args.member.now c.self.invariant c.remove_pair.ensures

pub returns : goal.returns
returns c = remove_view c.self.inside.pairs.items c.remove_pair.new.pairs.items c.args.member.now
    c.self.invariant c.remove_pair.ensures ∙ ap (λ m. fin.remove m c.args.member.now) c.self.view_is
