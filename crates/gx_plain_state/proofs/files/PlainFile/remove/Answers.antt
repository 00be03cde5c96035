use Rattle.std.proofs.Common.{ap, ◌∙◌}
use Rattle.std.specs.FinMap as fin
use Rattle.gx_plain_state.proofs.MapLemmas.{remove_view, sorted_without}
use Rattle.gx_plain_state.proofs.files.PlainFile.remove.Goals as goal

pub invariant_of-self : goal.invariant_of-self
invariant_of-self c = sorted_without c.self.inside.rows.items c.remove_row.new.rows.items
    c.args.key.now c.self.invariant c.remove_row.ensures

pub returns : goal.returns
returns c = remove_view c.self.inside.rows.items c.remove_row.new.rows.items c.args.key.now
    c.self.invariant c.remove_row.ensures ∙ ap (λ m. fin.remove m c.args.key.now) c.self.view_is
