use Rattle.std.proofs.Common.{ap, sym, ◌∙◌}
use Rattle.std.specs.FinMap as fin
use Rattle.gx_values.specs.Values.{value_cmp}
use Rattle.gx_plain_state.proofs.MapLemmas.{get_view}
use Rattle.gx_plain_state.proofs.files.PlainFile.get.Goals as goal

pub returns : goal.returns
returns c =
    c.find_values.ensures ∙ ap (fin.find value_cmp c.args.key.now) c.deref.ensures.value
    ∙ sym (get_view c.self.inside.rows.items c.args.key.now c.self.invariant)
    ∙ ap (λ m. fin.get m c.args.key.now) c.self.view_is
