use Rattle.std.proofs.Common.{ap, sym, ◌∙◌}
use Rattle.std.specs.FinMap as fin
use Rattle.gx_plain_state.proofs.MapLemmas.{entries_view}
use Rattle.gx_plain_state.proofs.files.PlainFile.rows.Goals as goal

pub returns : goal.returns
returns c = c.deref.ensures.value ∙ sym (entries_view c.self.inside.rows.items c.self.invariant)
    ∙ ap (λ m. fin.entries m) c.self.view_is
