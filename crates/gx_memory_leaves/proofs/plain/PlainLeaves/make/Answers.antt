use Rattle.std.proofs.Common.{ap, refl, ◌∙◌}
use Rattle.gx_memory_leaves.specs.Cells.{LeafPair}
use Rattle.gx_memory_leaves.specs.Pairs.{workings, kepts}
use Rattle.gx_memory_leaves.proofs.PlainLemmas.{made}
use Rattle.gx_memory_leaves.proofs.plain.PlainLeaves.make.Goals as goal

pub returns-in-Ok-clause-working : goal.returns-in-Ok-clause-working
returns-in-Ok-clause-working g c = ap workings c.in-Ok.ensures
    ∙ made (λ (l : LeafPair). l.working) refl c.args.leaves

pub returns-in-Ok-clause-kept : goal.returns-in-Ok-clause-kept
returns-in-Ok-clause-kept g c = ap kepts c.in-Ok.ensures
    ∙ made (λ (l : LeafPair). l.kept) refl c.args.leaves
