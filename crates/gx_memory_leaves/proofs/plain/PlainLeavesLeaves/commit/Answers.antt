use Rattle.std.proofs.Common.{refl}
use Rattle.gx_memory_leaves.specs.Cells.{LeafPair}
use Rattle.gx_memory_leaves.specs.declared.undo.End.TheVariants.{Commit}
use Rattle.gx_memory_leaves.proofs.PlainLemmas.{written}
use Rattle.gx_memory_leaves.proofs.plain.PlainLeavesLeaves.commit.Goals as goal

pub returns-clause-kept : goal.returns-clause-kept
returns-clause-kept g c = record {
  kept = written c.args.self.now.leaves Commit (λ (l : LeafPair). l.kept)
      (λ (l : LeafPair). l.working) (λ l. refl) c.deref_mut.result.now c.settle_leaves.new.leaves
      c.deref_mut.ensures.value c.deref_mut.ensures.len c.settle_leaves.ensures;
  working = written c.args.self.now.leaves Commit (λ (l : LeafPair). l.working)
      (λ (l : LeafPair). l.working) (λ l. refl) c.deref_mut.result.now c.settle_leaves.new.leaves
      c.deref_mut.ensures.value c.deref_mut.ensures.len c.settle_leaves.ensures;
  kept_whole = (λ h. h, λ h. h);
  whole = λ h. h;
  fresh = λ leaf h. h;
  saved = tt;
}
