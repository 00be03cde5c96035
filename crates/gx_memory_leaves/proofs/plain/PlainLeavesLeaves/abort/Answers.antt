use Rattle.std.proofs.Common.{refl, ap, ◌∙◌, length}
use Rattle.gx_memory_leaves.specs.Cells.{LeafPair}
use Rattle.gx_memory_leaves.specs.Pairs.{as_many}
use Rattle.gx_memory_leaves.specs.declared.undo.End.TheVariants.{Abort}
use Rattle.gx_memory_leaves.proofs.PlainLemmas.{written}
use Rattle.gx_memory_leaves.proofs.plain.PlainLeavesLeaves.abort.Goals as goal

pub returns-clause-back : goal.returns-clause-back
returns-clause-back g c = record {
  working = written c.args.self.now.leaves Abort (λ (l : LeafPair). l.working)
      (λ (l : LeafPair). l.kept) (λ l. refl) c.deref_mut.result.now c.settle_leaves.new.leaves
      c.deref_mut.ensures.value c.deref_mut.ensures.len c.settle_leaves.ensures;
  whole = (λ h. h, λ h. h);
  unchanged = tt;
}

pub returns-clause-keeps : goal.returns-clause-keeps
returns-clause-keeps g c =
    let kept = written c.args.self.now.leaves Abort (λ (l : LeafPair). l.kept)
    (λ (l : LeafPair). l.kept) (λ l. refl) c.deref_mut.result.now c.settle_leaves.new.leaves
    c.deref_mut.ensures.value c.deref_mut.ensures.len c.settle_leaves.ensures in
    let working = written c.args.self.now.leaves Abort (λ (l : LeafPair). l.working)
    (λ (l : LeafPair). l.kept) (λ l. refl) c.deref_mut.result.now c.settle_leaves.new.leaves
    c.deref_mut.ensures.value c.deref_mut.ensures.len c.settle_leaves.ensures in record {
      leaves = ap length working ∙ as_many c.args.self.now.leaves.items;
      kept = kept;
      kept_whole = (λ h. h, λ h. h);
      limit = refl;
      head = refl;
      calm = λ s h. h;
      silent = record { said = refl; shelf = refl; script = refl; aside = refl };
    }
