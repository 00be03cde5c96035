use Rattle.std.proofs.Common.{rules, ◌<◌, length, refl, arith}
use Rattle.std.proofs.lemmas.List.{length-map}
use Rattle.gx_memory_leaves.specs.Cells.{LeafPair}
use Rattle.gx_memory_leaves.proofs.PlainLemmas.{put_workings, same_many, same_kepts, others_stay}
use Rattle.gx_memory_leaves.proofs.plain.PlainLeavesLeaves.put.Goals as goal

pub returns-clause-ok : goal.returns-clause-ok
returns-clause-ok g c = λ _.
    let lt : c.args.leaf < length c.args.self.now.leaves.items =
    omega (
      arith,
      length-map c.args.self.now.leaves.items (λ (l : LeafPair). l.working),
      c.requires.leaf,
    ) in
    put_workings c.args.self.now.leaves.items c.args.leaf c.index_mut.result.now c.put.new.self
    c.index_mut.ensures.value _ _ lt c.in_ok-put.ensures.ok

pub returns-clause-edits : goal.returns-clause-edits
returns-clause-edits g c = record {
  others = λ _ _ i other. others_stay c.args.self.now.leaves.items c.args.leaf c.put.new.self i
      other;
  fresh_others = λ _ _ i other h. h;
  keeps = record {
    leaves = same_many c.args.self.now.leaves.items c.args.leaf c.index_mut.result.now
        c.put.new.self c.index_mut.ensures.value;
    kept = same_kepts c.args.self.now.leaves.items c.args.leaf c.index_mut.result.now c.put.new.self
        c.index_mut.ensures.value _ c.in_ok-put.ensures.ok;
    kept_whole = (λ h. h, λ h. h);
    limit = refl;
    head = refl;
    calm = λ s h. h;
    silent = record { said = refl; shelf = refl; script = refl; aside = refl };
  };
  work = refl;
  ends = search rules;
  block = search rules;
}
