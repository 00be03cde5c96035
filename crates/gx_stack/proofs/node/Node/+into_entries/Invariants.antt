use Rattle.std.proofs.Common.{◌≡◌, ◌++◌, length, map}
use Rattle.std.specs.Vec.Iter.{into_iter_items, into_iter_len}
use Rattle.std.specs.List.{flat_map}
use Rattle.gx_mapping.specs.declared.parts.Part.{Part}
use Rattle.gx_mapping.specs.Rule.{In}
use Rattle.gx_stack.specs.Tree.{height, entries_of, kid_entries}
use Rattle.gx_stack.specs.Seen.{tree_of, kids_from}
use Rattle.gx_stack.proofs.node.Node.+into_entries.Given as goal

abbrev pub decreases-into_entries : goal.decreases-into_entries
decreases-into_entries g l = height (tree_of l.self.now)

-- what is out, and what is still to come of the record's parts
abbrev pub invariant-loop-part : goal.invariant-loop-part
invariant-loop-part g l = let rule = g.M.Mapping.rule in record {
  many : into_iter_len l.part-iterator ≡ length (into_iter_items l.part-iterator);
  among : (p : Part) → In p (into_iter_items l.part-iterator)
      → In p ((rule l.layer.mapping).parts l.fn.rec);
  so_far : l.out.items ++ flat_map
      (λ p. kid_entries rule (kids_from (map tree_of l.layer.kids.items)) p.child p.rec)
      (into_iter_items l.part-iterator) ≡ l.fn.out.items
      ++ entries_of rule (tree_of l.fn.self) l.fn.rec;
}
