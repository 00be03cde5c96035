use Rattle.std.proofs.Common.{◌≡◌, ◌≤◌, ◌+◌, ◌*◌, [], length, map}
use Rattle.gx_stack.specs.Tree.{height, kids_height}
use Rattle.gx_stack.specs.Seen.{tree_of, kids_from}
use Rattle.gx_access.specs.Seen.{choice_of}
use Rattle.gx_access.proofs.CompileSteps.{of_nodes, with_columns, with_choices}
use Rattle.gx_access.proofs.compile.+access.Given as goal

abbrev pub decreases-access_below : goal.decreases-access_below
decreases-access_below g l = 3 * height (tree_of l.node.now)

abbrev pub decreases-access_row : goal.decreases-access_row
decreases-access_row g l = 3 * kids_height (kids_from (map tree_of l.kids.now)) + 2

abbrev pub decreases-first_access : goal.decreases-first_access
decreases-first_access g l = 3 * kids_height (kids_from (map tree_of l.kids.now)) + 1

abbrev pub decreases-groups_access : goal.decreases-groups_access
decreases-groups_access g l = 3 * kids_height (kids_from (map tree_of l.kids.now)) + 1

abbrev pub decreases-columns_access : goal.decreases-columns_access
decreases-columns_access g l = 3 * kids_height (kids_from (map tree_of l.kids.now)) + 1

abbrev pub decreases-by_access : goal.decreases-by_access
decreases-by_access g l = 3 * kids_height (kids_from (map tree_of l.kids.now)) + 1

abbrev pub invariant-columns_access-loop-left : goal.invariant-columns_access-loop-left
invariant-columns_access-loop-left g l =
    let bs = of_nodes g.M.Mapping.rule g.M.Arranged.arranged l.fields in
    record {
      low : kids_height (kids_from (map tree_of l.left))
          ≤ kids_height (kids_from (map tree_of l.fn.kids));
      so_far : with_columns l.all.items (bs l.left) l.view.groups l.slots
          ≡ with_columns [] (bs l.fn.kids) l.view.groups l.view.slots;
    }

abbrev pub decreases-columns_access-loop-left : goal.decreases-columns_access-loop-left
decreases-columns_access-loop-left g l = length l.left

abbrev pub invariant-by_access-loop-left : goal.invariant-by_access-loop-left
invariant-by_access-loop-left g l =
    let bs = of_nodes g.M.Mapping.rule g.M.Arranged.arranged l.fields in
    record {
      low : kids_height (kids_from (map tree_of l.left))
          ≤ kids_height (kids_from (map tree_of l.fn.kids));
      so_far : with_choices (map choice_of l.accesses.items) (bs l.left) l.view
          ≡ with_choices [] (bs l.fn.kids) l.view;
    }

abbrev pub decreases-by_access-loop-left : goal.decreases-by_access-loop-left
decreases-by_access-loop-left g l = length l.left
