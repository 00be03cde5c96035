use Rattle.std.proofs.Common.{subst}
use Rattle.gx_stack.specs.Seen.{tree_of}
use Rattle.gx_stack.specs.Held.{IsHeld}
use Rattle.gx_links.specs.Rows.{node_rows}
use Rattle.gx_lists.specs.Arrays.{array_rows}
use Rattle.gx_lists.proofs.ArrayLemmas.{in_leaves, rows_set}
use Rattle.gx_lists.proofs.ArrayPairs.{array_held}
use Rattle.gx_lists.proofs.array.PointerArrayLinkset.pairs.Goals as goal

pub held-requires-clause-below : goal.held-requires-clause-below
held-requires-clause-below g c = λ n h. c.requires.below n
    (in_leaves g.M.Mapping.rule (tree_of c.args.self.now.tree.now) c.args.self.now.member
    c.requires.valid n h)

pub returns-in_default-clause-pairs : goal.returns-in_default-clause-pairs
returns-in_default-clause-pairs g c = λ w has.
    let rule = g.M.Mapping.rule in
    let tree = tree_of c.args.self.now.tree.now in
    let none = subst (IsHeld rule tree (g.B.View.whole c.args.leaves.now)
    (g.B.View.working c.args.leaves.now)) c.in_default.is
    c.in_ok-found.ensures.held in
    none w (
      node_rows array_rows has.0 0,
      rows_set rule tree c.args.self.now.member c.requires.valid has.0 has.1,
      has.2.0,
    )

pub told-requires-clause-found : goal.told-requires-clause-found
told-requires-clause-found g c =
    let found = subst (IsHeld g.M.Mapping.rule (tree_of c.args.self.now.tree.now)
    (g.B.View.whole c.args.leaves.now)
    (g.B.View.working c.args.leaves.now)) c.in-Some.is c.in_ok-found.ensures.held in
    found.fit

pub returns-clause-pairs : goal.returns-clause-pairs
returns-clause-pairs g c =
    let rule = g.M.Mapping.rule in
    let tree = tree_of c.args.self.now.tree.now in
    let whole = g.B.View.whole c.args.leaves.now in
    let maps = g.B.View.working c.args.leaves.now in
    let found = subst (IsHeld rule tree whole maps) c.in-Some.is c.in_ok-found.ensures.held in
    array_held rule tree c.args.self.now.member c.requires.valid g.met.M.Mapping.laws whole maps
    c.in-Some.found c.in_ok-told.field-0 found
    c.in_ok-told.ensures
