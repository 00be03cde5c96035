use Rattle.std.proofs.Common.{subst}
use Rattle.gx_stack.specs.Seen.{tree_of}
use Rattle.gx_links.specs.Rows.{node_rows}
use Rattle.gx_links.specs.Pairs.{AreBothHeld}
use Rattle.gx_lists.specs.Inverted.{inverted_rows}
use Rattle.gx_lists.proofs.InvertedPairs.{inverted_held}
use Rattle.gx_lists.proofs.InvertedLemmas.{down_leaf, up_leaf, down_set, up_set}
use Rattle.gx_lists.proofs.inverted.InvertedLinkset.pairs.Goals as goal

pub held_both-requires-clause-first_below : goal.held_both-requires-clause-first_below
held_both-requires-clause-first_below g c = λ n h. c.requires.below n
    (down_leaf g.M.Mapping.rule (tree_of c.args.self.now.down.now) (tree_of c.args.self.now.up.now)
    c.requires.valid n h)

pub held_both-requires-clause-second_below : goal.held_both-requires-clause-second_below
held_both-requires-clause-second_below g c = λ n h. c.requires.below n
    (up_leaf g.M.Mapping.rule (tree_of c.args.self.now.down.now) (tree_of c.args.self.now.up.now)
    c.requires.valid n h)

pub returns-in_default-clause-pairs : goal.returns-in_default-clause-pairs
returns-in_default-clause-pairs g c = λ w has.
    let rule = g.M.Mapping.rule in
    let down = tree_of c.args.self.now.down.now in
    let up = tree_of c.args.self.now.up.now in
    let old = c.args.leaves.now in
    let none = subst (AreBothHeld rule down up (g.B.View.whole old) (g.B.View.working old))
    c.in_default.is c.in_ok-down.ensures.held in
    none w (
      node_rows inverted_rows has.0 0,
      down_set rule down up c.requires.valid has.0 has.1,
      has.2.0,
    ) (
      node_rows inverted_rows has.0 1,
      up_set rule down up c.requires.valid has.0 has.1,
      has.2.1.0,
    )

pub returns-clause-pairs : goal.returns-clause-pairs
returns-clause-pairs g c =
    let rule = g.M.Mapping.rule in
    let down = tree_of c.args.self.now.down.now in
    let up = tree_of c.args.self.now.up.now in
    let whole = g.B.View.whole c.args.leaves.now in
    let maps = g.B.View.working c.args.leaves.now in
    let both = subst (AreBothHeld rule down up whole maps) c.in-Some.is c.in_ok-down.ensures.held in
    inverted_held rule g.met.M.Mapping.laws down up c.requires.valid whole maps c.in-Some.down
    c.in-Some.up c.in_ok-told.field-0 both.0 both.1 c.in_ok-told.ensures
