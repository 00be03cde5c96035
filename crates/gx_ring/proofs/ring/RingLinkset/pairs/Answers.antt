use Rattle.std.proofs.Common.{subst}
use Rattle.gx_stack.specs.Seen.{tree_of}
use Rattle.gx_links.specs.Pairs.{AreBothHeld}
use Rattle.gx_ring.proofs.FoundLemmas.{heads_below, nexts_below, heads_held, nexts_held}
use Rattle.gx_ring.proofs.RingPairs.{ring_pairs}
use Rattle.gx_ring.proofs.ring.RingLinkset.pairs.Goals as goal

pub held_both-requires-clause-first_below : goal.held_both-requires-clause-first_below
held_both-requires-clause-first_below g c = λ n h. c.requires.below n
    (heads_below g.M.Mapping.rule (tree_of c.args.self.now.heads.now)
    (tree_of c.args.self.now.chain.now) c.requires.valid n h)

pub held_both-requires-clause-second_below : goal.held_both-requires-clause-second_below
held_both-requires-clause-second_below g c = λ n h. c.requires.below n
    (nexts_below g.M.Mapping.rule (tree_of c.args.self.now.heads.now)
    (tree_of c.args.self.now.chain.now) c.requires.valid n h)

pub returns-in_default-clause-pairs : goal.returns-in_default-clause-pairs
returns-in_default-clause-pairs g c = λ w has.
    let rule = g.M.Mapping.rule in
    let heads = tree_of c.args.self.now.heads.now in
    let nexts = tree_of c.args.self.now.chain.now in
    let maps = g.B.View.working c.args.leaves.now in
    let none = subst (AreBothHeld rule heads nexts (g.B.View.whole c.args.leaves.now) maps)
    c.in_default.is c.in_ok-heads.ensures.held in
    none w (heads_held rule heads nexts c.requires.valid maps has)
    (nexts_held rule heads nexts c.requires.valid maps has)

pub returns-clause-pairs : goal.returns-clause-pairs
returns-clause-pairs g c =
    let rule = g.M.Mapping.rule in
    let heads = tree_of c.args.self.now.heads.now in
    let nexts = tree_of c.args.self.now.chain.now in
    let whole = g.B.View.whole c.args.leaves.now in
    let maps = g.B.View.working c.args.leaves.now in
    let both = subst (AreBothHeld rule heads nexts whole maps) c.in-Some.is
    c.in_ok-heads.ensures.held in
    ring_pairs rule heads nexts c.requires.valid g.met.M.Mapping.laws whole maps c.in-Some.heads
    c.in-Some.chain both.0 both.1 c.in_ok-told.field-0 c.in_ok-told.ensures
