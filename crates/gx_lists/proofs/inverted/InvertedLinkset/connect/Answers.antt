use Rattle.std.proofs.Common.{◌<◌, ◌≤◌, ◌+◌, List, length, sym, subst, arith}
use Rattle.gx_ports.specs.LeafMaps.{LeafMap}
use Rattle.gx_stack.specs.Seen.{tree_of}
use Rattle.gx_links.specs.Links.{members_of}
use Rattle.gx_links.specs.Linksets.{steps_for}
use Rattle.gx_links.specs.Rows.{IsHeldLink, two_nodes}
use Rattle.gx_links.proofs.JoinLemmas.{connect_still}
use Rattle.gx_lists.specs.Inverted.{inverted_rows, inverted_rule}
use Rattle.gx_lists.proofs.inverted.InvertedLinkset.connect.Goals as goal

pub put_pair-requires-clause-below : goal.put_pair-requires-clause-below
put_pair-requires-clause-below g c = λ n h.
    subst (λ (maps : List LeafMap). n < length maps)
    (sym c.count_members.ensures.reads.reads.working) (c.requires.below n h)

pub returns-clause-joined : goal.returns-clause-joined
returns-clause-joined g c = λ link whole can.
    let b = g.B.View in
    let rule = g.M.Mapping.rule in
    let down = tree_of c.args.self.now.down.now in
    let up = tree_of c.args.self.now.up.now in
    let read = c.in_ok-count_members.ensures in
    let counted = read.count.counted whole link can.is_link can.is_held in
    let still = connect_still (inverted_rule rule down up)
    (IsHeldLink rule (two_nodes down up) inverted_rows)
    (b.working c.args.leaves.now) (b.working c.count_members.new.leaves) link c.args.member.now
    read.reads.reads.working can in
    let room : length (members_of link c.args.owner.now) < 500 =
    omega (arith, counted, c.if-branch-ge-MOST_MEMBERS.false) in
    (room, c.in_ok-put_pair.ensures.connected link (read.reads.ends.whole whole) still tt)

pub returns-clause-steps : goal.returns-clause-steps
returns-clause-steps g c = λ link whole can.
    let b = g.B.View in
    let rule = inverted_rule g.M.Mapping.rule (tree_of c.args.self.now.down.now)
    (tree_of c.args.self.now.up.now) in
    let few = c.in_ok-count_members.ensures.count.few_steps whole link can.is_link can.is_held in
    subst (λ n. n ≤ b.work c.args.leaves.now + steps_for rule link c.args.owner.now)
    (sym c.in_ok-put_pair.ensures.work) few
