use Rattle.std.proofs.Common.{sym, subst}
use Rattle.gx_mapping.specs.Rule.{In}
use Rattle.gx_gather.proofs.Lists.{IsOnce}
use Rattle.gx_stack.specs.Seen.{tree_of}
use Rattle.gx_access.specs.Access.{fragments_of}
use Rattle.gx_gets.proofs.AtKey.{at_key, at_no_key}
use Rattle.gx_gets.proofs.LeafLemmas.{data_once, once_chosen, leaf_chosen, same_leaf}
use Rattle.gx_access.proofs.HeldLemmas.{held_by}
use Rattle.gx_access.proofs.Induction.{access_is}
use Rattle.gx_access.proofs.LeafLemmas.{access_leaves}
use Rattle.gx_access.proofs.SpanLemmas.{held_inside}
use Rattle.gx_stack.proofs.Children.{union_from_internal}
use Rattle.gx_gets.proofs.laws.entries_at_key.Goals as goal

pub returns-clause-there : goal.returns-clause-there
returns-clause-there g c = λ ch R maps span r f found set internal whole is there few.
    let rule = g.M.Mapping.rule in
    let t = tree_of c.args.node.now in
    let held = held_inside rule t ch R maps span whole set
    (held_by rule t ch R maps
    (access_is rule g.M.Arranged.arranged g.met.M.Arranged.arranges t ch c.requires found) set
    (union_from_internal rule t R maps internal)) in
    let leaves = access_leaves rule g.M.Arranged.arranged g.met.M.Arranged.data_children t ch
    c.requires found in
    let once = once_chosen ch r (subst IsOnce (sym leaves) (data_once rule t c.requires)) in
    at_key rule t ch R maps span held r is f there
    (subst (In f.leaf) leaves (leaf_chosen ch r f there))
    (λ x h same. same_leaf (fragments_of ch r) f x once there h same) few

pub returns-clause-none : goal.returns-clause-none
returns-clause-none g c = λ ch R maps span n found set internal whole none leaf_in.
    let rule = g.M.Mapping.rule in
    let t = tree_of c.args.node.now in
    at_no_key rule t ch R maps span (held_inside rule t ch R maps span whole set
    (held_by rule t ch R maps
    (access_is rule g.M.Arranged.arranged g.met.M.Arranged.arranges t ch c.requires found) set
    (union_from_internal rule t R maps internal))) none n leaf_in
