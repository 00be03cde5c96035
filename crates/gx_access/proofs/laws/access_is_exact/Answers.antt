use Rattle.gx_stack.specs.Seen.{tree_of}
use Rattle.gx_stack.proofs.Children.{union_from_internal}
use Rattle.gx_access.proofs.Induction.{access_is, data_is}
use Rattle.gx_access.proofs.LeafLemmas.{access_leaves, fewer_data}
use Rattle.gx_access.proofs.HeldLemmas.{held_by}
use Rattle.gx_access.proofs.SpanLemmas.{held_inside}
use Rattle.gx_access.proofs.laws.access_is_exact.Goals as goal

pub returns-clause-access : goal.returns-clause-access
returns-clause-access g c = λ ch found.
    access_is g.M.Mapping.rule g.M.Arranged.arranged g.met.M.Arranged.arranges
    (tree_of c.args.node.now) ch c.requires found

pub returns-clause-held : goal.returns-clause-held
returns-clause-held g c = λ ch R maps found set internal.
    let rule = g.M.Mapping.rule in
    let t = tree_of c.args.node.now in
    held_by rule t ch R maps
    (access_is rule g.M.Arranged.arranged g.met.M.Arranged.arranges t ch c.requires found) set
    (union_from_internal rule t R maps internal)

pub returns-clause-inside : goal.returns-clause-inside
returns-clause-inside g c = λ ch R maps span found set internal whole.
    held_inside g.M.Mapping.rule (tree_of c.args.node.now) ch R maps span whole set
    (returns-clause-held g c ch R maps found set internal)

pub returns-clause-same : goal.returns-clause-same
returns-clause-same g c = λ ch r found of.
    data_is g.M.Mapping.rule g.M.Arranged.arranged g.met.M.Arranged.arranges
    (tree_of c.args.node.now) ch r found of

pub returns-clause-leaves : goal.returns-clause-leaves
returns-clause-leaves g c = λ ch found.
    access_leaves g.M.Mapping.rule g.M.Arranged.arranged g.met.M.Arranged.data_children
    (tree_of c.args.node.now) ch c.requires found

pub returns-clause-fewer : goal.returns-clause-fewer
returns-clause-fewer g c = λ r. fewer_data g.M.Mapping.rule (tree_of c.args.node.now) r
