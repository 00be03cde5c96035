use Rattle.std.proofs.Common.{◌∙◌, get_or}
use Rattle.gx_states.proofs.StoredLemmas.{tree_read, tree_for}
use Rattle.gx_states.proofs.files.file_node.Goals as goal

pub returns-clause-tree : goal.returns-clause-tree
returns-clause-tree c = tree_read c.args.built.now.files c.args.file c.index.result.now c.requires
    (c.index.ensures ∙ (λ i. get_or (c.built.view_is i).files
    (c.from.ensures i) c.index.result.now))

pub returns-clause-fit : goal.returns-clause-fit
returns-clause-fit c = λ schema leaves nodes.
    tree_for schema c.args.built.now.files leaves c.args.file _ c.requires
    (tree_read c.args.built.now.files c.args.file c.index.result.now c.requires
    (c.index.ensures ∙ (λ i. get_or (c.built.view_is i).files
    (c.from.ensures i) c.index.result.now))) nodes
