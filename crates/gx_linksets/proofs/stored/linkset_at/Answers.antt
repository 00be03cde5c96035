use Rattle.std.proofs.Common.{◌∙◌, subst}
use Rattle.gx_typing.specs.Dues.{member_kind}
use Rattle.gx_types.specs.declared.built.LinkTree.TheVariants.{Array, Ring, Inverted}
use Rattle.gx_linksets.specs.Stored.{IsStoredAt}
use Rattle.gx_linksets.proofs.StoredLemmas.{held_both, array_rule_at, array_valid_at, ring_rule_at, ring_valid_at, inverted_rule_at, inverted_valid_at}
use Rattle.gx_linksets.proofs.stored.linkset_at.Goals as goal

pub returns-in-Array-clause-held : goal.returns-in-Array-clause-held
returns-in-Array-clause-held c =
    held_both c.args.built.now.links c.args.link (Array c.in-Array.tree)
    (subst (IsStoredAt c.args.built.now.links c.args.link) c.in-Array.is c.link_nodes.ensures)

pub returns-in-Array-clause-rule : goal.returns-in-Array-clause-rule
returns-in-Array-clause-rule c = λ leaves are.
    array_rule_at c.args.schema.now c.args.built.now.files c.args.built.now.links leaves c.args.link
    c.requires.link are c.in-Array.tree c.link_kinds-owner.result.1
    (subst (IsStoredAt c.args.built.now.links c.args.link) c.in-Array.is c.link_nodes.ensures)
    (c.link_kinds-owner.ensures.member
    ∙ (λ i. member_kind (c.as_slice.ensures i) (c.link_def.ensures i)))

pub returns-in-Array-clause-valid : goal.returns-in-Array-clause-valid
returns-in-Array-clause-valid c = λ leaves are.
    array_valid_at c.args.schema.now c.args.built.now.files c.args.built.now.links leaves
    c.args.link c.requires.link are c.requires.storable c.in-Array.tree c.link_kinds-owner.result.1
    (subst (IsStoredAt c.args.built.now.links c.args.link) c.in-Array.is c.link_nodes.ensures)
    (c.link_kinds-owner.ensures.member
    ∙ (λ i. member_kind (c.as_slice.ensures i) (c.link_def.ensures i)))

pub returns-in-Ring-clause-held : goal.returns-in-Ring-clause-held
returns-in-Ring-clause-held c =
    held_both c.args.built.now.links c.args.link (Ring c.in-Ring.heads c.in-Ring.chain)
    (subst (IsStoredAt c.args.built.now.links c.args.link) c.in-Ring.is c.link_nodes.ensures)

pub returns-in-Ring-clause-rule : goal.returns-in-Ring-clause-rule
returns-in-Ring-clause-rule c = λ leaves are.
    ring_rule_at c.args.schema.now c.args.built.now.files c.args.built.now.links leaves c.args.link
    c.requires.link are c.in-Ring.heads c.in-Ring.chain
    (subst (IsStoredAt c.args.built.now.links c.args.link) c.in-Ring.is c.link_nodes.ensures)

pub returns-in-Ring-clause-valid : goal.returns-in-Ring-clause-valid
returns-in-Ring-clause-valid c = λ leaves are.
    ring_valid_at c.args.schema.now c.args.built.now.files c.args.built.now.links leaves c.args.link
    c.requires.link are c.requires.storable c.in-Ring.heads c.in-Ring.chain
    (subst (IsStoredAt c.args.built.now.links c.args.link) c.in-Ring.is c.link_nodes.ensures)

pub returns-in-Inverted-clause-held : goal.returns-in-Inverted-clause-held
returns-in-Inverted-clause-held c =
    held_both c.args.built.now.links c.args.link (Inverted c.in-Inverted.down c.in-Inverted.up)
    (subst (IsStoredAt c.args.built.now.links c.args.link) c.in-Inverted.is c.link_nodes.ensures)

pub returns-in-Inverted-clause-rule : goal.returns-in-Inverted-clause-rule
returns-in-Inverted-clause-rule c = λ leaves are.
    inverted_rule_at c.args.schema.now c.args.built.now.files c.args.built.now.links leaves
    c.args.link c.requires.link are c.in-Inverted.down c.in-Inverted.up
    (subst (IsStoredAt c.args.built.now.links c.args.link) c.in-Inverted.is c.link_nodes.ensures)

pub returns-in-Inverted-clause-valid : goal.returns-in-Inverted-clause-valid
returns-in-Inverted-clause-valid c = λ leaves are.
    inverted_valid_at c.args.schema.now c.args.built.now.files c.args.built.now.links leaves
    c.args.link c.requires.link are c.requires.storable c.in-Inverted.down c.in-Inverted.up
    (subst (IsStoredAt c.args.built.now.links c.args.link) c.in-Inverted.is c.link_nodes.ensures)
