use Rattle.std.proofs.Common.{◌∙◌, ap}
use Rattle.gx_schema.specs.declared.schema.LinkDef.{LinkDef}
use Rattle.gx_schema.specs.Lookups.{file_at}
use Rattle.gx_types.specs.Nodes.{tree_at}
use Rattle.gx_states.proofs.links.stored_link.Goals as goal

pub returns : goal.returns
returns c =
    let schema = c.args.schema.now in
    let built = c.args.built.now in
    let def = c.link_def-def.ensures in
    let nodes = c.requires.ready.1.link_nodes in
    record {
      owner_file = c.stored_file.ensures.file ∙ ap (λ (d : LinkDef). file_at schema d.owner) def;
      owner_tree = c.stored_file.ensures.tree
          ∙ ap (λ (d : LinkDef). tree_at built.files d.owner) def;
      member_file = c.stored_file-2.ensures.file
          ∙ ap (λ (d : LinkDef). file_at schema d.member) def;
      member_tree = c.stored_file-2.ensures.tree
          ∙ ap (λ (d : LinkDef). tree_at built.files d.member) def;
      rule_is = c.linkset_at.ensures.rule c.requires.ready.0 nodes;
      valid_is = c.linkset_at.ensures.valid c.requires.ready.0 nodes;
      held_to = λ pairs maps. (c.linkset_at.ensures.held pairs maps).0;
      held_from = λ pairs maps. (c.linkset_at.ensures.held pairs maps).1;
    }
