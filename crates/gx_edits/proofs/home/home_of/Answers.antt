use Rattle.gx_values.specs.declared.keys.Span.{Span}
use Rattle.gx_stack.specs.Seen.{tree_of}
use Rattle.gx_edits.proofs.HomeLemmas.{home_of_span}
use Rattle.gx_edits.proofs.home.home_of.Goals as goal

pub returns : goal.returns
returns c =
    let span : Span = record { lo = c.set_value.new.self; hi = c.set_value-2.new.self } in
    home_of_span c.args.file.now c.args.key.now span (tree_of c.args.node.now)
    (tree_of c.searched_node.result.now) c.requires.storable c.requires.key
    c.set_value.ensures c.set_value-2.ensures c.requires.form c.searched_node.ensures
