use Rattle.std.proofs.Common.{subst}
use Rattle.gx_stack.specs.Seen.{tree_of}
use Rattle.gx_stack.specs.Held.{IsHeld}
use Rattle.gx_types.specs.Any.{any_rule}
use Rattle.gx_audit.proofs.FileLemmas.{keys_found, no_keys}
use Rattle.gx_audit.proofs.files.node_keys.Goals as goal

pub returns-in_ok-keys_of-in-Some-clause-keys : goal.returns-in_ok-keys_of-in-Some-clause-keys
returns-in_ok-keys_of-in-Some-clause-keys g c =
    let t = tree_of c.args.node.now in
    let whole = g.B.View.whole c.args.leaves.now in
    let maps = g.B.View.working c.args.leaves.now in
    keys_found c.args.file.now c.requires.storable.keyed t c.requires.tree.form whole maps
    c.in-Some.records c.in_ok-keys_of-in-Some.field-0
    (subst (IsHeld any_rule t whole maps) c.in-Some.is c.in_ok-records.ensures.held)
    c.in_ok-keys_of-in-Some.ensures

pub returns-in-None-clause-keys : goal.returns-in-None-clause-keys
returns-in-None-clause-keys g c =
    let t = tree_of c.args.node.now in
    let whole = g.B.View.whole c.args.leaves.now in
    let maps = g.B.View.working c.args.leaves.now in
    no_keys c.args.file.now c.requires.storable.keyed t c.requires.tree.form whole maps
    (subst (IsHeld any_rule t whole maps) c.in-None.is c.in_ok-records.ensures.held)
