use Rattle.std.proofs.Common.{◌∙◌, ◌++◌, List, ap}
use Rattle.gx_ports.specs.declared.leaves.Entry.{Entry}
use Rattle.gx_ports.specs.LeafMaps.{map_at, selected}
use Rattle.gx_stack.specs.Seen.{tree_of}
use Rattle.gx_edits.proofs.AloneLemmas.{there_is}
use Rattle.gx_entries.proofs.TwoLemmas.{own_has}
use Rattle.gx_edits.proofs.alone.is_there.Goals as goal

pub select-requires : goal.select-requires
select-requires g c =
    c.requires.can.tree.below c.args.own.first
    (own_has (tree_of c.args.node.now) c.args.own.first c.args.own.second c.requires.own).among

pub returns-clause-there : goal.returns-clause-there
returns-clause-there g c = λ f whole is.
    let t = tree_of c.args.node.now in
    let maps = g.B.View.working c.args.leaves.now in
    let span = c.args.span.now in
    let found = c.in_ok-select.ensures.ok whole
    ∙ ap (λ (es : List Entry). es ++ selected span.lo span.hi (map_at maps c.args.own.first))
    c.new-entries.ensures in
    there_is c.args.file.now t c.args.own.first _ maps f c.args.key.now c.requires.can.storable
    c.requires.can.tree is (own_has t c.args.own.first c.args.own.second c.requires.own)
    c.requires.can.key_fits
    _ _ _ _ c.requires.lo c.requires.hi found c.is_empty.ensures
