use Rattle.std.proofs.Common.{◌≡◌, ◌-◌, ◌∙◌, List, Bool, true, false, get_or, sym, subst}
use Rattle.std.specs.List.{AllByRecursion}
use Rattle.gx_commands.specs.declared.command.Change.{Change}
use Rattle.gx_model.specs.Commands.{with_changes}
use Rattle.gx_entries.proofs.GroupLemmas.{others_same}
use Rattle.gx_entries.proofs.TwoLemmas.{others_seen}
use Rattle.gx_entries.proofs.groups.others_stay.Goals as goal

pub returns : goal.returns
returns c = λ yes values.
    let node = c.args.node.now in
    let l = c.in-Layer.layer in
    let x = c.in-Segment.mapping in
    let cs = c.args.changes.now in
    let all = subst (λ (mask : List Bool). AllByRecursion
    (λ (d : Change). get_or mask (d.field - 1) false ≡ true) cs) c.mask.ensures.mask
    (c.are_first.ensures yes) in
    others_seen node l x c.in-Layer.is c.in-Segment.is (with_changes values cs)
    ∙ others_same x.mask cs values all
    ∙ sym (others_seen node l x c.in-Layer.is c.in-Segment.is values)
