use Rattle.std.proofs.Common.{length, ap, arith}
use Rattle.gx_slots.specs.Page.{entries_of}
use Rattle.gx_slots.proofs.PageLemmas.{four_each, used_most}
use Rattle.gx_slots.proofs.page.find.Goals as goal

pub place_of-requires : goal.place_of-requires
place_of-requires c =
    let page = c.args.page.now in
    omega
    (arith, ap length c.entries.ensures, four_each (entries_of page), used_most page c.requires)
