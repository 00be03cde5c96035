use Rattle.std.proofs.Common.{sym, ◌∙◌}
use Rattle.gx_bnode.specs.Page.{branches_of}
use Rattle.gx_bnode.proofs.PageLemmas.{count_is, separators_count}
use Rattle.gx_bnode.proofs.page.separators.Goals as goal

pub returns : goal.returns
returns c =
    c.record_count.ensures ∙ count_is c.args.page.now c.requires
    ∙ sym (separators_count (branches_of c.args.page.now))
