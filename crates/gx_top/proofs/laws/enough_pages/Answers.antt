use Rattle.gx_top.proofs.NeedLemmas.{never_full}
use Rattle.gx_top.proofs.laws.enough_pages.Goals as goal

pub returns : goal.returns
returns c schema ds limits start answers final enough full =
    never_full schema ds limits start c.args.script.now answers final enough full
