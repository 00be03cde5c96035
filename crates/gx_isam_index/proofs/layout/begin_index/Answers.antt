use Rattle.gx_isam_index.proofs.LayoutLemmas.{index_begun}
use Rattle.gx_isam_index.proofs.layout.begin_index.Goals as goal

pub returns : goal.returns
returns c =
    index_begun c.args.page.now c.write_header.new.page c.args.count c.requires.page c.requires.most
    c.write_header.ensures c.write_header.auto.page
