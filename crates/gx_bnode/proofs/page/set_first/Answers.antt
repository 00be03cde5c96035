use Rattle.std.proofs.Common.{◌∙◌, rules}
use Rattle.gx_bnode.specs.Page.{first_of, branches_of}
use Rattle.gx_bnode.proofs.PageLemmas.{page_of, page_first, inner_page, first_of-page, branches_of-page}
use Rattle.gx_bnode.proofs.page.set_first.Goals as goal

pub returns : goal.returns
returns c =
    let page = c.args.page.now in
    let new = c.set_page_number.new.page in
    let old = page_of page c.requires in
    let is = page_first (first_of page) (branches_of page) page old c.args.first new (search rules)
    c.set_page_number.ensures (c.set_page_number.auto.page ∙ old.page.size) in
    record {
      page = inner_page c.args.first (branches_of page) new is;
      first = first_of-page c.args.first (branches_of page) new is;
      branches = branches_of-page c.args.first (branches_of page) new is;
    }
