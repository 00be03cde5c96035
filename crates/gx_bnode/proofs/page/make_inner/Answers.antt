use Rattle.std.proofs.Common.{[], ◌∷◌, ◌∙◌, rules}
use Rattle.gx_bnode.specs.Branches.{Branch}
use Rattle.gx_bnode.proofs.PageLemmas.{page_made, says}
use Rattle.gx_bnode.proofs.page.make_inner.Goals as goal

pub returns : goal.returns
returns c =
    let branch : Branch = record { separator = c.args.key.now; child = c.args.right } in
    let new = c.write_branch.new.bytes in
    let is = page_made c.args.left branch c.args.page.now c.write_header.new.page new
    c.requires.size (search rules)
    (record { separator = c.requires.short; child = search rules }) c.write_header.ensures
    c.write_branch.ensures
    (c.write_branch.auto.bytes ∙ c.write_header.auto.page ∙ c.requires.size) in
    let said = says c.args.left (branch ∷ []) new is in
    record { page = said.page; separators = said.separators; children = said.children }
