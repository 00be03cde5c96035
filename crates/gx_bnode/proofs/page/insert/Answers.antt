use Rattle.std.proofs.Common.{◌+◌, ◌-◌, ◌≤◌, ap, ◌∙◌, arith, rules}
use Rattle.std.specs.Int.{w16, to_be_bytes}
use Rattle.std.specs.List.{copy_within, insert}
use Rattle.gx_bytes.specs.Parts.{overwritten}
use Rattle.gx_bnode.specs.Branches.{Branch, branch_len}
use Rattle.gx_bnode.specs.Page.{first_of, branches_of}
use Rattle.gx_bnode.proofs.PageLemmas.{page_of, page_added, says, map-insert, children-insert, separators_count, separators_len, used_most, six_each}
use Rattle.gx_bnode.proofs.page.insert.Goals as goal

pub overflow_add-count : goal.overflow_add-count
overflow_add-count c =
    let page = c.args.page.now in
    omega (
      arith,
      c.separators-count.ensures,
      separators_count (branches_of page),
      six_each (branches_of page),
      used_most page c.requires.page,
    )

pub returns : goal.returns
returns c =
    let page = c.args.page.now in
    let new = c.set_record_count.new.page in
    let branches = branches_of page in
    let first = first_of page in
    let branch : Branch = record { separator = c.args.key.now; child = c.args.right } in
    let old = page_of page c.requires.page in
    let at = c.offsets-at.result.0 in
    let end = c.offsets-at.result.1 in
    let room : branch_len branch ≤ 4096 - end = omega
    (arith, c.offsets-at.ensures.end, separators_len branches, c.requires.room, c.requires.short) in
    let is = page_added first branches page old c.args.i branch at end c.copy_within.new.self
    c.write_branch.new.bytes new
    (omega (arith, c.requires.place, separators_count branches))
    (record { separator = c.requires.short; child = search rules }) c.requires.ascending
    c.offsets-at.ensures.start c.offsets-at.ensures.end room
    (c.copy_within.ensures.after ∙ ap (λ n. copy_within page at end (at + n)) c.branch_len.ensures)
    c.write_branch.ensures
    (c.set_record_count.ensures
    ∙ ap (λ n. overwritten c.write_branch.new.bytes 2 (to_be_bytes w16 (n + 1)))
    (c.separators-count.ensures ∙ separators_count branches))
    (c.set_record_count.auto.page ∙ c.write_branch.auto.bytes ∙ c.copy_within.ensures.len
    ∙ old.page.size) in
    let said = says first (insert branches c.args.i branch) new is in
    record {
      page = said.page;
      separators = said.separators ∙ map-insert (λ b. b.separator) branches c.args.i branch;
      children = said.children ∙ children-insert first branches c.args.i branch;
    }
