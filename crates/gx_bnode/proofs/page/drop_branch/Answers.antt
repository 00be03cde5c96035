use Rattle.std.proofs.Common.{[], ◌+◌, ◌-◌, ap, ◌∙◌, arith, rules}
use Rattle.std.specs.Int.{w16, to_be_bytes}
use Rattle.std.specs.List.{remove}
use Rattle.std.proofs.lemmas.List.Sums.{sum_by-take-le}
use Rattle.gx_bytes.specs.Parts.{overwritten}
use Rattle.gx_bytes.proofs.PageLemmas.{place_count, place_len}
use Rattle.gx_bnode.specs.Branches.{Branch, branch_len}
use Rattle.gx_bnode.specs.Page.{branches_of, first_of}
use Rattle.gx_bnode.proofs.BranchLemmas.{branch_format}
use Rattle.gx_bnode.proofs.PageLemmas.{page_of, page_size, page_taken, used_most, inner_page, separators_count, branches_of-page, first_of-page}
use Rattle.gx_bnode.proofs.page.drop_branch.Goals as goal

no_branch : Branch
no_branch = record { separator = []; child = 0 }

pub split_at-requires : goal.split_at-requires
split_at-requires c =
    let page = c.args.page.now in
    omega (
      arith,
      page_size page c.requires.page,
      used_most page c.requires.page,
      sum_by-take-le branch_len (branches_of page) c.args.i,
      c.offsets-at.ensures.start,
    )

pub branches_len-requires : goal.branches_len-requires
branches_len-requires c =
    let page = c.args.page.now in
    place_count branch_format 0x49 (branches_of page) (first_of page) page c.split_at.result.1.now
    c.args.i
    c.offsets-at.result.0 (page_of page c.requires.page).page c.requires.place
    c.offsets-at.ensures.start
    c.split_at.ensures.back

pub overflow_add-behind : goal.overflow_add-behind
overflow_add-behind c =
    let page = c.args.page.now in
    let len = place_len branch_format 0x49 (branches_of page)
    (first_of page) page c.split_at.result.1.now
    c.args.i c.offsets-at.result.0 c.offsets-at.result.1 c.branches_len.result no_branch
    (page_of page c.requires.page).page c.requires.place c.offsets-at.ensures.start
    c.offsets-at.ensures.end c.split_at.ensures.back c.branches_len.ensures in
    omega (arith, len.1, used_most page c.requires.page, c.offsets-at.ensures.end)

pub copy_within-requires : goal.copy_within-requires
copy_within-requires c =
    let page = c.args.page.now in
    let len = place_len branch_format 0x49 (branches_of page)
    (first_of page) page c.split_at.result.1.now
    c.args.i c.offsets-at.result.0 c.offsets-at.result.1 c.branches_len.result no_branch
    (page_of page c.requires.page).page c.requires.place c.offsets-at.ensures.start
    c.offsets-at.ensures.end c.split_at.ensures.back c.branches_len.ensures in
    let most = used_most page c.requires.page in
    let size = page_size page c.requires.page in
    record {
      start_le_end = omega (arith, len.1);
      in_bounds = omega (arith, most, size, c.offsets-at.ensures.end);
      dest_in_bounds = omega (arith, most, size, c.offsets-at.ensures.end);
      not_exhausted = search rules;
    }

pub returns : goal.returns
returns c =
    let page = c.args.page.now in
    let new = c.set_record_count.new.page in
    let moved = c.copy_within.new.self in
    let branches = branches_of page in
    let first = first_of page in
    let old = page_of page c.requires.page in
    let at = c.offsets-at.result.0 in
    let len = place_len branch_format 0x49 branches first page c.split_at.result.1.now c.args.i at
    c.offsets-at.result.1 c.branches_len.result no_branch old.page c.requires.place
    c.offsets-at.ensures.start c.offsets-at.ensures.end c.split_at.ensures.back
    c.branches_len.ensures in
    let counted = c.set_record_count.ensures
    ∙ ap (λ n. overwritten moved 2 (to_be_bytes w16 (n - 1)))
    (c.separators-count.ensures ∙ separators_count branches) in
    let is = page_taken first branches page old c.args.i at (at + c.branches_len.result)
    c.offsets-at.result.1 no_branch moved new c.requires.place c.requires.several
    c.offsets-at.ensures.start
    (ap (λ n. at + n) len.0) c.offsets-at.ensures.end c.copy_within.ensures.after counted
    (c.set_record_count.auto.page ∙ c.copy_within.ensures.len ∙ old.page.size) in
    record {
      page = inner_page first (remove branches c.args.i) new is;
      first = first_of-page first (remove branches c.args.i) new is;
      branches = branches_of-page first (remove branches c.args.i) new is;
    }
