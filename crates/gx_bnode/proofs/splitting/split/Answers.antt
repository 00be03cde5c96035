use Rattle.std.proofs.Common.{◌+◌, ◌-◌, ◌≤◌, take, drop, ap, sym, ◌∙◌, subst, arith}
use Rattle.std.specs.List.{sum_by}
use Rattle.std.proofs.lemmas.List.{length-drop}
use Rattle.gx_bytes.proofs.RecordLemmas.{holds_split, next_same, split_found}
use Rattle.gx_bytes.specs.Page.{header}
use Rattle.gx_bytes.specs.Parts.{overwritten}
use Rattle.gx_bnode.specs.Branches.{IsFit, branch_bytes, branch_len, lent}
use Rattle.gx_bnode.specs.Page.{first_of, branches_of, HasRoom}
use Rattle.gx_bnode.proofs.BranchLemmas.{branch_format}
use Rattle.gx_bnode.proofs.PageLemmas.{page_of, says, separators_count, used_most}
use Rattle.gx_bnode.proofs.SplitLemmas.{full_is, sides, left_page, right_page, middle_holds, others_are, others_fit, others_len, separators_around, children_around, half_has_room}
use Rattle.gx_bnode.proofs.splitting.split.Goals as goal

pub unwrap-child-requires : goal.unwrap-child-requires
unwrap-child-requires c =
    let page = c.args.page.now in
    let place = c.middle-place.result in
    let holds = middle_holds page c.split_at.result.1.now place c.offsets-at.result.0
    c.requires.page c.offsets-at.ensures.start c.split_at.ensures.back in
    holds_split branch_format lent (drop place (branches_of page)) c.split_at.result.1.now
    c.split_branch.result holds
    (omega (arith, length-drop place (branches_of page), c.middle-place.ensures.place))
    c.split_branch.ensures

pub split_at-requires-2 : goal.split_at-requires-2
split_at-requires-2 c =
    let page = c.args.page.now in
    let place = c.middle-place.result in
    let rest = c.split_at.result.1.now in
    let behind = c.unwrap-child.result.1.now in
    let branches = branches_of page in
    let holds = middle_holds page rest place c.offsets-at.result.0 c.requires.page
    c.offsets-at.ensures.start c.split_at.ensures.back in
    let found = split_found branch_bytes IsFit lent rest c.split_branch.result c.unwrap-child.result
    c.unwrap-child.ensures c.split_branch.ensures in
    let branch = lent c.unwrap-child.result.0 in
    let len = others_len branches place branch rest behind c.offsets-at.result.0
    c.offsets-at.result.1 c.branch_len.result holds c.middle-place.ensures.place found.0 found.1
    c.offsets-at.ensures.start c.offsets-at.ensures.end c.branch_len.ensures in
    omega (
      arith,
      len,
      others_fit branches place branch rest behind holds c.middle-place.ensures.place found.0
          found.1,
    )

pub returns : goal.returns
returns c =
    let page = c.args.page.now in
    let left = c.set_record_count.new.page in
    let right = c.overwrite.new.bytes in
    let first = first_of page in
    let branches = branches_of page in
    let place = c.middle-place.result in
    let below = c.middle-place.ensures.place in
    let rest = c.split_at.result.1.now in
    let behind = c.unwrap-child.result.1.now in
    let at = c.offsets-at.result.0 in
    let end = c.offsets-at.result.1 in
    let branch = lent c.unwrap-child.result.0 in
    let old = page_of page c.requires.page in
    let full = full_is branches c.requires.full in
    let most : sum_by branch_len branches ≤ 4088 = omega (arith, used_most page c.requires.page) in
    let side = sides branches place branch old.page.holds.fit below full most
    c.middle-place.ensures.before c.middle-place.ensures.across in
    let holds = middle_holds page rest place at c.requires.page c.offsets-at.ensures.start
    c.split_at.ensures.back in
    let found = split_found branch_bytes IsFit lent rest c.split_branch.result c.unwrap-child.result
    c.unwrap-child.ensures c.split_branch.ensures in
    let is =
    next_same branch_format branch place branches rest behind holds below found.0 found.1 in
    let len = others_len branches place branch rest behind at end c.branch_len.result holds below
    found.0 found.1 c.offsets-at.ensures.start c.offsets-at.ensures.end c.branch_len.ensures in
    let others = others_are branches place branch rest behind c.split_at-2.result.0.now
    (end - at - c.branch_len.result) holds below found.0 found.1 c.split_at-2.ensures.front len in
    let on_left = left_page first branches page old place left side.0 (omega (arith, below))
    c.set_record_count.ensures (c.set_record_count.auto.page ∙ old.page.size) in
    let on_right = right_page branches place branch.child c.args.right.now c.write_header.new.page
    right c.split_at-2.result.0.now
    old.page.holds.fit old.ascending side.1 most found.0.child c.requires.size
    (c.write_header.ensures
    ∙ ap (λ n. overwritten c.args.right.now 0 (header 0x49 (n - place - 1) branch.child))
    (c.separators-count.ensures ∙ separators_count branches)) others c.overwrite.ensures
    (c.overwrite.auto.bytes ∙ c.write_header.auto.page ∙ c.requires.size) in
    let says_left = says first (take place branches) left on_left in
    let says_right = says branch.child (drop (place + 1) branches) right on_right in
    record {
      left = says_left.page;
      right = says_right.page;
      separators = separators_around branches place branch below is
          ∙ cc (says_left.separators, says_right.separators, c.from_slice-key.ensures);
      children = children_around first branches place branch below is
          ∙ cc (says_left.children, says_right.children);
      left_room = subst HasRoom (sym says_left.separators)
          (half_has_room (take place branches) c.middle-place.ensures.before);
      right_room = subst HasRoom (sym says_right.separators)
          (half_has_room (drop (place + 1) branches) side.2);
    }
