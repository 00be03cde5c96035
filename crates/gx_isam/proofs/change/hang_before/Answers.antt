use Rattle.std.proofs.Common.{refl, ap, ◌∙◌, arith}
use Rattle.gx_slots.specs.Page.{entries_of}
use Rattle.gx_chain.proofs.WriteLemmas.{written}
use Rattle.gx_isam_index.specs.Index.{first_page_of}
use Rattle.gx_isam.proofs.WriteLemmas.{index_written}
use Rattle.gx_isam.proofs.change.hang_before.Goals as goal

pub returns-clause-hung : goal.returns-clause-hung
returns-clause-hung g c told =
    let claimed = g.P.PageView.working c.claim.new.self in
    let filled = g.P.PageView.working c.write.new.self in
    let many = g.met.P.Pages.many c.claim.new.self told in
    let later = g.met.P.Pages.many c.write.new.self told in
    let base = ap (λ x. x.size) c.in_ok-fresh.ensures.keeps.ground in
    let next = ap (λ x. x.size) c.in_ok-write.ensures.keeps.ground in
    let fresh_below = c.in_ok-fresh.ensures.below.below in
    let root_below = c.requires.root.below in
    record {
      fresh = c.in_ok-fresh.fresh;
      claimed = claimed;
      filled = filled;
      claim = c.in_ok-fresh.ensures.claimed told;
      page = written claimed claimed filled c.in_ok-fresh.fresh
          (first_page_of c.args.index.now c.args.bucket) c.set_next.new.page
          (entries_of c.args.page.now) refl (omega (arith, fresh_below, many.1, base))
          (c.in_ok-write.ensures.written told)
          c.set_next.ensures.page
          c.set_next.ensures.entries (c.set_next.ensures.next ∙ c.first.ensures);
      written = index_written filled filled (g.P.PageView.working c.write-2.new.self)
          c.args.place.now.root c.args.bucket
          c.in_ok-fresh.fresh c.args.index.now c.set_first.new.page refl
          (omega (arith, root_below, later.1, base, next))
          (c.in_ok-write-2.ensures.written told)
          c.set_first.ensures.page c.set_first.ensures.count c.set_first.ensures.first
          c.set_first.ensures.others
          c.set_first.ensures.separators;
    }
