use Rattle.std.proofs.Common.{[], refl, sym, ap, subst, ◌∙◌, arith}
use Rattle.std.proofs.lemmas.List.{get_or-set_same}
use Rattle.gx_ports.specs.Sheets.{Ground, Sheets, IsOwnedAnew, bytes_at}
use Rattle.gx_ports.proofs.PageLemmas.{bytes_same}
use Rattle.gx_isam.proofs.WriteLemmas.{index_written}
use Rattle.gx_isam.proofs.change.leave_out.Goals as goal

pub returns-clause-left_out : goal.returns-clause-left_out
returns-clause-left_out g c told =
    let s = g.P.PageView.working c.args.pages.now in
    let between = g.P.PageView.working c.write.new.self in
    let many = g.met.P.Pages.many c.args.pages.now told in
    let root_below = c.requires.root.below in
    record {
      between = between;
      written = index_written s s between c.args.place.now.root c.args.bucket c.args.next
          c.args.index.now c.set_first.new.page refl
          (omega (arith, root_below, many.1)) (c.in_ok-write.ensures.written told)
          c.set_first.ensures.page c.set_first.ensures.count
          c.set_first.ensures.first c.set_first.ensures.others c.set_first.ensures.separators;
      freed = subst (λ (x : Ground). IsOwnedAnew c.args.first 0 x between
          (g.P.PageView.working c.free.new.self))
          c.in_ok-write.ensures.keeps.ground (c.in_ok-free.ensures.freed told);
    }

pub returns-clause-written : goal.returns-clause-written
returns-clause-written g c told =
    let s = g.P.PageView.working c.args.pages.now in
    let between = g.P.PageView.working c.write.new.self in
    let root = c.args.place.now.root in
    let many = g.met.P.Pages.many c.args.pages.now told in
    let root_below = c.requires.root.below in
    let freed = subst (λ (x : Ground). IsOwnedAnew c.args.first 0 x between
    (g.P.PageView.working c.free.new.self))
    c.in_ok-write.ensures.keeps.ground (c.in_ok-free.ensures.freed told) in
    let here = ap (λ (x : Sheets). bytes_at x root) (c.in_ok-write.ensures.written told)
    ∙ get_or-set_same s.bytes root c.set_first.new.page [] (omega (arith, root_below, many.1)) in
    sym (bytes_same between (g.P.PageView.working c.free.new.self) root
    (freed.bytes root c.requires.root.past) ∙ here)
