use Rattle.std.proofs.Common.{[], ap, subst, arith, rules}
use Rattle.gx_slots.specs.Page.{IsPageOf, next_of}
use Rattle.gx_slots.proofs.PageLemmas.{page_of}
use Rattle.gx_btree.specs.Tree.{ShowsEntries}
use Rattle.gx_btree.proofs.FileLemmas.{place_past}
use Rattle.gx_bplus.proofs.FileLemmas.{made_file, made_others, made_roots, root_free}
use Rattle.gx_bplus.proofs.RemovalLemmas.{on_ok}
use Rattle.gx_bplus.proofs.bplus.make.Goals as goal

pub returns : goal.returns
returns g c =
    let w = g.P.PageView.working in
    let old = c.args.pages.now in
    let mid = c.claim_at.new.self in
    let place = c.args.place.now in
    let page = c.clear.new.page in
    let p = c.requires.place in
    let shows : ShowsEntries page [] = subst (λ n. IsPageOf [] n page) c.clear.ensures.next
    (subst (λ es. IsPageOf es (next_of page) page) c.clear.ensures.entries
    (page_of page c.clear.ensures.page)) in
    let past = place_past (g.P.PageView.ground old) place p c.requires.kind in
    record {
      made = λ told vacant.
          on_ok c.write.result (λ written. made_file (g.P.PageView.ground old) place (w old) (w mid)
          (w c.write.new.self) page p
          (let m = (g.met.P.Pages.many mid told).1 in let k =
          ap (λ e. e.size) c.in_ok-claim_at.ensures.keeps.ground in let b =
          past.below in omega (arith, m, k, b)) vacant shows
          (c.in_ok-claim_at.ensures.claimed told (root_free place (w old) vacant c.requires.kind))
          written)
          (c.write.ensures.written told);
      others = λ told vacant.
          on_ok c.write.result (λ written. made_others (g.P.PageView.ground old) place (w old)
          (w mid) (w c.write.new.self) c.clear.new.page
          (c.in_ok-claim_at.ensures.claimed told (root_free place (w old) vacant c.requires.kind))
          written)
          (c.write.ensures.written told);
      roots = λ told vacant.
          on_ok c.write.result
          (λ written. made_roots (g.P.PageView.ground old) place (w old) (w mid)
          (w c.write.new.self) c.clear.new.page c.requires.kind
          (c.in_ok-claim_at.ensures.claimed told (root_free place (w old) vacant c.requires.kind))
          written)
          (c.write.ensures.written told);
      keeps = search rules;
      faults = search rules;
    }
