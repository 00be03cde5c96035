use Rattle.std.proofs.Common.{ap, arith, rules}
use Rattle.gx_isam.proofs.MakeLemmas.{one_root, isam_made, isam_made_others, isam_made_roots, isam_made_fresh}
use Rattle.gx_isam.proofs.isam.make.Goals as goal

pub returns-clause-fresh : goal.returns-clause-fresh
returns-clause-fresh g c = λ told vacant.
    let place = c.args.place.now in
    let base = ap (λ x. x.size) c.in_ok-claim_at.ensures.keeps.ground in
    let claim = c.in_ok-claim_at.ensures.claimed told
    (vacant.free place.root (omega arith) (omega (arith, one_root place c.requires.kind))) in
    let many = g.met.P.Pages.many c.claim_at.new.self told in
    let below = claim.past.below in
    isam_made_fresh (g.P.PageView.ground c.args.pages.now) place
    (g.P.PageView.working c.args.pages.now) (g.P.PageView.working c.claim_at.new.self)
    (g.P.PageView.working c.write.new.self) c.clear_index.new.page c.requires.kind
    c.requires.place vacant claim
    (omega (arith, below, many.1, base)) (c.in_ok-write.ensures.written told)
    c.clear_index.ensures.page c.clear_index.ensures.one
    c.clear_index.ensures.first

pub returns-clause-made : goal.returns-clause-made
returns-clause-made g c =
    let place = c.args.place.now in
    let s = g.P.PageView.working c.args.pages.now in
    let base = ap (λ x. x.size) c.in_ok-claim_at.ensures.keeps.ground in
    record {
      made = λ told vacant. (
          let claim = c.in_ok-claim_at.ensures.claimed told
          (vacant.free place.root (omega arith) (omega (arith, one_root place c.requires.kind))) in
          let many = g.met.P.Pages.many c.claim_at.new.self told in
          let below = claim.past.below in
          isam_made (g.P.PageView.ground c.args.pages.now) place s
          (g.P.PageView.working c.claim_at.new.self)
          (g.P.PageView.working c.write.new.self) c.clear_index.new.page c.requires.kind
          c.requires.place vacant claim
          (omega (arith, below, many.1, base)) (c.in_ok-write.ensures.written told)
          c.clear_index.ensures.page c.clear_index.ensures.one
          c.clear_index.ensures.first);
      others = λ told vacant. (
          let claim = c.in_ok-claim_at.ensures.claimed told
          (vacant.free place.root (omega arith) (omega (arith, one_root place c.requires.kind))) in
          let many = g.met.P.Pages.many c.claim_at.new.self told in
          let below = claim.past.below in
          isam_made_others (g.P.PageView.ground c.args.pages.now) place s
          (g.P.PageView.working c.claim_at.new.self)
          (g.P.PageView.working c.write.new.self) c.clear_index.new.page c.requires.kind
          c.requires.place vacant claim
          (omega (arith, below, many.1, base)) (c.in_ok-write.ensures.written told)
          c.clear_index.ensures.page c.clear_index.ensures.one
          c.clear_index.ensures.first);
      roots = λ told vacant. (
          let claim = c.in_ok-claim_at.ensures.claimed told
          (vacant.free place.root (omega arith) (omega (arith, one_root place c.requires.kind))) in
          let many = g.met.P.Pages.many c.claim_at.new.self told in
          let below = claim.past.below in
          isam_made_roots (g.P.PageView.ground c.args.pages.now) place s
          (g.P.PageView.working c.claim_at.new.self)
          (g.P.PageView.working c.write.new.self) c.clear_index.new.page c.requires.kind
          c.requires.place vacant claim
          (omega (arith, below, many.1, base)) (c.in_ok-write.ensures.written told)
          c.clear_index.ensures.page c.clear_index.ensures.one
          c.clear_index.ensures.first);
      keeps = search rules;
      faults = search rules;
    }
