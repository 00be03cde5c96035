use Rattle.std.proofs.Common.{refl, ap, arith, []}
use Rattle.gx_bytes.specs.declared.page.TheConstants.{NONE}
use Rattle.gx_chain.proofs.WriteLemmas.{written}
use Rattle.gx_chain.proofs.make.make_first.Goals as goal

pub returns-clause-made : goal.returns-clause-made
returns-clause-made g c told free =
    let m = g.P.PageView.working c.claim_at.new.self in
    let t = g.P.PageView.working c.write.new.self in
    let many = g.met.P.Pages.many c.claim_at.new.self told in
    let ground = c.claim_at.ensures.keeps.ground in
    record {
      between = m;
      claimed = c.in_ok-claim_at.ensures.claimed told free;
      written = written m m t c.args.first NONE _ [] refl (let below = c.requires.first.below in
          omega (arith, below, many.1, ap (λ x. x.size) ground))
          (c.in_ok-write.ensures.written told) c.clear.ensures.page c.clear.ensures.entries
          c.clear.ensures.next;
    }
