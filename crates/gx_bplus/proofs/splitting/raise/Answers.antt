use Rattle.std.proofs.Common.{subst}
use Rattle.gx_ports.specs.Sheets.{IsClaimed}
use Rattle.gx_btree.proofs.BranchLemmas.{one_branch}
use Rattle.gx_bplus.proofs.splitting.raise.Goals as goal

pub returns-clause-raised : goal.returns-clause-raised
returns-clause-raised g c told =
    let w = g.P.PageView.working in
    let m = c.make_inner.ensures in
    record {
      top = c.make_inner.new.page;
      shows = one_branch c.make_inner.new.page c.args.separator.now c.in_ok-first.first
          c.in_ok-second.second m.page m.separators
          m.children;
      one = w c.claim.new.self;
      claimed = c.in_ok-first.ensures.claimed told;
      two = w c.claim-2.new.self;
      claimed_too = subst (λ x. IsClaimed c.in_ok-second.second c.args.owner x (w c.claim.new.self)
          (w c.claim-2.new.self))
          c.claim.ensures.keeps.ground (c.in_ok-second.ensures.claimed told);
      three = w c.write.new.self;
      left_is = c.in_ok-write.ensures.written told;
      four = w c.write-2.new.self;
      right_is = c.in_ok-write-2.ensures.written told;
      top_is = c.in_ok-write-3.ensures.written told;
    }
