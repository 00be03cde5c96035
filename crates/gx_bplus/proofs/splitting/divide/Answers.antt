use Rattle.std.proofs.Common.{refl, subst, rules}
use Rattle.gx_bnode.specs.Page.{branches_of}
use Rattle.gx_btree.proofs.CallLemmas.{ends_shown}
use Rattle.gx_bplus.specs.Changes.{MayStand}
use Rattle.gx_ports.specs.Sheets.{IsHome}
use Rattle.gx_bplus.proofs.splitting.divide.Goals as goal

pub returns-then-not-put_child-clause-claims : goal.returns-then-not-put_child-clause-claims
returns-then-not-put_child-clause-claims g c =
    record {
      full = search rules;
      unchanged = search rules;
      keeps = search rules;
      ends =
          ends_shown g.P.PageView
          (MayStand (branches_of c.args.page.now) c.args.key.now c.args.separator.now)
          c.args.pages.now
          c.claim.new.self c.block.result (c.in_ok-fresh.ensures.cause.counted refl)
          (subst (λ x. IsHome x c.block.result) c.claim.ensures.keeps.ground
          (_, c.block.ensures.home)) c.if-not-put_child.ensures.refused;
      frugal = search rules;
    }

pub returns-clause-divided : goal.returns-clause-divided
returns-clause-divided g c told = record {
  above = c.put_child.new.page;
  shows = c.if-not-put_child.ensures.put;
  one = g.P.PageView.working c.claim.new.self;
  claimed = c.in_ok-fresh.ensures.claimed told;
  two = g.P.PageView.working c.write.new.self;
  right_is = c.in_ok-write.ensures.written told;
  three = g.P.PageView.working c.write-2.new.self;
  left_is = c.in_ok-write-2.ensures.written told;
  above_is = c.in_ok-write-3.ensures.written told;
}
