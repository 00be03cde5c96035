use Rattle.std.proofs.Common.{◌≡◌, ◌<◌, length, get_or, ap, arith, rules}
use Rattle.gx_commands.specs.Commands.{IsOfSchema}
use Rattle.gx_move.specs.Giving.{connects_of}
use Rattle.gx_move.proofs.CarryLemmas.{due_each}
use Rattle.gx_move.proofs.FitLemmas.{no_for, met_by, not_met, each_met_more}
use Rattle.gx_move.proofs.fitting.links_fit.Goals as goal

pub returns-then-not-pairs_fit : goal.returns-then-not-pairs_fit
returns-then-not-pairs_fit c =
    let xs = c.args.links.now in
    let i = c.loop-link.link in
    let x = c.index.result.now in
    let is : x ≡ get_or xs i x = search rules in
    let long = ap length c.links.view_is in
    let lt : i < length xs = omega (arith, long, c.loop-link-test.true) in
    no_for (λ both. not_met c.pairs_fit.result c.if-not-pairs_fit.true c.pairs_fit.ensures
    (due_each (IsOfSchema c.args.schema.now) connects_of xs i x lt is both.1))

pub loop-link-preserved : goal.loop-link-preserved
loop-link-preserved c =
    let xs = c.args.links.now in
    let i = c.loop-link.link in
    let x = c.index.result.now in
    let is : x ≡ get_or xs i x = search rules in
    let long = ap length c.links.view_is in
    let lt : i < length xs = omega (arith, long, c.loop-link-test.true) in
    record {
      met = each_met_more (IsOfSchema c.args.schema.now) connects_of xs i x lt is
          c.loop-link.invariant.met
          (met_by c.pairs_fit.result c.if-not-pairs_fit.false c.pairs_fit.ensures);
    }
