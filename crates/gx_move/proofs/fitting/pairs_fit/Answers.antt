use Rattle.std.proofs.Common.{◌≡◌, ◌<◌, length, get_or, ap, arith, rules}
use Rattle.gx_commands.specs.Commands.{IsOfSchema}
use Rattle.gx_move.specs.Giving.{connect_of}
use Rattle.gx_move.proofs.CarryLemmas.{due_one}
use Rattle.gx_move.proofs.FitLemmas.{no_for, met_by, not_met, met_more}
use Rattle.gx_move.proofs.fitting.pairs_fit.Goals as goal

pub returns-then-not-pair_fits : goal.returns-then-not-pair_fits
returns-then-not-pair_fits c =
    let xs = c.args.pairs.now in
    let i = c.loop-i.i in
    let x = c.index.result.now in
    let is : x ≡ get_or xs i x = search rules in
    let long = ap length c.pairs.view_is in
    let lt : i < length xs = omega (arith, long, c.loop-i-test.true) in
    no_for (λ all. not_met c.pair_fits.result c.if-not-pair_fits.true c.pair_fits.ensures
    (due_one (IsOfSchema c.args.schema.now) (connect_of c.args.link) xs i x lt is all))

pub loop-i-preserved : goal.loop-i-preserved
loop-i-preserved c =
    let xs = c.args.pairs.now in
    let i = c.loop-i.i in
    let x = c.index.result.now in
    let is : x ≡ get_or xs i x = search rules in
    let long = ap length c.pairs.view_is in
    let lt : i < length xs = omega (arith, long, c.loop-i-test.true) in
    record {
      met = met_more (IsOfSchema c.args.schema.now) (connect_of c.args.link) xs i x lt is
          c.loop-i.invariant.met
          (met_by c.pair_fits.result c.if-not-pair_fits.false c.pair_fits.ensures);
    }
