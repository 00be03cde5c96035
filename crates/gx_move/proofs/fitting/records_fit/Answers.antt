use Rattle.std.proofs.Common.{◌≡◌, ◌<◌, length, get_or, ap, arith, rules}
use Rattle.gx_commands.specs.Commands.{IsOfSchema}
use Rattle.gx_move.specs.Giving.{insert_of}
use Rattle.gx_move.proofs.CarryLemmas.{due_one}
use Rattle.gx_move.proofs.FitLemmas.{no_for, not_met, insert_exact}
use Rattle.gx_move.proofs.fitting.records_fit.Goals as goal

pub returns-then-not-record_fits : goal.returns-then-not-record_fits
returns-then-not-record_fits c =
    let xs = c.args.records.now in
    let i = c.loop-i.i in
    let x = c.index-in-loop-i.result.now in
    let is : x ≡ get_or xs i x = search rules in
    let long = ap length c.records.view_is in
    let lt : i < length xs = omega (arith, long, c.loop-i-test.true) in
    let def = c.index.result.now in
    let def_is : def ≡ get_or c.args.schema.now.files c.args.file def = search rules in
    let exact = insert_exact c.args.schema.now c.args.file def x c.record_fits.result
    c.requires.file def_is c.record_fits.ensures in
    no_for (λ all. not_met c.record_fits.result c.if-not-record_fits.true exact
    (due_one (IsOfSchema c.args.schema.now) (insert_of c.args.file) xs i x lt is all))
