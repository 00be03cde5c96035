use Rattle.std.proofs.Common.{◌≡◌, ◌<◌, length, get_or, ap, arith, rules}
use Rattle.gx_commands.specs.Commands.{IsOfSchema}
use Rattle.gx_move.specs.Giving.{inserts_of}
use Rattle.gx_move.proofs.CarryLemmas.{due_each}
use Rattle.gx_move.proofs.FitLemmas.{no_for, met_by, not_met, each_met_more}
use Rattle.gx_move.proofs.fitting.files_fit.Goals as goal

pub returns-then-not-records_fit : goal.returns-then-not-records_fit
returns-then-not-records_fit c =
    let xs = c.args.files.now in
    let i = c.loop-file.file in
    let x = c.index.result.now in
    let is : x ≡ get_or xs i x = search rules in
    let long = ap length c.files.view_is in
    let lt : i < length xs = omega (arith, long, c.loop-file-test.true) in
    no_for (λ both. not_met c.records_fit.result c.if-not-records_fit.true c.records_fit.ensures
    (due_each (IsOfSchema c.args.schema.now) inserts_of xs i x lt is both.1))

pub loop-file-preserved : goal.loop-file-preserved
loop-file-preserved c =
    let xs = c.args.files.now in
    let i = c.loop-file.file in
    let x = c.index.result.now in
    let is : x ≡ get_or xs i x = search rules in
    let long = ap length c.files.view_is in
    let lt : i < length xs = omega (arith, long, c.loop-file-test.true) in
    record {
      met = each_met_more (IsOfSchema c.args.schema.now) inserts_of xs i x lt is
          c.loop-file.invariant.met
          (met_by c.records_fit.result c.if-not-records_fit.false c.records_fit.ensures);
    }
