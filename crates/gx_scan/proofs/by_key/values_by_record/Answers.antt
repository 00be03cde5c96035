use Rattle.std.proofs.Common.{rules, ◌∙◌, Some, sym}
use Rattle.std.specs.FinMap as fin
use Rattle.gx_scan.proofs.KeyLemmas.{rec_values}
use Rattle.gx_scan.proofs.by_key.values_by_record.Goals as goal

pub returns-in-Some : goal.returns-in-Some
returns-in-Some g c = record {
  found = λ f whole is.
      let key = c.args.key.now in
      let found = sym c.in-Some.is ∙ c.in_ok-rec.ensures.found f whole is in
      rec_values key (fin.get f key) (Some c.in-Some.rec) found;
  fits = search rules;
  steps = c.in_ok-rec.ensures.steps;
  reads = search rules;
}
