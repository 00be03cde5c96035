use Rattle.std.proofs.Common.{◌∙◌, sym}
use Rattle.gx_mapping.specs.Rule.{IsOf}
use Rattle.gx_scan.proofs.RecordLemmas.{last_fits}
use Rattle.gx_scan.proofs.records.last_record.Goals as goal

pub returns-clause-fits : goal.returns-clause-fits
returns-clause-fits c =
    λ form all. last_fits (IsOf form) c.args.found _ c.pop.result (sym c.found.view_is
    ∙ c.pop.ensures.items) all
