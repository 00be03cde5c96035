use Rattle.std.proofs.Common.{◌≡◌, take, filter}
use Rattle.std.specs.Prelude.{◌&&◌}
use Rattle.gx_model.specs.Found.{meets_conds, meets_of}
use Rattle.gx_plain.proofs.listing.chosen_rows.Given as goal

abbrev pub invariant-loop-row : goal.invariant-loop-row
invariant-loop-row l = l.kept.items ≡ filter
    (λ r. meets_conds l.conds r && meets_of l.state l.of r.0) (take l.row-index l.rows)
