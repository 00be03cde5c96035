use Rattle.std.proofs.Common.{◌≡◌, true, take}
use Rattle.std.specs.List.{list_all}
use Rattle.gx_values.specs.Keys.{bytes_of}
use Rattle.gx_actual.specs.Bodies.{body_of}
use Rattle.gx_model.specs.States.{Row, IsRowOf}
use Rattle.gx_model.specs.Found.{meets_cond}
use Rattle.gx_scan.proofs.scan.meets_all.Given as goal

-- the record meets the conditions so far
abbrev pub invariant-loop-cond : goal.invariant-loop-cond
invariant-loop-cond l = (r : Row) → IsRowOf l.file r → l.key ≡ bytes_of r.0 → l.body ≡ body_of r.1
    → list_all (meets_cond r) (take l.cond-index l.conds) ≡ true
