use Rattle.std.proofs.Common.{◌≡◌, true, take, map}
use Rattle.std.specs.Prelude.{not}
use Rattle.std.specs.List.{list_all}
use Rattle.gx_values.specs.Keys.{bytes_of}
use Rattle.gx_actual.specs.Bodies.{body_of}
use Rattle.gx_split.specs.Groups.{chosen}
use Rattle.gx_model.specs.States.{Row, IsRowOf}
use Rattle.gx_model.specs.Found.{meets_cond}
use Rattle.gx_scan.proofs.joined.meets_both.Given as goal

-- the record meets the conditions so far
abbrev pub invariant-loop-cond : goal.invariant-loop-cond
invariant-loop-cond l = (r : Row) → IsRowOf l.file r → l.key ≡ bytes_of r.0
    → l.first ≡ body_of (chosen l.mask r.1) → l.others ≡ body_of (chosen (map not l.mask) r.1)
    → list_all (meets_cond r) (take l.cond-index l.conds) ≡ true
