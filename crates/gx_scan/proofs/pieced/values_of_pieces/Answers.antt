use Rattle.std.proofs.Common.{Option, Some, sym, ap}
use Rattle.std.specs.Option.{option_map}
use Rattle.gx_model.specs.States.{Row}
use Rattle.gx_scan.proofs.PiecedLemmas.{none_pieced}
use Rattle.gx_scan.proofs.pieced.values_of_pieces.Goals as goal

pub returns-then-is_empty-clause-read : goal.returns-then-is_empty-clause-read
returns-then-is_empty-clause-read c = λ one all same.
    let none = none_pieced c.args.size one c.args.entries.now same
    (c.is_empty.ensures.0 c.if-is_empty.true) in
    ap (λ (o : Option Row). Some (option_map (λ (r : Row). r.1) o)) (sym none)
