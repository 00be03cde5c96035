use Rattle.std.proofs.Common.{rules}
use Rattle.std.proofs.lemmas.Fn.{filter_same}
use Rattle.std.specs.List.{list_any}
use Rattle.gx_model.specs.States.{Row, is_same}
use Rattle.gx_pairs.proofs.kept.rows_among.Goals as goal

pub returns : goal.returns
returns c = filter_same _ (λ (r : Row). list_any (is_same r.0) c.args.keys.now) _
    (λ x b f' k. search rules) _ _ c.retain.ensures.filtered
