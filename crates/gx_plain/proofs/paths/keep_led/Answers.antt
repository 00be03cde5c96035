use Rattle.std.proofs.Common.{rules}
use Rattle.std.proofs.lemmas.Fn.{filter_same}
use Rattle.gx_model.specs.Paths.{is_led}
use Rattle.gx_plain.proofs.paths.keep_led.Goals as goal

pub returns : goal.returns
returns c =
    filter_same _ (is_led c.args.state.now c.args.way c.args.before.now) _
    (λ x b f' k. search rules) _ _ c.retain.ensures.filtered
