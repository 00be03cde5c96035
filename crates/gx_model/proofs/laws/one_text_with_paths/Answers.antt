use Rattle.gx_model.specs.Paths.{with_paths}
use Rattle.gx_model.proofs.LanguageLemmas.{one_text_in}
use Rattle.gx_model.proofs.PathLemmas.{definite_with_paths}
use Rattle.gx_model.proofs.laws.one_text_with_paths.Goals as goal

pub returns : goal.returns
returns c start script text other is also =
    one_text_in (with_paths c.args.schema.now) (definite_with_paths c.args.schema.now) start script
    text other is also
