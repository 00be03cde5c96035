use Rattle.std.proofs.Common.{subst}
use Rattle.gx_explain.specs.Explained.{IsScriptExplained}
use Rattle.gx_explain.specs.Explaining.{fields_in}
use Rattle.gx_operations.proofs.AnswerLemmas.{explain_kept}
use Rattle.gx_operations.proofs.EndedLemmas.{keeps_said}
use Rattle.gx_operations.proofs.explaining.explain.Goals as goal

pub returns-clause-promised : goal.returns-clause-promised
returns-clause-promised g c = λ told given same trees.
    let old = g.M.Device.content c.args.machine.now in
    let new = g.M.Device.content c.explain_script.new.machine in
    explain_kept given old new c.explain_script.result c.args.built.now trees
    (subst (λ k. IsScriptExplained k (fields_in k c.args.built.now.files) old new
    c.explain_script.result) same (c.explain_script.ensures.said told))
    (c.explain_script.ensures.heard told) c.explain_script.ensures.devices

pub returns-clause-keeps : goal.returns-clause-keeps
returns-clause-keeps g c =
    keeps_said (g.M.Device.content c.args.machine.now) (g.M.Device.content c.explain_script.new.machine)
    c.explain_script.ensures.devices c.explain_script.ensures.aside
