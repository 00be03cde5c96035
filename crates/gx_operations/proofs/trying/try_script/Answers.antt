use Rattle.std.proofs.Common.{None, subst, ◌∙◌}
use Rattle.gx_model.specs.States.{empty_state}
use Rattle.gx_play.specs.Plays.{IsPlayedAs}
use Rattle.gx_operations.proofs.AnswerLemmas.{try_kept, devices_twice}
use Rattle.gx_operations.proofs.EndedLemmas.{keeps_said}
use Rattle.gx_operations.proofs.trying.try_script.Goals as goal

pub returns-clause-promised : goal.returns-clause-promised
returns-clause-promised g c = λ told given same trees.
    let content = g.M.Device.content in
    let old = content c.args.machine in
    let mid = content c.play_script-machine.result.1 in
    let new = content c.finish-status.new.machine in
    let played = c.play_script-machine.result.0 in
    try_kept given c.args.built old mid new c.finish-status.result played
    (subst (λ k. IsPlayedAs k c.args.built None (empty_state k) (λ kept. Unit {0}) old.script
    old.now.said mid.now.said played) same (c.play_script-machine.ensures.answered told))
    c.play_script-machine.ensures.ending (c.play_script-machine.ensures.heard told)
    c.play_script-machine.ensures.devices (c.finish-status.ensures.finished told)
    c.finish-status.ensures.devices

pub returns-clause-keeps : goal.returns-clause-keeps
returns-clause-keeps g c =
    let content = g.M.Device.content in
    let before = c.play_script-machine.ensures.devices in
    let behind = c.finish-status.ensures.devices in
    keeps_said (content c.args.machine) (content c.finish-status.new.machine)
    (devices_twice (content c.args.machine) (content c.play_script-machine.result.1)
    (content c.finish-status.new.machine) before behind)
    (c.finish-status.ensures.rest.aside ∙ c.play_script-machine.ensures.aside)
