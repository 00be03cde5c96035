use Rattle.std.proofs.Common.{◌≡◌, rules}
use Rattle.gx_operations.proofs.EndedLemmas.{keeps_attached}
use Rattle.gx_operations.proofs.MakeLemmas.{make_told}
use Rattle.gx_operations.proofs.making.make.Goals as goal

pub returns-clause-promised : goal.returns-clause-promised
returns-clause-promised g c = λ can given of.
    let content = g.M.Device.content in
    let specs : c.deref.result.now ≡ c.args.stored.built.specs = first_of (search rules, cc) in
    let schema : c.as_slice.result.now ≡ c.args.stored.schema_text = first_of (search rules, cc) in
    let equation : c.as_slice-2.result.now ≡ c.args.stored.equation_text =
    first_of (search rules, cc) in
    make_told given c.args.stored of c.requires c.as_slice.result.now c.as_slice-2.result.now
    c.deref.result.now schema equation specs c.args.device.now c.args.blocks
    (content c.args.machine) (content c.make-made.result.1) (content c.end-status.new.machine)
    c.make-made.result.0 c.making_ending.result c.end-status.result (c.make-made.ensures.made can)
    (c.make-made.ensures.unmade can) (c.make-made.ensures.left can) (c.make-made.ensures.attaches can)
    c.making_ending.ensures
    (record { due = c.end-status.ensures.due; words = c.end-status.ensures.words can.told })
    c.end-status.ensures.devices (c.end-status.ensures.moments can.told)

pub returns-clause-keeps : goal.returns-clause-keeps
returns-clause-keeps g c = λ can.
    let content = g.M.Device.content in
    keeps_attached c.args.device.now (content c.args.machine) (content c.make-made.result.1)
    (content c.end-status.new.machine) (c.make-made.ensures.attaches can)
    c.end-status.ensures.devices c.end-status.ensures.rest.aside
