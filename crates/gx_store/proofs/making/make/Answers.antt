use Rattle.std.proofs.Common.{length, replicate, refl, sym, subst}
use Rattle.std.specs.FinMap.{empty}
use Rattle.std.proofs.lemmas.Result.{IfErr-weaker}
use Rattle.gx_laws.proofs.ResultLemmas.{on_ok_always}
use Rattle.gx_store.specs.Making.{IsUnmade}
use Rattle.gx_store.specs.Store.{machine_of}
use Rattle.gx_store.proofs.CauseLemmas.{counted_after}
use Rattle.gx_store.proofs.SealedLemmas.{filled, left_made, made_by, unmade_left}
use Rattle.gx_store.proofs.ShelfLemmas.{attaches_later}
use Rattle.gx_store.proofs.making.make.Goals as goal

pub returns-in-Ok-clause-made : goal.returns-in-Ok-clause-made
returns-in-Ok-clause-made g c = λ can.
    let name = c.args.name.now in
    let schema = c.args.schema.now in
    let equation = c.args.equation.now in
    let specs = c.args.specs.now in
    let maps = replicate (length specs) empty in
    let old = g.M.Device.content c.args.machine in
    let mid = g.M.Device.content (machine_of c.in-Ok.store) in
    let new = g.M.Device.content c.seal.result.1 in
    let p = c.in-Ok.ensures.prepared can in
    let seals = c.seal.ensures.seals schema equation specs maps p.is.unsealed in
    made_by name c.args.blocks schema equation specs old new
    (filled name c.args.blocks schema equation specs maps old mid new p.prepares
    c.seal.ensures.silent.shelf seals.images)
    mid c.seal.result.0 seals

pub returns-in-Ok-clause-left : goal.returns-in-Ok-clause-left
returns-in-Ok-clause-left g c = λ can.
    let name = c.args.name.now in
    let schema = c.args.schema.now in
    let equation = c.args.equation.now in
    let specs = c.args.specs.now in
    let maps = replicate (length specs) empty in
    let old = g.M.Device.content c.args.machine in
    let mid = g.M.Device.content (machine_of c.in-Ok.store) in
    let new = g.M.Device.content c.seal.result.1 in
    let p = c.in-Ok.ensures.prepared can in
    let seals = c.seal.ensures.seals schema equation specs maps p.is.unsealed in
    left_made name c.args.blocks schema equation specs old new
    (filled name c.args.blocks schema equation specs maps old mid new p.prepares
    c.seal.ensures.silent.shelf seals.images)
    c.seal.result.0 c.seal.ensures.fault

pub returns-in-Ok-clause-unmade : goal.returns-in-Ok-clause-unmade
returns-in-Ok-clause-unmade g c = λ can.
    IfErr-weaker c.seal.result.0 _ _
    (λ why is. subst (λ w. IsUnmade c.args.name.now c.args.blocks c.args.specs.now
    (g.M.Device.content c.args.machine) w) (sym is) tt)
    c.seal.ensures.fault

pub returns-in-Ok-clause-size : goal.returns-in-Ok-clause-size
returns-in-Ok-clause-size g c = on_ok_always c.seal.result.0 c.in-Ok.ensures.size

pub returns-in-Ok-clause-attaches : goal.returns-in-Ok-clause-attaches
returns-in-Ok-clause-attaches g c = λ can.
    attaches_later c.args.name.now (g.M.Device.content c.args.machine)
    (g.M.Device.content (machine_of c.in-Ok.store)) (g.M.Device.content c.seal.result.1)
    (c.in-Ok.ensures.attaches can) (c.in-Ok.ensures.prepared can).prepares.named
    c.seal.ensures.silent

pub returns-in-Ok-clause-faults : goal.returns-in-Ok-clause-faults
returns-in-Ok-clause-faults g c =
    counted_after _ _ _ _ (c.in-Ok.ensures.faults.same refl) c.seal.ensures.faults

pub returns-in-Err-clause-left : goal.returns-in-Err-clause-left
returns-in-Err-clause-left g c = λ can.
    unmade_left c.args.name.now c.args.blocks c.args.schema.now c.args.equation.now
    c.args.specs.now (g.M.Device.content c.args.machine) c.in-Err.machine c.in-Err.why
    (c.in-Err.ensures.left can)
