use Rattle.std.proofs.Common.{refl, inr}
use Rattle.gx_store.specs.Store.{CanAttach}
use Rattle.gx_requests.specs.Words.{sharing, request_words}
use Rattle.gx_operations.specs.declared.kinds.ScriptKind.TheVariants as script_kind
use Rattle.gx_top.proofs.JoinLemmas.{joined, unprepared, given_by, stored_as}
use Rattle.gx_top.proofs.KeepLemmas.{keeps_named}
use Rattle.gx_operations.proofs.LaterLemmas.{ran_later}
use Rattle.gx_top.proofs.ReadyLemmas.{refused_counts}
use Rattle.gx_top.proofs.share_script.share_script.Goals as goal

pub returns-in-Ok-clause-promised : goal.returns-in-Ok-clause-promised
returns-in-Ok-clause-promised g c = λ told.
    let a = sharing c.args.device.now in
    let words = request_words a c.args.schema.now c.args.equation.now in
    let content = g.M.Device.content in
    let old = content c.args.machine in
    let mid = content c.ready_stored.new.machine in
    let new = content c.run.result.1 in
    let s = c.run.result.0 in
    let x = c.in-Ok.stored in
    let is = (c.in-Ok.ensures.prepared told).ready words a (tt, refl) in
    let given = given_by x.schema is.definitions is.typing in
    let r = c.in-Ok.ensures.readies in
    let can : CanAttach g.M.Device.tells mid = record { told = told; may = inr (r.ready told) } in
    joined words old new s a given is.accepted
    (ran_later given c.args.device.now old mid r.later script_kind.Turns new s
    (c.run.ensures.promised can given (stored_as words old.aside.texts a x is)))
    (keeps_named a c.args.schema.now c.args.equation.now c.args.device.now refl old mid new r.later
    (c.run.ensures.keeps can))

pub returns-in-Err-clause-promised : goal.returns-in-Err-clause-promised
returns-in-Err-clause-promised g c = λ told.
    let a = sharing c.args.device.now in
    let words = request_words a c.args.schema.now c.args.equation.now in
    let content = g.M.Device.content in
    let r = c.in-Err.ensures.readies in
    unprepared words (content c.args.machine) (content c.ready_stored.new.machine)
    (content c.refuse.result.1) _ _ c.in-Err.ending c.refuse.result.0
    ((c.in-Err.ensures.prepared told).unprepared words a (tt, refl)) r.later r.refused
    (c.refuse.ensures.refused told) (c.refuse.ensures.given_up told) c.refuse.ensures.keeps

pub returns-in-Err-clause-failures : goal.returns-in-Err-clause-failures
returns-in-Err-clause-failures g c =
    let faults = g.M.Device.faults in
    refused_counts (faults c.args.machine) (faults c.ready_stored.new.machine)
    (faults c.refuse.result.1) c.in-Err.ending c.refuse.result.0 c.in-Err.ensures.readies.failures
    c.refuse.ensures.outside c.refuse.ensures.fault c.refuse.ensures.counted
    c.refuse.ensures.later
