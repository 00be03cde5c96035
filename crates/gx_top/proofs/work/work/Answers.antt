use Rattle.std.proofs.Common.{refl, inr, []}
use Rattle.gx_store.specs.Store.{CanAttach}
use Rattle.gx_requests.specs.Words.{working, request_words}
use Rattle.gx_top.proofs.JoinLemmas.{joined, unprepared, given_by, stored_as, works_counted}
use Rattle.gx_top.proofs.KeepLemmas.{keeps_named}
use Rattle.gx_operations.proofs.LaterLemmas.{worked_later}
use Rattle.gx_top.proofs.ReadyLemmas.{refused_counts}
use Rattle.gx_top.proofs.work.work.Goals as goal

pub returns-in-Ok-clause-promised : goal.returns-in-Ok-clause-promised
returns-in-Ok-clause-promised g c = λ told digits number counted few.
    let a = working c.args.device.now digits number in
    let words = request_words a [] c.args.equation.now in
    let content = g.M.Device.content in
    let old = content c.args.machine in
    let mid = content c.ready_work.new.machine in
    let new = content c.work.result.1 in
    let s = c.work.result.0 in
    let x = c.in-Ok.stored in
    let is = (c.in-Ok.ensures.prepared told).ready words a (((_, counted), (_, few)), refl) in
    let given = given_by x.schema is.definitions is.typing in
    let r = c.in-Ok.ensures.readies in
    let can : CanAttach g.M.Device.tells mid = record { told = told; may = inr (r.ready told) } in
    joined words old new s a given is.accepted
    (works_counted given c.args.device.now digits number c.args.blocks c.args.records old new s
    counted few (worked_later given c.args.device.now old mid r.later c.args.blocks c.args.records new s
    (c.work.ensures.promised can given (stored_as words old.aside.texts a x is))))
    (keeps_named a [] c.args.equation.now c.args.device.now refl old mid new r.later
    (c.work.ensures.keeps can))

pub returns-in-Err-clause-promised : goal.returns-in-Err-clause-promised
returns-in-Err-clause-promised g c = λ told digits number counted few.
    let a = working c.args.device.now digits number in
    let words = request_words a [] c.args.equation.now in
    let content = g.M.Device.content in
    let r = c.in-Err.ensures.readies in
    unprepared words (content c.args.machine) (content c.ready_work.new.machine)
    (content c.refuse.result.1) _ _ c.in-Err.ending c.refuse.result.0
    ((c.in-Err.ensures.prepared told).unprepared words a (((_, counted), (_, few)), refl)) r.later r.refused
    (c.refuse.ensures.refused told) (c.refuse.ensures.given_up told) c.refuse.ensures.keeps

pub returns-in-Err-clause-failures : goal.returns-in-Err-clause-failures
returns-in-Err-clause-failures g c =
    let faults = g.M.Device.faults in
    refused_counts (faults c.args.machine) (faults c.ready_work.new.machine)
    (faults c.refuse.result.1) c.in-Err.ending c.refuse.result.0 c.in-Err.ensures.readies.failures
    c.refuse.ensures.outside c.refuse.ensures.fault c.refuse.ensures.counted
    c.refuse.ensures.later
