use Rattle.std.proofs.Common.{ap, refl}
use Rattle.gx_equation.specs.Seen.{definitions_of}
use Rattle.gx_requests.specs.Words.{checking, request_words}
use Rattle.gx_top.proofs.JoinLemmas.{joined, unprepared, given_by}
use Rattle.gx_top.proofs.KeepLemmas.{keeps_words}
use Rattle.gx_operations.proofs.LaterLemmas.{checked_later, fetched_later}
use Rattle.gx_top.proofs.ReadyLemmas.{refused_counts}
use Rattle.gx_top.proofs.check.check.Goals as goal

pub returns-in-Ok-clause-promised : goal.returns-in-Ok-clause-promised
returns-in-Ok-clause-promised g c = λ told.
    let words = request_words checking c.args.schema.now c.args.equation.now in
    let content = g.M.Device.content in
    let old = content c.args.machine in
    let mid = content c.read_texts.new.machine in
    let new = content c.check-status.new.machine in
    let s = c.check-status.result in
    let is = (c.in-Ok.ensures.accepted told).ready words checking (tt, refl) in
    let given = given_by c.in-Ok.checked.schema
    (definitions_of c.in-Ok.checked.equation.definitions) c.in-Ok.checked.typing in
    let f = c.in-Ok.ensures.fetches in
    joined words old new s checking given is
    (checked_later old mid (fetched_later old mid f.same f.time) (ap (λ m. m.pending) f.same.now) given
    new s (c.check-status.ensures.promised told given refl))
    (keeps_words words old mid new (fetched_later old mid f.same f.time)
    c.check-status.ensures.keeps)

pub returns-in-Err-clause-promised : goal.returns-in-Err-clause-promised
returns-in-Err-clause-promised g c = λ told.
    let words = request_words checking c.args.schema.now c.args.equation.now in
    let content = g.M.Device.content in
    let old = content c.args.machine in
    let mid = content c.read_texts.new.machine in
    let f = c.in-Err.ensures.fetches in
    unprepared words old mid (content c.refuse.result.1) _ _ c.in-Err.ending c.refuse.result.0
    ((c.in-Err.ensures.accepted told).unprepared words checking (tt, refl))
    (fetched_later old mid f.same f.time) (ap (λ m. m.pending) f.same.now)
    (c.refuse.ensures.refused told) (c.refuse.ensures.given_up told) c.refuse.ensures.keeps

pub returns-in-Err-clause-failures : goal.returns-in-Err-clause-failures
returns-in-Err-clause-failures g c =
    let faults = g.M.Device.faults in
    refused_counts (faults c.args.machine) (faults c.read_texts.new.machine)
    (faults c.refuse.result.1) c.in-Err.ending c.refuse.result.0 c.in-Err.ensures.fetches.failures
    c.refuse.ensures.outside c.refuse.ensures.fault c.refuse.ensures.counted
    c.refuse.ensures.later
