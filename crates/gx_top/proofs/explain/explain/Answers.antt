use Rattle.std.proofs.Common.{ap, refl}
use Rattle.gx_requests.specs.Words.{explaining, request_words}
use Rattle.gx_top.proofs.JoinLemmas.{joined, unprepared, given_by}
use Rattle.gx_top.proofs.KeepLemmas.{keeps_words}
use Rattle.gx_operations.proofs.LaterLemmas.{explained_later, fetched_later}
use Rattle.gx_top.proofs.ReadyLemmas.{refused_counts}
use Rattle.gx_top.proofs.explain.explain.Goals as goal

pub returns-in-Ok-clause-promised : goal.returns-in-Ok-clause-promised
returns-in-Ok-clause-promised g c = λ told.
    let words = request_words explaining c.args.schema.now c.args.equation.now in
    let content = g.M.Device.content in
    let old = content c.args.machine in
    let mid = content c.prepare_nodes.new.machine in
    let new = content c.explain-status.new.machine in
    let s = c.explain-status.result in
    let is = (c.in-Ok.ensures.prepared told).ready words explaining (tt, refl) in
    let given = given_by c.in-Ok.schema is.definitions is.typing in
    let f = c.in-Ok.ensures.fetches in
    joined words old new s explaining given is.accepted
    (explained_later old mid (fetched_later old mid f.same f.time) (ap (λ m. m.pending) f.same.now) given
    new s (c.explain-status.ensures.promised told given refl is.trees))
    (keeps_words words old mid new (fetched_later old mid f.same f.time)
    c.explain-status.ensures.keeps)

pub returns-in-Err-clause-promised : goal.returns-in-Err-clause-promised
returns-in-Err-clause-promised g c = λ told.
    let words = request_words explaining c.args.schema.now c.args.equation.now in
    let content = g.M.Device.content in
    let old = content c.args.machine in
    let mid = content c.prepare_nodes.new.machine in
    let f = c.in-Err.ensures.fetches in
    unprepared words old mid (content c.refuse.result.1) _ _ c.in-Err.ending c.refuse.result.0
    ((c.in-Err.ensures.prepared told).unprepared words explaining (tt, refl))
    (fetched_later old mid f.same f.time) (ap (λ m. m.pending) f.same.now)
    (c.refuse.ensures.refused told) (c.refuse.ensures.given_up told) c.refuse.ensures.keeps

pub returns-in-Err-clause-failures : goal.returns-in-Err-clause-failures
returns-in-Err-clause-failures g c =
    let faults = g.M.Device.faults in
    refused_counts (faults c.args.machine) (faults c.prepare_nodes.new.machine)
    (faults c.refuse.result.1) c.in-Err.ending c.refuse.result.0 c.in-Err.ensures.fetches.failures
    c.refuse.ensures.outside c.refuse.ensures.fault c.refuse.ensures.counted
    c.refuse.ensures.later
