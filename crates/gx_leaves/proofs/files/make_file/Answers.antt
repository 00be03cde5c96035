use Rattle.std.proofs.Common.{subst}
use Rattle.gx_ports.specs.FileCalls.{MakesFile}
use Rattle.gx_leaves.proofs.KindLemmas.{heap_is, hash_is, isam_is, bplus_is}
use Rattle.gx_leaves.proofs.files.make_file.Goals as goal

pub returns-in-Heap : goal.returns-in-Heap
returns-in-Heap g c =
    let old = c.args.pages.now in
    let place = c.args.place.now in
    let call = c.make in
    subst (λ F. MakesFile g.P.PageView F place old call.new.pages call.result)
    (heap_is (g.P.PageView.ground old) place c.in-Heap.is) call.ensures

pub returns-in-Hash : goal.returns-in-Hash
returns-in-Hash g c =
    let old = c.args.pages.now in
    let place = c.args.place.now in
    let call = c.make-in-Hash in
    subst (λ F. MakesFile g.P.PageView F place old call.new.pages call.result)
    (hash_is (g.P.PageView.ground old) place c.in-Hash.field-0 c.in-Hash.is) call.ensures

pub returns-in-Isam : goal.returns-in-Isam
returns-in-Isam g c =
    let old = c.args.pages.now in
    let place = c.args.place.now in
    let call = c.make-in-Isam in
    subst (λ F. MakesFile g.P.PageView F place old call.new.pages call.result)
    (isam_is (g.P.PageView.ground old) place c.in-Isam.is) call.ensures.made

pub returns-in-Bplus : goal.returns-in-Bplus
returns-in-Bplus g c =
    let old = c.args.pages.now in
    let place = c.args.place.now in
    let call = c.make-in-Bplus in
    subst (λ F. MakesFile g.P.PageView F place old call.new.pages call.result)
    (bplus_is (g.P.PageView.ground old) place c.in-Bplus.is) call.ensures
