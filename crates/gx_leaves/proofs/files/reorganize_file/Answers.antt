use Rattle.std.proofs.Common.{subst}
use Rattle.std.specs.Prelude.{OnOk}
use Rattle.gx_ports.specs.LeafMaps.{LeafMap}
use Rattle.gx_ports.specs.Files.{Holds, IsFull, SparesOthers, EndsFile, IsWhole}
use Rattle.gx_isam.specs.Fresh.{IsFresh}
use Rattle.gx_leaves.specs.Kinds.{IsFileAt}
use Rattle.gx_leaves.proofs.KindLemmas.{fresh_is, isam_is}
use Rattle.gx_leaves.proofs.files.reorganize_file.Goals as goal

pub returns-in-Isam-clause-others : goal.returns-in-Isam-clause-others
returns-in-Isam-clause-others g c =
    let old = c.args.pages.now in let place = c.args.place.now in
    subst (λ F. SparesOthers g.P.PageView F place.owner old c.reorganize.new.pages
    c.reorganize.result) (isam_is (g.P.PageView.ground old) place c.in-Isam.is)
    c.reorganize.ensures.others

pub returns-in-Isam-clause-ends : goal.returns-in-Isam-clause-ends
returns-in-Isam-clause-ends g c =
    let old = c.args.pages.now in let place = c.args.place.now in
    subst (λ F. EndsFile g.P.PageView (IsWhole g.P.PageView F old) old c.reorganize.new.pages
    c.reorganize.result) (isam_is (g.P.PageView.ground old) place c.in-Isam.is)
    c.reorganize.ensures.ends

pub returns-in-Isam-clause-ok : goal.returns-in-Isam-clause-ok
returns-in-Isam-clause-ok g c =
    let old = c.args.pages.now in let place = c.args.place.now in
    subst (λ F. (m : LeafMap) → Holds g.P.PageView F old m
    → OnOk c.reorganize.result (F (g.P.PageView.working c.reorganize.new.pages) m))
    (isam_is (g.P.PageView.ground old) place c.in-Isam.is) c.reorganize.ensures.ok

pub returns-in-Isam-clause-full : goal.returns-in-Isam-clause-full
returns-in-Isam-clause-full g c =
    let old = c.args.pages.now in let place = c.args.place.now in
    subst (λ F. IsFull g.P.PageView F place old c.reorganize.new.pages c.reorganize.result)
    (isam_is (g.P.PageView.ground old) place c.in-Isam.is) c.reorganize.ensures.full

pub returns-in-Isam-clause-fresh : goal.returns-in-Isam-clause-fresh
returns-in-Isam-clause-fresh g c =
    let old = c.args.pages.now in let place = c.args.place.now in
    subst (λ R. (m : LeafMap) → Holds g.P.PageView (IsFileAt (g.P.PageView.ground old) place) old m
    → OnOk c.reorganize.result (R (g.P.PageView.working c.reorganize.new.pages) m))
    (fresh_is place c.in-Isam.is)
    (subst (λ F. (m : LeafMap) → Holds g.P.PageView F old m
    → OnOk c.reorganize.result (IsFresh place (g.P.PageView.working c.reorganize.new.pages) m))
    (isam_is (g.P.PageView.ground old) place c.in-Isam.is) c.reorganize.ensures.fresh)
