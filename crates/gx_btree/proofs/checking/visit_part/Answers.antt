use Rattle.std.proofs.Common.{◌<◌, List, Bool, true, length, slice_set, refl, sym, ap, ◌∙◌, subst, arith}
use Rattle.std.specs.Prelude.{IsTrue}
use Rattle.std.specs.Bool.{OnTrue}
use Rattle.std.specs.Global.{Vec}
use Rattle.std.proofs.lemmas.Bool.{false≢true}
use Rattle.gx_ports.specs.Sheets.{Ground, IsHome}
use Rattle.gx_ports.proofs.PageLemmas.{ends_handed_on}
use Rattle.gx_btree.specs.declared.reading.Shape.{Shape}
use Rattle.gx_btree.specs.Bplus.{IsTreePage}
use Rattle.gx_btree.specs.Checking.{HasNext, IsPassed}
use Rattle.gx_seen.specs.Seen.{IsUnseen}
use Rattle.gx_btree.proofs.CallLemmas.{ends_shown}
use Rattle.gx_btree.proofs.VisitLemmas.{next_reads, next_inside, visited_of, parts_below}
use Rattle.gx_btree.proofs.checking.visit_part.Goals as goal

pub returns-in_err-shape-clause-ends : goal.returns-in_err-shape-clause-ends
returns-in_err-shape-clause-ends g c =
    let p = c.args.pages.now in
    let s = g.P.PageView.working p in
    let part = c.args.part.now in
    let visits = c.args.visits.now in
    ends_handed_on {T = Shape} g.P.PageView (HasNext g.P.PageView p c.args.owner part visits)
    (IsTrue g.P.PageView.tells × IsTreePage (g.P.PageView.ground p) s part.page
    × IsUnseen s c.args.owner c.deref.result.now part.page) p p c.read_unseen.new.pages _
    c.from_residual.result
    refl refl
    (λ n. subst (λ (x : List Bool). IsTrue g.P.PageView.tells
    × IsTreePage (g.P.PageView.ground p) s part.page × IsUnseen s c.args.owner x part.page)
    (sym c.deref.ensures.value) (next_reads g.P.PageView c.args.owner part p visits n))
    c.in_err-shape.ensures.ends c.from_residual.ensures.1

pub returns-then-not-branch-clause-ends : goal.returns-then-not-branch-clause-ends
returns-then-not-branch-clause-ends g c =
    let p = c.args.pages.now in
    let part = c.args.part.now in
    let visits = c.args.visits.now in
    let read = c.in_ok-shape.ensures in
    ends_shown g.P.PageView (HasNext g.P.PageView p c.args.owner part visits) p
    c.read_unseen.new.pages c.block.result
    (read.ends.cause.counted refl) (subst (λ (x : Ground). IsHome x c.block.result)
    read.reads.keeps.ground (_, c.block.ensures.home))
    (λ n. false≢true (sym c.if-not-branch.true
    ∙ c.in_ok-pass.ensures.inside.1
    (next_inside g.P.PageView c.args.owner part p visits c.in_ok-shape.shape c.read_unseen.new.page
    read.shape read.read
    (let b = read.past.below in omega (arith, b, c.requires.seen)) n)))

pub returns-clause-visited : goal.returns-clause-visited
returns-clause-visited g c told =
    let p = c.args.pages.now in
    let part = c.args.part.now in
    let visits = c.args.visits.now in
    let read = c.in_ok-shape.ensures in
    let page = c.read_unseen.new.page in
    let passed = subst
    (λ (b : Bool). OnTrue b (IsPassed c.in_ok-shape.shape page part visits c.pass.new.visits))
    c.if-not-branch.false c.in_ok-pass.ensures.passed in
    let below : part.page < length visits.seen.items =
    let b = read.past.below in omega (arith, b, c.requires.seen) in
    visited_of g.P.PageView c.args.owner part p visits c.in_ok-shape.shape page read.shape read.read
    below c.pass.new.visits _ told read.past
    (subst (λ (x : List Bool). IsUnseen (g.P.PageView.working p) c.args.owner x part.page)
    c.deref.ensures.value (read.unseen told))
    (c.in_ok-pass.ensures.inside.0 c.if-not-branch.false) passed refl refl
    (ap (λ (v : Vec Bool). slice_set v.items part.page true) c.in_ok-pass.ensures.seen)

pub returns-clause-below : goal.returns-clause-below
returns-clause-below g c =
    let part = c.args.part.now in
    let visits = c.args.visits.now in
    let page = c.read_unseen.new.page in
    let shape = c.in_ok-shape.shape in
    parts_below (g.P.PageView.ground c.args.pages.now) shape page part visits c.pass.new.visits
    (subst (λ (b : Bool). OnTrue b (IsPassed shape page part visits c.pass.new.visits))
    c.if-not-branch.false c.in_ok-pass.ensures.passed) c.in_ok-shape.ensures.past.below
