use Rattle.std.proofs.Common.{◌∙◌, refl, sym, subst, arith}
use Rattle.gx_btree.specs.Bplus.{Seems}
use Rattle.gx_btree.proofs.CallLemmas.{ends_handed}
use Rattle.gx_btree.proofs.FileLemmas.{place_past}
use Rattle.gx_btree.proofs.FindLemmas.{IsFinding, finding_starts, finding_ends, finding_goes, finding_shape, finding_found, finding_torn, finding_lost}
use Rattle.gx_btree.specs.declared.reading.Shape.TheVariants as shapes
use Rattle.gx_ports.specs.Sheets.{IsHome}
use Rattle.gx_btree.proofs.searching.find.Goals as goal

pub loop-init : goal.loop-init
loop-init g c = (
  c.requires.bytes,
  subst
      (λ b. IsFinding g.P.PageView c.args.place.now c.args.key.now c.args.pages.now
      c.args.pages.now c.args.place.now.root c.args.place.now.root b 0)
      (sym c.requires.unbounded)
      (finding_starts g.P.PageView c.args.place.now c.args.key.now c.args.pages.now
      (place_past (g.P.PageView.ground c.args.pages.now) c.args.place.now c.requires.place
      c.requires.kind).below),
)

pub returns-in_err-read_kind-clause-ends : goal.returns-in_err-read_kind-clause-ends
returns-in_err-read_kind-clause-ends g c =
    ends_handed g.P.PageView _ _ _ c.args.pages.now c.read_kind.new.pages _ c.from_residual.result
    (finding_ends g.P.PageView c.args.place.now c.args.key.now c.args.pages.now c.loop.pages
    c.loop.from c.loop.at
    c.loop.bound c.loop.invariant.1 c.read_kind.new.pages _ c.in_err-read_kind.ensures.ends)
    c.from_residual.ensures.1

pub returns-in-Entries-clause-shown : goal.returns-in-Entries-clause-shown
returns-in-Entries-clause-shown g c map holds =
    let e = c.in_ok-read_kind.ensures in
    finding_shape g.P.PageView c.args.place.now c.args.key.now c.args.pages.now c.loop.pages
    c.loop.from c.loop.at
    c.loop.bound c.loop.invariant.1 c.read_kind.new.into shapes.Entries
    (subst (λ s. Seems s c.read_kind.new.into) c.in-Entries.is e.shape) e.read map holds

pub returns-in-Entries-clause-found : goal.returns-in-Entries-clause-found
returns-in-Entries-clause-found g c map holds =
    let e = c.in_ok-read_kind.ensures in
    finding_found g.P.PageView c.args.place.now c.args.key.now c.args.pages.now c.loop.pages
    c.loop.from c.loop.at
    c.loop.bound c.loop.invariant.1 c.read_kind.new.into
    (subst (λ s. Seems s c.read_kind.new.into) c.in-Entries.is e.shape) e.read map holds

pub returns-in_default-clause-ends : goal.returns-in_default-clause-ends
returns-in_default-clause-ends g c =
    let e = c.in_ok-read_kind.ensures in
    let i = c.loop.invariant.1 in
    finding_torn g.P.PageView c.args.place.now c.args.key.now c.args.pages.now c.loop.pages
    c.loop.from c.loop.at
    c.loop.bound i c.read_kind.new.pages c.read_kind.new.into c.block.result
    (e.ends.cause.counted refl)
    (subst (λ x. IsHome x c.block.result) (e.reads.keeps.ground ∙ i.reads.keeps.ground)
    (_, c.block.ensures.home))
    (subst (λ s. Seems s c.read_kind.new.into) c.in-Inner.is e.shape) e.read c.in_default.ensures

pub loop-preserved : goal.loop-preserved
loop-preserved g c =
    let e = c.in_ok-read_kind.ensures in (
      e.bytes,
      finding_goes g.P.PageView c.args.place.now c.args.key.now c.args.pages.now c.loop.pages
          c.loop.from c.loop.at
          c.loop.bound c.loop.invariant.1 c.read_kind.new.pages c.read_kind.new.into
          c.in-Some.child c.child_on.new.bound e.reads
          (e.ends.cause.counted refl) e.past
          (subst (λ s. Seems s c.read_kind.new.into) c.in-Inner.is e.shape) e.read
          c.in-Some.ensures,
    )

pub returns-clause-ends : goal.returns-clause-ends
returns-clause-ends g c =
    let i = c.loop.invariant.1 in
    finding_lost g.P.PageView c.args.place.now c.args.key.now c.args.pages.now c.loop.pages
    c.loop.from c.loop.at
    c.loop.bound i c.block-2.result
    (let n = c.pages-end.ensures in let o = c.loop-test.false in omega (arith, n, o))
    (subst (λ x. IsHome x c.block-2.result) i.reads.keeps.ground (_, c.block-2.ensures.home))
