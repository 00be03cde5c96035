use Rattle.std.proofs.Common.{refl, sym, subst, ◌∙◌, arith}
use Rattle.gx_ports.specs.Sheets.{Sheets, Ground}
use Rattle.gx_ports.specs.declared.stop.Stop.TheVariants as stop
use Rattle.gx_ports.proofs.PageLemmas.{kept_pages_joined, pages_keep_themselves}
use Rattle.gx_slots.specs.Page.{entries_of}
use Rattle.gx_isam.specs.Change.{IsHungBefore}
use Rattle.gx_isam.specs.Rebuild.{IsPartlyFilled}
use Rattle.gx_isam.proofs.RebuildLemmas.{filled_first, filled_last, filled_more, filled_partly}
use Rattle.gx_isam.proofs.WriteLemmas.{handed_refusal, only_full}
use Rattle.gx_isam.proofs.rebuild.fill_chains.Goals as goal

pub loop-end-init : goal.loop-end-init
loop-end-init g c =
    let p = c.args.pages.now in
    let len = c.len-end.ensures in
    record {
      keeps = pages_keep_themselves g.P.PageView p;
      faults = refl;
      page = c.requires.index;
      within = omega (arith, len);
      way = λ map told blank. filled_first (g.P.PageView.ground p) c.args.place.now
          (g.P.PageView.working p) c.args.index.now
          c.args.entries.now map c.len-end.result blank len;
    }

pub loop-end-preserved : goal.loop-end-preserved
loop-end-preserved g c =
    let i = c.loop-end.invariant in
    let p = c.args.pages.now in
    let s = g.P.PageView.working c.loop-end.pages in
    let u = g.P.PageView.working c.hang_before.new.pages in
    let place = c.args.place.now in
    let index = c.loop-end.index in
    let bucket = c.fill_page-bucket.result.0 in
    let start = c.fill_page-bucket.result.1 in
    let es = entries_of c.fill_page-bucket.new.page in
    let run = c.fill_page-bucket.ensures.run in
    let less = run.some in
    let within = i.within in
    record {
      keeps = kept_pages_joined g.P.PageView i.keeps c.hang_before.ensures.claims.keeps;
      faults = c.in_ok-hang_before.ensures.claims.ends.cause.counted refl ∙ i.faults;
      page = c.hang_before.ensures.index;
      within = omega (arith, less, within);
      way = λ map told blank.
          filled_more (g.P.PageView.ground p) place (g.P.PageView.working p) s u c.args.index.now
          index c.hang_before.new.index
          c.args.entries.now c.requires.ordered start c.loop-end.end within c.requires.place.least
          (i.way map told blank)
          bucket c.fill_page-bucket.ensures.bucket es run
          (subst (λ (x : Ground). IsHungBefore x place index bucket es s u) i.keeps.ground
          (c.in_ok-hang_before.ensures.hung told))
          (c.in_ok-hang_before.ensures.written told) c.hang_before.ensures.count
          c.hang_before.ensures.separators;
    }

pub returns-in_err-hang_before-clause-partly : goal.returns-in_err-hang_before-clause-partly
returns-in_err-hang_before-clause-partly g c told map blank fault =
    let i = c.loop-end.invariant in
    let p = c.args.pages.now in
    let now = c.loop-end.pages in
    let ground = g.P.PageView.ground p in
    let place = c.args.place.now in
    let refused = c.in_err-hang_before.ensures.claims in
    let why = c.in_err-hang_before.field-0.0 in
    let same = only_full {T = Unit {0}} g.P.PageView now c.hang_before.new.pages why refused.ends
    refused.unchanged refused.frugal
    (λ is. fault (handed_refusal c.from_residual.result why stop.Fault c.from_residual.ensures.1
    is)) in
    subst (λ (x : Sheets). IsPartlyFilled ground place (g.P.PageView.working p) x map) (sym same)
    (filled_partly ground place (g.P.PageView.working p) (g.P.PageView.working now) c.args.index.now
    c.loop-end.index c.args.entries.now
    c.loop-end.end map blank.those (i.way map told blank))

pub returns-clause-filled : goal.returns-clause-filled
returns-clause-filled g c told map blank =
    let p = c.args.pages.now in
    let over = c.loop-end-test.false in
    filled_last (g.P.PageView.ground p) c.args.place.now (g.P.PageView.working p)
    (g.P.PageView.working c.loop-end.pages) c.args.index.now
    c.loop-end.index c.args.entries.now c.loop-end.end map blank.those
    (c.loop-end.invariant.way map told blank) (omega (arith, over))

pub returns-clause-partly : goal.returns-clause-partly
returns-clause-partly g c told map blank fault =
    let p = c.args.pages.now in
    filled_partly (g.P.PageView.ground p) c.args.place.now (g.P.PageView.working p)
    (g.P.PageView.working c.loop-end.pages)
    c.args.index.now c.loop-end.index c.args.entries.now c.loop-end.end map blank.those
    (c.loop-end.invariant.way map told blank)
