use Rattle.std.proofs.Common.{refl, sym, ap, subst, ◌∙◌, arith, Err}
use Rattle.std.proofs.lemmas.Result.{on_ok_weaker}
use Rattle.gx_ports.specs.Files.{IsWhole, OthersStay}
use Rattle.gx_ports.specs.Sheets.{Sheets, Ground, HasNone, bytes_at}
use Rattle.gx_ports.specs.declared.stop.Stop.TheVariants as stop
use Rattle.gx_ports.proofs.PageLemmas.{ends_as, ends_handed_on, others_itself, others_joined}
use Rattle.gx_isam_index.specs.Fresh.{HasFreshBuckets}
use Rattle.gx_isam.specs.Isam.{IsIsam}
use Rattle.gx_isam_index.specs.Layout.{keys_of}
use Rattle.gx_isam.proofs.BlankLemmas.{blank_there, others_there}
use Rattle.gx_isam.proofs.ChangeLemmas.{isam_read}
use Rattle.gx_isam_index.proofs.LayoutLemmas.{fresh_stays}
use Rattle.gx_isam.proofs.MakeLemmas.{one_root}
use Rattle.gx_isam.proofs.SelectedLemmas.{keys_selected}
use Rattle.gx_isam.proofs.WriteLemmas.{handed_refusal, no_refusal, same_refusal}
use Rattle.gx_isam.proofs.isam.reorganize.Goals as goal

pub returns-in_err-entries-clause-others : goal.returns-in_err-entries-clause-others
returns-in_err-entries-clause-others g c whole fault =
    let p = c.args.pages.now in
    let place = c.args.place.now in
    subst (λ (x : Sheets). OthersStay (g.P.PageView.ground p) place.owner (g.P.PageView.working p)
    x)
    (sym c.gather_all.ensures.reads.working)
    (others_itself (g.P.PageView.ground p) place.owner (g.P.PageView.working p))

pub returns-in_err-free_chains-clause-others : goal.returns-in_err-free_chains-clause-others
returns-in_err-free_chains-clause-others g c whole fault =
    let p = c.args.pages.now in
    let q = c.gather_all.new.pages in
    let place = c.args.place.now in
    let reads = c.gather_all.ensures.reads in
    let refused = c.in_err-free_chains.ensures in
    let why = c.in_err-free_chains.field-0.0 in
    absurd (no_refusal {T = Unit {0}} g.P.PageView
    (IsWhole g.P.PageView (IsIsam (g.P.PageView.ground q) place) q) q
    c.free_chains.new.pages why (
      whole.0,
      record {
        told = whole.1.told;
        file = isam_read g.P.PageView place p q reads whole.0 whole.1.file;
      },
    ) refused.ends
    refused.not_full refused.frugal
    (λ is. fault (handed_refusal c.from_residual-in_err-free_chains.result why stop.Fault
    c.from_residual-in_err-free_chains.ensures.1 is)))

pub returns-in_err-free_chains-clause-ends : goal.returns-in_err-free_chains-clause-ends
returns-in_err-free_chains-clause-ends g c =
    let p = c.args.pages.now in
    let q = c.gather_all.new.pages in
    let place = c.args.place.now in
    let reads = c.gather_all.ensures.reads in
    ends_handed_on {T = Unit {0}} g.P.PageView
    (IsWhole g.P.PageView (IsIsam (g.P.PageView.ground p) place) p)
    (IsWhole g.P.PageView (IsIsam (g.P.PageView.ground q) place) q) p q c.free_chains.new.pages _
    c.from_residual-in_err-free_chains.result
    (c.in_ok-entries.ensures.ends.cause.counted refl) reads.keeps.ground
    (λ whole. (
      whole.0,
      record {
        told = whole.1.told;
        file = isam_read g.P.PageView place p q reads whole.0 whole.1.file;
      },
    ))
    c.in_err-free_chains.ensures.ends c.from_residual-in_err-free_chains.ensures.1

pub returns-in_err-entries-clause-unchanged : goal.returns-in_err-entries-clause-unchanged
returns-in_err-entries-clause-unchanged g c is = c.gather_all.ensures.reads.working

pub returns-in_err-free_chains-clause-unchanged : goal.returns-in_err-free_chains-clause-unchanged
returns-in_err-free_chains-clause-unchanged g c is =
    let handed = same_refusal c.from_residual-in_err-free_chains.result
    c.in_err-free_chains.field-0.0 stop.NoMemory
    c.from_residual-in_err-free_chains.ensures.1 is in
    absurd (c.in_err-free_chains.ensures.frugal (ap Err handed))

pub returns-clause-unchanged : goal.returns-clause-unchanged
returns-clause-unchanged g c is = absurd (c.fill_chains.ensures.frugal is)

pub returns-clause-ok : goal.returns-clause-ok
returns-clause-ok g c map holds =
    let p = c.args.pages.now in
    let w = c.write.new.self in
    let place = c.args.place.now in
    let index = c.write_index.new.page in
    let reads = c.gather_all.ensures.reads in
    let blank = blank_there g.P.PageView place p c.gather_all.new.pages c.free_chains.new.pages w
    reads c.requires.place c.requires.kind
    c.free_chains.ensures.keeps.ground c.write.ensures.keeps.ground
    (g.met.P.Pages.many c.free_chains.new.pages holds.told).1
    index c.in_ok-entries.entries map holds (c.in_ok-free_chains.ensures.emptied map)
    (c.in_ok-write.ensures.written holds.told)
    c.write_index.ensures.index c.write_index.ensures.none (c.in_ok-entries.ensures.all map holds)
    in
    on_ok_weaker c.fill_chains.result
    (λ filled. subst (λ (x : Ground). IsIsam x place
    (g.P.PageView.working c.fill_chains.new.pages) map)
    (c.write.ensures.keeps.ground ∙ c.free_chains.ensures.keeps.ground ∙ reads.keeps.ground)
    filled.file)
    (c.fill_chains.ensures.filled holds.told map blank)

pub returns-clause-fresh : goal.returns-clause-fresh
returns-clause-fresh g c map holds =
    let p = c.args.pages.now in
    let w = c.write.new.self in
    let place = c.args.place.now in
    let index = c.write_index.new.page in
    let reads = c.gather_all.ensures.reads in
    let blank = blank_there g.P.PageView place p c.gather_all.new.pages c.free_chains.new.pages w
    reads c.requires.place c.requires.kind
    c.free_chains.ensures.keeps.ground c.write.ensures.keeps.ground
    (g.met.P.Pages.many c.free_chains.new.pages holds.told).1
    index c.in_ok-entries.entries map holds (c.in_ok-free_chains.ensures.emptied map)
    (c.in_ok-write.ensures.written holds.told)
    c.write_index.ensures.index c.write_index.ensures.none (c.in_ok-entries.ensures.all map holds)
    in
    let now = bytes_at (g.P.PageView.working c.fill_chains.new.pages) place.root in
    on_ok_weaker c.fill_chains.result
    (λ filled. subst (HasFreshBuckets now) (ap keys_of (c.in_ok-entries.ensures.all map holds)
    ∙ keys_selected map)
    (fresh_stays index now (keys_of c.in_ok-entries.entries) c.write_index.ensures.fresh
    filled.count filled.separators))
    (c.fill_chains.ensures.filled holds.told map blank)

pub returns-clause-others : goal.returns-clause-others
returns-clause-others g c whole fault =
    let p = c.args.pages.now in
    let w = c.write.new.self in
    let place = c.args.place.now in
    let index = c.write_index.new.page in
    let reads = c.gather_all.ensures.reads in
    let u = g.P.PageView.working c.fill_chains.new.pages in
    let blank = blank_there g.P.PageView place p c.gather_all.new.pages c.free_chains.new.pages w
    reads c.requires.place c.requires.kind
    c.free_chains.ensures.keeps.ground c.write.ensures.keeps.ground
    (g.met.P.Pages.many c.free_chains.new.pages whole.1.told).1
    index c.in_ok-entries.entries whole.0 whole.1 (c.in_ok-free_chains.ensures.emptied whole.0)
    (c.in_ok-write.ensures.written whole.1.told) c.write_index.ensures.index
    c.write_index.ensures.none
    (c.in_ok-entries.ensures.all whole.0 whole.1) in
    let before = others_there g.P.PageView place p c.gather_all.new.pages c.free_chains.new.pages w
    reads c.requires.place c.requires.kind
    c.free_chains.ensures.keeps.ground c.write.ensures.keeps.ground
    (g.met.P.Pages.many c.free_chains.new.pages whole.1.told).1
    index c.in_ok-entries.entries whole.0 whole.1 (c.in_ok-free_chains.ensures.emptied whole.0)
    (c.in_ok-write.ensures.written whole.1.told) c.write_index.ensures.index
    c.write_index.ensures.none in
    others_joined (g.P.PageView.ground p) place.owner (g.P.PageView.working p)
    (g.P.PageView.working w) u before
    (subst (λ (x : Ground). OthersStay x place.owner (g.P.PageView.working w) u)
    (c.write.ensures.keeps.ground ∙ c.free_chains.ensures.keeps.ground ∙ reads.keeps.ground)
    (c.fill_chains.ensures.partly whole.1.told whole.0 blank fault).others)

pub returns-clause-full : goal.returns-clause-full
returns-clause-full g c = record {
  none = λ told is. subst (λ (x : Ground). HasNone x (g.P.PageView.working c.fill_chains.new.pages))
      (c.write.ensures.keeps.ground ∙ c.free_chains.ensures.keeps.ground
      ∙ c.gather_all.ensures.reads.keeps.ground)
      (c.fill_chains.ensures.full told is);
  few = λ map holds is. (
      let p = c.args.pages.now in
      let w = c.write.new.self in
      let place = c.args.place.now in
      let index = c.write_index.new.page in
      let reads = c.gather_all.ensures.reads in
      let blank = blank_there g.P.PageView place p c.gather_all.new.pages c.free_chains.new.pages w
      reads c.requires.place c.requires.kind
      c.free_chains.ensures.keeps.ground c.write.ensures.keeps.ground
      (g.met.P.Pages.many c.free_chains.new.pages holds.told).1
      index c.in_ok-entries.entries map holds (c.in_ok-free_chains.ensures.emptied map)
      (c.in_ok-write.ensures.written holds.told)
      c.write_index.ensures.index c.write_index.ensures.none (c.in_ok-entries.ensures.all map holds)
      in
      let roots = one_root place c.requires.kind in
      let few = (c.fill_chains.ensures.partly holds.told map blank
      (λ fault. (let clash = sym is ∙ fault in cc))).few in
      omega (arith, few, roots));
}

pub returns-clause-ends : goal.returns-clause-ends
returns-clause-ends g c =
    let p = c.args.pages.now in
    let w = c.write.new.self in
    ends_as g.P.PageView (IsWhole g.P.PageView (IsIsam (g.P.PageView.ground p) c.args.place.now) p)
    (Unit {0}) p w c.fill_chains.new.pages
    c.fill_chains.result
    (c.in_ok-write.ensures.faults.counted ∙ c.in_ok-free_chains.ensures.ends.cause.counted refl
    ∙ c.in_ok-entries.ensures.ends.cause.counted refl)
    (c.write.ensures.keeps.ground ∙ c.free_chains.ensures.keeps.ground
    ∙ c.gather_all.ensures.reads.keeps.ground)
    (λ _. tt) c.fill_chains.ensures.ends
