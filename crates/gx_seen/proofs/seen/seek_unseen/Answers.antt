use Rattle.std.proofs.Common.{◌≡◌, ◌≤◌, ℕ, ◌*◌, refl, ap, subst, ◌∙◌, arith}
use Rattle.std.specs.Prelude.{slice_get}
use Rattle.std.proofs.lemmas.Grind.{div_ceil_times}
use Rattle.std.proofs.lemmas.Option.{slice_get_within}
use Rattle.gx_ports.specs.Sheets.{Sheets, Ground, AreOwnersOn, IsHome}
use Rattle.gx_ports.proofs.PageLemmas.{pages_read_themselves, read_pages_joined}
use Rattle.gx_seen.specs.Seen.{HasAllSeen}
use Rattle.gx_seen.proofs.EndLemmas.{ends_shown}
use Rattle.gx_seen.proofs.SeenLemmas.{seen_more, owned_there}
use Rattle.gx_seen.proofs.seen.seek_unseen.Goals as goal

pub loop-table-init : goal.loop-table-init
loop-table-init g c = (
  record {
    reads = pages_read_themselves g.P.PageView c.args.pages.now;
    faults = refl;
    all = λ told q less. absurd (omega (arith, less));
  },
  refl,
)

pub returns-in-Some-clause-ends : goal.returns-in-Some-clause-ends
returns-in-Some-clause-ends g c =
    let i = c.loop-table.invariant.0 in
    let reads = read_pages_joined g.P.PageView i.reads c.owners.ensures.reads in
    let sheets = g.P.PageView.working c.args.pages.now in
    let size : c.pages-in-loop-table.result ≡ (g.P.PageView.ground c.args.pages.now).size =
    c.pages-in-loop-table.ensures ∙ ap (λ (x : Ground). x.size) reads.keeps.ground in
    let found = c.in-Some.ensures in
    ends_shown g.P.PageView (HasAllSeen g.P.PageView c.args.pages.now c.args.owner c.args.seen.now)
    c.args.pages.now c.owners.new.self c.block.result
    (c.in_ok-owners.ensures.faults.counted ∙ i.faults)
    (subst (λ (x : Ground). IsHome x c.block.result) reads.keeps.ground
    (_, c.block.ensures.home))
    (λ has.
    let on = subst (λ (s : Sheets). AreOwnersOn s.owners c.loop-table.table c.owners.new.into)
    i.reads.working (c.in_ok-owners.ensures.owners has.0) in
    let owned = owned_there (g.P.PageView.ground c.args.pages.now).size sheets
    (g.met.P.Pages.many c.args.pages.now has.0).0 c.loop-table.table (c.loop-table.table * 2048)
    c.owners.new.into on (omega arith)
    c.args.owner found.0 (let low = found.1 in omega (arith, low, c.min-count.ensures)) (let low =
    found.1 in omega (arith, low, c.min-count.ensures, size)) found.3 in
    found.4 (has.1 c.in-Some.page (ap (λ (n : ℕ). slice_get sheets.owners n) found.2 ∙ owned)))

pub loop-table-preserved : goal.loop-table-preserved
loop-table-preserved g c =
    let i = c.loop-table.invariant.0 in
    let reads = read_pages_joined g.P.PageView i.reads c.owners.ensures.reads in
    let sheets = g.P.PageView.working c.args.pages.now in
    let size : c.pages-in-loop-table.result ≡ (g.P.PageView.ground c.args.pages.now).size =
    c.pages-in-loop-table.ensures ∙ ap (λ (x : Ground). x.size) reads.keeps.ground in (
      record {
        reads = reads;
        faults = c.in_ok-owners.ensures.faults.counted ∙ i.faults;
        all = λ told.
            let on = subst (λ (s : Sheets). AreOwnersOn s.owners c.loop-table.table
            c.owners.new.into) i.reads.working (c.in_ok-owners.ensures.owners told) in
            seen_more (g.P.PageView.ground c.args.pages.now).size sheets
            (g.met.P.Pages.many c.args.pages.now told).0 c.loop-table.table
            (c.loop-table.table * 2048) c.owners.new.into on (omega arith)
            c.args.owner c.args.seen.now c.min-count.result
            (λ k low below. omega (arith, low, below, c.min-count.ensures, size))
            c.in_default.ensures
            (i.all told);
      },
      c.owners.ensures.count,
    )

pub returns-clause-all : goal.returns-clause-all
returns-clause-all g c told q owned =
    let i = c.loop-table.invariant.0 in
    let sheets = g.P.PageView.working c.args.pages.now in
    let within = slice_get_within sheets.owners q c.args.owner owned in
    let many = (g.met.P.Pages.many c.args.pages.now told).0 in
    let over : (g.P.PageView.ground c.args.pages.now).size ≤ 2048 * c.loop-table.table = let all =
    (div_ceil_times c.pages.result 2048 (omega arith)).0 in
    omega (arith, all, c.pages.ensures, c.div_ceil-table-end.ensures, c.loop-table-test.false) in
    i.all told q (omega (arith, within, many, over)) owned
