use Rattle.std.proofs.Common.{◌≡◌, ◌≤◌, ℕ, ◌+◌, ◌*◌, refl, sym, ap, subst, ◌∙◌, arith}
use Rattle.std.proofs.lemmas.Grind.{div_ceil_times}
use Rattle.gx_chain.proofs.CheckLemmas.{ends_shown}
use Rattle.gx_ports.specs.Sheets.{Sheets, Ground, AreOwnersOn, IsHome}
use Rattle.gx_ports.proofs.PageLemmas.{pages_read_themselves, read_pages_joined}
use Rattle.gx_leaves.specs.Checks.{HasTable, IsDueOwner}
use Rattle.gx_leaves.proofs.TableLemmas.{due_more, undue, table_due}
use Rattle.gx_leaves.proofs.checking.check_table.Goals as goal

pub loop-table-init : goal.loop-table-init
loop-table-init g c = (
  record {
    reads = pages_read_themselves g.P.PageView c.args.pages.now;
    faults = refl;
    due = λ told q o less. absurd (omega (arith, less));
  },
  refl,
)

pub returns-in-Some-clause-ends : goal.returns-in-Some-clause-ends
returns-in-Some-clause-ends g c =
    let i = c.loop-table.invariant.0 in
    let reads = read_pages_joined g.P.PageView i.reads c.owners.ensures.reads in
    let base = g.P.PageView.ground c.args.pages.now in
    let sheets = g.P.PageView.working c.args.pages.now in
    let size : c.pages-in-loop-table.result ≡ base.size = c.pages-in-loop-table.ensures
    ∙ ap (λ (x : Ground). x.size) reads.keeps.ground in
    let tables : c.tables.result ≡ base.tables = c.tables.ensures
    ∙ ap (λ (x : Ground). x.tables) reads.keeps.ground in
    let found = c.in-Some.ensures in
    ends_shown g.P.PageView (HasTable g.P.PageView c.args.pages.now c.args.leaves) c.args.pages.now
    c.owners.new.self c.block.result
    (c.in_ok-owners.ensures.faults.counted ∙ i.faults)
    (subst (λ (x : Ground). IsHome x c.block.result) reads.keeps.ground
    (_, c.block.ensures.home))
    (λ has.
    let on = subst (λ (s : Sheets). AreOwnersOn s.owners c.loop-table.table c.owners.new.into)
    i.reads.working (c.in_ok-owners.ensures.owners has.0) in
    let due = undue base c.args.leaves sheets (g.met.P.Pages.many c.args.pages.now has.0).0
    c.loop-table.table (c.loop-table.table * 2048) c.owners.new.into on (omega arith)
    found.0 found.1 (let low = found.2 in omega (arith, low, c.min-count.ensures)) (let low =
    found.2 in omega (arith, low, c.min-count.ensures, size)) found.4 has.1 in
    found.5 (subst (λ (n : ℕ). IsDueOwner n c.args.leaves c.in-Some.page found.1) (sym tables)
    (subst (λ (n : ℕ). IsDueOwner base.tables c.args.leaves n found.1) (sym found.3) due)))

pub loop-table-preserved : goal.loop-table-preserved
loop-table-preserved g c =
    let i = c.loop-table.invariant.0 in
    let reads = read_pages_joined g.P.PageView i.reads c.owners.ensures.reads in
    let base = g.P.PageView.ground c.args.pages.now in
    let sheets = g.P.PageView.working c.args.pages.now in
    let size : c.pages-in-loop-table.result ≡ base.size = c.pages-in-loop-table.ensures
    ∙ ap (λ (x : Ground). x.size) reads.keeps.ground in
    let tables : c.tables.result ≡ base.tables = c.tables.ensures
    ∙ ap (λ (x : Ground). x.tables) reads.keeps.ground in (
      record {
        reads = reads;
        faults = c.in_ok-owners.ensures.faults.counted ∙ i.faults;
        due = λ told.
            let on = subst (λ (s : Sheets). AreOwnersOn s.owners c.loop-table.table
            c.owners.new.into) i.reads.working (c.in_ok-owners.ensures.owners told) in
            due_more base c.args.leaves sheets (g.met.P.Pages.many c.args.pages.now told).0
            c.loop-table.table (c.loop-table.table * 2048) c.owners.new.into on
            (omega arith) c.min-count.result
            (λ k low below. omega (arith, low, below, c.min-count.ensures, size))
            (λ k owner low at. subst (λ (n : ℕ). IsDueOwner n c.args.leaves
            (c.loop-table.table * 2048 + k) owner) tables (c.in_default.ensures k owner low at))
            (i.due told);
      },
      c.owners.ensures.count,
    )

pub returns-clause-table : goal.returns-clause-table
returns-clause-table g c =
    let i = c.loop-table.invariant.0 in
    let size = (g.P.PageView.ground c.args.pages.now).size in
    let over : size ≤ 2048 * c.loop-table.table = let all =
    (div_ceil_times c.pages.result 2048 (omega arith)).0 in
    omega (arith, all, c.pages.ensures, c.div_ceil-table-end.ensures, c.loop-table-test.false) in
    λ told. table_due (g.P.PageView.ground c.args.pages.now) c.args.leaves
    (g.P.PageView.working c.args.pages.now) (g.met.P.Pages.many c.args.pages.now told).0
    (2048 * c.loop-table.table) c.requires over (i.due told)
