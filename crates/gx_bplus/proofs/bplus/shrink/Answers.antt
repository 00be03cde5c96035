use Rattle.std.proofs.Common.{refl, subst, ap, arith, rules}
use Rattle.gx_btree.specs.Bplus.{Shows}
use Rattle.gx_btree.proofs.CallLemmas.{ends_handed}
use Rattle.gx_bplus.proofs.FileLemmas.{removed_file, on_no_fault, root_ends, descent_starts, next_ends, descent_goes, reached_of, reached_ends, removed_of, descent_lost, alone_of}
use Rattle.gx_bplus.proofs.RemovalLemmas.{on_ok}
use Rattle.gx_ports.specs.Sheets.{IsHome}
use Rattle.gx_bplus.proofs.bplus.shrink.Goals as goal

pub returns-in_err-read_page : goal.returns-in_err-read_page
returns-in_err-read_page g c =
    record {
      ok = search rules;
      others = search rules;
      keeps = search rules;
      ends =
          ends_handed g.P.PageView _ _ _ c.args.pages.now c.read_page.new.pages _
          c.from_residual.result
          (root_ends g.P.PageView c.args.place.now c.args.key.now c.args.pages.now
          c.read_page.new.pages _ c.in_err-read_page.ensures.ends)
          c.from_residual.ensures.1;
      not_full = search rules;
      frugal = search rules;
    }

pub returns-in-Entries : goal.returns-in-Entries
returns-in-Entries g c =
    let old = c.args.pages.now in
    let e = c.in_ok-read_page.ensures in
    record {
      ok = λ map holds.
          removed_file (g.P.PageView.ground old) c.args.place.now (g.P.PageView.working old)
          (g.P.PageView.working c.remove_alone.new.pages) map c.args.key.now holds.file
          (alone_of g.P.PageView c.args.place.now c.args.key.now old c.read_page.new.pages
          c.remove_alone.new.pages c.read_page.new.into
          e.reads map holds (e.read holds.told)
          (c.in_ok-remove_alone-in-Entries.ensures.removed holds.told));
      others = λ whole fault. (
          let holds = whole.1 in
          (alone_of g.P.PageView c.args.place.now c.args.key.now old c.read_page.new.pages
          c.remove_alone.new.pages c.read_page.new.into
          e.reads whole.0 holds (e.read holds.told)
          (c.in_ok-remove_alone-in-Entries.ensures.removed holds.told)).others);
      keeps = search rules;
      ends = search rules;
      not_full = search rules;
      frugal = search rules;
    }

pub loop-init : goal.loop-init
loop-init g c =
    let e = c.in_ok-read_page.ensures in
    descent_starts g.P.PageView c.args.place.now c.args.key.now c.args.pages.now
    c.read_page.new.pages c.read_page.new.into e.reads
    (e.ends.cause.counted refl) e.past
    (subst (λ s. Shows s c.read_page.new.into) c.in-Inner.is e.shape) e.read

pub returns-in_err-read_page-2 : goal.returns-in_err-read_page-2
returns-in_err-read_page-2 g c =
    record {
      ok = search rules;
      others = search rules;
      keeps = search rules;
      ends =
          ends_handed g.P.PageView _ _ _ c.args.pages.now c.read_page-in-loop.new.pages _
          c.from_residual-in_err-read_page-2.result
          (next_ends g.P.PageView c.args.place.now c.args.key.now c.args.pages.now c.loop.pages
          c.loop.at c.loop.page c.loop.invariant
          c.child_for-next.result c.child_for-next.ensures c.read_page-in-loop.new.pages _
          c.in_err-read_page-2.ensures.ends)
          c.from_residual-in_err-read_page-2.ensures.1;
      not_full = search rules;
      frugal = search rules;
    }

pub returns-in-Entries-2 : goal.returns-in-Entries-2
returns-in-Entries-2 g c =
    let v = g.P.PageView in
    let place = c.args.place.now in
    let key = c.args.key.now in
    let old = c.args.pages.now in
    let e = c.in_ok-read_page-2.ensures in
    let b = c.read_page-in-loop.new.pages in
    let new = c.remove_below.new.pages in
    record {
      ok = λ map holds.
          on_ok c.remove_below.result
          (λ h. removed_file (v.ground old) place (v.working old) (v.working new) map key
          holds.file
          (removed_of v place key old c.loop.pages c.loop.at c.loop.page c.loop.invariant
          c.child_for-next.result c.child_for-next.ensures
          b new e.reads holds.file.tree h))
          (c.remove_below.ensures.removed holds.told place.owner place.root c.loop.counter
          holds.file.tree
          (reached_of v place key old c.loop.pages c.loop.at c.loop.page c.loop.invariant
          c.child_for-next.result c.child_for-next.ensures
          b c.read_page-in-loop.new.into e.reads e.read c.requires.place.least map holds));
      others = λ whole fault. (
          let map = whole.0 in
          let holds = whole.1 in
          let reached = reached_of v place key old c.loop.pages c.loop.at c.loop.page
          c.loop.invariant c.child_for-next.result
          c.child_for-next.ensures b c.read_page-in-loop.new.into e.reads e.read
          c.requires.place.least map holds in
          on_no_fault c.remove_below.result
          (on_ok c.remove_below.result
          (λ h. (removed_of v place key old c.loop.pages c.loop.at c.loop.page c.loop.invariant
          c.child_for-next.result
          c.child_for-next.ensures b new e.reads holds.file.tree h).others)
          (c.remove_below.ensures.removed holds.told place.owner place.root c.loop.counter
          holds.file.tree reached))
          fault c.remove_below.ensures.not_full c.remove_below.ensures.frugal
          (λ n is. c.remove_below.ensures.ends.cause.damaged n is (
            holds.told,
            record {
              owner = place.owner;
              root = place.root;
              tree = holds.file.tree;
              steps = c.loop.counter;
              reached = reached;
            },
          )));
      keeps = search rules;
      ends =
          reached_ends g.P.PageView c.args.place.now c.args.key.now c.args.pages.now c.loop.pages
          c.loop.at c.loop.page c.loop.invariant
          c.child_for-next.result c.child_for-next.ensures
          c.read_page-in-loop.new.pages c.remove_below.new.pages c.read_page-in-loop.new.into
          c.remove_below.result e.reads
          (e.ends.cause.counted refl) e.read c.requires.place.least c.remove_below.ensures.ends;
      not_full = search rules;
      frugal = search rules;
    }

pub loop-preserved : goal.loop-preserved
loop-preserved g c =
    let e = c.in_ok-read_page-2.ensures in
    descent_goes g.P.PageView c.args.place.now c.args.key.now c.args.pages.now c.loop.pages
    c.loop.at c.loop.page c.loop.invariant
    c.child_for-next.result c.child_for-next.ensures
    c.read_page-in-loop.new.pages c.read_page-in-loop.new.into e.reads (e.ends.cause.counted refl)
    e.past
    (subst (λ s. Shows s c.read_page-in-loop.new.into) c.in-Inner-2.is e.shape) e.read

pub returns : goal.returns
returns g c =
    let v = g.P.PageView in
    let i = c.loop.invariant in
    record {
      ok = search rules;
      others = search rules;
      keeps = search rules;
      ends =
          descent_lost v c.args.place.now c.args.key.now c.args.pages.now c.loop.pages c.loop.at
          c.loop.page c.block.result i
          (let s = ap (λ e. e.size) c.in_ok-read_page.ensures.reads.keeps.ground in let n =
          c.pages-end.ensures in let o =
          c.loop-test.false in omega (arith, s, n, o))
          (subst (λ x. IsHome x c.block.result) i.reads.keeps.ground (_, c.block.ensures.home));
      not_full = search rules;
      frugal = search rules;
    }
