use Rattle.std.proofs.Common.{refl, sym, subst, ap, arith, rules}
use Rattle.gx_ports.specs.Sheets.{IsHome}
use Rattle.gx_ports.specs.Files.{OthersStay}
use Rattle.gx_btree.proofs.CallLemmas.{ends_after, ends_handed}
use Rattle.gx_bplus.proofs.FileLemmas.{root_ends}
use Rattle.gx_bplus.proofs.PuttingLemmas.{put_file, claimed_apart, spared, spared_handed, never_full, full_never, full_handed, held_of, put_from, claimed_from, root_full, growing_starts, growing_reads, growing_reached, growing_ends, growing_full, growing_apart, growing_put, growing_goes, growing_lost}
use Rattle.gx_bplus.proofs.RemovalLemmas.{on_ok}
use Rattle.gx_bplus.proofs.bplus.grow.Goals as goal

-- ---- the root is read

pub returns-in_err-read_page : goal.returns-in_err-read_page
returns-in_err-read_page g c =
    record {
      ok = search rules;
      others = search rules;
      full =
          full_never g.P.PageView _ c.args.place.now c.args.pages.now c.read_page.new.pages
          c.from_residual.result
          (never_full _ c.from_residual.result c.from_residual.ensures.1
          c.in_err-read_page.ensures.not_full);
      keeps = search rules;
      ends =
          ends_handed g.P.PageView _ _ _ c.args.pages.now c.read_page.new.pages _
          c.from_residual.result
          (root_ends g.P.PageView c.args.place.now c.args.key.now c.args.pages.now
          c.read_page.new.pages _ c.in_err-read_page.ensures.ends)
          c.from_residual.ensures.1;
      frugal = search rules;
    }

-- ---- it is the one page

pub returns-in-Entries : goal.returns-in-Entries
returns-in-Entries g c =
    let v = g.P.PageView in
    let place = c.args.place.now in
    let old = c.args.pages.now in
    let b = c.read_page.new.pages in
    let new = c.put_alone.new.pages in
    let e = c.in_ok-read_page.ensures in
    record {
      ok = λ map holds.
          on_ok c.put_alone.result
          (λ h. put_file (v.ground old) place (v.working old) (v.working new) map c.args.key.now
          c.args.body.now
          holds.file (put_from v place c.args.key.now old b new _ holds.file.tree e.reads h))
          (c.put_alone.ensures.put holds.told holds.file.tree
          (held_of v place c.args.key.now old b c.read_page.new.into e.reads e.read
          c.requires.place.least map holds));
      others = λ whole fault. (
          let holds = whole.1 in
          spared c.put_alone.result
          (on_ok c.put_alone.result
          (λ h. (put_from v place c.args.key.now old b new _ holds.file.tree e.reads h).others)
          (c.put_alone.ensures.put holds.told holds.file.tree
          (held_of v place c.args.key.now old b c.read_page.new.into e.reads e.read
          c.requires.place.least whole.0 holds)))
          (λ is. claimed_apart (v.ground old) place.owner (v.working old) (v.working new)
          (claimed_from v place c.args.key.now old b new e.reads
          (c.put_alone.ensures.claims.claimed holds.told is)))
          fault c.put_alone.ensures.claims.frugal
          (λ n is. c.put_alone.ensures.claims.ends.cause.damaged n is tt));
      full =
          root_full g.P.PageView c.args.place.now c.args.key.now c.args.pages.now
          c.read_page.new.pages c.put_alone.new.pages
          c.put_alone.result c.in_ok-read_page.ensures.reads c.requires.kind
          c.put_alone.ensures.claims.full
          c.put_alone.ensures.claims.claimed;
      keeps = search rules;
      ends =
          ends_after g.P.PageView _ _ c.args.pages.now c.read_page.new.pages c.put_alone.new.pages
          c.put_alone.result
          (e.ends.cause.counted refl) e.reads.keeps.ground
          (λ w. tt) c.put_alone.ensures.claims.ends;
      frugal = search rules;
    }

-- ---- it is opened

pub returns-in_err-at : goal.returns-in_err-at
returns-in_err-at g c =
    let v = g.P.PageView in
    let place = c.args.place.now in
    let old = c.args.pages.now in
    let b = c.read_page.new.pages in
    let new = c.open_root.new.pages in
    let e = c.in_ok-read_page.ensures in
    record {
      ok = search rules;
      others = λ whole fault.
          spared_handed _ c.from_residual-in_err-at.result c.from_residual-in_err-at.ensures.1
          (λ is. claimed_apart (v.ground old) place.owner (v.working old) (v.working new)
          (claimed_from v place c.args.key.now old b new c.in_ok-read_page.ensures.reads
          (c.in_err-at.ensures.claims.claimed whole.1.told is)))
          fault c.in_err-at.ensures.claims.frugal
          (λ n is. c.in_err-at.ensures.claims.ends.cause.damaged n is tt);
      full =
          full_handed g.P.PageView _ c.args.place.now c.args.pages.now c.open_root.new.pages _
          c.from_residual-in_err-at.result
          c.from_residual-in_err-at.ensures.1
          (root_full g.P.PageView c.args.place.now c.args.key.now c.args.pages.now
          c.read_page.new.pages c.open_root.new.pages _
          c.in_ok-read_page.ensures.reads c.requires.kind c.in_err-at.ensures.claims.full
          c.in_err-at.ensures.claims.claimed);
      keeps = search rules;
      ends =
          ends_handed g.P.PageView _ _ _ c.args.pages.now c.open_root.new.pages _
          c.from_residual-in_err-at.result
          (ends_after g.P.PageView _ _ c.args.pages.now c.read_page.new.pages
          c.open_root.new.pages _
          (e.ends.cause.counted refl) e.reads.keeps.ground
          (λ w. tt) c.in_err-at.ensures.claims.ends) c.from_residual-in_err-at.ensures.1;
      frugal = search rules;
    }

pub loop-init : goal.loop-init
loop-init g c =
    let v = g.P.PageView in
    let place = c.args.place.now in
    let old = c.args.pages.now in
    let b = c.read_page.new.pages in
    let e = c.in_ok-read_page.ensures in
    let o = c.in_ok-at.ensures in
    growing_starts v place c.args.key.now old b c.open_root.new.pages c.in_ok-at.at
    c.open_root.new.page e.reads
    (e.ends.cause.counted refl) c.open_root.ensures.claims.keeps (o.claims.ends.cause.counted refl)
    o.past o.inner o.room
    (λ map holds. o.come holds.told holds.file.tree
    (held_of v place c.args.key.now old b c.read_page.new.into e.reads e.read c.requires.place.least
    map holds))

-- ---- the child on the way is read

pub returns-in_err-read_page-2 : goal.returns-in_err-read_page-2
returns-in_err-read_page-2 g c =
    record {
      ok = search rules;
      others = λ whole fault.
          growing_apart g.P.PageView c.args.place.now c.args.key.now c.args.pages.now c.loop.pages
          c.loop.at c.loop.page c.loop.invariant
          c.child_for-next.result c.child_for-next.ensures c.read_page-in-loop.new.pages
          c.in_err-read_page-2.ensures.reads whole.0 whole.1;
      full =
          full_never g.P.PageView _ c.args.place.now c.args.pages.now c.read_page-in-loop.new.pages
          c.from_residual-in_err-read_page-2.result
          (never_full _ c.from_residual-in_err-read_page-2.result
          c.from_residual-in_err-read_page-2.ensures.1
          c.in_err-read_page-2.ensures.not_full);
      keeps = search rules;
      ends =
          ends_handed g.P.PageView _ _ _ c.args.pages.now c.read_page-in-loop.new.pages _
          c.from_residual-in_err-read_page-2.result
          (growing_reads g.P.PageView c.args.place.now c.args.key.now c.args.pages.now c.loop.pages
          c.loop.at c.loop.page c.loop.invariant
          c.child_for-next.result c.child_for-next.ensures c.read_page-in-loop.new.pages _
          c.in_err-read_page-2.ensures.ends)
          c.from_residual-in_err-read_page-2.ensures.1;
      frugal = search rules;
    }

-- ---- it is an entry page

pub returns-in-Entries-2 : goal.returns-in-Entries-2
returns-in-Entries-2 g c =
    let v = g.P.PageView in
    let place = c.args.place.now in
    let key = c.args.key.now in
    let old = c.args.pages.now in
    let i = c.loop.invariant in
    let next = c.child_for-next.result in
    let goes = c.child_for-next.ensures in
    let b = c.read_page-in-loop.new.pages in
    let below = c.read_page-in-loop.new.into in
    let e = c.in_ok-read_page-2.ensures in
    let new = c.put_below.new.pages in
    let some = c.requires.place.least in
    record {
      ok = λ map holds.
          on_ok c.put_below.result
          (λ h. put_file (v.ground old) place (v.working old) (v.working new) map key
          c.args.body.now holds.file
          (growing_put v place key old c.loop.pages c.loop.at c.loop.page i next goes b below
          e.reads e.read some new _ map holds h))
          (c.put_below.ensures.put holds.told place.root (i.come map holds).steps holds.file.tree
          (growing_reached v place key old c.loop.pages c.loop.at c.loop.page i next goes b below
          e.reads e.read some map holds));
      others = λ whole fault. (
          let map = whole.0 in
          let holds = whole.1 in
          let reached = growing_reached v place key old c.loop.pages c.loop.at c.loop.page i next
          goes b below e.reads e.read some map
          holds in
          spared c.put_below.result
          (on_ok c.put_below.result
          (λ h. (growing_put v place key old c.loop.pages c.loop.at c.loop.page i next goes b below
          e.reads e.read some new _ map holds
          h).others)
          (c.put_below.ensures.put holds.told place.root (i.come map holds).steps holds.file.tree
          reached))
          (λ is. subst (OthersStay (v.ground old) place.owner (v.working old))
          (sym (c.put_below.ensures.claims.unchanged is))
          (growing_apart v place key old c.loop.pages c.loop.at c.loop.page i next goes b e.reads
          map holds))
          fault c.put_below.ensures.claims.frugal
          (λ n is. c.put_below.ensures.claims.ends.cause.damaged n is (
            holds.told,
            record {
              owner = place.owner;
              root = place.root;
              tree = holds.file.tree;
              steps = (i.come map holds).steps;
              reached = reached;
            },
          )));
      full =
          growing_full g.P.PageView c.args.place.now c.args.key.now c.args.pages.now c.loop.pages
          c.loop.at c.loop.page c.loop.invariant
          c.child_for-next.result c.child_for-next.ensures c.read_page-in-loop.new.pages
          c.read_page-in-loop.new.into e.reads e.read
          c.requires.place.least
          c.put_below.new.pages c.put_below.result c.requires.kind c.put_below.ensures.claims.full
          c.put_below.ensures.claims.unchanged;
      keeps = search rules;
      ends =
          growing_ends g.P.PageView c.args.place.now c.args.key.now c.args.pages.now c.loop.pages
          c.loop.at c.loop.page c.loop.invariant
          c.child_for-next.result c.child_for-next.ensures c.read_page-in-loop.new.pages
          c.read_page-in-loop.new.into e.reads e.read
          c.requires.place.least
          c.put_below.new.pages c.put_below.result (e.ends.cause.counted refl)
          c.put_below.ensures.claims.ends;
      frugal = search rules;
    }

-- ---- it is an inner page, which gets room

pub returns-in_err-at-in-Inner-2 : goal.returns-in_err-at-in-Inner-2
returns-in_err-at-in-Inner-2 g c =
    let v = g.P.PageView in
    let place = c.args.place.now in
    let key = c.args.key.now in
    let old = c.args.pages.now in
    let i = c.loop.invariant in
    let next = c.child_for-next.result in
    let goes = c.child_for-next.ensures in
    let b = c.read_page-in-loop.new.pages in
    let below = c.read_page-in-loop.new.into in
    let e = c.in_ok-read_page-2.ensures in
    let some = c.requires.place.least in
    let m = c.in_err-at-in-Inner-2.ensures in
    record {
      ok = search rules;
      others = λ whole fault. (
          let map = whole.0 in
          let holds = whole.1 in
          let reached = growing_reached v place key old c.loop.pages c.loop.at c.loop.page i next
          goes b below e.reads e.read some map
          holds in
          spared_handed _ c.from_residual-in_err-at-in-Inner-2.result
          c.from_residual-in_err-at-in-Inner-2.ensures.1
          (λ is. subst (OthersStay (v.ground old) place.owner (v.working old))
          (sym (m.claims.unchanged is))
          (growing_apart v place key old c.loop.pages c.loop.at c.loop.page i next goes b e.reads
          map holds))
          fault m.claims.frugal
          (λ n is. m.claims.ends.cause.damaged n is (
            holds.told,
            record {
              owner = place.owner;
              root = place.root;
              tree = holds.file.tree;
              steps = (i.come map holds).steps;
              reached = reached;
            },
          )));
      full =
          full_handed g.P.PageView _ c.args.place.now c.args.pages.now c.make_room.new.pages _
          c.from_residual-in_err-at-in-Inner-2.result
          c.from_residual-in_err-at-in-Inner-2.ensures.1
          (growing_full g.P.PageView c.args.place.now c.args.key.now c.args.pages.now c.loop.pages
          c.loop.at c.loop.page c.loop.invariant
          c.child_for-next.result c.child_for-next.ensures c.read_page-in-loop.new.pages
          c.read_page-in-loop.new.into e.reads e.read
          c.requires.place.least
          c.make_room.new.pages _ c.requires.kind c.in_err-at-in-Inner-2.ensures.claims.full
          c.in_err-at-in-Inner-2.ensures.claims.unchanged);
      keeps = search rules;
      ends =
          ends_handed g.P.PageView _ _ _ c.args.pages.now c.make_room.new.pages _
          c.from_residual-in_err-at-in-Inner-2.result
          (growing_ends g.P.PageView c.args.place.now c.args.key.now c.args.pages.now c.loop.pages
          c.loop.at c.loop.page c.loop.invariant
          c.child_for-next.result c.child_for-next.ensures c.read_page-in-loop.new.pages
          c.read_page-in-loop.new.into e.reads e.read
          c.requires.place.least
          c.make_room.new.pages _ (e.ends.cause.counted refl)
          c.in_err-at-in-Inner-2.ensures.claims.ends)
          c.from_residual-in_err-at-in-Inner-2.ensures.1;
      frugal = search rules;
    }

pub loop-preserved : goal.loop-preserved
loop-preserved g c =
    let e = c.in_ok-read_page-2.ensures in
    let m = c.in_ok-at-in-Inner-2.ensures in
    growing_goes g.P.PageView c.args.place.now c.args.key.now c.args.pages.now c.loop.pages
    c.loop.at c.loop.page c.loop.invariant
    c.child_for-next.result c.child_for-next.ensures c.read_page-in-loop.new.pages
    c.read_page-in-loop.new.into e.reads e.read
    c.requires.place.least
    c.make_room.new.pages c.in_ok-at-in-Inner-2.at c.make_room.new.below (e.ends.cause.counted refl)
    c.make_room.ensures.claims.keeps
    (m.claims.ends.cause.counted refl) m.past m.inner m.room
    (λ told root steps tree reached. m.come told root steps tree reached)

-- ---- the search never ends

pub returns : goal.returns
returns g c =
    let i = c.loop.invariant in
    record {
      ok = search rules;
      others = λ whole fault. (c.loop.invariant.come whole.0 whole.1).others;
      full = search rules;
      keeps = search rules;
      ends =
          growing_lost g.P.PageView c.args.place.now c.args.key.now c.args.pages.now c.loop.pages
          c.loop.at c.loop.page c.block.result i
          (let s = ap (λ e. e.size) c.open_root.ensures.claims.keeps.ground in let r =
          ap (λ e. e.size) c.in_ok-read_page.ensures.reads.keeps.ground in let n =
          c.pages-end.ensures in let o = c.loop-test.false in
          omega (arith, s, r, n, o))
          (subst (λ x. IsHome x c.block.result) i.keeps.ground (_, c.block.ensures.home));
      frugal = search rules;
    }
