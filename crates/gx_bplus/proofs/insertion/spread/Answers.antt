use Rattle.std.proofs.Common.{arith}
use Rattle.gx_slots.specs.Entries.{Entry}
use Rattle.gx_bplus.proofs.InsertLemmas.{IsSpreadOver, spread_left, spread_right}
use Rattle.gx_bplus.proofs.insertion.spread.Goals as goal

pub returns-then-i-cut : goal.returns-then-i-cut
returns-then-i-cut c =
    let e : Entry = record { key = c.args.key.now; body = c.args.body.now } in
    let r = c.rank-i.ensures in
    let s = c.split.ensures in
    let a = c.add.ensures in
    let cut = c.cut-cut.ensures in
    let less = c.if-i-cut.true in
    let x : IsSpreadOver c.args.page.now c.add.new.page c.split.new.right e c.first_key.result =
    spread_left c.args.page.now c.split.new.page c.split.new.right c.add.new.page c.rank-i.result
    c.cut-cut.result e c.add.result
    c.first_key.result c.requires.page s.front s.next s.right s.back s.no_next
    less (cut.left less).0 (cut.left less).1 c.requires.fit a.page a.room.1 a.added a.next r.before
    (r.behind c.requires.page.0.ascending)
    c.requires.other c.first_key.ensures in
    record { left = x.left_shown; right = x.right_shown; spread = x.spread }

pub returns : goal.returns
returns c =
    let e : Entry = record { key = c.args.key.now; body = c.args.body.now } in
    let r = c.rank-i.ensures in
    let s = c.split.ensures in
    let a = c.add-2.ensures in
    let cut = c.cut-cut.ensures in
    let le = c.if-i-cut.false in
    let x : IsSpreadOver c.args.page.now c.split.new.page c.add-2.new.page e c.first_key-2.result =
    spread_right c.args.page.now c.split.new.page c.split.new.right c.add-2.new.page c.rank-i.result
    c.cut-cut.result e c.add-2.result
    c.first_key-2.result c.requires.page s.left s.front s.next s.back s.no_next
    (omega (arith, le)) r.place cut.some cut.within (cut.right (omega (arith, le))) c.requires.fit
    a.page a.room.1 a.added a.next r.before
    (r.behind c.requires.page.0.ascending) c.requires.other c.first_key-2.ensures in
    record { left = x.left_shown; right = x.right_shown; spread = x.spread }
