use Rattle.gx_slots.specs.Page.{entries_of}
use Rattle.gx_slots.specs.Entries.{Entry}
use Rattle.gx_bplus.proofs.InsertLemmas.{none_left, set_on}
use Rattle.gx_bplus.proofs.insertion.set_entry.Goals as goal

pub add-requires-clause-other : goal.add-requires-clause-other
add-requires-clause-other c =
    none_left (entries_of c.args.page.now) (entries_of c.take_key.new.page) c.args.key.now
    c.take_key.ensures.taken

pub returns-clause-shown : goal.returns-clause-shown
returns-clause-shown c =
    let e : Entry = record { key = c.args.key.now; body = c.args.body.now } in
    let r = c.rank-i.ensures in
    let a = c.add.ensures in
    (set_on c.add.result c.args.page.now c.take_key.new.page c.add.new.page c.rank-i.result e
    a.added a.full a.page a.next
    c.take_key.ensures.shown c.take_key.ensures.taken r.before r.behind).shown

pub returns-clause-set : goal.returns-clause-set
returns-clause-set c =
    let e : Entry = record { key = c.args.key.now; body = c.args.body.now } in
    let r = c.rank-i.ensures in
    let a = c.add.ensures in
    (set_on c.add.result c.args.page.now c.take_key.new.page c.add.new.page c.rank-i.result e
    a.added a.full a.page a.next
    c.take_key.ensures.shown c.take_key.ensures.taken r.before r.behind).set

pub returns-clause-taken : goal.returns-clause-taken
returns-clause-taken c =
    let e : Entry = record { key = c.args.key.now; body = c.args.body.now } in
    let r = c.rank-i.ensures in
    let a = c.add.ensures in
    (set_on c.add.result c.args.page.now c.take_key.new.page c.add.new.page c.rank-i.result e
    a.added a.full a.page a.next
    c.take_key.ensures.shown c.take_key.ensures.taken r.before r.behind).taken
