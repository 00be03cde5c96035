use Rattle.gx_slots.specs.Page.{entries_of}
use Rattle.gx_slots.specs.Entries.{Entry}
use Rattle.gx_bplus.proofs.InsertLemmas.{none_left, set_on}
use Rattle.gx_bplus.proofs.landing.set_sought.Goals as goal

pub add_at-requires-clause-other : goal.add_at-requires-clause-other
add_at-requires-clause-other c =
    none_left (entries_of c.args.page.now) (entries_of c.take_sought-spot.new.page) c.args.key.now
    c.take_sought-spot.ensures.taken

pub returns-clause-shown : goal.returns-clause-shown
returns-clause-shown c =
    let e : Entry = record { key = c.args.key.now; body = c.args.body.now } in
    let r = c.take_sought-spot.ensures.rank in
    let a = c.add_at.ensures in
    (set_on c.add_at.result c.args.page.now c.take_sought-spot.new.page c.add_at.new.page c.take_sought-spot.result.place e
    a.added a.full a.page a.next
    c.take_sought-spot.ensures.shown c.take_sought-spot.ensures.taken r.before (λ _. r.behind)).shown

pub returns-clause-set : goal.returns-clause-set
returns-clause-set c =
    let e : Entry = record { key = c.args.key.now; body = c.args.body.now } in
    let r = c.take_sought-spot.ensures.rank in
    let a = c.add_at.ensures in
    (set_on c.add_at.result c.args.page.now c.take_sought-spot.new.page c.add_at.new.page c.take_sought-spot.result.place e
    a.added a.full a.page a.next
    c.take_sought-spot.ensures.shown c.take_sought-spot.ensures.taken r.before (λ _. r.behind)).set
