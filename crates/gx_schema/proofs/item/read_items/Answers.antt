use Rattle.std.proofs.lemmas.Result.{err_from_is_err_and}
use Rattle.gx_schema.proofs.LoopSteps.{one_more, items_go_on, items_end, item_fails}
use Rattle.gx_schema.proofs.item.read_items.Goals as goal

pub returns-in_err-item : goal.returns-in_err-item
returns-in_err-item c =
    let p = err_from_is_err_and c.from_residual.result c.from_residual.ensures.1 in
    let i = c.loop-schema.invariant in
    rw (p.1, p.2) (item_fails c.loop-schema.schema c.loop-schema.rest.now c.in_err-item.field-0.0 _
    i.files i.links c.in_err-item.ensures.exact i.same)

pub returns-in_default : goal.returns-in_default
returns-in_default c =
    let i = c.loop-schema.invariant in
    items_end c.loop-schema.schema c.loop-schema.rest.now _ _ i.files i.links
    (rw c.in_default.is at c.in_ok-item.ensures.exact) i.same

pub loop-schema-preserved : goal.loop-schema-preserved
loop-schema-preserved c =
    let i = c.loop-schema.invariant in
    let item = c.in-Some.item in
    let more = one_more c.loop-schema.schema item i.files i.links
    (rw c.in-Some.is at c.in_ok-item.ensures.room) in
    rw c.in_ok-add.ensures (record {
      files = more.files;
      links = more.links;
      same = items_go_on c.loop-schema.schema c.loop-schema.rest.now item _ _ more.room
          (rw c.in-Some.is at c.in_ok-item.ensures.exact) i.same;
    })
