use Rattle.std.proofs.Common.{◌-◌, sym, ◌∙◌}
use Rattle.gx_ports.specs.declared.leaves.Entry.{Entry as LeafEntry}
use Rattle.gx_isam.proofs.RebuildLemmas.{filling_apart, filling_more}
use Rattle.gx_isam.proofs.rebuild.fill_page.Goals as goal

pub add-requires-clause-fit : goal.add-requires-clause-fit
add-requires-clause-fit c =
    let e : LeafEntry = record {
      key = c.entry-last.result.key.now;
      body = c.entry-last.result.body.now;
    } in
    c.requires.ordered.fit (c.args.end - 1) e c.entry-last.ensures

pub add-requires-else-bucket_of-bucket-clause-other :
    goal.add-requires-else-bucket_of-bucket-clause-other
add-requires-else-bucket_of-bucket-clause-other c =
    filling_apart c.args.index.now c.args.entries.now c.loop-start.start c.args.end
    c.bucket_of-bucket.result c.loop-start.page
    c.entry-entry.result.key.now c.entry-entry.result.body.now
    c.requires.ordered c.loop-start-test.true c.loop-start.invariant c.entry-entry.ensures

pub add-requires-else-bucket_of-bucket-clause-fit :
    goal.add-requires-else-bucket_of-bucket-clause-fit
add-requires-else-bucket_of-bucket-clause-fit c =
    let e : LeafEntry = record {
      key = c.entry-entry.result.key.now;
      body = c.entry-entry.result.body.now;
    } in
    c.requires.ordered.fit (c.loop-start.start - 1) e c.entry-entry.ensures

pub loop-start-preserved : goal.loop-start-preserved
loop-start-preserved c =
    filling_more c.args.index.now c.args.entries.now c.loop-start.start c.args.end
    c.bucket_of-bucket.result c.loop-start.page
    c.add-else-bucket_of-bucket.new.page c.entry-entry.result.key.now c.entry-entry.result.body.now
    c.loop-start-test.true c.loop-start.invariant c.entry-entry.ensures
    (sym c.bucket_of.ensures.value ∙ c.if-bucket_of-bucket.false)
    c.add-else-bucket_of-bucket.ensures.page c.if-not-add.ensures.added
