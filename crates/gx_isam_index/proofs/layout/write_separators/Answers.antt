use Rattle.std.proofs.Common.{◌≡◌, length, Some, sym, ap, subst, ◌∙◌}
use Rattle.std.specs.Prelude.{slice_get}
use Rattle.gx_ports.specs.declared.leaves.Entry.{Entry as LeafEntry}
use Rattle.gx_isam_index.specs.Fresh.{begin_of}
use Rattle.gx_isam_index.specs.Layout.{keys_of}
use Rattle.gx_isam_index.proofs.LayoutLemmas.{key_at, length-keys_of, longest_least, writing_room, writing_more}
use Rattle.gx_isam_index.proofs.layout.write_separators.Goals as goal

pub write_separator-at-requires-clause-fit : goal.write_separator-at-requires-clause-fit
write_separator-at-requires-clause-fit c =
    let e : LeafEntry = record {
      key = c.entry-first.result.key.now;
      body = c.entry-first.result.body.now;
    } in
    (c.requires.ordered.fit c.begin_of-place.result e c.entry-first.ensures).key

pub write_separator-at-requires-clause-room : goal.write_separator-at-requires-clause-room
write_separator-at-requires-clause-room c =
    let es = c.args.entries.now in
    let key = c.entry-first.result.key.now in
    let e : LeafEntry = record { key = key; body = c.entry-first.result.body.now } in
    writing_room c.args.page.now c.loop-bucket.page (keys_of es) c.args.count c.loop-bucket.bucket
    c.loop-bucket.at key c.loop-bucket.invariant c.loop-bucket-test.true
    (longest_least (keys_of es) c.begin_of-place.result key
    (key_at es c.begin_of-place.result e c.entry-first.ensures))

pub loop-bucket-preserved : goal.loop-bucket-preserved
loop-bucket-preserved c =
    let es = c.args.entries.now in
    let key = c.entry-first.result.key.now in
    let bucket = c.loop-bucket.bucket in
    let count = c.args.count in
    let e : LeafEntry = record { key = key; body = c.entry-first.result.body.now } in
    let place_is : c.begin_of-place.result ≡ begin_of bucket count (length (keys_of es)) =
    c.begin_of-place.ensures
    ∙ ap (λ n. begin_of n c.from-in-loop-bucket-2.result c.len.result) c.from-in-loop-bucket.ensures
    ∙ ap (λ n. begin_of bucket n c.len.result) c.from-in-loop-bucket-2.ensures
    ∙ ap (λ n. begin_of bucket count n) (c.len.ensures ∙ sym (length-keys_of es)) in
    writing_more c.args.page.now c.loop-bucket.page c.write_separator-at.new.page (keys_of es) count
    bucket c.loop-bucket.at c.write_separator-at.result key c.loop-bucket.invariant
    c.loop-bucket-test.true
    (subst (λ n. slice_get (keys_of es) n ≡ Some key) place_is
    (key_at es c.begin_of-place.result e c.entry-first.ensures))
    (c.requires.ordered.fit c.begin_of-place.result e c.entry-first.ensures).key
    c.write_separator-at.ensures.page c.write_separator-at.auto.page
    c.write_separator-at.ensures.end
