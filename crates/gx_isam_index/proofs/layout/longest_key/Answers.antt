use Rattle.std.proofs.Common.{length, max, sym, ap, ◌∙◌, arith}
use Rattle.gx_ports.specs.declared.leaves.Entry.{Entry as LeafEntry}
use Rattle.gx_isam_index.specs.Layout.{keys_of}
use Rattle.gx_isam_index.proofs.LayoutLemmas.{key_at, longest_more, max_of}
use Rattle.gx_isam_index.proofs.layout.longest_key.Goals as goal

pub loop-i-preserved : goal.loop-i-preserved
loop-i-preserved c =
    let es = c.args.entries.now in
    let i = c.loop-i.i in
    let key = c.entry-entry.result.key.now in
    let e : LeafEntry = record { key = key; body = c.entry-entry.result.body.now } in
    let most = c.loop-i.invariant.most in
    let fit = (c.requires.fit i e c.entry-entry.ensures).key in
    let now = max_of c.loop-i.longest (length key) c.max-longest.result c.max-longest.ensures in
    record {
      is = now ∙ ap (λ n. max n (length key)) c.loop-i.invariant.is
          ∙ sym (longest_more (keys_of es) i key (key_at es i e c.entry-entry.ensures));
      most = omega (arith, now, most, fit);
    }
