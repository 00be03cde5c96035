use Rattle.std.proofs.Common.{◌+◌, ◌∙◌, ℕ, ap, subst, arith}
use Rattle.gx_device.specs.Content.{Written}
use Rattle.gx_device.proofs.RunLemmas.{outside_joined, outside_write}
use Rattle.gx_layout.specs.Layout.{first_text}
use Rattle.gx_layout.specs.Head.{IsText}
use Rattle.gx_layout.proofs.BlockLemmas.{blocks_twice, blocks_write}
use Rattle.gx_layout.proofs.FormatLemmas.{more_texts}
use Rattle.gx_layout.proofs.formatting.write_texts.Goals as goal

pub returns-in_err-write_block-clause-run : goal.returns-in_err-write_block-clause-run
returns-in_err-write_block-clause-run g c =
    let size = g.D.Device.size c.args.device.now in
    let at = c.first_text-first.ensures.block ∙ ap first_text c.blocks-2.ensures.count in
    outside_joined (IsText size) _ (g.D.Device.content c.loop-i.device) _ c.loop-i.invariant.run
    (outside_write (IsText size) (c.first_text-first.result + c.loop-i.i) _ _
    (omega (arith, at), omega (arith, at, c.loop-i-test.true)) c.write_block.ensures.rest)

pub loop-i-preserved : goal.loop-i-preserved
loop-i-preserved g c =
    let so_far = c.loop-i.invariant in
    let mid = g.D.Device.content c.loop-i.device in
    let new = g.D.Device.content c.write_block.new.self in
    let size = g.D.Device.size c.args.device.now in
    let texts = IsText size in
    let first_is = c.first_text-first.ensures.block ∙ ap first_text c.blocks-2.ensures.count in
    let at = c.first_text-first.result + c.loop-i.i in
    let within : texts at = (
      omega (arith, first_is),
      omega (arith, first_is, c.loop-i-test.true),
    ) in
    record {
      size = c.write_block.ensures.size ∙ so_far.size;
      faults = c.in_ok-write_block.ensures.counted ∙ so_far.faults;
      run = outside_joined texts _ mid _ so_far.run
          (outside_write texts at _ _ within c.write_block.ensures.rest);
      rest = blocks_twice texts _ mid _ so_far.rest
          (blocks_write texts at _ _ within c.write_block.ensures.rest);
      texts = λ told. more_texts (first_text size) c.args.area.now c.loop-i.i
          c.text_block.result.now mid new
          (omega (
            arith,
            c.loop-i-test.true,
            c.requires.room,
            so_far.size,
            g.met.D.Device.sized c.loop-i.device told,
          ))
          c.text_block.ensures.is
          (subst (λ (n : ℕ). Written (n + c.loop-i.i) c.text_block.result.now mid new) first_is
          (c.in_ok-write_block.ensures.block told)) (so_far.texts told);
    }
