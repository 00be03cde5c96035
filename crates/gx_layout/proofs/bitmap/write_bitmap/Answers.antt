use Rattle.std.proofs.Common.{◌+◌, ◌∙◌, ap, arith}
use Rattle.gx_device.proofs.RunLemmas.{outside_joined, outside_write}
use Rattle.gx_layout.specs.Places.{IsBitmap, bitmap_blocks}
use Rattle.gx_layout.proofs.BlockLemmas.{blocks_twice, blocks_write}
use Rattle.gx_layout.proofs.BitLemmas.{more_blocks}
use Rattle.gx_layout.proofs.bitmap.write_bitmap.Goals as goal

pub returns-in_err-write_block-clause-run : goal.returns-in_err-write_block-clause-run
returns-in_err-write_block-clause-run g c =
    let bitmap = IsBitmap (g.D.Device.size c.args.device.now) in
    let count = c.bitmap_blocks-i-end.ensures.count ∙ ap bitmap_blocks c.blocks-2.ensures.count in
    outside_joined bitmap _ (g.D.Device.content c.loop-i.device) _ c.loop-i.invariant.run
    (outside_write bitmap (2 + c.loop-i.i) _ _
    (omega arith, omega (arith, c.loop-i-test.true, count)) c.write_block.ensures.rest)

pub loop-i-preserved : goal.loop-i-preserved
loop-i-preserved g c =
    let size = g.D.Device.size c.args.device.now in
    let bitmap = IsBitmap size in
    let so_far = c.loop-i.invariant in
    let mid = g.D.Device.content c.loop-i.device in
    let count = c.bitmap_blocks-i-end.ensures.count ∙ ap bitmap_blocks c.blocks-2.ensures.count in
    let within : bitmap (2 + c.loop-i.i) = (
      omega arith,
      omega (arith, c.loop-i-test.true, count),
    ) in
    record {
      size = c.write_block.ensures.size ∙ so_far.size;
      faults = c.in_ok-write_block.ensures.counted ∙ so_far.faults;
      run = outside_joined bitmap _ mid _ so_far.run
          (outside_write bitmap (2 + c.loop-i.i) _ _ within c.write_block.ensures.rest);
      rest = blocks_twice bitmap _ mid _ so_far.rest
          (blocks_write bitmap (2 + c.loop-i.i) _ _ within c.write_block.ensures.rest);
      names = λ told. more_blocks c.args.listed.now c.loop-i.i c.bitmap_of.result mid
          (g.D.Device.content c.write_block.new.self)
          (omega (
            arith,
            within.1,
            c.requires.room,
            so_far.size,
            g.met.D.Device.sized c.loop-i.device told,
          ))
          c.bitmap_of.ensures (c.in_ok-write_block.ensures.block told) (so_far.names told);
    }
