use Rattle.std.proofs.Common.{◌<◌, ◌∙◌, ℕ, ap, subst, arith}
use Rattle.gx_device.specs.Crash.{Through, Outside}
use Rattle.gx_device.proofs.RunLemmas.{outside_joined}
use Rattle.gx_layout.specs.Layout.{IsIn, OnlyBlocks, CopiedBelow, bitmap_blocks, bit_in, flags, has_bit_on, home}
use Rattle.gx_layout.proofs.BlockLemmas.{silent_twice, blocks_twice, blocks_read}
use Rattle.gx_layout.proofs.RecoverLemmas.{read_run, more_named_run, more_named, more_copied_named}
use Rattle.gx_layout.proofs.recovery.copy_home.Goals as goal

pub returns-in_err-read_block-clause-rest : goal.returns-in_err-read_block-clause-rest
returns-in_err-read_block-clause-rest g c told =
    let content = g.D.Device.content in
    let a = content c.args.device.now in
    let P = c.args.pages in
    let named = IsIn (home (g.D.Device.size c.args.device.now) P 0)
    (flags (has_bit_on a.now.blocks) P) in
    outside_joined named a (content c.loop-i.device) _ (c.loop-i.invariant.run told)
    (read_run named _ _ c.read_block.ensures.rest)

pub returns-in_err-read_block-clause-touched : goal.returns-in_err-read_block-clause-touched
returns-in_err-read_block-clause-touched g c told =
    let content = g.D.Device.content in
    let a = content c.args.device.now in
    let P = c.args.pages in
    let named = IsIn (home (g.D.Device.size c.args.device.now) P 0)
    (flags (has_bit_on a.now.blocks) P) in
    blocks_twice named a (content c.loop-i.device) _ (c.loop-i.invariant.touched told)
    (blocks_read named _ _ c.read_block.ensures.rest)

pub returns-in_err-copy_named-clause-rest : goal.returns-in_err-copy_named-clause-rest
returns-in_err-copy_named-clause-rest g c told =
    let content = g.D.Device.content in
    let size = g.D.Device.size c.args.device.now in
    let c1 = content c.read_block.new.self in
    let d = content c.copy_named.new.device in
    let bits = flags (bit_in c.loop-i.i c.read_block.new.into) c.args.pages in
    let sizes = c.read_block.ensures.size ∙ c.loop-i.invariant.size in
    let count = c.bitmap_blocks-i-end.ensures.count ∙ ap bitmap_blocks c.blocks-2.ensures.count in
    more_named_run size c.args.pages (content c.args.device.now) c.loop-i.i
    (omega (arith, c.loop-i-test.true, count)) (content c.loop-i.device) c1 d
    c.read_block.new.into c.read_block.ensures.rest (c.in_ok-read_block.ensures.block told)
    (c.loop-i.invariant.run told)
    (subst (λ (n : ℕ). Through (Outside (IsIn (home n c.args.pages 0) bits) c1.now) c1 d) sizes
    c.copy_named.ensures.rest)

pub returns-in_err-copy_named-clause-touched : goal.returns-in_err-copy_named-clause-touched
returns-in_err-copy_named-clause-touched g c told =
    let content = g.D.Device.content in
    let size = g.D.Device.size c.args.device.now in
    let c1 = content c.read_block.new.self in
    let d = content c.copy_named.new.device in
    let bits = flags (bit_in c.loop-i.i c.read_block.new.into) c.args.pages in
    let sizes = c.read_block.ensures.size ∙ c.loop-i.invariant.size in
    let count = c.bitmap_blocks-i-end.ensures.count ∙ ap bitmap_blocks c.blocks-2.ensures.count in
    more_named size c.args.pages (content c.args.device.now) c.loop-i.i
    (omega (arith, c.loop-i-test.true, count)) (content c.loop-i.device) c1 d
    c.read_block.new.into c.read_block.ensures.rest (c.in_ok-read_block.ensures.block told)
    (c.loop-i.invariant.run told).now (c.loop-i.invariant.touched told)
    (subst (λ (n : ℕ). OnlyBlocks (IsIn (home n c.args.pages 0) bits) c1 d) sizes
    c.copy_named.ensures.touched)

pub loop-i-preserved : goal.loop-i-preserved
loop-i-preserved g c =
    let content = g.D.Device.content in
    let size = g.D.Device.size c.args.device.now in
    let P = c.args.pages in
    let a = content c.args.device.now in
    let b = content c.loop-i.device in
    let c1 = content c.read_block.new.self in
    let d = content c.copy_named.new.device in
    let block = c.read_block.new.into in
    let bits = flags (bit_in c.loop-i.i block) P in
    let sizes = c.read_block.ensures.size ∙ c.loop-i.invariant.size in
    let count = c.bitmap_blocks-i-end.ensures.count ∙ ap bitmap_blocks c.blocks-2.ensures.count in
    let within : c.loop-i.i < bitmap_blocks size = omega (arith, c.loop-i-test.true, count) in
    let run = subst (λ (n : ℕ). Through (Outside (IsIn (home n P 0) bits) c1.now) c1 d) sizes
    c.copy_named.ensures.rest in
    let so_far = c.loop-i.invariant in
    record {
      size = c.copy_named.ensures.size ∙ sizes;
      faults = c.in_ok-copy_named.ensures.faults.same ∙ c.in_ok-read_block.ensures.counted
          ∙ so_far.faults;
      silent = silent_twice a b d so_far.silent
          (silent_twice b c1 d (blocks_read (λ n. Unit {0}) b c1 c.read_block.ensures.rest).silent
          c.copy_named.ensures.touched.silent);
      run = λ told. more_named_run size P a c.loop-i.i within b c1 d block
          c.read_block.ensures.rest (c.in_ok-read_block.ensures.block told) (so_far.run told) run;
      touched = λ told. more_named size P a c.loop-i.i within b c1 d block
          c.read_block.ensures.rest (c.in_ok-read_block.ensures.block told)
          (so_far.run told).now (so_far.touched told)
          (subst (λ (n : ℕ). OnlyBlocks (IsIn (home n P 0) bits) c1 d) sizes
          c.copy_named.ensures.touched);
      copied = λ told. more_copied_named size P a c.loop-i.i within b c1 d block
          c.read_block.ensures.rest (c.in_ok-read_block.ensures.block told) (so_far.run told)
          (so_far.copied told) run
          (subst (λ (n : ℕ). CopiedBelow P n P (bit_in c.loop-i.i block) c1.now d.now) sizes
          (c.in_ok-copy_named.ensures.copied told));
    }

pub returns-clause-copied : goal.returns-clause-copied
returns-clause-copied g c told p below on =
    let count = c.bitmap_blocks-i-end.ensures.count ∙ ap bitmap_blocks c.blocks-2.ensures.count in
    c.loop-i.invariant.copied told p below
    (omega (arith, below, c.requires.limit, c.loop-i-test.false, count)) on
