use Rattle.std.proofs.Common.{◌≡◌, ◌<◌, ◌/◌, ap, sym, ◌∙◌, arith}
use Rattle.gx_layout.specs.Layout.{bit_in, head_blocks}
use Rattle.gx_layout.specs.declared.bitmap.TheConstants.{BITS}
use Rattle.gx_layout.proofs.RecoverLemmas.{bit_here, more_copied_run, more_touched, more_copied, more_passed}
use Rattle.gx_layout.proofs.recovery.copy_named.Goals as goal
use Rattle.gx_layout.proofs.recovery.copy_named.Goals.{then-bit_of+in_ok-copy_page, else-bit_of}

pub returns-in_err-copy_page-clause-rest : goal.returns-in_err-copy_page-clause-rest
returns-in_err-copy_page-clause-rest g c =
    let content = g.D.Device.content in
    let size = g.D.Device.size c.args.device.now in
    let at : c.head_blocks-first.result ≡ head_blocks size =
    c.head_blocks-first.ensures.count ∙ ap head_blocks c.blocks-2.ensures.count in
    let under : c.loop-p.p < c.args.pages =
    omega (arith, c.loop-p-test.true, c.min-p-end.ensures) in
    let here : c.loop-p.p / BITS ≡ c.args.i =
    omega (arith, c.loop-p.auto.p, c.loop-p-test.true, c.min-p-end.ensures) in
    let bit_is = bit_here c.args.i c.args.block.now c.loop-p.p here ∙ sym c.bit_of.ensures in
    more_copied_run size c.args.pages (bit_in c.args.i c.args.block.now)
    c.head_blocks-first.result at c.loop-p.p (content c.args.device.now)
    (content c.loop-p.device)
    (content c.copy_page.new.device) under
    (bit_is ∙ c.if-bit_of.true) (c.loop-p.invariant.run) (c.copy_page.ensures.rest)

pub returns-in_err-copy_page-clause-touched : goal.returns-in_err-copy_page-clause-touched
returns-in_err-copy_page-clause-touched g c =
    let content = g.D.Device.content in
    let size = g.D.Device.size c.args.device.now in
    let at : c.head_blocks-first.result ≡ head_blocks size =
    c.head_blocks-first.ensures.count ∙ ap head_blocks c.blocks-2.ensures.count in
    let under : c.loop-p.p < c.args.pages =
    omega (arith, c.loop-p-test.true, c.min-p-end.ensures) in
    let here : c.loop-p.p / BITS ≡ c.args.i =
    omega (arith, c.loop-p.auto.p, c.loop-p-test.true, c.min-p-end.ensures) in
    let bit_is = bit_here c.args.i c.args.block.now c.loop-p.p here ∙ sym c.bit_of.ensures in
    more_touched size c.args.pages (bit_in c.args.i c.args.block.now)
    c.head_blocks-first.result at c.loop-p.p (content c.args.device.now)
    (content c.loop-p.device)
    (content c.copy_page.new.device) under
    (bit_is ∙ c.if-bit_of.true) (c.loop-p.invariant.touched)
    (c.copy_page.ensures.touched)

pub loop-p-preserved : goal.loop-p-preserved
loop-p-preserved g c =
    let content = g.D.Device.content in
    let size = g.D.Device.size c.args.device.now in
    let at : c.head_blocks-first.result ≡ head_blocks size =
    c.head_blocks-first.ensures.count ∙ ap head_blocks c.blocks-2.ensures.count in
    let under : c.loop-p.p < c.args.pages =
    omega (arith, c.loop-p-test.true, c.min-p-end.ensures) in
    let here : c.loop-p.p / BITS ≡ c.args.i =
    omega (arith, c.loop-p.auto.p, c.loop-p-test.true, c.min-p-end.ensures) in
    let bit_is = bit_here c.args.i c.args.block.now c.loop-p.p here ∙ sym c.bit_of.ensures in
    let so_far = c.loop-p.invariant in
    elim c.if-bit_of.branch [
      | then-bit_of+in_ok-copy_page w ↦ rw w.device-is (record {
        size = w.copy_page.ensures.size ∙ so_far.size;
        faults = w.in_ok-copy_page.ensures.faults.same ∙ so_far.faults;
        run = more_copied_run size c.args.pages (bit_in c.args.i c.args.block.now)
            c.head_blocks-first.result at c.loop-p.p (content c.args.device.now)
            (content c.loop-p.device)
            (content w.copy_page.new.device) under
            (bit_is ∙ w.if-bit_of.true) (so_far.run) (w.copy_page.ensures.rest);
        touched = more_touched size c.args.pages (bit_in c.args.i c.args.block.now)
            c.head_blocks-first.result at c.loop-p.p (content c.args.device.now)
            (content c.loop-p.device)
            (content w.copy_page.new.device) under
            (bit_is ∙ w.if-bit_of.true) (so_far.touched)
            (w.copy_page.ensures.touched);
        copied = λ told. more_copied size c.args.pages (bit_in c.args.i c.args.block.now)
            c.head_blocks-first.result at c.loop-p.p
            (content c.args.device.now) (content c.loop-p.device)
            (content w.copy_page.new.device) under
            (so_far.copied told) (so_far.run) (w.copy_page.ensures.rest)
            (w.in_ok-copy_page.ensures.copied told);
      })
      | else-bit_of w ↦ rw w.device-is (record {
        size = so_far.size;
        faults = so_far.faults;
        run = so_far.run;
        touched = so_far.touched;
        copied = λ told. more_passed size c.args.pages (bit_in c.args.i c.args.block.now)
            c.head_blocks-first.result at c.loop-p.p
            (content c.args.device.now).now (content c.loop-p.device).now
            (so_far.copied told) (bit_is ∙ w.if-bit_of.false);
      })
    ]
