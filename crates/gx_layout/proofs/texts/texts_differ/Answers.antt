use Rattle.std.proofs.Common.{rules, ◌≡◌, ◌+◌, ◌*◌, ◌<◌, ℕ, List, length, get_or, Some, ap, subst, ◌∙◌, arith}
use Rattle.gx_device.specs.Content.{Moment, block_of}
use Rattle.gx_layout.specs.Layout.{first_text, head_of}
use Rattle.gx_layout.specs.Head.{DifferFirst, text_at}
use Rattle.gx_layout.proofs.TextLemmas.{one_read, reads_twice, more_same, differ_here}
use Rattle.gx_layout.proofs.texts.texts_differ.Goals as goal

pub returns-in_err-read_block-clause-reads : goal.returns-in_err-read_block-clause-reads
returns-in_err-read_block-clause-reads g c =
    reads_twice _ (g.D.Device.content c.loop-i.device) _ c.loop-i.invariant.reads
    (one_read _ _ c.read_block.ensures.rest)

pub returns-in-Some-clause-reads : goal.returns-in-Some-clause-reads
returns-in-Some-clause-reads g c =
    reads_twice _ (g.D.Device.content c.loop-i.device) _ c.loop-i.invariant.reads
    (one_read _ _ c.read_block.ensures.rest)

pub returns-in-Some-clause-place : goal.returns-in-Some-clause-place
returns-in-Some-clause-place g c told =
    let content = g.D.Device.content in
    let old = content c.args.device.now in
    let mid = content c.loop-i.device in
    let i = c.loop-i.i in
    let inv = c.loop-i.invariant in
    let area = c.text_area-area.result in
    let block = c.read_block.new.into in
    let part = c.text_block.result.now in
    let low : i < 4 = c.loop-i-test.true in
    let wide : length block ≡ 4096 = search rules in
    let first = c.first_text-first.result in
    let first_is : first ≡ first_text (length old.now.blocks) =
    c.first_text-first.ensures.block
    ∙ ap first_text (c.blocks-2.ensures.count ∙ g.met.D.Device.sized c.args.device.now told) in
    let block_is : block ≡ block_of old.now (first_text (length old.now.blocks) + i) =
    c.in_ok-read_block.ensures.block told
    ∙ ap (λ (m : Moment). block_of m (first + i)) inv.reads.now
    ∙ ap (λ (n : ℕ). block_of old.now (n + i)) first_is in
    let found = c.in-Some.ensures in
    subst (λ (a : List ℕ). DifferFirst (text_at (head_of old.now.blocks)) (λ q. get_or a q 0)
    (Some (4096 * i + c.in-Some.at))) c.text_area-area.ensures
    (differ_here old.now area i low block part block_is c.text_block.ensures.is
    (inv.same told) c.in-Some.at
    (let lt = found.0 in omega (arith, lt, wide)) found.1 found.2)

pub loop-i-preserved : goal.loop-i-preserved
loop-i-preserved g c =
    let inv = c.loop-i.invariant in
    record {
      size = c.read_block.ensures.size ∙ inv.size;
      faults = c.in_ok-read_block.ensures.counted ∙ inv.faults;
      reads = reads_twice _ (g.D.Device.content c.loop-i.device) _ inv.reads
          (one_read _ _ c.read_block.ensures.rest);
      same = λ told.
          let content = g.D.Device.content in
          let old = content c.args.device.now in
          let mid = content c.loop-i.device in
          let i = c.loop-i.i in
          let inv = c.loop-i.invariant in
          let area = c.text_area-area.result in
          let block = c.read_block.new.into in
          let part = c.text_block.result.now in
          let low : i < 4 = c.loop-i-test.true in
          let wide : length block ≡ 4096 = search rules in
          let first = c.first_text-first.result in
          let first_is : first ≡ first_text (length old.now.blocks) =
          c.first_text-first.ensures.block
          ∙ ap first_text
          (c.blocks-2.ensures.count ∙ g.met.D.Device.sized c.args.device.now told) in
          let block_is : block ≡ block_of old.now (first_text (length old.now.blocks) + i) =
          c.in_ok-read_block.ensures.block told
          ∙ ap (λ (m : Moment). block_of m (first + i)) inv.reads.now
          ∙ ap (λ (n : ℕ). block_of old.now (n + i)) first_is in
          more_same old.now area i low block part block_is c.text_block.ensures.is (inv.same told)
          (λ k lt. c.in_default.ensures k (omega (arith, lt, wide)));
    }
