use Rattle.std.proofs.Common.{◌≡◌, ◌<◌, ◌+◌, ℕ, [], sym, subst, ◌∙◌}
use Rattle.std.proofs.lemmas.Result.{on_ok_weaker}
use Rattle.gx_laws.proofs.ResultLemmas.{on_ok_always}
use Rattle.gx_device.specs.Content.{block_of}
use Rattle.gx_device.specs.Crash.{Through, Outside}
use Rattle.gx_layout.specs.Layout.{IsBitmap, OnlyBlocks, first_text, most_pages, has_bit_on, NamesListed}
use Rattle.gx_layout.specs.Head.{block_in, text_area, IsText, IsFormatted}
use Rattle.gx_layout.proofs.BlockLemmas.{blocks_more}
use Rattle.gx_layout.proofs.BitLemmas.{unlisted}
use Rattle.gx_layout.proofs.CallLemmas.{failed_counted, counted_after}
use Rattle.std.proofs.lemmas.Result.{IfOk-from_err}
use Rattle.gx_layout.proofs.FormatLemmas.{laid_head, laid_bitmap, laid_texts, laid_two, laid_three, laid_bits, of_gate}
use Rattle.gx_layout.proofs.formatting.lay_out.Goals as goal

pub returns-in_err-write_bitmap-clause-run : goal.returns-in_err-write_bitmap-clause-run
returns-in_err-write_bitmap-clause-run g c =
    let content = g.D.Device.content in
    let b = content c.set_gate.new.device in
    let d = content c.write_bitmap.new.device in
    laid_bitmap (g.D.Device.size c.args.device.now) _ b d c.set_gate.ensures.run
    (subst (λ (n : ℕ). Through (Outside (IsBitmap n) b.now) b d) c.set_gate.ensures.size
    c.write_bitmap.ensures.run)

pub returns-clause-run : goal.returns-clause-run
returns-clause-run g c =
    let content = g.D.Device.content in
    let b = content c.set_gate.new.device in
    let d = content c.write_bitmap.new.device in
    let e = content c.write_texts.new.device in
    laid_texts (g.D.Device.size c.args.device.now) _ b d c.set_gate.ensures.run
    (subst (λ (n : ℕ). Through (Outside (IsBitmap n) b.now) b d) c.set_gate.ensures.size
    c.write_bitmap.ensures.run) e
    (subst (λ (n : ℕ). Through (Outside (IsText n) d.now) d e)
    (c.write_bitmap.ensures.size ∙ c.set_gate.ensures.size) c.write_texts.ensures.run)

pub returns-in_err-set_gate-clause-touches : goal.returns-in_err-set_gate-clause-touches
returns-in_err-set_gate-clause-touches g c = record {
  rest = blocks_more (λ n. n ≡ 1) (IsFormatted (g.D.Device.size c.args.device.now))
      (of_gate (g.D.Device.size c.args.device.now)) _ _ c.set_gate.ensures.rest;
  size = c.set_gate.ensures.size;
  faults = failed_counted c.from_residual.result c.from_residual.ensures.0
      c.in_err-set_gate.ensures.faults;
}

pub returns-in_err-write_bitmap-clause-touches : goal.returns-in_err-write_bitmap-clause-touches
returns-in_err-write_bitmap-clause-touches g c =
    let content = g.D.Device.content in
    let b = content c.set_gate.new.device in
    let d = content c.write_bitmap.new.device in
    record {
      rest = laid_two (g.D.Device.size c.args.device.now) _ b d c.set_gate.ensures.rest
          (subst (λ (n : ℕ). OnlyBlocks (IsBitmap n) b d) c.set_gate.ensures.size
          c.write_bitmap.ensures.rest);
      size = c.write_bitmap.ensures.size ∙ c.set_gate.ensures.size;
      faults = counted_after c.in_ok-set_gate.ensures.faults.same
          (failed_counted c.from_residual-in_err-write_bitmap.result
          c.from_residual-in_err-write_bitmap.ensures.0 c.in_err-write_bitmap.ensures.faults);
    }

pub returns-clause-touches : goal.returns-clause-touches
returns-clause-touches g c =
    let content = g.D.Device.content in
    let b = content c.set_gate.new.device in
    let d = content c.write_bitmap.new.device in
    let e = content c.write_texts.new.device in
    record {
      rest = laid_three (g.D.Device.size c.args.device.now) _ b d c.set_gate.ensures.rest
          (subst (λ (n : ℕ). OnlyBlocks (IsBitmap n) b d) c.set_gate.ensures.size
          c.write_bitmap.ensures.rest) e
          (subst (λ (n : ℕ). OnlyBlocks (IsText n) d e)
          (c.write_bitmap.ensures.size ∙ c.set_gate.ensures.size) c.write_texts.ensures.rest);
      size = c.write_texts.ensures.size ∙ c.write_bitmap.ensures.size ∙ c.set_gate.ensures.size;
      faults = counted_after c.in_ok-set_gate.ensures.faults.same
          (counted_after c.in_ok-write_bitmap.ensures.faults.same c.write_texts.ensures.faults);
    }

pub returns-clause-head : goal.returns-clause-head
returns-clause-head g c told =
    let content = g.D.Device.content in
    let size = g.D.Device.size c.args.device.now in
    let b = content c.set_gate.new.device in
    let d = content c.write_bitmap.new.device in
    let e = content c.write_texts.new.device in
    let sizes = c.write_bitmap.ensures.size ∙ c.set_gate.ensures.size in
    on_ok_weaker c.write_texts.result
    (λ texts. laid_head size c.text_area.result
    (text_area c.args.schema.now c.args.equation.now) _ e
    (sym (g.met.D.Device.sized c.write_texts.new.device told) ∙ c.write_texts.ensures.size ∙ sizes)
    c.text_area.ensures
    (laid_three size _ b d c.set_gate.ensures.rest
    (subst (λ (n : ℕ). OnlyBlocks (IsBitmap n) b d) c.set_gate.ensures.size
    c.write_bitmap.ensures.rest) e
    (subst (λ (n : ℕ). OnlyBlocks (IsText n) d e) sizes c.write_texts.ensures.rest))
    (subst (λ (n : ℕ). (i : ℕ) → i < 4
    → block_of e.now (first_text n + i) ≡ block_in c.text_area.result i) sizes texts))
    (c.write_texts.ensures.texts told)

pub returns-in_err-write_bitmap-clause-head : goal.returns-in_err-write_bitmap-clause-head
returns-in_err-write_bitmap-clause-head g c told =
    IfOk-from_err c.from_residual-in_err-write_bitmap.result _
    c.from_residual-in_err-write_bitmap.ensures.0

pub returns-clause-bitmap : goal.returns-clause-bitmap
returns-clause-bitmap g c told =
    let content = g.D.Device.content in
    let size = g.D.Device.size c.args.device.now in
    let d = content c.write_bitmap.new.device in
    let e = content c.write_texts.new.device in
    let sizes = c.write_bitmap.ensures.size ∙ c.set_gate.ensures.size in
    on_ok_always c.write_texts.result (λ p below.
    laid_bits size d e
    (subst (λ (n : ℕ). OnlyBlocks (IsText n) d e) sizes c.write_texts.ensures.rest) p below
    ∙ unlisted (has_bit_on d.now.blocks) (most_pages size)
    (subst (λ (n : ℕ). NamesListed [] (has_bit_on d.now.blocks) (most_pages n))
    c.set_gate.ensures.size (c.in_ok-write_bitmap.ensures.written told)) p below)
