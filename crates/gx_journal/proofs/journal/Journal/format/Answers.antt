use Rattle.std.proofs.Common.{◌≡◌, ◌∙◌, ◌≤◌, ◌+◌, ◌*◌, ℕ, Bool, length, false, ap, sym, subst, arith}
use Rattle.std.proofs.lemmas.Bool.{true≢false}
use Rattle.gx_device.specs.Content.{Content, NonePending, Silent, block_of}
use Rattle.gx_device.specs.Crash.{LeavesOnly}
use Rattle.gx_layout.specs.Layout.{OnlyBlocks, bitmap_blocks, head_blocks, is_open, head_of, pages_of}
use Rattle.gx_layout.specs.PlaceLaws.{pages_fit}
use Rattle.gx_layout.specs.Head.{IsFormatted}
use Rattle.gx_layout.specs.Besides.{IsImageBesides}
use Rattle.gx_journal.specs.OpeningLaws.{has_head}
use Rattle.gx_journal.specs.State.{head_told}
use Rattle.gx_journal.proofs.OpenLemmas.{formatted_kept, closed_since}
use Rattle.gx_journal.proofs.journal.Journal.format.Goals as goal

pub returns-in-Ok-format-clause-laid_out : goal.returns-in-Ok-format-clause-laid_out
returns-in-Ok-format-clause-laid_out g c =
    let content = g.D.Device.content in
    let tells = g.D.Device.tells in
    let j = c.over.result in
    let P = length j.working.spilled.items in
    let N = g.D.Device.size c.args.device in
    let same = sym (ap content c.over.ensures.device) in
    let size : g.D.Device.size j.device ≡ N =
    ap (λ (d : _). g.D.Device.size d) c.over.ensures.device ∙ c.format.ensures.touches.size in
    record {
      kept = formatted_kept tells N P (content c.args.device) (content j.device)
          (g.met.D.Device.sized c.args.device)
          (subst (λ (x : Content). OnlyBlocks (IsFormatted N) (content c.args.device) x) same
          c.format.ensures.touches.rest);
      head = λ told. ap (λ (b : Bool). head_told b (content c.over.result.device)) told
          ∙ ap (λ (x : Content). head_of x.now.blocks) (ap content c.over.ensures.device)
          ∙ c.in-Ok-format.ensures.head told;
      opened = record {
        working = c.over.ensures.working;
        size = j.count ∙ ap pages_of size;
        frames = c.over.ensures.frames ∙ c.in-Ok.ensures.frames;
        unchanged = c.over.ensures.unchanged;
        steady = c.over.ensures.steady;
        calm = λ told.
            let long = sym (g.met.D.Device.sized j.device told) ∙ size in
            let bits = ap bitmap_blocks long in
            let count = j.count ∙ ap pages_of (g.met.D.Device.sized j.device told) in
            closed_since tells P (content j.device) told count
            (omega (arith, count, long, bits, pages_fit N c.requires.blocks.most))
            (omega (arith, long, bits, has_head N c.requires.blocks))
            (subst (λ (x : Content). NonePending x) same (c.in-Ok-format.ensures.none_pending told))
            (subst (λ (x : Content). is_open (block_of x.now 1) ≡ false) same
            (c.in-Ok-format.ensures.closed told))
            j.failed c.over.ensures.steady;
        none_pending = λ told.
            subst (λ (x : Content). NonePending x) same (c.in-Ok-format.ensures.none_pending told);
      };
    }

pub returns-in-Ok-format-clause-images : goal.returns-in-Ok-format-clause-images
returns-in-Ok-format-clause-images g c =
    let content = g.D.Device.content in
    subst (λ (x : Content). LeavesOnly
    (IsImageBesides (IsFormatted (g.D.Device.size c.args.device)) (content c.args.device).now)
    (content c.args.device) x)
    (sym (ap content c.over.ensures.device)) c.format.ensures.images

pub returns-in-Ok-format-clause-opens : goal.returns-in-Ok-format-clause-opens
returns-in-Ok-format-clause-opens g c =
    let content = g.D.Device.content in
    let touches = c.in-Ok-format.ensures.touches in
    let same = ap g.D.Device.faults c.over.ensures.device ∙ touches.faults.same in
    record {
      silent = subst (λ (x : Content). Silent (content c.args.device) x)
          (sym (ap content c.over.ensures.device)) touches.rest.silent;
      blocks = ap (λ (d : _). g.D.Device.size d) c.over.ensures.device ∙ touches.size;
      faults = record {
        later = omega (arith, same);
        rose = λ e. absurd (true≢false e);
        same = λ e. same;
      };
    }

pub returns-in-Err-clause-opens : goal.returns-in-Err-clause-opens
returns-in-Err-clause-opens g c =
    let touches = c.in-Err.ensures.touches in
    record {
      silent = touches.rest.silent;
      blocks = touches.size;
      faults = record {
        later = touches.faults.later;
        rose = λ e. touches.faults.failed;
        same = λ e. absurd (true≢false (sym e));
      };
    }

pub format-requires-clause-room : goal.format-requires-clause-room
format-requires-clause-room g c =
    has_head (g.D.Device.size c.args.device) c.requires.blocks

pub over-requires-clause-room : goal.over-requires-clause-room
over-requires-clause-room g c =
    let count = c.in-Ok.ensures.count ∙ ap pages_of c.blocks-2.ensures.count in
    subst (λ (n : ℕ). head_blocks n + 2 * length c.in-Ok.working.spilled.items ≤ n)
    (sym c.format.ensures.touches.size)
    (omega (arith, count, has_head (g.D.Device.size c.args.device) c.requires.blocks))
