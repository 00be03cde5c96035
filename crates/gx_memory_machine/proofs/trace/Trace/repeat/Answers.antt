use Rattle.std.proofs.Common.{◌≡◌, ℕ, take, length, sym, ap, subst, ◌∙◌, arith}
use Rattle.std.proofs.lemmas.List.{take_all}
use Rattle.gx_device.specs.Content.{Moment}
use Rattle.gx_memory_machine.specs.declared.trace.Step.{Step}
use Rattle.gx_memory_machine.specs.declared.trace.Step.TheVariants as step
use Rattle.gx_memory_machine.specs.Log.{uses, advance, with_block}
use Rattle.gx_memory_machine.specs.Trace.{Adds}
use Rattle.gx_memory_machine.proofs.trace.Trace.repeat.Goals as goal

pub returns-in-Write-clause-adds : goal.returns-in-Write-clause-adds
returns-in-Write-clause-adds c =
    let now = c.args.self.now.now in
    let bytes = c.args.bytes.now in
    let is : c.args.step ≡ step.Write c.in-Write.block = c.in-Write.is in
    let long : length bytes ≡ 4096 = c.requires.own ∙ ap uses is in
    let whole : take 4096 bytes ≡ bytes = take_all 4096 bytes (omega arith) in
    let next : advance now c.args.step bytes ≡ with_block now c.in-Write.block bytes =
    ap (λ (s : Step). advance now s bytes) is ∙ ap (with_block now c.in-Write.block) whole in
    subst (λ (k : ℕ). Adds k (advance now c.args.step bytes) c.args.self.now c.write_over.new.self)
    (sym long) (subst (λ (x : Moment). Adds 4096 x c.args.self.now c.write_over.new.self) (sym next)
    c.write_over.ensures.adds)
