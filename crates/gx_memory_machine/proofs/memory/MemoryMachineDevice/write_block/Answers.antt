use Rattle.std.proofs.Common.{refl, sym, subst, ◌<◌, ◌||◌, length}
use Rattle.gx_device.specs.Content.{Writes}
use Rattle.gx_memory_machine.specs.Counts.{is_short}
use Rattle.gx_memory_machine.specs.Memory.{Memory, content_of}
use Rattle.gx_memory_machine.specs.contracts.memory.MemoryMachine.{the_view}
use Rattle.gx_memory_machine.proofs.CallLemmas.{ticks, writes_nothing}
use Rattle.gx_memory_machine.proofs.memory.MemoryMachineDevice.write_block.Goals as goal

pub returns-then-not-begins-clause-rest : goal.returns-then-not-begins-clause-rest
returns-then-not-begins-clause-rest c =
    let t = c.self.inside in
    let n = c.args.n in
    let size = subst (λ (m : Memory). n < length m.now.blocks) (sym c.self.view_is) c.requires.below
    in
    subst (λ (old : Memory). Writes n (content_of old) (content_of (the_view (record {
      texts = t.texts;
      script = t.script;
      heard = t.heard;
      trace = c.begins.new.trace;
      counter = c.begins.new.counter;
    })))) c.self.view_is
    (writes_nothing n _ _ (record {
      time =
          ticks (c.begins.result || is_short t.counter 4096) _ _ c.begins.ensures.now refl refl
          c.begins.ensures.past;
      now =
          c.begins.ensures.now;
      script = refl;
      aside = refl;
    }) (c.are_whole.ensures n size))
