use Rattle.std.proofs.Common.{arith, sym, ap, ◌∙◌, length}
use Rattle.gx_memory_machine.specs.Memory.{Memory}
use Rattle.gx_memory_machine.proofs.ScriptLemmas.{heard_bytes, heard_none}
use Rattle.gx_memory_machine.proofs.memory.MemoryMachineDevice.hear.Goals as goal

pub returns-clause-heard : goal.returns-clause-heard
returns-clause-heard c = record {
  heard = ap (λ (m : Memory). m.script) (sym c.self.view_is)
      ∙ heard_bytes c.self.inside.script.items c.copy_from_slice.new.self _ c.self.inside.heard
      c.min-count.result
      (rw (← c.deref.ensures.value) c.copy_from_slice.ensures.after) (omega arith);
  at_end = λ e. ap (λ (m : Memory). m.script) (sym c.self.view_is)
      ∙ heard_none c.self.inside.script.items c.self.inside.heard
      (length c.args.into.now) c.min-count.result c.len.result c.requires c.min-count.ensures
      (c.len.ensures ∙ sym c.deref.ensures.len ∙ ap length c.deref.ensures.value) e;
}
