use Rattle.std.proofs.Common.{sym, arith, ap, ◌∙◌, length, List, ℕ, Bool, None}
use Rattle.gx_memory_machine.specs.declared.trace.Step.{Step}
use Rattle.gx_memory_machine.specs.Log.{first, latest, total}
use Rattle.gx_memory_machine.specs.Names.{by_name}
use Rattle.gx_memory_machine.proofs.LogLemmas.{none_few}
use Rattle.gx_memory_machine.proofs.trace.Trace.new.Goals as goal

pub invariant_of-result : goal.invariant_of-result
invariant_of-result c =
    let start = first (by_name c.new.result.entries) in
    let none = c.new-2.ensures.empty ∙ sym c.new.ensures.empty in
    record {
      is = (λ i. record {
        blocks = c.new-3.ensures.items i;
        pending = c.new-4.ensures.items i;
        said = c.new-5.ensures.items i;
        shelf = record { name = None; devices = by_name (none i) };
      })
          ∙ sym (ap (λ (l : List Step). latest start l c.new-7.result.items) c.new-6.ensures.items);
      total = ap (λ (l : List ℕ). length l) c.new-7.ensures.items
          ∙ sym (ap total c.new-6.ensures.items);
      flags = ap (λ (l : List Bool). length l) c.new-4.ensures.items
          ∙ sym (ap (λ (l : List (List ℕ)). length l) c.new-3.ensures.items);
      few = omega (arith, ap (λ (l : List (List ℕ)). length l) c.new-3.ensures.items);
      each_few = none_few c.new-2.result.entries c.new-2.ensures.empty;
      start_few = none_few c.new.result.entries c.new.ensures.empty;
    }
