use Rattle.std.proofs.Common.{◌≡◌, ◌-◌, true, false, drop, get_or}
use Rattle.std.specs.List.{AllByRecursion}
use Rattle.gx_commands.specs.declared.command.Change.{Change}
use Rattle.gx_entries.proofs.groups.are_first.Given as goal

abbrev pub invariant-loop-change : goal.invariant-loop-change
invariant-loop-change l =
    AllByRecursion (λ (c : Change). get_or l.fn.mask (c.field - 1) false ≡ true)
    (drop l.change-index l.fn.changes)
    → AllByRecursion (λ (c : Change). get_or l.fn.mask (c.field - 1) false ≡ true) l.fn.changes
