use Rattle.gx_slots.specs.Page.{entries_of}
use Rattle.gx_chain.proofs.CheckLemmas.{IsAdding}
use Rattle.gx_chain.proofs.check.add_keys.Given as goal

abbrev pub invariant-loop-key : goal.invariant-loop-key
invariant-loop-key l = IsAdding (entries_of l.page) l.key-iterator l.fn.keys.keys l.keys.keys
