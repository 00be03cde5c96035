use Rattle.std.proofs.Common.{◌≢◌}
use Rattle.gx_bytes.proofs.SearchLemmas.{HasPassed}
use Rattle.gx_slots.proofs.iter.place_of.Given as goal

abbrev pub invariant-loop-found : goal.invariant-loop-found
invariant-loop-found l =
    HasPassed (λ entry. entry.key ≢ l.key) l.fn.entries l.place l.found-iterator
