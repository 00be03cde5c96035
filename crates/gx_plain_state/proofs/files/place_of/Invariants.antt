use Rattle.std.proofs.Common.{◌≡◌, ◌+◌, ◌≤◌, length}
use Rattle.std.specs.List.{prefix_len}
use Rattle.gx_plain_state.proofs.MapLemmas.{is_past}
use Rattle.gx_plain_state.proofs.files.place_of.Given as goal

abbrev pub invariant-loop-rest : goal.invariant-loop-rest
invariant-loop-rest l = record {
  counted : prefix_len (λ e. is_past l.key e.0) l.rows + length l.rest ≡ length l.rows + prefix_len
      (λ e. is_past l.key e.0) l.rest;
  short : length l.rest ≤ length l.rows;
}

abbrev pub decreases-loop-rest : goal.decreases-loop-rest
decreases-loop-rest l = length l.rest
