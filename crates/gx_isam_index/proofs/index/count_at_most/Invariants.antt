use Rattle.std.specs.Ordering.{is_le}
use Rattle.gx_ports.specs.Keyed.{key_cmp}
use Rattle.gx_isam_index.specs.Index.{behind_firsts, part_of}
use Rattle.gx_isam_index.proofs.IndexLemmas.{IsCounting}
use Rattle.gx_isam_index.proofs.index.count_at_most.Given as goal

abbrev pub invariant-loop : goal.invariant-loop
invariant-loop l =
    IsCounting (λ separator. is_le (key_cmp (part_of l.fronts l.key separator) l.key))
    (behind_firsts l.page) l.count l.counter l.rest l.bucket
