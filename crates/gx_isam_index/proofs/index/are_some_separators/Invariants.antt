use Rattle.gx_bytes.proofs.ScanLemmas.{Scanned}
use Rattle.gx_isam_index.specs.Index.{IsFitSeparator, separator_bytes}
use Rattle.gx_isam_index.proofs.index.are_some_separators.Given as goal

abbrev pub invariant-loop : goal.invariant-loop
invariant-loop l =
    Scanned separator_bytes IsFitSeparator (λ separator. separator) l.bytes l.counter l.rest l.last
