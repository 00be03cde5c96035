use Rattle.gx_bytes.proofs.ScanLemmas.{Scanned}
use Rattle.gx_slots.specs.Entries.{IsFit, entry_bytes, entries_in}
use Rattle.gx_slots.specs.Spots.{IsSought}
use Rattle.gx_slots.proofs.SpotLemmas.{sought_at}
use Rattle.gx_slots.proofs.seeking.seek_among.Given as goal

abbrev pub invariant-loop-place : goal.invariant-loop-place
invariant-loop-place l =
    Scanned entry_bytes IsFit (λ entry. entry.key) l.bytes l.place l.rest l.last
    × IsSought l.key (entries_in l.place l.bytes)
    (sought_at l.spot l.at l.is_there (entries_in l.place l.bytes))
