use Rattle.gx_bytes.proofs.SearchLemmas.{HasTaken}
use Rattle.gx_slots.specs.Entries.{entry_len}
use Rattle.gx_slots.specs.Page.{entries_of}
use Rattle.gx_slots.proofs.splitting.middle.Given as goal

abbrev pub invariant-loop-key : goal.invariant-loop-key
invariant-loop-key l = HasTaken entry_len 2044 (entries_of l.page) l.place l.taken l.key-iterator
