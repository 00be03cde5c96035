-- The journal below pages.
use Rattle.std.specs.Prelude.{Result, Ok, Err}
use Rattle.gx_device.specs.declared.device.Device as device
use Rattle.gx_device.specs.declared.device.Failed.{Failed}
use Rattle.gx_journal.specs.declared.journal.Journal.{Journal}
use Rattle.gx_pages.specs.declared.paged.Paged.{Paged}

module _ {D : Type 0} {g : device.Ghosts D} where
  abbrev pub journal_of : Paged D g → Journal D g
  journal_of p = p.journal

  -- the journal, whether pages were made over it or not
  abbrev pub journal_left : Result (Paged D g) (Journal D g × Failed) → Journal D g
  journal_left (Ok p) = p.journal
  journal_left (Err e) = e.0
