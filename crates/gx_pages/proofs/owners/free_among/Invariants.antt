use Rattle.std.proofs.Common.{◌≡◌, ◌≢◌, ◌≤◌, ◌<◌, ◌/◌, ℕ, IsTrue}
use Rattle.gx_device.specs.Content.{Silent}
use Rattle.gx_ports.specs.Sheets.{IsPast}
use Rattle.gx_journal.specs.Journal.{device_of, content_of, working_of, Keeps}
use Rattle.gx_pages.specs.Owners.{owner_at}
use Rattle.gx_pages.specs.Paged.{ground_of}
use Rattle.gx_pages.proofs.owners.free_among.Given as goal

abbrev pub invariant-loop-table : goal.invariant-loop-table
invariant-loop-table g l = record {
  keeps : Keeps l.fn.journal l.journal;
  silent : Silent (content_of l.fn.journal) (content_of l.journal);
  faults : g.D.Device.faults (device_of l.journal) ≡ g.D.Device.faults (device_of l.fn.journal);
  working : working_of l.journal ≡ working_of l.fn.journal;
  none : IsTrue g.D.Device.tells → (page : ℕ) → l.from ≤ page / 2048 → page / 2048 < l.table
      → IsPast (ground_of l.fn.journal) page
      → owner_at (working_of l.fn.journal) page ≢ 0;
}
