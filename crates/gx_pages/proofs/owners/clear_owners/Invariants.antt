use Rattle.std.proofs.Common.{◌≡◌, ◌≤◌, ◌<◌, ℕ, [], get_or, IsTrue}
use Rattle.std.specs.Prelude.{slice_get}
use Rattle.gx_device.specs.Content.{Silent}
use Rattle.gx_journal.specs.Journal.{device_of, content_of, working_of, Keeps}
use Rattle.gx_pages.specs.Owners.{IsClear}
use Rattle.gx_pages.specs.Paged.{ground_of}
use Rattle.gx_pages.proofs.owners.clear_owners.Given as goal

abbrev pub invariant-loop-table : goal.invariant-loop-table
invariant-loop-table g l = record {
  keeps : Keeps l.fn.journal l.journal;
  silent : Silent (content_of l.fn.journal) (content_of l.journal);
  faults : g.D.Device.faults (device_of l.journal) ≡ g.D.Device.faults (device_of l.fn.journal);
  clear : IsTrue g.D.Device.tells → (t : ℕ) → t < l.table
      → IsClear (ground_of l.fn.journal).tables t (get_or (working_of l.journal) t []);
  bytes : IsTrue g.D.Device.tells → (other : ℕ) → (ground_of l.fn.journal).tables ≤ other
      → slice_get (working_of l.journal) other
      ≡ slice_get (working_of l.fn.journal) other;
}
