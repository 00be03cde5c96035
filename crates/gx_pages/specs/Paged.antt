-- Pages with owners, as functions of the journal below.
use Rattle.std.specs.Prelude.{◌≡◌, ◌+◌, ℕ, List, Result}
use Rattle.gx_device.specs.declared.device.Device as device
use Rattle.gx_device.specs.Content.{Silent}
use Rattle.gx_device.specs.Faults.{IsCounted}
use Rattle.gx_layout.specs.Layout.{Shows}
use Rattle.gx_layout.specs.Places.{table_pages, head_blocks}
use Rattle.gx_ports.specs.Sheets.{Sheets, Ground}
use Rattle.gx_journal.specs.declared.journal.Journal.{Journal}
use Rattle.gx_journal.specs.Journal.{device_of, content_of, size_of, working_of, kept_of, kept_head, Keeps}
use Rattle.gx_pages.specs.Owners.{page_owners, sheets_of}

-- the blocks are those of a device with so many of them and this head, and stand for these pages with
-- the owners of their table
pub record StandsFor (base : Ground) (sheets : Sheets) (blocks : List (List ℕ)) : Type 0 where
  pub shows : Shows base.blocks base.head sheets.bytes blocks
  pub owners : sheets.owners ≡ page_owners sheets.bytes

module _ {D : Type 0} {g : device.Ghosts D} where
  abbrev pub working_sheets : Journal D g → Sheets
  working_sheets j = sheets_of (working_of j)

  abbrev pub kept_sheets : Journal D g → Sheets
  kept_sheets j = sheets_of (kept_of j)

  -- the blocks are all of the device
  abbrev pub ground_of : Journal D g → Ground
  ground_of j =
      record {
        size = size_of j;
        tables = table_pages (g.size (device_of j));
        blocks = g.size (device_of j);
        first = head_blocks (g.size (device_of j)) + size_of j;
        head = kept_head j;
      }

  -- what a call keeps of the journal, and how it counts faults
  pub record KeepsJournal {T E : Type 0} (old new : Journal D g)
      (result : Result T E) : Type 0 where
    pub keeps : Keeps old new
    pub silent : Silent (content_of old) (content_of new)
    pub faults : IsCounted (g.faults (device_of old)) (g.faults (device_of new)) result
