-- What holds of all pages.
use Rattle.std.proofs.Common.{◌≡◌, ℕ, ◌*◌, ◌≤◌, Bool, true, false, List, [], length, refl, sym, ◌∙◌, arith}
use Rattle.std.proofs.lemmas.List.{length-replicate}
use Rattle.std.proofs.lemmas.List.FromFn.{length-map-range_with_len}
use Rattle.gx_device.specs.declared.device.Device as device
use Rattle.gx_device.specs.Content.{Content}
use Rattle.gx_device.specs.Quiet.{QuietSince}
use Rattle.gx_layout.specs.Layout.{Shows}
use Rattle.gx_layout.specs.Places.{table_pages}
use Rattle.gx_layout.specs.PlaceLaws.{few_bitmaps, pages_fit}
use Rattle.gx_ports.specs.QuietLaws.{quiet_weaker}
use Rattle.gx_journal.specs.Sources.{page_of}
use Rattle.gx_journal.specs.State.{pages_told}
use Rattle.gx_journal.specs.StateLaws.{calm_shows, calm_again}
use Rattle.gx_journal.specs.declared.journal.Journal.{Journal}
use Rattle.gx_journal.specs.Journal.{device_of, size_of, working_of, kept_of, content_of, kept_head, IsCalm}
use Rattle.gx_pages.specs.Owners.{owner_at, page_owners, sheets_of}
use Rattle.gx_pages.specs.Paged.{StandsFor, ground_of, kept_sheets}

pub count_owners : (pages : List (List ℕ)) → length (page_owners pages) ≡ length pages
count_owners pages = length-map-range_with_len (owner_at pages) 0 (length pages)

module _ {D : Type 0} {g : device.Ghosts D} where
  count_told : (j : Journal D g) (tells : Bool)
      → length
      (pages_told tells (g.size (device_of j)) (size_of j)
      (content_of j) j.working.spilled.items j.working.frames.resident) ≡ size_of j
  count_told j true =
      length-map-range_with_len
      (page_of (g.size (device_of j)) (size_of j)
      (content_of j).now.blocks j.working.spilled.items j.working.frames.resident) 0 (size_of j)
  count_told j false = length-replicate (size_of j) []

  pub count_pages : (j : Journal D g) → length (working_of j) ≡ size_of j
  count_pages j = count_told j g.tells

  -- the table has a number for each page
  pub numbers_enough : (j : Journal D g) → size_of j ≤ 2048 * table_pages (g.size (device_of j))
  numbers_enough j =
      let size = g.size (device_of j) in
      omega (arith, j.count, pages_fit size j.limit)

  -- and the numbers of its own pages stand on its first one
  pub few_tables : (j : Journal D g) → table_pages (g.size (device_of j)) ≤ 2048
  few_tables j = omega (arith, few_bitmaps (g.size (device_of j)))

  -- each page has an owner and bytes
  pub many_pages : (j : Journal D g)
      → (length (page_owners (working_of j)) ≡ size_of j) × (length (working_of j) ≡ size_of j)
  many_pages j = (count_owners (working_of j) ∙ count_pages j, count_pages j)

  -- what shows pages stands for them, on a device that tells what it holds
  pub shown : (j : Journal D g) → g.size (device_of j) ≡ length (content_of j).now.blocks
      → (pages blocks : List (List ℕ))
      → Shows (length (content_of j).now.blocks) (kept_head j) pages blocks
      → StandsFor (ground_of j) (sheets_of pages) blocks
  shown j sized pages blocks shows = record {
    shows = record {
      count = shows.count ∙ sym sized;
      replays = shows.replays;
      head_is = shows.head_is;
    };
    owners = refl;
  }

  -- what calm means for blocks
  pub calm_stands : (j : Journal D g) → g.size (device_of j) ≡ length (content_of j).now.blocks
      → (start : Content) → IsCalm j start
      → QuietSince (StandsFor (ground_of j) (kept_sheets j)) start (content_of j)
  calm_stands j sized start is =
      let quiet = calm_shows g.tells j.failed (size_of j) start (content_of j) is in
      quiet_weaker (Shows (length (content_of j).now.blocks) (kept_head j) (kept_of j))
      (StandsFor (ground_of j) (kept_sheets j)) (shown j sized (kept_of j)) start (content_of j)
      quiet

  -- what is calm since an earlier content is calm from now on
  pub calm_later : (j : Journal D g) (start : Content) → IsCalm j start → IsCalm j (content_of j)
  calm_later j start is = calm_again g.tells j.failed (size_of j) start (content_of j) is
