-- Calls of a journal, one after the other.
use Rattle.std.proofs.Common.{◌≡◌, ◌+◌, ◌∙◌}
use Rattle.gx_device.specs.declared.device.Device as device
use Rattle.gx_layout.specs.Places.{table_pages, head_blocks}
use Rattle.gx_journal.specs.declared.journal.Journal.{Journal}
use Rattle.gx_journal.specs.Journal.{Keeps}
use Rattle.gx_pages.specs.Paged.{ground_of}

module _ {D : Type 0} {g : device.Ghosts D} where
  pub keeps_joined : {a b c : Journal D g} → Keeps a b → Keeps b c → Keeps a c
  keeps_joined x y = record {
    kept = y.kept ∙ x.kept;
    head = y.head ∙ x.head;
    size = y.size ∙ x.size;
    frames = y.frames ∙ x.frames;
    blocks = y.blocks ∙ x.blocks;
    steady = y.steady ∙ x.steady;
    calm = λ start h. y.calm start (x.calm start h);
  }

  -- what a journal keeps keeps the ground of the pages over it
  pub ground_kept : {a b : Journal D g} → Keeps a b → ground_of b ≡ ground_of a
  ground_kept k = λ i. record {
    size = k.size i;
    tables = table_pages (k.blocks i);
    blocks = k.blocks i;
    first = head_blocks (k.blocks i) + k.size i;
    head = k.head i;
  }
