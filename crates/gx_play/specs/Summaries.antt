-- What `check` says of texts that are accepted.
use Rattle.std.specs.Prelude.{ℕ, List, ◌++◌, length, codes}
use Rattle.std.specs.Fmt.{decimal}
use Rattle.gx_ports.specs.declared.kinds.LeafSpec.{LeafSpec}
use Rattle.gx_store.specs.Device.{smallest_device}
use Rattle.gx_typing.specs.Leaves.{root_pages}
use Rattle.gx_play.specs.declared.summary.Summary.{Summary}

-- how many leaves there are, how many pages they have from the start on, and the blocks of the
-- smallest device for them
abbrev pub summary_of : List LeafSpec → Summary
summary_of specs = record {
  leaves = length specs;
  root_pages = root_pages specs;
  smallest_device = smallest_device specs;
}

abbrev pub accepted_line : Summary → List ℕ
accepted_line s =
    codes "accepted: " ++ decimal s.leaves ++ codes " leaves, " ++ decimal s.root_pages
    ++ codes " root pages, smallest device " ++ decimal s.smallest_device ++ codes " blocks\n"
