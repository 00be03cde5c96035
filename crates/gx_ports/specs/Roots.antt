-- The pages that leaves have from the start on.
use Rattle.std.specs.Prelude.{ℕ, List, map, sum}
use Rattle.gx_ports.specs.declared.kinds.LeafKind.{LeafKind}
use Rattle.gx_ports.specs.declared.kinds.LeafKind.TheVariants as leaf
use Rattle.gx_ports.specs.declared.kinds.LeafSpec.{LeafSpec}

-- a hashed leaf has one for each chain
abbrev pub roots_of_kind : LeafKind → ℕ
roots_of_kind leaf.Heap = 1
roots_of_kind (leaf.Hash buckets) = buckets
roots_of_kind leaf.Isam = 1
roots_of_kind leaf.Bplus = 1

abbrev pub roots_of : LeafSpec → ℕ
roots_of spec = roots_of_kind spec.kind

abbrev pub root_pages : List LeafSpec → ℕ
root_pages specs = sum (map roots_of specs)
