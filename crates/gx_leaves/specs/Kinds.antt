-- What the pages of each kind of file hold.
use Rattle.std.specs.Prelude.{Bool, true, ◌&&◌, List, nat_lt, nat_le}
use Rattle.std.specs.List.{list_all}
use Rattle.gx_ports.specs.declared.kinds.LeafKind.{LeafKind}
use Rattle.gx_ports.specs.declared.kinds.LeafKind.TheVariants as kinds
use Rattle.gx_ports.specs.declared.kinds.LeafSpec.{LeafSpec}
use Rattle.gx_ports.specs.declared.pages.Place.{Place}
use Rattle.gx_ports.specs.LeafMaps.{LeafMap}
use Rattle.gx_ports.specs.Sheets.{Sheets, Ground}
use Rattle.gx_btree.specs.Bplus.{IsBplus}
use Rattle.gx_btree.specs.Map.{bplus_map}
use Rattle.gx_heap.specs.Heap.{IsHeap}
use Rattle.gx_hash.specs.Hash.{IsHash}
use Rattle.gx_isam.specs.Fresh.{IsFresh}
use Rattle.gx_isam.specs.Isam.{IsIsam}
use Rattle.gx_isam.specs.Map.{isam_map}
use Rattle.gx_chain.specs.Map.{owned_map}
use Rattle.gx_heap.specs.Map.{heap_map}

-- a file can be made of this kind: a hashed one has 1 to 64 chains
abbrev pub is_built : LeafKind → Bool
is_built kinds.Heap = true
is_built (kinds.Hash buckets) = nat_lt 0 buckets && nat_le buckets 64
is_built kinds.Isam = true
is_built kinds.Bplus = true

abbrev pub are_built : List LeafSpec → Bool
are_built specs = list_all (λ spec. is_built spec.kind) specs

-- the sheets hold a map in a file of this kind
abbrev pub IsFileOf : LeafKind → Ground → Place → Sheets → LeafMap → Type 0
IsFileOf kinds.Heap = IsHeap
IsFileOf (kinds.Hash buckets) = IsHash
IsFileOf kinds.Isam = IsIsam
IsFileOf kinds.Bplus = IsBplus

-- the map that is read in such a file
abbrev pub map_of : LeafKind → Ground → Place → Sheets → LeafMap
map_of kinds.Heap = heap_map
map_of (kinds.Hash buckets) = λ base place sheets. owned_map place.owner sheets
map_of kinds.Isam = λ base place sheets. isam_map place sheets
map_of kinds.Bplus = bplus_map

-- the same at a place, by its kind
abbrev pub IsFileAt : Ground → Place → Sheets → LeafMap → Type 0
IsFileAt base place = IsFileOf place.spec.kind base place

abbrev pub map_in : Ground → Place → Sheets → LeafMap
map_in base place = map_of place.spec.kind base place

-- a file of this kind, which holds the map, is laid out as `reorganize` leaves it
abbrev pub IsFreshOf : LeafKind → Place → Sheets → LeafMap → Type 0
IsFreshOf kinds.Isam = IsFresh
IsFreshOf kinds.Heap = λ place sheets map. Unit {0}
IsFreshOf (kinds.Hash buckets) = λ place sheets map. Unit {0}
IsFreshOf kinds.Bplus = λ place sheets map. Unit {0}
