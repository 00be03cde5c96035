-- The map that is read on the pages of a heap.
use Rattle.gx_ports.specs.declared.pages.Place.{Place}
use Rattle.gx_ports.specs.LeafMaps.{LeafMap}
use Rattle.gx_ports.specs.Sheets.{Sheets, Ground}
use Rattle.gx_chain.specs.Map.{owned_map}

abbrev pub heap_map : Ground → Place → Sheets → LeafMap
heap_map base place sheets = owned_map place.owner sheets
