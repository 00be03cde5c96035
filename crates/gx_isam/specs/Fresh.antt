-- An indexed sequential file that was laid out anew.
use Rattle.std.specs.FinMap.{keys}
use Rattle.gx_ports.specs.declared.pages.Place.{Place}
use Rattle.gx_ports.specs.LeafMaps.{LeafMap}
use Rattle.gx_ports.specs.Sheets.{Sheets, bytes_at}
use Rattle.gx_isam_index.specs.Fresh.{HasFreshBuckets}

-- the index of the file has them for the keys of the map
abbrev pub IsFresh : Place → Sheets → LeafMap → Type 0
IsFresh place sheets map = HasFreshBuckets (bytes_at sheets place.root) (keys map)
