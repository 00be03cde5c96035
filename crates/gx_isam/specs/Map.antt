-- The map that is read on the pages of an indexed sequential file.
use Rattle.std.specs.Prelude.{slice_set}
use Rattle.gx_ports.specs.declared.pages.Place.{Place}
use Rattle.gx_ports.specs.LeafMaps.{LeafMap}
use Rattle.gx_ports.specs.Sheets.{Sheets}
use Rattle.gx_chain.specs.Map.{owned_map}

-- that of the pages of the owner but for the root
abbrev pub isam_map : Place → Sheets → LeafMap
isam_map place sheets =
    owned_map place.owner
    (record { owners = slice_set sheets.owners place.root 0; bytes = sheets.bytes })
