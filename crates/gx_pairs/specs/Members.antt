-- The members of an owner.
use Rattle.std.specs.Prelude.{Bool, ◌&&◌, List, filter, map, is_some, IsTrue}
use Rattle.std.specs.List.{list_any}
use Rattle.std.specs.List.Sorted.{IsPermutation}
use Rattle.std.specs.FinMap as fin
use Rattle.gx_values.specs.declared.values.Value.{Value}
use Rattle.gx_commands.specs.declared.command.Cond.{Cond}
use Rattle.gx_model.specs.States.{File, Link, Row, is_same}
use Rattle.gx_model.specs.Found.{meets_conds, is_owner}
use Rattle.gx_ports.specs.LeafMaps.{LeafMap}
use Rattle.gx_mapping.specs.Rule.{In}
use Rattle.gx_scan.specs.Files.{IsInternal}
use Rattle.gx_scan.specs.Records.{record_at, list_of_one}
use Rattle.gx_scan.specs.Within.{row_of}
use Rattle.gx_pairs.specs.declared.stored.StoredFile.{StoredFile}
use Rattle.gx_pairs.specs.Stored.{file_of, node_tree}

-- whether the record is a member of the owner
abbrev pub is_member_of : Link → Value → Row → Bool
is_member_of link owner r = is_owner owner (fin.get link r.0)

-- and meets the conditions
abbrev pub is_chosen_of : Link → Value → List Cond → Row → Bool
is_chosen_of link owner conds r = meets_conds conds r && is_member_of link owner r

-- the rows are those records of the file, each once and in some order
abbrev pub AreMembersOf : File → Link → Value → List Cond → List Row → Type 0
AreMembersOf members link owner conds rows =
    IsPermutation (filter (is_chosen_of link owner conds) (fin.entries members)) rows

-- how many members the owner has
abbrev pub member_rows : File → Link → Value → List Row
member_rows members link owner = filter (is_member_of link owner) (fin.entries members)

-- whether the owner has a member
abbrev pub has_member : Link → Value → Bool
has_member link owner = list_any (λ pair. is_same pair.1 owner) (fin.entries link)

-- the file's record at a key, or none
abbrev pub rows_at : File → Value → List Row
rows_at f key = map row_of (list_of_one (record_at f key))

-- that record where it meets the conditions, or none
abbrev pub rows_meeting_at : File → List Cond → Value → List Row
rows_meeting_at f conds key = filter (meets_conds conds) (rows_at f key)

-- there is a record of the file at each of the keys
abbrev pub AreThere : File → List Value → Type 0
AreThere f keys = (key : Value) → In key keys → IsTrue (is_some (fin.get f key))

-- the leaves hold a valid file with a record at each of the keys
abbrev pub HaveRecords : StoredFile → List LeafMap → List Value → Type 0
HaveRecords s maps keys = (f : File) × IsInternal (file_of s) (node_tree s) maps f × AreThere f keys
