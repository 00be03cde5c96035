-- What a layer does with the data of a record: seven ways, each said of the parts for its data
-- children.
use Rattle.std.specs.Prelude.{◌≡◌, ◌<◌, ℕ, Bool, true, nat_eq, nat_lt, List, [], ◌∷◌}
use Rattle.gx_values.specs.declared.records.Rec.{Rec}
use Rattle.gx_mapping.specs.declared.parts.Part.{Part}
use Rattle.gx_mapping.specs.Rule.{Rule, data_parts}
use Rattle.gx_actual.specs.Rules.{actual_part}
use Rattle.gx_encode.specs.Rules.{encode_part}
use Rattle.gx_split.specs.SegmentRules.{segment_parts}
use Rattle.gx_split.specs.TransposeRules.{columns}
use Rattle.gx_partition.specs.Rules.{partition_part}
use Rattle.gx_divide.specs.Pieces.{pieces}
use Rattle.gx_divide.specs.Rules.{bytes_in, numbered}
use Rattle.gx_access.specs.declared.arrangement.Arrangement.{Arrangement}
use Rattle.gx_access.specs.declared.arrangement.Arrangement.TheVariants.{Same, ByValue, Body, Coded, Groups, Columns, Cut, Other}

-- the data parts of each record under such an arrangement
abbrev pub arranged_parts : Arrangement → Rule → Rec → List Part
arranged_parts Same rule r = record { child = 0; rec = r } ∷ []
arranged_parts (ByValue at bounds) rule r = partition_part at bounds r ∷ []
arranged_parts Body rule r = actual_part r ∷ []
arranged_parts (Coded i c) rule r = encode_part i c r ∷ []
arranged_parts (Groups mask) rule r = segment_parts mask rule.form r
arranged_parts Columns rule r = columns r.key 0 r.fields
arranged_parts (Cut size) rule r = numbered r.key 0 (pieces size (bytes_in r.fields))
arranged_parts Other rule r = data_parts rule r

abbrev pub IsArranged : Rule → Arrangement → Type 0
IsArranged rule a = (r : Rec) → data_parts rule r ≡ arranged_parts a rule r

-- whether the child is a data child under such an arrangement
abbrev pub is_data_child : Rule → Arrangement → ℕ → Bool
is_data_child rule Same c = nat_eq c 0
is_data_child rule (ByValue at bounds) c = true
is_data_child rule Body c = nat_eq c 0
is_data_child rule (Coded i code) c = nat_eq c 0
is_data_child rule (Groups mask) c = nat_lt c 2
is_data_child rule Columns c = true
is_data_child rule (Cut size) c = nat_eq c 0
is_data_child rule Other c = rule.holds_rest c

abbrev pub HasDataChildren : Rule → Arrangement → Type 0
HasDataChildren rule a = (c : ℕ) → c < rule.kids → rule.holds_rest c ≡ is_data_child rule a c
