-- The mappings of all layers, each with what is true of it.
use Rattle.gx_mapping.specs.Rule.{Rule}
use Rattle.gx_mapping.specs.Laws.{MappingLaws}
use Rattle.gx_actual.specs.Rules.{actual_rule, form_of}
use Rattle.gx_actual.specs.Laws.{actual_laws}
use Rattle.gx_partition.specs.Rules.{rule_of}
use Rattle.gx_partition.specs.Laws.{partition_laws}
use Rattle.gx_encode.specs.Rules.{rule_of as codes_of}
use Rattle.gx_encode.specs.Laws.{encode_laws}
use Rattle.gx_split.specs.SegmentRules.{rule_of as groups_of}
use Rattle.gx_split.specs.SegmentLaws.{segment_laws}
use Rattle.gx_split.specs.TransposeRules.{rule_of as columns_of}
use Rattle.gx_split.specs.TransposeLaws.{transpose_laws}
use Rattle.gx_divide.specs.Rules.{rule_of as pieces_of}
use Rattle.gx_divide.specs.Laws.{divide_laws}
use Rattle.gx_index.specs.Rules.{rule_of as entries_of}
use Rattle.gx_index.specs.Laws.{index_laws}
use Rattle.gx_types.specs.declared.any.AnyMapping.{AnyMapping}
use Rattle.gx_types.specs.declared.any.AnyMapping.TheVariants as any

abbrev pub any_rule : AnyMapping → Rule
any_rule (any.Actual m) = actual_rule (form_of m)
any_rule (any.Encode m) = codes_of m
any_rule (any.Segment m) = groups_of m
any_rule (any.Transpose m) = columns_of m
any_rule (any.Partition m) = rule_of m
any_rule (any.Divide m) = pieces_of m
any_rule (any.Index m) = entries_of m

pub any_laws : (m : AnyMapping) → MappingLaws (any_rule m)
any_laws (any.Actual m) = actual_laws m.form m.short
any_laws (any.Encode m) = encode_laws m.form m.field m.code m.sound
any_laws (any.Segment m) = segment_laws m.form m.mask m.long
any_laws (any.Transpose m) = transpose_laws m.form m.some
any_laws (any.Partition m) = partition_laws m.form m.at m.bounds m.sound
any_laws (any.Divide m) = divide_laws m.form m.size m.sound
any_laws (any.Index m) = index_laws m.form m.field m.sound
