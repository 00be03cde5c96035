-- Records that stand in two leaves, each with one group of their data fields.
use Rattle.std.specs.Prelude.{[], ◌≡◌, ℕ, List, ◌∷◌, Bool, true, not, length, map}
use Rattle.gx_values.specs.declared.records.Field.{Field}
use Rattle.gx_values.specs.declared.values.Value.{Value}
use Rattle.gx_schema.specs.declared.schema.FileDef.{FileDef}
use Rattle.gx_schema.specs.Lookups.{data_fields}
use Rattle.gx_actual.specs.Bodies.{body_of}
use Rattle.gx_split.specs.Groups.{chosen, are_default}
use Rattle.gx_split.specs.SegmentRules.{segment_rule}
use Rattle.gx_stack.specs.Tree.{Tree, layer, kid, no_kids, tree_form}
use Rattle.gx_types.specs.declared.any.AnyMapping.{AnyMapping}
use Rattle.gx_types.specs.Any.{any_rule}
use Rattle.gx_model.specs.States.{Row, IsRowOf}
use Rattle.gx_scan.specs.declared.groups.Groups.{Groups}
use Rattle.gx_scan.specs.declared.both.Rest.{Rest}
use Rattle.gx_codec.specs.Stored.{stored_values, HaveCodes}
use Rattle.gx_scan.specs.Entries.{ArePlaces, entry_of_row}

-- A segment splits the tree's records by the mask, and each of the two groups stands whole in one
-- leaf.
pub record AreGroups (t : Tree AnyMapping) (g : Groups) : Type 0 where
  pub mapping : AnyMapping
  pub first : Tree AnyMapping
  pub others : Tree AnyMapping
  pub tree : t ≡ layer mapping (kid first (kid others no_kids))
  pub splits : any_rule mapping ≡ segment_rule (tree_form any_rule t) g.mask.now
  pub long : length g.mask.now ≡ length (tree_form any_rule t).fields
  pub first_place : ArePlaces 0 first (g.first ∷ [])
  pub other_place : ArePlaces 0 others (g.others ∷ [])

-- no field of either group stands by a code
pub record ArePlain (g : Groups) : Type 0 where
  pub first : g.first.codes ≡ []
  pub others : g.others.codes ≡ []

-- the key and the values of one group
abbrev pub group_row : List Bool → Row → Row
group_row mask r = (r.0, chosen mask r.1)

-- whether some value outside the first group isn't its default
abbrev pub has_others : List Bool → List Field → Row → Bool
has_others mask fields r =
    not (are_default (chosen (map not mask) fields) (chosen (map not mask) r.1))

-- the entry of a record's first group, and that of its others, where no field stands by a code
abbrev pub first_entry : Groups → Row → List ℕ × List ℕ
first_entry g r = entry_of_row g.first.lengths [] (group_row g.mask.now r)

abbrev pub other_entry : Groups → Row → List ℕ × List ℕ
other_entry g r = entry_of_row g.others.lengths [] (group_row (map not g.mask.now) r)

-- the same where fields stand by the codes of the two places
abbrev pub first_stored : Groups → Row → List ℕ × List ℕ
first_stored g r = entry_of_row g.first.lengths g.first.codes (group_row g.mask.now r)

abbrev pub other_stored : Groups → Row → List ℕ × List ℕ
other_stored g r = entry_of_row g.others.lengths g.others.codes (group_row (map not g.mask.now) r)

-- a record of the file whose two groups have the codes of their places
abbrev pub IsSplitRow : FileDef → Groups → Row → Type 0
IsSplitRow file g r = IsRowOf file r × HaveCodes g.first.codes (chosen g.mask.now r.1)
    × (has_others g.mask.now (data_fields file) r ≡ true
    → HaveCodes g.others.codes (chosen (map not g.mask.now) r.1))

-- what is left of a group's body and of its codes is that of these values
abbrev pub IsLeft : Rest → List Value → Type 0
IsLeft rest vs =
    HaveCodes rest.codes.now vs × (rest.body.now ≡ body_of (stored_values rest.codes.now vs))
