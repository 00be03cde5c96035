-- Trees in which each record has one leaf entry, or two, under its own key, and their bodies.
use Rattle.std.specs.Prelude.{◌≡◌, ℕ, Bool, true, false, List, [], ◌∷◌, Option, Some, None, map, not, if◌then◌else◌}
use Rattle.gx_values.specs.declared.records.Form.{Form}
use Rattle.gx_values.specs.declared.values.Value.{Value}
use Rattle.gx_values.specs.Keys.{key_of}
use Rattle.gx_mapping.specs.Rule.{In, IsOf}
use Rattle.gx_split.specs.declared.layer.Segment.{Segment}
use Rattle.gx_split.specs.Groups.{chosen}
use Rattle.gx_split.specs.SegmentRules.{form_of, mask_of, are_others_default}
use Rattle.gx_stack.specs.declared.entries.LeafEntry.{LeafEntry}
use Rattle.gx_stack.specs.Tree.{Tree, leaf, layer, no_kids, kid, entries_of}
use Rattle.gx_types.specs.declared.any.AnyMapping.{AnyMapping}
use Rattle.gx_types.specs.declared.any.AnyMapping.TheVariants as any
use Rattle.gx_types.specs.Any.{any_rule}

-- a layer of which each record has one part, for child 0 and with the record's own key
abbrev pub KeepsKeys : AnyMapping → Type 0
KeepsKeys (any.Actual m) = Unit {0}
KeepsKeys (any.Encode m) = Unit {0}
KeepsKeys _ = ⊥

-- each record of the tree has one entry: in this leaf, which stands below such layers alone, under
-- its own key
abbrev pub IsOnlyLeaf : Tree AnyMapping → ℕ → Type 0
IsOnlyLeaf (leaf k form) n = k ≡ n
IsOnlyLeaf (layer m no_kids) n = ⊥
IsOnlyLeaf (layer m (kid t ks)) n = KeepsKeys m × IsOnlyLeaf t n

-- a record of the form has these data
abbrev pub AreDataOf : Form → List Value → Type 0
AreDataOf form fields = (key : List Value) × IsOf form (record { key = key; fields = fields })

-- the body of the one entry of each record with these data
abbrev pub IsOnlyBody : Tree AnyMapping → List Value → List ℕ → Type 0
IsOnlyBody t fields body = (n : ℕ) (key : List Value) → IsOnlyLeaf t n
    → entries_of any_rule t (record { key = key; fields = fields })
    ≡ record { leaf = n; key = key_of key; body = body } ∷ []

-- ---- two entries

-- a layer of which each record has a part for child 0, and may have one for child 1, both with the
-- record's own key
abbrev pub Splits : AnyMapping → Type 0
Splits (any.Segment m) = Unit {0}
Splits _ = ⊥

-- the values of the second group, where one of them isn't the default of its field
abbrev pub others_of : Segment → List Value → Option (List Value)
others_of m values =
    if are_others_default (mask_of m) (form_of m) values
    then None else Some (chosen (map not (mask_of m)) values)

-- the tree is such a layer, over children whose records have one entry each, in these leaves
abbrev pub AreTwoLeaves : Tree AnyMapping → ℕ → ℕ → Type 0
AreTwoLeaves (leaf i form) n k = ⊥
AreTwoLeaves (layer m no_kids) n k = ⊥
AreTwoLeaves (layer m (kid a no_kids)) n k = ⊥
AreTwoLeaves (layer m (kid a (kid b ks))) n k = Splits m × IsOnlyLeaf a n × IsOnlyLeaf b k

-- each record of the tree has an entry in the first leaf and, where there is a second leaf, may
-- have one in it, and no others
abbrev pub AreOwnLeaves : Tree AnyMapping → ℕ → Option ℕ → Type 0
AreOwnLeaves t n None = IsOnlyLeaf t n
AreOwnLeaves t n (Some k) = AreTwoLeaves t n k

-- the entry with this body in a leaf, or none
abbrev pub other_entry : ℕ → List ℕ → Option (List ℕ) → List LeafEntry
other_entry k key None = []
other_entry k key (Some body) = record { leaf = k; key = key; body = body } ∷ []

-- the values of the second group of such a layer, and of such a tree
abbrev pub others_below : AnyMapping → List Value → List Value
others_below (any.Segment m) fields = chosen (map not (mask_of m)) fields
others_below _ fields = []

abbrev pub others_in : Tree AnyMapping → List Value → List Value
others_in (leaf i form) fields = []
others_in (layer m ks) fields = others_below m fields

-- the body of the first entry of each record with these data
abbrev pub IsFirstBody : Tree AnyMapping → List Value → List ℕ → Type 0
IsFirstBody t fields body = (n k : ℕ) (key : List Value) → AreTwoLeaves t n k
    → In (record { leaf = n; key = key_of key; body = body })
    (entries_of any_rule t (record { key = key; fields = fields }))

-- such a tree of one `actual` over a leaf: the body of a record is the joined bytes of its values
abbrev pub IsActual : AnyMapping → Type 0
IsActual (any.Actual m) = Unit {0}
IsActual _ = ⊥

abbrev pub IsPlain : Tree AnyMapping → Type 0
IsPlain (leaf i form) = ⊥
IsPlain (layer m no_kids) = ⊥
IsPlain (layer m (kid (leaf i form) ks)) = IsActual m
IsPlain (layer m (kid (layer q qs) ks)) = ⊥

-- the bodies of the entries of each record with these data, in the first leaf and in the second one
abbrev pub AreBodies : Tree AnyMapping → List Value → List ℕ → Option (List ℕ) → Type 0
AreBodies t fields body other = (n k : ℕ) (key : List Value) → AreTwoLeaves t n k
    → entries_of any_rule t (record { key = key; fields = fields })
    ≡ record { leaf = n; key = key_of key; body = body } ∷ other_entry k (key_of key) other
