-- The rule of each head over the records of a form.
use Rattle.std.specs.Prelude.{ℕ, suc, Bool, true, false, List, [], ◌∷◌, map, None, if◌then◌else◌}
use Rattle.gx_values.specs.declared.records.Field.{Field}
use Rattle.gx_values.specs.declared.records.Form.{Form}
use Rattle.gx_mapping.specs.Rule.{Rule, is_field, first_in}
use Rattle.gx_actual.specs.Rules.{actual_rule}
use Rattle.gx_divide.specs.Rules.{divide_rule}
use Rattle.gx_index.specs.Rules.{index_rule}
use Rattle.gx_encode.specs.Rules.{encode_rule}
use Rattle.gx_split.specs.SegmentRules.{segment_rule}
use Rattle.gx_split.specs.TransposeRules.{transpose_rule}
use Rattle.gx_partition.specs.Rules.{partition_rule}
use Rattle.gx_partition.specs.declared.place.Where.{Where}
use Rattle.gx_partition.specs.declared.place.Where.TheVariants.{Key, Rest}
use Rattle.gx_equation.specs.declared.heads.Head.{Head}
use Rattle.gx_equation.specs.declared.heads.Head.TheVariants as heads
use Rattle.gx_forms.specs.Fields.{has_name}

-- ---- names as numbers

-- the numbers, from i on, of those that are true
abbrev pub numbers_from : ℕ → List Bool → List ℕ
numbers_from i [] = []
numbers_from i (b ∷ bs) = if b then i ∷ numbers_from (suc i) bs else numbers_from (suc i) bs

-- for each field whether its name is one of these
abbrev pub named_in : List Field → List (List ℕ) → List Bool
named_in fs names = map (λ f. has_name names f.name) fs

-- the numbers of all fields whose name is one of these
abbrev pub numbers_in : List Field → List (List ℕ) → List ℕ
numbers_in fs names = numbers_from 0 (named_in fs names)

-- keys before data
abbrev pub place_in : Form → List ℕ → Where
place_in form name =
    if is_field form.keys name then Key (first_in form.keys name)
    else Rest (first_in form.fields name)

-- ---- the rules of the layers

-- a leaf is no layer; this stands in its place
abbrev pub no_rule : Form → Rule
no_rule form = record {
  kids = 0;
  form = form;
  kid_form = λ child. form;
  holds_rest = λ child. true;
  parts = λ r. [];
  skips = λ child span. false;
  indexes = λ name. None;
  carries = λ child name. false;
}

abbrev pub head_rule : Head → Form → Rule
head_rule (heads.Leaf kind) form = no_rule form
head_rule heads.Actual form = actual_rule form
head_rule (heads.Encode name c) form = encode_rule form (first_in form.fields name) c
head_rule (heads.Segment names) form = segment_rule form (named_in form.fields names)
head_rule heads.Transpose form = transpose_rule form
head_rule (heads.Partition name bounds) form = partition_rule form (place_in form name) bounds
head_rule (heads.Divide size) form = divide_rule form size
head_rule (heads.Index name) form = index_rule form (first_in form.fields name)

abbrev pub IsLayer : Head → Type 0
IsLayer (heads.Leaf kind) = ⊥
IsLayer other = Unit {0}
