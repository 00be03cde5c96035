-- How a node stores what it has of records, and what its children store.
use Rattle.std.specs.Prelude.{◌≡◌, true, false, List, [], ◌∷◌}
use Rattle.gx_values.specs.declared.records.Rec.{Rec}
use Rattle.gx_mapping.specs.Rule.{Rule}
use Rattle.gx_partition.specs.declared.place.Where.{Where}
use Rattle.gx_partition.specs.Places.{value_at}
use Rattle.gx_stack.specs.Tree.{Tree, Kids, no_kids, kid}
use Rattle.gx_codec.specs.declared.slots.Slot.{Slot}
use Rattle.gx_access.specs.declared.access.Tested.{Tested}
use Rattle.gx_access.specs.declared.access.View.{View}
use Rattle.gx_access.specs.declared.access.Fragment.{Fragment}
use Rattle.gx_access.specs.declared.access.Chooser.{Chooser}
use Rattle.gx_access.specs.Access.{Choice, Choices, Only, no_choices, choice, seen, is_absent, fragments_entries, fragments_of, chooser_value, data_entries, flat}

-- What a node has of each record are the entries of its fragments; where it has no part of the
-- record, they have none.
pub record IsStored {M : Type 0} (rule : M → Rule) (t : Tree M) (x : View) (ch : Choice)
    (r : Rec) : Type 0 where
  pub here : is_absent x.groups r.fields ≡ false
      → data_entries rule t (seen x r) ≡ fragments_entries (fragments_of ch r) r
  pub absent : is_absent x.groups r.fields ≡ true → fragments_entries (fragments_of ch r) r ≡ []

abbrev pub AreStored : {M : Type 0} (rule : M → Rule) → Tree M → View → Choice → Type 0
AreStored rule t x ch = (r : Rec) → IsStored rule t x ch r

-- the fragments of each column, and those of each child of a partition
abbrev pub ColumnsStored : {M : Type 0} (rule : M → Rule) → Kids M → List (List Tested)
    → List Slot → List (List Fragment) → Type 0
ColumnsStored rule no_kids groups [] [] = Unit {0}
ColumnsStored rule (kid t ks) groups (s ∷ slots) (fs ∷ fss) =
    AreStored rule t (flat (s ∷ []) groups) (Only fs) × ColumnsStored rule ks groups slots fss
ColumnsStored rule _ groups _ _ = ⊥

abbrev pub ChoicesStored : {M : Type 0} (rule : M → Rule) → Kids M → View → Choices → Type 0
ChoicesStored rule no_kids x no_choices = Unit {0}
ChoicesStored rule (kid t ks) x (choice ch cs) = AreStored rule t x ch × ChoicesStored rule ks x cs
ChoicesStored rule _ x _ = ⊥

-- the field by which a partition chooses, as the record itself has it
abbrev pub IsChooser : View → Where → Chooser → Type 0
IsChooser x at chooser = (r : Rec) → value_at at (seen x r) ≡ chooser_value chooser r
