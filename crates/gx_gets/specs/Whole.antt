-- What fragments must be so that whole records are read by them, and what leaves hold for a record
-- at its key.
use Rattle.std.specs.Prelude.{◌≡◌, ◌⊎◌, ℕ, zero, suc, ◌+◌, ◌<◌, ◌≤◌, true, List, [], ◌∷◌, length, map, get_or, Option, Some, None, Result, IfOk, IfSome, OnOk}
use Rattle.std.specs.List.{sum_by}
use Rattle.std.specs.List.Sorted.{IsStrictlySortedBy}
use Rattle.gx_values.specs.declared.values.Value.{Value}
use Rattle.gx_values.specs.declared.records.Field.{Field}
use Rattle.gx_values.specs.declared.records.Form.{Form}
use Rattle.gx_values.specs.declared.records.Rec.{Rec}
use Rattle.gx_values.specs.declared.keys.Span.{Span}
use Rattle.gx_values.specs.Keys.{key_of, is_inside}
use Rattle.gx_values.specs.Values.{AreFit, value_cmp, no_value}
use Rattle.gx_ports.specs.declared.stop.Stop.{Stop}
use Rattle.gx_ports.specs.declared.view.View.{Ghosts}
use Rattle.gx_ports.specs.Calls.{ReadsMaps}
use Rattle.gx_ports.specs.LeafMaps.{LeafMap, map_at, selected}
use Rattle.gx_mapping.specs.Rule.{Rule, In, IsOf}
use Rattle.gx_partition.specs.Bounds.{child_of}
use Rattle.gx_split.specs.Groups.{defaults_of}
use Rattle.gx_stack.specs.Internal.{IsSet, IsInternal}
use Rattle.gx_stack.specs.Selected.{IsKeySpan}
use Rattle.gx_stack.specs.Tree.{Tree, tree_form, leaves_of, entries_of}
use Rattle.gx_codec.specs.declared.slots.Slot.{Slot}
use Rattle.gx_codec.specs.Slots.{AreStorable}
use Rattle.gx_access.specs.declared.access.Fragment.{Fragment}
use Rattle.gx_access.specs.declared.access.Tested.{Tested}
use Rattle.gx_access.specs.Access.{Choice, Choices, Only, By, no_choices, choice, chooser_value, fragment_entries, is_absent, seen, all_slots}
use Rattle.gx_access.specs.Held.{leaf_pair}
use Rattle.gx_access.specs.Leaves.{choice_leaves, choices_leaves}
use Rattle.gx_gets.specs.AtKey.{AreFew}
use Rattle.gx_gets.specs.Restored.{IsReadable, put_fragment}

-- ---- fragments by which records are read

-- the values of the slots are the defaults of their fields
abbrev pub AreDefaults : List Field → List Slot → List Value → Type 0
AreDefaults fields slots vs = (s : Slot) → In s slots
    → get_or vs s.number no_value ≡ get_or (defaults_of fields) s.number no_value

-- each record of the form has values that the fragment can have, and where it has none of a record
-- these are defaults
pub record IsRead (form : Form) (f : Fragment) : Type 0 where
  pub readable : IsReadable (length form.fields) f.view
  pub storable : (r : Rec) → IsOf form r → AreStorable form.fields f.view.slots r.fields
  pub defaults : (r : Rec) → IsOf form r → is_absent f.view.groups r.fields ≡ true
      → AreDefaults form.fields f.view.slots r.fields
  pub few : (r : Rec) → IsOf form r → AreFew f.piece (seen f.view r)

-- one of the fragments has the field with the number
abbrev pub IsCovered : ℕ → List Fragment → Type 0
IsCovered n fs =
    (f : Fragment) × In f fs × (s : Slot) × In s f.view.slots × (s.number ≡ n)

-- the first one is in these groups alone
abbrev pub IsLed : List (List Tested) → List Fragment → Type 0
IsLed groups [] = ⊥
IsLed groups (f ∷ fs) = f.view.groups ≡ groups

-- all fields of the slots are read by the fragments
pub record AreRead (form : Form) (slots : List Slot) (groups : List (List Tested))
    (fs : List Fragment) : Type 0 where
  pub led : IsLed groups fs
  pub each : (f : Fragment) → In f fs → IsRead form f
  pub covers : (s : Slot) → In s slots → IsCovered s.number fs

abbrev pub choice_count : Choices → ℕ
choice_count no_choices = 0
choice_count (choice ch cs) = suc (choice_count cs)

-- by those of each alternative, of which there is one for each child
abbrev mutual
  pub IsReadBy : Form → List Slot → List (List Tested) → Choice → Type 0
  IsReadBy form slots groups (Only fs) = AreRead form slots groups fs
  IsReadBy form slots groups (By chooser bounds cs) =
      IsStrictlySortedBy value_cmp bounds × (length bounds < 65535)
      × (choice_count cs ≡ suc (length bounds)) × AreReadBy form slots groups cs

  pub AreReadBy : Form → List Slot → List (List Tested) → Choices → Type 0
  AreReadBy form slots groups no_choices = Unit {0}
  AreReadBy form slots groups (choice ch cs) =
      IsReadBy form slots groups ch × AreReadBy form slots groups cs

-- so are all fields of the form's records
abbrev pub IsReader : Form → Choice → Type 0
IsReader form ch = IsReadBy form (all_slots 0 (length form.fields)) [] ch

abbrev pub AreReaders : Form → Choices → Type 0
AreReaders form cs = AreReadBy form (all_slots 0 (length form.fields)) [] cs

-- ---- what leaves hold inside a span

-- none of the leaves has an entry
abbrev pub HaveNone : List LeafMap → Span → List ℕ → Type 0
HaveNone maps span ns = (n : ℕ) → In n ns → selected span.lo span.hi (map_at maps n) ≡ []

-- the leaf of each fragment has the fragment's entries of the record, and no others
abbrev pub AreHeld : List LeafMap → Span → Rec → List Fragment → Type 0
AreHeld maps span r fs = (f : Fragment) → In f fs
    → selected span.lo span.hi (map_at maps f.leaf) ≡ map leaf_pair (fragment_entries r f)

-- so it is in the record's alternative, and the leaves of the others have none
abbrev mutual
  pub IsHeldAt : List LeafMap → Span → Rec → Choice → Type 0
  IsHeldAt maps span r (Only fs) = AreHeld maps span r fs
  IsHeldAt maps span r (By chooser bounds cs) =
      IsHeldIn maps span r cs (child_of bounds (chooser_value chooser r))

  pub IsHeldIn : List LeafMap → Span → Rec → Choices → ℕ → Type 0
  IsHeldIn maps span r no_choices c = ⊥
  IsHeldIn maps span r (choice ch cs) zero =
      IsHeldAt maps span r ch × HaveNone maps span (choices_leaves cs)
  IsHeldIn maps span r (choice ch cs) (suc c) =
      HaveNone maps span (choice_leaves ch) × IsHeldIn maps span r cs c

-- a step for each of the leaves, and one for each entry that it has
abbrev pub asked : List LeafMap → Span → List ℕ → ℕ
asked maps span ns =
    length ns + sum_by (λ n. length (selected span.lo span.hi (map_at maps n))) ns

-- ---- reading

abbrev pub put_fragments : List Fragment → List Value → List Value → List Value
put_fragments [] vs ws = ws
put_fragments (f ∷ fs) vs ws = put_fragments fs vs (put_fragment f vs ws)

-- a record of the form with this key, as the leaves hold it
abbrev pub IsThere : Form → List Value → (Rec → List LeafMap → Type 0) → List LeafMap → Type 0
IsThere form key Held maps = (r : Rec) × IsOf form r × (r.key ≡ key) × Held r maps

-- Where the leaves hold a record with the key, its values are answered, and where they have no
-- entry, none.
pub record ReadsOne {S : Type 0} (g : Ghosts S) (form : Form) (key : List Value) (span : Span)
    (Held : Rec → List LeafMap → Type 0) (leaves : List ℕ) (old new : S)
    (result : Result (Option (List Value)) Stop) : Type 0 where
  pub found : (r : Rec) → g.whole old → IsOf form r → r.key ≡ key → Held r (g.working old)
      → IfOk result (λ found. found ≡ Some r.fields)
  pub none : g.whole old → HaveNone (g.working old) span leaves → IfOk result (λ found. found ≡ None)
  pub fits : IfOk result (λ found. IfSome found (AreFit form.fields))
  pub steps : g.whole old
      → OnOk result (g.work new ≤ g.work old + asked (g.working old) span leaves)
  pub reads : ReadsMaps g (g.whole old
      × (HaveNone (g.working old) span leaves ⊎ IsThere form key Held (g.working old))) old new result

-- ---- at a key

-- the key alone is inside the span
pub record IsKeyAlone (form : Form) (key : List Value) (span : Span) : Type 0 where
  pub ends : IsKeySpan form span
  pub there : is_inside span.lo span.hi (key_of key) ≡ true
  pub one : (q : List Value) → AreFit form.keys q → is_inside span.lo span.hi (key_of q) ≡ true
      → q ≡ key

-- Where the leaves of the tree hold a set of records, answered are the values of the record with
-- the key, if there is one, in a step for each leaf and one for each entry of the record.
pub record ReadsAtKey {M S : Type 0} (rule : M → Rule) (g : Ghosts S) (t : Tree M)
    (key : List Value) (old new : S) (result : Result (Option (List Value)) Stop) : Type 0 where
  pub found : (R : List Rec) (r : Rec) → g.whole old → IsSet (tree_form rule t) R
      → IsInternal rule t R (g.working old) → In r R → r.key ≡ key
      → IfOk result (λ found. found ≡ Some r.fields)
  pub none : (R : List Rec) → g.whole old → IsSet (tree_form rule t) R
      → IsInternal rule t R (g.working old) → ((r : Rec) → In r R → r.key ≡ key → ⊥)
      → IfOk result (λ found. found ≡ None)
  pub fits : IfOk result (λ found. IfSome found (AreFit (tree_form rule t).fields))
  pub steps : (R : List Rec) (most : ℕ) → g.whole old → IsSet (tree_form rule t) R
      → IsInternal rule t R (g.working old)
      → ((r : Rec) → In r R → length (entries_of rule t r) ≤ most)
      → OnOk result (g.work new ≤ g.work old + (length (leaves_of t) + most))
  pub reads : ReadsMaps g (g.whole old × ((R : List Rec) × IsSet (tree_form rule t) R
      × IsInternal rule t R (g.working old))) old new result
