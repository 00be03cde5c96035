-- The access of a tree: each record has in one alternative exactly its data entries.
use Rattle.std.specs.Prelude.{ℕ, suc, Bool, List, [], ◌∷◌, ◌++◌, length, Option, Some, None, if◌then◌else◌}
use Rattle.std.specs.List.{flat_map}
use Rattle.std.specs.Option.{option_map, option_and_then}
use Rattle.gx_values.specs.declared.records.Field.{Field}
use Rattle.gx_values.specs.declared.records.Rec.{Rec}
use Rattle.gx_mapping.specs.Rule.{Rule, In, IsOf}
use Rattle.gx_stack.specs.declared.entries.LeafEntry.{LeafEntry}
use Rattle.gx_stack.specs.Tree.{Tree, Kids, leaf, layer, no_kids, kid, entries_of, tree_form}
use Rattle.gx_access.specs.declared.arrangement.Arrangement.{Arrangement}
use Rattle.gx_access.specs.declared.arrangement.Arrangement.TheVariants.{Same, ByValue, Body, Coded, Groups, Columns, Cut}
use Rattle.gx_codec.specs.declared.slots.Slot.{Slot}
use Rattle.gx_access.specs.declared.access.Tested.{Tested}
use Rattle.gx_access.specs.declared.access.View.{View}
use Rattle.gx_access.specs.declared.access.Fragment.{Fragment}
use Rattle.gx_access.specs.Access.{Choice, Choices, Only, By, no_choices, choice, fragment_of, fragments_entries, fragments_of, flat, whole_view}
use Rattle.gx_access.specs.Views.{if_flat, room_below, coded_view, group_views, chooser_of}

-- the leaves that records are gathered from
abbrev mutual
  pub data_leaves : {M : Type 0} (rule : M → Rule) → Tree M → List ℕ
  data_leaves rule (leaf n form) = n ∷ []
  data_leaves rule (layer m ks) = kids_data_leaves rule (rule m).holds_rest ks

  pub kids_data_leaves : {M : Type 0} (rule : M → Rule) → (ℕ → Bool) → Kids M → List ℕ
  kids_data_leaves rule rest no_kids = []
  kids_data_leaves rule rest (kid t ks) =
      (if rest 0 then data_leaves rule t else []) ++ kids_data_leaves rule (λ c. rest (suc c)) ks

-- of each record of the tree the entries in data leaves are those of its fragments, and no others
pub record IsAccess {M : Type 0} (rule : M → Rule) (t : Tree M) (ch : Choice) : Type 0 where
  pub holds : (r : Rec) (e : LeafEntry) → IsOf (tree_form rule t) r
      → In e (fragments_entries (fragments_of ch r) r)
      → In e (entries_of rule t r) × In e.leaf (data_leaves rule t)
  pub only : (r : Rec) (e : LeafEntry) → IsOf (tree_form rule t) r
      → In e (entries_of rule t r) → In e.leaf (data_leaves rule t)
      → In e (fragments_entries (fragments_of ch r) r)

-- ---- how it is found

-- what is known of a child: its leaf, if it is one, and how it stores what it has of a record
pub record Below : Type 0 where
  pub leaf : Option ℕ
  pub of : View → Option Choice

abbrev pub only_fragments : Option Choice → Option (List Fragment)
only_fragments None = None
only_fragments (Some (Only fs)) = Some fs
only_fragments (Some (By chooser bounds cs)) = None

abbrev pub both : {A B C : Type 0} → (A → B → C) → Option A → Option B → Option C
both f (Some a) (Some b) = Some (f a b)
both f (Some a) None = None
both f None b = None

abbrev pub column_fragments : List Below → List (List Tested) → List Slot
    → Option (List (List Fragment))
column_fragments [] groups [] = Some []
column_fragments (k ∷ ks) groups (s ∷ slots) =
    both (λ fs fss. fs ∷ fss) (only_fragments (k.of (flat (s ∷ []) groups)))
    (column_fragments ks groups slots)
column_fragments _ groups _ = None

abbrev pub kid_choices : List Below → View → Option Choices
kid_choices [] x = Some no_choices
kid_choices (k ∷ ks) x = both choice (k.of x) (kid_choices ks x)

-- that of the first child
abbrev pub first_of : List Below → View → Option Choice
first_of [] x = None
first_of (k ∷ ks) x = k.of x

-- that of a leaf that is the first child
abbrev pub first_leaf : List Below → Option ℕ
first_leaf [] = None
first_leaf (k ∷ ks) = k.leaf

-- both lists of fragments, one after the other
abbrev pub joined : Option Choice → Option Choice → Option Choice
joined one other =
    both (λ fs gs. Only (fs ++ gs)) (only_fragments one) (only_fragments other)

-- that of a layer by its arrangement, the data fields of its form and its children, in a file with
-- these fields
abbrev pub access_row : List Field → Arrangement → List Field → List Below → View → Option Choice
access_row fields Same own ks x = first_of ks x
access_row fields (ByValue at bounds) own ks x =
    both (λ chooser cs. By chooser bounds cs) (chooser_of at x) (kid_choices ks x)
access_row fields Body own ks x = option_and_then (first_of ks) (room_below x)
access_row fields (Coded i c) own ks x = option_and_then (first_of ks) (coded_view i c x)
access_row fields (Groups mask) own (k ∷ l ∷ ks) x =
    option_and_then (λ p. joined (k.of p.0) (l.of p.1)) (group_views mask own x)
access_row fields Columns own ks x =
    if_flat x.wraps (option_map (λ fss. Only (flat_map (λ fs. fs) fss))
    (column_fragments ks x.groups x.slots))
access_row fields (Cut size) own ks x =
    option_map (λ n. Only (fragment_of fields n (Some size) x ∷ [])) (first_leaf ks)
access_row fields _ own _ x = None

-- of a file with these fields
abbrev mutual
  pub access_below : {M : Type 0} (rule : M → Rule) (arranged : M → Arrangement) → List Field
      → Tree M → Below
  access_below rule arranged fields (leaf n form) = record {
    leaf = Some n;
    of = λ x. Some (Only (fragment_of fields n None x ∷ []));
  }
  access_below rule arranged fields (layer m ks) = record {
    leaf = None;
    of = access_row fields (arranged m) (rule m).form.fields (kids_below rule arranged fields ks);
  }

  pub kids_below : {M : Type 0} (rule : M → Rule) (arranged : M → Arrangement) → List Field
      → Kids M → List Below
  kids_below rule arranged fields no_kids = []
  kids_below rule arranged fields (kid t ks) =
      access_below rule arranged fields t ∷ kids_below rule arranged fields ks

-- the access of a tree, where it has one
abbrev pub access_of : {M : Type 0} (rule : M → Rule) (arranged : M → Arrangement) → Tree M
    → Option Choice
access_of rule arranged t =
    let fields = (tree_form rule t).fields in
    (access_below rule arranged fields t).of (whole_view (length fields))
