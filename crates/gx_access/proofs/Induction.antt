-- The access of a tree, by the rows of its layers.
use Rattle.std.proofs.Common.{◌≡◌, ℕ, zero, suc, List, [], ◌∷◌, ◌++◌, refl, sym, ap, ◌∙◌, subst, Bool, true, false, not, if◌then◌else◌, map, length, get_or, ◌<◌, Option, Some, None}
use Rattle.std.specs.List.{flat_map}
use Rattle.std.specs.Option.{option_map, option_and_then}
use Rattle.std.specs.Prelude.{nat_lt, slice_index_or}
use Rattle.std.proofs.lemmas.Option.{same_Some}
use Rattle.std.proofs.lemmas.Bool.{ltb-true}
use Rattle.gx_values.specs.declared.values.Code.{Code}
use Rattle.gx_values.specs.declared.values.Value.{Value}
use Rattle.gx_values.specs.declared.records.Field.{Field}
use Rattle.gx_values.specs.declared.records.Form.{Form}
use Rattle.gx_values.specs.declared.records.Rec.{Rec}
use Rattle.gx_values.specs.Values.{AreFit, no_value}
use Rattle.gx_mapping.specs.Rule.{Rule, In, IsOf}
use Rattle.gx_encode.specs.Forms.{changed}
use Rattle.gx_split.specs.Groups.{chosen}
use Rattle.gx_partition.specs.declared.place.Where.{Where}
use Rattle.gx_partition.specs.declared.place.Where.TheVariants.{Key, Rest}
use Rattle.gx_stack.specs.Tree.{Tree, Kids, leaf, layer, no_kids, kid, tree_form, IsValid}
use Rattle.gx_access.specs.declared.arrangement.Arrangement.{Arrangement}
use Rattle.gx_access.specs.declared.arrangement.Arrangement.TheVariants.{Same, ByValue, Body, Coded, Groups, Columns, Cut, Other}
use Rattle.gx_access.specs.Arrangements.{IsArranged}
use Rattle.gx_codec.specs.declared.slots.Slot.{Slot}
use Rattle.gx_access.specs.declared.access.Tested.{Tested}
use Rattle.gx_access.specs.declared.access.View.{View}
use Rattle.gx_access.specs.declared.access.Fragment.{Fragment}
use Rattle.gx_access.specs.declared.access.Chooser.{Chooser}
use Rattle.gx_access.specs.declared.access.Chooser.TheVariants.{OfData}
use Rattle.gx_access.specs.Access.{Choice, Choices, Only, By, choice, picked, all_slots, whole_view, fragment_of, fragments_of, fragments_entries, data_entries, flat, below_actual, code_slot, is_free, others_group}
use Rattle.gx_access.proofs.Stored.{AreStored, ColumnsStored, ChoicesStored, IsChooser}
use Rattle.gx_access.specs.Views.{if_flat, most_wraps, room_below, coded_view, group_views, no_slot, chooser_of}
use Rattle.gx_access.specs.Whole.{Below, only_fragments, both, joined, first_of, column_fragments, kid_choices, access_row, access_below, kids_below, access_of, IsAccess}
use Rattle.gx_access.proofs.Rows.{stored_leaf, stored_same, stored_body, stored_coded, stored_groups, stored_columns, stored_cut, stored_by_value, key_chooser, data_chooser}
use Rattle.gx_access.proofs.DataLeaves.{data_entry, entry_data}

-- ---- what an answer came from

abbrev pub IsThere : {A : Type 0} → Option A → Type 0
IsThere None = ⊥
IsThere (Some a) = Unit {0}

pub none_is : {A B : Type 0} (o : Option A) (a : A) → (IsThere o → ⊥) → o ≡ Some a → B
none_is {A} o a none is = absurd (none (there o a is))
  where
    there : (o : Option A) (a : A) → o ≡ Some a → IsThere o
    there o a is = subst IsThere (sym is) tt

pub from_flat : {A : Type 0} (n : ℕ) (o : Option A) (a : A) → if_flat n o ≡ Some a
    → (n ≡ 0) × (o ≡ Some a)
from_flat zero o a is = (refl, is)
from_flat (suc n) o a is = none_is None a (λ h. h) is

pub from_if : {A : Type 0} (b : Bool) (o : Option A) (a : A) → (if b then o else None) ≡ Some a
    → (b ≡ true) × (o ≡ Some a)
from_if true o a is = (refl, is)
from_if false o a is = none_is None a (λ h. h) is

pub from_both : {A B C : Type 0} (f : A → B → C) (o : Option A) (p : Option B) (c : C)
    → both f o p ≡ Some c
    → (a : A) × (b : B) × (o ≡ Some a) × (p ≡ Some b) × (f a b ≡ c)
from_both f (Some a) (Some b) c is = (a, b, refl, refl, same_Some _ _ is)
from_both f (Some a) None c is = none_is None c (λ h. h) is
from_both f None p c is = none_is None c (λ h. h) is

pub from_then : {A B : Type 0} (o : Option A) (f : A → Option B) (b : B)
    → option_and_then f o ≡ Some b → (a : A) × (o ≡ Some a) × (f a ≡ Some b)
from_then (Some a) f b is = (a, refl, is)
from_then None f b is = none_is None b (λ h. h) is

-- the view below `actual`
pub from_room : (x y : View) → room_below x ≡ Some y → below_actual x ≡ y
from_room x y is =
    same_Some _ _ (from_if (nat_lt x.wraps most_wraps) (Some (below_actual x)) y is).1

-- that below a code
pub from_coded : (i : ℕ) (c : Code) (x y : View) → coded_view i c x ≡ Some y
    → (x.wraps ≡ 0) × (is_free i x.slots ≡ true)
    × (flat (changed i (code_slot c) x.slots) x.groups ≡ y)
from_coded i c x y is =
    let below = flat (changed i (code_slot c) x.slots) x.groups in
    let at_zero = from_flat x.wraps (if is_free i x.slots then Some below else None) y is in
    let free = from_if (is_free i x.slots) (Some below) y at_zero.1 in
    (at_zero.0, free.0, same_Some _ _ free.1)

-- those of two groups
pub from_groups : (mask : List Bool) (own : List Field) (x : View) (p : View × View)
    → group_views mask own x ≡ Some p
    → (x.wraps ≡ 0) × (flat (chosen mask x.slots) x.groups ≡ p.0)
    × (flat (chosen (map not mask) x.slots) (others_group (map not mask) own x.slots ∷ x.groups) ≡ p.1)
from_groups mask own x p is =
    let at_zero = from_flat x.wraps (Some (
      flat (chosen mask x.slots) x.groups,
      flat (chosen (map not mask) x.slots)
          (others_group (map not mask) own x.slots ∷ x.groups),
    )) p is in
    let same = same_Some _ _ at_zero.1 in
    (at_zero.0, ap (λ (q : View × View). q.0) same, ap (λ (q : View × View). q.1) same)

pub from_map : {A B : Type 0} (f : A → B) (o : Option A) (b : B) → option_map f o ≡ Some b
    → (a : A) × (o ≡ Some a) × (f a ≡ b)
from_map f (Some a) b is = (a, refl, same_Some _ _ is)
from_map f None b is = none_is None b (λ h. h) is

pub from_only : (o : Option Choice) (fs : List Fragment) → only_fragments o ≡ Some fs
    → o ≡ Some (Only fs)
from_only None fs is = none_is None fs (λ h. h) is
from_only (Some (Only gs)) fs is = ap (λ gs. Some (Only gs)) (same_Some _ _ is)
from_only (Some (By chooser bounds cs)) fs is = none_is None fs (λ h. h) is

-- ---- whole records

shifted : (v : Value) (vs : List Value) (i n : ℕ)
    → picked (v ∷ vs) (all_slots (suc i) n) ≡ picked vs (all_slots i n)
shifted v vs i zero = refl
shifted v vs i (suc n) = ap (λ ws. get_or vs i no_value ∷ ws) (shifted v vs (suc i) n)

whole_values : (vs : List Value) → picked vs (all_slots 0 (length vs)) ≡ vs
whole_values [] = refl
whole_values (v ∷ vs) = ap (λ ws. v ∷ ws) (shifted v vs 0 (length vs) ∙ whole_values vs)

fit_long : (fields : List Field) (vs : List Value) → AreFit fields vs → length fields ≡ length vs
fit_long [] [] fit = refl
fit_long [] (v ∷ vs) fit = absurd fit
fit_long (f ∷ fields) [] fit = absurd fit
fit_long (f ∷ fields) (v ∷ vs) fit = ap suc (fit_long fields vs fit.1)

below_is : (i n : ℕ) → nat_lt i n ≡ true → i < n
below_is i n is = ltb-true i n is

module _ {M : Type 0} (rule : M → Rule) (arranged : M → Arrangement) (fields : List Field)
    (is : (m : M) → IsArranged (rule m) (arranged m)) where
  -- what is known of children is true
  abbrev pub IsSound : Tree M → Below → Type 0
  IsSound t k = (x : View) (ch : Choice) → k.of x ≡ Some ch → AreStored rule t x ch

  abbrev pub AreSound : Kids M → List Below → Type 0
  AreSound no_kids [] = Unit {0}
  AreSound (kid t ks) (k ∷ bs) = IsSound t k × AreSound ks bs
  AreSound _ _ = ⊥

  column_sound : (ks : Kids M) (bs : List Below) (groups : List (List Tested)) (slots : List Slot)
      (fss : List (List Fragment)) → AreSound ks bs → column_fragments bs groups slots ≡ Some fss
      → ColumnsStored rule ks groups slots fss
  column_sound no_kids [] groups [] fss s found =
      subst (ColumnsStored rule no_kids groups []) (same_Some _ _ found) tt
  column_sound no_kids [] groups (slot ∷ slots) fss s found = none_is None fss (λ h. h) found
  column_sound no_kids (k ∷ bs) groups slots fss s found = absurd s
  column_sound (kid t ks) [] groups slots fss s found = absurd s
  column_sound (kid t ks) (k ∷ bs) groups [] fss s found = none_is None fss (λ h. h) found
  column_sound (kid t ks) (k ∷ bs) groups (slot ∷ slots) fss s found =
      let p = from_both (λ (fs : List Fragment) (fss : List (List Fragment)). fs ∷ fss)
      (only_fragments (k.of (flat (slot ∷ []) groups)))
      (column_fragments bs groups slots) fss found in
      subst (ColumnsStored rule (kid t ks) groups (slot ∷ slots)) p.4 (
        s.0 (flat (slot ∷ []) groups) (Only p.0)
            (from_only (k.of (flat (slot ∷ []) groups)) p.0 p.2),
        column_sound ks bs groups slots p.1 s.1 p.3,
      )

  choices_sound : (ks : Kids M) (bs : List Below) (x : View) (cs : Choices) → AreSound ks bs
      → kid_choices bs x ≡ Some cs → ChoicesStored rule ks x cs
  choices_sound no_kids [] x cs s found = subst (ChoicesStored rule no_kids x) (same_Some _ _ found) tt
  choices_sound no_kids (k ∷ bs) x cs s found = absurd s
  choices_sound (kid t ks) [] x cs s found = absurd s
  choices_sound (kid t ks) (k ∷ bs) x cs s found =
      let p = from_both choice (k.of x) (kid_choices bs x) cs found in
      subst (ChoicesStored rule (kid t ks) x) p.4
      (s.0 x p.0 p.2, choices_sound ks bs x p.1 s.1 p.3)

  -- a view without layers `actual` above
  at_flat : (t : Tree M) (x : View) (ch : Choice) → x.wraps ≡ 0
      → AreStored rule t (flat x.slots x.groups) ch → AreStored rule t x ch
  at_flat t x ch zero_is s =
      subst (λ n. AreStored rule t (record { wraps = n; slots = x.slots; groups = x.groups }) ch)
      (sym zero_is) s

  chooser_sound : (at : Where) (x : View) (chooser : Chooser) → chooser_of at x ≡ Some chooser
      → IsChooser x at chooser
  chooser_sound (Key i) x chooser found =
      subst (IsChooser x (Key i)) (same_Some _ _ found) (key_chooser x i)
  chooser_sound (Rest i) x chooser found =
      let at_zero = from_flat x.wraps (if nat_lt i (length x.slots)
      then Some (OfData (slice_index_or x.slots i no_slot)) else None) chooser found in
      let below = from_if (nat_lt i (length x.slots))
      (Some (OfData (slice_index_or x.slots i no_slot))) chooser at_zero.1 in
      subst (IsChooser x (Rest i)) (same_Some _ _ below.1)
      (subst (λ n. IsChooser (record { wraps = n; slots = x.slots; groups = x.groups }) (Rest i)
      (OfData (slice_index_or x.slots i no_slot))) (sym at_zero.0)
      (data_chooser x.slots x.groups i no_slot (below_is i (length x.slots) below.0)))

  -- a first child of which a leaf is known is that leaf
  abbrev pub IsFirstKnown : Kids M → List Below → Type 0
  IsFirstKnown (kid t ks) (k ∷ bs) =
      (n : ℕ) → k.leaf ≡ Some n → (form : Form) × (t ≡ leaf n form)
  IsFirstKnown _ _ = Unit {0}

  row_sound : (m : M) (a : Arrangement) (ks : Kids M) (bs : List Below) (x : View) (ch : Choice)
      → IsArranged (rule m) a → AreSound ks bs
      → IsFirstKnown ks bs
      → access_row fields a (rule m).form.fields bs x ≡ Some ch → AreStored rule (layer m ks) x ch
  row_sound m (ByValue at bounds) ks bs x ch row s leaves found =
      let p = from_both (λ (chooser : Chooser) (cs : Choices). By chooser bounds cs)
      (chooser_of at x) (kid_choices bs x) ch found in
      subst (AreStored rule (layer m ks) x) p.4
      (stored_by_value rule m ks x at bounds p.0 p.1 row (chooser_sound at x p.0 p.2)
      (choices_sound ks bs x p.1 s p.3))
  row_sound m Columns ks bs x ch row s leaves found =
      let at_zero = from_flat x.wraps (option_map (λ (fss : List (List Fragment)).
      Only (flat_map (λ fs. fs) fss)) (column_fragments bs x.groups x.slots)) ch found in
      let p = from_map (λ (fss : List (List Fragment)). Only (flat_map (λ fs. fs) fss))
      (column_fragments bs x.groups x.slots) ch at_zero.1 in
      subst (AreStored rule (layer m ks) x) p.2
      (at_flat (layer m ks) x (Only (flat_map (λ fs. fs) p.0)) at_zero.0
      (stored_columns rule m ks x.slots x.groups p.0 row
      (column_sound ks bs x.groups x.slots p.0 s p.1)))
  row_sound m Other ks bs x ch row s leaves found = none_is None ch (λ h. h) found
  row_sound m Same no_kids [] x ch row s leaves found = none_is None ch (λ h. h) found
  row_sound m Same no_kids (k ∷ bs) x ch row s leaves found = absurd s
  row_sound m Same (kid t ks) [] x ch row s leaves found = absurd s
  row_sound m Same (kid t ks) (k ∷ bs) x ch row s leaves found =
      stored_same rule m t ks x ch row (s.0 x ch found)
  row_sound m Body no_kids [] x ch row s leaves found =
      none_is None ch (λ h. h) (from_then (room_below x) (first_of []) ch found).2
  row_sound m Body no_kids (k ∷ bs) x ch row s leaves found = absurd s
  row_sound m Body (kid t ks) [] x ch row s leaves found = absurd s
  row_sound m Body (kid t ks) (k ∷ bs) x ch row s leaves found =
      let p = from_then (room_below x) (first_of (k ∷ bs)) ch found in
      stored_body rule m t ks x ch row
      (subst (λ y. AreStored rule t y ch) (sym (from_room x p.0 p.1)) (s.0 p.0 ch p.2))
  row_sound m (Coded i c) no_kids [] x ch row s leaves found =
      none_is None ch (λ h. h) (from_then (coded_view i c x) (first_of []) ch found).2
  row_sound m (Coded i c) no_kids (k ∷ bs) x ch row s leaves found = absurd s
  row_sound m (Coded i c) (kid t ks) [] x ch row s leaves found = absurd s
  row_sound m (Coded i c) (kid t ks) (k ∷ bs) x ch row s leaves found =
      let p = from_then (coded_view i c x) (first_of (k ∷ bs)) ch found in
      let below = from_coded i c x p.0 p.1 in
      at_flat (layer m (kid t ks)) x ch below.0
      (stored_coded rule m t ks x.slots x.groups i c ch row below.1
      (subst (λ y. AreStored rule t y ch) (sym below.2) (s.0 p.0 ch p.2)))
  row_sound m (Groups mask) no_kids [] x ch row s leaves found = none_is None ch (λ h. h) found
  row_sound m (Groups mask) no_kids (k ∷ bs) x ch row s leaves found = absurd s
  row_sound m (Groups mask) (kid t ks) [] x ch row s leaves found = absurd s
  row_sound m (Groups mask) (kid t no_kids) (k ∷ []) x ch row s leaves found =
      none_is None ch (λ h. h) found
  row_sound m (Groups mask) (kid t no_kids) (k ∷ l ∷ bs) x ch row s leaves found = absurd s.1
  row_sound m (Groups mask) (kid t (kid u ks)) (k ∷ []) x ch row s leaves found = absurd s.1
  row_sound m (Groups mask) (kid t (kid u ks)) (k ∷ l ∷ bs) x ch row s leaves found =
      let q = from_then (group_views mask (rule m).form.fields x)
      (λ (p : View × View). joined (k.of p.0) (l.of p.1)) ch found in
      let views = from_groups mask (rule m).form.fields x q.0 q.1 in
      let p = from_both (λ (fs : List Fragment) (gs : List Fragment). Only (fs ++ gs))
      (only_fragments (k.of q.0.0)) (only_fragments (l.of q.0.1)) ch q.2 in
      subst (AreStored rule (layer m (kid t (kid u ks))) x) p.4
      (at_flat (layer m (kid t (kid u ks))) x (Only (p.0 ++ p.1)) views.0
      (stored_groups rule m t u ks x.slots x.groups mask p.0 p.1 row
      (subst (λ y. AreStored rule t y (Only p.0)) (sym views.1)
      (s.0 q.0.0 (Only p.0) (from_only (k.of q.0.0) p.0 p.2)))
      (subst (λ y. AreStored rule u y (Only p.1)) (sym views.2)
      (s.1.0 q.0.1 (Only p.1) (from_only (l.of q.0.1) p.1 p.3)))))
  row_sound m (Cut size) no_kids [] x ch row s leaves found = none_is None ch (λ h. h) found
  row_sound m (Cut size) no_kids (k ∷ bs) x ch row s leaves found = absurd s
  row_sound m (Cut size) (kid t ks) [] x ch row s leaves found = absurd s
  row_sound m (Cut size) (kid t ks) (k ∷ bs) x ch row s leaves found =
      let p = from_map (λ (n : ℕ).
      Only (fragment_of fields n (Some size) x ∷ [])) k.leaf ch found in
      let l = leaves p.0 p.1 in
      subst (λ u. AreStored rule (layer m (kid u ks)) x ch) (sym l.1)
      (subst (AreStored rule (layer m (kid (leaf p.0 l.0) ks)) x) p.2
      (stored_cut rule fields m p.0 l.0 ks x size row))

  -- a child of which a leaf is known is that leaf
  known_leaf : (n : ℕ) (t : Tree M) → (access_below rule arranged fields t).leaf ≡ Some n
      → (form : Form) × (t ≡ leaf n form)
  known_leaf n (leaf m form) found = (form, ap (λ i. leaf i form) (same_Some _ _ found))
  known_leaf n (layer m ks) found = none_is None n (λ h. h) found

  first_known : (ks : Kids M) → IsFirstKnown ks (kids_below rule arranged fields ks)
  first_known no_kids = tt
  first_known (kid t ks) = λ n found. known_leaf n t found

  mutual
    pub tree_sound : (t : Tree M) → IsSound t (access_below rule arranged fields t)
    tree_sound (leaf n form) x ch found =
        subst (AreStored rule (leaf n form) x) (same_Some _ _ found) (stored_leaf rule fields n form x)
    tree_sound (layer m ks) x ch found =
        row_sound m (arranged m) ks (kids_below rule arranged fields ks) x ch (is m) (kids_sound ks)
        (first_known ks) found

    kids_sound : (ks : Kids M) → AreSound ks (kids_below rule arranged fields ks)
    kids_sound no_kids = tt
    kids_sound (kid t ks) = (tree_sound t, kids_sound ks)

module _ {M : Type 0} (rule : M → Rule) (arranged : M → Arrangement)
    (is : (m : M) → IsArranged (rule m) (arranged m)) where
  -- the data entries of a record are those of its fragments
  pub data_is : (t : Tree M) (ch : Choice) (r : Rec) → access_of rule arranged t ≡ Some ch
      → IsOf (tree_form rule t) r → data_entries rule t r ≡ fragments_entries (fragments_of ch r) r
  data_is t ch r found of =
      let fields = (tree_form rule t).fields in
      ap (λ (vs : List Value). data_entries rule t (record { key = r.key; fields = vs }))
      (sym (ap (λ n. picked r.fields (all_slots 0 n)) (fit_long fields r.fields of.fields)
      ∙ whole_values r.fields))
      ∙ (tree_sound rule arranged fields is t (whole_view (length fields)) ch found r).here refl

  -- the access that a tree is found to have is one
  pub access_is : (t : Tree M) (ch : Choice) → IsValid rule t
      → access_of rule arranged t ≡ Some ch → IsAccess rule t ch
  access_is t ch valid found = record {
    holds = λ r e of h. data_entry rule t r e (subst (In e) (sym (data_is t ch r found of)) h);
    only = λ r e of h there.
        subst (In e) (data_is t ch r found of) (entry_data rule t r e valid h there);
  }
