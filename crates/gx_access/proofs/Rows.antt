-- One lemma for each row: how the records of a layer are stored, by its children.
use Rattle.std.proofs.Common.{◌≡◌, ℕ, zero, suc, List, [], ◌∷◌, ◌++◌, refl, sym, ap, ◌∙◌, append-nil, Bool, true, false, not, ◌&&◌, ◌||◌, map, get_or, length, ◌<◌, arith, if◌then◌else◌, Option, Some, None}
use Rattle.std.specs.List.{flat_map}
use Rattle.std.specs.Prelude.{slice_index_or}
use Rattle.std.proofs.lemmas.Grind.{flat_map-append}
use Rattle.std.proofs.lemmas.Bool.{true≢false}
use Rattle.gx_values.specs.declared.values.Code.{Code}
use Rattle.gx_values.specs.declared.values.Value.{Value}
use Rattle.gx_values.specs.declared.records.Field.{Field}
use Rattle.gx_values.specs.declared.records.Form.{Form}
use Rattle.gx_values.specs.declared.records.Rec.{Rec}
use Rattle.gx_values.specs.Values.{is_default, no_value}
use Rattle.gx_mapping.specs.declared.parts.Part.{Part}
use Rattle.gx_mapping.specs.Rule.{Rule, data_parts}
use Rattle.gx_encode.specs.Forms.{changed}
use Rattle.gx_encode.specs.Rules.{coded}
use Rattle.gx_split.specs.Groups.{chosen, are_default}
use Rattle.gx_split.specs.TransposeRules.{columns}
use Rattle.gx_partition.specs.declared.place.Where.{Where}
use Rattle.gx_partition.specs.declared.place.Where.TheVariants.{Key, Rest}
use Rattle.gx_partition.specs.Places.{value_at}
use Rattle.gx_partition.specs.Bounds.{child_of}
use Rattle.gx_divide.specs.Pieces.{pieces}
use Rattle.gx_divide.specs.Rules.{bytes_in, numbered, piece_part}
use Rattle.gx_stack.specs.declared.entries.LeafEntry.{LeafEntry}
use Rattle.gx_stack.specs.Tree.{Tree, Kids, leaf, layer, no_kids, kid, entry_in}
use Rattle.std.specs.Prelude.{is_none}
use Rattle.gx_codec.specs.Stored.{stored_value, wrapped}
use Rattle.gx_codec.specs.Slots.{pick}
use Rattle.gx_access.specs.declared.arrangement.Arrangement.TheVariants.{Same, ByValue, Body, Coded, Groups, Columns, Cut}
use Rattle.gx_access.specs.Arrangements.{IsArranged}
use Rattle.gx_codec.specs.declared.slots.Slot.{Slot}
use Rattle.gx_access.specs.declared.access.Tested.{Tested}
use Rattle.gx_access.specs.declared.access.View.{View}
use Rattle.gx_access.specs.declared.access.Fragment.{Fragment}
use Rattle.gx_access.specs.declared.access.Chooser.{Chooser}
use Rattle.gx_access.specs.declared.access.Chooser.TheVariants.{OfKey, OfData}
use Rattle.gx_access.specs.Access.{Choice, Choices, Only, By, no_choices, choice, picked, seen, all_default, is_absent, tested, fragment_entries, fragment_of, fragments_entries, chooser_value, fragments_at, data_entries, kid_data, flat, below_actual, code_slot, is_free, others_group}
use Rattle.gx_access.proofs.Stored.{IsStored, AreStored, ColumnsStored, ChoicesStored, IsChooser}

-- a test that is known chooses
if_true : {A : Type 0} (b : Bool) (x y : A) → b ≡ true → (if b then x else y) ≡ x
if_true b x y is = ap (λ c. if c then x else y) is

if_false : {A : Type 0} (b : Bool) (x y : A) → b ≡ false → (if b then x else y) ≡ y
if_false b x y is = ap (λ c. if c then x else y) is

or_right : (a b : Bool) → b ≡ true → (a || b) ≡ true
or_right true b is = refl
or_right false b is = is

-- ---- lists of values

chosen_map : {A B : Type 0} (f : A → B) (mask : List Bool) (xs : List A)
    → chosen mask (map f xs) ≡ map f (chosen mask xs)
chosen_map f [] xs = refl
chosen_map f (b ∷ mask) [] = refl
chosen_map f (true ∷ mask) (x ∷ xs) = ap (λ ys. f x ∷ ys) (chosen_map f mask xs)
chosen_map f (false ∷ mask) (x ∷ xs) = chosen_map f mask xs

-- a test of the values is one of the slots
tested_default : (vs : List Value) (fields : List Field) (slots : List Slot)
    → are_default fields (picked vs slots) ≡ all_default (tested fields slots) vs
tested_default vs [] slots = refl
tested_default vs (f ∷ fields) [] = refl
tested_default vs (f ∷ fields) (s ∷ slots) =
    ap (λ b. is_default f (pick vs s) && b) (tested_default vs fields slots)

tested_none : (fields : List Field) → tested fields [] ≡ []
tested_none [] = refl
tested_none (f ∷ fields) = refl

-- the marked fields with their slots
chosen_tested : (mask : List Bool) (fields : List Field) (slots : List Slot)
    → chosen mask (tested fields slots) ≡ tested (chosen mask fields) (chosen mask slots)
chosen_tested [] fields slots = refl
chosen_tested (b ∷ mask) [] slots = refl
chosen_tested (b ∷ mask) (f ∷ fields) [] = sym (tested_none (chosen (b ∷ mask) (f ∷ fields)))
chosen_tested (true ∷ mask) (f ∷ fields) (s ∷ slots) =
    ap (λ (g : List Tested). record { slot = s; field = f } ∷ g) (chosen_tested mask fields slots)
chosen_tested (false ∷ mask) (f ∷ fields) (s ∷ slots) = chosen_tested mask fields slots

plain_value : (c : Option Code) (v : Value) → is_none c ≡ true → stored_value c v ≡ v
plain_value None v is = refl
plain_value (Some c) v is = absurd (true≢false (sym is))

-- one value by its code is one slot with the code
changed_picked : (i : ℕ) (c : Code) (vs : List Value) (slots : List Slot) → is_free i slots ≡ true
    → changed i (coded c) (picked vs slots) ≡ picked vs (changed i (code_slot c) slots)
changed_picked i c vs [] is = refl
changed_picked zero c vs (s ∷ slots) is =
    ap (λ v. coded c v ∷ picked vs slots) (plain_value s.code (get_or vs s.number no_value) is)
changed_picked (suc i) c vs (s ∷ slots) is =
    ap (λ ys. pick vs s ∷ ys) (changed_picked i c vs slots is)

pub wrapped_key : (n : ℕ) (r : Rec) → (wrapped n r).key ≡ r.key
wrapped_key zero r = refl
wrapped_key (suc n) r = wrapped_key n r

picked_at : (vs : List Value) (slots : List Slot) (i : ℕ) (d : Slot) → i < length slots
    → slice_index_or (picked vs slots) i no_value ≡ pick vs (slice_index_or slots i d)
picked_at vs [] i d below = absurd (omega arith)
picked_at vs (s ∷ slots) zero d below = refl
picked_at vs (s ∷ slots) (suc i) d below = picked_at vs slots i d (omega arith)

pub key_chooser : (x : View) (i : ℕ) → IsChooser x (Key i) (OfKey i)
key_chooser x i r =
    ap (λ k. slice_index_or k i no_value)
    (wrapped_key x.wraps (record { key = r.key; fields = picked r.fields x.slots }))

pub data_chooser : (slots : List Slot) (groups : List (List Tested)) (i : ℕ) (d : Slot)
    → i < length slots
    → IsChooser (flat slots groups) (Rest i) (OfData (slice_index_or slots i d))
data_chooser slots groups i d below r = picked_at r.fields slots i d below

module _ {M : Type 0} (rule : M → Rule) where
  -- ---- a leaf

  pub stored_leaf : (fields : List Field) (n : ℕ) (form : Form) (x : View)
      → AreStored rule (leaf n form) x (Only (fragment_of fields n None x ∷ []))
  stored_leaf fields n form x r = record {
    here = λ there. sym (append-nil (if is_absent x.groups r.fields then [] else entry_in n (seen x r) ∷ [])
        ∙ if_false (is_absent x.groups r.fields) [] (entry_in n (seen x r) ∷ []) there);
    absent = λ gone. append-nil (if is_absent x.groups r.fields then [] else entry_in n (seen x r) ∷ [])
        ∙ if_true (is_absent x.groups r.fields) [] (entry_in n (seen x r) ∷ []) gone;
  }

  -- ---- each record as one part for child 0

  -- the part for child 0 is what the child has of the record
  stored_one : (m : M) (t : Tree M) (ks : Kids M) (x y : View) (ch : Choice) (r : Rec)
      → data_parts (rule m) (seen x r) ≡ record { child = 0; rec = seen y r } ∷ []
      → y.groups ≡ x.groups → IsStored rule t y ch r → IsStored rule (layer m (kid t ks)) x ch r
  stored_one m t ks x y ch r parts same s = record {
    here = λ there.
        ap (flat_map (λ (p : Part). kid_data rule (kid t ks) p.child p.rec)) parts
        ∙ append-nil (data_entries rule t (seen y r))
        ∙ s.here (ap (λ g. is_absent g r.fields) same ∙ there);
    absent = λ gone. s.absent (ap (λ g. is_absent g r.fields) same ∙ gone);
  }

  pub stored_same : (m : M) (t : Tree M) (ks : Kids M) (x : View) (ch : Choice)
      → IsArranged (rule m) Same → AreStored rule t x ch → AreStored rule (layer m (kid t ks)) x ch
  stored_same m t ks x ch is s r = stored_one m t ks x x ch r (is (seen x r)) refl (s r)

  pub stored_body : (m : M) (t : Tree M) (ks : Kids M) (x : View) (ch : Choice)
      → IsArranged (rule m) Body → AreStored rule t (below_actual x) ch
      → AreStored rule (layer m (kid t ks)) x ch
  stored_body m t ks x ch is s r =
      stored_one m t ks x (below_actual x) ch r (is (seen x r)) refl (s r)

  pub stored_coded : (m : M) (t : Tree M) (ks : Kids M) (slots : List Slot)
      (groups : List (List Tested)) (i : ℕ) (c : Code) (ch : Choice)
      → IsArranged (rule m) (Coded i c) → is_free i slots ≡ true
      → AreStored rule t (flat (changed i (code_slot c) slots) groups) ch
      → AreStored rule (layer m (kid t ks)) (flat slots groups) ch
  stored_coded m t ks slots groups i c ch is free s r =
      stored_one m t ks (flat slots groups) (flat (changed i (code_slot c) slots) groups) ch r
      (is (seen (flat slots groups) r) ∙ (λ j. record {
        child = 0;
        rec = record { key = r.key; fields = changed_picked i c r.fields slots free j };
      } ∷ [])) refl (s r)

  -- ---- two groups

  -- the second part, where there is one
  second : (t u : Tree M) (ks : Kids M) (q : Rec) (b : Bool) (es : List LeafEntry)
      → (b ≡ true → es ≡ []) → (b ≡ false → data_entries rule u q ≡ es)
      → flat_map (λ (p : Part). kid_data rule (kid t (kid u ks)) p.child p.rec)
      (if b then [] else record { child = 1; rec = q } ∷ []) ≡ es
  second t u ks q true es none some = sym (none refl)
  second t u ks q false es none some = append-nil (data_entries rule u q) ∙ some refl

  pub stored_groups : (m : M) (t u : Tree M) (ks : Kids M) (slots : List Slot)
      (groups : List (List Tested)) (mask : List Bool) (fs gs : List Fragment)
      → IsArranged (rule m) (Groups mask)
      → AreStored rule t (flat (chosen mask slots) groups) (Only fs)
      → AreStored rule u (flat (chosen (map not mask) slots)
      (others_group (map not mask) (rule m).form.fields slots ∷ groups)) (Only gs)
      → AreStored rule (layer m (kid t (kid u ks))) (flat slots groups) (Only (fs ++ gs))
  stored_groups m t u ks slots groups mask fs gs is first others r =
      let vs = r.fields in
      let inverse = map not mask in
      let x = flat slots groups in
      let g = others_group inverse (rule m).form.fields slots in
      let q : Rec = record { key = r.key; fields = picked vs (chosen inverse slots) } in
      let short : are_default (chosen inverse (rule m).form.fields) (chosen inverse (picked vs slots))
      ≡ all_default g vs =
      ap (are_default (chosen inverse (rule m).form.fields)) (chosen_map (pick vs) inverse slots)
      ∙ tested_default vs (chosen inverse (rule m).form.fields) (chosen inverse slots)
      ∙ ap (λ (group : List Tested). all_default group vs)
      (sym (chosen_tested inverse (rule m).form.fields slots)) in
      let parts : data_parts (rule m) (seen x r)
      ≡ record { child = 0; rec = record { key = r.key; fields = picked vs (chosen mask slots) } }
      ∷ (if all_default g vs then [] else record { child = 1; rec = q } ∷ []) =
      is (seen x r) ∙ (λ j. record {
        child = 0;
        rec = record { key = r.key; fields = chosen_map (pick vs) mask slots j };
      } ∷ (if short j then [] else record {
        child = 1;
        rec = record { key = r.key; fields = chosen_map (pick vs) inverse slots j };
      } ∷ [])) in
      record {
        here = λ there.
            ap (flat_map (λ (p : Part). kid_data rule (kid t (kid u ks)) p.child p.rec)) parts
            ∙ (λ j. (first r).here there j
            ++ second t u ks q (all_default g vs) (fragments_entries gs r)
            (λ all. (others r).absent (ap (λ b. b || is_absent groups vs) all))
            (λ some. (others r).here (ap (λ b. b || is_absent groups vs) some ∙ there)) j)
            ∙ sym (flat_map-append (fragment_entries r) fs gs);
        absent = λ gone.
            flat_map-append (fragment_entries r) fs gs
            ∙ (λ j. (first r).absent gone j
            ++ (others r).absent (or_right (all_default g vs) (is_absent groups vs) gone) j);
      }

  -- ---- columns

  -- the parts from the second child on are those of the children behind the first
  behind_first : (t : Tree M) (ks : Kids M) (key : List Value) (i : ℕ) (vs : List Value)
      → flat_map (λ (p : Part). kid_data rule (kid t ks) p.child p.rec) (columns key (suc i) vs)
      ≡ flat_map (λ (p : Part). kid_data rule ks p.child p.rec) (columns key i vs)
  behind_first t ks key i [] = refl
  behind_first t ks key i (v ∷ vs) =
      ap (λ es. kid_data rule ks i (record { key = key; fields = v ∷ [] }) ++ es)
      (behind_first t ks key (suc i) vs)

  columns_here : (ks : Kids M) (groups : List (List Tested)) (slots : List Slot)
      (fss : List (List Fragment)) (r : Rec) → ColumnsStored rule ks groups slots fss
      → is_absent groups r.fields ≡ false
      → flat_map (λ (p : Part). kid_data rule ks p.child p.rec) (columns r.key 0 (picked r.fields slots))
      ≡ fragments_entries (flat_map (λ fs. fs) fss) r
  columns_here no_kids groups [] [] r s there = refl
  columns_here no_kids groups [] (fs ∷ fss) r s there = absurd s
  columns_here no_kids groups (slot ∷ slots) fss r s there = absurd s
  columns_here (kid t ks) groups [] fss r s there = absurd s
  columns_here (kid t ks) groups (slot ∷ slots) [] r s there = absurd s
  columns_here (kid t ks) groups (slot ∷ slots) (fs ∷ fss) r s there =
      (λ j. (s.0 r).here there j
      ++ (behind_first t ks r.key 0 (picked r.fields slots)
      ∙ columns_here ks groups slots fss r s.1 there) j)
      ∙ sym (flat_map-append (fragment_entries r) fs (flat_map (λ fs. fs) fss))

  columns_absent : (ks : Kids M) (groups : List (List Tested)) (slots : List Slot)
      (fss : List (List Fragment)) (r : Rec) → ColumnsStored rule ks groups slots fss
      → is_absent groups r.fields ≡ true
      → fragments_entries (flat_map (λ fs. fs) fss) r ≡ []
  columns_absent no_kids groups [] [] r s gone = refl
  columns_absent no_kids groups [] (fs ∷ fss) r s gone = absurd s
  columns_absent no_kids groups (slot ∷ slots) fss r s gone = absurd s
  columns_absent (kid t ks) groups [] fss r s gone = absurd s
  columns_absent (kid t ks) groups (slot ∷ slots) [] r s gone = absurd s
  columns_absent (kid t ks) groups (slot ∷ slots) (fs ∷ fss) r s gone =
      flat_map-append (fragment_entries r) fs (flat_map (λ fs. fs) fss)
      ∙ (λ j. (s.0 r).absent gone j ++ columns_absent ks groups slots fss r s.1 gone j)

  pub stored_columns : (m : M) (ks : Kids M) (slots : List Slot) (groups : List (List Tested))
      (fss : List (List Fragment)) → IsArranged (rule m) Columns
      → ColumnsStored rule ks groups slots fss
      → AreStored rule (layer m ks) (flat slots groups) (Only (flat_map (λ fs. fs) fss))
  stored_columns m ks slots groups fss is s r = record {
    here = λ there.
        ap (flat_map (λ (p : Part). kid_data rule ks p.child p.rec)) (is (seen (flat slots groups) r))
        ∙ columns_here ks groups slots fss r s there;
    absent = λ gone. columns_absent ks groups slots fss r s gone;
  }

  -- ---- pieces

  cut_entries : (n : ℕ) (form : Form) (ks : Kids M) (key : List Value) (j : ℕ)
      (ps : List (List ℕ))
      → flat_map (λ (p : Part). kid_data rule (kid (leaf n form) ks) p.child p.rec) (numbered key j ps)
      ≡ map (λ (p : Part). entry_in n p.rec) (numbered key j ps)
  cut_entries n form ks key j [] = refl
  cut_entries n form ks key j (p ∷ ps) =
      ap (λ es. entry_in n (piece_part key j p).rec ∷ es) (cut_entries n form ks key (suc j) ps)

  pub stored_cut : (fields : List Field) (m : M) (n : ℕ) (form : Form) (ks : Kids M) (x : View) (size : ℕ)
      → IsArranged (rule m) (Cut size)
      → AreStored rule (layer m (kid (leaf n form) ks)) x
      (Only (fragment_of fields n (Some size) x ∷ []))
  stored_cut fields m n form ks x size is r =
      let q = seen x r in
      let es = map (λ (p : Part). entry_in n p.rec) (numbered q.key 0 (pieces size (bytes_in q.fields))) in
      record {
        here = λ there.
            ap (flat_map (λ (p : Part). kid_data rule (kid (leaf n form) ks) p.child p.rec)) (is q)
            ∙ cut_entries n form ks q.key 0 (pieces size (bytes_in q.fields))
            ∙ sym (append-nil (if is_absent x.groups r.fields then [] else es)
            ∙ if_false (is_absent x.groups r.fields) [] es there);
        absent = λ gone. append-nil (if is_absent x.groups r.fields then [] else es)
            ∙ if_true (is_absent x.groups r.fields) [] es gone;
      }

  -- ---- a choice by value

  choice_here : (ks : Kids M) (x : View) (cs : Choices) (r : Rec) (c : ℕ)
      → ChoicesStored rule ks x cs → is_absent x.groups r.fields ≡ false
      → kid_data rule ks c (seen x r) ≡ fragments_entries (fragments_at cs c r) r
  choice_here no_kids x no_choices r c s there = refl
  choice_here no_kids x (choice ch cs) r c s there = absurd s
  choice_here (kid t ks) x no_choices r c s there = absurd s
  choice_here (kid t ks) x (choice ch cs) r zero s there = (s.0 r).here there
  choice_here (kid t ks) x (choice ch cs) r (suc c) s there = choice_here ks x cs r c s.1 there

  choice_absent : (ks : Kids M) (x : View) (cs : Choices) (r : Rec) (c : ℕ)
      → ChoicesStored rule ks x cs → is_absent x.groups r.fields ≡ true
      → fragments_entries (fragments_at cs c r) r ≡ []
  choice_absent no_kids x no_choices r c s gone = refl
  choice_absent no_kids x (choice ch cs) r c s gone = absurd s
  choice_absent (kid t ks) x no_choices r c s gone = absurd s
  choice_absent (kid t ks) x (choice ch cs) r zero s gone = (s.0 r).absent gone
  choice_absent (kid t ks) x (choice ch cs) r (suc c) s gone = choice_absent ks x cs r c s.1 gone

  pub stored_by_value : (m : M) (ks : Kids M) (x : View) (at : Where) (bounds : List Value)
      (chooser : Chooser) (cs : Choices) → IsArranged (rule m) (ByValue at bounds)
      → IsChooser x at chooser → ChoicesStored rule ks x cs
      → AreStored rule (layer m ks) x (By chooser bounds cs)
  stored_by_value m ks x at bounds chooser cs is value s r = record {
    here = λ there.
        ap (flat_map (λ (p : Part). kid_data rule ks p.child p.rec)) (is (seen x r))
        ∙ append-nil (kid_data rule ks (child_of bounds (value_at at (seen x r))) (seen x r))
        ∙ ap (λ v. kid_data rule ks (child_of bounds v) (seen x r)) (value r)
        ∙ choice_here ks x cs r (child_of bounds (chooser_value chooser r)) s there;
    absent = λ gone. choice_absent ks x cs r (child_of bounds (chooser_value chooser r)) s gone;
  }
