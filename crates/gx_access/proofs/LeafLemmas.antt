-- The fragments' leaves are the data leaves of the tree, each at its place; and a record has no more
-- data entries than entries.
use Rattle.std.proofs.Common.{◌≡◌, ℕ, zero, suc, List, [], ◌∷◌, ◌++◌, refl, sym, ap, ◌∙◌, subst, Bool, true, false, if◌then◌else◌, length, length-append, append-nil, arith, ◌≤◌, ◌<◌, Some, None, nat_eq, nat_lt}
use Rattle.std.specs.List.{flat_map, filter}
use Rattle.std.specs.Option.{option_map}
use Rattle.std.proofs.lemmas.List.{map-append}
use Rattle.std.proofs.lemmas.Option.{same_Some}
use Rattle.std.proofs.lemmas.Bool.{le-ltb}
use Rattle.std.proofs.Math.Dec.{eqb-suc-zero}
use Rattle.gx_values.specs.declared.records.Field.{Field}
use Rattle.gx_values.specs.declared.records.Form.{Form}
use Rattle.gx_values.specs.declared.records.Rec.{Rec}
use Rattle.gx_mapping.specs.declared.parts.Part.{Part}
use Rattle.gx_mapping.specs.Rule.{Rule}
use Rattle.gx_stack.specs.Tree.{Tree, Kids, leaf, layer, no_kids, kid, kid_count, entries_of, kid_entries, tree_form, IsValid, AreValid}
use Rattle.gx_access.specs.declared.arrangement.Arrangement.{Arrangement}
use Rattle.gx_access.specs.declared.arrangement.Arrangement.TheVariants.{Same, ByValue, Body, Coded, Groups, Columns, Cut, Other}
use Rattle.gx_access.specs.Arrangements.{HasDataChildren, is_data_child}
use Rattle.gx_codec.specs.declared.slots.Slot.{Slot}
use Rattle.gx_access.specs.declared.access.Tested.{Tested}
use Rattle.gx_access.specs.declared.access.View.{View}
use Rattle.gx_access.specs.declared.access.Fragment.{Fragment}
use Rattle.gx_access.specs.declared.access.Chooser.{Chooser}
use Rattle.gx_access.specs.Access.{Choice, Choices, Only, By, choice, data_entries, kid_data, fragment_of, whole_view, flat}
use Rattle.gx_access.specs.Views.{room_below, coded_view, group_views, chooser_of}
use Rattle.gx_access.specs.Whole.{Below, only_fragments, joined, first_of, column_fragments, kid_choices, access_row, access_below, kids_below, access_of, data_leaves, kids_data_leaves}
use Rattle.gx_access.specs.Leaves.{fragment_leaves, choice_leaves, choices_leaves}
use Rattle.gx_access.proofs.Induction.{none_is, from_flat, from_both, from_then, from_map, from_only}

past : (c : ℕ) → nat_lt (suc (suc c)) 2 ≡ false
past c = le-ltb (suc (suc c)) 2 (omega arith)

module _ {M : Type 0} (rule : M → Rule) where
  -- ---- entries

  -- of a child's parts, where each part has no more data entries than entries
  fewer_parts : (ks : Kids M) (rest : ℕ → Bool)
      → ((c : ℕ) (r : Rec) → length (kid_data rule ks c r) ≤ length (kid_entries rule ks c r))
      → (ps : List Part)
      → length (flat_map (λ (p : Part). kid_data rule ks p.child p.rec)
      (filter (λ (p : Part). rest p.child) ps))
      ≤ length (flat_map (λ (p : Part). kid_entries rule ks p.child p.rec) ps)
  fewer_parts ks rest each [] = omega arith
  fewer_parts ks rest each (p ∷ ps) = go (rest p.child) (fewer_parts ks rest each ps)
    where
      go : (b : Bool) → length (flat_map (λ (p : Part). kid_data rule ks p.child p.rec)
          (filter (λ (p : Part). rest p.child) ps))
          ≤ length (flat_map (λ (p : Part). kid_entries rule ks p.child p.rec) ps) → length (flat_map (λ (p : Part). kid_data rule ks p.child p.rec)
          (if b then p ∷ filter (λ (p : Part). rest p.child) ps
          else filter (λ (p : Part). rest p.child) ps))
          ≤ length (flat_map (λ (p : Part). kid_entries rule ks p.child p.rec) (p ∷ ps))
      go true less = omega (
        arith,
        each p.child p.rec,
        less,
        length-append (kid_data rule ks p.child p.rec)
            (flat_map (λ (p : Part). kid_data rule ks p.child p.rec)
            (filter (λ (p : Part). rest p.child) ps)),
        length-append (kid_entries rule ks p.child p.rec)
            (flat_map (λ (p : Part). kid_entries rule ks p.child p.rec) ps),
      )
      go false less = omega (
        arith,
        less,
        length-append (kid_entries rule ks p.child p.rec)
            (flat_map (λ (p : Part). kid_entries rule ks p.child p.rec) ps),
      )

  mutual
    pub fewer_data : (t : Tree M) (r : Rec)
        → length (data_entries rule t r) ≤ length (entries_of rule t r)
    fewer_data (leaf n form) r = omega arith
    fewer_data (layer m ks) r =
        fewer_parts ks (rule m).holds_rest (fewer_kid ks) ((rule m).parts r)

    fewer_kid : (ks : Kids M) (c : ℕ) (r : Rec)
        → length (kid_data rule ks c r) ≤ length (kid_entries rule ks c r)
    fewer_kid no_kids c r = omega arith
    fewer_kid (kid t ks) zero r = fewer_data t r
    fewer_kid (kid t ks) (suc c) r = fewer_kid ks c r

  -- ---- leaves

  no_leaves : (rest : ℕ → Bool) (ks : Kids M) → ((c : ℕ) → c < kid_count ks → rest c ≡ false)
      → kids_data_leaves rule rest ks ≡ []
  no_leaves rest no_kids none = refl
  no_leaves rest (kid t ks) none =
      ap (λ b. (if b then data_leaves rule t else []) ++ kids_data_leaves rule (λ c. rest (suc c)) ks)
      (none 0 (omega arith))
      ∙ no_leaves (λ c. rest (suc c)) ks (λ c below. none (suc c) (omega (arith, below)))

  first_leaves : (rest : ℕ → Bool) (t : Tree M) (ks : Kids M) → rest 0 ≡ true
      → ((c : ℕ) → c < kid_count ks → rest (suc c) ≡ false)
      → data_leaves rule t ≡ kids_data_leaves rule rest (kid t ks)
  first_leaves rest t ks first none =
      sym ((λ j. (if first j then data_leaves rule t else [])
      ++ no_leaves (λ c. rest (suc c)) ks none j) ∙ append-nil (data_leaves rule t))

module _ {M : Type 0} (rule : M → Rule) (arranged : M → Arrangement) (fields : List Field)
    (holds : (m : M) → HasDataChildren (rule m) (arranged m)) where
  -- where a child is known to be stored, it is in its data leaves
  abbrev pub IsLeafed : Tree M → Below → Type 0
  IsLeafed t k = (x : View) (ch : Choice) → k.of x ≡ Some ch → choice_leaves ch ≡ data_leaves rule t

  abbrev pub AreLeafed : Kids M → List Below → Type 0
  AreLeafed no_kids [] = Unit {0}
  AreLeafed (kid t ks) (k ∷ bs) =
      ((n : ℕ) → k.leaf ≡ Some n → data_leaves rule t ≡ n ∷ []) × IsLeafed t k × AreLeafed ks bs
  AreLeafed _ _ = ⊥

  -- all children are data children
  abbrev pub AllHold : (ℕ → Bool) → Kids M → Type 0
  AllHold rest ks = (c : ℕ) → c < kid_count ks → rest c ≡ true

  column_leaves : (rest : ℕ → Bool) (ks : Kids M) (bs : List Below) (groups : List (List Tested))
      (slots : List Slot) (fss : List (List Fragment)) → AllHold rest ks → AreLeafed ks bs
      → column_fragments bs groups slots ≡ Some fss
      → fragment_leaves (flat_map (λ fs. fs) fss) ≡ kids_data_leaves rule rest ks
  column_leaves rest no_kids [] groups [] fss all s found =
      ap (λ (gs : List (List Fragment)). fragment_leaves (flat_map (λ fs. fs) gs))
      (sym (same_Some _ _ found))
  column_leaves rest no_kids [] groups (slot ∷ slots) fss all s found =
      none_is None fss (λ h. h) found
  column_leaves rest no_kids (k ∷ bs) groups slots fss all s found = absurd s
  column_leaves rest (kid t ks) [] groups slots fss all s found = absurd s
  column_leaves rest (kid t ks) (k ∷ bs) groups [] fss all s found = none_is None fss (λ h. h) found
  column_leaves rest (kid t ks) (k ∷ bs) groups (slot ∷ slots) fss all s found =
      let p = from_both (λ (fs : List Fragment) (fss : List (List Fragment)). fs ∷ fss)
      (only_fragments (k.of (flat (slot ∷ []) groups)))
      (column_fragments bs groups slots) fss found in
      ap (λ (gs : List (List Fragment)). fragment_leaves (flat_map (λ fs. fs) gs)) (sym p.4)
      ∙ map-append (λ (f : Fragment). f.leaf) p.0 (flat_map (λ fs. fs) p.1)
      ∙ (λ j. s.1 (flat (slot ∷ []) groups) (Only p.0)
      (from_only (k.of (flat (slot ∷ []) groups)) p.0 p.2) j
      ++ column_leaves (λ c. rest (suc c)) ks bs groups slots p.1
      (λ c below. all (suc c) (omega (arith, below))) s.2 p.3 j)
      ∙ ap (λ b. (if b then data_leaves rule t else []) ++ kids_data_leaves rule
      (λ c. rest (suc c)) ks) (sym (all 0 (omega arith)))

  choice_leaves_are : (rest : ℕ → Bool) (ks : Kids M) (bs : List Below) (x : View) (cs : Choices)
      → AllHold rest ks → AreLeafed ks bs → kid_choices bs x ≡ Some cs
      → choices_leaves cs ≡ kids_data_leaves rule rest ks
  choice_leaves_are rest no_kids [] x cs all s found =
      ap choices_leaves (sym (same_Some _ _ found))
  choice_leaves_are rest no_kids (k ∷ bs) x cs all s found = absurd s
  choice_leaves_are rest (kid t ks) [] x cs all s found = absurd s
  choice_leaves_are rest (kid t ks) (k ∷ bs) x cs all s found =
      let p = from_both choice (k.of x) (kid_choices bs x) cs found in
      ap choices_leaves (sym p.4)
      ∙ (λ j. s.1 x p.0 p.2 j
      ++ choice_leaves_are (λ c. rest (suc c)) ks bs x p.1
      (λ c below. all (suc c) (omega (arith, below))) s.2 p.3 j)
      ∙ ap (λ b. (if b then data_leaves rule t else []) ++ kids_data_leaves rule
      (λ c. rest (suc c)) ks) (sym (all 0 (omega arith)))

  -- the first child alone is a data child
  only_first : (rest : ℕ → Bool) (t : Tree M) (ks : Kids M)
      → ((c : ℕ) → c < kid_count (kid t ks) → rest c ≡ nat_eq c 0)
      → data_leaves rule t ≡ kids_data_leaves rule rest (kid t ks)
  only_first rest t ks are = first_leaves rule rest t ks (are 0 (omega arith))
      (λ c below. are (suc c) (omega (arith, below)) ∙ eqb-suc-zero c)

  row_leaves : (rule' : Rule) (rest : ℕ → Bool) (own : List Field) (a : Arrangement) (ks : Kids M) (bs : List Below)
      (x : View) (ch : Choice)
      → ((c : ℕ) → c < kid_count ks → rest c ≡ is_data_child rule' a c)
      → AreLeafed ks bs → access_row fields a own bs x ≡ Some ch
      → choice_leaves ch ≡ kids_data_leaves rule rest ks
  row_leaves rule' rest own (ByValue at bounds) ks bs x ch are s found =
      let p = from_both (λ (chooser : Chooser) (cs : Choices). By chooser bounds cs)
      (chooser_of at x) (kid_choices bs x) ch found in
      ap choice_leaves (sym p.4) ∙ choice_leaves_are rest ks bs x p.1 are s p.3
  row_leaves rule' rest own Columns ks bs x ch are s found =
      let at_zero = from_flat x.wraps (option_map (λ (fss : List (List Fragment)).
      Only (flat_map (λ fs. fs) fss)) (column_fragments bs x.groups x.slots)) ch found in
      let p = from_map (λ (fss : List (List Fragment)). Only (flat_map (λ fs. fs) fss))
      (column_fragments bs x.groups x.slots) ch at_zero.1 in
      ap choice_leaves (sym p.2) ∙ column_leaves rest ks bs x.groups x.slots p.0 are s p.1
  row_leaves rule' rest own Other ks bs x ch are s found = none_is None ch (λ h. h) found
  row_leaves rule' rest own Same no_kids [] x ch are s found = none_is None ch (λ h. h) found
  row_leaves rule' rest own Same no_kids (k ∷ bs) x ch are s found = absurd s
  row_leaves rule' rest own Same (kid t ks) [] x ch are s found = absurd s
  row_leaves rule' rest own Same (kid t ks) (k ∷ bs) x ch are s found =
      s.1 x ch found ∙ only_first rest t ks are
  row_leaves rule' rest own Body no_kids [] x ch are s found =
      none_is None ch (λ h. h) (from_then (room_below x) (first_of []) ch found).2
  row_leaves rule' rest own Body no_kids (k ∷ bs) x ch are s found = absurd s
  row_leaves rule' rest own Body (kid t ks) [] x ch are s found = absurd s
  row_leaves rule' rest own Body (kid t ks) (k ∷ bs) x ch are s found =
      let p = from_then (room_below x) (first_of (k ∷ bs)) ch found in
      s.1 p.0 ch p.2 ∙ only_first rest t ks are
  row_leaves rule' rest own (Coded i c) no_kids [] x ch are s found =
      none_is None ch (λ h. h) (from_then (coded_view i c x) (first_of []) ch found).2
  row_leaves rule' rest own (Coded i c) no_kids (k ∷ bs) x ch are s found = absurd s
  row_leaves rule' rest own (Coded i c) (kid t ks) [] x ch are s found = absurd s
  row_leaves rule' rest own (Coded i c) (kid t ks) (k ∷ bs) x ch are s found =
      let p = from_then (coded_view i c x) (first_of (k ∷ bs)) ch found in
      s.1 p.0 ch p.2 ∙ only_first rest t ks are
  row_leaves rule' rest own (Groups mask) no_kids [] x ch are s found = none_is None ch (λ h. h) found
  row_leaves rule' rest own (Groups mask) no_kids (k ∷ bs) x ch are s found = absurd s
  row_leaves rule' rest own (Groups mask) (kid t ks) [] x ch are s found = absurd s
  row_leaves rule' rest own (Groups mask) (kid t no_kids) (k ∷ []) x ch are s found =
      none_is None ch (λ h. h) found
  row_leaves rule' rest own (Groups mask) (kid t no_kids) (k ∷ l ∷ bs) x ch are s found = absurd s.2
  row_leaves rule' rest own (Groups mask) (kid t (kid u ks)) (k ∷ []) x ch are s found = absurd s.2
  row_leaves rule' rest own (Groups mask) (kid t (kid u ks)) (k ∷ l ∷ bs) x ch are s found =
      let q = from_then (group_views mask own x)
      (λ (p : View × View). joined (k.of p.0) (l.of p.1)) ch found in
      let p = from_both (λ (fs : List Fragment) (gs : List Fragment). Only (fs ++ gs))
      (only_fragments (k.of q.0.0)) (only_fragments (l.of q.0.1)) ch q.2 in
      ap choice_leaves (sym p.4)
      ∙ map-append (λ (f : Fragment). f.leaf) p.0 p.1
      ∙ (λ j. s.1 q.0.0 (Only p.0) (from_only (k.of q.0.0) p.0 p.2) j
      ++ s.2.1 q.0.1 (Only p.1) (from_only (l.of q.0.1) p.1 p.3) j)
      ∙ (λ j. data_leaves rule t
      ++ first_leaves rule (λ c. rest (suc c)) u ks (are 1 (omega arith))
      (λ c below. are (suc (suc c)) (omega (arith, below)) ∙ past c) j)
      ∙ ap (λ b. (if b then data_leaves rule t else []) ++ kids_data_leaves rule
      (λ c. rest (suc c)) (kid u ks)) (sym (are 0 (omega arith)))
  row_leaves rule' rest own (Cut size) no_kids [] x ch are s found = none_is None ch (λ h. h) found
  row_leaves rule' rest own (Cut size) no_kids (k ∷ bs) x ch are s found = absurd s
  row_leaves rule' rest own (Cut size) (kid t ks) [] x ch are s found = absurd s
  row_leaves rule' rest own (Cut size) (kid t ks) (k ∷ bs) x ch are s found =
      let p = from_map (λ (n : ℕ).
      Only (fragment_of fields n (Some size) x ∷ [])) k.leaf ch found in
      ap choice_leaves (sym p.2) ∙ sym (s.0 p.0 p.1) ∙ only_first rest t ks are

  leaf_known : (t : Tree M) (n : ℕ) → (access_below rule arranged fields t).leaf ≡ Some n
      → data_leaves rule t ≡ n ∷ []
  leaf_known (leaf m form) n found = ap (λ i. i ∷ []) (same_Some _ _ found)
  leaf_known (layer m ks) n found = none_is None n (λ h. h) found

  mutual
    pub tree_leaves : (t : Tree M) → IsValid rule t → IsLeafed t (access_below rule arranged fields t)
    tree_leaves (leaf n form) valid x ch found = ap choice_leaves (sym (same_Some _ _ found))
    tree_leaves (layer m ks) valid x ch found =
        row_leaves (rule m) (rule m).holds_rest (rule m).form.fields (arranged m) ks (kids_below rule arranged fields ks)
        x ch (λ c below. holds m c (subst (λ n. c < n) valid.0 below))
        (kids_leafed (rule m).kid_form ks valid.1) found

    kids_leafed : (forms : ℕ → Form) (ks : Kids M) → AreValid rule forms ks
        → AreLeafed ks (kids_below rule arranged fields ks)
    kids_leafed forms no_kids valid = tt
    kids_leafed forms (kid t ks) valid =
        (leaf_known t, tree_leaves t valid.1, kids_leafed (λ c. forms (suc c)) ks valid.3)

module _ {M : Type 0} (rule : M → Rule) (arranged : M → Arrangement)
    (holds : (m : M) → HasDataChildren (rule m) (arranged m)) where
  -- the fragments of all alternatives are in the data leaves of the tree, one for each
  pub access_leaves : (t : Tree M) (ch : Choice) → IsValid rule t
      → access_of rule arranged t ≡ Some ch → choice_leaves ch ≡ data_leaves rule t
  access_leaves t ch valid found =
      tree_leaves rule arranged (tree_form rule t).fields holds t valid (whole_view (length (tree_form rule t).fields)) ch found
