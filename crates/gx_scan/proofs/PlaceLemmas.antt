-- Where the records of a tree stand whole, and the entries of one of its leaves.
use Rattle.std.proofs.Common.{[], ◌≡◌, ℕ, zero, suc, ◌+◌, ◌-◌, ◌<◌, ◌≤◌, List, ◌∷◌, ◌++◌, ◌⊎◌, length, length-append, take, drop, get_or, map, Some, nat_eq, true, false, inl, inr, refl, sym, ap, subst, ◌∙◌, arith, append_assoc, append-nil}
use Rattle.std.proofs.lemmas.List.{map-append, take_all, take_more, length-take}
use Rattle.std.proofs.lemmas.Bool.{eqb-true, eq-eqb, true≢false}
use Rattle.std.specs.List.{flat_map, AllByRecursion}
use Rattle.std.specs.Option.{option_map}
use Rattle.std.specs.FinMap as fin
use Rattle.std.specs.FinMap.Entries.{below_all}
use Rattle.std.specs.Prelude.{T, Bool, if◌then◌else◌, Option, None, Result, Ok, Err, IfOk, IfSome}
use Rattle.std.specs.Ordering.{nat_cmp}
use Rattle.std.specs.declared.cmp.Ordering.{Ordering}
use Rattle.std.specs.declared.cmp.Ordering.TheVariants.{Less}
use Rattle.std.specs.Cmp.Lexicographic.{slice_cmp, nat_list_cmp_total}
use Rattle.std.proofs.lemmas.Cmp.{on_total}
use Rattle.std.proofs.lemmas.Option.{same_Some}
use Rattle.gx_laws.proofs.ListLemmas.{get_or_any}
use Rattle.gx_laws.proofs.BoolLemmas.{first_of_both, second_of_both}
use Rattle.gx_laws.proofs.OrderingLemmas.{is_less}
use Rattle.gx_values.specs.declared.values.Kind.{Kind}
use Rattle.gx_values.specs.declared.values.Kind.TheVariants as kind
use Rattle.gx_values.specs.declared.values.Code.{Code}
use Rattle.gx_values.specs.declared.values.Value.{Value}
use Rattle.gx_values.specs.declared.records.Field.{Field}
use Rattle.gx_values.specs.declared.records.Form.{Form}
use Rattle.gx_values.specs.declared.records.Rec.{Rec}
use Rattle.gx_values.specs.Values.{value_cmp, AreFit}
use Rattle.gx_values.specs.Keys.{bytes_of, key_of, IsKeyKind, AreKeyFields}
use Rattle.gx_values.proofs.OrderLemmas.{key_order}
use Rattle.gx_schema.specs.declared.schema.FileDef.{FileDef}
use Rattle.gx_schema.specs.Lookups.{key_kind}
use Rattle.gx_ports.specs.LeafMaps.{LeafMap, map_at}
use Rattle.gx_mapping.specs.declared.parts.Part.{Part}
use Rattle.gx_mapping.specs.Rule.{Rule, In, IsOf}
use Rattle.gx_mapping.proofs.RuleLemmas.{all_in}
use Rattle.gx_stack.specs.declared.entries.LeafEntry.{LeafEntry}
use Rattle.gx_stack.specs.declared.node.Node.{Node}
use Rattle.gx_stack.specs.declared.node.LeafNode.{LeafNode}
use Rattle.gx_stack.specs.declared.node.LayerNode.{LayerNode}
use Rattle.gx_stack.specs.declared.node.Node.TheVariants as nodes
use Rattle.gx_actual.specs.Rules.{actual_rec}
use Rattle.gx_encode.specs.declared.layer.Encode.{Encode}
use Rattle.gx_encode.specs.Rules.{form_of, field_of, used_code_of}
use Rattle.gx_encode.specs.Laws.{has_code}
use Rattle.gx_encode.proofs.GatherLemmas.{fits_at}
use Rattle.gx_stack.specs.Tree.{Tree, Kids, leaf, layer, kid, no_kids, leaves_of, kids_leaves, tree_form, entries_of, kid_entries, entry_in, leaf_body, IsBytesUpTo, IsLeafData, IsLeafForm, IsValid, AreValid}
use Rattle.gx_stack.specs.Seen.{tree_of, kids_from}
use Rattle.gx_stack.specs.Internal.{IsUnion}
use Rattle.gx_gather.proofs.Lists.{in_left, in_right, in_cases, in_map, from_map, in_each, from_each, in_filter, filter_in, all_of, once_joined, IsOnce}
use Rattle.gx_gather.proofs.Orders.{Ascends, ascends_filter, ascends_unique}
use Rattle.gx_gather.proofs.Entries.{find_in, in_find}
use Rattle.gx_stack.proofs.Seen.{seen_layer, seen_leaf, layer_form, count_kids, child_there, child_valid, kid_entries_at}
use Rattle.gx_stack.proofs.Unique.{entry_leaf, kid_leaf}
use Rattle.gx_types.specs.declared.any.AnyMapping.{AnyMapping}
use Rattle.gx_types.specs.declared.any.AnyMapping.TheVariants as any
use Rattle.gx_types.specs.Passing.{PassesOne, PassesWhole}
use Rattle.gx_types.specs.Any.{any_rule, any_laws}
use Rattle.gx_model.specs.States.{File, Row, IsRowOf, HasRowsOf}
use Rattle.gx_scan.specs.declared.places.Place.{Place}
use Rattle.gx_scan.specs.declared.places.Above.{Above}
use Rattle.gx_scan.specs.Files.{rec_of, file_records, IsStorable, IsTreeFor}
use Rattle.gx_codec.specs.Stored.{wrapped, stored_values, stored_rec, HaveCodes, IsWithCode}
use Rattle.gx_scan.specs.Entries.{below, entry_of_row, IsStoredRow, IsPassed, PassesOn, data_leaves, kids_data, IsAlone, ArePlaces, ArePlacesBelow, IsPlaceOf, first_leaf, leaf_of, rows_at}
use Rattle.gx_scan.proofs.FileLemmas.{set_of}

abbrev pub number : Place → ℕ
number p = p.leaf

-- ---- the leaves of a tree, each once

module _ {M : Type 0} (rule : M → Rule) where
  mutual
    pub leaves_once : (t : Tree M) → IsValid rule t → IsOnce (leaves_of t)
    leaves_once (leaf n form) v = (λ i. i, tt)
    leaves_once (layer m ks) v = kids_once ((rule m).kid_form) ks v.1

    kids_once : (forms : ℕ → Form) (ks : Kids M) → AreValid rule forms ks → IsOnce (kids_leaves ks)
    kids_once forms no_kids v = tt
    kids_once forms (kid t ks) v =
        once_joined (leaves_of t) (kids_leaves ks) (leaves_once t v.1)
        (kids_once (λ c. forms (suc c)) ks v.3) v.2

-- ---- the leaves that records are gathered from

if_in : (b : Bool) (n : ℕ) (ns : List ℕ) → In n (if b then ns else []) → (b ≡ true) × In n ns
if_in true n ns h = (refl, h)
if_in false n ns h = absurd h

if_once : (b : Bool) (ns : List ℕ) → IsOnce ns → IsOnce (if b then ns else [])
if_once true ns once = once
if_once false ns once = tt

if_few : (b : Bool) (ns : List ℕ) (most : ℕ) → length ns ≤ most
    → length (if b then ns else []) ≤ most
if_few true ns most few = few
if_few false ns most few = omega arith

mutual
  pub data_in : (t : Tree AnyMapping) (n : ℕ) → In n (data_leaves t) → In n (leaves_of t)
  data_in (leaf m form) n h = h
  data_in (layer m ks) n h = kids_data_in ((any_rule m).holds_rest) ks n h

  kids_data_in : (rest : ℕ → Bool) (ks : Kids AnyMapping) (n : ℕ) → In n (kids_data rest ks)
      → In n (kids_leaves ks)
  kids_data_in rest no_kids n h = absurd h
  kids_data_in rest (kid t ks) n h =
      elim (in_cases n (if rest 0 then data_leaves t else [])
      (kids_data (λ c. rest (suc c)) ks) h) [
        | inl a ↦ in_left n (leaves_of t) (kids_leaves ks)
            (data_in t n (if_in (rest 0) n (data_leaves t) a).1)
        | inr b ↦ in_right n (leaves_of t) (kids_leaves ks)
            (kids_data_in (λ c. rest (suc c)) ks n b)
      ]

mutual
  pub data_once : (t : Tree AnyMapping) → IsValid any_rule t → IsOnce (data_leaves t)
  data_once (leaf m form) v = (λ i. i, tt)
  data_once (layer m ks) v = kids_data_once ((any_rule m).holds_rest) ((any_rule m).kid_form) ks v.1

  kids_data_once : (rest : ℕ → Bool) (forms : ℕ → Form) (ks : Kids AnyMapping)
      → AreValid any_rule forms ks → IsOnce (kids_data rest ks)
  kids_data_once rest forms no_kids v = tt
  kids_data_once rest forms (kid t ks) v =
      once_joined (if rest 0 then data_leaves t else []) (kids_data (λ c. rest (suc c)) ks)
      (if_once (rest 0) (data_leaves t) (data_once t v.1))
      (kids_data_once (λ c. rest (suc c)) (λ c. forms (suc c)) ks v.3)
      (λ n i k. v.2 n (data_in t n (if_in (rest 0) n (data_leaves t) i).1)
      (kids_data_in (λ c. rest (suc c)) ks n k))

mutual
  pub data_few : (t : Tree AnyMapping) → length (data_leaves t) ≤ length (leaves_of t)
  data_few (leaf m form) = omega arith
  data_few (layer m ks) = kids_data_few ((any_rule m).holds_rest) ks

  kids_data_few : (rest : ℕ → Bool) (ks : Kids AnyMapping)
      → length (kids_data rest ks) ≤ length (kids_leaves ks)
  kids_data_few rest no_kids = omega arith
  kids_data_few rest (kid t ks) =
      let one = if_few (rest 0) (data_leaves t) (length (leaves_of t)) (data_few t) in
      let more = kids_data_few (λ c. rest (suc c)) ks in
      omega (
        arith,
        one,
        more,
        length-append (if rest 0 then data_leaves t else [])
            (kids_data (λ c. rest (suc c)) ks),
        length-append (leaves_of t) (kids_leaves ks),
      )

-- those below one child
abbrev below_child : Kids AnyMapping → ℕ → List ℕ
below_child no_kids c = []
below_child (kid t ks) zero = data_leaves t
below_child (kid t ks) (suc c) = below_child ks c

below_at : (ns : List (Node AnyMapping)) (c : ℕ) (n : Node AnyMapping) → c < length ns
    → below_child (kids_from (map tree_of ns)) c ≡ data_leaves (tree_of (get_or ns c n))
below_at [] c n l = absurd (omega arith)
below_at (x ∷ ns) zero n l = refl
below_at (x ∷ ns) (suc c) n l = below_at ns c n (omega arith)

-- where an entry of a part stands in one of these leaves, the part's child is a data child and the
-- leaf is below it
part_leaf : (rest : ℕ → Bool) (forms : ℕ → Form) (ks : Kids AnyMapping) (c : ℕ) (r : Rec)
    (e : LeafEntry) → AreValid any_rule forms ks → In e (kid_entries any_rule ks c r)
    → In e.leaf (kids_data rest ks) → (rest c ≡ true) × In e.leaf (below_child ks c)
part_leaf rest forms no_kids c r e v h d = absurd h
part_leaf rest forms (kid t ks) zero r e v h d =
    elim (in_cases e.leaf (if rest 0 then data_leaves t else []) (kids_data (λ c. rest (suc c)) ks)
    d) [
      | inl a ↦ if_in (rest 0) e.leaf (data_leaves t) a
      | inr b ↦ absurd (v.2 e.leaf (entry_leaf any_rule t r e h)
          (kids_data_in (λ c. rest (suc c)) ks e.leaf b))
    ]
part_leaf rest forms (kid t ks) (suc c) r e v h d =
    elim (in_cases e.leaf (if rest 0 then data_leaves t else []) (kids_data (λ c. rest (suc c)) ks)
    d) [
      | inl a ↦ absurd (v.2 e.leaf (data_in t e.leaf (if_in (rest 0) e.leaf (data_leaves t) a).1)
          (kid_leaf any_rule ks c r e h))
      | inr b ↦ part_leaf (λ c. rest (suc c)) (λ c. forms (suc c)) ks c r e v.3 h b
    ]

-- a leaf has one place
pub place_same : (ps : List Place) (p q : Place) → IsOnce (map number ps) → In p ps → In q ps
    → p.leaf ≡ q.leaf → p ≡ q
place_same [] p q once i k e = absurd i
place_same (x ∷ ps) p q once (inl i) (inl k) e = i ∙ sym k
place_same (x ∷ ps) p q once (inl i) (inr k) e =
    absurd (once.0 (subst (λ n. In n (map number ps)) (sym e ∙ ap number i) (in_map number q ps k)))
place_same (x ∷ ps) p q once (inr i) (inl k) e =
    absurd (once.0 (subst (λ n. In n (map number ps)) (e ∙ ap number k) (in_map number p ps i)))
place_same (x ∷ ps) p q once (inr i) (inr k) e = place_same ps p q once.1 i k e

-- ---- places of a leaf

neither : (k : Kind) (most : ℕ) → IsKeyKind k → IsBytesUpTo k most → ⊥
neither kind.Int most key bytes = bytes
neither (kind.Text n) most key bytes = bytes
neither (kind.Bytes n) most key bytes = key

-- a leaf of ints and texts has a key alone
no_fields : (fs : List Field) (most : ℕ) → AreKeyFields fs → IsLeafData fs most → fs ≡ []
no_fields [] most plain bytes = refl
no_fields (f ∷ []) most plain bytes = absurd (neither f.kind most plain.0 bytes)
no_fields (f ∷ g ∷ fs) most plain bytes = absurd bytes

no_values : (vs : List Value) → AreFit [] vs → vs ≡ []
no_values [] fit = refl
no_values (v ∷ vs) fit = absurd fit

alone : (m : ℕ) (e : LeafEntry) (es : List LeafEntry) → es ≡ e ∷ [] → IsAlone (m ∷ []) e es
alone m e es is = record { others = []; first = is; elsewhere = λ o h d. h }

bare_placed : (m : ℕ) (form : Form) (n : ℕ) (cs : List (Option Code)) (p : Place) → IsLeafForm form
    → (n ≡ 0 → cs ≡ []) → (n ≡ 0 → cs ≡ [] → AreKeyFields form.fields) → p.leaf ≡ m
    → p.lengths ≡ n - 1 → p.codes ≡ cs
    → ArePlacesBelow n cs (leaf m form) (p ∷ [])
bare_placed m form zero [] p is whole plain number_is lengths_is codes_is = record {
  leaves = ap (λ x. x ∷ []) number_is;
  stand = λ r fits coded.
      let none : r.fields ≡ [] =
      no_values r.fields
      (subst (λ fs. AreFit fs r.fields)
      (no_fields form.fields _ (plain refl refl) is.entry_small) fits.fields) in
      let lengths : p.lengths ≡ 0 = omega (arith, lengths_is) in
      let bodies : leaf_body r.fields ≡ leaf_body (wrapped 1 r).fields =
      ap leaf_body none
      ∙ sym (ap (λ (vs : List Value). leaf_body
      (wrapped 1 (record { key = r.key; fields = vs })).fields) none) in (
        p,
        inl refl,
        subst (λ (c : List (Option Code)). HaveCodes c r.fields) (sym codes_is) tt,
        alone m _ _ ((λ i. record { leaf = sym number_is i; key = key_of r.key; body = bodies i }
            ∷ []) ∙ (λ i. entry_in p.leaf (below (suc (sym lengths i)) (sym codes_is i) r) ∷ [])),
      );
}
bare_placed m form zero (c ∷ cs) p is whole plain number_is lengths_is codes_is =
    absurd (let e = ap length (whole refl) in omega (arith, e))
bare_placed m form (suc n) cs p is whole plain number_is lengths_is codes_is = record {
  leaves = ap (λ x. x ∷ []) number_is;
  stand = λ r fits coded.
      let lengths : p.lengths ≡ n = omega (arith, lengths_is) in (
        p,
        inl refl,
        subst (λ (c : List (Option Code)). HaveCodes c r.fields) (sym codes_is) coded,
        alone m _ _ (λ i. entry_in (sym number_is i)
            (below (suc (sym lengths i)) (sym codes_is i) r) ∷ []),
      );
}

pub leaf_placed : (node : Node AnyMapping) (l : LeafNode) (n : ℕ) (cs : List (Option Code))
    (p : Place) → node ≡ nodes.Leaf l → IsValid any_rule (tree_of node) → (n ≡ 0 → cs ≡ [])
    → (n ≡ 0 → cs ≡ [] → AreKeyFields (tree_form any_rule (tree_of node)).fields) → p.leaf ≡ l.leaf
    → p.lengths ≡ n - 1 → p.codes ≡ cs
    → ArePlacesBelow n cs (tree_of node) (p ∷ [])
leaf_placed node l n cs p is valid whole plain number_is lengths_is codes_is =
    let seen = seen_leaf node l is in
    subst (λ t. ArePlacesBelow n cs t (p ∷ [])) (sym seen)
    (bare_placed l.leaf l.form n cs p (subst (IsValid any_rule) seen valid) whole
    (λ none no_codes. subst (λ t. AreKeyFields (tree_form any_rule t).fields) seen
    (plain none no_codes)) number_is lengths_is codes_is)

-- ---- places of a layer

abbrev part : ℕ → Rec → Part
part c r = record { child = c; rec = r }

-- a record that goes to one child alone
one_passed : (m : AnyMapping) (n : ℕ) (cs : List (Option Code)) (b : ℕ) (ds : List (Option Code))
    (r : Rec) (c : ℕ) → IsOf (any_rule m).form (below n cs r) → HaveCodes ds r.fields
    → (any_rule m).parts (below n cs r) ≡ part c (below b ds r) ∷ []
    → IsPassed (any_rule m) n cs b ds r
one_passed m n cs b ds r c fits coded is =
    let rest = λ (p : Part). (any_rule m).holds_rest p.child in
    let main = (any_laws m).has_data (below n cs r) fits in
    let kept = in_filter rest main.0 ((any_rule m).parts (below n cs r)) main.1 in
    let same : main.0 ≡ part c (below b ds r) =
    elim (subst (In main.0) is kept.0) [ inl e ↦ e | inr none ↦ absurd none ] in
    record {
      child = c;
      rest = ap rest (sym same) ∙ kept.1;
      others = [];
      parts = is;
      beside =
          λ p h. absurd h;
      coded = coded;
    }

pub whole_passes : (m : AnyMapping) (n : ℕ) (cs : List (Option Code)) → PassesWhole (any_rule m)
    → PassesOn (any_rule m) n cs n cs
whole_passes m n cs passes = record {
  each = λ r fits coded. let x = passes.one (below n cs r) in
      one_passed m n cs n cs r x.0 fits coded x.1;
  plain = λ c rest plain none no_codes. subst (λ f. AreKeyFields f.fields) (sym (passes.form c))
      (plain none no_codes);
}

pub wrapped_passes : (m : AnyMapping) (n : ℕ) (cs : List (Option Code)) (b : ℕ) → b ≡ n + 1
    → PassesOne (any_rule m) actual_rec → PassesOn (any_rule m) n cs b cs
wrapped_passes m n cs b more passes =
    let same : suc n ≡ b = omega (arith, more) in record {
      each = λ r fits coded. let x = passes (below n cs r) in
          one_passed m n cs b cs r x.0 fits coded
          (x.1 ∙ ap (λ k. part x.0 (below k cs r) ∷ []) same);
      plain = λ c rest plain none no_codes. absurd (omega (arith, more, none));
    }

-- below the layer one more field stands by its code
encode_passes : (e : Encode) (cs ds : List (Option Code))
    → IsWithCode cs (field_of e) (used_code_of e) ds → PassesOn (any_rule (any.Encode e)) 0 cs 0 ds
encode_passes e cs ds more = record {
  each = λ r fits coded.
      let sound = e.sound in
      let value = fits_at (field_of e) (form_of e).fields (stored_values cs r.fields) fits.fields
      sound.place in
      let code = has_code (used_code_of e) _ _ sound.kind value in
      one_passed (any.Encode e) 0 cs 0 ds r 0 fits (more.have r.fields coded code)
      (λ i. part 0 (record { key = r.key; fields = sym (more.values r.fields) i }) ∷ []);
  plain = λ c rest plain none no_codes. absurd (more.some no_codes);
}

pub coded_passes : (m : AnyMapping) (e : Encode) (n : ℕ) (cs : List (Option Code)) (b : ℕ)
    (ds : List (Option Code)) → m ≡ any.Encode e → n ≡ 0 → b ≡ 0
    → IsWithCode cs (field_of e) (used_code_of e) ds → PassesOn (any_rule m) n cs b ds
coded_passes m e n cs b ds is above_is below_is more =
    subst (λ (x : AnyMapping). PassesOn (any_rule x) n cs b ds) (sym is)
    (subst (λ (k : ℕ). PassesOn (any_rule (any.Encode e)) k cs b ds) (sym above_is)
    (subst (λ (k : ℕ). PassesOn (any_rule (any.Encode e)) 0 cs k ds) (sym below_is)
    (encode_passes e cs ds more)))

-- what is changed above the children, told otherwise
pub same_passes : (m : AnyMapping) (n : ℕ) (cs : List (Option Code)) (b : ℕ)
    (ds : List (Option Code)) → b ≡ n → ds ≡ cs → PassesOn (any_rule m) n cs n cs
    → PassesOn (any_rule m) n cs b ds
same_passes m n cs b ds layers codes passes =
    subst (λ (k : ℕ). PassesOn (any_rule m) n cs k ds) (sym layers)
    (subst (λ (es : List (Option Code)). PassesOn (any_rule m) n cs n es) (sym codes) passes)

pub wrapped_result : {E : Type 0} (m : AnyMapping) (n : ℕ) (cs : List (Option Code))
    (r : Result (Option Above) E) → PassesOne (any_rule m) actual_rec
    → IfOk r (λ made. IfSome made (λ a. a.layers ≡ n + 1))
    → IfOk r (λ made. IfSome made (λ a. a.codes ≡ cs))
    → IfOk r (λ made. IfSome made (λ a. PassesOn (any_rule m) n cs a.layers a.codes))
wrapped_result m n cs (Err e) passes layers codes = tt
wrapped_result m n cs (Ok None) passes layers codes = tt
wrapped_result m n cs (Ok (Some a)) passes layers codes =
    subst (λ (es : List (Option Code)). PassesOn (any_rule m) n cs a.layers es) (sym codes)
    (wrapped_passes m n cs a.layers layers passes)

pub coded_result : {E : Type 0} (m : AnyMapping) (e : Encode) (n : ℕ) (cs : List (Option Code))
    (i : ℕ) (c : Code) (r : Result (Option Above) E) → m ≡ any.Encode e → i ≡ field_of e
    → c ≡ used_code_of e → IfOk r (λ made. IfSome made (λ a. n ≡ 0))
    → IfOk r (λ made. IfSome made (λ a. a.layers ≡ 0))
    → IfOk r (λ made. IfSome made (λ a. IsWithCode cs i c a.codes))
    → IfOk r (λ made. IfSome made (λ a. PassesOn (any_rule m) n cs a.layers a.codes))
coded_result m e n cs i c (Err x) is field code outside layers codes = tt
coded_result m e n cs i c (Ok None) is field code outside layers codes = tt
coded_result m e n cs i c (Ok (Some a)) is field code outside layers codes =
    let more = subst (λ (d : Code). IsWithCode cs (field_of e) d a.codes) code
    (subst (λ (j : ℕ). IsWithCode cs j c a.codes) field codes) in
    coded_passes m e n cs a.layers a.codes is outside layers more

abbrev pub is_index : AnyMapping → Bool
is_index (any.Actual m) = false
is_index (any.Encode m) = false
is_index (any.Segment m) = false
is_index (any.Transpose m) = false
is_index (any.Partition m) = false
is_index (any.Divide m) = false
is_index (any.Index m) = true

-- an index passes its records to child 0, and their entries to child 1
pub index_passes : (m : AnyMapping) (n : ℕ) (cs : List (Option Code)) → is_index m ≡ true
    → PassesOn (any_rule m) n cs n cs
index_passes (any.Actual m) n cs is = absurd (true≢false (sym is))
index_passes (any.Encode m) n cs is = absurd (true≢false (sym is))
index_passes (any.Segment m) n cs is = absurd (true≢false (sym is))
index_passes (any.Transpose m) n cs is = absurd (true≢false (sym is))
index_passes (any.Partition m) n cs is = absurd (true≢false (sym is))
index_passes (any.Divide m) n cs is = absurd (true≢false (sym is))
index_passes (any.Index m) n cs is = record {
  each = λ r fits coded. record {
    child = 0;
    rest = refl;
    others = drop 1 ((any_rule (any.Index m)).parts (below n cs r));
    parts = refl;
    beside = λ p h. elim h [
      | inl e ↦ ap (λ (q : Part). (any_rule (any.Index m)).holds_rest q.child)
          e
      | inr none ↦ absurd none
    ];
    coded = coded;
  };
  plain = first;
}
  where
    first : (c : ℕ) → (any_rule (any.Index m)).holds_rest c ≡ true
        → (n ≡ 0 → cs ≡ [] → AreKeyFields (any_rule (any.Index m)).form.fields) → n ≡ 0 → cs ≡ []
        → AreKeyFields ((any_rule (any.Index m)).kid_form c).fields
    first zero rest plain none no_codes = plain none no_codes
    first (suc c) rest plain none no_codes = absurd (omega (arith, eqb-true (suc c) 0 rest))

abbrev pub Stand : ℕ → List (Option Code) → Tree AnyMapping → List Place → Type 0
Stand n cs t ps = (r : Rec) → IsOf (tree_form any_rule t) (below n cs r) → HaveCodes cs r.fields
    → (p : Place) × In p ps × HaveCodes p.codes r.fields × IsAlone (data_leaves t)
    (entry_in p.leaf (below (suc p.lengths) p.codes r)) (entries_of any_rule t (below n cs r))

-- the places below the first i children
pub record ArePlacesOf (m : AnyMapping) (n : ℕ) (cs : List (Option Code))
    (ks : List (Node AnyMapping)) (i : ℕ) (ps : List Place) : Type 0 where
  pub leaves : map number ps ≡ kids_data ((any_rule m).holds_rest)
      (kids_from (map tree_of (take i ks)))
  pub stand : (c : ℕ) (k : Node AnyMapping) → c < i → (any_rule m).holds_rest c ≡ true
      → k ≡ get_or ks c k → Stand n cs (tree_of k) ps

pub none_placed : (m : AnyMapping) (n : ℕ) (cs : List (Option Code)) (ks : List (Node AnyMapping))
    → ArePlacesOf m n cs ks 0 []
none_placed m n cs ks = record { leaves = refl; stand = λ c k below. absurd (omega arith) }

kids_last : (rest : ℕ → Bool) (xs : List (Node AnyMapping)) (k : Node AnyMapping)
    → kids_data rest (kids_from (map tree_of (xs ++ k ∷ []))) ≡ kids_data rest
    (kids_from (map tree_of xs)) ++ (if rest (length xs) then data_leaves (tree_of k) else [])
kids_last rest [] k = append-nil (if rest 0 then data_leaves (tree_of k) else [])
kids_last rest (x ∷ xs) k =
    let one = if rest 0 then data_leaves (tree_of x) else [] in
    ap (λ ns. one ++ ns) (kids_last (λ c. rest (suc c)) xs k)
    ∙ sym (append_assoc one (kids_data (λ c. rest (suc c)) (kids_from (map tree_of xs)))
    (if rest (length (x ∷ xs)) then data_leaves (tree_of k) else []))

kids_more : (rest : ℕ → Bool) (ks : List (Node AnyMapping)) (i : ℕ) (k : Node AnyMapping)
    → i < length ks → k ≡ get_or ks i k
    → kids_data rest (kids_from (map tree_of (take (i + 1) ks))) ≡ kids_data rest
    (kids_from (map tree_of (take i ks)))
    ++ (if rest i then data_leaves (tree_of k) else [])
kids_more rest ks i k l read =
    let many : length (take i ks) ≡ i = omega (arith, length-take i ks) in
    ap (λ xs. kids_data rest (kids_from (map tree_of xs))) (take_more ks i k l)
    ∙ kids_last rest (take i ks) (get_or ks i k)
    ∙ (λ j. kids_data rest (kids_from (map tree_of (take i ks)))
    ++ (if rest (many j) then data_leaves (tree_of (sym read j)) else []))

below_cases : (c i : ℕ) → c < i + 1 → (c < i) ⊎ (c ≡ i)
below_cases zero zero l = inr refl
below_cases zero (suc i) l = inl (omega arith)
below_cases (suc c) zero l = absurd (omega arith)
below_cases (suc c) (suc i) l =
    elim (below_cases c i (omega arith)) [ inl h ↦ inl (omega (arith, h)) | inr e ↦ inr (ap suc e) ]

pub kid_placed : (m : AnyMapping) (n : ℕ) (cs : List (Option Code)) (ks : List (Node AnyMapping))
    (i : ℕ) (k : Node AnyMapping) (ps qs : List Place) → i < length ks
    → (any_rule m).holds_rest i ≡ true → k ≡ get_or ks i k → ArePlacesOf m n cs ks i ps
    → ArePlacesBelow n cs (tree_of k) qs → ArePlacesOf m n cs ks (i + 1) (ps ++ qs)
kid_placed m n cs ks i k ps qs l rest read so_far one = record {
  leaves = map-append number ps qs ∙ (λ j. so_far.leaves j ++ one.leaves j)
      ∙ ap (λ b. kids_data ((any_rule m).holds_rest) (kids_from (map tree_of (take i ks)))
      ++ (if b then data_leaves (tree_of k) else [])) (sym rest)
      ∙ sym (kids_more ((any_rule m).holds_rest) ks i k l read);
  stand = λ c d lower holds at r fits coded. elim (below_cases c i lower) [
    | inl less ↦ (let x = so_far.stand c d less holds at r fits coded in
        (x.0, in_left x.0 ps qs x.1, x.2, x.3))
    | inr same ↦ (
        let is : d ≡ k = at ∙ ap (λ j. get_or ks j d) same ∙ get_or_any ks i d k l ∙ sym read in
        let x = one.stand r
        (subst (λ (y : Node AnyMapping). IsOf (tree_form any_rule (tree_of y)) (below n cs r))
        is fits) coded in (
          x.0,
          in_right x.0 ps qs x.1,
          x.2,
          subst
              (λ (y : Node AnyMapping). IsAlone (data_leaves (tree_of y))
              (entry_in x.0.leaf (below (suc x.0.lengths) x.0.codes r))
              (entries_of any_rule (tree_of y) (below n cs r))) (sym is) x.3,
        ))
  ];
}

-- a child that isn't a data child has no place
pub kid_left : (m : AnyMapping) (n : ℕ) (cs : List (Option Code)) (ks : List (Node AnyMapping))
    (i : ℕ) (k : Node AnyMapping) (ps : List Place) → i < length ks
    → (any_rule m).holds_rest i ≡ false → ArePlacesOf m n cs ks i ps
    → ArePlacesOf m n cs ks (i + 1) ps
kid_left m n cs ks i k ps l rest so_far =
    let at = get_or ks i k in
    record {
      leaves = so_far.leaves ∙ sym
          (append-nil (kids_data ((any_rule m).holds_rest) (kids_from (map tree_of (take i ks)))))
          ∙ ap (λ b. kids_data ((any_rule m).holds_rest) (kids_from (map tree_of (take i ks)))
          ++ (if b then data_leaves (tree_of at) else [])) (sym rest)
          ∙ sym (kids_more ((any_rule m).holds_rest) ks i at l (get_or_any ks i k at l));
      stand = λ c d lower holds read. elim (below_cases c i lower) [
        | inl less ↦ so_far.stand c d less holds read
        | inr same ↦ absurd (true≢false (sym holds ∙ ap ((any_rule m).holds_rest) same ∙ rest))
      ];
    }

pub kids_many : (node : Node AnyMapping) (l : LayerNode AnyMapping) → node ≡ nodes.Layer l
    → IsValid any_rule (tree_of node) → length l.kids.items ≡ (any_rule l.mapping).kids
kids_many node l is valid = sym (count_kids l.kids.items)
    ∙ (subst (IsValid any_rule) (seen_layer node l is) valid).0

pub layer_placed : (node : Node AnyMapping) (l : LayerNode AnyMapping) (n : ℕ)
    (cs : List (Option Code)) (b : ℕ) (ds : List (Option Code)) (i : ℕ) (ps : List Place)
    → node ≡ nodes.Layer l → IsValid any_rule (tree_of node)
    → PassesOn (any_rule l.mapping) n cs b ds → length l.kids.items ≤ i
    → ArePlacesOf l.mapping b ds l.kids.items i ps → ArePlacesBelow n cs (tree_of node) ps
layer_placed node l n cs b ds i ps is valid passes end placed =
    let rule = any_rule l.mapping in
    let rest = rule.holds_rest in
    let ks = kids_from (map tree_of l.kids.items) in
    let seen = seen_layer node l is in
    let kids_valid = (subst (IsValid any_rule) seen valid).1 in
    let kid_part = λ (p : Part). kid_entries any_rule ks p.child p.rec in
    record {
      leaves = placed.leaves ∙ ap (λ ks. kids_data rest (kids_from (map tree_of ks)))
          (take_all i l.kids.items end) ∙ sym (ap data_leaves seen);
      stand = λ r fits coded.
          let lower = below b ds r in
          let fits' = subst (λ f. IsOf f (below n cs r)) (layer_form any_rule node l is) fits in
          let one = passes.each r fits' coded in
          let here = (any_laws l.mapping).fit (below n cs r) (part one.child lower) fits'
          (subst (In (part one.child lower)) (sym one.parts) (inl refl)) in
          let there = child_there any_rule node l is one.child valid here.0 in
          let k = get_or l.kids.items one.child node in
          let read : k ≡ get_or l.kids.items one.child k =
          get_or_any l.kids.items one.child node k there in
          let v = child_valid any_rule node l is one.child k valid there read in
          let x = placed.stand one.child k (omega (arith, there, end)) one.rest read r
          (subst (λ f. IsOf f lower) (sym v.0) here.1) one.coded in
          let e = entry_in x.0.leaf (below (suc x.0.lengths) x.0.codes r) in
          let of_child : kid_entries any_rule ks one.child lower ≡ e ∷ x.3.others =
          kid_entries_at any_rule l.kids.items one.child node lower there ∙ x.3.first in (
            x.0,
            x.1,
            x.2,
            record {
              others = x.3.others ++ flat_map kid_part one.others;
              first = ap (λ t. entries_of any_rule t (below n cs r)) seen
                  ∙ ap (flat_map kid_part) one.parts
                  ∙ ap (λ (es : List LeafEntry). es ++ flat_map kid_part one.others) of_child;
              elsewhere = λ o h d.
                  let d' : In o.leaf (kids_data rest ks) = subst (In o.leaf) (ap data_leaves seen) d
                  in
                  elim (in_cases o x.3.others (flat_map kid_part one.others) h) [
                    | inl a ↦ (
                        let leaf_below =
                        part_leaf rest rule.kid_form ks one.child lower o kids_valid
                        (subst (In o) (sym of_child) (inr a)) d' in
                        x.3.elsewhere o a
                        (subst (In o.leaf) (below_at l.kids.items one.child node there)
                        leaf_below.1))
                    | inr b ↦ (
                        let q = from_each kid_part o one.others b in
                        true≢false (sym (part_leaf rest rule.kid_form ks q.0.child q.0.rec o
                        kids_valid q.2 d').0 ∙ one.beside q.0 q.1))
                  ];
            },
          );
    }

-- ---- the entries of one leaf

abbrev pub Pair : Type 0
Pair = List ℕ × List ℕ

abbrev pub pair_cmp : Pair → Pair → Ordering
pair_cmp a b = slice_cmp nat_cmp a.0 b.0

abbrev pub key_cmp : Row → Row → Ordering
key_cmp a b = value_cmp a.0 b.0

module _ {K X : Type 0} (R : K → K → Ordering) where
  below_each : (x : K) (es : List (K × X)) → T (below_all R x es)
      → AllByRecursion (λ e. R x e.0 ≡ Less) es
  below_each x [] h = tt
  below_each x (e ∷ es) h =
      (is_less _ (first_of_both _ _ h), below_each x es (second_of_both _ _ h))

  pub entries_ascend : (es : List (K × X)) → T (fin.is_sorted R es) → Ascends (λ a b. R a.0 b.0) es
  entries_ascend [] h = tt
  entries_ascend (e ∷ es) h =
      (below_each e.0 es (first_of_both _ _ h), entries_ascend es (second_of_both _ _ h))

rows_below : (file : FileDef) (n : ℕ) (cs : List (Option Code)) (x : Row) (rs : List Row)
    → IsKeyKind (key_kind file) → IsRowOf file x → AllByRecursion (IsRowOf file) rs
    → AllByRecursion (λ r. key_cmp x r ≡ Less) rs
    → AllByRecursion (λ e. pair_cmp (entry_of_row n cs x) e ≡ Less) (map (entry_of_row n cs) rs)
rows_below file n cs x [] key fit fits h = tt
rows_below file n cs x (r ∷ rs) key fit fits h = (
  key_order (key_kind file) x.0 r.0 key fit.0 fits.0.0 ∙ h.0,
  rows_below file n cs x rs key fit
      fits.1 h.1,
)

rows_ascend : (file : FileDef) (n : ℕ) (cs : List (Option Code)) (rs : List Row)
    → IsKeyKind (key_kind file) → AllByRecursion (IsRowOf file) rs → Ascends key_cmp rs
    → Ascends pair_cmp (map (entry_of_row n cs) rs)
rows_ascend file n cs [] key fits h = tt
rows_ascend file n cs (r ∷ rs) key fits h =
    (rows_below file n cs r rs key fits.0 fits.1 h.0, rows_ascend file n cs rs key fits.1 h.1)

wrapped_key : (n : ℕ) (r : Rec) → (wrapped n r).key ≡ r.key
wrapped_key zero r = refl
wrapped_key (suc n) r = wrapped_key n r

pub entry_key : (n : ℕ) (cs : List (Option Code)) (r : Row)
    → key_of (below n cs (rec_of r)).key ≡ bytes_of r.0
entry_key n cs r = ap key_of (wrapped_key n (stored_rec cs (rec_of r))) ∙ append-nil (bytes_of r.0)

place_data : (t : Tree AnyMapping) (p : Place) → IsPlaceOf t p → In p.leaf (data_leaves t)
place_data t p at = subst (In p.leaf) at.are.leaves (in_map number p at.places at.there)

pub place_there : (t : Tree AnyMapping) (p : Place) → IsPlaceOf t p → In p.leaf (leaves_of t)
place_there t p at = data_in t p.leaf (place_data t p at)

module _ (file : FileDef) (t : Tree AnyMapping) (leaves : ℕ) (maps : List LeafMap) (f : File)
    (storable : IsStorable file) (tree : IsTreeFor file t leaves) (fit : HasRowsOf file f) where
  row_of_tree : (r : Row) → In r (fin.entries f) → IsOf (tree_form any_rule t) (rec_of r)
  row_of_tree r h = subst (λ form. IsOf form (rec_of r)) (sym tree.form)
      ((set_of file f storable.keyed fit).fits (rec_of r) (in_map rec_of r (fin.entries f) h))

  -- each record is in a leaf of the tree
  pub leaf_there : (ps : List Place) → ArePlaces 0 t ps → (r : Row) → In r (fin.entries f)
      → In (leaf_of t r) (map number ps)
  leaf_there ps are r h =
      let x = are.stand (rec_of r) (row_of_tree r h) tt in
      subst (λ n. In n (map number ps)) (sym (ap first_leaf x.3.first)) (in_map number x.0 ps x.1)

  held_at : (p : Place) → IsPlaceOf t p → (r : Row) → In r (fin.entries f) → leaf_of t r ≡ p.leaf
      → IsAlone (data_leaves t) (entry_in p.leaf (below (suc p.lengths) p.codes (rec_of r)))
      (entries_of any_rule t (rec_of r))
  held_at p at r h same =
      let x = at.are.stand (rec_of r) (row_of_tree r h) tt in
      let once = subst IsOnce (sym at.are.leaves) (data_once t tree.valid) in
      let one : x.0 ≡ p =
      place_same at.places x.0 p once x.1 at.there (sym (ap first_leaf x.3.first) ∙ same) in
      subst (λ (q : Place). IsAlone (data_leaves t)
      (entry_in q.leaf (below (suc q.lengths) q.codes (rec_of r)))
      (entries_of any_rule t (rec_of r))) one x.3

  -- the values of a record have the codes of its place
  row_codes : (p : Place) → IsPlaceOf t p → (r : Row) → In r (fin.entries f) → leaf_of t r ≡ p.leaf
      → HaveCodes p.codes r.1
  row_codes p at r h same =
      let x = at.are.stand (rec_of r) (row_of_tree r h) tt in
      let once = subst IsOnce (sym at.are.leaves) (data_once t tree.valid) in
      let one : x.0 ≡ p =
      place_same at.places x.0 p once x.1 at.there (sym (ap first_leaf x.3.first) ∙ same) in
      subst (λ (q : Place). HaveCodes q.codes r.1) one x.2

  entry_from : IsUnion any_rule t (file_records f) maps → (p : Place) → IsPlaceOf t p → (e : Pair)
      → In e (fin.entries (map_at maps p.leaf))
      → In e (map (entry_of_row p.lengths p.codes) (rows_at t p.leaf f))
  entry_from union p at e h =
      let m = map_at maps p.leaf in
      let le : LeafEntry = record { leaf = p.leaf; key = e.0; body = e.1 } in
      let found = fin.get-entries m e.0
      ∙ in_find nat_list_cmp_total e (fin.entries m) (fin.entries_sorted m) h in
      let q = from_each (entries_of any_rule t) le (file_records f)
      (union.only le (place_there t p at) found) in
      let row = from_map rec_of q.0 (fin.entries f) q.1 in
      let among : In le (entries_of any_rule t (rec_of row.0)) =
      subst (λ x. In le (entries_of any_rule t x)) row.2 q.2 in
      let x = at.are.stand (rec_of row.0) (row_of_tree row.0 row.1) tt in
      let first : le ≡ entry_in x.0.leaf (below (suc x.0.lengths) x.0.codes (rec_of row.0)) =
      elim (subst (In le) x.3.first among)
      [ inl i ↦ i | inr n ↦ absurd (x.3.elsewhere le n (place_data t p at)) ] in
      let same : leaf_of t row.0 ≡ p.leaf =
      ap first_leaf x.3.first ∙ sym (ap (λ (y : LeafEntry). y.leaf) first) in
      let here = held_at p at row.0 row.1 same in
      let made : le ≡ entry_in p.leaf (below (suc p.lengths) p.codes (rec_of row.0)) =
      elim (subst (In le) here.first among)
      [ inl i ↦ i | inr n ↦ absurd (here.elsewhere le n (place_data t p at)) ] in
      let key : e.0 ≡ bytes_of row.0.0 =
      ap (λ (y : LeafEntry). y.key) made ∙ entry_key (suc p.lengths) p.codes row.0 in
      let body : e.1 ≡ leaf_body (below (suc p.lengths) p.codes (rec_of row.0)).fields =
      ap (λ (y : LeafEntry). y.body) made in
      subst (λ (y : Pair). In y (map (entry_of_row p.lengths p.codes) (rows_at t p.leaf f)))
      (λ i. (sym key i, sym body i))
      (in_map (entry_of_row p.lengths p.codes) row.0 (rows_at t p.leaf f)
      (filter_in (λ (r : Row). nat_eq (leaf_of t r) p.leaf) row.0 (fin.entries f) row.1
      (eq-eqb _ _ same)))

  row_entry : IsUnion any_rule t (file_records f) maps → (p : Place) → IsPlaceOf t p → (e : Pair)
      → In e (map (entry_of_row p.lengths p.codes) (rows_at t p.leaf f))
      → In e (fin.entries (map_at maps p.leaf))
  row_entry union p at e h =
      let m = map_at maps p.leaf in
      let row = from_map (entry_of_row p.lengths p.codes) e (rows_at t p.leaf f) h in
      let r = row.0 in
      let kept = in_filter (λ (r : Row). nat_eq (leaf_of t r) p.leaf) r (fin.entries f) row.1 in
      let le = entry_in p.leaf (below (suc p.lengths) p.codes (rec_of r)) in
      let among : In le (entries_of any_rule t (rec_of r)) =
      subst (In le) (sym (held_at p at r kept.0 (eqb-true _ _ kept.1)).first) (inl refl) in
      let there = union.holds le
      (in_each (entries_of any_rule t) (rec_of r) le (file_records f)
      (in_map rec_of r (fin.entries f) kept.0) among) in
      let found : fin.find (slice_cmp nat_cmp) (bytes_of r.0) (fin.entries m) ≡ Some le.body =
      sym (fin.get-entries m (bytes_of r.0)) ∙ ap (fin.get m)
      (sym (entry_key (suc p.lengths) p.codes r)) ∙ there in
      subst (λ (x : Pair). In x (fin.entries m)) (sym row.2)
      (find_in (fin.slice_cmp-IsAntisymmetric fin.nat_cmp-IsAntisymmetric)
      (bytes_of r.0) le.body (fin.entries m) found)

  pub rows_fit : (n : ℕ) → AllByRecursion (IsRowOf file) (rows_at t n f)
  rows_fit n = all_of (IsRowOf file) (rows_at t n f)
      (λ r h. all_in (IsRowOf file) (fin.entries f) r fit
      (in_filter (λ (r : Row). nat_eq (leaf_of t r) n) r (fin.entries f) h).0)

  pub rows_stored : (p : Place) → IsPlaceOf t p
      → AllByRecursion (IsStoredRow file p.codes) (rows_at t p.leaf f)
  rows_stored p at = all_of (IsStoredRow file p.codes) (rows_at t p.leaf f) (λ r h.
      let kept = in_filter (λ (r : Row). nat_eq (leaf_of t r) p.leaf) r (fin.entries f) h in (
        all_in (IsRowOf file) (fin.entries f) r fit kept.0,
        row_codes p at r kept.0
            (eqb-true _ _ kept.1),
      ))

  -- a leaf has the entries of its records, in the order of their keys
  pub place_entries : IsUnion any_rule t (file_records f) maps → (p : Place) → IsPlaceOf t p
      → fin.entries (map_at maps p.leaf) ≡ map (entry_of_row p.lengths p.codes) (rows_at t p.leaf f)
  place_entries union p at =
      ascends_unique (on_total (λ (e : Pair). e.0) nat_list_cmp_total)
      (fin.entries (map_at maps p.leaf)) (map (entry_of_row p.lengths p.codes) (rows_at t p.leaf f))
      (entries_ascend (slice_cmp nat_cmp) (fin.entries (map_at maps p.leaf))
      (fin.entries_sorted (map_at maps p.leaf)))
      (rows_ascend file p.lengths p.codes (rows_at t p.leaf f) storable.key (rows_fit p.leaf)
      (ascends_filter key_cmp (λ (r : Row). nat_eq (leaf_of t r) p.leaf) (fin.entries f)
      (entries_ascend value_cmp (fin.entries f) (fin.entries_sorted f))))
      (entry_from union p at) (row_entry union p at)

-- ---- places that are lent

pub places_lent : {A B : Type 0} (f : A → List Place) (g : B → List Place) (P : List Place
    → Type 0) (o : Option A) (p : Option B) → option_map f o ≡ option_map g p
    → IfSome p (λ y. P (g y)) → IfSome o (λ x. P (f x))
places_lent f g P None p same are = tt
places_lent f g P (Some x) None same are = cc
places_lent f g P (Some x) (Some y) same are = subst P (sym (same_Some (f x) (g y) same)) are
