-- The record whose two groups of data fields stand in entries of two leaves, and what is read of
-- them.
use Rattle.std.proofs.Common.{[], ◌≡◌, ℕ, ◌+◌, ◌-◌, ◌<◌, ◌≤◌, ◌++◌, List, ◌∷◌, length, length-append, take, drop, get_or, map, cond, Bool, true, false, Option, None, Some, inl, inr, refl, sym, ap, subst, ◌∙◌, arith}
use Rattle.std.specs.Prelude.{pos, filter, not, slice_get}
use Rattle.std.specs.FinMap as fin
use Rattle.std.specs.List.{AllByRecursion}
use Rattle.std.specs.Option.{option_map}
use Rattle.std.proofs.lemmas.List.{take_all, take_more, drop_all, length-map}
use Rattle.std.proofs.lemmas.List.Sorted.{IsPermutation-refl}
use Rattle.std.proofs.lemmas.Option.{same_Some}
use Rattle.gx_laws.proofs.ListLemmas.{turned_at}
use Rattle.gx_values.specs.declared.values.Code.{Code}
use Rattle.gx_values.specs.declared.values.Value.{Value}
use Rattle.gx_values.specs.declared.values.Value.TheVariants as value
use Rattle.gx_values.specs.declared.records.Field.{Field}
use Rattle.gx_values.specs.declared.keys.Span.{Span}
use Rattle.gx_values.specs.Values.{Fits, AreFit}
use Rattle.gx_values.specs.Keys.{bytes_of}
use Rattle.gx_schema.specs.declared.schema.FileDef.{FileDef}
use Rattle.gx_schema.specs.Lookups.{key_kind, data_fields}
use Rattle.gx_ports.specs.declared.leaves.Entry.{Entry}
use Rattle.gx_ports.specs.LeafMaps.{LeafMap, map_at, entry_of, selected, counted}
use Rattle.gx_actual.specs.Bodies.{body_of}
use Rattle.gx_split.specs.Groups.{chosen, defaults_of}
use Rattle.gx_mapping.proofs.FieldLemmas.{fit_at, fit_length}
use Rattle.gx_gather.proofs.Lists.{none_some, bool_cases}
use Rattle.gx_stack.specs.Tree.{Tree, leaves_of}
use Rattle.gx_types.specs.declared.any.AnyMapping.{AnyMapping}
use Rattle.gx_model.specs.States.{File, Row}
use Rattle.gx_scan.specs.declared.groups.Groups.{Groups}
use Rattle.gx_scan.specs.Files.{IsStorable, IsTreeFor, IsInternal}
use Rattle.gx_scan.specs.Groups.{AreGroups, IsSplitRow, has_others, first_stored, other_stored, other_entry}
use Rattle.gx_codec.specs.Stored.{code_at, stored_value, stored_values, HasCode, HaveCodes}
use Rattle.gx_codec.proofs.LayoutLemmas.{nothing_stored}
use Rattle.gx_scan.specs.Records.{list_of_one}
use Rattle.gx_scan.specs.Steps.{HaveAtMost, rows_inside}
use Rattle.gx_scan.proofs.GroupLemmas.{firsts_stored, others_stored, rows_split_inside, steps_inside}
use Rattle.gx_scan.proofs.JoinLemmas.{chosen_next, defaults_there}
use Rattle.gx_scan.proofs.KeyLemmas.{one_at_key, row_found, steps_at_key}
use Rattle.gx_scan.proofs.StepLemmas.{counted_most}

-- ---- the first value of a group, and the codes of the others

pub stored_front : (cs : List (Option Code)) (v : Value) (vs : List Value) → HaveCodes cs (v ∷ vs)
    → HasCode (code_at cs 0) v × HaveCodes (drop 1 cs) vs
    × (stored_values cs (v ∷ vs) ≡ stored_value (code_at cs 0) v ∷ stored_values (drop 1 cs) vs)
stored_front [] v vs have = (tt, tt, refl)
stored_front (c ∷ cs) v vs have = (have.0, have.1, refl)

-- ---- the value of a field at the front of its group

not_cond : (b : Bool) (v : Value) (vs : List Value) → cond (not b) (v ∷ vs) vs ≡ cond b vs (v ∷ vs)
not_cond true v vs = refl
not_cond false v vs = refl

pub record SplitAt (f : Field) (mask : List Bool) (vs : List Value) (i : ℕ) (b : Bool) : Type 0
  where
    pub value : Value
    pub fits : Fits f.kind value
    pub first : chosen (drop i mask) (drop i vs)
        ≡ cond b (value ∷ chosen (drop (i + 1) mask) (drop (i + 1) vs))
        (chosen (drop (i + 1) mask) (drop (i + 1) vs))
    pub others : chosen (drop i (map not mask)) (drop i vs)
        ≡ cond b (chosen (drop (i + 1) (map not mask)) (drop (i + 1) vs))
        (value ∷ chosen (drop (i + 1) (map not mask)) (drop (i + 1) vs))
    pub more : take (i + 1) vs ≡ take i vs ++ value ∷ []

pub split_at : (fields : List Field) (mask : List Bool) (vs : List Value) (i : ℕ) (f : Field)
    (b : Bool) → AreFit fields vs → i < length fields → length mask ≡ length fields
    → f ≡ get_or fields i f → b ≡ get_or mask i false → SplitAt f mask vs i b
split_at fields mask vs i f b fit lt long item at =
    let many = fit_length fields vs fit in
    let d = value.Int (pos 0) in
    let v = get_or vs i d in
    record {
      value = v;
      fits = subst (λ (g : Field). Fits g.kind v) (sym item) (fit_at i fields vs f d fit lt);
      first = chosen_next mask vs i d b (omega (arith, lt, long)) (omega (arith, long, many)) at;
      others = chosen_next (map not mask) vs i d (not b)
          (omega (arith, lt, long, length-map mask not))
          (omega (arith, long, many, length-map mask not))
          (turned_at mask i b (omega (arith, lt, long)) at)
          ∙ not_cond b v (chosen (drop (i + 1) (map not mask)) (drop (i + 1) vs));
      more = take_more vs i d (omega (arith, lt, many));
    }

-- ---- past the last field all values are read, and nothing follows in either group

nothing_chosen : (mask : List Bool) → chosen {A = Value} mask [] ≡ []
nothing_chosen [] = refl
nothing_chosen (b ∷ mask) = refl

pub group_ends : (fs : List Field) (mask : List Bool) (vs : List Value) (i : ℕ)
    (cs : List (Option Code)) (rest : List ℕ) → AreFit fs vs → length fs ≤ i
    → rest ≡ body_of (stored_values cs (chosen (drop i mask) (drop i vs))) → rest ≡ []
group_ends fs mask vs i cs rest fit le is =
    is ∙ ap (λ (l : List Value). body_of (stored_values cs l))
    (ap (chosen (drop i mask)) (drop_all i vs (omega (arith, fit_length fs vs fit, le)))
    ∙ nothing_chosen (drop i mask))
    ∙ ap body_of (nothing_stored cs)

pub all_taken : (fs : List Field) (vs : List Value) (i : ℕ) → AreFit fs vs → length fs ≤ i
    → take i vs ≡ vs
all_taken fs vs i fit le = take_all i vs (omega (arith, fit_length fs vs fit, le))

-- ---- the entries of the record

abbrev has : Groups → List Field → Row → Bool
has g fields = has_others g.mask.now fields

abbrev of_others : Groups → List Field → List Row → List Entry
of_others g fields rs = map (λ (q : Row). entry_of (other_stored g q)) (filter (has g fields) rs)

module _ (g : Groups) (fields : List Field) (r : Row) (es : List Entry)
    (is : es ≡ entry_of (first_stored g r) ∷ of_others g fields (r ∷ [])) where
  some_others : (b : Bool) → has g fields r ≡ b → es ≡ entry_of (first_stored g r)
      ∷ map (λ (q : Row). entry_of (other_stored g q)) (cond b (r ∷ []) [])
  some_others b e = is ∙ ap (λ b. entry_of (first_stored g r)
      ∷ map (λ (q : Row). entry_of (other_stored g q)) (cond b (r ∷ []) [])) e

  pub first_read : (e : Entry) → slice_get es 0 ≡ Some e → e.body ≡ (first_stored g r).1
  first_read e at = ap (λ (x : Entry). x.body) (same_Some e (entry_of (first_stored g r))
      (sym at ∙ ap (λ (l : List Entry). slice_get l 0) is))

  pub others_read : (e : Entry) → slice_get es 1 ≡ Some e
      → (has g fields r ≡ true) × (e.body ≡ (other_stored g r).1)
  others_read e at = elim (bool_cases (has g fields r)) [
    | inl some ↦ (
      some,
      ap (λ (x : Entry). x.body) (same_Some e (entry_of (other_stored g r))
          (sym at ∙ ap (λ (l : List Entry). slice_get l 1) (some_others true some))),
    )
    | inr none ↦ absurd (none_some e
        (ap (λ (l : List Entry). slice_get l 1) (sym (some_others false none)) ∙ at))
  ]

  -- without a second entry the other values are defaults
  pub defaults_read : length es ≡ 1 → AreFit fields r.1
      → body_of (defaults_of (chosen (map not g.mask.now) fields))
      ≡ body_of (chosen (map not g.mask.now) r.1)
  defaults_read alone fit = elim (bool_cases (has g fields r)) [
    | inl some ↦ absurd (omega (arith, alone, ap length (some_others true some)))
    | inr none ↦ defaults_there g fields
        (map (λ (q : Row). entry_of (other_entry g q)) (filter (has g fields) (r ∷ []))) 0 r []
        refl none fit
  ]

-- ---- the record at a key

module _ (file : FileDef) (t : Tree AnyMapping) (g : Groups) (leaves : ℕ) (maps : List LeafMap)
    (f : File) (storable : IsStorable file) (tree : IsTreeFor file t leaves)
    (is : IsInternal file t maps f) (are : AreGroups t g) (k : Value) (span : Span)
    (fit : Fits (key_kind file) k) (lo : span.lo ≡ bytes_of k) (hi : span.hi ≡ bytes_of k) where
  abbrev one : Option Row
  one = option_map (λ (values : List Value). (k, values)) (fin.get f k)

  rows_are : rows_inside span f ≡ list_of_one one
  rows_are = one_at_key file f k span storable.key fit is.fit lo hi (rows_inside span f)
      (IsPermutation-refl (rows_inside span f)) ∙ row_found k (fin.get f k)

  pub one_fits : AllByRecursion (IsSplitRow file g) (list_of_one one)
  one_fits = subst (AllByRecursion (IsSplitRow file g)) rows_are
      (rows_split_inside file t g leaves maps f storable tree is are span)

  -- what a search of the first leaf appends
  module _ (start firsts : List Entry) (none : start ≡ [])
      (first : firsts ≡ start ++ selected span.lo span.hi (map_at maps g.first.leaf)) where
    abbrev some : List Row → List Row
    some rs = filter (has g (data_fields file)) rs

    firsts_are : firsts ≡ map (λ (r : Row). entry_of (first_stored g r)) (rows_inside span f)
    firsts_are = firsts_stored file t g leaves maps f storable tree is are span firsts
        (first ∙ ap (λ (es : List Entry). es ++ selected span.lo span.hi (map_at maps g.first.leaf))
        none)

    many : length firsts - length start ≡ length (rows_inside span f)
    many = omega (
      arith,
      ap length firsts_are,
      length-map (rows_inside span f) (λ (r : Row). entry_of (first_stored g r)),
      ap length none,
    )

    pub none_there : firsts ≡ [] → None ≡ fin.get f k
    none_there empty =
        let none_found : length (list_of_one one) ≡ 0 = omega (
          arith,
          ap length empty,
          ap length firsts_are,
          length-map (rows_inside span f) (λ (r : Row). entry_of (first_stored g r)),
          ap length rows_are,
        ) in
        nothing (fin.get f k) none_found
      where
        nothing : (o : Option (List Value))
            → length {A = Row} (list_of_one (option_map (λ (values : List Value). (k, values)) o))
            ≡ 0
            → None ≡ o
        nothing None none = refl
        nothing (Some values) none = absurd (omega (arith, none))

    pub steps_first : (most before after : ℕ) → HaveAtMost most t f
        → after ≡ counted before (1 + (length firsts - length start))
        → after ≤ before + (length (leaves_of t) + most)
    steps_first most before after few to_first =
        let inside = steps_inside file t g leaves maps f storable tree is are span most _ _ few many
        refl in
        steps_at_key file f k span storable.key fit is.fit lo hi (length (leaves_of t)) most before
        after (omega (arith, inside, counted_most _ _ _ _ to_first refl))

    -- and what one of the second appends to that
    module _ (all : List Entry) (now : List LeafMap) (same : now ≡ maps)
        (second : all ≡ firsts ++ selected span.lo span.hi (map_at now g.others.leaf)) where
      others_are : selected span.lo span.hi (map_at now g.others.leaf)
          ≡ of_others g (data_fields file) (rows_inside span f)
      others_are = others_stored file t g leaves maps f storable tree is are span _
          (ap (λ (ms : List LeafMap). selected span.lo span.hi (map_at ms g.others.leaf)) same)

      pub both_are : all ≡ map (λ (r : Row). entry_of (first_stored g r)) (list_of_one one)
          ++ of_others g (data_fields file) (list_of_one one)
      both_are = second ∙ (λ j. firsts_are j ++ others_are j)
          ∙ ap (λ (rs : List Row). map (λ (r : Row). entry_of (first_stored g r)) rs
          ++ of_others g (data_fields file) rs) rows_are

      others_many : length all - length firsts ≡ length (some (rows_inside span f))
      others_many = omega (
        arith,
        ap length second,
        length-append firsts (selected span.lo span.hi (map_at now g.others.leaf)),
        ap length others_are,
        length-map (some (rows_inside span f)) (λ (r : Row). entry_of (other_stored g r)),
      )

      pub steps_both : (most before between after : ℕ) → HaveAtMost most t f
          → between ≡ counted before (1 + (length firsts - length start))
          → after ≡ counted between (1 + (length all - length firsts))
          → after ≤ before + (length (leaves_of t) + most)
      steps_both most before between after few to_first to_second =
          let inside = steps_inside file t g leaves maps f storable tree is are span most _ _ few
          many others_many in
          steps_at_key file f k span storable.key fit is.fit lo hi (length (leaves_of t)) most
          before after
          (omega (
            arith,
            inside,
            counted_most _ _ _ _ to_first refl,
            counted_most _ _ _ _ to_second refl,
          ))
