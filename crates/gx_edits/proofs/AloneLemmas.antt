-- Changes of the entries of one record, and whether it is there.
use Rattle.std.proofs.Common.{◌≡◌, ℕ, ◌<◌, List, [], ◌∷◌, length, map, Bool, true, false, Option, Some, None, inl, inr, refl, sym, ap, subst, append-nil, ◌∙◌, arith}
use Rattle.std.specs.Prelude.{IsTrue, ◌↔◌, ◌≢◌, ◌⊎◌, filter, not, is_some}
use Rattle.std.specs.List.{flat_map}
use Rattle.std.specs.FinMap as fin
use Rattle.std.proofs.lemmas.Bool.{true≢false}
use Rattle.std.specs.Ordering.{is_eq, eq_by_cmp}
use Rattle.std.specs.Cmp.Lexicographic.{nat_list_cmp_total}
use Rattle.std.proofs.lemmas.Option.{same_Some}
use Rattle.gx_values.specs.declared.records.Rec.{Rec}
use Rattle.gx_values.specs.declared.values.Value.{Value}
use Rattle.gx_values.specs.Values.{value_cmp, Fits}
use Rattle.gx_values.specs.Keys.{bytes_of, key_of, is_inside}
use Rattle.gx_values.proofs.OrderLemmas.{inside_one, key_order, value_cmp_same, same_value, value_itself}
use Rattle.gx_schema.specs.declared.schema.FileDef.{FileDef}
use Rattle.gx_schema.specs.Lookups.{key_kind}
use Rattle.gx_ports.specs.declared.leaves.Entry.{Entry}
use Rattle.gx_ports.specs.LeafMaps.{LeafMap, map_at, entry_of, selected, with_entry, without_entry}
use Rattle.gx_ports.proofs.KeyLemmas.{key_cases}
use Rattle.gx_mapping.specs.Rule.{In, IsOf}
use Rattle.gx_mapping.proofs.RuleLemmas.{all_in}
use Rattle.gx_stack.specs.declared.entries.LeafEntry.{LeafEntry}
use Rattle.gx_stack.specs.Tree.{Tree, IsValid, leaves_of, tree_form, entries_of}
use Rattle.gx_stack.specs.Internal.{IsSet, IsInternal, IsUnion, IsChange, IfThere, SomeAt, changed, without, with_one, at, entries_if, remove_entries, put_entries}
use Rattle.gx_stack.proofs.Children.{union_from_internal, internal_from_union}
use Rattle.gx_stack.proofs.Maps.{place_cases, removed_elsewhere, removed_here, put_elsewhere, put_here, length_removed}
use Rattle.gx_stack.proofs.Unique.{entry_leaf, entries_apart, entries_once}
use Rattle.gx_stack.proofs.Without.{from_without, to_without}
use Rattle.gx_gather.proofs.Lists.{from_each, in_each, none_some, in_filter, filter_in}
use Rattle.gx_gather.proofs.Entries.{find_in, in_find}
use Rattle.gx_model.specs.States.{File, IsRowOf}
use Rattle.gx_scan.specs.Files.{rec_of, file_records, IsStorable, IsTreeFor, IsInternal as IsStored}
use Rattle.gx_scan.proofs.FileLemmas.{there_in, in_there}
use Rattle.gx_types.specs.declared.any.AnyMapping.{AnyMapping}
use Rattle.gx_types.specs.Any.{any_rule, any_laws}
use Rattle.gx_entries.specs.Entries.{IsOnlyLeaf}
use Rattle.gx_entries.proofs.OneLemmas.{only_in_tree, entry_at, one_entry, one_of, HasOwn, only_has}

-- ---- changes of the entries of a record

-- at the key of one record entries are taken out, and those of what is there then are put
module _ (t : Tree AnyMapping) (n : ℕ) (own : HasOwn t n) (valid : IsValid any_rule t)
    (R : List Rec) (set : IsSet (tree_form any_rule t) R) (maps : List LeafMap)
    (below : (i : ℕ) → In i (leaves_of t) → i < length maps) (held : IsInternal any_rule t R maps)
    (this : Rec) (fits : IsOf (tree_form any_rule t) this) (old new : Option Rec)
    (old_is : IfThere old (λ o. o.key ≡ this.key))
    (one : (r : Rec) → In r R → r.key ≡ this.key → old ≡ Some r)
    (new_is : IfThere new (λ r. r ≡ this))
    (taken come : List LeafEntry) (taken_in : (e : LeafEntry) → In e taken → e.leaf < length maps)
    (taken_key : (e : LeafEntry) → In e taken → e.key ≡ key_of this.key)
    (come_is : entries_if any_rule t new ≡ come)
    (covered : (e : LeafEntry) → In e (entries_if any_rule t old) → SomeAt e.leaf e.key come
    ⊎ SomeAt e.leaf e.key taken) (after : List LeafMap)
    (is : after ≡ put_entries (remove_entries maps taken) come) where
  key_is : (r : Rec) → In r R → key_of r.key ≡ key_of this.key → r.key ≡ this.key
  key_is r h same =
      let a = own.entry r in
      let b = own.entry this in
      entries_apart any_rule any_laws t valid r this (set.fits r h) fits
      (record { leaf = n; key = key_of r.key; body = a.0 })
      (record { leaf = n; key = key_of this.key; body = b.0 }) a.1 b.1 refl same

  come_of : (e : LeafEntry) → In e come → In e (entries_of any_rule t this)
  come_of e h = by_new new new_is (subst (In e) (sym come_is) h)
    where
      by_new : (r : Option Rec) → IfThere r (λ x. x ≡ this) → In e (entries_if any_rule t r)
          → In e (entries_of any_rule t this)
      by_new None same h = absurd h
      by_new (Some r) same h = subst (λ (q : Rec). In e (entries_of any_rule t q)) same h

  come_key : (e : LeafEntry) → In e come → e.key ≡ key_of this.key
  come_key e h = own.key this e (come_of e h)

  come_in : (e : LeafEntry) → In e come → e.leaf < length (remove_entries maps taken)
  come_in e h =
      subst (λ (m : ℕ). e.leaf < m) (sym (length_removed maps taken))
      (below e.leaf (entry_leaf any_rule t this e (come_of e h)))

  once : (x y : LeafEntry) → In x come → In y come → x.leaf ≡ y.leaf → x.key ≡ y.key → x ≡ y
  once x y hx hy a b =
      entries_once any_rule any_laws t valid this fits x y (come_of x hx) (come_of y hy) a b

  elsewhere : (i : ℕ) (q : List ℕ) → q ≢ key_of this.key → at after i q ≡ at maps i q
  elsewhere i q other =
      ap (λ ms. at ms i q) is ∙ put_elsewhere (remove_entries maps taken) come i q come_in
      (λ e h place. other (sym place.1 ∙ come_key e h))
      ∙ removed_elsewhere maps taken i q taken_in (λ e h place. other (sym place.1 ∙ taken_key e h))

  -- the other records
  kept_in : (old : Option Rec) → IfThere old (λ o. o.key ≡ this.key)
      → ((r : Rec) → In r R → r.key ≡ this.key → old ≡ Some r) → (r : Rec) → In r (without old R)
      → In r R × (r.key ≢ this.key)
  kept_in None old_is one r h = (h, λ same. none_some r (one r h same))
  kept_in (Some o) old_is one r h =
      let w = from_without R o r h in
      (w.0, λ same. w.1 (same ∙ sym old_is))

  in_kept : (old : Option Rec) → IfThere old (λ o. o.key ≡ this.key) → (r : Rec) → In r R
      → r.key ≢ this.key → In r (without old R)
  in_kept None old_is r h other = h
  in_kept (Some o) old_is r h other = to_without R o r h (λ same. other (same ∙ old_is))

  holds_of : (new : Option Rec) → entries_if any_rule t new ≡ come → (e : LeafEntry)
      → In e (flat_map (entries_of any_rule t) (with_one new (without old R))) → In e come
      ⊎ ((r : Rec) × In r (without old R) × In e (entries_of any_rule t r))
  holds_of None same e h = inr (from_each (entries_of any_rule t) e (without old R) h)
  holds_of (Some r) same e h =
      let q = from_each (entries_of any_rule t) e (r ∷ without old R) h in
      elim (q.1) [
        | inl is_new ↦ inl (subst (In e) same
            (subst (λ (x : Rec). In e (entries_of any_rule t x)) is_new q.2))
        | inr kept ↦ inr (q.0, kept, q.2)
      ]

  of_come : (new : Option Rec) → entries_if any_rule t new ≡ come → (e : LeafEntry) → In e come
      → In e (flat_map (entries_of any_rule t) (with_one new (without old R)))
  of_come None same e h = absurd (subst (In e) (sym same) h)
  of_come (Some r) same e h =
      in_each (entries_of any_rule t) r e (r ∷ without old R) (inl refl) (subst (In e) (sym same) h)

  of_kept : (new : Option Rec) (r : Rec) (e : LeafEntry) → In r (without old R)
      → In e (entries_of any_rule t r)
      → In e (flat_map (entries_of any_rule t) (with_one new (without old R)))
  of_kept None r e h among = in_each (entries_of any_rule t) r e (without old R) h among
  of_kept (Some q) r e h among =
      in_each (entries_of any_rule t) r e (q ∷ without old R) (inr h) among

  after_holds : (e : LeafEntry) → In e (flat_map (entries_of any_rule t) (changed R old new))
      → at after e.leaf e.key ≡ Some e.body
  after_holds e h =
      let union = union_from_internal any_rule t R maps held in
      elim (holds_of new come_is e h) [
        | inl comes ↦ ap (λ ms. at ms e.leaf e.key) is
            ∙ put_here (remove_entries maps taken) come e come_in once comes
        | inr r ↦ (
            let w = kept_in old old_is one r.0 r.1 in
            elsewhere e.leaf e.key (λ same. w.1 (key_is r.0 w.0 (sym (own.key r.0 e r.2) ∙ same)))
            ∙ union.holds e (in_each (entries_of any_rule t) r.0 e R w.0 r.2))
      ]

  -- what is found at the places of the record came
  found_here : (e : LeafEntry) → In e.leaf (leaves_of t) → e.key ≡ key_of this.key
      → at after e.leaf e.key ≡ Some e.body → In e come
  found_here e in_leaf here found =
      let union = union_from_internal any_rule t R maps held in
      let put = sym (ap (λ ms. at ms e.leaf e.key) is) ∙ found in
      elim (place_cases come e.leaf e.key) [
        | inl x ↦ (
            let same : Some x.0.body ≡ Some e.body = sym
            (put_here (remove_entries maps taken) come x.0 come_in once x.1)
            ∙ (λ i. at (put_entries (remove_entries maps taken) come) (x.2.0 i) (x.2.1 i)) ∙ put in
            let e_is : x.0 ≡ e = λ i. record {
              leaf = x.2.0 i;
              key = x.2.1 i;
              body = same_Some
                  x.0.body e.body same i;
            } in
            subst (λ (y : LeafEntry). In y come) e_is x.1)
        | inr none ↦ (
            let mid = sym (put_elsewhere (remove_entries maps taken) come e.leaf e.key come_in none)
            ∙ put in
            elim (place_cases taken e.leaf e.key) [
              | inl x ↦ absurd (none_some e.body
                  (sym (removed_here maps taken e.leaf e.key taken_in x) ∙ mid))
              | inr stays ↦ (
                  let was = sym (removed_elsewhere maps taken e.leaf e.key taken_in stays) ∙ mid in
                  let r = from_each (entries_of any_rule t) e R (union.only e in_leaf was) in
                  let is_old = one r.0 r.1 (key_is r.0 r.1 (sym (own.key r.0 e r.2) ∙ here)) in
                  elim (covered e (subst (λ (o : Option Rec). In e (entries_if any_rule t o))
                  (sym is_old) r.2)) [
                    | inl x ↦ absurd (none x.0 x.1 x.2)
                    | inr x ↦ absurd (stays x.0 x.1 x.2)
                  ])
            ])
      ]

  after_only : (e : LeafEntry) → In e.leaf (leaves_of t) → at after e.leaf e.key ≡ Some e.body
      → In e (flat_map (entries_of any_rule t) (changed R old new))
  after_only e in_leaf found = elim (key_cases e.key (key_of this.key)) [
    | inl here ↦ of_come new come_is e (found_here e in_leaf here found)
    | inr other ↦ (
        let union = union_from_internal any_rule t R maps held in
        let r = from_each (entries_of any_rule t) e R
        (union.only e in_leaf (sym (elsewhere e.leaf e.key other) ∙ found)) in
        of_kept new r.0 e (in_kept old old_is r.0 r.1
        (λ same. other (own.key r.0 e r.2 ∙ ap key_of same))) r.2)
  ]

  pub own_changed : IsInternal any_rule t (changed R old new) after
  own_changed =
      internal_from_union any_rule t (changed R old new) after valid
      (record { holds = after_holds; only = after_only })

module _ (t : Tree AnyMapping) (n : ℕ) (own : HasOwn t n) (valid : IsValid any_rule t)
    (R : List Rec) (set : IsSet (tree_form any_rule t) R) (maps : List LeafMap)
    (below : (i : ℕ) → In i (leaves_of t) → i < length maps)
    (held : IsInternal any_rule t R maps) where
  -- a record goes
  pub own_removed : (old : Rec) (taken : List LeafEntry) (after : List LeafMap) → In old R
      → ((e : LeafEntry) → In e taken → In e.leaf (leaves_of t) × (e.key ≡ key_of old.key))
      → ((e : LeafEntry) → In e (entries_of any_rule t old) → SomeAt e.leaf e.key taken)
      → after ≡ remove_entries maps taken → IsInternal any_rule t (changed R (Some old) None) after
  own_removed old taken after there places covered is =
      own_changed t n own valid R set maps below held old (set.fits old there) (Some old) None refl
      (λ r h same. ap Some (sym (set.one r old h there same))) tt
      taken [] (λ e h. below e.leaf (places e h).0) (λ e h. (places e h).1) refl
      (λ e h. inr (covered e h)) after is

  -- one comes, in the place of what is there at its key
  pub own_put : (old : Option Rec) (new : Rec) (taken come : List LeafEntry) (after : List LeafMap)
      → IsChange R old (Some new) → IsOf (tree_form any_rule t) new
      → entries_of any_rule t new ≡ come
      → ((e : LeafEntry) → In e taken → In e.leaf (leaves_of t) × (e.key ≡ key_of new.key))
      → ((o : Rec) → old ≡ Some o → (e : LeafEntry) → In e (entries_of any_rule t o)
      → e.key ≡ key_of new.key → SomeAt e.leaf e.key come ⊎ SomeAt e.leaf e.key taken)
      → after ≡ put_entries (remove_entries maps taken) come
      → IsInternal any_rule t (changed R old (Some new)) after
  own_put None new taken come after change fits are places covered is =
      own_changed t n own valid R set maps below held new fits None (Some new) tt
      (λ r h same. absurd (change r h same)) refl
      taken come (λ e h. below e.leaf (places e h).0) (λ e h. (places e h).1) are (λ e h. absurd h)
      after is
  own_put (Some o) new taken come after change fits are places covered is =
      own_changed t n own valid R set maps below held new fits (Some o) (Some new) change.1
      (λ r h same. ap Some (sym (set.one r o h change.0 (same ∙ sym change.1)))) refl
      taken come (λ e h. below e.leaf (places e h).0) (λ e h. (places e h).1) are
      (λ e h. covered o refl e h (own.key o e h ∙ ap key_of change.1)) after is

module _ (t : Tree AnyMapping) (n : ℕ) (only : IsOnlyLeaf t n) (valid : IsValid any_rule t)
    (R : List Rec) (set : IsSet (tree_form any_rule t) R) (maps : List LeafMap)
    (below : (i : ℕ) → In i (leaves_of t) → i < length maps)
    (held : IsInternal any_rule t R maps) where
  pub alone_removed : (old : Rec) (key : List ℕ) (after : List LeafMap) → In old R
      → key ≡ key_of old.key → after ≡ without_entry maps n key
      → IsInternal any_rule t (changed R (Some old) None) after
  alone_removed old key after there key_is is =
      let gone : LeafEntry = entry_at t n old in
      own_removed t n (only_has t n only) valid R set maps below held old (gone ∷ []) after there
      (λ e h. (
        subst (λ (y : LeafEntry). In y.leaf (leaves_of t)) (sym (one_of e gone h))
            (only_in_tree t n only),
        ap (λ (y : LeafEntry). y.key) (one_of e gone h),
      ))
      (λ e h. (e, subst (In e) (one_entry t n only old) h, (refl, refl)))
      (is ∙ ap (without_entry maps n) key_is)

  pub alone_put : (old : Option Rec) (new : Rec) (body : List ℕ) (after : List LeafMap)
      → IsChange R old (Some new) → IsOf (tree_form any_rule t) new
      → entries_of any_rule t new ≡ record { leaf = n; key = key_of new.key; body = body } ∷ []
      → after ≡ with_entry maps n (key_of new.key) body
      → IsInternal any_rule t (changed R old (Some new)) after
  alone_put old new body after change fits come is =
      own_put t n (only_has t n only) valid R set maps below held old new []
      (record { leaf = n; key = key_of new.key; body = body } ∷ []) after change fits come
      (λ e none. absurd none)
      (λ o is_old e h key_is. inl (
        record { leaf = n; key = key_of new.key; body = body },
        inl refl,
        (
          ap (λ (y : LeafEntry). y.leaf)
              (sym (one_of e (entry_at t n o) (subst (In e) (one_entry t n only o) h))),
          sym key_is,
        ),
      )) is

-- ---- whether one is there

-- the entries within the span of a key
abbrev inside : Value → List ℕ × List ℕ → Bool
inside key e = is_inside (bytes_of key) (bytes_of key) e.0

abbrev those : Value → LeafMap → List (List ℕ × List ℕ)
those key m = filter (inside key) (fin.entries m)

-- where each entry is of the value, and the value has an entry, there is none exactly where there
-- is no value
all_told : (o : Option (List Value)) (empty : Bool) (es : List (List ℕ × List ℕ))
    → ((values : List Value) → o ≡ Some values → (e : List ℕ × List ℕ) × In e es)
    → ((e : List ℕ × List ℕ) → In e es → (values : List Value) × (o ≡ Some values))
    → (found : List Entry) → found ≡ map entry_of es → (IsTrue empty ↔ (found ≡ []))
    → not empty ≡ is_some o
all_told None true es to from found are told = refl
all_told (Some values) false es to from found are told = refl
all_told (Some values) true [] to from found are told = absurd (to values refl).1
all_told (Some values) true (e ∷ es) to from found are told =
    absurd (omega (arith, ap length (sym are ∙ told.0 refl)))
all_told None false [] to from found are told = absurd (true≢false (sym (told.1 are)))
all_told None false (e ∷ es) to from found are told =
    absurd (none_some (from e (inl refl)).0 (from e (inl refl)).1)

module _ (file : FileDef) (t : Tree AnyMapping) (n k : ℕ) (maps : List LeafMap) (f : File)
    (key : Value) (storable : IsStorable file) (tree : IsTreeFor file t k)
    (is : IsStored file t maps f) (own : HasOwn t n) (fit : Fits (key_kind file) key) where
  file_union : IsUnion any_rule t (file_records f) maps
  file_union = union_from_internal any_rule t (file_records f) maps is.held

  fits_of : (q : Value) (values : List Value) → fin.get f q ≡ Some values → Fits (key_kind file) q
  fits_of q values found =
      (all_in (IsRowOf file) (fin.entries f) (q, values) is.fit
      (find_in value_cmp_same q values (fin.entries f) (sym (fin.get-entries f q) ∙ found))).0

  within_is : (q : Value) → Fits (key_kind file) q
      → inside key (bytes_of q, []) ≡ eq_by_cmp value_cmp key q
  within_is q fit_q =
      inside_one (key_kind file) key q storable.key fit fit_q
      ∙ ap is_eq (key_order (key_kind file) key q storable.key fit fit_q)

  -- the record has an entry there
  entry_there : (values : List Value) → fin.get f key ≡ Some values → (e : List ℕ × List ℕ)
      × In e (those key (map_at maps n))
  entry_there values found =
      let m = map_at maps n in
      let r = rec_of (key, values) in
      let h = there_in f key values found in
      let own_entry = own.entry r in
      let e : LeafEntry = record { leaf = n; key = key_of r.key; body = own_entry.0 } in
      let held = file_union.holds e (in_each (entries_of any_rule t) r e (file_records f) h
      own_entry.1) in
      let at_key : fin.get m (bytes_of key) ≡ Some e.body = ap (fin.get m)
      (sym (append-nil (bytes_of key))) ∙ held in
      let among = find_in (fin.slice_cmp-IsAntisymmetric fin.nat_cmp-IsAntisymmetric) (bytes_of key)
      e.body (fin.entries m) (sym (fin.get-entries m (bytes_of key)) ∙ at_key) in (
        (bytes_of key, e.body),
        filter_in (inside key) (bytes_of key, e.body) (fin.entries m) among
            (within_is key fit ∙ value_itself key),
      )

  -- an entry there is that of the record
  entry_from : (e : List ℕ × List ℕ) → In e (those key (map_at maps n)) → (values : List Value)
      × (fin.get f key ≡ Some values)
  entry_from e h =
      let m = map_at maps n in
      let kept = in_filter (inside key) e (fin.entries m) h in
      let found : fin.get m e.0 ≡ Some e.1 = fin.get-entries m e.0
      ∙ in_find nat_list_cmp_total e (fin.entries m) (fin.entries_sorted m) kept.0 in
      let x : LeafEntry = record { leaf = n; key = e.0; body = e.1 } in
      let r = from_each (entries_of any_rule t) x (file_records f)
      (file_union.only x own.among found) in
      let q = in_there f r.0 r.1 in
      let key_is : e.0 ≡ bytes_of q.key = own.key r.0 x r.2 ∙ ap (λ (z : Rec). key_of z.key) q.is
      ∙ append-nil (bytes_of q.key) in
      let same = same_value key q.key
      (sym (within_is q.key (fits_of q.key q.values q.found))
      ∙ ap (is_inside (bytes_of key) (bytes_of key)) (sym key_is) ∙ kept.1) in
      (q.values, ap (fin.get f) same ∙ q.found)

  -- so the record is there exactly where there is an entry
  pub there_is : (lo hi : List ℕ) (found : List Entry) (empty : Bool) → lo ≡ bytes_of key
      → hi ≡ bytes_of key → found ≡ selected lo hi (map_at maps n) → (IsTrue empty ↔ (found ≡ []))
      → not empty ≡ is_some (fin.get f key)
  there_is lo hi found empty lo_is hi_is are told =
      all_told (fin.get f key) empty (those key (map_at maps n)) entry_there entry_from found
      (are ∙ (λ i. selected (lo_is i) (hi_is i) (map_at maps n))) told
