-- The node of a file that has all leaf entries of a key's record, and what an edit there does to
-- the file.
use Rattle.std.proofs.Common.{[], ◌≡◌, ℕ, List, ◌∷◌, cond, length, ◌+◌, ◌-◌, Bool, true, false, Some, None, inl, inr, refl, sym, ap, subst, ◌∙◌}
use Rattle.std.specs.Prelude.{◌≢◌, is_some, not, Option, unwrap_or, slice_set}
use Rattle.std.specs.List.{flat_map, AllByRecursion}
use Rattle.std.specs.FinMap as fin
use Rattle.gx_values.specs.declared.values.Value.{Value}
use Rattle.gx_values.specs.declared.records.Rec.{Rec}
use Rattle.gx_values.specs.declared.keys.Span.{Span}
use Rattle.gx_values.specs.Values.{Fits, AreFit}
use Rattle.gx_values.specs.Keys.{bytes_of, key_of, is_inside}
use Rattle.gx_values.proofs.OrderLemmas.{value_cmp_total, value_itself, other_value, value_cases}
use Rattle.gx_schema.specs.declared.schema.FileDef.{FileDef}
use Rattle.gx_schema.specs.Lookups.{key_kind, data_fields}
use Rattle.gx_commands.specs.declared.command.Change.{Change}
use Rattle.gx_commands.specs.Commands.{IsChangeOf}
use Rattle.gx_ports.specs.LeafMaps.{LeafMap, Limits, map_at, entry_count, IsCrowdedBy}
use Rattle.gx_mapping.specs.Rule.{In, IsOf}
use Rattle.gx_gather.proofs.Lists.{in_each, from_each, all_of, in_or_not}
use Rattle.gx_gather.proofs.Entries.{in_find}
use Rattle.gx_stack.specs.declared.entries.LeafEntry.{LeafEntry}
use Rattle.gx_stack.specs.Tree.{Tree, leaves_of, tree_form, entries_of}
use Rattle.gx_stack.specs.Internal.{at}
use Rattle.gx_stack.proofs.Children.{union_from_internal, internal_from_union}
use Rattle.gx_stack.proofs.Unique.{entry_leaf, entries_apart}
use Rattle.gx_types.specs.declared.any.AnyMapping.{AnyMapping}
use Rattle.gx_types.specs.Any.{any_rule, any_laws}
use Rattle.gx_typing.specs.Dues.{file_form}
use Rattle.gx_model.specs.States.{File, Row, IsRowOf, HasRowsOf}
use Rattle.gx_model.specs.Commands.{Refusal, with_changes, updated, first_refusal, key_exists, no_record}
use Rattle.gx_pairs.specs.declared.refused.Refused.{Refused}
use Rattle.gx_scan.specs.Files.{rec_of, file_records, IsInternal, IsStorable, IsTreeFor}
use Rattle.gx_scan.specs.Searched.{HasInside}
use Rattle.gx_scan.proofs.FileLemmas.{one_key, inside_key, row_fits, in_there, there_in}
use Rattle.gx_states.proofs.LinkLemmas.{there_fits}
use Rattle.gx_edits.specs.Home.{HoldsKey, IsHome}
use Rattle.gx_edits.specs.Records.{IsEdited, IsEditedWhere}
use Rattle.gx_edits.proofs.RecordLemmas.{value_fits}

-- ---- the span of one key

pub home_of_span : (file : FileDef) (key : Value) (span : Span) (t u : Tree AnyMapping)
    → IsStorable file → Fits (key_kind file) key → span.lo ≡ bytes_of key → span.hi ≡ bytes_of key
    → tree_form any_rule t ≡ file_form file → HasInside span t u → IsHome file key t u
home_of_span file key span t u storable fit lo hi form has =
    let inside : is_inside span.lo span.hi (key_of (key ∷ [])) ≡ true =
    (λ i. is_inside (lo i) (hi i) (key_of (key ∷ [])))
    ∙ inside_key file key key storable.key fit fit ∙ value_itself key in
    record {
      tree = has.tree file;
      leaves = has.leaves;
      held = λ maps f is.
          let p = has.held file maps f storable.keyed form is in
          record { part = p.part; held = p.held; same = p.same key inside };
      entries = λ values fits.
          let row : Row = (key, values) in
          let of_file = row_fits file row storable.keyed (fit, fits) in
          has.entries (rec_of row) (subst (λ fm. IsOf fm (rec_of row)) (sym form) of_file) inside;
    }

-- ---- an edit at the home

-- the values of a record fit after changes of the file
changed_fit : (file : FileDef) (cs : List Change) (vs : List Value)
    → AllByRecursion (IsChangeOf file) cs → AreFit (data_fields file) vs
    → AreFit (data_fields file) (with_changes vs cs)
changed_fit file [] vs those fit = fit
changed_fit file (c ∷ cs) vs those fit =
    changed_fit file cs (slice_set vs (c.field - 1) c.value) those.1
    (value_fits file c vs c.value those.0 fit refl)

-- a file that is another one but for what it has at a key
abbrev pub IsButAt : Value → File → File → Type 0
IsButAt key f g = (q : Value) → q ≢ key → fin.get g q ≡ fin.get f q

-- an entry of the record with this key and these values, below a tree
abbrev pub IsEntryOf : Tree AnyMapping → Value → List Value → LeafEntry → Type 0
IsEntryOf t k vs e = In e (entries_of any_rule t (rec_of (k, vs)))

-- one of a record of the file
abbrev pub IsEntryIn : Tree AnyMapping → File → LeafEntry → Type 0
IsEntryIn t f e = In e (flat_map (entries_of any_rule t) (file_records f))

-- such a record, as a look-up finds it
record IsOwner (t : Tree AnyMapping) (f : File) (e : LeafEntry) : Type 0 where
  key : Value
  values : List Value
  found : fin.get f key ≡ Some values
  its : IsEntryOf t key values e

owner : (t : Tree AnyMapping) (f : File) (e : LeafEntry) → IsEntryIn t f e → IsOwner t f e
owner t f e h =
    let r = from_each (entries_of any_rule t) e (file_records f) h in
    let a = in_there f r.0 r.1 in
    record {
      key = a.key;
      values = a.values;
      found = a.found;
      its = subst (λ (x : Rec). In e (entries_of any_rule t x)) a.is r.2;
    }

entry_in : (t : Tree AnyMapping) (f : File) (e : LeafEntry) (k : Value) (vs : List Value)
    → fin.get f k ≡ Some vs → IsEntryOf t k vs e → IsEntryIn t f e
entry_in t f e k vs found its =
    in_each (entries_of any_rule t) (rec_of (k, vs)) e (file_records f) (there_in f k vs found) its

module _ (file : FileDef) (key : Value) (t u : Tree AnyMapping) (home : IsHome file key t u)
    (many : ℕ) (tree : IsTreeFor file t many) (storable : IsStorable file) where
  -- an entry of a record with this key is one of the home, and the other way round
  down : (k : Value) (vs : List Value) (e : LeafEntry) → k ≡ key → IsRowOf file (k, vs)
      → IsEntryOf t k vs e → IsEntryOf u key vs e
  down k vs e same row h =
      subst (In e) (home.entries vs row.1) (subst (λ q. IsEntryOf t q vs e) same h)

  up : (k : Value) (vs : List Value) (e : LeafEntry) → k ≡ key → IsRowOf file (k, vs)
      → IsEntryOf u k vs e → IsEntryOf t key vs e
  up k vs e same row h =
      subst (In e) (sym (home.entries vs row.1)) (subst (λ q. IsEntryOf u q vs e) same h)

  -- rows of a file with the same entry have one key
  one_owner : (x : Tree AnyMapping) → IsTreeFor file x many → (k q : Value) (vs ws : List Value)
      (e : LeafEntry) → IsRowOf file (k, vs) → IsRowOf file (q, ws) → IsEntryOf x k vs e
      → IsEntryOf x q ws e → k ≡ q
  one_owner x for k q vs ws e a b h i =
      let of_form : (r : Row) → IsRowOf file r → IsOf (tree_form any_rule x) (rec_of r) =
      λ r row. subst (λ form. IsOf form (rec_of r)) (sym for.form)
      (row_fits file r storable.keyed row) in
      one_key k q (entries_apart any_rule any_laws x for.valid (rec_of (k, vs)) (rec_of (q, ws))
      (of_form (k, vs) a) (of_form (q, ws) b) e e h i refl refl)

  module _ (old new : List LeafMap) (f g p q : File) (is : IsInternal file t old f)
      (part : IsInternal file u old p) (done : IsInternal file u new q)
      (was : fin.get p key ≡ fin.get f key) (now : fin.get q key ≡ fin.get g key)
      (f_but : IsButAt key f g) (p_but : IsButAt key p q)
      (others : (n : ℕ) → (In n (leaves_of u) → ⊥) → map_at new n ≡ map_at old n) where
    -- the records after the change fit the file
    after_fits : HasRowsOf file g
    after_fits = all_of (IsRowOf file) (fin.entries g) (λ r h.
        let found = in_find value_cmp_total r (fin.entries g) (fin.entries_sorted g) h in
        let got : fin.get g r.0 ≡ Some r.1 = fin.get-entries g r.0 ∙ found in
        elim (value_cases r.0 key) [
          | inl same ↦ there_fits file q r.0 r.1 done.fit
              (ap (fin.get q) same ∙ now ∙ ap (fin.get g) (sym same) ∙ got)
          | inr other ↦ there_fits file f r.0 r.1 is.fit (sym (f_but r.0 other) ∙ got)
        ])

    held_entry : (e : LeafEntry) → IsEntryIn t g e → at new e.leaf e.key ≡ Some e.body
    held_entry e h =
        let above = union_from_internal any_rule t (file_records f) old is.held in
        let before = union_from_internal any_rule u (file_records p) old part.held in
        let after = union_from_internal any_rule u (file_records q) new done.held in
        let a = owner t g e h in
        elim (value_cases a.key key) [
          | inl same ↦ (
              let got : fin.get q key ≡ Some a.values = now ∙ ap (fin.get g) (sym same) ∙ a.found in
              let row = there_fits file g a.key a.values after_fits a.found in
              let low = down a.key a.values e same row a.its in
              after.holds e (entry_in u q e key a.values got low))
          | inr other ↦ (
              let there : fin.get f a.key ≡ Some a.values = sym (f_but a.key other) ∙ a.found in
              let stood = above.holds e (entry_in t f e a.key a.values there a.its) in
              elim (in_or_not e.leaf (leaves_of u)) [
                | inl inside ↦ (
                    let b = owner u p e (before.only e inside stood) in
                    let row_a = there_fits file f a.key a.values is.fit there in
                    let row_b = there_fits file p b.key b.values part.fit b.found in
                    let apart : b.key ≢ key = λ same.
                    other (one_owner t tree a.key key a.values b.values e row_a
                    (subst (λ k. IsRowOf file (k, b.values)) same row_b) a.its
                    (up b.key b.values e same row_b b.its)) in
                    let kept = p_but b.key apart ∙ b.found in
                    after.holds e (entry_in u q e b.key b.values kept b.its))
                | inr outside ↦
                    ap (λ (m : LeafMap). fin.get m e.key) (others e.leaf outside) ∙ stood
              ])
        ]

    only_entry : (e : LeafEntry) → In e.leaf (leaves_of t) → at new e.leaf e.key ≡ Some e.body
        → IsEntryIn t g e
    only_entry e in_leaf found =
        let above = union_from_internal any_rule t (file_records f) old is.held in
        let before = union_from_internal any_rule u (file_records p) old part.held in
        let after = union_from_internal any_rule u (file_records q) new done.held in
        elim (in_or_not e.leaf (leaves_of u)) [
          | inl inside ↦ (
              let b = owner u q e (after.only e inside found) in
              let row_b = there_fits file q b.key b.values done.fit b.found in
              elim (value_cases b.key key) [
                | inl same ↦ (
                    let got : fin.get g key ≡ Some b.values =
                    sym now ∙ ap (fin.get q) (sym same) ∙ b.found in
                    entry_in t g e key b.values got (up b.key b.values e same row_b b.its))
                | inr other ↦ (
                    let there : fin.get p b.key ≡ Some b.values =
                    sym (p_but b.key other) ∙ b.found in
                    let stood = before.holds e (entry_in u p e b.key b.values there b.its) in
                    let a = owner t f e (above.only e in_leaf stood) in
                    let row_a = there_fits file f a.key a.values is.fit a.found in
                    let apart : a.key ≢ key = λ same.
                    other (one_owner u (home.tree many tree) b.key key b.values a.values e row_b
                    (subst (λ k. IsRowOf file (k, a.values)) same row_a) b.its
                    (down a.key a.values e same row_a a.its)) in
                    entry_in t g e a.key a.values (f_but a.key apart ∙ a.found) a.its)
              ])
          | inr outside ↦ (
              let stood =
              ap (λ (m : LeafMap). fin.get m e.key) (sym (others e.leaf outside)) ∙ found in
              let a = owner t f e (above.only e in_leaf stood) in
              let row_a = there_fits file f a.key a.values is.fit a.found in
              let apart : a.key ≢ key = λ same.
              outside (entry_leaf any_rule u (rec_of (key, a.values)) e
              (down a.key a.values e same row_a a.its)) in
              entry_in t g e a.key a.values (f_but a.key apart ∙ a.found) a.its)
        ]

    edited_above : IsEdited file t old new g
    edited_above = record {
      stands = record {
        fit = after_fits;
        held = internal_from_union any_rule t (file_records g) new tree.valid
            (record { holds = held_entry; only = only_entry });
      };
      others = λ n out. others n (λ h. out (home.leaves n h));
    }

  -- an edit of the home's part is one of the file
  edited_at_home : (old new : List LeafMap) (f g p q : File) (refusal : Option Refusal)
      (why : Option Refused) → IsInternal file t old f → IsInternal file u old p
      → fin.get p key ≡ fin.get f key → fin.get q key ≡ fin.get g key → IsButAt key f g
      → IsButAt key p q → IsEditedWhere file u old new p refusal q why
      → IsEditedWhere file t old new f refusal g why
  edited_at_home old new f g p q refusal why is part was now f_but p_but edited = record {
    why_is = edited.why_is;
    edited = by_test (is_some refusal) edited.edited;
  }
    where
      by_test : (b : Bool) → IsEdited file u old new (cond b p q)
          → IsEdited file t old new (cond b f g)
      by_test true done = edited_above old new f f p p is part done.stands was was
          (λ k other. refl) (λ k other. refl) done.others
      by_test false done = edited_above old new f g p q is part done.stands was now
          f_but p_but done.others

  inserted_at : (f : File) (vs : List Value) → fin.get (fin.insert f key vs) key ≡ Some vs
  inserted_at f vs = fin.get-insert value_cmp_total f key vs key
      ∙ ap (λ b. cond b (Some vs) (fin.get f key)) (value_itself key)

  insert_but : (f : File) (vs : List Value) → IsButAt key f (fin.insert f key vs)
  insert_but f vs q other = fin.get-insert value_cmp_total f key vs q
      ∙ ap (λ b. cond b (Some vs) (fin.get f q)) (other_value q key other)

  removed_at : (f : File) → fin.get (fin.remove f key) key ≡ None
  removed_at f = fin.get-remove value_cmp_total f key key
      ∙ ap (λ b. cond b None (fin.get f key)) (value_itself key)

  remove_but : (f : File) → IsButAt key f (fin.remove f key)
  remove_but f q other = fin.get-remove value_cmp_total f key q
      ∙ ap (λ b. cond b None (fin.get f q)) (other_value q key other)

  module _ (old new : List LeafMap) (f : File) (is : IsInternal file t old f)
      (h : HoldsKey file key u old f) (why : Option Refused) where
    -- where the part has what the file has at the key, it is refused where that is
    same_test : (test : Option (List Value) → Bool) (refusal : Refusal) (q : File)
        → IsEditedWhere file u old new h.part
        (first_refusal ((test (fin.get h.part key), refusal) ∷ [])) q why
        → IsEditedWhere file u old new h.part
        (first_refusal ((test (fin.get f key), refusal) ∷ [])) q why
    same_test test refusal q edited =
        subst (λ (o : Option (List Value)). IsEditedWhere file u old new h.part
        (first_refusal ((test o, refusal) ∷ [])) q why) h.same edited

    pub insert_above : (vs : List Value) → IsEditedWhere file u old new h.part
        (first_refusal ((is_some (fin.get h.part key), key_exists) ∷ []))
        (fin.insert h.part key vs) why
        → IsEditedWhere file t old new f
        (first_refusal ((is_some (fin.get f key), key_exists) ∷ [])) (fin.insert f key vs) why
    insert_above vs edited =
        edited_at_home old new f (fin.insert f key vs) h.part (fin.insert h.part key vs) _ why
        is h.held h.same (inserted_at h.part vs ∙ sym (inserted_at f vs))
        (insert_but f vs) (insert_but h.part vs)
        (same_test (λ o. is_some o) key_exists (fin.insert h.part key vs) edited)

    pub delete_above : IsEditedWhere file u old new h.part
        (first_refusal ((not (is_some (fin.get h.part key)), no_record) ∷ []))
        (fin.remove h.part key) why
        → IsEditedWhere file t old new f
        (first_refusal ((not (is_some (fin.get f key)), no_record) ∷ [])) (fin.remove f key) why
    delete_above edited =
        edited_at_home old new f (fin.remove f key) h.part (fin.remove h.part key) _ why
        is h.held h.same (removed_at h.part ∙ sym (removed_at f))
        (remove_but f) (remove_but h.part)
        (same_test (λ o. not (is_some o)) no_record (fin.remove h.part key) edited)

    pub update_above : (cs : List Change) → IsEditedWhere file u old new h.part
        (first_refusal ((not (is_some (fin.get h.part key)), no_record) ∷ []))
        (updated h.part key cs) why
        → IsEditedWhere file t old new f
        (first_refusal ((not (is_some (fin.get f key)), no_record) ∷ [])) (updated f key cs) why
    update_above cs edited =
        let now : fin.get (updated h.part key cs) key ≡ fin.get (updated f key cs) key =
        inserted_at h.part _
        ∙ ap (λ (o : Option (List Value)). Some (with_changes (unwrap_or o []) cs)) h.same
        ∙ sym (inserted_at f _) in
        edited_at_home old new f (updated f key cs) h.part (updated h.part key cs) _ why
        is h.held h.same now (insert_but f _) (insert_but h.part _)
        (same_test (λ o. not (is_some o)) no_record (updated h.part key cs) edited)

  -- ---- the cause of a full device

  module _ (limit : Option Limits) (maps : List LeafMap) (f : File)
      (h : HoldsKey file key u maps f) where
    short_above : (vs : List Value) → AreFit (data_fields file) vs
        → IsCrowdedBy limit (entry_count maps + length (entries_of any_rule u (rec_of (key, vs))))
        → IsCrowdedBy limit (entry_count maps + length (entries_of any_rule t (rec_of (key, vs))))
    short_above vs fit short =
        subst (λ (es : List LeafEntry). IsCrowdedBy limit (entry_count maps + length es))
        (sym (home.entries vs fit)) short

    pub insert_short : (vs : List Value) → AreFit (data_fields file) vs
        → (fin.get h.part key ≡ None)
        × IsCrowdedBy limit (entry_count maps + length (entries_of any_rule u (rec_of (key, vs))))
        → (fin.get f key ≡ None)
        × IsCrowdedBy limit (entry_count maps + length (entries_of any_rule t (rec_of (key, vs))))
    insert_short vs fit short = (sym h.same ∙ short.0, short_above vs fit short.1)

    pub update_short : (cs : List Change) → AllByRecursion (IsChangeOf file) cs
        → (vs : List Value) × (fin.get h.part key ≡ Some vs)
        × IsCrowdedBy limit
        (entry_count maps + length (entries_of any_rule u (rec_of (key, with_changes vs cs))))
        → (vs : List Value) × (fin.get f key ≡ Some vs)
        × IsCrowdedBy limit
        (entry_count maps + length (entries_of any_rule t (rec_of (key, with_changes vs cs))))
    update_short cs those short =
        let row = there_fits file h.part key short.0 h.held.fit short.1 in
        let fit = changed_fit file cs short.0 those row.1 in
        (short.0, sym h.same ∙ short.1, short_above (with_changes short.0 cs) fit short.2)
