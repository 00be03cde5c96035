-- The file that records of its form make.
use Rattle.std.proofs.Common.{◌≡◌, ◌<◌, List, [], ◌∷◌, length, map, get_or, Some, None, inl, inr, refl, sym, ap, subst, ◌∙◌}
use Rattle.std.specs.Prelude.{T, pos}
use Rattle.std.specs.List.{AllByRecursion}
use Rattle.std.specs.Ordering.{is_lt}
use Rattle.std.specs.declared.cmp.Ordering.TheVariants.{Less}
use Rattle.std.specs.FinMap as fin
use Rattle.std.specs.FinMap.Entries.{below_all}
use Rattle.gx_laws.proofs.BoolLemmas.{both_true}
use Rattle.gx_laws.proofs.OrderingLemmas.{less_is}
use Rattle.gx_values.specs.declared.values.Value.{Value}
use Rattle.gx_values.specs.declared.values.Value.TheVariants as value
use Rattle.gx_values.specs.declared.records.Rec.{Rec}
use Rattle.gx_values.specs.Values.{value_cmp, Fits}
use Rattle.gx_schema.specs.declared.schema.FileDef.{FileDef}
use Rattle.gx_schema.specs.Lookups.{key_kind}
use Rattle.gx_ports.specs.LeafMaps.{LeafMap}
use Rattle.gx_mapping.specs.Rule.{In, IsOf}
use Rattle.gx_gather.specs.Gather.{rec_cmp}
use Rattle.gx_gather.proofs.Lists.{from_map, all_of}
use Rattle.gx_gather.proofs.Orders.{Ascends, ascends}
use Rattle.gx_stack.specs.Tree.{Tree, tree_form}
use Rattle.gx_stack.specs.Internal.{IsSet, IsInternal as IsHeldIn}
use Rattle.gx_stack.specs.Held.{IsHeld, AreHeld}
use Rattle.gx_types.specs.declared.any.AnyMapping.{AnyMapping}
use Rattle.gx_types.specs.Any.{any_rule}
use Rattle.gx_typing.specs.Dues.{file_form}
use Rattle.gx_links.proofs.PairLemmas.{one_value}
use Rattle.gx_model.specs.States.{File, Row, IsRowOf}
use Rattle.gx_scan.specs.Files.{rec_of, file_records}
use Rattle.gx_scan.specs.Within.{row_of}
use Rattle.gx_scan.proofs.FileLemmas.{key_of_form, set_of}
use Rattle.gx_audit.specs.Audits.{AreKeys}

abbrev none : Value
none = value.Int (pos 0)

-- the key of a record, as a row has it
abbrev pub key_at : Rec → Value
key_at r = (row_of r).0

module _ (file : FileDef) (keyed : 0 < length file.fields) where
  key_is : (r : Rec) → IsOf (file_form file) r → r.key ≡ key_at r ∷ []
  key_is r fits =
      let one = key_of_form file.fields r.key keyed fits.key in one.1
      ∙ ap (λ (k : Value). k ∷ []) (ap (λ (ks : List Value). get_or ks 0 none) (sym one.1))

  again : (r : Rec) → IsOf (file_form file) r → rec_of (row_of r) ≡ r
  again r fits = ap (λ (ks : List Value). record { key = ks; fields = r.fields })
      (sym (key_is r fits))

  row_fits : (r : Rec) → IsOf (file_form file) r → IsRowOf file (row_of r)
  row_fits r fits =
      let one = key_of_form file.fields r.key keyed fits.key in (
        subst (Fits (key_kind file)) (ap (λ (ks : List Value). get_or ks 0 none) (sym one.1))
            one.2,
        fits.fields,
      )

  all_again : (rs : List Rec) → ((r : Rec) → In r rs → IsOf (file_form file) r)
      → map rec_of (map row_of rs) ≡ rs
  all_again [] fits = refl
  all_again (r ∷ rs) fits =
      λ i. again r (fits r (inl refl)) i ∷ all_again rs (λ s h. fits s (inr h)) i

  rows_sorted : (rs : List Rec) → ((r : Rec) → In r rs → IsOf (file_form file) r)
      → Ascends rec_cmp rs
      → T (fin.is_sorted value_cmp (map row_of rs))
  rows_sorted [] fits up = tt
  rows_sorted (r ∷ rs) fits up =
      both_true (below_all value_cmp (key_at r) (map row_of rs))
      (fin.is_sorted value_cmp (map row_of rs))
      (below rs (λ s h. fits s (inr h)) up.0) (rows_sorted rs (λ s h. fits s (inr h)) up.1)
    where
      below : (xs : List Rec) → ((s : Rec) → In s xs → IsOf (file_form file) s)
          → AllByRecursion (λ q. rec_cmp r q ≡ Less) xs
          → T (below_all value_cmp (key_at r) (map row_of xs))
      below [] each all = tt
      below (x ∷ xs) each all =
          both_true (is_lt (value_cmp (key_at r) (key_at x)))
          (below_all value_cmp (key_at r) (map row_of xs))
          (less_is _ (one_value r x (key_at r) (key_at x) (key_is r (fits r (inl refl)))
          (key_is x (each x (inl refl))) all.0)) (below xs (λ s h. each s (inr h)) all.1)

keys_of_rows : (rs : List Rec) → map key_at rs ≡ map (λ (row : Row). row.0) (map row_of rs)
keys_of_rows [] = refl
keys_of_rows (r ∷ rs) = ap (λ (ks : List Value). key_at r ∷ ks) (keys_of_rows rs)

module _ (file : FileDef) (keyed : 0 < length file.fields) (t : Tree AnyMapping)
    (form : tree_form any_rule t ≡ file_form file)
    (whole : Type 0) (maps : List LeafMap) where
  -- what was found is a file
  pub keys_found : (found : List Rec) (keys : List Value) → AreHeld any_rule t whole maps found
      → keys ≡ map key_at found
      → AreKeys file t whole maps (Some keys)
  keys_found found keys are is = λ w.
      let fits : (r : Rec) → In r found → IsOf (file_form file) r =
      λ r h. subst (λ f. IsOf f r) form (are.fit r h) in
      let f : File = fin.from_sorted {R = value_cmp} (map row_of found) in
      let rows : fin.entries f ≡ map row_of found =
      fin.entries-from_sorted value_cmp (map row_of found)
      (rows_sorted file keyed found fits (ascends rec_cmp found (are.in_order w))) in (
        f,
        record {
          fit =
              subst (AllByRecursion (IsRowOf file)) (sym rows)
              (all_of (IsRowOf file) (map row_of found)
              (λ row h. let r = from_map row_of row found h in
              subst (IsRowOf file) (sym r.2) (row_fits file keyed r.0 (fits r.0 r.1))));
          held =
              subst (λ (rs : List Rec). IsHeldIn any_rule t rs maps)
              (sym (ap (map rec_of) rows ∙ all_again file keyed found fits)) (are.held w);
        },
        is ∙ keys_of_rows found ∙ ap (map (λ (row : Row). row.0)) (sym rows),
      )

  pub no_keys : IsHeld any_rule t whole maps None → AreKeys file t whole maps None
  no_keys held =
      λ w has. held w (
        file_records has.0,
        subst (λ x. IsSet x (file_records has.0)) (sym form)
            (set_of file has.0 keyed has.1.fit),
        has.1.held,
      )
