-- What stands under names in an ordered map, seen as a finite map.
use Rattle.std.proofs.Common.{◌≡◌, ℕ, true, false, List, [], ◌∷◌, ◌++◌, map, cond, Some, refl, sym, ap, ◌∙◌, append_assoc}
use Rattle.std.proofs.lemmas.List.{append-nil}
use Rattle.std.specs.Option.{option_map}
use Rattle.std.specs.Ordering.{nat_cmp, eq_by_cmp, match_ordering}
use Rattle.std.specs.declared.cmp.Ordering.{Ordering}
use Rattle.std.specs.declared.cmp.Ordering.TheVariants.{Less, Equal, Greater}
use Rattle.std.specs.Cmp.Lexicographic.{slice_cmp, nat_list_cmp_total}
use Rattle.std.specs.FinMap as fin
use Rattle.std.specs.FinMap.Entries.{by_order, find-put}
use Rattle.std.specs.Global.{Vec}
use Rattle.std.specs.Map.{lookup}
use Rattle.std.specs.BTreeMap.{insert_entry, is_at}
use Rattle.gx_memory_machine.specs.Names.{named_entry, by_name}

abbrev pub name_cmp : List ℕ → List ℕ → Ordering
name_cmp = slice_cmp nat_cmp

module _ {A : Type 0} where
  -- a look-up in the ordered map finds what the finite map has
  pub get_named : (es : List (Vec ℕ × Vec A)) (q : List ℕ)
      → fin.get (by_name es) q ≡ option_map (λ v. v.items)
      (lookup (is_at (λ k. name_cmp q k.items)) es)
  get_named es q = fin.get-from_entries nat_list_cmp_total (map named_entry es) q ∙ found es
    where
      found : (fs : List (Vec ℕ × Vec A))
          → fin.find name_cmp q (map named_entry fs) ≡ option_map (λ v. v.items)
          (lookup (is_at (λ k. name_cmp q k.items)) fs)
      found [] = refl
      found (f ∷ fs) = elim (eq_by_cmp name_cmp q f.0.items) as (λ b. cond b (Some f.1.items)
          (fin.find name_cmp q (map named_entry fs)) ≡ option_map (λ v. v.items)
          (cond b (Some f.1) (lookup (is_at (λ k. name_cmp q k.items)) fs))) [
            | true ↦ refl
            | false ↦ found fs
          ]

  put_entry : (es : List (Vec ℕ × Vec A)) (k : Vec ℕ) (v : Vec A)
      → map named_entry (insert_entry (λ x y. name_cmp x.items y.items) es k v)
      ≡ fin.put name_cmp k.items v.items (map named_entry es)
  put_entry [] k v = refl
  put_entry (e ∷ es) k v =
      elim (name_cmp k.items e.0.items) as
      (λ r. map named_entry (match_ordering r ((k, v) ∷ e ∷ es) ((e.0, v) ∷ es)
      (e ∷ insert_entry (λ x y. name_cmp x.items y.items) es k v)) ≡ by_order r
      ((k.items, v.items) ∷ named_entry e ∷ map named_entry es)
      ((e.0.items, v.items) ∷ map named_entry es)
      (named_entry e ∷ fin.put name_cmp k.items v.items (map named_entry es))) [
        | Less ↦ refl
        | Equal ↦ refl
        | Greater ↦ ap (λ (xs : List (List ℕ × List A)). named_entry e ∷ xs) (put_entry es k v)
      ]

  -- something is set under a name
  pub set_named : (es : List (Vec ℕ × Vec A)) (k : Vec ℕ) (v : Vec A)
      → by_name (insert_entry (λ x y. name_cmp x.items y.items) es k v) ≡ fin.insert
      (by_name es) k.items v.items
  set_named es k v = fin.same_map nat_list_cmp_total
      (fin.slice_cmp-IsAntisymmetric fin.nat_cmp-IsAntisymmetric) _ _ (λ q.
      fin.get-from_entries nat_list_cmp_total
      (map named_entry (insert_entry (λ x y. name_cmp x.items y.items) es k v)) q
      ∙ ap (fin.find name_cmp q) (put_entry es k v)
      ∙ find-put name_cmp nat_list_cmp_total q k.items v.items (map named_entry es)
      ∙ sym (fin.get-insert nat_list_cmp_total (by_name es) k.items v.items q
      ∙ ap (cond (eq_by_cmp name_cmp q k.items) (Some v.items))
      (fin.get-from_entries nat_list_cmp_total (map named_entry es) q)))

  -- the entries behind those that are left have been copied
  pub record Copies (all left copy : List (Vec ℕ × Vec A)) : Type 0 where
    pub done : List (Vec ℕ × Vec A)
    pub split : all ≡ left ++ done
    pub same : by_name copy ≡ by_name done

  pub none_copied : (all copy : List (Vec ℕ × Vec A)) → copy ≡ [] → Copies all all copy
  none_copied all copy is = record {
    done = [];
    split = sym (append-nil all);
    same = ap by_name is;
  }

  pub one_copied : (all left rest copy next : List (Vec ℕ × Vec A)) (e : Vec ℕ × Vec A)
      (k : Vec ℕ) (v : Vec A) → Copies all left copy → left ≡ rest ++ e ∷ []
      → next ≡ insert_entry (λ x y. name_cmp x.items y.items) copy k v
      → k.items ≡ e.0.items → v.items ≡ e.1.items → Copies all rest next
  one_copied all left rest copy next e k v c last is name items = record {
    done = e ∷ c.done;
    split = c.split ∙ ap (λ (l : List (Vec ℕ × Vec A)). l ++ c.done) last
        ∙ append_assoc rest (e ∷ []) c.done;
    same = ap by_name is ∙ set_named copy k v
        ∙ (λ i. fin.insert (c.same i) (name i) (items i));
  }
