-- An ordered map of cells seen as a finite map.
use Rattle.std.proofs.Common.{◌≡◌, ℕ, Bool, true, false, cond, List, [], ◌∷◌, None, Some, refl, sym, ap, subst, ◌∙◌}
use Rattle.std.specs.Prelude.{T, IsSome}
use Rattle.std.specs.List.{AllByRecursion}
use Rattle.std.specs.List.Sorted.{IsStrictlySortedBy}
use Rattle.std.specs.Ordering.{is_eq, is_lt, eq_by_cmp, match_ordering}
use Rattle.std.specs.declared.cmp.Ordering.TheVariants.{Less, Equal, Greater}
use Rattle.std.specs.Cmp.Lexicographic.{nat_list_cmp_total}
use Rattle.std.specs.FinMap as fin
use Rattle.std.specs.FinMap.Entries.{by_order, find-put, below_all}
use Rattle.std.specs.Map.{keys_of, lookup, set_value, remove_entry}
use Rattle.std.specs.BTreeMap.{insert_entry, is_at}
use Rattle.std.proofs.lemmas.Map.Keys.{sorted_head, sorted_tail}
use Rattle.gx_laws.proofs.BoolLemmas.{both_true}
use Rattle.gx_ports.specs.Keyed.{key_cmp}
use Rattle.gx_ports.proofs.KeyLemmas.{only_equal, same_key, apart, shadowed, swapped, same_either}
use Rattle.gx_ports.proofs.KeyedLemmas.{entries_of_sorted}
use Rattle.gx_memory_leaves.specs.Cells.{Cell, Cells, cells_of}

abbrev pub is_key : List ℕ → List ℕ → Bool
is_key q = is_at (key_cmp q)

find_cells : (es : List (List ℕ × Cell)) (q : List ℕ) → fin.find key_cmp q es ≡ lookup (is_key q) es
find_cells [] q = refl
find_cells (e ∷ es) q = ap (cond (eq_by_cmp key_cmp q e.0) (Some e.1)) (find_cells es q)

-- a look-up
pub get_cells : (es : List (List ℕ × Cell)) (q : List ℕ)
    → fin.get (cells_of es) q ≡ lookup (is_key q) es
get_cells es q = fin.get-from_entries nat_list_cmp_total es q ∙ find_cells es q

put_cells : (es : List (List ℕ × Cell)) (k : List ℕ) (v : Cell)
    → (insert_entry key_cmp es k v) ≡ fin.put key_cmp k v es
put_cells [] k v = refl
put_cells (e ∷ es) k v =
    elim (key_cmp k e.0) as
    (λ r. (match_ordering r ((k, v) ∷ e ∷ es) ((e.0, v) ∷ es) (e ∷ insert_entry key_cmp es k v))
    ≡ by_order r ((k, v) ∷ (e.0, e.1) ∷ es) ((e.0, v) ∷ es)
    ((e.0, e.1) ∷ fin.put key_cmp k v es)) [
      | Less ↦ refl
      | Equal ↦ refl
      | Greater ↦ ap (λ (xs : List (List ℕ × Cell)). (e.0, e.1) ∷ xs) (put_cells es k v)
    ]

-- entries that find the same are the same map
alike : (es : List (List ℕ × Cell)) (m : Cells)
    → ((q : List ℕ) → fin.find key_cmp q es ≡ fin.get m q) → cells_of es ≡ m
alike es m same = fin.same_map nat_list_cmp_total only_equal (cells_of es) m
    (λ q. fin.get-from_entries nat_list_cmp_total es q ∙ same q)

-- an insertion
pub insert_cells : (es : List (List ℕ × Cell)) (k : List ℕ) (v : Cell)
    → cells_of (insert_entry key_cmp es k v) ≡ fin.insert (cells_of es) k v
insert_cells es k v = alike _ _ (λ q.
    ap (fin.find key_cmp q) (put_cells es k v)
    ∙ find-put key_cmp nat_list_cmp_total q k v es
    ∙ ap (cond (eq_by_cmp key_cmp q k) (Some v))
    (sym (fin.get-from_entries nat_list_cmp_total es q))
    ∙ sym (fin.get-insert nat_list_cmp_total (cells_of es) k v q))

find_set : (es : List (List ℕ × Cell)) (k : List ℕ) (w : Cell) (q : List ℕ)
    → IsSome (lookup (is_key k) es)
    → fin.find key_cmp q (set_value (is_key k) es w) ≡ cond (eq_by_cmp key_cmp q k) (Some w)
    (fin.find key_cmp q es)
find_set [] k w q some = cc
find_set (e ∷ es) k w q some =
    let rest = fin.find key_cmp q es in
    elim (is_key k e.0) as (λ b. is_key k e.0 ≡ b
    → IsSome (cond b (Some e.1) (lookup (is_key k) es))
    → fin.find key_cmp q ((cond b ((e.0, w) ∷ es) (e ∷ set_value (is_key k) es w))) ≡ cond
    (eq_by_cmp key_cmp q k) (Some w) (cond (eq_by_cmp key_cmp q e.0) (Some e.1) rest)) [
      | true ↦ λ t _. shadowed (eq_by_cmp key_cmp q e.0) (Some w) (Some e.1) rest
          ∙ ap (λ x. cond (eq_by_cmp key_cmp q x) (Some w)
          (cond (eq_by_cmp key_cmp q e.0) (Some e.1) rest)) (sym (same_key k e.0 t))
      | false ↦ λ t later. ap (cond (eq_by_cmp key_cmp q e.0) (Some e.1)) (find_set es k w q later)
          ∙ swapped (eq_by_cmp key_cmp q e.0) (eq_by_cmp key_cmp q k) (Some e.1) (Some w) rest
          (apart q k e.0 t)
    ] refl some

-- a value that is written over
pub set_cells : (es : List (List ℕ × Cell)) (k : List ℕ) (w : Cell) → IsSome (lookup (is_key k) es)
    → cells_of (set_value (is_key k) es w) ≡ fin.insert (cells_of es) k w
set_cells es k w some = alike _ _ (λ q.
    find_set es k w q some
    ∙ ap (cond (eq_by_cmp key_cmp q k) (Some w))
    (sym (fin.get-from_entries nat_list_cmp_total es q))
    ∙ sym (fin.get-insert nat_list_cmp_total (cells_of es) k w q))

none_later : (x : List ℕ) (es : List (List ℕ × Cell))
    → AllByRecursion (λ y. key_cmp x y ≡ Less) (keys_of es) → fin.find key_cmp x es ≡ None
none_later x [] below = refl
none_later x (e ∷ es) below = ap (λ r. cond (is_eq r) (Some e.1) (fin.find key_cmp x es)) below.0
    ∙ none_later x es below.1

find_remove : (es : List (List ℕ × Cell)) (k q : List ℕ) → IsStrictlySortedBy key_cmp (keys_of es)
    → fin.find key_cmp q (remove_entry (is_key k) es) ≡ cond (eq_by_cmp key_cmp q k) None
    (fin.find key_cmp q es)
find_remove [] k q sorted = sym (same_either (eq_by_cmp key_cmp q k) None)
find_remove (e ∷ es) k q sorted =
    let rest = fin.find key_cmp q es in
    elim (is_key k e.0) as (λ b. is_key k e.0 ≡ b
    → fin.find key_cmp q ((cond b es (e ∷ remove_entry (is_key k) es))) ≡ cond
    (eq_by_cmp key_cmp q k) None (cond (eq_by_cmp key_cmp q e.0) (Some e.1) rest)) [
      | true ↦ λ t. removed t
      | false ↦ λ t. ap (cond (eq_by_cmp key_cmp q e.0) (Some e.1))
          (find_remove es k q (sorted_tail key_cmp e.0 (keys_of es) sorted))
          ∙ swapped (eq_by_cmp key_cmp q e.0) (eq_by_cmp key_cmp q k) (Some e.1) None rest
          (apart q k e.0 t)
    ] refl
  where
    here : (b : Bool) → eq_by_cmp key_cmp q e.0 ≡ b
        → fin.find key_cmp q es ≡ cond b None (cond b (Some e.1) (fin.find key_cmp q es))
    here true t = subst (λ x. fin.find key_cmp x es ≡ None) (sym (same_key q e.0 t))
        (none_later e.0 es (sorted_head key_cmp e.0 (keys_of es) sorted))
    here false t = refl

    removed : is_key k e.0 ≡ true
        → fin.find key_cmp q es ≡ cond (eq_by_cmp key_cmp q k) None
        (cond (eq_by_cmp key_cmp q e.0) (Some e.1) (fin.find key_cmp q es))
    removed t = here (eq_by_cmp key_cmp q e.0) refl
        ∙ ap (λ x. cond (eq_by_cmp key_cmp q x) None
        (cond (eq_by_cmp key_cmp q e.0) (Some e.1) (fin.find key_cmp q es)))
        (sym (same_key k e.0 t))

-- a removal
pub remove_cells : (es : List (List ℕ × Cell)) (k : List ℕ)
    → IsStrictlySortedBy key_cmp (keys_of es)
    → cells_of (remove_entry (is_key k) es) ≡ fin.remove (cells_of es) k
remove_cells es k sorted = alike _ _ (λ q.
    find_remove es k q sorted
    ∙ ap (cond (eq_by_cmp key_cmp q k) None) (sym (fin.get-from_entries nat_list_cmp_total es q))
    ∙ sym (fin.get-remove nat_list_cmp_total (cells_of es) k q))

below_cells : (x : List ℕ) (es : List (List ℕ × Cell))
    → AllByRecursion (λ y. key_cmp x y ≡ Less) (keys_of es) → T (below_all key_cmp x es)
below_cells x [] below = tt
below_cells x (e ∷ es) below =
    both_true _ _ (subst (λ r. T (is_lt r)) (sym below.0) tt) (below_cells x es below.1)

sorted_cells : (es : List (List ℕ × Cell)) → IsStrictlySortedBy key_cmp (keys_of es)
    → T (fin.is_sorted key_cmp es)
sorted_cells [] sorted = tt
sorted_cells (e ∷ es) sorted =
    both_true _ _ (below_cells e.0 es (sorted_head key_cmp e.0 (keys_of es) sorted))
    (sorted_cells es (sorted_tail key_cmp e.0 (keys_of es) sorted))

-- the entries, in order
pub entries_cells : (es : List (List ℕ × Cell)) → IsStrictlySortedBy key_cmp (keys_of es)
    → fin.entries (cells_of es) ≡ es
entries_cells es sorted = entries_of_sorted es (sorted_cells es sorted)
