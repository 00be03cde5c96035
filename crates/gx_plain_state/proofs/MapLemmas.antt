-- Lists of entries in the order of their keys, seen as finite maps.
use Rattle.std.proofs.Common.{◌≡◌, ℕ, suc, ◌+◌, ◌<◌, List, [], ◌∷◌, length, get_or, set, cond, Bool, true, false, refl, sym, ap, subst, ◌∙◌, arith, None, Result, Ok, Err, OnOk, OnErr}
use Rattle.std.specs.Prelude.{T, not, filter}
use Rattle.std.specs.List.{insert, prefix_len}
use Rattle.std.specs.Ordering.{is_eq, is_gt, eq_by_cmp}
use Rattle.std.specs.declared.cmp.Ordering.{Ordering}
use Rattle.std.specs.declared.cmp.Ordering.TheVariants.{Less, Equal, Greater}
use Rattle.std.specs.Cmp.{eq_by_cmp_equiv}
use Rattle.std.specs.FinMap as fin
use Rattle.std.specs.FinMap.Entries.{by_order, find-where_key, is_sorted-put, is_sorted-where_key}
use Rattle.gx_values.specs.declared.values.Value.{Value}
use Rattle.gx_values.specs.Values.{value_cmp}
use Rattle.gx_values.proofs.OrderLemmas.{value_cmp_total, value_cmp_same}

abbrev pub is_past : Value → Value → Bool
is_past k x = is_gt (value_cmp k x)

pub empty_view : {X : Type 0} (es : List (Value × X)) → es ≡ []
    → fin.from_sorted {R = value_cmp} es ≡ fin.empty
empty_view {X} es is = ap (λ (l : List (Value × X)). fin.from_sorted {R = value_cmp} l) is ∙ none
  where
    none : fin.from_sorted {R = value_cmp} [] ≡ fin.empty {X = X}
    none = fin.empty_of_len (fin.from_sorted {R = value_cmp} [])
        (fin.len-entries (fin.from_sorted {R = value_cmp} [])
        ∙ ap length (fin.entries-from_sorted value_cmp [] tt))

pub entries_view : {X : Type 0} (es : List (Value × X)) → T (fin.is_sorted value_cmp es)
    → fin.entries (fin.from_sorted {R = value_cmp} es) ≡ es
entries_view es sorted = fin.entries-from_sorted value_cmp es sorted

pub get_view : {X : Type 0} (es : List (Value × X)) (k : Value) → T (fin.is_sorted value_cmp es)
    → fin.get (fin.from_sorted {R = value_cmp} es) k ≡ fin.find value_cmp k es
get_view es k sorted = fin.get-from_sorted value_cmp es k sorted

-- ---- one more entry

pub sorted_put : {X : Type 0} (es new : List (Value × X)) (k : Value) (v : X)
    → T (fin.is_sorted value_cmp es) → new ≡ fin.put value_cmp k v es
    → T (fin.is_sorted value_cmp new)
sorted_put {X} es new k v sorted is =
    subst (λ (l : List (Value × X)). T (fin.is_sorted value_cmp l)) (sym is)
    (is_sorted-put value_cmp value_cmp_total k v es sorted)

pub insert_view : {X : Type 0} (es new : List (Value × X)) (k : Value) (v : X)
    → T (fin.is_sorted value_cmp es) → new ≡ fin.put value_cmp k v es
    → fin.from_sorted {R = value_cmp} new ≡ fin.insert (fin.from_sorted es) k v
insert_view es new k v sorted is =
    fin.same_entries_map (fin.from_sorted {R = value_cmp} new) (fin.insert (fin.from_sorted es) k v)
    (entries_view new (sorted_put es new k v sorted is) ∙ is
    ∙ sym (fin.entries-insert value_cmp_total (fin.from_sorted es) k v
    ∙ ap (fin.put value_cmp k v) (entries_view es sorted)))

-- the entry is put where no smaller key is left, in the place of one with its key or before the
-- next
abbrev place : {X : Type 0} → Value → List (Value × X) → ℕ
place k es = prefix_len (λ e. is_past k e.0) es

-- the key at a place is another one, if there is one
abbrev IsApart : {X : Type 0} → Value → Value × X → List (Value × X) → ℕ → Type 0
IsApart k d es n = n < length es → is_eq (value_cmp k (get_or es n d).0) ≡ false

new_later : {X : Type 0} (k : Value) (v : X) (e : Value × X) (es : List (Value × X)) (d : Value × X)
    (n : ℕ) → n ≡ suc (place k es) → IsApart k d (e ∷ es) n
    → (IsApart k d es (place k es) → fin.put value_cmp k v es ≡ insert es (place k es) (k, v))
    → e ∷ fin.put value_cmp k v es ≡ insert (e ∷ es) n (k, v)
new_later {X} k v e es d n is apart later =
    subst (λ m. e ∷ fin.put value_cmp k v es ≡ insert (e ∷ es) m (k, v)) (sym is)
    (ap (λ (l : List (Value × X)). e ∷ l)
    (later (λ lt. subst (IsApart k d (e ∷ es)) is apart (omega arith))))

new_by : {X : Type 0} (k : Value) (v : X) (e : Value × X) (es : List (Value × X)) (d : Value × X)
    (r : Ordering) → value_cmp k e.0 ≡ r → IsApart k d (e ∷ es) (cond (is_gt r) (1 + place k es) 0)
    → (IsApart k d es (place k es) → fin.put value_cmp k v es ≡ insert es (place k es) (k, v))
    → by_order r ((k, v) ∷ e ∷ es) ((e.0, v) ∷ es) (e ∷ fin.put value_cmp k v es) ≡ insert
    (e ∷ es) (cond (is_gt r) (1 + place k es) 0) (k, v)
new_by k v e es d Less is apart later = refl
new_by k v e es d Equal is apart later = let no : true ≡ false = sym (ap is_eq is)
    ∙ apart (omega arith) in absurd cc
new_by k v e es d Greater is apart later =
    new_later k v e es d (1 + place k es) (omega arith) apart later

put_new : {X : Type 0} (k : Value) (v : X) (es : List (Value × X)) (d : Value × X)
    → IsApart k d es (place k es) → fin.put value_cmp k v es ≡ insert es (place k es) (k, v)
put_new k v [] d apart = refl
put_new k v (e ∷ es) d apart =
    new_by k v e es d (value_cmp k e.0) refl apart (λ h. put_new k v es d h)

old_later : {X : Type 0} (k : Value) (v : X) (e : Value × X) (es : List (Value × X)) (d : Value × X)
    (n : ℕ) → n ≡ suc (place k es) → n < length (e ∷ es)
    → is_eq (value_cmp k (get_or (e ∷ es) n d).0) ≡ true
    → (place k es < length es → is_eq (value_cmp k (get_or es (place k es) d).0) ≡ true
    → fin.put value_cmp k v es ≡ set es (place k es) (k, v))
    → e ∷ fin.put value_cmp k v es ≡ set (e ∷ es) n (k, v)
old_later {X} k v e es d n is lt same later =
    subst (λ m. e ∷ fin.put value_cmp k v es ≡ set (e ∷ es) m (k, v)) (sym is)
    (ap (λ (l : List (Value × X)). e ∷ l)
    (later (omega arith) (subst (λ m. is_eq (value_cmp k (get_or (e ∷ es) m d).0) ≡ true) is
    same)))

old_by : {X : Type 0} (k : Value) (v : X) (e : Value × X) (es : List (Value × X)) (d : Value × X)
    (r : Ordering) → value_cmp k e.0 ≡ r → cond (is_gt r) (1 + place k es) 0 < length (e ∷ es)
    → is_eq (value_cmp k (get_or (e ∷ es) (cond (is_gt r) (1 + place k es) 0) d).0) ≡ true
    → (place k es < length es → is_eq (value_cmp k (get_or es (place k es) d).0) ≡ true
    → fin.put value_cmp k v es ≡ set es (place k es) (k, v))
    → by_order r ((k, v) ∷ e ∷ es) ((e.0, v) ∷ es) (e ∷ fin.put value_cmp k v es) ≡ set (e ∷ es)
    (cond (is_gt r) (1 + place k es) 0) (k, v)
old_by k v e es d Less is lt same later = let no : false ≡ true = sym (ap is_eq is) ∙ same in
    absurd cc
old_by k v e es d Equal is lt same later =
    ap (λ (x : Value). (x, v) ∷ es) (sym (value_cmp_same k e.0 is))
old_by k v e es d Greater is lt same later =
    old_later k v e es d (1 + place k es) (omega arith) lt same later

put_old : {X : Type 0} (k : Value) (v : X) (es : List (Value × X)) (d : Value × X)
    → place k es < length es → is_eq (value_cmp k (get_or es (place k es) d).0) ≡ true
    → fin.put value_cmp k v es ≡ set es (place k es) (k, v)
put_old k v [] d lt same = absurd (omega arith)
put_old k v (e ∷ es) d lt same =
    old_by k v e es d (value_cmp k e.0) refl lt same (λ h t. put_old k v es d h t)

pub put_before : {X : Type 0} (k : Value) (v : X) (es new : List (Value × X)) (d : Value × X)
    (n : ℕ) → n ≡ place k es → (n < length es → is_eq (value_cmp k (get_or es n d).0) ≡ false)
    → new ≡ insert es n (k, v) → new ≡ fin.put value_cmp k v es
put_before k v es new d n at apart is = is ∙ ap (λ m. insert es m (k, v)) at
    ∙ sym (put_new k v es d (subst (IsApart k d es) at apart))

pub put_over : {X : Type 0} (k : Value) (v : X) (es new : List (Value × X)) (d : Value × X) (n : ℕ)
    → n ≡ place k es → n < length es → is_eq (value_cmp k (get_or es n d).0) ≡ true
    → new ≡ set es n (k, v) → new ≡ fin.put value_cmp k v es
put_over k v es new d n at lt same is = is ∙ ap (λ m. set es m (k, v)) at
    ∙ sym (put_old k v es d (subst (λ m. m < length es) at lt)
    (subst (λ m. is_eq (value_cmp k (get_or es m d).0) ≡ true) at same))

-- ---- one entry less

abbrev pub without : {X : Type 0} → Value → List (Value × X) → List (Value × X)
without k es = filter (λ e. not (eq_by_cmp value_cmp k e.0)) es

pub sorted_without : {X : Type 0} (es new : List (Value × X)) (k : Value)
    → T (fin.is_sorted value_cmp es) → new ≡ without k es → T (fin.is_sorted value_cmp new)
sorted_without {X} es new k sorted is =
    subst (λ (l : List (Value × X)). T (fin.is_sorted value_cmp l)) (sym is)
    (is_sorted-where_key value_cmp (λ x. not (eq_by_cmp value_cmp k x)) es sorted)

turned : {A : Type 0} (b c : Bool) (x y : A) → b ≡ c → cond (not b) x y ≡ cond c y x
turned true true x y e = refl
turned false false x y e = refl
turned true false x y e = absurd cc
turned false true x y e = absurd cc

pub remove_view : {X : Type 0} (es new : List (Value × X)) (k : Value)
    → T (fin.is_sorted value_cmp es) → new ≡ without k es
    → fin.from_sorted {R = value_cmp} new ≡ fin.remove (fin.from_sorted es) k
remove_view es new k sorted is =
    fin.same_map value_cmp_total value_cmp_same (fin.from_sorted {R = value_cmp} new)
    (fin.remove (fin.from_sorted es) k) (λ q.
    get_view new q (sorted_without es new k sorted is) ∙ ap (fin.find value_cmp q) is
    ∙ find-where_key value_cmp (λ x. not (eq_by_cmp value_cmp k x)) q
    (λ x t. ap (λ y. not (eq_by_cmp value_cmp k y)) (sym (value_cmp_same q x t))) es
    ∙ turned (eq_by_cmp value_cmp k q) (eq_by_cmp value_cmp q k) (fin.find value_cmp q es) None
    ((eq_by_cmp_equiv value_cmp_total).symm k q)
    ∙ sym (fin.get-remove value_cmp_total (fin.from_sorted es) k q
    ∙ ap (cond (eq_by_cmp value_cmp q k) None) (get_view es q sorted)))

-- ---- a list of entries that is put into, as a call answers

pub put_sorted : {X A E : Type 0} (r : Result A E) (es new : List (Value × X)) (k : Value) (v : X)
    → T (fin.is_sorted value_cmp es) → OnOk r (new ≡ fin.put value_cmp k v es) → OnErr r (new ≡ es)
    → T (fin.is_sorted value_cmp new)
put_sorted (Ok x) es new k v sorted ok err = sorted_put es new k v sorted ok
put_sorted {X} (Err e) es new k v sorted ok err =
    subst (λ (l : List (Value × X)). T (fin.is_sorted value_cmp l)) (sym err) sorted

pub put_view : {X A E : Type 0} (r : Result A E) (es new : List (Value × X)) (k : Value) (v : X)
    (m : fin.FinMap value_cmp X) → T (fin.is_sorted value_cmp es) → fin.from_sorted es ≡ m
    → OnOk r (new ≡ fin.put value_cmp k v es)
    → OnOk r (fin.from_sorted {R = value_cmp} new ≡ fin.insert m k v)
put_view (Ok x) es new k v m sorted is ok = insert_view es new k v sorted ok
    ∙ ap (λ n. fin.insert n k v) is
put_view (Err e) es new k v m sorted is ok = tt

-- what a comparison says of the entry at a place
pub tie_at : {X : Type 0} (es : List (Value × X)) (n : ℕ) (one here d : Value × X) (k : Value)
    (r : Ordering) (b : Bool) → k ≡ one.0 → here ≡ d → d ≡ get_or es n d → r ≡ value_cmp k here.0
    → is_eq r ≡ b → is_eq (value_cmp one.0 (get_or es n d).0) ≡ b
tie_at {X} es n one here d k r b key same at compared is =
    ap is_eq (sym (compared ∙ (λ i. value_cmp (key i) (same i).0)
    ∙ ap (λ (e : Value × X). value_cmp one.0 e.0) at)) ∙ is
