-- A leaf that was read whole, and lists of parts that are compared.
use Rattle.std.proofs.Common.{◌≡◌, ◌<◌, ◌+◌, ℕ, zero, suc, Bool, true, false, cond, List, [], ◌∷◌, ◌++◌, Some, refl, sym, ap, ◌∙◌, subst, length, map, take, get_or, arith}
use Rattle.std.specs.Prelude.{◌&&◌, nat_eq}
use Rattle.std.proofs.lemmas.Bool.{true≢false, eqb-true, eq-eqb}
use Rattle.std.proofs.lemmas.List.{take_more}
use Rattle.std.specs.List.{filter}
use Rattle.std.specs.FinMap.{get, entries}
use Rattle.std.specs.Ordering.{eq_by_cmp}
use Rattle.std.proofs.lemmas.Option.{same_Some}
use Rattle.gx_values.specs.declared.records.Form.{Form}
use Rattle.gx_values.specs.declared.records.Rec.{Rec}
use Rattle.gx_values.specs.declared.keys.Span.{Span}
use Rattle.gx_values.specs.Values.{values_cmp}
use Rattle.gx_values.specs.Keys.{key_of, is_inside}
use Rattle.gx_values.proofs.OrderLemmas.{all_inside}
use Rattle.gx_ports.specs.declared.leaves.Entry.{Entry}
use Rattle.gx_ports.specs.LeafMaps.{LeafMap, entry_of, selected}
use Rattle.gx_mapping.specs.declared.parts.Part.{Part}
use Rattle.gx_mapping.specs.Rule.{In, IsOf}
use Rattle.gx_stack.specs.Tree.{IsLeafForm, leaf_body}
use Rattle.gx_stack.specs.Internal.{IsSet, IsLeafMap}
use Rattle.gx_stack.specs.Read.{entry_of_rec}
use Rattle.gx_gather.specs.Gather.{rec_cmp}
use Rattle.gx_stack.specs.Held.{is_same_part}
use Rattle.std.specs.List.Sorted.{IsStrictlySortedBy}
use Rattle.gx_gather.proofs.Lists.{in_map, from_map, in_filter, filter_in}
use Rattle.gx_gather.proofs.Orders.{values_same, values_itself}
use Rattle.gx_stack.proofs.LeafRead.{entry_get, get_entry, same_rec, leaf_selection}

-- ---- parts

three_true : (a b c : Bool) → a && (b && c) ≡ true → (a ≡ true) × (b ≡ true) × (c ≡ true)
three_true true true c e = (refl, refl, e)
three_true true false c e = absurd (true≢false (sym e))
three_true false b c e = absurd (true≢false (sym e))

pub part_same : (p q : Part) → is_same_part p q ≡ true → p ≡ q
part_same p q e =
    let t = three_true (nat_eq p.child q.child) (eq_by_cmp values_cmp p.rec.key q.rec.key)
    (eq_by_cmp values_cmp p.rec.fields q.rec.fields) e in
    let child = eqb-true p.child q.child t.0 in
    let key = values_same p.rec.key q.rec.key t.1 in
    let fields = values_same p.rec.fields q.rec.fields t.2 in
    λ i. record { child = child i; rec = record { key = key i; fields = fields i } }

pub part_itself : (p : Part) → is_same_part p p ≡ true
part_itself p = λ i. eq-eqb p.child p.child refl i
    && (values_itself p.rec.key i && values_itself p.rec.fields i)

take_all : {A : Type 0} (xs : List A) → take (length xs) xs ≡ xs
take_all [] = refl
take_all (x ∷ xs) = ap (λ ys. x ∷ ys) (take_all xs)

pub parts_same : (n : ℕ) (ps qs : List Part) → length ps ≡ length qs → n ≡ length ps
    → take n ps ≡ take n qs → ps ≡ qs
parts_same n ps qs many end same = sym (take_all ps) ∙ ap (λ k. take k ps) (sym end) ∙ same
    ∙ ap (λ k. take k qs) (end ∙ many) ∙ take_all qs

pub part_more : (ps qs : List Part) (i : ℕ) (p q : Part) → i < length ps → i < length qs
    → p ≡ get_or ps i p → q ≡ get_or qs i q → is_same_part p q ≡ true → take i ps ≡ take i qs
    → take (i + 1) ps ≡ take (i + 1) qs
part_more ps qs i p q lt lt' read read' same so_far =
    take_more ps i p lt ∙ (λ j. so_far j ++ (sym read ∙ part_same p q same ∙ read') j ∷ [])
    ∙ sym (take_more qs i q lt')

pub part_other : (ps qs : List Part) (i : ℕ) (p q : Part) → i < length ps → p ≡ get_or ps i p
    → q ≡ get_or qs i q → is_same_part p q ≡ false → ps ≡ qs → ⊥
part_other ps qs i p q lt read read' other same =
    let one : p ≡ q = read ∙ any ps i p q lt ∙ ap (λ xs. get_or xs i q) same ∙ sym read' in
    true≢false (sym (part_itself p) ∙ ap (is_same_part p) one ∙ other)
  where
    any : (xs : List Part) (i : ℕ) (d e : Part) → i < length xs → get_or xs i d ≡ get_or xs i e
    any [] i d e l = absurd (omega arith)
    any (x ∷ xs) zero d e l = refl
    any (x ∷ xs) (suc i) d e l = any xs i d e (omega arith)

-- ---- one leaf

module _ (form : Form) (leaf_form : IsLeafForm form) (m : LeafMap) (span : Span) (lo : span.lo ≡ [])
    (hi : span.hi ≡ []) (found : List Rec) (fit : (r : Rec) → In r found
    → IsOf form r) (same : map entry_of_rec found ≡ selected span.lo span.hi m) where
  inside_all : (key : List ℕ) → is_inside span.lo span.hi key ≡ true
  inside_all key = (λ i. is_inside (lo i) (hi i) key) ∙ all_inside key

  rec_held : (r : Rec) → In r found → get m (key_of r.key) ≡ Some (leaf_body r.fields)
  rec_held r h =
      let p = from_map entry_of (entry_of_rec r)
      (filter (λ e. is_inside span.lo span.hi e.0) (entries m))
      (subst (In (entry_of_rec r)) same (in_map entry_of_rec r found h)) in
      let f = in_filter (λ e. is_inside span.lo span.hi e.0) p.0 (entries m) p.1 in
      ap (get m) (ap (λ (e : Entry). e.key) p.2) ∙ entry_get m p.0 f.0
      ∙ ap Some (ap (λ (e : Entry). e.body) (sym p.2))

  all_held : (key body : List ℕ) → get m key ≡ Some body
      → (r : Rec) × In r found × (key_of r.key ≡ key) × (leaf_body r.fields ≡ body)
  all_held key body h =
      let e = in_map entry_of (key, body) (filter (λ e. is_inside span.lo span.hi e.0) (entries m))
      (filter_in (λ e. is_inside span.lo span.hi e.0) (key, body) (entries m)
      (get_entry m key body h) (inside_all key)) in
      let q = from_map entry_of_rec (entry_of (key, body)) found
      (subst (In (entry_of (key, body))) (sym same) e) in
      (q.0, q.1, ap (λ (x : Entry). x.key) (sym q.2), ap (λ (x : Entry). x.body) (sym q.2))

  pub found_map : IsLeafMap m found
  found_map = record { holds = rec_held; only = all_held }

  found_set : IsSet form found
  found_set = record {
    fits = fit;
    one = λ r s h k e.
        let body : leaf_body r.fields ≡ leaf_body s.fields =
        same_Some (leaf_body r.fields) (leaf_body s.fields) (sym (rec_held r h)
        ∙ ap (λ key. get m (key_of key)) e ∙ rec_held s k) in
        same_rec form r s leaf_form (fit r h) (fit s k)
        (λ i. record { key = key_of (e i); body = body i });
  }

  pub leaf_in_order : IsStrictlySortedBy rec_cmp found
  leaf_in_order = (leaf_selection form leaf_form m span found found found_set found_map fit
      same).in_order

-- ---- filters

pub filter_keeps : {A : Type 0} (f : A → Bool) (x : A) (xs : List A) → f x ≡ true
    → filter f (x ∷ xs) ≡ x ∷ filter f xs
filter_keeps f x xs e = ap (λ b. cond b (x ∷ filter f xs) (filter f xs)) e

pub filter_drops : {A : Type 0} (f : A → Bool) (x : A) (xs : List A) → f x ≡ false
    → filter f (x ∷ xs) ≡ filter f xs
filter_drops f x xs e = ap (λ b. cond b (x ∷ filter f xs) (filter f xs)) e
