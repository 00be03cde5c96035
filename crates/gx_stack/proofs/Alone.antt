-- A layer of which one child alone is searched.
use Rattle.std.proofs.Common.{◌≡◌, ◌≢◌, ◌<◌, ◌≤◌, ◌+◌, ℕ, zero, suc, true, false, List, [], ◌∷◌, ◌++◌, None, inl, inr, refl, sym, ap, ◌∙◌, subst, length, map, take, drop, arith, append-nil, length-append}
use Rattle.std.specs.List.{sum_by, flat_map}
use Rattle.gx_laws.proofs.NumberLemmas.{nat_cases}
use Rattle.gx_values.specs.declared.values.Value.{Value}
use Rattle.gx_values.specs.declared.records.Field.{Field}
use Rattle.gx_values.specs.declared.records.Rec.{Rec}
use Rattle.gx_values.specs.declared.keys.Span.{Span}
use Rattle.gx_values.specs.Values.{AreFit}
use Rattle.gx_mapping.specs.declared.parts.Part.{Part}
use Rattle.gx_mapping.specs.Rule.{Rule, In, IsOf, data_parts, IsOfKey, AreOfKey, IsGathered}
use Rattle.gx_mapping.specs.Laws.{MappingLaws}
use Rattle.gx_mapping.proofs.RuleLemmas.{the_one, sorted_one}
use Rattle.gx_gather.specs.Gather.{rec_cmp, part_for, AreEach}
use Rattle.gx_gather.proofs.Lists.{in_map, from_map}
use Rattle.gx_gather.proofs.Orders.{ascends, ascends_once}
use Rattle.gx_gather.proofs.Made.{nothing_left}
use Rattle.gx_gather.proofs.Each.{each_those, made_of_each}
use Rattle.gx_stack.specs.Tree.{Tree, Kids, layer, entries_of, kid_entries, entry_total}
use Rattle.gx_stack.specs.Internal.{IsSet, child_records}
use Rattle.gx_mapping.specs.Searched.{IsAlone, is_searched}
use Rattle.gx_mapping.proofs.FieldLemmas.{values_count}
use Rattle.gx_stack.specs.Selected.{IsKeySpan, IsSelection}
use Rattle.gx_stack.proofs.Selects.{AreParts, within, no_parts, searched_rest, child_found, child_left, selection_from, set_within, all_made, plus_one, weight, child_weight, data_weight}

-- ---- the keys of the child are those of the records

module _ {rule : Rule} (laws : MappingLaws rule) (span : Span) (c : ℕ) (alone : IsAlone rule span c)
  where
    pub alone_below : c < rule.kids
    alone_below = alone.0.0

    pub alone_rest : rule.holds_rest c ≡ true
    alone_rest = searched_rest (rule.holds_rest c) _ alone.0.1

    pub same_keys : (rule.kid_form c).keys ≡ rule.form.keys
    same_keys =
        let more = laws.keys_lead c alone.0.0 (searched_rest (rule.holds_rest c) _ alone.0.1) in
        let long = ap length more.1 in
        let zero_left : 0 ≡ length more.0 =
        omega (arith, long, alone.1, length-append rule.form.keys more.0) in
        more.1 ∙ ap (λ (fs : List Field). rule.form.keys ++ fs) (nothing_left more.0 zero_left)
        ∙ append-nil rule.form.keys

    pub alone_of_key : (q : Rec) → IsOf (rule.kid_form c) q
        → AreOfKey rule q.key (part_for c q ∷ [])
    alone_of_key q fits =
        let of_key : IsOfKey rule q.key (part_for c q) =
        record {
          child = alone_below;
          rest = alone_rest;
          fits = fits;
          under = ([], sym (append-nil q.key));
        } in
        record {
          key_fits = subst (λ (fs : List Field). AreFit fs q.key) same_keys fits.key;
          each = λ p there. subst (IsOfKey rule q.key) (sym (the_one p (part_for c q) there))
              of_key;
        }

-- ---- what is found there

take_all : (xs : List Value) → take (length xs) xs ≡ xs
take_all [] = refl
take_all (x ∷ xs) = ap (λ ys. x ∷ ys) (take_all xs)

module _ {rule : Rule} (laws : MappingLaws rule) (R : List Rec) (set : IsSet rule.form R)
    (span : Span) (fits : IsKeySpan rule.form span) where
  none_below : (n : ℕ) → ((d : ℕ) → d < n → is_searched rule span d ≡ false)
      → AreParts rule (within span R) n []
  none_below zero none = no_parts rule (within span R)
  none_below (suc n) none = subst (λ k. AreParts rule (within span R) k []) (plus_one n)
      (child_left laws R set span fits n [] (none_below n (λ d lt. none d (omega arith)))
      (none n (omega arith)))

  parts_below : (c : ℕ) (found : List Rec) → is_searched rule span c ≡ true
      → IsSelection (child_records rule c R) span found → (n : ℕ) → c < n
      → ((d : ℕ) → d < n → d ≢ c → is_searched rule span d ≡ false)
      → AreParts rule (within span R) n (map (part_for c) found)
  parts_below c found is sel zero lt others = absurd (omega arith)
  parts_below c found is sel (suc n) lt others = elim (nat_cases n c) [
    | inl e ↦ (
        let none = none_below c (λ d below. others d (omega (arith, e))
        (λ same. let clash : ⊥ = omega (arith, same) in clash)) in
        subst (λ k. AreParts rule (within span R) k (map (part_for c) found))
        (plus_one c ∙ ap suc (sym e))
        (child_found laws R set span fits c [] none found (searched_rest (rule.holds_rest c) _ is)
        sel))
    | inr other ↦ subst (λ k. AreParts rule (within span R) k (map (part_for c) found)) (plus_one n)
        (child_left laws R set span fits n (map (part_for c) found)
        (parts_below c found is sel n (omega (arith, other))
        (λ d below apart. others d (omega arith) apart)) (others n (omega arith) other))
  ]

  module _ (c : ℕ) (alone : IsAlone rule span c) (qs : List Rec)
      (sel : IsSelection (child_records rule c R) span qs) where
    alone_parts : AreParts rule (within span R) rule.kids (map (part_for c) qs)
    alone_parts = parts_below c qs alone.0.1 sel rule.kids alone.0.0 alone.0.2

    -- the records that are made of it are those inside the span
    pub alone_selection : (rs : List Rec) → AreEach rule c qs rs → IsSelection R span rs
    alone_selection rs each = selection_from laws R set span (map (part_for c) qs) rs alone_parts
        (made_of_each rule c qs rs each (ascends rec_cmp qs sel.in_order))

    -- and each is made
    pub alone_made : ((q : Rec) → In q qs → IsOf (rule.kid_form c) q) → (q : Rec) → In q qs
        → IsGathered rule q.key (part_for c q ∷ []) None → ⊥
    alone_made fit q h none =
        let width = length rule.form.keys in
        let whole : (x : Rec) → In x qs → take width x.key ≡ x.key =
        λ x i. ap (λ n. take n x.key) (sym alone.1
        ∙ sym (values_count (rule.kid_form c).keys x.key (fit x i).key)) ∙ take_all x.key in
        all_made laws (within span R) (set_within rule.form span R set) (map (part_for c) qs)
        alone_parts width (Unit {0}) refl tt (record {
          key = q.key;
          group = part_for c q ∷ [];
          first = part_for c q;
          there = inl refl;
          sound = λ p i.
              let e = the_one p (part_for c q) i in (
                subst (λ (x : Part). In x (map (part_for c) qs)) (sym e)
                    (in_map (part_for c) q qs h),
                ap (λ (x : Part). take width x.rec.key) e
                    ∙ whole q h,
              );
          complete = λ p i k.
              let m = from_map (part_for c) p qs i in
              let key : m.0.key ≡ q.key = sym (whole m.0 m.1)
              ∙ ap (λ (x : Part). take width x.rec.key) (sym m.2) ∙ k in
              inl (m.2 ∙ ap (part_for c) (ascends_once qs m.0 q (ascends rec_cmp qs sel.in_order)
              m.1 h key));
          in_order = λ ordered. sorted_one (part_for c q);
          none = none;
        })

-- how many entries come from it there, and in the layer
pub alone_total : {M : Type 0} (rule : M → Rule) (m : M) (ks : Kids M) (c : ℕ) (t : Tree M)
    (qs rs : List Rec) → ((r : Rec) → kid_entries rule ks c r ≡ entries_of rule t r)
    → AreEach (rule m) c qs rs → entry_total rule t qs ≤ entry_total rule (layer m ks) rs
alone_total rule m ks c t qs rs same each =
    let those : sum_by (weight rule ks) (flat_map (data_parts (rule m)) rs) ≡ sum_by
    (weight rule ks) (map (part_for c) qs) =
    ap (λ (ps : List Part). sum_by (weight rule ks) ps) (each_those (rule m) c qs rs each) in
    omega (arith, child_weight rule ks c t qs same, those, data_weight rule m ks rs)

-- ---- what was appended

pub front_to : {A : Type 0} (xs ys all : List A) (n : ℕ) → n ≡ length xs → all ≡ xs ++ ys
    → take n all ≡ xs
front_to xs ys all n long is = (λ i. take (long i) (is i)) ∙ go xs ys
  where
    go : {A : Type 0} (xs ys : List A) → take (length xs) (xs ++ ys) ≡ xs
    go [] ys = refl
    go (x ∷ xs) ys = ap (λ zs. x ∷ zs) (go xs ys)

pub back_from : {A : Type 0} (xs ys all : List A) (n : ℕ) → n ≡ length xs → all ≡ xs ++ ys
    → drop n all ≡ ys
back_from xs ys all n long is = (λ i. drop (long i) (is i)) ∙ go xs ys
  where
    go : {A : Type 0} (xs ys : List A) → drop (length xs) (xs ++ ys) ≡ ys
    go [] ys = refl
    go (x ∷ xs) ys = go xs ys
