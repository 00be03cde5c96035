-- The records of a layer by what was found of them in one child.
use Rattle.std.proofs.Common.{◌≡◌, ◌≢◌, ◌<◌, ◌≤◌, ◌+◌, ℕ, Bool, true, false, Some, List, [], ◌∷◌, ◌++◌, inl, inr, refl, sym, ap, ◌∙◌, subst, length, map, drop, arith, append_assoc, length-append}
use Rattle.std.specs.Prelude.{◌&&◌}
use Rattle.std.proofs.lemmas.Bool.{true≢false}
use Rattle.std.proofs.lemmas.List.Sums.{sum_by-cons}
use Rattle.std.specs.List.{flat_map}
use Rattle.std.specs.declared.cmp.Ordering.TheVariants.{Less}
use Rattle.gx_laws.proofs.NumberLemmas.{nat_cases}
use Rattle.gx_laws.proofs.ListLemmas.{right_empty}
use Rattle.gx_values.specs.declared.values.Value.{Value}
use Rattle.gx_values.specs.declared.records.Rec.{Rec}
use Rattle.gx_values.specs.declared.keys.Span.{Span}
use Rattle.gx_values.specs.Values.{Fits, AreFit}
use Rattle.gx_values.specs.Keys.{bytes_of, key_of, is_inside}
use Rattle.gx_values.specs.Spans.{IsValueSpan}
use Rattle.gx_mapping.specs.declared.parts.Part.{Part}
use Rattle.gx_mapping.specs.Rule.{Rule, In, value_in}
use Rattle.gx_mapping.specs.Laws.{MappingLaws, IsCarrier, IsIndex}
use Rattle.gx_mapping.proofs.RuleLemmas.{all_in}
use Rattle.gx_stack.specs.Tree.{Tree, Kids, layer, entries_of, kid_entries, entry_total}
use Rattle.gx_stack.specs.Internal.{IsSet, child_records}
use Rattle.gx_gather.specs.Gather.{rec_cmp, part_for}
use Rattle.gx_stack.specs.Selected.{IsKeySpan}
use Rattle.gx_stack.specs.Indexed.{is_value_inside, is_where, AreUnderOwnKeys}
use Rattle.gx_gather.proofs.Lists.{in_left, in_right, in_cases}
use Rattle.gx_gather.proofs.Orders.{rec_total, Ascends, not_before_itself}
use Rattle.gx_stack.proofs.Children.{from_child, in_child}
use Rattle.gx_stack.proofs.Selects.{le_longer, front_longer}

-- ---- no record twice

abbrev pub AreOnceEach : List Rec → Type 0
AreOnceEach [] = Unit {0}
AreOnceEach (f ∷ fs) = (In f fs → ⊥) × AreOnceEach fs

pub own_once : (fs : List Rec) → AreUnderOwnKeys fs → AreOnceEach fs
own_once [] own = tt
own_once (f ∷ fs) own = (λ h. own.0 f h refl, own_once fs own.1)

pub ascending_once : (fs : List Rec) → Ascends rec_cmp fs → AreOnceEach fs
ascending_once [] up = tt
ascending_once (f ∷ fs) up = (
  λ h. not_before_itself rec_total f (all_in (λ y. rec_cmp f y ≡ Less) fs f up.0 h),
  ascending_once fs up.1,
)

own_append : (xs ys : List Rec) → AreUnderOwnKeys xs → AreUnderOwnKeys ys
    → ((x y : Rec) → In x xs → In y ys → y.key ≢ x.key) → AreUnderOwnKeys (xs ++ ys)
own_append [] ys own more apart = more
own_append (x ∷ xs) ys own more apart = (
  λ s h. elim (in_cases s xs ys h) [
    | inl i ↦ own.0 s i
    | inr i ↦ apart x s (inl refl) i
  ],
  own_append xs ys own.1 more (λ y z i k. apart y z (inr i) k),
)

-- ---- the records that one child's records come from

-- what was found comes from the record: `key` gives the record's key of it, and `test` what the
-- record's test gives
pub record IsLift (rule : Rule) (R : List Rec) (c : ℕ) (key : Rec
    → List Value) (test record_test : Rec → Bool) (f r : Rec) : Type 0 where
  pub there : In r R
  pub part : In (part_for c f) (rule.parts r)
  pub key_is : key f ≡ r.key
  pub same : record_test r ≡ test f

module _ {rule : Rule} (laws : MappingLaws rule) (R : List Rec) (set : IsSet rule.form R) (c : ℕ)
    (key : Rec → List Value) (test record_test : Rec → Bool)
    (single : (r : Rec) (p q : Part) → In r R → In p (rule.parts r) → In q (rule.parts r)
    → p.child ≡ c → q.child ≡ c → p ≡ q)
    (lift : (f : Rec) → In f (child_records rule c R)
    → (r : Rec) × IsLift rule R c key test record_test f r) where
  Lift : Rec → Rec → Type 0
  Lift = IsLift rule R c key test record_test

  pub AreLifted : List Rec → List Rec → Type 0
  AreLifted [] [] = Unit {0}
  AreLifted [] (r ∷ rs) = ⊥
  AreLifted (f ∷ fs) [] = ⊥
  AreLifted (f ∷ fs) (r ∷ rs) = Lift f r × AreLifted fs rs

  pub lifted : (fs : List Rec) → ((f : Rec) → In f fs → In f (child_records rule c R))
      → (rs : List Rec) × AreLifted fs rs
  unfolding AreLifted Lift
  lifted [] of = ([], tt)
  lifted (f ∷ fs) of =
      let r = lift f (of f (inl refl)) in
      let rest = lifted fs (λ g h. of g (inr h)) in
      (r.0 ∷ rest.0, (r.1, rest.1))

  pub lifted_keys : (fs rs : List Rec) → AreLifted fs rs → map key fs ≡ map (λ r. r.key) rs
  unfolding AreLifted Lift
  lifted_keys [] [] are = refl
  lifted_keys [] (r ∷ rs) are = absurd are
  lifted_keys (f ∷ fs) [] are = absurd are
  lifted_keys (f ∷ fs) (r ∷ rs) are =
      (let first = are.0.key_is in let rest = lifted_keys fs rs are.1 in λ i. first i ∷ rest i)

  pub lifted_from : (fs rs : List Rec) (r : Rec) → AreLifted fs rs → In r rs
      → (f : Rec) × In f fs × IsLift rule R c key test record_test f r
  unfolding AreLifted Lift
  lifted_from [] [] r are h = absurd h
  lifted_from [] (s ∷ rs) r are h = absurd are
  lifted_from (f ∷ fs) [] r are h = absurd h
  lifted_from (f ∷ fs) (s ∷ rs) r are (inl e) =
      (f, inl refl, subst (IsLift rule R c key test record_test f) (sym e) are.0)
  lifted_from (f ∷ fs) (s ∷ rs) r are (inr h) =
      (let rest = lifted_from fs rs r are.1 h in (rest.0, inr rest.1, rest.2))

  lifted_to : (fs rs : List Rec) (f : Rec) → AreLifted fs rs → In f fs
      → (r : Rec) × In r rs × IsLift rule R c key test record_test f r
  unfolding AreLifted Lift
  lifted_to [] rs f are h = absurd h
  lifted_to (g ∷ fs) [] f are h = absurd are
  lifted_to (g ∷ fs) (s ∷ rs) f are (inl e) =
      (s, inl refl, subst (λ x. IsLift rule R c key test record_test x s) (sym e) are.0)
  lifted_to (g ∷ fs) (s ∷ rs) f are (inr h) =
      (let rest = lifted_to fs rs f are.1 h in (rest.0, inr rest.1, rest.2))

  -- a part is of one record
  same_rec : (f r s : Rec) → In r R → In s R → In (part_for c f) (rule.parts r)
      → In (part_for c f) (rule.parts s) → r ≡ s
  same_rec f r s h k i j =
      set.one r s h k (laws.apart r s (part_for c f) (part_for c f) (set.fits r h)
      (set.fits s k) i j refl refl)

  pub lifted_once : (fs rs : List Rec) → AreLifted fs rs → AreOnceEach fs → AreUnderOwnKeys rs
  unfolding AreLifted Lift
  lifted_once [] [] are once = tt
  lifted_once [] (r ∷ rs) are once = absurd are
  lifted_once (f ∷ fs) [] are once = absurd are
  lifted_once (f ∷ fs) (r ∷ rs) are once = (
    λ s h e.
        let g = lifted_from fs rs s are.1 h in
        let same : s ≡ r = set.one s r g.2.there are.0.there e in
        let part = single r (part_for c f) (part_for c g.0) are.0.there are.0.part
        (subst (λ x. In (part_for c g.0) (rule.parts x)) same g.2.part) refl refl in
        once.0 (subst (λ x. In x fs) (sym (ap (λ (p : Part). p.rec) part)) g.1),
    lifted_once fs rs are.1 once.1,
  )

  -- a record that has a part in the child and meets the test is among them
  pub lifted_complete : (fs rs : List Rec) → AreLifted fs rs
      → ((f : Rec) → In f (child_records rule c R) → test f ≡ true → In f fs) → (r : Rec) (p : Part)
      → In r R → In p (rule.parts r) → p.child ≡ c → record_test r ≡ true → In r rs
  lifted_complete fs rs are complete r p h k e meets =
      let mine : In (part_for c p.rec) (rule.parts r) =
      subst (λ (q : Part). In q (rule.parts r)) (λ i. record { child = e i; rec = p.rec }) k in
      let child = in_child rule c R r p h k e in
      let s = lift p.rec child in
      let same : s.0 ≡ r = same_rec p.rec s.0 r s.1.there h s.1.part mine in
      let met : test p.rec ≡ true = sym s.1.same ∙ ap record_test same ∙ meets in
      let found = lifted_to fs rs p.rec are (complete p.rec child met) in
      subst (λ x. In x rs) (same_rec p.rec found.0 r found.2.there h found.2.part mine) found.1

  pub lifted_sound : (fs rs : List Rec) → AreLifted fs rs → ((f : Rec) → In f fs → test f ≡ true)
      → (r : Rec) → In r rs → In r R × (record_test r ≡ true)
  lifted_sound fs rs are sound r h =
      (let f = lifted_from fs rs r are h in (f.2.there, f.2.same ∙ sound f.0 f.1))

  -- their entries are no fewer
  pub lifted_weight : {M : Type 0} (rules : M → Rule) (m : M) (ks : Kids M) (t : Tree M)
      → rules m ≡ rule → ((r : Rec) → kid_entries rules ks c r ≡ entries_of rules t r)
      → (fs rs : List Rec) → AreLifted fs rs
      → entry_total rules t fs ≤ entry_total rules (layer m ks) rs
  unfolding AreLifted Lift
  lifted_weight rules m ks t is child [] [] are = omega arith
  lifted_weight rules m ks t is child [] (r ∷ rs) are = absurd are
  lifted_weight rules m ks t is child (f ∷ fs) [] are = absurd are
  lifted_weight rules m ks t is child (f ∷ fs) (r ∷ rs) are =
      let entries = λ (p : Part). kid_entries rules ks p.child p.rec in
      let one = part_weight entries ((rules m).parts r) (part_for c f)
      (subst (λ (x : Rule). In (part_for c f) (x.parts r)) (sym is) are.0.part) in
      let here : length (kid_entries rules ks c f) ≡ length (entries_of rules t f) =
      ap length (child f) in
      let left : entry_total rules t (f ∷ fs) ≡ length (entries_of rules t f)
      + entry_total rules t fs = sum_by-cons (λ (q : Rec). length (entries_of rules t q)) f fs
      in
      let right : entry_total rules (layer m ks) (r ∷ rs) ≡ length (entries_of rules (layer m ks) r)
      + entry_total rules (layer m ks) rs =
      sum_by-cons (λ (q : Rec). length (entries_of rules (layer m ks) q)) r rs in
      omega (arith, one, here, left, right, lifted_weight rules m ks t is child fs rs are.1)
    where
      part_weight : {A B : Type 0} (g : A → List B) (ps : List A) (p : A) → In p ps
          → length (g p) ≤ length (flat_map g ps)
      part_weight g [] p h = absurd h
      part_weight g (q ∷ ps) p (inl e) =
          omega (arith, ap (λ x. length (g x)) e, length-append (g q) (flat_map g ps))
      part_weight g (q ∷ ps) p (inr h) =
          omega (arith, part_weight g ps p h, length-append (g q) (flat_map g ps))

-- ---- a child that carries the field

module _ {rule : Rule} (laws : MappingLaws rule) (R : List Rec) (set : IsSet rule.form R)
    (name : List ℕ) (span : Span) (c : ℕ) (below : c < rule.kids)
    (carries : rule.carries c name ≡ true) where
  carrier : IsCarrier rule name c
  carrier = laws.carried name c below carries

  pub carrier_single : (r : Rec) (p q : Part) → In r R → In p (rule.parts r) → In q (rule.parts r)
      → p.child ≡ c → q.child ≡ c → p ≡ q
  carrier_single r p q h i j e f =
      let is = carrier.each r (set.fits r h) in
      is.only p i (ap (λ n. rule.carries n name) e ∙ carries)
      ∙ sym (is.only q j (ap (λ n. rule.carries n name) f ∙ carries))

  pub carrier_lift : (f : Rec) → In f (child_records rule c R)
      → (r : Rec) × IsLift rule R c (λ f. f.key) (is_where (rule.kid_form c) name span)
      (is_where rule.form name span) f r
  carrier_lift f h =
      let r = from_child rule c R f h in
      let p = r.2 in
      let is = carrier.each r.0 (set.fits r.0 r.1) in
      let same : part_for c f ≡ p.0 = λ i. record { child = sym p.2 i; rec = sym p.3 i } in
      let only : p.0 ≡ is.part = is.only p.0 p.1 (ap (λ n. rule.carries n name) p.2 ∙ carries) in
      let of : is.part ≡ part_for c f = sym (same ∙ only) in
      let value : value_in (rule.kid_form c).fields f.fields name ≡ Some is.value =
      ap (λ (q : Part). value_in (rule.kid_form q.child).fields q.rec.fields name) (sym of)
      ∙ is.of_part in (
        r.0,
        record {
          there = r.1;
          part = subst (λ (q : Part). In q (rule.parts r.0)) (sym same) p.1;
          key_is = ap (λ (q : Part). q.rec.key) (sym of) ∙ is.key;
          same = ap (is_value_inside span) (is.of_record ∙ sym value);
        },
      )

-- ---- an index

-- a span of the field is one of the index
pub index_span : (rule : Rule) (name : List ℕ) (c : ℕ) (span : Span) (is : IsIndex rule name c)
    → IsValueSpan is.field.kind span → IsKeySpan (rule.kid_form c) span
index_span rule name c span is whole = record {
  lo_whole = λ key rest fits e. by_key span.lo whole.lo_whole key rest
      (subst (λ form. AreFit form.keys key) is.form fits) e;
  hi_whole = λ key rest fits e. by_key span.hi whole.hi_whole key rest
      (subst (λ form. AreFit form.keys key) is.form fits) e;
}
  where
    by_key : (end : List ℕ)
        → ((v : Value) (rest : List ℕ) → Fits is.field.kind v → end ≡ bytes_of v ++ rest
        → rest ≡ []) → (key : List Value) (rest : List ℕ)
        → AreFit (is.field ∷ rule.form.keys) key → end ≡ key_of key ++ rest → rest ≡ []
    by_key end none [] rest fits e = absurd fits
    by_key end none (v ∷ vs) rest fits e =
        right_empty (key_of vs) rest
        (none v (key_of vs ++ rest) fits.0 (e ∙ append_assoc (bytes_of v) (key_of vs) rest))

module _ {rule : Rule} (laws : MappingLaws rule) (R : List Rec) (set : IsSet rule.form R)
    (name : List ℕ) (span : Span) (c : ℕ) (is : IsIndex rule name c)
    (whole : IsValueSpan is.field.kind span) where
  pub index_single : (r : Rec) (p q : Part) → In r R → In p (rule.parts r) → In q (rule.parts r)
      → p.child ≡ c → q.child ≡ c → p ≡ q
  index_single r p q h i j e f =
      (let n = is.entered r (set.fits r h) in n.only p i e ∙ sym (n.only q j f))

  pub index_lift : (f : Rec) → In f (child_records rule c R)
      → (r : Rec) × IsLift rule R c (λ f. drop 1 f.key)
      (λ f. is_inside span.lo span.hi (key_of f.key)) (is_where rule.form name span) f r
  index_lift f h =
      let r = from_child rule c R f h in
      let p = r.2 in
      let n = is.entered r.0 (set.fits r.0 r.1) in
      let same : part_for c f ≡ p.0 = λ i. record { child = sym p.2 i; rec = sym p.3 i } in
      let only : p.0 ≡ n.part = n.only p.0 p.1 p.2 in
      let key : f.key ≡ n.value ∷ r.0.key = ap (λ (q : Part). q.rec.key) (same ∙ only) ∙ n.key in
      let fit_part = (laws.fit r.0 p.0 (set.fits r.0 r.1) p.1).1 in
      let fits : AreFit (is.field ∷ rule.form.keys) f.key =
      subst (λ form. AreFit form.keys f.key) is.form
      (subst (λ (q : Part). AreFit (rule.kid_form q.child).keys q.rec.key) (sym same) fit_part.key)
      in
      let value : Fits is.field.kind n.value =
      (subst (AreFit (is.field ∷ rule.form.keys)) key fits).0 in
      let longer : is_inside span.lo span.hi (bytes_of n.value ++ key_of r.0.key)
      ≡ is_inside span.lo span.hi (bytes_of n.value) =
      (λ i. le_longer span.lo (bytes_of n.value) (key_of r.0.key)
      (λ rest. whole.lo_whole n.value rest value) i && front_longer span.hi (bytes_of n.value)
      (key_of r.0.key) (λ rest. whole.hi_whole n.value rest value) i) in (
        r.0,
        record {
          there = r.1;
          part = subst (λ (q : Part). In q (rule.parts r.0)) (sym same) p.1;
          key_is = ap (drop 1) key;
          same = ap (is_value_inside span) n.of_record
              ∙ sym (ap (λ (k : List Value). is_inside span.lo span.hi (key_of k)) key ∙ longer);
        },
      )

-- ---- the records found in the first children that carry the field

-- the record has a part in a child below c that carries the field
pub record IsCarriedBelow (rule : Rule) (name : List ℕ) (c : ℕ) (r : Rec) : Type 0 where
  pub part : Part
  pub there : In part (rule.parts r)
  pub carries : rule.carries part.child name ≡ true
  pub below : part.child < c

pub record AreFoundBelow (rule : Rule) (name : List ℕ) (span : Span) (R : List Rec) (c : ℕ)
    (recs : List Rec) : Type 0 where
  pub sound : (r : Rec) → In r recs → In r R × (is_where rule.form name span r ≡ true)
  pub carried : (r : Rec) → In r recs → IsCarriedBelow rule name c r
  pub complete : (r : Rec) → In r R → is_where rule.form name span r ≡ true
      → IsCarriedBelow rule name c r → In r recs
  pub once : AreUnderOwnKeys recs

pub none_found : (rule : Rule) (name : List ℕ) (span : Span) (R : List Rec)
    → AreFoundBelow rule name span R 0 []
none_found rule name span R =
    record {
      sound = λ r h. absurd h;
      carried = λ r h. absurd h;
      complete = λ r h e is. absurd (let lt = is.below in omega arith);
      once = tt;
    }

later_carried : {rule : Rule} {name : List ℕ} {c : ℕ} {r : Rec} → IsCarriedBelow rule name c r
    → IsCarriedBelow rule name (c + 1) r
later_carried is = record {
  part = is.part;
  there = is.there;
  carries = is.carries;
  below = (let lt = is.below in omega arith);
}

-- a child that doesn't carry it
pub found_skip : (rule : Rule) (name : List ℕ) (span : Span) (R : List Rec) (c : ℕ)
    (recs : List Rec) → rule.carries c name ≡ false → AreFoundBelow rule name span R c recs
    → AreFoundBelow rule name span R (c + 1) recs
found_skip rule name span R c recs none are = record {
  sound = are.sound;
  carried = λ r h. later_carried (are.carried r h);
  complete = λ r h e is. elim (nat_cases is.part.child c) [
    | inl same ↦ absurd (true≢false (sym is.carries ∙ ap (λ n. rule.carries n name) same ∙ none))
    | inr other ↦ are.complete r h e
        (record {
          part = is.part;
          there = is.there;
          carries = is.carries;
          below = (let lt = is.below in omega arith);
        })
  ];
  once = are.once;
}

-- and one that does, in which these were found
pub found_add : {rule : Rule} (laws : MappingLaws rule) (R : List Rec) (set : IsSet rule.form R)
    (name : List ℕ) (span : Span) (c : ℕ) (recs fs rs : List Rec) (below : c < rule.kids)
    (carries : rule.carries c name ≡ true)
    → AreFoundBelow rule name span R c recs
    → AreLifted laws R set c (λ f. f.key) (is_where (rule.kid_form c) name span)
    (is_where rule.form name span) (carrier_single laws R set name span c below carries)
    (carrier_lift laws R set name span c below carries) fs rs
    → ((f : Rec) → In f fs → is_where (rule.kid_form c) name span f ≡ true)
    → ((f : Rec) → In f (child_records rule c R) → is_where (rule.kid_form c) name span f ≡ true
    → In f fs) → AreOnceEach fs
    → AreFoundBelow rule name span R (c + 1) (recs ++ rs)
found_add {rule} laws R set name span c recs fs rs below carries are lifts sound complete once =
    let key = λ (f : Rec). f.key in
    let test = is_where (rule.kid_form c) name span in
    let whether = is_where rule.form name span in
    let single = carrier_single laws R set name span c below carries in
    let lift = carrier_lift laws R set name span c below carries in
    record {
      sound = λ r h. elim (in_cases r recs rs h) [
        | inl i ↦ are.sound r i
        | inr i ↦ lifted_sound laws R set c key test whether single lift fs rs lifts sound r i
      ];
      carried = λ r h. elim (in_cases r recs rs h) [
        | inl i ↦ later_carried (are.carried r i)
        | inr i ↦ (let f = lifted_from laws R set c key test whether single lift fs rs r lifts i in
            record {
              part = part_for c f.0;
              there = f.2.part;
              carries = carries;
              below = omega arith;
            })
      ];
      complete = λ r h e is. elim (nat_cases is.part.child c) [
        | inl same ↦ in_right r recs rs
            (lifted_complete laws R set c key test whether single lift fs rs lifts complete r
            is.part h is.there same e)
        | inr other ↦ in_left r recs rs
            (are.complete r h e (record {
              part = is.part;
              there = is.there;
              carries = is.carries;
              below = (let lt = is.below in omega arith);
            }))
      ];
      once = own_append recs rs are.once
          (lifted_once laws R set c key test whether single lift fs rs lifts once) (λ x y i k e.
          let f = lifted_from laws R set c key test whether single lift fs rs y lifts k in
          let mine = are.carried x i in
          let same : y ≡ x = set.one y x f.2.there (are.sound x i).0 e in
          let is = (laws.carried name c below carries).each x (set.fits x (are.sound x i).0) in
          let part : mine.part ≡ part_for c f.0 = is.only mine.part mine.there mine.carries
          ∙ sym (is.only (part_for c f.0)
          (subst (λ z. In (part_for c f.0) (rule.parts z)) same f.2.part) carries) in
          let at : mine.part.child ≡ c = ap (λ (p : Part). p.child) part in
          let lt = mine.below in
          omega (arith, at, lt));
    }
