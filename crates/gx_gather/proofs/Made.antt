-- Records gathered from sorted parts.
use Rattle.std.proofs.Common.{◌≡◌, ◌<◌, ℕ, zero, suc, Bool, true, false, not, List, [], ◌∷◌, ◌++◌, Some, None, inl, inr, refl, sym, ap, ◌∙◌, subst, length, take, drop, arith, append_assoc, append-nil}
use Rattle.std.proofs.lemmas.Bool.{true≢false}
use Rattle.std.proofs.lemmas.List.Concat.{flat_map-append}
use Rattle.std.proofs.lemmas.List.Sorted.{Contains-permutation, IsPermutation-sym}
use Rattle.std.proofs.lemmas.Map.Keys.{IsDistinct-from_sorted, IsDistinct-IsPermutation}
use Rattle.std.specs.List.{flat_map}
use Rattle.std.specs.List.Sorted.{IsPermutation, IsSortedBy, IsStrictlySortedBy}
use Rattle.std.specs.Ordering.{is_lt, eq_by_cmp}
use Rattle.std.specs.declared.cmp.Ordering.TheVariants.{Less}
use Rattle.std.specs.Cmp.{eq_by_cmp_equiv}
use Rattle.gx_values.specs.declared.values.Value.{Value}
use Rattle.gx_values.specs.declared.records.Field.{Field}
use Rattle.gx_values.specs.declared.records.Rec.{Rec}
use Rattle.gx_values.specs.Values.{values_cmp, AreFit}
use Rattle.gx_mapping.specs.declared.parts.Part.{Part}
use Rattle.gx_mapping.specs.Rule.{Rule, In, IsOf, data_parts, part_cmp, AreOfKey, IsGathered}
use Rattle.gx_mapping.specs.Laws.{MappingLaws}
use Rattle.gx_mapping.proofs.FieldLemmas.{values_count}
use Rattle.gx_mapping.proofs.RuleLemmas.{values_cmp_total}
use Rattle.gx_gather.specs.Gather.{rec_cmp, gather_cmp, first_front, is_next, AreAlike, IsDataPart, AreDataParts, AreMade, AreMadeOf, IsUnmade}
use Rattle.gx_gather.proofs.Lists.{in_left, in_right, in_cases, from_each, in_filter, in_contains, contains_in}
use Rattle.gx_gather.proofs.Orders.{part_total, gather_total, values_same, before_other, front_up, front_tied, not_before_itself, Ascends, ascends, sorted, ascends_append, ascends_middle, ascends_by, Rises, rises, rises_across, rises_last, rises_ascends, gather_ties}

-- ---- fronts of keys

take_front : (xs ys : List Value) → take (length xs) (xs ++ ys) ≡ xs
take_front [] ys = refl
take_front (x ∷ xs) ys = ap (λ zs. x ∷ zs) (take_front xs ys)

take_drop : (n : ℕ) (xs : List Value) → xs ≡ take n xs ++ drop n xs
take_drop zero xs = refl
take_drop (suc n) [] = refl
take_drop (suc n) (x ∷ xs) = ap (λ ys. x ∷ ys) (take_drop n xs)

fit_front : (fs more : List Field) (vs : List Value) → AreFit (fs ++ more) vs
    → AreFit fs (take (length fs) vs)
fit_front [] more vs f = tt
fit_front (x ∷ fs) more [] f = absurd f
fit_front (x ∷ fs) more (v ∷ vs) f = (f.0, fit_front fs more vs f.1)

pub nothing_left : {A : Type 0} (xs : List A) → 0 ≡ length xs → xs ≡ []
nothing_left [] e = refl
nothing_left (x ∷ xs) e = absurd (omega arith)

-- where a part is of the next group, this one has a part
pub next_some : (width : ℕ) (group : List Part) (q : Part) → is_next width group q ≡ true
    → 0 < length group
next_some width [] q e = absurd (true≢false (sym e))
next_some width (g ∷ gs) q e = omega arith

not_is : (b : Bool) → not b ≡ false → b ≡ true
not_is true e = refl
not_is false e = absurd (true≢false e)

-- a part that isn't of the next group begins as the first one
pub alike_of : (width : ℕ) (group : List Part) (q : Part) → In q group
    → is_next width group q ≡ false → take width q.rec.key ≡ first_front width group
alike_of width [] q h e = absurd h
alike_of width (g ∷ gs) q h e =
    sym (values_same (take width g.rec.key) (take width q.rec.key) (not_is _ e))

-- ---- the loop over sorted parts

-- what is gathered, the group that is being collected, and what is left of the parts; `out` before
-- and now
pub record IsGathering (rule : Rule) (width : ℕ) (ps : List Part) (before out : List Rec)
    (group rest : List Part) : Type 0 where
  pub done : List Rec
  pub out_is : out ≡ before ++ done
  pub fit : (r : Rec) → In r done → IsOf rule.form r
  pub those : ps ≡ flat_map (data_parts rule) done ++ (group ++ rest)
  pub in_order : Ascends rec_cmp done
  pub below : (r : Rec) (p : Part) → In r done → In p group
      → values_cmp r.key (take width p.rec.key) ≡ Less
  pub alike : (p : Part) → In p group → take width p.rec.key ≡ first_front width group
  pub idle : group ≡ [] → done ≡ []

module _ {rule : Rule} (laws : MappingLaws rule) (width : ℕ)
    (width_is : width ≡ length rule.form.keys) where
  -- the key of a data part begins with the record's key
  pub lead : (r : Rec) (p : Part) → IsOf rule.form r → In p (rule.parts r)
      → rule.holds_rest p.child ≡ true → take width p.rec.key ≡ r.key
  lead r p fits h d =
      let begins = laws.key_leads r p fits h d in
      ap (take width) begins.1
      ∙ ap (λ n. take n (r.key ++ begins.0))
      (width_is ∙ sym (values_count rule.form.keys r.key fits.key))
      ∙ take_front r.key begins.0

  pub lead_data : (r : Rec) (p : Part) → IsOf rule.form r → In p (data_parts rule r)
      → take width p.rec.key ≡ r.key
  lead_data r p fits h = let f =
      in_filter (λ (q : Part). rule.holds_rest q.child) p (rule.parts r) h in lead r p fits f.0 f.1

  -- the front of a data part's key is a key
  front_fits : (p : Part) → IsDataPart rule p → AreFit rule.form.keys (take width p.rec.key)
  front_fits p d =
      let more = laws.keys_lead p.child d.below d.rest in
      subst (λ n. AreFit rule.form.keys (take n p.rec.key)) (sym width_is)
      (fit_front rule.form.keys more.0 p.rec.key
      (subst (λ fs. AreFit fs p.rec.key) more.1 d.fits.key))

  -- parts of one front are of one key
  pub of_key : (group : List Part) → AreDataParts rule group → 0 < length group
      → ((p : Part) → In p group → take width p.rec.key ≡ first_front width group)
      → AreOfKey rule (first_front width group) group
  of_key [] are some alike = absurd (omega arith)
  of_key (g ∷ gs) are some alike = record {
    key_fits = front_fits g (are g (inl refl));
    each = λ p h.
        let d = are p h in
        record {
          child = d.below;
          rest = d.rest;
          fits = d.fits;
          under = (
            drop width p.rec.key,
            take_drop width p.rec.key
                ∙ ap (λ k. k ++ drop width p.rec.key) (alike p h),
          );
        };
  }

  pub gathering_begins : (ps : List Part) (before : List Rec)
      → IsGathering rule width ps before before [] ps
  gathering_begins ps before = record {
    done = [];
    out_is = sym (append-nil before);
    fit = λ r h. absurd h;
    those = refl;
    in_order = tt;
    below = λ r p h k. absurd h;
    alike = λ p h. absurd h;
    idle = λ e. refl;
  }

  -- all parts are one group
  pub gathering_whole : (ps : List Part) (before : List Rec) → AreAlike width ps
      → IsGathering rule width ps before before ps []
  gathering_whole ps before alike = record {
    done = [];
    out_is = sym (append-nil before);
    fit = λ r h. absurd h;
    those = sym (append-nil ps);
    in_order = tt;
    below = λ r p h k. absurd h;
    alike = alike;
    idle = λ e. refl;
  }

  group_in : (ps : List Part) (before out : List Rec) (group rest : List Part) (p : Part)
      → IsGathering rule width ps before out group rest → In p group → In p ps
  group_in ps before out group rest p g h =
      subst (In p) (sym g.those)
      (in_right p (flat_map (data_parts rule) g.done) (group ++ rest) (in_left p group rest h))

  pub group_of_key : (ps : List Part) (before out : List Rec) (group rest : List Part)
      → AreDataParts rule ps → IsGathering rule width ps before out group rest → 0 < length group
      → AreOfKey rule (first_front width group) group
  group_of_key ps before out group rest are g some =
      of_key group (λ p h. are p (group_in ps before out group rest p g h)) some g.alike

  first_in : (group : List Part) → 0 < length group
      → (p : Part) × In p group × (take width p.rec.key ≡ first_front width group)
  first_in [] some = absurd (omega arith)
  first_in (g ∷ gs) some = (g, inl refl, refl)

  -- a part of the same front
  same_front : (group : List Part) (p q : Part) → is_next width group q ≡ false → In p group
      → take width q.rec.key ≡ first_front width group
  same_front [] p q e h = absurd h
  same_front (g ∷ gs) p q e h =
      sym (values_same (take width g.rec.key) (take width q.rec.key) (not_is _ e))

  first_append : (group : List Part) (q : Part) → is_next width group q ≡ false
      → take width q.rec.key ≡ first_front width (group ++ q ∷ [])
  first_append [] q e = refl
  first_append (g ∷ gs) q e = same_front (g ∷ gs) g q e (inl refl)

  first_stays : (group : List Part) (p q : Part) → In p group
      → first_front width (group ++ q ∷ []) ≡ first_front width group
  first_stays [] p q h = absurd h
  first_stays (g ∷ gs) p q h = refl

  pub gathering_grows : (ps : List Part) (before out : List Rec) (group rest : List Part) (q : Part)
      → is_next width group q ≡ false → IsGathering rule width ps before out group (q ∷ rest)
      → IsGathering rule width ps before out (group ++ q ∷ []) rest
  gathering_grows ps before out group rest q e g = record {
    done = g.done;
    out_is = g.out_is;
    fit = g.fit;
    those = g.those ∙ ap (λ (zs : List Part). flat_map (data_parts rule) g.done ++ zs)
        (sym (append_assoc group (q ∷ []) rest));
    in_order = g.in_order;
    below = λ r p h k. elim (in_cases p group (q ∷ []) k) [
      | inl i ↦ g.below r p h i
      | inr i ↦ below_new group g.idle g.below r p h i e
    ];
    alike = λ p k. elim (in_cases p group (q ∷ []) k) [
      | inl i ↦ g.alike p i ∙ sym (first_stays group p q i)
      | inr i ↦ elim i [
        | inl is ↦ ap (λ (x : Part). take width x.rec.key) is
            ∙ first_append group q e
        | inr f ↦ absurd f
      ]
    ];
    idle = λ is. absurd (not_empty group is);
  }
    where
      not_empty : (xs : List Part) → xs ++ q ∷ [] ≡ [] → ⊥
      not_empty [] is = cc
      not_empty (x ∷ xs) is = cc

      below_new : (group : List Part) → (group ≡ [] → g.done ≡ [])
          → ((r : Rec) (p : Part) → In r g.done → In p group
          → values_cmp r.key (take width p.rec.key) ≡ Less) → (r : Rec) (p : Part) → In r g.done
          → In p (q ∷ []) → is_next width group q ≡ false
          → values_cmp r.key (take width p.rec.key) ≡ Less
      below_new [] idle below r p h i e = absurd (subst (In r) (idle refl) h)
      below_new (x ∷ xs) idle below r p h i e =
          let same : take width p.rec.key ≡ take width x.rec.key =
          (elim i [ inl is ↦ ap (λ (y : Part). take width y.rec.key) is | inr f ↦ absurd f ])
          ∙ same_front (x ∷ xs) x q e (inl refl) in
          subst (λ k. values_cmp r.key k ≡ Less) (sym same) (below r x h (inl refl))

  -- the next group's front is after that of this one
  next_after : (group : List Part) (q : Part) → is_next width group q ≡ true
      → ((p : Part) → In p group → is_lt (gather_cmp width q p) ≡ false)
      → values_cmp (first_front width group) (take width q.rec.key) ≡ Less
  next_after [] q e up = absurd (true≢false (sym e))
  next_after (g ∷ gs) q e up =
      before_other (take width g.rec.key) (take width q.rec.key)
      (front_up width g q (up g (inl refl)))
      (λ same. apart (eq_by_cmp values_cmp (take width g.rec.key) (take width q.rec.key)) e
      (ap (λ k. eq_by_cmp values_cmp (take width g.rec.key) k) (sym same)
      ∙ (eq_by_cmp_equiv values_cmp_total).refl (take width g.rec.key)))
    where
      apart : (b : Bool) → not b ≡ true → b ≡ true → ⊥
      apart true a f = true≢false (sym a)
      apart false a f = true≢false (sym f)

  up_next : (ps : List Part) (before out : List Rec) (group rest : List Part) (q : Part)
      → Rises (gather_cmp width) ps → IsGathering rule width ps before out group (q ∷ rest)
      → (p : Part) → In p group → is_lt (gather_cmp width q p) ≡ false
  up_next ps before out group rest q up g p h =
      rises_across (gather_cmp width) group (q ∷ rest) p q
      (rises_last (gather_cmp width) (flat_map (data_parts rule) g.done) (group ++ q ∷ rest)
      (subst (Rises (gather_cmp width)) g.those up)) h (inl refl)

  -- a record of a group comes after those before
  made_after : (ps : List Part) (before out : List Rec) (group rest : List Part) (made : Rec)
      → 0 < length group → made.key ≡ first_front width group
      → (g : IsGathering rule width ps before out group rest) → (r : Rec) → In r g.done
      → values_cmp r.key made.key ≡ Less
  made_after ps before out group rest made some key g r h =
      let first = first_in group some in
      subst (λ k. values_cmp r.key k ≡ Less) (first.2 ∙ sym key) (g.below r first.0 h first.1)

  flat_more : (done : List Rec) (made : Rec) (group rest : List Part) → data_parts rule made ≡ group
      → flat_map (data_parts rule) done ++ (group ++ rest) ≡ flat_map (data_parts rule)
      (done ++ made ∷ []) ++ rest
  flat_more done made group rest is =
      sym (append_assoc (flat_map (data_parts rule) done) group rest)
      ∙ ap (λ (zs : List Part). zs ++ rest)
      (ap (λ (zs : List Part). flat_map (data_parts rule) done ++ zs)
      (sym is ∙ sym (append-nil (data_parts rule made)))
      ∙ sym (flat_map-append (data_parts rule) done (made ∷ [])))

  pub gathering_next : (ps : List Part) (before out out' : List Rec) (group rest : List Part)
      (q : Part) (made : Rec) → Rises (gather_cmp width) ps → 0 < length group
      → is_next width group q ≡ true → out' ≡ out ++ made ∷ []
      → IsGathered rule (first_front width group) group (Some made)
      → IsGathering rule width ps before out group (q ∷ rest)
      → IsGathering rule width ps before out' (q ∷ []) rest
  gathering_next ps before out out' group rest q made up some e new is g =
      let after : values_cmp (first_front width group) (take width q.rec.key) ≡ Less =
      next_after group q e (up_next ps before out group rest q up g) in
      record {
        done = g.done ++ made ∷ [];
        out_is = new ∙ ap (λ zs. zs ++ made ∷ []) g.out_is ∙ append_assoc before g.done (made ∷ []);
        fit = λ r h. elim (in_cases r g.done (made ∷ []) h) [
          | inl i ↦ g.fit r i
          | inr i ↦ elim i [ inl same ↦ subst (IsOf rule.form) (sym same) is.0 | inr f ↦ absurd f ]
        ];
        those = g.those ∙ flat_more g.done made group (q ∷ rest) is.2;
        in_order = ascends_append g.done (made ∷ []) g.in_order (tt, tt) (λ x y i k. elim k [
          | inl same ↦ subst (λ z. rec_cmp x z ≡ Less) (sym same)
              (made_after ps before out group (q ∷ rest) made some is.1 g x i)
          | inr f ↦ absurd f
        ]);
        below = λ r p h k. elim k [
          | inl same ↦ (
              let last : values_cmp r.key (take width q.rec.key) ≡ Less =
              elim (in_cases r g.done (made ∷ []) h) [
                | inl i ↦ values_cmp_total.trans r.key (first_front width group)
                    (take width q.rec.key) (subst (λ k. values_cmp r.key k ≡ Less) is.1
                    (made_after ps before out group (q ∷ rest) made some is.1 g r i)) after
                | inr i ↦ elim i [
                  | inl at ↦ subst (λ k. values_cmp k (take width q.rec.key) ≡ Less)
                      (sym (ap (λ (x : Rec). x.key) at ∙ is.1)) after
                  | inr f ↦ absurd f
                ]
              ] in
              subst (λ (x : Part). values_cmp r.key (take width x.rec.key) ≡ Less) (sym same) last)
          | inr f ↦ absurd f
        ];
        alike = λ p k. elim k [
          | inl same ↦ ap (λ (x : Part). take width x.rec.key) same
          | inr f ↦ absurd f
        ];
        idle = λ none. absurd (let x : q ∷ [] ≡ [] = none in cc);
      }

  -- all are gathered where no part is left
  pub gathering_empty : (ps : List Part) (before out : List Rec) (group rest : List Part)
      → rest ≡ [] → 0 ≡ length group → IsGathering rule width ps before out group rest
      → (found : List Rec) × (out ≡ before ++ found) × AreMadeOf rule ps found
  gathering_empty ps before out group rest none empty g =
      let at = nothing_left group empty in
      let at_done = g.idle at in (
        [],
        g.out_is ∙ ap (λ zs. before ++ zs) at_done,
        record {
          fit = λ r h. absurd h;
          those = g.those ∙ (λ i. flat_map (data_parts rule) (at_done i) ++ (at i ++ none i));
          in_order = sorted rec_cmp [] tt;
        },
      )

  pub gathering_ends : (ps : List Part) (before out out' : List Rec) (group rest : List Part)
      (made : Rec) → rest ≡ [] → 0 < length group → out' ≡ out ++ made ∷ []
      → IsGathered rule (first_front width group) group (Some made)
      → IsGathering rule width ps before out group rest
      → (found : List Rec) × (out' ≡ before ++ found) × AreMadeOf rule ps found
  gathering_ends ps before out out' group rest made none some new is g = (
    g.done ++ made ∷ [],
    new ∙ ap (λ zs. zs ++ made ∷ []) g.out_is ∙ append_assoc before g.done (made ∷ []),
    record {
      fit = λ r h. elim (in_cases r g.done (made ∷ []) h) [
        | inl i ↦ g.fit r i
        | inr i ↦ elim i [ inl same ↦ subst (IsOf rule.form) (sym same) is.0 | inr f ↦ absurd f ]
      ];
      those = g.those ∙ flat_more g.done made group rest is.2
          ∙ ap (λ (zs : List Part). flat_map (data_parts rule) (g.done ++ made ∷ []) ++ zs) none
          ∙ append-nil (flat_map (data_parts rule) (g.done ++ made ∷ []));
      in_order = sorted rec_cmp (g.done ++ made ∷ [])
          (ascends_append g.done (made ∷ []) g.in_order (tt, tt) (λ x y i k. elim k [
            | inl same ↦ subst (λ z. rec_cmp x z ≡ Less) (sym same)
                (made_after ps before out group rest made some is.1 g x i)
            | inr f ↦ absurd f
          ]));
    },
  )

  -- a group that makes no record
  unmade_of : (ps : List Part) (before out : List Rec) (group rest : List Part) → 0 < length group
      → IsGathered rule (first_front width group) group None
      → IsGathering rule width ps before out group rest
      → ((p : Part) → In p rest → take width p.rec.key ≡ first_front width group → ⊥)
      → IsUnmade rule width (IsStrictlySortedBy (gather_cmp width) ps) ps
  unmade_of ps before out group rest some none g apart =
      let first = first_in group some in
      record {
        key = first_front width group;
        group = group;
        first = first.0;
        there = first.1;
        sound = λ p h. (group_in ps before out group rest p g h, g.alike p h);
        complete = λ p h same. elim (in_cases p (flat_map (data_parts rule) g.done) (group ++ rest)
            (subst (In p) g.those h)) [
              | inl i ↦ (
                  let r = from_each (data_parts rule) p g.done i in
                  let key = lead_data r.0 p (g.fit r.0 r.1) r.2 in
                  absurd (not_before_itself values_cmp_total (first_front width group)
                  (subst (λ k. values_cmp k (first_front width group) ≡ Less) (sym key ∙ same)
                  (subst (λ k. values_cmp r.0.key k ≡ Less) first.2
                  (g.below r.0 first.0 r.1 first.1)))))
              | inr i ↦ elim (in_cases p group rest i)
                  [ inl k ↦ k | inr k ↦ absurd (apart p k same) ]
            ];
        in_order = λ up. sorted part_cmp group
            (ascends_by group (λ p q i k. front_tied width p q (g.alike p i ∙ sym (g.alike q k)))
            (ascends_middle (gather_cmp width) (flat_map (data_parts rule) g.done) group rest
            (subst (Ascends (gather_cmp width)) g.those
            (ascends (gather_cmp width) ps up))));
        none = none;
      }

  pub unmade_next : (ps : List Part) (before out : List Rec) (group rest : List Part) (q : Part)
      → Rises (gather_cmp width) ps → 0 < length group → is_next width group q ≡ true
      → IsGathered rule (first_front width group) group None
      → IsGathering rule width ps before out group (q ∷ rest)
      → IsUnmade rule width (IsStrictlySortedBy (gather_cmp width) ps) ps
  unmade_next ps before out group rest q up some e none g =
      let after : values_cmp (first_front width group) (take width q.rec.key) ≡ Less =
      next_after group q e (up_next ps before out group rest q up g) in
      let tail : Rises (gather_cmp width) (q ∷ rest) =
      rises_last (gather_cmp width) group (q ∷ rest)
      (rises_last (gather_cmp width) (flat_map (data_parts rule) g.done) (group ++ q ∷ rest)
      (subst (Rises (gather_cmp width)) g.those up)) in
      unmade_of ps before out group (q ∷ rest) some none g (λ p h same. elim h [
        | inl is ↦ not_before_itself values_cmp_total (first_front width group)
            (subst (λ k. values_cmp (first_front width group) k ≡ Less)
            (ap (λ (x : Part). take width x.rec.key) (sym is) ∙ same) after)
        | inr k ↦ (
            let up_p = front_up width q p
            (rises_across (gather_cmp width) (q ∷ []) rest q p tail (inl refl) k) in
            let back : values_cmp (take width p.rec.key) (take width q.rec.key) ≡ Less =
            subst (λ k. values_cmp k (take width q.rec.key) ≡ Less) (sym same) after in
            true≢false (sym (ap is_lt back) ∙ up_p))
      ])

  pub unmade_last : (ps : List Part) (before out : List Rec) (group rest : List Part) → rest ≡ []
      → 0 < length group → IsGathered rule (first_front width group) group None
      → IsGathering rule width ps before out group rest
      → IsUnmade rule width (IsStrictlySortedBy (gather_cmp width) ps) ps
  unmade_last ps before out group rest empty some none g =
      unmade_of ps before out group rest some none g (λ p h same. absurd (subst (In p) empty h))

-- ---- after the sort

-- parts that stood in order without ties ascend in the order of gathering
pub sorted_strictly : (width : ℕ) (ps qs : List Part) → IsPermutation ps qs
    → IsSortedBy (λ a b. is_lt (gather_cmp width a b)) qs → IsStrictlySortedBy part_cmp ps
    → IsStrictlySortedBy (gather_cmp width) qs
sorted_strictly width ps qs perm up strict =
    sorted (gather_cmp width) qs
    (rises_ascends (gather_total width) (gather_ties width) qs
    (rises (gather_total width) qs up)
    (IsDistinct-IsPermutation (eq_by_cmp part_cmp) (λ x y. (eq_by_cmp_equiv part_total).symm x y) ps
    qs perm (IsDistinct-from_sorted part_cmp ps strict)))

pub permuted_in : {A : Type 0} (xs ys : List A) (x : A) → IsPermutation xs ys → In x xs → In x ys
permuted_in xs ys x perm h =
    contains_in x ys (Contains-permutation xs ys x perm (in_contains x xs h))

pub permuted_back : {A : Type 0} (xs ys : List A) (x : A) → IsPermutation xs ys → In x ys → In x xs
permuted_back xs ys x perm h = permuted_in ys xs x (IsPermutation-sym xs ys perm) h

pub made_of_sorted : (rule : Rule) (ps qs : List Part) (found : List Rec) → IsPermutation ps qs
    → AreMadeOf rule qs found → AreMade rule ps found
made_of_sorted rule ps qs found perm made =
    record {
      fit = made.fit;
      those = subst (IsPermutation ps) made.those perm;
      in_order = made.in_order;
    }

pub unmade_of_sorted : (rule : Rule) (width : ℕ) (ps qs : List Part) → IsPermutation ps qs
    → IsSortedBy (λ a b. is_lt (gather_cmp width a b)) qs
    → IsUnmade rule width (IsStrictlySortedBy (gather_cmp width) qs) qs
    → IsUnmade rule width (IsStrictlySortedBy part_cmp ps) ps
unmade_of_sorted rule width ps qs perm up un = record {
  key = un.key;
  group = un.group;
  first = un.first;
  there = un.there;
  sound = λ p h. (permuted_back ps qs p perm (un.sound p h).0, (un.sound p h).1);
  complete = λ p h same. un.complete p (permuted_in ps qs p perm h) same;
  in_order = λ strict. un.in_order (sorted_strictly width ps qs perm up strict);
  none = un.none;
}
