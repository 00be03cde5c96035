-- What is gathered from the parts of a transposition.
use Rattle.std.proofs.Common.{inl, inr, ◌≡◌, ℕ, suc, ◌+◌, ◌<◌, List, [], ◌∷◌, ◌++◌, length, get_or, drop, cond, Bool, true, false, Option, Some, None, refl, sym, ap, subst, ◌∙◌, arith, append_assoc}
use Rattle.std.specs.Prelude.{nat_eq}
use Rattle.std.specs.Option.{option_map}
use Rattle.std.proofs.lemmas.List.{drop_more, length-drop}
use Rattle.std.proofs.lemmas.Bool.Decides.{nat_tests}
use Rattle.std.proofs.Math.Numerals.{add-one}
use Rattle.gx_laws.proofs.NumberLemmas.{equal_from_nat_eq, nat_eq_itself}
use Rattle.gx_values.specs.declared.values.Value.{Value}
use Rattle.gx_values.specs.declared.records.Field.{Field}
use Rattle.gx_values.specs.declared.records.Form.{Form}
use Rattle.gx_values.specs.Values.{Fits, AreFit, no_field}
use Rattle.gx_mapping.specs.declared.parts.Part.{Part}
use Rattle.gx_mapping.specs.Rule.{In, AreOfKey, IsGathered}
use Rattle.gx_mapping.proofs.RuleLemmas.{whole_key, all_data}
use Rattle.gx_mapping.proofs.FieldLemmas.{fit_length}
use Rattle.gx_split.specs.TransposeRules.{column_part, columns, transpose_rule, first_value, column_values, IsAlone}

other_number : (a b : ℕ) → (a ≡ b → ⊥) → nat_eq a b ≡ false
other_number a b ne = grind (arith, nat_tests)

-- ---- columns and values

pub length_columns : (key : List Value) (i : ℕ) (vs : List Value)
    → length (columns key i vs) ≡ length vs
length_columns key i [] = refl
length_columns key i (v ∷ vs) = ap suc (length_columns key (suc i) vs)

columns_again : (key : List Value) (i : ℕ) (vs : List Value)
    → column_values i (columns key i vs) ≡ Some vs
columns_again key i [] = refl
columns_again key i (v ∷ vs) =
    (λ j. cond (nat_eq_itself i j) (option_map (λ ws. v ∷ ws) (columns_again key (suc i) vs j))
    None)

-- what the values of the first part tell of the values
record IsNext (i : ℕ) (p : Part) (ps : List Part) (vs : List Value) : Type 0 where
  child : p.child ≡ i
  later : List Value
  more : Some later ≡ column_values (suc i) ps
  is : vs ≡ first_value p.rec.fields ∷ later

next : (i : ℕ) (p : Part) (ps : List Part) (vs : List Value) → Some vs ≡ column_values i (p ∷ ps)
    → IsNext i p ps vs
next i p ps vs e = by_test (nat_eq p.child i) (column_values (suc i) ps) refl refl e
  where
    by_test : (b : Bool) (o : Option (List Value)) → b ≡ nat_eq p.child i
        → o ≡ column_values (suc i) ps
        → Some vs ≡ cond b (option_map (λ ws. first_value p.rec.fields ∷ ws) o) None
        → IsNext i p ps vs
    by_test true (Some ws) here rest e =
        record {
          child = equal_from_nat_eq p.child i (sym here);
          later = ws;
          more = rest;
          is = (let same : vs ≡ first_value p.rec.fields ∷ ws = cc in same);
        }
    by_test true None here rest e = absurd (none e)
      where
        none : ◌≡◌ {A = Option (List Value)} (Some vs) None → ⊥
        none e = cc
    by_test false o here rest e = absurd (none e)
      where
        none : ◌≡◌ {A = Option (List Value)} (Some vs) None → ⊥
        none e = cc

no_values : (vs : List Value) → ◌≡◌ {A = Option (List Value)} (Some vs) (Some []) → vs ≡ []
no_values vs e = cc

columns_are : (key : List Value) (i : ℕ) (ps : List Part) (vs : List Value)
    → ((p : Part) → In p ps → (p.rec.key ≡ key) × (p.rec.fields ≡ first_value p.rec.fields ∷ []))
    → Some vs ≡ column_values i ps → columns key i vs ≡ ps
columns_are key i [] vs each e = ap (columns key i) (no_values vs e)
columns_are key i (p ∷ ps) vs each e =
    let n = next i p ps vs e in
    let at = each p (inl refl) in
    let child = n.child in
    let key_is = at.0 in
    let fields = at.1 in
    let here : column_part key i (first_value p.rec.fields) ≡ p =
    λ j. record { child = sym child j; rec = record { key = sym key_is j; fields = sym fields j } }
    in
    let rest = columns_are key (suc i) ps n.later (λ q there. each q (inr there)) n.more in
    ap (columns key i) n.is ∙ (λ j. here j ∷ rest j)

columns_fit : (fs : List Field) (i : ℕ) (ps : List Part) (vs : List Value)
    → ((p : Part) → In p ps → Fits (get_or fs p.child no_field).kind (first_value p.rec.fields))
    → Some vs ≡ column_values i ps → i + length ps ≡ length fs → AreFit (drop i fs) vs
columns_fit fs i [] vs each e count =
    let left = length-drop i fs in
    subst (AreFit (drop i fs)) (sym (no_values vs e))
    (none (drop i fs) (let zero_left : length (drop i fs) ≡ 0 = omega (arith, left, count) in
    zero_left))
  where
    none : (gs : List Field) → length gs ≡ 0 → AreFit gs []
    none [] e = tt
    none (g ∷ gs) e = absurd (omega arith)
columns_fit fs i (p ∷ ps) vs each e count =
    let n = next i p ps vs e in
    let here = drop_more fs i no_field (let lt : i < length fs = omega (arith, count) in lt) in
    let fits : Fits (get_or fs i no_field).kind (first_value p.rec.fields) =
    subst (λ (c : ℕ). Fits (get_or fs c no_field).kind (first_value p.rec.fields)) n.child
    (each p (inl refl)) in
    let rest = columns_fit fs (suc i) ps n.later (λ q there. each q (inr there)) n.more
    (omega (arith, count)) in
    let tail : AreFit (drop (i + 1) fs) n.later =
    subst (λ (c : ℕ). AreFit (drop c fs) n.later) (sym (add-one i)) rest in
    subst (AreFit (drop i fs)) (sym n.is)
    (subst (λ (gs : List Field). AreFit gs (first_value p.rec.fields ∷ n.later)) (sym here)
    (fits, tail))

-- ---- one step of the loop

pub column_more : (parts : List Part) (done : List Value) (i : ℕ) (p : Part)
    (total : Option (List Value)) → i < length parts → p ≡ get_or parts i p → p.child ≡ i
    → option_map (λ more. done ++ more) (column_values i (drop i parts)) ≡ total
    → option_map (λ more. (done ++ first_value p.rec.fields ∷ []) ++ more)
    (column_values (i + 1) (drop (i + 1) parts)) ≡ total
column_more parts done i p total lt is child so_far =
    let here = drop_more parts i p lt ∙ ap (λ (q : Part). q ∷ drop (i + 1) parts) (sym is) in
    ap (λ (n : ℕ). option_map (λ more. (done ++ first_value p.rec.fields ∷ []) ++ more)
    (column_values n (drop (i + 1) parts))) (add-one i)
    ∙ twice (column_values (suc i) (drop (i + 1) parts))
    ∙ ap (λ (b : Bool). option_map (λ more. done ++ more)
    (cond b (option_map (λ ws. first_value p.rec.fields ∷ ws)
    (column_values (suc i) (drop (i + 1) parts))) None))
    (sym (ap (λ (n : ℕ). nat_eq n i) child ∙ nat_eq_itself i))
    ∙ ap (λ (ps : List Part). option_map (λ more. done ++ more) (column_values i ps)) (sym here)
    ∙ so_far
  where
    twice : (o : Option (List Value))
        → option_map (λ more. (done ++ first_value p.rec.fields ∷ []) ++ more) o ≡ option_map
        (λ more. done ++ more) (option_map (λ ws. first_value p.rec.fields ∷ ws) o)
    twice None = refl
    twice (Some more) = ap Some (append_assoc done (first_value p.rec.fields ∷ []) more)

-- ---- the record

one_value : (f : Field) (vs : List Value) → AreFit (f ∷ []) vs
    → (vs ≡ first_value vs ∷ []) × Fits f.kind (first_value vs)
one_value f [] fit = absurd fit
one_value f (v ∷ []) fit = (refl, fit.0)
one_value f (v ∷ w ∷ vs) fit = absurd fit.1

module _ (form : Form) (key : List Value) (ps : List Part)
    (req : AreOfKey (transpose_rule form) key ps) where
  -- each part has one value
  pub are_alone : (p : Part) → In p ps → IsAlone p
  are_alone p there =
      (one_value (get_or form.fields p.child no_field) p.rec.fields
      (req.each p there).fits.fields).0

  pub one_gathered : (copy vs : List Value) → length ps ≡ length form.fields
      → Some vs ≡ column_values 0 ps → copy ≡ key
      → IsGathered (transpose_rule form) key ps (Some (record { key = copy; fields = vs }))
  one_gathered copy vs count is copied =
      let each : (p : Part) → In p ps
      → (p.rec.key ≡ key) × (p.rec.fields ≡ first_value p.rec.fields ∷ []) = λ p there.
      (let of = req.each p there in
      (whole_key form.keys key p.rec.key req.key_fits of.fits.key of.under, are_alone p there)) in
      let fit = columns_fit form.fields 0 ps vs
      (λ p there. (one_value (get_or form.fields p.child no_field) p.rec.fields
      (req.each p there).fits.fields).1) is (omega (arith, count)) in (
        record { key = subst (AreFit form.keys) (sym copied) req.key_fits; fields = fit },
        copied,
        all_data (columns copy 0 vs) ∙ ap (λ (k : List Value). columns k 0 vs) copied
            ∙ columns_are key 0 ps vs each is,
      )

  pub none_by_count : (length ps ≡ length form.fields → ⊥)
      → IsGathered (transpose_rule form) key ps None
  none_by_count ne = λ r is same parts.
      ne (ap length (sym (sym (all_data (columns r.key 0 r.fields)) ∙ parts))
      ∙ length_columns r.key 0 r.fields ∙ sym (fit_length form.fields r.fields is.fields))

  pub none_by_child : None ≡ column_values 0 ps → IsGathered (transpose_rule form) key ps None
  none_by_child none = λ r is same parts.
      absurd (apart r.fields (none
      ∙ ap (column_values 0) (sym (sym (all_data (columns r.key 0 r.fields)) ∙ parts))
      ∙ columns_again r.key 0 r.fields))
    where
      apart : (vs : List Value) → ◌≡◌ {A = Option (List Value)} None (Some vs) → ⊥
      apart vs e = cc
