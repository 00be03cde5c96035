-- The one record that a selection of one key finds.
use Rattle.std.proofs.Common.{◌≡◌, ℕ, true, List, [], ◌∷◌, length, slice_get, Option, inl, inr, refl, sym, ap, subst, ◌∙◌, arith}
use Rattle.std.specs.declared.cmp.Ordering.TheVariants.{Less}
use Rattle.gx_values.specs.declared.values.Kind.{Kind}
use Rattle.gx_values.specs.declared.values.Value.{Value}
use Rattle.gx_values.specs.declared.records.Rec.{Rec}
use Rattle.gx_values.specs.declared.keys.Span.{Span}
use Rattle.gx_values.specs.Values.{values_cmp, Fits, first_kind}
use Rattle.gx_values.specs.Keys.{key_of, is_inside}
use Rattle.gx_values.proofs.OrderLemmas.{same_value, value_itself}
use Rattle.gx_ports.specs.LeafMaps.{LeafMap}
use Rattle.gx_mapping.specs.Rule.{Rule, In, IsOf}
use Rattle.gx_mapping.proofs.RuleLemmas.{all_in, values_cmp_total}
use Rattle.gx_gather.specs.Gather.{rec_cmp}
use Rattle.gx_gather.proofs.Orders.{not_before_itself, ascends}
use Rattle.gx_stack.specs.Tree.{Tree, tree_form, entry_total}
use Rattle.gx_stack.specs.Internal.{IfThere, entries_if}
use Rattle.gx_stack.specs.Selected.{IsFound, IsSelection}
use Rattle.gx_links.specs.Kinds.{kinds_of, AreOfKinds}
use Rattle.gx_links.specs.Links.{is_same}
use Rattle.gx_links.proofs.KindLemmas.{fit_kinds}
use Rattle.gx_ring.specs.Reads.{IsFoundAt, IsRecordAt}

one_of : (k : Kind) (vs : List Value) → AreOfKinds (k ∷ []) vs
    → (x : Value) × (vs ≡ x ∷ []) × Fits k x
one_of k [] fit = absurd fit
one_of k (x ∷ []) fit = (x, refl, fit.0)
one_of k (x ∷ y ∷ vs) fit = absurd fit.1

module _ {M : Type 0} (rule : M
    → Rule) (t : Tree M) (one : kinds_of (tree_form rule t).keys ≡ first_kind
    (tree_form rule t).keys ∷ []) (v : Value)
    (fits : Fits (first_kind (tree_form rule t).keys) v) (span : Span) (those : (x : Value)
    → Fits (first_kind (tree_form rule t).keys) x
    → is_inside span.lo span.hi (key_of (x ∷ [])) ≡ is_same x v) where
  value_of : (r : Rec) → IsOf (tree_form rule t) r
      → (x : Value) × (r.key ≡ x ∷ []) × Fits (first_kind (tree_form rule t).keys) x
  value_of r is = one_of (first_kind (tree_form rule t).keys) r.key
      (fit_kinds (tree_form rule t).keys (first_kind (tree_form rule t).keys ∷ []) r.key one is.key)

  key_there : (r : Rec) → IsOf (tree_form rule t) r
      → is_inside span.lo span.hi (key_of r.key) ≡ true → r.key ≡ v ∷ []
  key_there r is e =
      let x = value_of r is in
      x.1 ∙ ap (λ z. z ∷ []) (same_value x.0 v (sym (those x.0 x.2)
      ∙ ap (λ ks. is_inside span.lo span.hi (key_of ks)) (sym x.1) ∙ e))

  there_key : (r : Rec) → r.key ≡ v ∷ [] → is_inside span.lo span.hi (key_of r.key) ≡ true
  there_key r e = ap (λ ks. is_inside span.lo span.hi (key_of ks)) e ∙ those v fits ∙ value_itself v

  found_fit : (found : List Rec) → ((r : Rec) → In r found → IsOf (tree_form rule t) r)
      → IfThere (slice_get found 0) (IsOf (tree_form rule t))
  found_fit [] fit = tt
  found_fit (r ∷ rs) fit = fit r (inl refl)

  found_that : (R found : List Rec) → ((r : Rec) → In r found → IsOf (tree_form rule t) r)
      → IsSelection R span found → IsFoundAt R v (slice_get found 0)
  found_that R [] fit sel = λ r h e. sel.complete r h (there_key r e)
  found_that R (r ∷ rs) fit sel =
      (let s = sel.sound r (inl refl) in (s.0, key_there r (fit r (inl refl)) s.1))

  found_steps : (R found : List Rec) → ((r : Rec) → In r found → IsOf (tree_form rule t) r)
      → IsSelection R span found
      → entry_total rule t found ≡ length (entries_if rule t (slice_get found 0))
  found_steps R [] fit sel = refl
  found_steps R (r ∷ []) fit sel = omega arith
  found_steps R (r ∷ s ∷ rs) fit sel =
      let a = key_there r (fit r (inl refl)) (sel.sound r (inl refl)).1 in
      let b = key_there s (fit s (inr (inl refl))) (sel.sound s (inr (inl refl))).1 in
      let up = (ascends rec_cmp (r ∷ s ∷ rs) sel.in_order).0 in
      absurd (not_before_itself values_cmp_total (v ∷ [])
      (subst (λ ks. values_cmp ks (v ∷ []) ≡ Less) a
      (subst (λ ks. values_cmp r.key ks ≡ Less) b
      (all_in (λ q. rec_cmp r q ≡ Less) (s ∷ rs) s up (inl refl)))))

  pub record_there : (whole : Type 0) (maps : List LeafMap) (before steps : ℕ) (found : List Rec)
      (result : Option Rec) → IsFound rule t whole maps span before steps [] found
      → result ≡ slice_get found 0 → IsRecordAt rule t whole maps v before steps result
  record_there whole maps before steps found result is e =
      subst (IsRecordAt rule t whole maps v before steps)
      (sym (e ∙ ap (λ rs. slice_get rs 0) is.appended)) (record {
        fit = found_fit is.found is.fit;
        that = λ w R set held. found_that R is.found is.fit (is.selected w R set held);
        few_steps = λ w has. omega (
          arith,
          is.few_steps,
          found_steps has.0 is.found is.fit
              (is.selected w has.0 has.1 has.2),
        );
      })
