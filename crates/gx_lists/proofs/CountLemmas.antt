-- Records of a leaf, counted by its entries.
use Rattle.std.proofs.Common.{◌≡◌, ◌≤◌, ◌+◌, ◌-◌, ◌∙◌, ℕ, List, [], ◌∷◌, inl, inr, length, map, refl, sym, ap, subst, arith}
use Rattle.std.specs.FinMap.{entries}
use Rattle.std.specs.List.{filter}
use Rattle.std.proofs.lemmas.List.{length-map}
use Rattle.gx_values.specs.declared.records.Form.{Form}
use Rattle.gx_values.specs.declared.records.Rec.{Rec}
use Rattle.gx_values.specs.declared.keys.Span.{Span}
use Rattle.gx_values.specs.Keys.{is_inside}
use Rattle.gx_ports.specs.declared.leaves.Entry.{Entry}
use Rattle.gx_ports.specs.LeafMaps.{LeafMap, map_at, entry_of, selected, counted}
use Rattle.gx_mapping.specs.Rule.{Rule, In}
use Rattle.gx_gather.proofs.Lists.{in_filter, from_map}
use Rattle.gx_stack.specs.Tree.{leaf, IsLeafForm}
use Rattle.gx_stack.specs.Internal.{IsLeafMap}
use Rattle.gx_stack.specs.Read.{entry_of_rec}
use Rattle.gx_stack.proofs.LeafRead.{entry_get, leaf_selection, leaf_steps, few_counted}
use Rattle.gx_lists.specs.Counts.{IsCount}

module _ (form : Form) (R : List Rec) (m : LeafMap) (is : IsLeafMap m R) where
  -- records of these entries
  record AreMade (es : List Entry) : Type 0 where
    made : List Rec
    there : (r : Rec) → In r made → In r R
    same : map entry_of_rec made ≡ es

  each_made : (es : List Entry)
      → ((e : Entry) → In e es → (r : Rec) × In r R × (entry_of_rec r ≡ e)) → AreMade es
  each_made [] all = record { made = []; there = λ r h. absurd h; same = refl }
  each_made (e ∷ es) all =
      let one = all e (inl refl) in
      let rest = each_made es (λ x h. all x (inr h)) in record {
        made = one.0 ∷ rest.made;
        there = λ r h. elim h [
          | inl q ↦ subst (λ x. In x R) (sym q) one.1
          | inr k ↦ rest.there r k
        ];
        same = λ i. one.2 i ∷ rest.same i;
      }

  record_of : (span : Span) (e : Entry) → In e (selected span.lo span.hi m)
      → (r : Rec) × In r R × (entry_of_rec r ≡ e)
  record_of span e h =
      let p = from_map entry_of e (filter (λ x. is_inside span.lo span.hi x.0) (entries m)) h in
      let f = in_filter (λ x. is_inside span.lo span.hi x.0) p.0 (entries m) p.1 in
      let r = is.only p.0.0 p.0.1 (entry_get m p.0 f.0) in
      (r.0, r.1, (λ i. record { key = r.2 i; body = r.3 i }) ∙ sym p.2)

pub leaf_counted : {M : Type 0} (rule : M → Rule) (n : ℕ) (form : Form) (whole : Type 0)
    (maps : List LeafMap) (span : Span)
    (before steps count : ℕ) (found : List Entry) → IsLeafForm form
    → (whole → found ≡ selected span.lo span.hi (map_at maps n))
    → count ≡ length found → steps ≡ counted before (1 + (length found - 0))
    → IsCount rule (leaf n form) whole maps span before steps count
leaf_counted rule n form whole maps span before steps count found leaf_form those is taken w R set
    held =
    let m = map_at maps n in
    let all = each_made form R m held (selected span.lo span.hi m) (record_of form R m held span) in
    let many : length found ≡ length all.made = ap length (those w ∙ sym all.same)
    ∙ length-map all.made entry_of_rec in record {
      found = all.made;
      selected = leaf_selection form leaf_form m span R all.made set held
          (λ r h. set.fits r (all.there r h)) all.same;
      counted = is ∙ many;
      few_steps = leaf_steps rule n form all.made before steps
          (subst (λ w. w ≤ before + (1 + length all.made)) (sym taken)
          (few_counted before (length found - 0) (length all.made) (omega (arith, many))));
    }
