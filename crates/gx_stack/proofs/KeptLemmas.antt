-- Layers that pass records as they are.
use Rattle.std.proofs.Common.{◌≡◌, ◌<◌, ◌≤◌, ◌+◌, Some, List, [], ◌∷◌, ◌++◌, inl, inr, refl, sym, ap, ◌∙◌, subst, length, arith, length-append, append_assoc}
use Rattle.std.proofs.lemmas.List.Sums.{sum_by-cons}
use Rattle.std.specs.List.{flat_map}
use Rattle.gx_values.specs.declared.records.Rec.{Rec}
use Rattle.gx_values.specs.declared.keys.Span.{Span}
use Rattle.gx_mapping.specs.declared.parts.Part.{Part}
use Rattle.gx_mapping.specs.declared.parts.Whole.{Whole}
use Rattle.gx_mapping.specs.Rule.{Rule, In, IsOf, IsWhole, KeepsRecords}
use Rattle.gx_mapping.specs.Laws.{MappingLaws}
use Rattle.gx_gather.specs.Gather.{part_for}
use Rattle.gx_stack.specs.declared.entries.LeafEntry.{LeafEntry}
use Rattle.gx_stack.specs.Tree.{Tree, Kids, layer, entries_of, kid_entries, entry_total}
use Rattle.gx_stack.specs.Internal.{child_records}
use Rattle.gx_stack.specs.Selected.{IsSelection}
use Rattle.gx_stack.proofs.Children.{from_child, in_child}

-- ---- a layer whose first child has each record as it is

module _ {rule : Rule} (kept : KeepsRecords rule) where
  -- the first child has the records, and no others
  kept_from : (R : List Rec) (q : Rec) → In q (child_records rule 0 R) → In q R
  kept_from R q h =
      let r = from_child rule 0 R q h in
      let p = r.2 in
      elim (subst (λ (ps : List Part). In p.0 ps) (kept.first r.0) p.1) [
        | inl is ↦ subst (λ (x : Rec). In x R) (ap (λ (x : Part). x.rec) (sym is) ∙ p.3) r.1
        | inr k ↦ absurd (kept.apart r.0 p.0 k p.2)
      ]

  kept_to : (R : List Rec) (r : Rec) → In r R → In r (child_records rule 0 R)
  kept_to R r h = in_child rule 0 R r (part_for 0 r) h
      (subst (λ (ps : List Part). In (part_for 0 r) ps) (sym (kept.first r)) (inl refl)) refl

  pub kept_selection : (R : List Rec) (span : Span) (found : List Rec)
      → IsSelection (child_records rule 0 R) span found → IsSelection R span found
  kept_selection R span found sel = record {
    in_order = sel.in_order;
    sound = λ r h. let s = sel.sound r h in (kept_from R r s.0, s.1);
    complete = λ r h i. sel.complete r (kept_to R r h) i;
  }

-- how many entries come from records there, and in the layer
pub kept_total : {M : Type 0} (rule : M → Rule) (m : M) (ks : Kids M) (t : Tree M)
    (found : List Rec) → KeepsRecords (rule m)
    → ((r : Rec) → kid_entries rule ks 0 r ≡ entries_of rule t r)
    → entry_total rule t found ≤ entry_total rule (layer m ks) found
kept_total rule m ks t [] kept same = omega arith
kept_total rule m ks t (r ∷ found) kept same =
    let all : length (entries_of rule (layer m ks) r) ≡ length (kid_entries rule ks 0 r) + length
    (flat_map (λ (p : Part). kid_entries rule ks p.child p.rec) (kept.others r)) =
    ap (λ (ps : List Part). length (flat_map (λ (p : Part). kid_entries rule ks p.child p.rec) ps))
    (kept.first r) ∙ length-append (kid_entries rule ks 0 r)
    (flat_map (λ (p : Part). kid_entries rule ks p.child p.rec) (kept.others r)) in
    let left = sum_by-cons (λ (q : Rec). length (entries_of rule t q)) r found in
    let right = sum_by-cons (λ (q : Rec). length (entries_of rule (layer m ks) q)) r found in
    omega (arith, left, right, all, ap length (same r), kept_total rule m ks t found kept same)

-- ---- a record whose first part is the record itself

pub whole_child : {rule : Rule} → MappingLaws rule → (r : Rec) (whole : Whole) → IsOf rule.form r
    → IsWhole rule r (Some whole) → (whole.child < rule.kids) × IsOf (rule.kid_form whole.child) r
whole_child laws r whole fits is =
    laws.fit r (part_for whole.child r) fits
    (subst (λ (ps : List Part). In (part_for whole.child r) ps) (sym is) (inl refl))

pub whole_others : (rule : Rule) (r : Rec) (whole : Whole) → IsWhole rule r (Some whole)
    → (p : Part) → In p whole.others → In p (rule.parts r)
whole_others rule r whole is p h = subst (λ (ps : List Part). In p ps) (sym is) (inr h)

-- what is out once the entries of that part are
pub whole_entries : {M : Type 0} (rule : M → Rule) (m : M) (ks : Kids M) (r : Rec) (whole : Whole)
    (out out' first : List LeafEntry) → IsWhole (rule m) r (Some whole)
    → kid_entries rule ks whole.child r ≡ first → out' ≡ out ++ first
    → out' ++ flat_map (λ (p : Part). kid_entries rule ks p.child p.rec) whole.others ≡ out
    ++ entries_of rule (layer m ks) r
whole_entries rule m ks r whole out out' first is same new =
    let rest = flat_map (λ (p : Part). kid_entries rule ks p.child p.rec) whole.others in
    let all : entries_of rule (layer m ks) r ≡ first ++ rest =
    ap (λ (ps : List Part). flat_map (λ (p : Part). kid_entries rule ks p.child p.rec) ps) is
    ∙ ap (λ es. es ++ rest) same in
    ap (λ es. es ++ rest) new ∙ append_assoc out first rest ∙ ap (λ es. out ++ es) (sym all)
