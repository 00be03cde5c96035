-- Changes of records that have an entry in one leaf and may have one in a second.
use Rattle.std.proofs.Common.{◌≡◌, ℕ, ◌<◌, List, [], ◌∷◌, length, Bool, true, false, cond, Option, Some, None, Result, inl, inr, refl, sym, ap, subst, ◌∙◌, ◌≢◌, set}
use Rattle.std.specs.Prelude.{◌⊎◌, is_some}
use Rattle.std.specs.FinMap as fin
use Rattle.std.specs.Cmp.Lexicographic.{slice_cmp, nat_list_cmp_total}
use Rattle.std.specs.Ordering.{eq_by_cmp, nat_cmp}
use Rattle.std.proofs.lemmas.List.{set-get_or}
use Rattle.std.proofs.lemmas.Bool.{true≢false}
use Rattle.std.proofs.lemmas.Option.{same_Some}
use Rattle.gx_values.specs.declared.records.Rec.{Rec}
use Rattle.gx_values.specs.declared.values.Value.{Value}
use Rattle.gx_values.specs.Keys.{key_of}
use Rattle.gx_ports.specs.declared.stop.Stop.{Stop}
use Rattle.gx_ports.specs.declared.view.View.{Ghosts}
use Rattle.gx_ports.specs.LeafMaps.{LeafMap, map_at, with_entry, without_entry}
use Rattle.gx_ports.proofs.KeyLemmas.{same_key}
use Rattle.gx_mapping.specs.Rule.{In, IsOf}
use Rattle.gx_stack.specs.declared.entries.LeafEntry.{LeafEntry}
use Rattle.gx_stack.specs.Tree.{Tree, IsValid, leaves_of, tree_form, entries_of}
use Rattle.gx_stack.specs.Internal.{IsSet, IsInternal, IsChange, changed, at, put_entries}
use Rattle.gx_stack.proofs.Children.{union_from_internal}
use Rattle.gx_stack.proofs.Maps.{put_elsewhere}
use Rattle.gx_gather.proofs.Lists.{in_each}
use Rattle.gx_types.specs.declared.any.AnyMapping.{AnyMapping}
use Rattle.gx_types.specs.Any.{any_rule}
use Rattle.gx_entries.specs.Entries.{AreTwoLeaves, other_entry, others_in}
use Rattle.gx_edits.specs.declared.one_record.Previous.{Previous}
use Rattle.gx_edits.specs.declared.one_record.Previous.TheVariants as previous
use Rattle.gx_edits.specs.OneRecord.{Puts, has_record, StandsBefore}
use Rattle.gx_entries.proofs.OneLemmas.{one_of}
use Rattle.gx_entries.proofs.TwoLemmas.{other_body, two_shape, first_in_tree, second_in_tree, two_apart, two_has}
use Rattle.gx_edits.proofs.AloneLemmas.{own_removed, own_put}

-- ---- changes of the entries of a record

-- to put what is there changes nothing
same_with : (maps : List LeafMap) (i : ℕ) (key body : List ℕ) → at maps i key ≡ Some body
    → with_entry maps i key body ≡ maps
same_with maps i key body found =
    let m = map_at maps i in
    ap (set maps i) (fin.same_map nat_list_cmp_total
    (fin.slice_cmp-IsAntisymmetric fin.nat_cmp-IsAntisymmetric) (fin.insert m key body) m
    (λ q. fin.get-insert nat_list_cmp_total m key body q
    ∙ by_test q (eq_by_cmp (slice_cmp nat_cmp) q key) refl))
    ∙ set-get_or maps i fin.empty
  where
    by_test : (q : List ℕ) (b : Bool) → eq_by_cmp (slice_cmp nat_cmp) q key ≡ b
        → cond b (Some body) (fin.get (map_at maps i) q) ≡ fin.get (map_at maps i) q
    by_test q true e = sym (ap (fin.get (map_at maps i)) (same_key q key e) ∙ found)
    by_test q false e = refl

module _ (t : Tree AnyMapping) (n k : ℕ) (two : AreTwoLeaves t n k) (valid : IsValid any_rule t)
    (R : List Rec) (set : IsSet (tree_form any_rule t) R) (maps : List LeafMap)
    (below : (i : ℕ) → In i (leaves_of t) → i < length maps)
    (held : IsInternal any_rule t R maps) where
  -- an entry of a record stands in the first leaf or in the second
  placed : (r : Rec) (e : LeafEntry) → In e (entries_of any_rule t r) → (e.leaf ≡ n) ⊎ (e.leaf ≡ k)
  placed r e h =
      let shape = two_shape t n k two r in
      by_other shape.0 (other_body t (others_in t r.fields)) (subst (In e) shape.1 h)
    where
      by_other : (body : List ℕ) (other : Option (List ℕ))
          → In e (record { leaf = n; key = key_of r.key; body = body } ∷ other_entry k
          (key_of r.key) other) → (e.leaf ≡ n) ⊎ (e.leaf ≡ k)
      by_other body other (inl first) = inl (ap (λ (y : LeafEntry). y.leaf) first)
      by_other body None (inr none) = absurd none
      by_other body (Some b) (inr (inl second)) = inr (ap (λ (y : LeafEntry). y.leaf) second)
      by_other body (Some b) (inr (inr none)) = absurd none

  pub both_removed : (old : Rec) (key : List ℕ) (after : List LeafMap) → In old R
      → key ≡ key_of old.key → after ≡ without_entry (without_entry maps k key) n key
      → IsInternal any_rule t (changed R (Some old) None) after
  both_removed old key after there key_is is =
      let first : LeafEntry = record { leaf = n; key = key_of old.key; body = [] } in
      let second : LeafEntry = record { leaf = k; key = key_of old.key; body = [] } in
      own_removed t n (two_has t n k two) valid R set maps below held old (second ∷ first ∷ [])
      after there
      (λ e h. elim h [
        | inl is_e ↦ (
          subst (λ (y : LeafEntry). In y.leaf (leaves_of t)) (sym is_e)
              (second_in_tree t n k two),
          ap (λ (y : LeafEntry). y.key) is_e,
        )
        | inr h2 ↦ (
          subst (λ (y : LeafEntry). In y.leaf (leaves_of t)) (sym (one_of e first h2))
              (first_in_tree t n k two),
          ap (λ (y : LeafEntry). y.key) (one_of e first h2),
        )
      ])
      (λ e h.
      let own = (two_has t n k two).key old e h in
      elim (placed old e h) [
        | inl at_first ↦ (first, inr (inl refl), (sym at_first, sym own))
        | inr at_second ↦ (second, inl refl, (sym at_second, sym own))
      ])
      (is ∙ (λ i. without_entry (without_entry maps k (key_is i)) n (key_is i)))

  -- a record with no second part comes
  pub short_put : (old : Option Rec) (new : Rec) (body : List ℕ) (replaces : Bool)
      (after : List LeafMap) → is_some old ≡ replaces → IsChange R old (Some new)
      → IsOf (tree_form any_rule t) new
      → entries_of any_rule t new ≡ record { leaf = n; key = key_of new.key; body = body } ∷ []
      → after ≡ with_entry (cond replaces (without_entry maps k (key_of new.key)) maps) n
      (key_of new.key) body → IsInternal any_rule t (changed R old (Some new)) after
  short_put old new body false after there change fits are is =
      own_put t n (two_has t n k two) valid R set maps below held old new []
      (record { leaf = n; key = key_of new.key; body = body } ∷ []) after change fits are
      (λ e none. absurd none) (λ o is_old e h key_is. absurd
      (true≢false (ap is_some (sym is_old) ∙ there))) is
  short_put old new body true after there change fits are is =
      let first : LeafEntry = record { leaf = n; key = key_of new.key; body = body } in
      let second : LeafEntry = record { leaf = k; key = key_of new.key; body = [] } in
      own_put t n (two_has t n k two) valid R set maps below held old new (second ∷ []) (first ∷ [])
      after change fits are
      (λ e h. (
        subst (λ (y : LeafEntry). In y.leaf (leaves_of t)) (sym (one_of e second h))
            (second_in_tree t n k two),
        ap (λ (y : LeafEntry). y.key) (one_of e second h),
      ))
      (λ o is_old e h key_is. elim (placed o e h) [
        | inl at_first ↦ inl (first, inl refl, (sym at_first, sym key_is))
        | inr at_second ↦ inr (second, inl refl, (sym at_second, sym key_is))
      ]) is

  -- one with both parts comes
  pub each_put : (old : Option Rec) (new : Rec) (body other : List ℕ) (after : List LeafMap)
      → IsChange R old (Some new) → IsOf (tree_form any_rule t) new
      → entries_of any_rule t new ≡ record { leaf = n; key = key_of new.key; body = body }
      ∷ record { leaf = k; key = key_of new.key; body = other } ∷ []
      → after ≡ with_entry (with_entry maps n (key_of new.key) body) k (key_of new.key) other
      → IsInternal any_rule t (changed R old (Some new)) after
  each_put old new body other after change fits are is =
      let first : LeafEntry = record { leaf = n; key = key_of new.key; body = body } in
      let second : LeafEntry = record { leaf = k; key = key_of new.key; body = other } in
      own_put t n (two_has t n k two) valid R set maps below held old new [] (first ∷ second ∷ [])
      after change fits are
      (λ e none. absurd none)
      (λ o is_old e h key_is. elim (placed o e h) [
        | inl at_first ↦ inl (first, inl refl, (sym at_first, sym key_is))
        | inr at_second ↦ inl (second, inr (inl refl), (sym at_second, sym key_is))
      ]) is

  -- one comes in the place of another one that has the same second part
  in_place : (old new : Rec) (body : List ℕ) (after : List LeafMap) → In old R → old.key ≡ new.key
      → IsOf (tree_form any_rule t) new → others_in t old.fields ≡ others_in t new.fields
      → In (record { leaf = n; key = key_of new.key; body = body }) (entries_of any_rule t new)
      → after ≡ with_entry maps n (key_of new.key) body
      → IsInternal any_rule t (changed R (Some old) (Some new)) after
  in_place old new body after there same fits stay comes is =
      let was = two_shape t n k two old in
      let now = two_shape t n k two new in
      let e : LeafEntry = record { leaf = n; key = key_of new.key; body = body } in
      let first : now.0 ≡ body = body_is now.0 (other_body t (others_in t new.fields))
      (subst (In e) now.1 comes) in
      by_other was.0 (other_body t (others_in t new.fields))
      (was.1 ∙ ap (λ (vs : List Value).
      record { leaf = n; key = key_of old.key; body = was.0 } ∷ other_entry k (key_of old.key)
      (other_body t vs)) stay)
      (now.1 ∙ ap (λ (b : List ℕ). record { leaf = n; key = key_of new.key; body = b } ∷ other_entry
      k (key_of new.key) (other_body t (others_in t new.fields))) first)
    where
      body_is : (b : List ℕ) (other : Option (List ℕ))
          → In (record { leaf = n; key = key_of new.key; body = body })
          (record { leaf = n; key = key_of new.key; body = b } ∷ other_entry k (key_of new.key)
          other) → b ≡ body
      body_is b other (inl first) = ap (λ (y : LeafEntry). y.body) (sym first)
      body_is b None (inr none) = absurd none
      body_is b (Some o) (inr (inl second)) =
          absurd (two_apart t n k two valid (ap (λ (y : LeafEntry). y.leaf) second))
      body_is b (Some o) (inr (inr none)) = absurd none

      by_other : (b : List ℕ) (other : Option (List ℕ))
          → entries_of any_rule t old ≡ record { leaf = n; key = key_of old.key; body = b }
          ∷ other_entry k (key_of old.key) other
          → entries_of any_rule t new ≡ record { leaf = n; key = key_of new.key; body = body }
          ∷ other_entry k (key_of new.key) other
          → IsInternal any_rule t (changed R (Some old) (Some new)) after
      by_other b None gone come =
          let first : LeafEntry = record { leaf = n; key = key_of new.key; body = body } in
          own_put t n (two_has t n k two) valid R set maps below held (Some old) new [] (first ∷ [])
          after (there, same) fits come
          (λ e none. absurd none)
          (λ o is_old e h key_is. (let among : In e (entries_of any_rule t old) =
          subst (λ (q : Rec). In e (entries_of any_rule t q)) (sym (same_Some old o is_old)) h in
          inl (
            first,
            inl refl,
            (
              ap (λ (y : LeafEntry). y.leaf)
                  (sym (one_of e (record { leaf = n; key = key_of old.key; body = b })
                  (subst (In e) gone among))),
              sym key_is,
            ),
          ))) is
      by_other b (Some o) gone come =
          let first : LeafEntry = record { leaf = n; key = key_of new.key; body = body } in
          let second : LeafEntry = record { leaf = k; key = key_of old.key; body = o } in
          let union = union_from_internal any_rule t R maps held in
          let stood : at maps k (key_of old.key) ≡ Some o = union.holds second
          (in_each (entries_of any_rule t) old second R there
          (subst (In second) (sym gone) (inr (inl refl)))) in
          let kept : at (put_entries maps (first ∷ [])) k (key_of new.key) ≡ at maps k
          (key_of new.key) = put_elsewhere maps (first ∷ []) k (key_of new.key)
          (λ e h. below e.leaf (subst (λ (y : LeafEntry). In y.leaf (leaves_of t))
          (sym (one_of e first h)) (first_in_tree t n k two)))
          (λ e h place. two_apart t n k two valid
          (ap (λ (y : LeafEntry). y.leaf) (sym (one_of e first h)) ∙ place.0)) in
          each_put (Some old) new body o after (there, same) fits come
          (is ∙ sym (same_with (with_entry maps n (key_of new.key) body) k (key_of new.key) o
          (kept ∙ ap (λ (key : List Value). at maps k (key_of key)) (sym same) ∙ stood)))

  pub first_put : (gone : Option Rec) (new : Rec) (body : List ℕ) (after : List LeafMap)
      → StandsBefore previous.SameOthers t new.fields gone → IsChange R gone (Some new)
      → IsOf (tree_form any_rule t) new
      → In (record { leaf = n; key = key_of new.key; body = body }) (entries_of any_rule t new)
      → after ≡ with_entry maps n (key_of new.key) body
      → IsInternal any_rule t (changed R gone (Some new)) after
  first_put None new body after stay change fits comes is = absurd stay
  first_put (Some old) new body after stay change fits comes is =
      in_place old new body after change.0 change.1 fits stay comes is

-- whether a record is there
pub there_before : (previous : Previous) (t : Tree AnyMapping) (fields : List Value)
    (old : Option Rec) → StandsBefore previous t fields old
    → is_some old ≡ has_record previous
there_before previous.Absent t fields old none = none
there_before previous.Present t fields old there = there
there_before previous.SameOthers t fields None stay = absurd stay
there_before previous.SameOthers t fields (Some r) stay = refl

-- what is put is told of less that was there
pub puts_so : {S : Type 0} (g : Ghosts S) (t : Tree AnyMapping) (key : Value) (fields : List Value)
    (Known More : Option Rec → Type 0) (old new : S) (result : Result (Unit {0}) Stop)
    → ((gone : Option Rec) → More gone → Known gone)
    → Puts g t key fields Known old new result → Puts g t key fields More old new result
puts_so g t key fields Known More old new result so puts = record {
  internal = λ R gone whole more. puts.internal R gone whole (so gone more);
  others = puts.others;
  keeps = puts.keeps;
  ends = puts.ends;
  full = puts.full;
}
