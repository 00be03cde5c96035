-- The fragments of a record are in leaves of their own.
use Rattle.std.proofs.Common.{◌≡◌, ◌∙◌, ℕ, zero, suc, List, [], ◌∷◌, ◌++◌, Bool, true, false, if◌then◌else◌, inl, inr, sym, ap, subst}
use Rattle.gx_values.specs.declared.records.Form.{Form}
use Rattle.gx_values.specs.declared.records.Rec.{Rec}
use Rattle.gx_mapping.specs.Rule.{Rule, In}
use Rattle.gx_gather.proofs.Lists.{in_left, in_right, in_cases, in_map, IsOnce, once_joined}
use Rattle.gx_partition.specs.Bounds.{child_of}
use Rattle.gx_stack.specs.Tree.{Tree, Kids, leaf, layer, no_kids, kid, kids_leaves, leaves_of, IsValid, AreValid}
use Rattle.gx_access.specs.declared.access.Fragment.{Fragment}
use Rattle.gx_access.specs.Access.{Choice, Choices, Only, By, no_choices, choice, chooser_value, fragments_of, fragments_at}
use Rattle.gx_access.specs.Leaves.{fragment_leaves, choice_leaves, choices_leaves}
use Rattle.gx_access.specs.Whole.{data_leaves, kids_data_leaves}
use Rattle.gx_access.proofs.DataLeaves.{leaf_there}

-- ---- the data leaves of a tree, each once

if_in : (b : Bool) (n : ℕ) (ns : List ℕ) → In n (if b then ns else []) → In n ns
if_in true n ns h = h
if_in false n ns h = absurd h

if_once : (b : Bool) (ns : List ℕ) → IsOnce ns → IsOnce (if b then ns else [])
if_once true ns once = once
if_once false ns once = tt

module _ {M : Type 0} (rule : M → Rule) where
  kids_there : (rest : ℕ → Bool) (ks : Kids M) (n : ℕ) → In n (kids_data_leaves rule rest ks)
      → In n (kids_leaves ks)
  kids_there rest no_kids n h = absurd h
  kids_there rest (kid t ks) n h =
      elim (in_cases n (if rest 0 then data_leaves rule t else [])
      (kids_data_leaves rule (λ c. rest (suc c)) ks) h) [
        | inl a ↦ in_left n (leaves_of t) (kids_leaves ks)
            (leaf_there rule t n (if_in (rest 0) n (data_leaves rule t) a))
        | inr b ↦ in_right n (leaves_of t) (kids_leaves ks)
            (kids_there (λ c. rest (suc c)) ks n b)
      ]

  mutual
    pub data_once : (t : Tree M) → IsValid rule t → IsOnce (data_leaves rule t)
    data_once (leaf n form) v = (λ i. i, tt)
    data_once (layer m ks) v = kids_once (rule m).holds_rest (rule m).kid_form ks v.1

    kids_once : (rest : ℕ → Bool) (forms : ℕ → Form) (ks : Kids M) → AreValid rule forms ks
        → IsOnce (kids_data_leaves rule rest ks)
    kids_once rest forms no_kids v = tt
    kids_once rest forms (kid t ks) v =
        once_joined (if rest 0 then data_leaves rule t else [])
        (kids_data_leaves rule (λ c. rest (suc c)) ks)
        (if_once (rest 0) (data_leaves rule t) (data_once t v.1))
        (kids_once (λ c. rest (suc c)) (λ c. forms (suc c)) ks v.3)
        (λ n i k. v.2 n (leaf_there rule t n (if_in (rest 0) n (data_leaves rule t) i))
        (kids_there (λ c. rest (suc c)) ks n k))

-- ---- the fragments of one alternative

once_left : (xs ys : List ℕ) → IsOnce (xs ++ ys) → IsOnce xs
once_left [] ys o = tt
once_left (x ∷ xs) ys o = (λ h. o.0 (in_left x xs ys h), once_left xs ys o.1)

once_right : (xs ys : List ℕ) → IsOnce (xs ++ ys) → IsOnce ys
once_right [] ys o = o
once_right (x ∷ xs) ys o = once_right xs ys o.1

mutual
  pub once_chosen : (ch : Choice) (r : Rec) → IsOnce (choice_leaves ch)
      → IsOnce (fragment_leaves (fragments_of ch r))
  once_chosen (Only fs) r o = o
  once_chosen (By chooser bounds cs) r o =
      once_at cs (child_of bounds (chooser_value chooser r)) r o

  once_at : (cs : Choices) (c : ℕ) (r : Rec) → IsOnce (choices_leaves cs)
      → IsOnce (fragment_leaves (fragments_at cs c r))
  once_at no_choices c r o = tt
  once_at (choice ch cs) zero r o =
      once_chosen ch r (once_left (choice_leaves ch) (choices_leaves cs) o)
  once_at (choice ch cs) (suc c) r o =
      once_at cs c r (once_right (choice_leaves ch) (choices_leaves cs) o)

mutual
  pub leaf_chosen : (ch : Choice) (r : Rec) (f : Fragment) → In f (fragments_of ch r)
      → In f.leaf (choice_leaves ch)
  leaf_chosen (Only fs) r f h = in_map (λ (g : Fragment). g.leaf) f fs h
  leaf_chosen (By chooser bounds cs) r f h =
      leaf_at cs (child_of bounds (chooser_value chooser r)) r f h

  pub leaf_at : (cs : Choices) (c : ℕ) (r : Rec) (f : Fragment) → In f (fragments_at cs c r)
      → In f.leaf (choices_leaves cs)
  leaf_at no_choices c r f h = absurd h
  leaf_at (choice ch cs) zero r f h =
      in_left f.leaf (choice_leaves ch) (choices_leaves cs) (leaf_chosen ch r f h)
  leaf_at (choice ch cs) (suc c) r f h =
      in_right f.leaf (choice_leaves ch) (choices_leaves cs) (leaf_at cs c r f h)

-- fragments of one leaf are one
pub same_leaf : (fs : List Fragment) (f g : Fragment) → IsOnce (fragment_leaves fs) → In f fs
    → In g fs → g.leaf ≡ f.leaf → g ≡ f
same_leaf [] f g o h k e = absurd h
same_leaf (x ∷ fs) f g o (inl a) (inl b) e = b ∙ sym a
same_leaf (x ∷ fs) f g o (inl a) (inr k) e =
    absurd (o.0 (subst (λ n. In n (fragment_leaves fs)) (e ∙ ap (λ (y : Fragment). y.leaf) a)
    (in_map (λ (y : Fragment). y.leaf) g fs k)))
same_leaf (x ∷ fs) f g o (inr h) (inl b) e =
    absurd (o.0 (subst (λ n. In n (fragment_leaves fs)) (sym e ∙ ap (λ (y : Fragment). y.leaf) b)
    (in_map (λ (y : Fragment). y.leaf) f fs h)))
same_leaf (x ∷ fs) f g o (inr h) (inr k) e = same_leaf fs f g o.1 h k e
