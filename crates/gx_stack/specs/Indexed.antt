-- Which fields of a tree are indexed, and the keys that are found by one.
use Rattle.std.specs.Prelude.{◌≡◌, ◌≢◌, ℕ, suc, ◌+◌, ◌≤◌, Bool, true, false, not, ◌&&◌, ◌||◌, is_some, List, [], ◌∷◌, ◌++◌, length, map, Option, Some, None}
use Rattle.gx_values.specs.declared.values.Value.{Value}
use Rattle.gx_values.specs.declared.records.Form.{Form}
use Rattle.gx_values.specs.declared.records.Rec.{Rec}
use Rattle.gx_values.specs.declared.keys.Span.{Span}
use Rattle.gx_values.specs.Values.{AreFit}
use Rattle.gx_values.specs.Keys.{bytes_of, is_inside}
use Rattle.gx_ports.specs.LeafMaps.{LeafMap}
use Rattle.gx_mapping.specs.Rule.{Rule, In, value_in}
use Rattle.gx_stack.specs.Tree.{Tree, Kids, leaf, layer, no_kids, kid, leaves_of, tree_form, entry_total}
use Rattle.gx_stack.specs.Internal.{IsSet, IsInternal}

-- some child has it
abbrev pub is_carried : {M : Type 0} → Kids M → (ℕ → Bool) → Bool
is_carried no_kids carries = false
is_carried (kid t ks) carries = carries 0 || is_carried ks (λ c. carries (suc c))

-- A field is indexed where the mapping has an index by it, or where some child carries it and each
-- child that carries it is indexed by it. `carries` tells which children carry it.
abbrev mutual
  pub is_indexed : {M : Type 0} (rule : M → Rule) → Tree M → List ℕ → Bool
  is_indexed rule (leaf n form) name = false
  is_indexed rule (layer m ks) name =
      is_some ((rule m).indexes name) ||
      (is_carried ks (λ c. (rule m).carries c name) && are_indexed rule ks
      (λ c. (rule m).carries c name) name)

  pub are_indexed : {M : Type 0} (rule : M → Rule) → Kids M → (ℕ → Bool) → List ℕ → Bool
  are_indexed rule no_kids carries name = true
  are_indexed rule (kid t ks) carries name =
      (not (carries 0) || is_indexed rule t name) && are_indexed rule ks (λ c. carries (suc c)) name

-- ---- records by the values of a field

abbrev pub is_value_inside : Span → Option Value → Bool
is_value_inside span None = false
is_value_inside span (Some v) = is_inside span.lo span.hi (bytes_of v)

-- the key bytes of the record's first data field of this name are inside the span
abbrev pub is_where : Form → List ℕ → Span → Rec → Bool
is_where form name span r = is_value_inside span (value_in form.fields r.fields name)

-- no two of the records stand under one key
abbrev pub AreUnderOwnKeys : List Rec → Type 0
AreUnderOwnKeys [] = Unit {0}
AreUnderOwnKeys (r ∷ rs) = ((s : Rec) → In s rs → s.key ≢ r.key) × AreUnderOwnKeys rs

-- The keys are those of the records of R whose field is inside the span, each once; `recs` are
-- these records in the order in which they were found. The steps are at most one for each leaf and
-- one for each leaf entry of these records.
pub record AreKeysOf {M : Type 0} (rule : M → Rule) (t : Tree M) (name : List ℕ) (span : Span)
    (R : List Rec) (steps_before steps : ℕ) (keys : List (List Value)) : Type 0 where
  pub recs : List Rec
  pub same : keys ≡ map (λ r. r.key) recs
  pub sound : (r : Rec) → In r recs → In r R × (is_where (tree_form rule t) name span r ≡ true)
  pub complete : (r : Rec) → In r R → is_where (tree_form rule t) name span r ≡ true → In r recs
  pub once : AreUnderOwnKeys recs
  pub few_steps : steps ≤ steps_before + (length (leaves_of t) + entry_total rule t recs)

-- What was appended: keys of the form. Where the leaves are whole and hold a set of records, they
-- are the keys of those whose field is inside the span.
pub record AreKeysFound {M : Type 0} (rule : M → Rule) (t : Tree M) (name : List ℕ) (span : Span)
    (whole : Type 0) (maps : List LeafMap) (steps_before steps : ℕ)
    (before now : List (List Value)) : Type 0 where
  pub keys : List (List Value)
  pub appended : now ≡ before ++ keys
  pub fit : (key : List Value) → In key keys → AreFit (tree_form rule t).keys key
  pub those : whole → (R : List Rec) → IsSet (tree_form rule t) R → IsInternal rule t R maps
      → AreKeysOf rule t name span R steps_before steps keys
