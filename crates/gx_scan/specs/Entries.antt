-- Records that stand whole in leaves.
use Rattle.std.specs.Prelude.{[], ◌≡◌, ℕ, suc, List, ◌∷◌, ◌++◌, Option, map, nat_eq, Bool, true, false, if◌then◌else◌}
use Rattle.std.specs.List.{filter}
use Rattle.std.specs.FinMap as fin
use Rattle.gx_values.specs.declared.values.Code.{Code}
use Rattle.gx_values.specs.declared.records.Rec.{Rec}
use Rattle.gx_values.specs.Keys.{bytes_of, AreKeyFields}
use Rattle.gx_mapping.specs.declared.parts.Part.{Part}
use Rattle.gx_mapping.specs.Rule.{Rule, In, IsOf}
use Rattle.gx_stack.specs.declared.entries.LeafEntry.{LeafEntry}
use Rattle.gx_stack.specs.Tree.{Tree, Kids, leaf, layer, no_kids, kid, tree_form, entries_of, entry_in, leaf_body}
use Rattle.gx_types.specs.declared.any.AnyMapping.{AnyMapping}
use Rattle.gx_types.specs.Any.{any_rule}
use Rattle.gx_schema.specs.declared.schema.FileDef.{FileDef}
use Rattle.gx_model.specs.States.{File, Row, IsRowOf}
use Rattle.gx_scan.specs.declared.places.Place.{Place}
use Rattle.gx_scan.specs.Files.{rec_of}
use Rattle.gx_codec.specs.Stored.{wrapped, stored_rec, HaveCodes}

-- a record below layers, of which so many are `actual` and the others give its data fields these
-- codes
abbrev pub below : ℕ → List (Option Code) → Rec → Rec
below n cs r = wrapped n (stored_rec cs r)

-- the entry of a record whose values, by these codes, have so many lengths before them
abbrev pub entry_of_row : ℕ → List (Option Code) → Row → List ℕ × List ℕ
entry_of_row n cs r = (bytes_of r.0, leaf_body (below (suc n) cs (rec_of r)).fields)

-- a record of the file whose values have these codes
abbrev pub IsStoredRow : FileDef → List (Option Code) → Row → Type 0
IsStoredRow file cs r = IsRowOf file r × HaveCodes cs r.1

-- A layer passes each record that is below n layers `actual` and has the codes cs to one data
-- child, where it is below b of them and has the codes ds. What else comes of the record goes to
-- children that aren't data children.
pub record IsPassed (rule : Rule) (n : ℕ) (cs : List (Option Code)) (b : ℕ)
    (ds : List (Option Code)) (r : Rec) : Type 0 where
  pub child : ℕ
  pub rest : rule.holds_rest child ≡ true
  pub others : List Part
  pub parts : rule.parts (below n cs r) ≡ record { child = child; rec = below b ds r } ∷ others
  pub beside : (p : Part) → In p others → rule.holds_rest p.child ≡ false
  pub coded : HaveCodes ds r.fields

pub record PassesOn (rule : Rule) (n : ℕ) (cs : List (Option Code)) (b : ℕ)
    (ds : List (Option Code)) : Type 0 where
  pub each : (r : Rec) → IsOf rule.form (below n cs r) → HaveCodes cs r.fields
      → IsPassed rule n cs b ds r
  pub plain : (c : ℕ) → rule.holds_rest c ≡ true → (n ≡ 0 → cs ≡ [] → AreKeyFields rule.form.fields)
      → b ≡ 0 → ds ≡ [] → AreKeyFields (rule.kid_form c).fields

-- the leaves that records are gathered from
abbrev mutual
  pub data_leaves : Tree AnyMapping → List ℕ
  data_leaves (leaf n form) = n ∷ []
  data_leaves (layer m ks) = kids_data ((any_rule m).holds_rest) ks

  -- those below the data children
  pub kids_data : (ℕ → Bool) → Kids AnyMapping → List ℕ
  kids_data holds_rest no_kids = []
  kids_data holds_rest (kid t ks) = (if holds_rest 0 then data_leaves t else []) ++ kids_data
      (λ c. holds_rest (suc c)) ks

-- the first of the entries, and the only one in these leaves
pub record IsAlone (leaves : List ℕ) (e : LeafEntry) (es : List LeafEntry) : Type 0 where
  pub others : List LeafEntry
  pub first : es ≡ e ∷ others
  pub elsewhere : (o : LeafEntry) → In o others → In o.leaf leaves → ⊥

-- The places are the leaves that the tree's records are gathered from, each once and in their
-- order. Each record of the tree, which is below n layers `actual` and has the codes cs, stands
-- whole in one of them, by the codes of that place, and none of its other entries stands in any.
pub record ArePlacesBelow (n : ℕ) (cs : List (Option Code)) (t : Tree AnyMapping)
    (places : List Place) : Type 0 where
  pub leaves : map (λ p. p.leaf) places ≡ data_leaves t
  pub stand : (r : Rec) → IsOf (tree_form any_rule t) (below n cs r) → HaveCodes cs r.fields
      → (p : Place) × In p places × HaveCodes p.codes r.fields
      × IsAlone (data_leaves t) (entry_in p.leaf (below (suc p.lengths) p.codes r))
      (entries_of any_rule t (below n cs r))

-- the same where no field has a code above
abbrev pub ArePlaces : ℕ → Tree AnyMapping → List Place → Type 0
ArePlaces n t places = ArePlacesBelow n [] t places

-- one of the places of a file's records
pub record IsPlaceOf (t : Tree AnyMapping) (p : Place) : Type 0 where
  pub places : List Place
  pub are : ArePlaces 0 t places
  pub there : In p places

abbrev pub first_leaf : List LeafEntry → ℕ
first_leaf [] = 0
first_leaf (e ∷ es) = e.leaf

-- the leaf of a record
abbrev pub leaf_of : Tree AnyMapping → Row → ℕ
leaf_of t r = first_leaf (entries_of any_rule t (rec_of r))

-- the records of a file that stand in a leaf
abbrev pub rows_at : Tree AnyMapping → ℕ → File → List Row
rows_at t n f = filter (λ r. nat_eq (leaf_of t r) n) (fin.entries f)
