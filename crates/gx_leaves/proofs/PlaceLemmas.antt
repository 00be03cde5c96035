-- What is known of the place of each leaf.
use Rattle.std.proofs.Common.{◌≡◌, ℕ, zero, suc, ◌+◌, ◌<◌, ◌≤◌, IsTrue, List, [], ◌∷◌, length, get_or, map, refl, sym, ap, subst, ◌∙◌, arith, rules}
use Rattle.std.specs.Prelude.{slice_get, Some}
use Rattle.std.proofs.lemmas.List.{length-map}
use Rattle.std.proofs.lemmas.Option.{slice_get_within, slice_get_read, same_Some}
use Rattle.std.proofs.lemmas.List.Sums.{sum_by-cons}
use Rattle.gx_ports.specs.declared.kinds.LeafSpec.{LeafSpec}
use Rattle.gx_ports.specs.declared.pages.Place.{Place}
use Rattle.gx_ports.specs.Roots.{roots_of, root_pages}
use Rattle.gx_ports.specs.Sheets.{Ground}
use Rattle.gx_ports.specs.Files.{IsPlace}
use Rattle.gx_leaves.specs.Kinds.{is_built, are_built}
use Rattle.gx_leaves.specs.Places.{places_from, places_of, specs_of, IsRoomFor, IsLaidOut}

roots_cons : (spec : LeafSpec) (specs : List LeafSpec)
    → root_pages (spec ∷ specs) ≡ roots_of spec + root_pages specs
roots_cons spec specs = sum_by-cons (λ (n : ℕ). n) (roots_of spec) (map roots_of specs)

-- the place of a leaf among those that begin here
record IsFrom (root owner leaf : ℕ) (specs : List LeafSpec) (place : Place) : Type 0 where
  number : place.owner ≡ owner + leaf
  past : root ≤ place.root
  below : place.root + roots_of place.spec ≤ root + root_pages specs
  built : IsTrue (is_built place.spec.kind)

front_built : (spec : LeafSpec) (specs : List LeafSpec) → IsTrue (are_built (spec ∷ specs))
    → IsTrue (is_built spec.kind) × IsTrue (are_built specs)
front_built spec specs built = search rules

at_from : (specs : List LeafSpec) (root owner leaf : ℕ) (place : Place) → IsTrue (are_built specs)
    → slice_get (places_from root owner specs) leaf ≡ Some place
    → IsFrom root owner leaf specs place
at_from [] root owner leaf place built at = absurd (cc)
at_from (spec ∷ specs) root owner zero place built at =
    subst (λ p. IsFrom root owner zero (spec ∷ specs) p) (same_Some _ place at) (record {
      number = omega arith;
      past = omega arith;
      below = omega (arith, roots_cons spec specs);
      built = (front_built spec specs built).0;
    })
at_from (spec ∷ specs) root owner (suc leaf) place built at =
    let rest = at_from specs (root + roots_of spec) (owner + 1) leaf place
    (front_built spec specs built).1 at in record {
      number = omega (arith, rest.number);
      past = omega (arith, rest.past);
      below = omega (arith, rest.below, roots_cons spec specs);
      built = rest.built;
    }

-- the place of a leaf
pub record IsPlaceOf (base : Ground) (leaf : ℕ) (place : Place) : Type 0 where
  pub is : IsPlace base place
  pub number : place.owner ≡ leaf + 1
  pub built : IsTrue (is_built place.spec.kind)

pub placed : (base : Ground) (places : List Place) → IsLaidOut base places
    → (leaf : ℕ) (place : Place) → slice_get places leaf ≡ Some place → IsPlaceOf base leaf place
placed base places laid leaf place at =
    let from = at_from (specs_of places) base.tables 1 leaf place laid.room.built
    (ap (λ ps. slice_get ps leaf) (sym laid.places_are) ∙ at) in
    let within = slice_get_within places leaf place at in
    let few = laid.room.few in
    let many = length-map places (λ (p : Place). p.spec) in record {
      is = record {
        past = from.past;
        below = omega (arith, from.below, laid.room.room);
        least = omega (arith, from.number);
        most = omega (arith, from.number, within, few, many);
      };
      number = omega (arith, from.number);
      built = from.built;
    }

-- the place that is read for a leaf
pub place_at : (places : List Place) (leaf count : ℕ) (place : Place) → count ≡ length places
    → leaf < count → place ≡ get_or places leaf place → slice_get places leaf ≡ Some place
place_at places leaf count place many below is =
    slice_get_read places count leaf place many below is

between : (specs : List LeafSpec) (root owner i j : ℕ) (p q : Place) → IsTrue (are_built specs)
    → i < j → slice_get (places_from root owner specs) i ≡ Some p
    → slice_get (places_from root owner specs) j ≡ Some q → p.root + roots_of p.spec ≤ q.root
between [] root owner i j p q built less here there = absurd (cc)
between (spec ∷ specs) root owner i zero p q built less here there = absurd (omega (arith, less))
between (spec ∷ specs) root owner zero (suc j) p q built less here there =
    let behind = at_from specs (root + roots_of spec) (owner + 1) j q
    (front_built spec specs built).1 there in
    subst (λ x. x.root + roots_of x.spec ≤ q.root) (same_Some _ p here) behind.past
between (spec ∷ specs) root owner (suc i) (suc j) p q built less here there =
    between specs (root + roots_of spec) (owner + 1) i j p q (front_built spec specs built).1
    (omega (arith, less)) here there

-- the roots of a leaf end where those of a later one begin, or before
pub roots_apart : (base : Ground) (places : List Place) → IsLaidOut base places
    → (i j : ℕ) (p q : Place) → i < j → slice_get places i ≡ Some p → slice_get places j ≡ Some q
    → p.root + roots_of p.spec ≤ q.root
roots_apart base places laid i j p q less here there =
    between (specs_of places) base.tables 1 i j p q laid.room.built less
    (ap (λ ps. slice_get ps i) (sym laid.places_are) ∙ here)
    (ap (λ ps. slice_get ps j) (sym laid.places_are) ∙ there)

pub specs_back : (specs : List LeafSpec) (root owner : ℕ)
    → specs_of (places_from root owner specs) ≡ specs
specs_back [] root owner = refl
specs_back (spec ∷ specs) root owner =
    λ i. spec ∷ specs_back specs (root + roots_of spec) (owner + 1) i

pub laid_by : (base : Ground) (specs : List LeafSpec) (places : List Place) → IsRoomFor base specs
    → places ≡ places_of base specs → IsLaidOut base places
laid_by base specs places room is =
    let back : specs_of places ≡ specs = ap specs_of is ∙ specs_back specs base.tables 1 in record {
      room = subst (λ ss. IsRoomFor base ss) (sym back) room;
      places_are = is ∙ ap (places_of base) (sym back);
    }

pub place_count : (base : Ground) (specs : List LeafSpec) (places : List Place)
    → places ≡ places_of base specs → length places ≡ length specs
place_count base specs places is = sym (length-map places (λ (p : Place). p.spec))
    ∙ ap length (ap specs_of is ∙ specs_back specs base.tables 1)
