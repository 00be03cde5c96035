-- Owners with their members, made from pairs of a member and its owner.
use Rattle.std.specs.Prelude.{◌≡◌, Bool, false, List, [], ◌∷◌, ◌++◌, map, length, ◌<◌, Some, if◌then◌else◌}
use Rattle.std.specs.List.{flat_map}
use Rattle.std.specs.List.Sorted.{IsStrictlySortedBy}
use Rattle.std.specs.FinMap as fin
use Rattle.std.specs.Ordering.{ordering_then}
use Rattle.std.specs.declared.cmp.Ordering.{Ordering}
use Rattle.gx_values.specs.declared.values.Value.{Value}
use Rattle.gx_values.specs.Values.{value_cmp}
use Rattle.gx_mapping.specs.Rule.{In}
use Rattle.gx_links.specs.declared.pairs.Owned.{Owned}
use Rattle.gx_links.specs.Links.{Link, is_same, members_of}

-- by owner, and then by member
abbrev pub owner_cmp : Value × Value → Value × Value → Ordering
owner_cmp p q = ordering_then (value_cmp p.1 q.1) (value_cmp p.0 q.0)

-- by member
abbrev pub member_cmp : Value × Value → Value × Value → Ordering
member_cmp p q = value_cmp p.0 q.0

-- an owner with one member
abbrev pub first_of : Value × Value → Owned
first_of p = record { owner = p.1; members = p.0 ∷ [] }

-- a member more, at the end
abbrev pub with_member_last : Owned → Value → Owned
with_member_last g m = record { owner = g.owner; members = g.members ++ m ∷ [] }

-- whether it is the owner of the last group
abbrev pub is_last : List Owned → Value → Bool
is_last [] o = false
is_last (g ∷ []) o = is_same g.owner o
is_last (g ∷ h ∷ gs) o = is_last (h ∷ gs) o

-- a pair more, whose owner is the last one or comes behind it
abbrev pub with_pair : List Owned → Value × Value → List Owned
with_pair [] p = first_of p ∷ []
with_pair (g ∷ []) p =
    if is_same g.owner p.1 then with_member_last g p.0 ∷ [] else g ∷ first_of p ∷ []
with_pair (g ∷ h ∷ gs) p = g ∷ with_pair (h ∷ gs) p

-- the pairs of owners with their members
abbrev pub pair_with : Value → Value → Value × Value
pair_with o m = (m, o)

abbrev pub pairs_under : Owned → List (Value × Value)
pairs_under g = map (pair_with g.owner) g.members

abbrev pub pairs_of : List Owned → List (Value × Value)
pairs_of = flat_map pairs_under

-- an owner of some of the pairs, with members of its own
pub record IsGroupOf (ps : List (Value × Value)) (g : Owned) : Type 0 where
  pub some : 0 < length g.members
  pub each : (m : Value) → In m g.members → In (m, g.owner) ps

-- these are the owners of the link that have a member, ascending, each with its members
pub record AreOwners (link : Link) (gs : List Owned) : Type 0 where
  pub in_order : IsStrictlySortedBy value_cmp (map (λ (g : Owned). g.owner) gs)
  pub each : (g : Owned) → In g gs → g.members ≡ members_of link g.owner
  pub all : (m o : Value) → fin.get link m ≡ Some o → (g : Owned) × In g gs × (g.owner ≡ o)
