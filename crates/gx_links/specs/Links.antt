-- Links: from each member to its owner.
use Rattle.std.specs.Prelude.{◌≡◌, ℕ, ◌≤◌, not, List, [], ◌∷◌, map, filter, length, Some, if◌then◌else◌}
use Rattle.std.specs.FinMap as fin
use Rattle.std.specs.Ordering.{is_lt}
use Rattle.gx_values.specs.declared.values.Kind.{Kind}
use Rattle.gx_values.specs.declared.values.Value.{Value}
use Rattle.gx_values.specs.Values.{value_cmp, Fits}
pub use Rattle.gx_values.specs.Links.{Link, is_same}
use Rattle.gx_schema.specs.declared.schema.TheConstants.{MOST_MEMBERS}

-- the members of an owner, ascending
abbrev pub members_of : Link → Value → List Value
members_of link owner =
    map (λ pair. pair.0) (filter (λ pair. is_same pair.1 owner) (fin.entries link))

-- each once
abbrev pub distinct : List Value → List Value
distinct [] = []
distinct (x ∷ xs) = x ∷ filter (λ y. not (is_same y x)) (distinct xs)

-- the owners that have a member
abbrev pub owners_of : Link → List Value
owners_of link = distinct (map (λ pair. pair.1) (fin.entries link))

-- the most members that an owner has in one link
abbrev pub most_members : ℕ
most_members = MOST_MEMBERS

-- a link that nodes can hold: members and owners are of their kinds, and no owner has too many
-- members
pub record IsLink (owner member : Kind) (link : Link) : Type 0 where
  pub fit : (m o : Value) → fin.get link m ≡ Some o → Fits member m × Fits owner o
  pub few : (o : Value) → length (members_of link o) ≤ most_members

-- ---- one member more or less, among ascending ones

abbrev pub with_member : Value → List Value → List Value
with_member m [] = m ∷ []
with_member m (x ∷ xs) = if is_lt (value_cmp m x) then m ∷ x ∷ xs else x ∷ with_member m xs

abbrev pub without_member : Value → List Value → List Value
without_member m = filter (λ x. not (is_same x m))
