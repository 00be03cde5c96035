-- What contracts see of a linkset, what is true of each, and what its calls find.
use Rattle.std.specs.Prelude.{◌≡◌, ◌↔◌, ℕ, suc, ◌+◌, ◌*◌, ◌≤◌, ◌<◌, Bool, true, false, List, [], ◌++◌, length, Option, Some, None, IfSome}
use Rattle.std.specs.List.{flat_map}
use Rattle.std.specs.FinMap as fin
use Rattle.gx_values.specs.declared.values.Kind.{Kind}
use Rattle.gx_values.specs.declared.values.Value.{Value}
use Rattle.gx_values.specs.Values.{Fits}
use Rattle.gx_ports.specs.LeafMaps.{LeafMap}
use Rattle.gx_mapping.specs.Rule.{In}
use Rattle.gx_stack.specs.declared.entries.LeafEntry.{LeafEntry}
use Rattle.gx_stack.specs.Internal.{at}
use Rattle.gx_links.specs.declared.linkset.Joining.{Joining}
use Rattle.gx_links.specs.declared.linkset.Joining.TheVariants as joining
use Rattle.gx_links.specs.Links.{Link, members_of, owners_of, most_members, IsLink}

-- what contracts see of a linkset
pub record LinkRule : Type 0 where
  -- the kinds of the keys of owners and of members
  pub owner : Kind
  pub member : Kind
  -- the leaves of its nodes
  pub leaves : List ℕ
  -- the leaf entries that come from one owner with its members
  pub entries : Value → List Value → List LeafEntry
  -- how often the leaves are gone through for so many members
  pub rounds : ℕ → ℕ
  -- whether an owner is found without reading all of the link
  pub finds : Bool

-- the leaf entries of all owners
abbrev pub link_entries : LinkRule → Link → List LeafEntry
link_entries rule link = flat_map (λ o. rule.entries o (members_of link o)) (owners_of link)

-- a leaf of the linkset has a body at a key exactly where that is an entry of the link
pub record IsLinkUnion (rule : LinkRule) (link : Link) (maps : List LeafMap) : Type 0 where
  pub holds : (e : LeafEntry) → In e (link_entries rule link) → at maps e.leaf e.key ≡ Some e.body
  pub only : (e : LeafEntry) → In e.leaf rule.leaves → at maps e.leaf e.key ≡ Some e.body
      → In e (link_entries rule link)

-- what is true of each linkset; `held` says which maps stand for a link
pub record LinksetLaws (rule : LinkRule) (held : Link → List LeafMap → Type 0) : Type 0 where
  -- its entries are in its leaves
  pub inside : (o : Value) (ms : List Value) (e : LeafEntry) → In e (rule.entries o ms)
      → In e.leaf rule.leaves
  -- the maps that stand for a link are the union over its owners
  pub union : (link : Link) (maps : List LeafMap) → IsLink rule.owner rule.member link
      → held link maps ↔ IsLinkUnion rule link maps
  -- and they tell the link
  pub told : (link other : Link) (maps : List LeafMap) → IsLink rule.owner rule.member link
      → IsLink rule.owner rule.member other → held link maps → held other maps → link ≡ other
  -- an owner without members has no entry
  pub none : (o : Value) → rule.entries o [] ≡ []
  -- for so many members the leaves are gone through once for each, and once more, at most
  pub few_rounds : (n : ℕ) → rule.rounds n ≤ suc n
  -- and once alone where an owner isn't found without reading all
  pub one_round : rule.finds ≡ false → (n : ℕ) → rule.rounds n ≤ 1

-- the maps stand for some link
abbrev pub HasLink : LinkRule → (Link → List LeafMap → Type 0) → List LeafMap → Type 0
HasLink rule held maps = (link : Link) × IsLink rule.owner rule.member link × held link maps

-- the most steps in which an owner's members are read: one for each leaf each time that it is gone
-- through, and one for each entry
abbrev pub steps_for : LinkRule → Link → Value → ℕ
steps_for rule link owner =
    rule.rounds (length (members_of link owner)) * length rule.leaves
    + length (rule.entries owner (members_of link owner))

-- What was appended: values of the members' kind. Where the leaves are whole and hold a link, they
-- are the members of the owner.
pub record AreMembers (rule : LinkRule) (held : Link → List LeafMap → Type 0) (whole : Type 0)
    (maps : List LeafMap) (owner : Value) (steps_before steps : ℕ)
    (before now : List Value) : Type 0 where
  pub found : List Value
  pub appended : now ≡ before ++ found
  pub fit : (m : Value) → In m found → Fits rule.member m
  pub those : whole → (link : Link) → IsLink rule.owner rule.member link → held link maps
      → found ≡ members_of link owner
  pub few_steps : whole → (link : Link) → IsLink rule.owner rule.member link → held link maps
      → steps ≤ steps_before + steps_for rule link owner

-- the leaf entries of an owner, where there is one
abbrev pub entries_if : LinkRule → Link → Option Value → List LeafEntry
entries_if rule link None = []
entries_if rule link (Some owner) = rule.entries owner (members_of link owner)

-- What was found: a value of the owners' kind, or none. Where the leaves are whole and hold a link,
-- it is the member's owner.
pub record IsOwner (rule : LinkRule) (held : Link → List LeafMap → Type 0) (whole : Type 0)
    (maps : List LeafMap) (member : Value) (steps_before steps : ℕ)
    (found : Option Value) : Type 0 where
  pub fit : IfSome found (Fits rule.owner)
  pub that : whole → (link : Link) → IsLink rule.owner rule.member link → held link maps
      → found ≡ fin.get link member
  pub few_steps : rule.finds ≡ true → whole → (link : Link) → IsLink rule.owner rule.member link
      → held link maps
      → steps ≤ steps_before + (length rule.leaves + length (entries_if rule link found))

-- the maps stand for a link in which the member has no owner
pub record CanConnect (rule : LinkRule) (held : Link → List LeafMap → Type 0) (maps : List LeafMap)
    (link : Link) (member : Value) : Type 0 where
  pub is_link : IsLink rule.owner rule.member link
  pub is_held : held link maps
  pub free : fin.get link member ≡ None

-- the owner can have a further member
abbrev pub HasRoom : Link → Value → Type 0
HasRoom link owner = length (members_of link owner) < most_members

-- what became of a member that was to join an owner: the maps stand for the link with the pair; or
-- they do for the link as it was, where the owner had no room
abbrev pub IsJoined : (Link → List LeafMap → Type 0) → List LeafMap → Link → Value → Value → Joining
    → Type 0
IsJoined held maps link owner member joining.Joined =
    HasRoom link owner × held (fin.insert link member owner) maps
IsJoined held maps link owner member joining.NoRoom = ¬ HasRoom link owner × held link maps

-- the maps stand for a link in which the member has this owner
pub record CanDisconnect (rule : LinkRule) (held : Link → List LeafMap → Type 0)
    (maps : List LeafMap) (link : Link) (owner member : Value) : Type 0 where
  pub is_link : IsLink rule.owner rule.member link
  pub is_held : held link maps
  pub owned : fin.get link member ≡ Some owner
