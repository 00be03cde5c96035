-- The way along a chain.
use Rattle.std.specs.Prelude.{◌≡◌, ℕ, ◌+◌, ◌*◌, ◌≤◌, List, ◌∷◌, ◌++◌, length, Option}
use Rattle.gx_values.specs.declared.values.Value.{Value}
use Rattle.gx_values.specs.Values.{Fits}
use Rattle.gx_ports.specs.LeafMaps.{LeafMap}
use Rattle.gx_mapping.specs.Rule.{Rule, In}
use Rattle.gx_stack.specs.Tree.{Tree, leaves_of, entries_of, entry_total}
use Rattle.gx_stack.specs.Internal.{IfThere}
use Rattle.gx_links.specs.Links.{Link, members_of, IsLink}
use Rattle.gx_links.specs.Rows.{IsHeldLink, two_nodes, owner_kind, member_kind}
use Rattle.gx_ring.specs.Ring.{first, chain_rec, chain, ring_rows}

-- the maps hold a link in which this is a member of an owner, after some and before others
pub record HasMember {M : Type 0} (rule : M → Rule) (heads nexts : Tree M) (maps : List LeafMap)
    (member : Value) : Type 0 where
  pub link : Link
  pub is_link : IsLink (owner_kind rule heads) (member_kind rule nexts) link
  pub held : IsHeldLink rule (two_nodes heads nexts) ring_rows link maps
  pub owner : Value
  pub front : List Value
  pub rest : List Value
  pub members : members_of link owner ≡ front ++ member ∷ rest

-- the maps hold a link in which this is the first member of an owner
pub record HasChain {M : Type 0} (rule : M → Rule) (heads nexts : Tree M) (maps : List LeafMap)
    (member : Value) : Type 0 where
  pub link : Link
  pub is_link : IsLink (owner_kind rule heads) (member_kind rule nexts) link
  pub held : IsHeldLink rule (two_nodes heads nexts) ring_rows link maps
  pub owner : Value
  pub rest : List Value
  pub members : members_of link owner ≡ member ∷ rest

-- What was found behind a member: one of the members' kind, or none. Where the leaves are whole and
-- hold a link with that member, it is the next one of the same owner.
pub record IsNext {M : Type 0} (rule : M → Rule) (heads nexts : Tree M) (whole : Type 0)
    (maps : List LeafMap) (member : Value) (steps_before steps : ℕ)
    (found : Option Value) : Type 0 where
  pub fit : IfThere found (Fits (member_kind rule nexts))
  pub that : whole → (has : HasMember rule heads nexts maps member) → found ≡ first has.rest
  pub few_steps : whole → (has : HasMember rule heads nexts maps member)
      → steps ≤ steps_before + (length (leaves_of nexts)
      + length (entries_of rule nexts (chain_rec has.owner member (first has.rest))))

-- What was appended along a chain: values of the members' kind. Where the leaves are whole and hold
-- a link in which the chain begins so, they are the members of that owner.
pub record AreWalked {M : Type 0} (rule : M → Rule) (heads nexts : Tree M) (whole : Type 0)
    (maps : List LeafMap) (member : Value) (steps_before steps : ℕ)
    (before now : List Value) : Type 0 where
  pub found : List Value
  pub appended : now ≡ before ++ found
  pub fit : (m : Value) → In m found → Fits (member_kind rule nexts) m
  pub those : whole → (has : HasChain rule heads nexts maps member) → found ≡ member ∷ has.rest
  pub few_steps : whole → (has : HasChain rule heads nexts maps member)
      → steps ≤ steps_before + (length found * length (leaves_of nexts)
      + entry_total rule nexts (chain has.owner (member ∷ has.rest)))
