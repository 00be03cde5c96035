-- The owner of a member.
use Rattle.std.specs.Prelude.{◌≡◌, ℕ, ◌+◌, ◌*◌, ◌≤◌, true, List, length, Option, Some, None, is_some, Result, IfOk, OnOk, IsTrue}
use Rattle.std.specs.FinMap as fin
use Rattle.gx_values.specs.declared.values.Value.{Value}
use Rattle.gx_ports.specs.declared.stop.Stop.{Stop}
use Rattle.gx_ports.specs.declared.view.View.{Ghosts}
use Rattle.gx_ports.specs.LeafMaps.{LeafMap}
use Rattle.gx_ports.specs.Calls.{ReadsMaps}
use Rattle.gx_model.specs.States.{File}
use Rattle.gx_scan.specs.Files.{rec_of}
use Rattle.gx_scan.specs.Steps.{HaveAtMost}
use Rattle.gx_links.specs.Links.{Link}
use Rattle.gx_links.specs.Linksets.{LinkRule}
use Rattle.gx_pairs.specs.declared.owners.Owned.{Owned}
use Rattle.gx_pairs.specs.declared.owners.Owned.TheVariants as owned
use Rattle.gx_pairs.specs.declared.stored.StoredLink.{StoredLink}
use Rattle.gx_pairs.specs.Stored.{node_tree, AreLinked, HaveLink, OwnersHaveAtMost}

-- there is no such member; or it has no owner; or this is the record of its owner
abbrev pub IsOwned : File → File → Link → Value → Owned → Type 0
IsOwned owners members link member owned.NoMember = fin.get members member ≡ None
IsOwned owners members link member owned.Free =
    IsTrue (is_some (fin.get members member)) × (fin.get link member ≡ None)
IsOwned owners members link member (owned.By found) =
    IsTrue (is_some (fin.get members member)) × (owner : Value) × (values : List Value)
    × (fin.get link member ≡ Some owner) × (fin.get owners owner ≡ Some values)
    × (found ≡ rec_of (owner, values))

-- how many look-ups the owner of a member takes at most: of the member and in the link; and of the
-- owner's record where it has one
abbrev pub owner_look_ups : Option Value → ℕ
owner_look_ups None = 2
owner_look_ups (Some owner) = 3

-- The answer is what the owner of the member is in the files and the link that the leaves hold.
pub record FindsOwner {S L : Type 0} (g : Ghosts S) (rule : L → LinkRule)
    (held : L → Link → List LeafMap → Type 0) (s : StoredLink L) (member : Value) (old new : S)
    (result : Result Owned Stop) : Type 0 where
  pub found : (owners members : File) (link : Link) → g.whole old
      → AreLinked rule held s (g.working old) owners members link
      → IfOk result (IsOwned owners members link member)
  -- Where an owner is found without reading all of the link, a look-up takes a step for each leaf,
  -- and one for each leaf entry of a record or of an owner.
  pub steps : (rule s.linkset).finds ≡ true
      → (owners members : File) (link : Link) (most : ℕ) → g.whole old
      → AreLinked rule held s (g.working old) owners members link
      → HaveAtMost most (node_tree s.owners) owners
      → HaveAtMost most (node_tree s.members) members
      → OwnersHaveAtMost most (rule s.linkset) link
      → OnOk result (g.work new
      ≤ g.work old + owner_look_ups (fin.get link member) * (most + length (g.working old)))
  pub reads : ReadsMaps g (g.whole old × HaveLink rule held s (g.working old)) old new result
