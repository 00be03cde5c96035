-- What the call does by which a member without an owner joins one that has room.
use Rattle.std.specs.Prelude.{◌≡◌, ◌+◌, ℕ, List, Result, length, OnOk, IsErrOf}
use Rattle.std.specs.FinMap.{insert}
use Rattle.gx_values.specs.declared.values.Value.{Value}
use Rattle.gx_ports.specs.declared.stop.Stop.{Stop}
use Rattle.gx_ports.specs.declared.stop.Stop.TheVariants.{Fault, Full}
use Rattle.gx_ports.specs.declared.view.View.{Ghosts}
use Rattle.gx_ports.specs.LeafMaps.{LeafMap, map_at, entry_count, IsCrowdedBy}
use Rattle.gx_ports.specs.Calls.{Keeps, Ends}
use Rattle.gx_mapping.specs.Rule.{In}
use Rattle.gx_links.specs.Links.{Link, members_of}
use Rattle.gx_links.specs.Linksets.{LinkRule, CanConnect}

-- `Known` is what is known of the link
pub record Joins {S : Type 0} (g : Ghosts S) (rule : LinkRule) (held : Link → List LeafMap → Type 0)
    (owner member : Value) (Known : Link → Type 0) (before after : S)
    (result : Result (Unit {0}) Stop) : Type 0 where
  pub connected : (link : Link) → g.whole before
      → CanConnect rule held (g.working before) link member → Known link
      → OnOk result (held (insert link member owner) (g.working after))
  -- all other leaves stay
  pub others : (n : ℕ) → g.whole before → ¬ IsErrOf result Fault → ¬ In n rule.leaves
      → map_at (g.working after) n ≡ map_at (g.working before) n
  pub keeps : Keeps g before after
  pub work : g.work after ≡ g.work before
  pub ends : Ends g (g.whole before) before after result
  -- the pages may not be enough for the owner's entries besides all that there are
  pub full : (link : Link) → g.whole before
      → CanConnect rule held (g.working before) link member → Known link → IsErrOf result Full
      → IsCrowdedBy (g.limit before) (entry_count (g.working before)
      + length (rule.entries owner (members_of (insert link member owner) owner)))
