-- A member that is to join an owner, after calls that only read; and how many entries crowd the
-- pages.
use Rattle.std.proofs.Common.{◌≡◌, ◌≤◌, ◌+◌, ℕ, List, Option, Some, None, sym, subst, arith}
use Rattle.gx_values.specs.declared.values.Value.{Value}
use Rattle.gx_ports.specs.LeafMaps.{LeafMap, Limits, entry_count, IsCrowdedBy}
use Rattle.gx_links.specs.Links.{Link}
use Rattle.gx_links.specs.Linksets.{LinkRule, CanConnect}

pub connect_still : (rule : LinkRule) (held : Link → List LeafMap → Type 0) (old new : List LeafMap)
    (link : Link) (member : Value) → new ≡ old → CanConnect rule held old link member
    → CanConnect rule held new link member
connect_still rule held old new link member same can =
    record {
      is_link = can.is_link;
      is_held = subst (held link) (sym same) can.is_held;
      free = can.free;
    }

-- more entries crowd them too
pub crowded_more : (limit : Option Limits) (n m : ℕ) → n ≤ m → IsCrowdedBy limit n
    → IsCrowdedBy limit m
crowded_more None n m more crowded = absurd crowded
crowded_more (Some limits) n m more crowded = omega (arith, more, crowded)

-- so many entries crowd the same pages
pub crowded_still : (before limit : Option Limits) (old new : List LeafMap) (more : ℕ)
    → limit ≡ before → new ≡ old → IsCrowdedBy limit (entry_count new + more)
    → IsCrowdedBy before (entry_count old + more)
crowded_still before limit old new more same is crowded =
    subst (λ l. IsCrowdedBy l (entry_count old + more)) same
    (subst (λ (maps : List LeafMap). IsCrowdedBy limit (entry_count maps + more)) is crowded)
