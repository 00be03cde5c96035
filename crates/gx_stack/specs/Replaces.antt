-- What a change of one record of a tree does beside the records that its leaves then hold.
use Rattle.std.specs.Prelude.{◌≡◌, ◌≢◌, ◌+◌, ◌≤◌, ℕ, Option, None, Result, length, OnOk, IsErrOf}
use Rattle.gx_values.specs.declared.records.Rec.{Rec}
use Rattle.gx_ports.specs.declared.stop.Stop.{Stop}
use Rattle.gx_ports.specs.declared.stop.Stop.TheVariants.{Fault, Full}
use Rattle.gx_ports.specs.declared.view.View.{Ghosts}
use Rattle.gx_ports.specs.LeafMaps.{map_at, entry_count, IsCrowdedBy}
use Rattle.gx_ports.specs.Calls.{Keeps, Ends}
use Rattle.gx_mapping.specs.Rule.{Rule, In}
use Rattle.gx_stack.specs.Tree.{Tree, leaves_of}
use Rattle.gx_stack.specs.Internal.{entries_if}

-- the tree is to hold `new` at a key, or no record there
pub record Replaces {S M : Type 0} (g : Ghosts S) (rule : M → Rule) (t : Tree M) (new : Option Rec)
    (before after : S) (result : Result (Unit {0}) Stop) : Type 0 where
  -- all other leaves stay
  pub others : (n : ℕ) → g.whole before → ¬ IsErrOf result Fault → ¬ In n (leaves_of t)
      → map_at (g.working after) n ≡ map_at (g.working before) n
  pub count : g.whole before → OnOk result (entry_count (g.working after)
      ≤ entry_count (g.working before) + length (entries_if rule t new))
  pub keeps : Keeps g before after
  pub work : g.work after ≡ g.work before
  pub ends : Ends g (g.whole before) before after result
  -- the pages may not be enough for the entries of `new` besides all that there are
  pub full : g.whole before → IsErrOf result Full → IsCrowdedBy (g.limit before)
      (entry_count (g.working before) + length (entries_if rule t new))
  pub full_of_new : IsErrOf result Full → new ≢ None
