-- What is left on a device, and how many pages its leaves may take.
use Rattle.std.specs.Prelude.{ℕ, ◌+◌, List}
use Rattle.gx_ports.specs.declared.kinds.LeafSpec.{LeafSpec}
use Rattle.gx_ports.specs.LeafMaps.{LeafMap, Limits}
use Rattle.gx_ports.specs.Roots.{root_pages}
use Rattle.gx_schema.specs.declared.schema.Schema.{Schema}
use Rattle.gx_types.specs.declared.built.Built.{Built}
use Rattle.gx_model.specs.States.{State}
use Rattle.gx_states.specs.Internal.{AreInternal}
use Rattle.gx_layout.specs.Places.{pages_of, table_pages}
use Rattle.gx_store.specs.Device.{IsSettled}

-- the pages of a device of so many blocks, and those that the leaves take from the start on
abbrev pub limits_on : List LeafSpec → ℕ → Limits
limits_on specs blocks =
    record {
      pages = pages_of blocks;
      fixed = table_pages blocks + root_pages specs;
      blocks = blocks;
    }

-- the blocks are settled with maps in which these nodes hold the state
abbrev pub IsSettledIn : Schema → Built → List ℕ → List ℕ → List LeafSpec → List (List ℕ) → State
    → Type 0
IsSettledIn schema built schema_text equation_text specs blocks s =
    (maps : List LeafMap) × IsSettled schema_text equation_text specs maps blocks
    × AreInternal schema built maps s
