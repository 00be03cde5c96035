-- Leaves in memory, as contracts see them.
use Rattle.std.specs.Prelude.{ℕ, List, [], ◌∷◌, Bool, cond, map}
use Rattle.gx_device.specs.declared.device.Device as device
use Rattle.gx_device.specs.Content.{Moment}
use Rattle.gx_ports.specs.Heads.{Head}
use Rattle.gx_ports.specs.LeafMaps.{LeafMap}
use Rattle.gx_memory_leaves.specs.Pairs.{workings, kepts}
use Rattle.gx_memory_leaves.specs.declared.plain.PlainLeaves.{PlainLeaves}

-- for each block of a device whether it is pending, as a number
abbrev pub pending_marks : List Bool → List ℕ
pending_marks = map (λ b. cond b 1 0)

-- No block tells of leaves in memory. Their head has the blocks of the device, and before them which
-- of these are pending: so no call changes the device.
abbrev pub head_on : Moment → Head
head_on m =
    record {
      base = record {
        size = 0;
        tables = 0;
        blocks = 0;
        first = 0;
        head = pending_marks m.pending ∷ m.blocks;
      };
      leaves = [];
    }

module _ {D : Type 0} {g : device.Ghosts D} where
  abbrev pub device_of : PlainLeaves D g → D
  device_of p = p.device

  abbrev pub working_of : PlainLeaves D g → List LeafMap
  working_of p = workings p.leaves.items

  abbrev pub kept_of : PlainLeaves D g → List LeafMap
  kept_of p = kepts p.leaves.items

  abbrev pub work_of : PlainLeaves D g → ℕ
  work_of p = p.work
