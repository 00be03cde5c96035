-- What the blocks of a store hold while a script is played on it, and what the play keeps of it.
use Rattle.std.specs.Prelude.{◌≡◌, ℕ, List, length}
use Rattle.gx_device.specs.Content.{Content}
use Rattle.gx_device.specs.Quiet.{IsPrefix}
use Rattle.gx_ports.specs.Heads.{Head}
use Rattle.gx_ports.specs.LeafMaps.{LeafMap}
use Rattle.gx_pages.specs.Paged.{StandsFor as PagesStandFor}
use Rattle.gx_leaves.specs.Wholeness.{IsLaid, StandsFor}
use Rattle.gx_schema.specs.declared.schema.Schema.{Schema}
use Rattle.gx_types.specs.declared.built.Built.{Built}
use Rattle.gx_model.specs.States.{State}
use Rattle.gx_states.specs.Internal.{AreInternal}

-- under this head they stand for whole maps in which these nodes hold the state
pub record StoreState (schema : Schema) (built : Built) (head : Head) (s : State)
    (blocks : List (List ℕ)) : Type 0 where
  pub maps : List LeafMap
  pub internal : AreInternal schema built maps s
  pub is : StandsFor PagesStandFor head maps blocks
  pub laid : IsLaid PagesStandFor head blocks

-- what was said before stays, in front, and so do the texts; the same device is attached, with as
-- many blocks
pub record StaysOn (old new : Content) : Type 0 where
  pub begins : IsPrefix old.now.said new.now.said
  pub shelf : new.now.shelf ≡ old.now.shelf
  pub aside : new.aside ≡ old.aside
  pub count : length new.now.blocks ≡ length old.now.blocks
