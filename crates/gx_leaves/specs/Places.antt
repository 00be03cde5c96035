-- Where leaves lie in pages.
use Rattle.std.specs.Prelude.{◌≡◌, ℕ, ◌+◌, ◌≤◌, List, [], ◌∷◌, length, map, IsTrue}
use Rattle.gx_ports.specs.declared.kinds.LeafSpec.{LeafSpec}
use Rattle.gx_ports.specs.declared.pages.Place.{Place}
use Rattle.gx_ports.specs.Roots.{roots_of, root_pages}
use Rattle.gx_ports.specs.Sheets.{Ground}
use Rattle.gx_leaves.specs.Kinds.{are_built}
use Rattle.gx_ports.specs.declared.kinds.TheConstants.{MAX_LEAVES}

-- the root pages lie one behind the other, and the owners are numbered
abbrev pub places_from : ℕ → ℕ → List LeafSpec → List Place
places_from root owner [] = []
places_from root owner (spec ∷ specs) =
    record { spec = spec; root = root; owner = owner }
    ∷ places_from (root + roots_of spec) (owner + 1) specs

-- from the first page past the table on; leaf i has the owner i + 1
abbrev pub places_of : Ground → List LeafSpec → List Place
places_of base specs = places_from base.tables 1 specs

abbrev pub specs_of : List Place → List LeafSpec
specs_of places = map (λ place. place.spec) places

-- leaves for which there is room
pub record IsRoomFor (base : Ground) (specs : List LeafSpec) : Type 0 where
  pub few : length specs ≤ MAX_LEAVES
  pub room : base.tables + root_pages specs ≤ base.size
  pub built : IsTrue (are_built specs)

-- these are the places of leaves for which there is room
pub record IsLaidOut (base : Ground) (places : List Place) : Type 0 where
  pub room : IsRoomFor base (specs_of places)
  pub places_are : places ≡ places_of base (specs_of places)
