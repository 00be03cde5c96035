-- The maps of leaves in memory.
use Rattle.std.specs.Prelude.{◌≡◌, List, map, length}
use Rattle.std.proofs.Common.{sym, ◌∙◌}
use Rattle.std.proofs.lemmas.List.{length-map}
use Rattle.std.specs.FinMap.{empty}
use Rattle.gx_ports.specs.LeafMaps.{LeafMap}
use Rattle.gx_memory_leaves.specs.Cells.{LeafPair}

abbrev pub workings : List LeafPair → List LeafMap
workings = map (λ l. l.working)

abbrev pub kepts : List LeafPair → List LeafMap
kepts = map (λ l. l.kept)

abbrev pub empty_pair : LeafPair
empty_pair = record { working = empty; kept = empty }

-- there are as many kept maps as working ones
pub as_many : (ls : List LeafPair) → length (kepts ls) ≡ length (workings ls)
as_many ls =
    length-map ls (λ (l : LeafPair). l.kept) ∙ sym (length-map ls (λ (l : LeafPair). l.working))
