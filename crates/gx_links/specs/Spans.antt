-- Keys that begin with one value.
use Rattle.std.specs.Prelude.{Bool, false, List, [], ◌∷◌}
use Rattle.gx_values.specs.declared.values.Value.{Value}
use Rattle.gx_links.specs.Links.{is_same}

abbrev pub begins_with : Value → List Value → Bool
begins_with v [] = false
begins_with v (x ∷ xs) = is_same x v
