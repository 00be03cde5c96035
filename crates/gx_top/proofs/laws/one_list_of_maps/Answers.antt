use Rattle.std.proofs.Common.{sym, ◌∙◌}
use Rattle.gx_top.proofs.laws.one_list_of_maps.Goals as goal

pub returns : goal.returns
returns c specs maps other blocks one two = sym one.leaves.maps_are ∙ two.leaves.maps_are
