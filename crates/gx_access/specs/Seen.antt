-- An access as alternatives of fragments.
use Rattle.std.specs.Prelude.{List, [], ◌∷◌}
use Rattle.gx_access.specs.declared.access.Access.{Access}
use Rattle.gx_access.specs.declared.access.Access.TheOpen.{Access-F, Only, By}
use Rattle.gx_access.specs.declared.access.Access.TheFolds.{fold-Access}
use Rattle.gx_access.specs.Access.{Choice, Choices, no_choices, choice}
use Rattle.gx_access.specs.Access as alternatives

abbrev pub choices_from : List Choice → Choices
choices_from [] = no_choices
choices_from (ch ∷ chs) = choice ch (choices_from chs)

abbrev pub choice_step : Access-F Choice → Choice
choice_step (Only fs) = alternatives.Only fs
choice_step (By chooser bounds accesses) =
    alternatives.By chooser bounds (choices_from accesses.items)

abbrev pub choice_of : Access → Choice
choice_of a = fold-Access Choice choice_step a
