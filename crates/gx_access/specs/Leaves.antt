-- The leaves of the fragments, of all alternatives in their order.
use Rattle.std.specs.Prelude.{ℕ, List, [], ◌++◌, map}
use Rattle.gx_access.specs.declared.access.Fragment.{Fragment}
use Rattle.gx_access.specs.Access.{Choice, Choices, Only, By, no_choices, choice}

abbrev pub fragment_leaves : List Fragment → List ℕ
fragment_leaves fs = map (λ f. f.leaf) fs

abbrev mutual
  pub choice_leaves : Choice → List ℕ
  choice_leaves (Only fs) = fragment_leaves fs
  choice_leaves (By chooser bounds cs) = choices_leaves cs

  pub choices_leaves : Choices → List ℕ
  choices_leaves no_choices = []
  choices_leaves (choice ch cs) = choice_leaves ch ++ choices_leaves cs
