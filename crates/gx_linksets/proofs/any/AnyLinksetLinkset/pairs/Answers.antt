use Rattle.std.proofs.Common.{sym, subst}
use Rattle.gx_mapping.specs.Rule.{In}
use Rattle.gx_linksets.specs.declared.any.AnyLinkset.{AnyLinkset}
use Rattle.gx_linksets.specs.Any.{any_link_rule}
use Rattle.gx_linksets.proofs.any.AnyLinksetLinkset.pairs.Goals as goal

pub pairs-requires-clause-below : goal.pairs-requires-clause-below
pairs-requires-clause-below g c =
    λ n h. c.requires.below n (subst (λ (l : AnyLinkset). In n (any_link_rule l).leaves)
    (sym c.in-Array.is) h)

pub pairs-requires-in-Ring-clause-below : goal.pairs-requires-in-Ring-clause-below
pairs-requires-in-Ring-clause-below g c =
    λ n h. c.requires.below n (subst (λ (l : AnyLinkset). In n (any_link_rule l).leaves)
    (sym c.in-Ring.is) h)

pub pairs-requires-in-Inverted-clause-below : goal.pairs-requires-in-Inverted-clause-below
pairs-requires-in-Inverted-clause-below g c =
    λ n h. c.requires.below n (subst (λ (l : AnyLinkset). In n (any_link_rule l).leaves)
    (sym c.in-Inverted.is) h)

pub returns-in-Array-clause-pairs : goal.returns-in-Array-clause-pairs
returns-in-Array-clause-pairs g c = rw c.in-Array.is c.pairs.ensures.pairs

pub returns-in-Ring-clause-pairs : goal.returns-in-Ring-clause-pairs
returns-in-Ring-clause-pairs g c = rw c.in-Ring.is c.pairs-in-Ring.ensures.pairs

pub returns-in-Inverted-clause-pairs : goal.returns-in-Inverted-clause-pairs
returns-in-Inverted-clause-pairs g c = rw c.in-Inverted.is c.pairs-in-Inverted.ensures.pairs
