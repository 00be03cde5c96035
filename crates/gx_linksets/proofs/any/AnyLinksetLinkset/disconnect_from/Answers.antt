use Rattle.std.proofs.Common.{sym, subst}
use Rattle.gx_mapping.specs.Rule.{In}
use Rattle.gx_linksets.specs.declared.any.AnyLinkset.{AnyLinkset}
use Rattle.gx_linksets.specs.Any.{any_link_rule}
use Rattle.gx_linksets.proofs.any.AnyLinksetLinkset.disconnect_from.Goals as goal

pub disconnect_from-requires-clause-below : goal.disconnect_from-requires-clause-below
disconnect_from-requires-clause-below g c =
    λ n h. c.requires.below n (subst (λ (l : AnyLinkset). In n (any_link_rule l).leaves)
    (sym c.in-Array.is) h)

pub disconnect_from-requires-in-Ring-clause-below :
    goal.disconnect_from-requires-in-Ring-clause-below
disconnect_from-requires-in-Ring-clause-below g c =
    λ n h. c.requires.below n (subst (λ (l : AnyLinkset). In n (any_link_rule l).leaves)
    (sym c.in-Ring.is) h)

pub disconnect_from-requires-in-Inverted-clause-below :
    goal.disconnect_from-requires-in-Inverted-clause-below
disconnect_from-requires-in-Inverted-clause-below g c =
    λ n h. c.requires.below n (subst (λ (l : AnyLinkset). In n (any_link_rule l).leaves)
    (sym c.in-Inverted.is) h)

pub returns-in-Array-clause-ends : goal.returns-in-Array-clause-ends
returns-in-Array-clause-ends g c = rw c.in-Array.is c.disconnect_from.ensures.ends

pub returns-in-Ring-clause-ends : goal.returns-in-Ring-clause-ends
returns-in-Ring-clause-ends g c = rw c.in-Ring.is c.disconnect_from-in-Ring.ensures.ends

pub returns-in-Inverted-clause-ends : goal.returns-in-Inverted-clause-ends
returns-in-Inverted-clause-ends g c = rw c.in-Inverted.is c.disconnect_from-in-Inverted.ensures.ends
