use Rattle.std.proofs.Common.{sym, subst}
use Rattle.gx_mapping.specs.Rule.{In}
use Rattle.gx_linksets.specs.declared.any.AnyLinkset.{AnyLinkset}
use Rattle.gx_linksets.specs.Any.{any_link_rule}
use Rattle.gx_linksets.proofs.any.AnyLinksetLinkset.connect.Goals as goal

pub connect-requires-clause-below : goal.connect-requires-clause-below
connect-requires-clause-below g c =
    λ n h. c.requires.below n (subst (λ (l : AnyLinkset). In n (any_link_rule l).leaves)
    (sym c.in-Array.is) h)

pub connect-requires-in-Ring-clause-below : goal.connect-requires-in-Ring-clause-below
connect-requires-in-Ring-clause-below g c =
    λ n h. c.requires.below n (subst (λ (l : AnyLinkset). In n (any_link_rule l).leaves)
    (sym c.in-Ring.is) h)

pub connect-requires-in-Inverted-clause-below : goal.connect-requires-in-Inverted-clause-below
connect-requires-in-Inverted-clause-below g c =
    λ n h. c.requires.below n (subst (λ (l : AnyLinkset). In n (any_link_rule l).leaves)
    (sym c.in-Inverted.is) h)

pub returns-in-Array-clause-ends : goal.returns-in-Array-clause-ends
returns-in-Array-clause-ends g c = rw c.in-Array.is c.connect.ensures.ends

pub returns-in-Ring-clause-ends : goal.returns-in-Ring-clause-ends
returns-in-Ring-clause-ends g c = rw c.in-Ring.is c.connect-in-Ring.ensures.ends

pub returns-in-Inverted-clause-ends : goal.returns-in-Inverted-clause-ends
returns-in-Inverted-clause-ends g c = rw c.in-Inverted.is c.connect-in-Inverted.ensures.ends
