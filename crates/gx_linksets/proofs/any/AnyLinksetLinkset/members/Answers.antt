use Rattle.std.proofs.Common.{sym, subst}
use Rattle.gx_mapping.specs.Rule.{In}
use Rattle.gx_linksets.specs.declared.any.AnyLinkset.{AnyLinkset}
use Rattle.gx_linksets.specs.Any.{any_link_rule}
use Rattle.gx_linksets.proofs.any.AnyLinksetLinkset.members.Goals as goal

pub members-requires-clause-below : goal.members-requires-clause-below
members-requires-clause-below g c =
    λ n h. c.requires.below n (subst (λ (l : AnyLinkset). In n (any_link_rule l).leaves)
    (sym c.in-Array.is) h)

pub members-requires-in-Ring-clause-below : goal.members-requires-in-Ring-clause-below
members-requires-in-Ring-clause-below g c =
    λ n h. c.requires.below n (subst (λ (l : AnyLinkset). In n (any_link_rule l).leaves)
    (sym c.in-Ring.is) h)

pub members-requires-in-Inverted-clause-below : goal.members-requires-in-Inverted-clause-below
members-requires-in-Inverted-clause-below g c =
    λ n h. c.requires.below n (subst (λ (l : AnyLinkset). In n (any_link_rule l).leaves)
    (sym c.in-Inverted.is) h)

pub returns-in-Array-clause-reads : goal.returns-in-Array-clause-reads
returns-in-Array-clause-reads g c = rw c.in-Array.is c.members.ensures.reads

pub returns-in-Ring-clause-reads : goal.returns-in-Ring-clause-reads
returns-in-Ring-clause-reads g c = rw c.in-Ring.is c.members-in-Ring.ensures.reads

pub returns-in-Inverted-clause-reads : goal.returns-in-Inverted-clause-reads
returns-in-Inverted-clause-reads g c = rw c.in-Inverted.is c.members-in-Inverted.ensures.reads
