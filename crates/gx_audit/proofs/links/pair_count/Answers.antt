use Rattle.std.proofs.Common.{rules, ◌≡◌, length, Some, sym, ap, subst, arith}
use Rattle.std.proofs.lemmas.List.{get_or_read}
use Rattle.gx_schema.specs.declared.schema.LinkDef.{LinkDef}
use Rattle.gx_schema.specs.Lookups.{no_link, link_at}
use Rattle.gx_mapping.specs.Rule.{In}
use Rattle.gx_links.specs.Pairs.{ArePairs}
use Rattle.gx_linksets.specs.Any.{any_link_rule, IsHeldBy}
use Rattle.gx_audit.specs.Audits.{IsPairCount}
use Rattle.gx_audit.proofs.PairLemmas.{keys_at, no_pairs, pairs_among, pairs_apart}
use Rattle.gx_audit.proofs.links.pair_count.Goals as goal

pub pairs-requires-clause-valid : goal.pairs-requires-clause-valid
pairs-requires-clause-valid g c =
    c.linkset_at-linkset.ensures.valid (length (g.B.View.working c.args.leaves.now))
    c.requires.ready.link_nodes

pub pairs-requires-clause-below : goal.pairs-requires-clause-below
pairs-requires-clause-below g c = λ n h.
    let nodes = c.requires.ready.link_nodes in
    nodes.below c.args.link n c.requires.link
    (subst (λ r. In n r.leaves)
    (c.linkset_at-linkset.ensures.rule (length (g.B.View.working c.args.leaves.now)) nodes) h)

pub returns-in_default-clause-count : goal.returns-in_default-clause-count
returns-in_default-clause-count g c = λ fs files are.
    let b = g.B.View in
    let schema = c.args.schema.now in
    let built = c.args.built.now in
    let maps = b.working c.args.leaves.now in
    let l = c.linkset_at-linkset.result in
    let e = c.linkset_at-linkset.ensures in
    let ready = c.requires.ready in
    let def = c.index-def.result.now in
    let link : def ≡ link_at schema c.args.link =
    get_or_read schema.links c.args.link def c.requires.link (search rules) no_link in
    let storable = ready.storable.links c.args.link c.requires.link in
    let members = c.index-members.result.now in
    let owners = c.index-owners.result.now in
    let members_are =
    keys_at c.args.keys.now fs def.member (link_at schema c.args.link).member members are
    (ap (λ (d : LinkDef). d.member) link) (omega (arith, storable.member, c.requires.keys))
    (search rules) in
    let owners_are =
    keys_at c.args.keys.now fs def.owner (link_at schema c.args.link).owner owners are
    (ap (λ (d : LinkDef). d.owner) link) (omega (arith, storable.owner, c.requires.keys))
    (search rules) in
    no_pairs schema built (length maps) ready maps fs files c.args.link c.requires.link l
    (e.rule (length maps) ready.link_nodes)
    (e.valid (length maps) ready.link_nodes) e.held members owners members_are owners_are
    (b.whole c.args.leaves.now)
    (subst (ArePairs (any_link_rule l) (IsHeldBy l) (b.whole c.args.leaves.now) maps)
    c.in_default.is c.in_ok-pairs.ensures.pairs)

pub returns-then-are_among-clause-count : goal.returns-then-are_among-clause-count
returns-then-are_among-clause-count g c = λ fs files are.
    let b = g.B.View in
    let schema = c.args.schema.now in
    let built = c.args.built.now in
    let maps = b.working c.args.leaves.now in
    let l = c.linkset_at-linkset.result in
    let e = c.linkset_at-linkset.ensures in
    let ready = c.requires.ready in
    let def = c.index-def.result.now in
    let link : def ≡ link_at schema c.args.link =
    get_or_read schema.links c.args.link def c.requires.link (search rules) no_link in
    let storable = ready.storable.links c.args.link c.requires.link in
    let members = c.index-members.result.now in
    let owners = c.index-owners.result.now in
    let members_are =
    keys_at c.args.keys.now fs def.member (link_at schema c.args.link).member members are
    (ap (λ (d : LinkDef). d.member) link) (omega (arith, storable.member, c.requires.keys))
    (search rules) in
    let owners_are =
    keys_at c.args.keys.now fs def.owner (link_at schema c.args.link).owner owners are
    (ap (λ (d : LinkDef). d.owner) link) (omega (arith, storable.owner, c.requires.keys))
    (search rules) in
    let whole_count =
    pairs_among schema built (length maps) ready maps fs files c.args.link c.requires.link l
    (e.rule (length maps) ready.link_nodes)
    (e.valid (length maps) ready.link_nodes) e.held members owners members_are owners_are
    (b.whole c.args.leaves.now)
    c.in-Some.pairs (subst (ArePairs (any_link_rule l) (IsHeldBy l) (b.whole c.args.leaves.now)
    maps) c.in-Some.is
    c.in_ok-pairs.ensures.pairs) (c.are_among.ensures.yes (search rules)) in
    let count : c.len.result ≡ length c.in-Some.pairs = search rules in
    subst (λ n. IsPairCount schema built (b.whole c.args.leaves.now) maps fs c.args.link (Some n))
    (sym count) whole_count

pub returns-clause-count : goal.returns-clause-count
returns-clause-count g c = λ fs files are.
    let b = g.B.View in
    let schema = c.args.schema.now in
    let built = c.args.built.now in
    let maps = b.working c.args.leaves.now in
    let l = c.linkset_at-linkset.result in
    let e = c.linkset_at-linkset.ensures in
    let ready = c.requires.ready in
    let def = c.index-def.result.now in
    let link : def ≡ link_at schema c.args.link =
    get_or_read schema.links c.args.link def c.requires.link (search rules) no_link in
    let storable = ready.storable.links c.args.link c.requires.link in
    let members = c.index-members.result.now in
    let owners = c.index-owners.result.now in
    let members_are =
    keys_at c.args.keys.now fs def.member (link_at schema c.args.link).member members are
    (ap (λ (d : LinkDef). d.member) link) (omega (arith, storable.member, c.requires.keys))
    (search rules) in
    let owners_are =
    keys_at c.args.keys.now fs def.owner (link_at schema c.args.link).owner owners are
    (ap (λ (d : LinkDef). d.owner) link) (omega (arith, storable.owner, c.requires.keys))
    (search rules) in
    pairs_apart schema built (length maps) ready maps fs files c.args.link c.requires.link l
    (e.rule (length maps) ready.link_nodes)
    (e.valid (length maps) ready.link_nodes) e.held members owners members_are owners_are
    (b.whole c.args.leaves.now)
    c.in-Some.pairs (subst (ArePairs (any_link_rule l) (IsHeldBy l) (b.whole c.args.leaves.now)
    maps) c.in-Some.is
    c.in_ok-pairs.ensures.pairs) (c.are_among.ensures.no (search rules))
