use Rattle.std.proofs.Common.{◌∙◌, sym, subst, map}
use Rattle.std.proofs.lemmas.Result.{IfOk-weaker}
use Rattle.gx_mapping.specs.Rule.{In}
use Rattle.gx_stack.specs.Seen.{tree_of}
use Rattle.gx_links.specs.Pairs.{two_parts, ArePairsOfRows}
use Rattle.gx_links.proofs.PairLemmas.{told_of}
use Rattle.gx_links.specs.Rows.{owner_kind, member_kind}
use Rattle.gx_ring.specs.Ring.{chain_pair}
use Rattle.gx_ring.proofs.ComeLemmas.{key_value_of}
use Rattle.gx_ring.proofs.RingPairs.{ring_read, ring_apart, ring_rows_lawful, key_ready, fields_ready}
use Rattle.gx_ring.proofs.ring.Ring.told.Goals as goal

pub pairs_at-requires-clause-keys : goal.pairs_at-requires-clause-keys
pairs_at-requires-clause-keys g c = λ r h. key_ready g.M.Mapping.rule
    (tree_of c.args.self.now.heads.now) (tree_of c.args.self.now.chain.now) c.requires.valid r
    (c.requires.chain r h)

pub pairs_at-requires-clause-fields : goal.pairs_at-requires-clause-fields
pairs_at-requires-clause-fields g c = λ r h. fields_ready g.M.Mapping.rule
    (tree_of c.args.self.now.heads.now) (tree_of c.args.self.now.chain.now) c.requires.valid r
    (c.requires.chain r h)

pub ring_rows-requires : goal.ring_rows-requires
ring_rows-requires g c = λ x h m k.
    let rule = g.M.Mapping.rule in
    let heads = tree_of c.args.self.now.heads.now in
    let nexts = tree_of c.args.self.now.chain.now in
    let valid = c.requires.valid in
    let fit = (ring_read rule heads nexts valid c.args.heads c.args.chain c.requires.chain).fit
    (m, x.owner) (subst (In (m, x.owner)) c.in_ok-pairs.ensures
    ((c.in_ok-owners.ensures.pairs x h).each m k)) in (
      key_value_of (owner_kind rule heads) x.owner valid.owner fit.1,
      key_value_of (member_kind rule nexts) m valid.member fit.0,
    )

pub returns : goal.returns
returns g c =
    let rule = g.M.Mapping.rule in
    let heads = tree_of c.args.self.now.heads.now in
    let nexts = tree_of c.args.self.now.chain.now in
    let valid = c.requires.valid in
    let parts = two_parts c.args.heads c.args.chain in
    let told = told_of (ring_rows_lawful rule heads nexts valid) ring_apart parts
    (map chain_pair c.args.chain) (ring_read rule heads nexts valid c.args.heads c.args.chain
    c.requires.chain) c.in_ok-owners.owners
    (λ link is. c.in_ok-owners.ensures.owners link (is ∙ sym c.in_ok-pairs.ensures))
    c.in_ok-rows.rows c.in_ok-rows.ensures in
    IfOk-weaker c.pairs_of_rows.result _ _
    (λ o are. told o (subst (λ ps. ArePairsOfRows ps c.in_ok-owners.owners c.in_ok-rows.rows parts
    o) c.in_ok-pairs.ensures are)) c.pairs_of_rows.ensures
