use Rattle.std.proofs.Common.{◌∙◌, sym, subst, map}
use Rattle.std.proofs.lemmas.Result.{IfOk-weaker}
use Rattle.gx_stack.specs.Tree.{tree_form}
use Rattle.gx_stack.specs.Seen.{tree_of}
use Rattle.gx_links.specs.Pairs.{two_parts, ArePairsOfRows}
use Rattle.gx_links.proofs.PairLemmas.{told_of}
use Rattle.gx_links.specs.Rows.{owner_kind, member_kind}
use Rattle.gx_lists.specs.Inverted.{owned_pair}
use Rattle.gx_lists.specs.InvertedLaws.{inverted_row_laws}
use Rattle.gx_lists.proofs.InvertedPairs.{inverted_read, inverted_apart, key_ready, fields_ready}
use Rattle.gx_lists.proofs.inverted.Inverted.told.Goals as goal

pub pairs_at-requires-clause-keys : goal.pairs_at-requires-clause-keys
pairs_at-requires-clause-keys g c = λ r h. key_ready g.M.Mapping.rule
    (tree_of c.args.self.now.down.now) (tree_of c.args.self.now.up.now) c.requires.valid r
    (c.requires.up r h)

pub pairs_at-requires-clause-fields : goal.pairs_at-requires-clause-fields
pairs_at-requires-clause-fields g c = λ r h. fields_ready g.M.Mapping.rule
    (tree_of c.args.self.now.down.now) (tree_of c.args.self.now.up.now) c.requires.valid r
    (c.requires.up r h)

pub returns : goal.returns
returns g c =
    let rule = g.M.Mapping.rule in
    let down = tree_of c.args.self.now.down.now in
    let up = tree_of c.args.self.now.up.now in
    let valid = c.requires.valid in
    let parts = two_parts c.args.down c.args.up in
    let told = told_of (inverted_row_laws (owner_kind rule down) (member_kind rule up)
    (tree_form rule down) (tree_form rule up) valid.down_keys valid.down_fields valid.up_keys
    valid.up_fields) inverted_apart parts (map owned_pair c.args.up)
    (inverted_read rule down up valid c.args.down c.args.up c.requires.up) c.in_ok-owners.owners
    (λ link is. c.in_ok-owners.ensures.owners link (is ∙ sym c.in_ok-pairs.ensures))
    c.in_ok-rows.rows c.in_ok-rows.ensures in
    IfOk-weaker c.pairs_of_rows.result _ _
    (λ o are. told o (subst (λ ps. ArePairsOfRows ps c.in_ok-owners.owners c.in_ok-rows.rows parts
    o) c.in_ok-pairs.ensures are)) c.pairs_of_rows.ensures
