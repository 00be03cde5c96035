use Rattle.std.proofs.Common.{rules, ◌≡◌, ◌+◌, ◌∷◌, ◌++◌, [], ◌∙◌, ap, sym, subst, map, drop, append_assoc}
use Rattle.std.proofs.lemmas.List.{drop_more}
use Rattle.gx_values.specs.declared.values.Value.{Value}
use Rattle.gx_mapping.specs.Rule.{In}
use Rattle.gx_gather.proofs.Lists.{in_read}
use Rattle.gx_links.specs.Pairs.{pair_at}
use Rattle.gx_links.proofs.told.pairs_at.Goals as goal

pub value_at-requires : goal.value_at-requires
value_at-requires c =
    let items = c.deref-rec-items.result.now in
    let is : items ≡ c.args.records.now = search rules in
    c.requires.keys c.rec-item.result (subst (In c.rec-item.result) is
    (in_read items c.loop-rec.rec-index c.rec-item.result c.rec-item.is c.loop-rec-test.true))

pub value_at-requires-in-loop-rec : goal.value_at-requires-in-loop-rec
value_at-requires-in-loop-rec c =
    let items = c.deref-rec-items.result.now in
    let is : items ≡ c.args.records.now = search rules in
    c.requires.fields c.rec-item.result (subst (In c.rec-item.result) is
    (in_read items c.loop-rec.rec-index c.rec-item.result c.rec-item.is c.loop-rec-test.true))

pub loop-rec-preserved : goal.loop-rec-preserved
loop-rec-preserved c =
    let at = c.loop-rec in
    let i = at.rec-index in
    let items = c.deref-rec-items.result.now in
    let rec = c.rec-item.result in
    let one : c.in_ok-member.member ≡ (pair_at c.args.index rec).0 = c.in_ok-member.ensures
    ∙ c.value_at.ensures in
    let two : c.in_ok-owner.owner ≡ (pair_at c.args.index rec).1 = c.in_ok-owner.ensures
    ∙ c.value_at-in-loop-rec.ensures in
    let both : ◌≡◌ {A = Value × Value} (c.in_ok-member.member, c.in_ok-owner.owner)
    (pair_at c.args.index rec) = λ j. (one j, two j) in
    let rest = map (pair_at c.args.index) (drop (i + 1) items) in
    let dropped = drop_more items i rec c.loop-rec-test.true
    ∙ ap (λ r. r ∷ drop (i + 1) items) (sym c.rec-item.is) in
    ap (λ zs. zs ++ rest) c.in_ok-push.ensures.items
    ∙ append_assoc at.pairs.items ((c.in_ok-member.member, c.in_ok-owner.owner) ∷ []) rest
    ∙ ap (λ q. at.pairs.items ++ q ∷ rest) both
    ∙ ap (λ zs. at.pairs.items ++ map (pair_at c.args.index) zs) (sym dropped) ∙ at.invariant
