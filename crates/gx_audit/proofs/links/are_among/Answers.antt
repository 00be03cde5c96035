use Rattle.std.proofs.Common.{rules, ◌≡◌, ◌∙◌, inl, inr, sym, subst, arith}
use Rattle.std.specs.List.Sorted.{IsStrictlySortedBy}
use Rattle.std.proofs.lemmas.List.{take_all}
use Rattle.gx_values.specs.Values.{value_cmp}
use Rattle.gx_mapping.specs.Rule.{In}
use Rattle.gx_gather.proofs.Lists.{in_read, in_more}
use Rattle.gx_audit.proofs.links.are_among.Goals.{then-not-contains-via-then-not-contains, then-not-contains-via-else-not-contains+then-not-contains-2}
use Rattle.gx_audit.proofs.links.are_among.Goals as goal

pub returns-then-not-contains-clause-no : goal.returns-then-not-contains-clause-no
returns-then-not-contains-clause-no c = λ e ms os all.
    let p = c.pair-item.result in
    let items : c.deref-pair-items.result.now ≡ c.args.pairs.now = search rules in
    let h : In p c.args.pairs.now =
    subst (In p) items (in_read c.deref-pair-items.result.now c.loop-pair.pair-index p
    c.pair-item.is
    (omega (arith, c.loop-pair-test.true))) in
    let m : c.deref.result.now ≡ c.args.members.now = search rules in
    elim c.then-not-contains.branch [
      | then-not-contains-via-then-not-contains w ↦
          c.contains.ensures.no (search rules) (subst (IsStrictlySortedBy value_cmp) (sym m) ms)
          (subst (In p.0) (sym m) (all p h).0)
      | then-not-contains-via-else-not-contains+then-not-contains-2 w ↦
          let o : w.deref-else-not-contains.result.now ≡ c.args.owners.now = search rules in
          w.contains-else-not-contains.ensures.no (search rules)
          (subst (IsStrictlySortedBy value_cmp) (sym o) os)
          (subst (In p.1) (sym o) (all p h).1)
    ]

pub loop-pair-preserved : goal.loop-pair-preserved
loop-pair-preserved c = λ q h.
    let p = c.pair-item.result in
    let m : c.deref.result.now ≡ c.args.members.now = search rules in
    let o : c.deref-else-not-contains.result.now ≡ c.args.owners.now = search rules in
    elim (in_more c.deref-pair-items.result.now c.loop-pair.pair-index p q
    (omega (arith, c.loop-pair-test.true)) h) [
      | inl k ↦ c.loop-pair.invariant q k
      | inr e ↦
          let same : q ≡ p = e ∙ sym c.pair-item.is in (
            subst (λ (x : _ × _). In x.0 c.args.members.now) (sym same)
                (subst (In p.0) m (c.contains.ensures.yes (search rules))),
            subst (λ (x : _ × _). In x.1 c.args.owners.now) (sym same)
                (subst (In p.1) o (c.contains-else-not-contains.ensures.yes (search rules))),
          )
    ]

pub returns-clause-yes : goal.returns-clause-yes
returns-clause-yes c = λ e q h.
    let items : c.deref-pair-items.result.now ≡ c.args.pairs.now = search rules in
    c.loop-pair.invariant q (subst (In q)
    (sym (take_all c.loop-pair.pair-index c.deref-pair-items.result.now
    (omega (arith, c.loop-pair-test.false)) ∙ items)) h)
