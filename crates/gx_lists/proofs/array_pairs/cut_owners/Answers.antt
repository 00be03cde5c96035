use Rattle.std.proofs.Common.{rules, ◌≡◌, ◌++◌, ◌∷◌, [], take, sym, subst, ◌∙◌, ap}
use Rattle.std.proofs.lemmas.List.{take_more}
use Rattle.gx_values.specs.declared.records.Rec.{Rec}
use Rattle.gx_mapping.specs.Rule.{In}
use Rattle.gx_gather.proofs.Lists.{in_read}
use Rattle.gx_lists.specs.Arrays.{IsCutOwner, AreCutOf}
use Rattle.gx_lists.proofs.ArrayPairs.{cut_more}
use Rattle.gx_lists.proofs.array_pairs.cut_owners.Goals as goal

pub cut_owner-requires-clause-some : goal.cut_owner-requires-clause-some
cut_owner-requires-clause-some c =
    let items = c.deref-rec-items.result.now in
    let is : items ≡ c.args.found.now = search rules in
    c.requires.some c.rec-item.result
    (subst (In c.rec-item.result) is
    (in_read items c.loop-rec.rec-index c.rec-item.result c.rec-item.is c.loop-rec-test.true))

pub returns-in_default : goal.returns-in_default
returns-in_default c =
    let items = c.deref-rec-items.result.now in
    let rec = c.rec-item.result in
    let is : items ≡ c.args.found.now = search rules in (
      rec,
      subst (In rec) is (in_read items c.loop-rec.rec-index rec c.rec-item.is c.loop-rec-test.true),
      subst (IsCutOwner c.args.kind rec) c.in_default.is c.in_ok-owned.ensures,
    )

pub loop-rec-preserved : goal.loop-rec-preserved
loop-rec-preserved c =
    let at = c.loop-rec in
    let items = c.deref-rec-items.result.now in
    let rec = c.rec-item.result in
    let one = subst (IsCutOwner c.args.kind rec) c.in-Some.is c.in_ok-owned.ensures in
    let more = cut_more c.args.kind (take at.rec-index items) at.owners.items rec c.in-Some.owned
    at.invariant one in
    let front = take_more items at.rec-index rec c.loop-rec-test.true
    ∙ ap (λ (r : Rec). take at.rec-index items ++ r ∷ []) (sym c.rec-item.is) in
    subst (λ rs. AreCutOf c.args.kind rs c.push.new.self.items) (sym front)
    (subst (AreCutOf c.args.kind (take at.rec-index items ++ rec ∷ []))
    (sym c.in_ok-push.ensures.items) more)
