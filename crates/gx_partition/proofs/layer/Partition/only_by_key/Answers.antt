use Rattle.std.proofs.Common.{◌≡◌, ◌∙◌, ℕ, sym, ap, subst, true, false, Some, None, Option}
use Rattle.gx_values.specs.declared.values.Value.{Value}
use Rattle.gx_mapping.specs.Searched.{IsAlone}
use Rattle.gx_partition.specs.declared.place.Where.{Where}
use Rattle.gx_partition.specs.Places.{kind_at}
use Rattle.gx_partition.specs.Bounds.{IsPartition, lower_of, upper_of, begins_after}
use Rattle.gx_partition.specs.Rules.{partition_rule}
use Rattle.gx_partition.proofs.SearchLemmas.{ends_parted, alone_first, none_first, two_first}
use Rattle.gx_partition.proofs.layer.Partition.only_by_key.Goals as goal

pub first_from-child-requires-clause-parted : goal.first_from-child-requires-clause-parted
first_from-child-requires-clause-parted c =
    let m = c.args.self.now in
    ends_parted (kind_at m.at m.form) m.sound.kind m.bounds c.args.span.now.lo m.sound.fit
    m.sound.ascending

pub returns-then-begins_after-clause-none : goal.returns-then-begins_after-clause-none
returns-then-begins_after-clause-none c =
    let m = c.args.self.now in
    let span = c.args.span.now in
    let first = c.first_from-child in
    let lower : begins_after (lower_of m.bounds first.result) span.hi ≡ true =
    ap (λ o. begins_after o span.hi) (sym c.lower_of.ensures) ∙ sym c.begins_after.ensures
    ∙ c.if-begins_after.true in
    subst (λ (at : Where). (d : ℕ) → IsAlone (partition_rule m.form at m.bounds) span d
    → ⊥) (sym c.requires)
    (none_first m.form m.bounds
    (subst (λ (at : Where). IsPartition m.form at m.bounds) c.requires m.sound) span
    first.result
    first.ensures.few first.ensures.point lower)

pub returns-in_default-clause-alone : goal.returns-in_default-clause-alone
returns-in_default-clause-alone c =
    let m = c.args.self.now in
    let span = c.args.span.now in
    let first = c.first_from-child in
    let lower : begins_after (lower_of m.bounds first.result) span.hi ≡ false =
    ap (λ o. begins_after o span.hi) (sym c.lower_of.ensures) ∙ sym c.begins_after.ensures
    ∙ c.if-begins_after.false in
    let last : None ≡ upper_of m.bounds first.result = c.in_default.ensures in
    subst (λ (at : Where). IsAlone (partition_rule m.form at m.bounds) span first.result)
    (sym c.requires)
    (alone_first m.form m.bounds
    (subst (λ (at : Where). IsPartition m.form at m.bounds) c.requires m.sound) span
    first.result
    first.ensures.few first.ensures.point lower (λ b e. absurd (no_bound b (last ∙ e))))
  where
    no_bound : (b : Value) → ◌≡◌ {A = Option Value} None (Some b) → ⊥
    no_bound b e = cc

pub returns-then-begins_after-2-clause-alone : goal.returns-then-begins_after-2-clause-alone
returns-then-begins_after-2-clause-alone c =
    let m = c.args.self.now in
    let span = c.args.span.now in
    let first = c.first_from-child in
    let lower : begins_after (lower_of m.bounds first.result) span.hi ≡ false =
    ap (λ o. begins_after o span.hi) (sym c.lower_of.ensures) ∙ sym c.begins_after.ensures
    ∙ c.if-begins_after.false in
    let upper : Some c.in-Some.upper.now ≡ upper_of m.bounds first.result = c.in-Some.ensures in
    subst (λ (at : Where). IsAlone (partition_rule m.form at m.bounds) span first.result)
    (sym c.requires)
    (alone_first m.form m.bounds
    (subst (λ (at : Where). IsPartition m.form at m.bounds) c.requires m.sound) span
    first.result
    first.ensures.few first.ensures.point lower
    (λ b e. ap (λ o. begins_after o span.hi) (sym (upper ∙ e)) ∙ sym c.begins_after-2.ensures
    ∙ c.if-begins_after-2.true))

pub returns-else-begins_after-2-clause-none : goal.returns-else-begins_after-2-clause-none
returns-else-begins_after-2-clause-none c =
    let m = c.args.self.now in
    let span = c.args.span.now in
    let first = c.first_from-child in
    let lower : begins_after (lower_of m.bounds first.result) span.hi ≡ false =
    ap (λ o. begins_after o span.hi) (sym c.lower_of.ensures) ∙ sym c.begins_after.ensures
    ∙ c.if-begins_after.false in
    let upper : Some c.in-Some.upper.now ≡ upper_of m.bounds first.result = c.in-Some.ensures in
    subst (λ (at : Where). (d : ℕ) → IsAlone (partition_rule m.form at m.bounds) span d
    → ⊥) (sym c.requires)
    (two_first m.form m.bounds
    (subst (λ (at : Where). IsPartition m.form at m.bounds) c.requires m.sound) span
    first.result
    first.ensures.few first.ensures.point c.in-Some.upper.now lower (sym upper)
    (sym c.begins_after-2.ensures ∙ c.if-begins_after-2.false))
