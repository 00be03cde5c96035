use Rattle.std.proofs.Common.{inl, ◌∙◌, refl, sym, ap, subst}
use Rattle.gx_values.specs.declared.records.Rec.{Rec}
use Rattle.gx_mapping.specs.Rule.{IsOf, AreOfKey}
use Rattle.gx_mapping.proofs.RuleLemmas.{one_item}
use Rattle.gx_partition.specs.Rules.{rule_of, whole_of}
use Rattle.gx_partition.proofs.GatherLemmas.{gathered_one}
use Rattle.gx_partition.proofs.mapping.PartitionMapping.gather.Goals as goal

pub whole-requires : goal.whole-requires
whole-requires c =
    let m = c.args.self.now in
    let p = c.part-item.result in
    let one = sym (c.as_slice.ensures.value ∙ c.parts.view_is)
    ∙ one_item c.as_slice.result.now p c.in-len1.len_at_least c.in-len1.len_below c.part-item.is
    in
    let fits = ((subst (AreOfKey (rule_of m) c.args._key.now) one c.requires).each p
    (inl refl)).fits in
    subst (IsOf m.form) (sym c.in_ok-rec-in-len1.ensures) fits

pub returns-in_ok-rec-in-len1 : goal.returns-in_ok-rec-in-len1
returns-in_ok-rec-in-len1 c =
    let m = c.args.self.now in
    let p = c.part-item.result in
    let one = sym (c.as_slice.ensures.value ∙ c.parts.view_is)
    ∙ one_item c.as_slice.result.now p c.in-len1.len_at_least c.in-len1.len_below c.part-item.is
    in
    let copied = c.in_ok-rec-in-len1.ensures in
    let found = c.whole.ensures
    ∙ ap (λ (r : Rec). whole_of m.at m.bounds (record { child = p.child; rec = r })) copied in
    gathered_one m.form m.at m.bounds c.args._key.now p c.args.parts.now c.whole.result c.requires
    one found
