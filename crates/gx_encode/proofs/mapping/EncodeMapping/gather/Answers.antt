use Rattle.std.proofs.Common.{◌∷◌, [], ◌∙◌, List, sym, subst}
use Rattle.std.specs.Prelude.{IfOk}
use Rattle.gx_values.specs.declared.values.Value.{Value}
use Rattle.gx_values.specs.declared.records.Rec.{Rec}
use Rattle.gx_mapping.specs.declared.parts.Part.{Part}
use Rattle.gx_mapping.specs.Rule.{AreOfKey, IsGathered}
use Rattle.gx_mapping.proofs.RuleLemmas.{one_item}
use Rattle.gx_encode.specs.Rules.{rule_of, only_part}
use Rattle.gx_encode.proofs.GatherLemmas.{part_under, part_whole, part_alone}
use Rattle.gx_encode.proofs.mapping.EncodeMapping.gather.Goals as goal

pub record_of-requires : goal.record_of-requires
record_of-requires c =
    let m = c.args.self.now in
    let p = c.part-item.result in
    let one = sym (c.as_slice.ensures.value ∙ c.parts.view_is)
    ∙ one_item c.as_slice.result.now p c.in-len1.len_at_least c.in-len1.len_below c.part-item.is
    in
    let of = subst (AreOfKey (rule_of m) c.args._key.now) one c.requires in
    let copied = c.in_ok-rec-in-len1.ensures in
    subst (λ (r : Rec). AreOfKey (rule_of m) r.key (only_part r ∷ [])) (sym copied)
    (part_alone m.form m.field m.code m.sound c.args._key.now p of)

pub returns-in_ok-rec-in-len1 : goal.returns-in_ok-rec-in-len1
returns-in_ok-rec-in-len1 c =
    let m = c.args.self.now in
    let p = c.part-item.result in
    let key = c.args._key.now in
    let one = sym (c.as_slice.ensures.value ∙ c.parts.view_is)
    ∙ one_item c.as_slice.result.now p c.in-len1.len_at_least c.in-len1.len_below c.part-item.is
    in
    let of = subst (AreOfKey (rule_of m) key) one c.requires in
    let copied = c.in_ok-rec-in-len1.ensures in
    subst (λ (ps : List Part). IfOk c.record_of.result (IsGathered (rule_of m) key ps)) (sym one)
    (subst (λ (q : Part). IfOk c.record_of.result (IsGathered (rule_of m) key (q ∷ [])))
    (part_whole m.form m.field m.code m.sound key p of)
    (subst (λ (k : List Value). IfOk c.record_of.result
    (IsGathered (rule_of m) k (only_part p.rec ∷ [])))
    (part_under m.form m.field m.code m.sound key p of)
    (subst (λ (r : Rec). IfOk c.record_of.result (IsGathered (rule_of m) r.key (only_part r ∷ [])))
    copied c.record_of.ensures)))
