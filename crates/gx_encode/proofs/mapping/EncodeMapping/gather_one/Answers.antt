use Rattle.std.proofs.Common.{◌∷◌, [], subst}
use Rattle.std.specs.Prelude.{IfOk}
use Rattle.gx_mapping.specs.declared.parts.Part.{Part}
use Rattle.gx_mapping.specs.Rule.{IsGathered}
use Rattle.gx_encode.specs.Rules.{rule_of}
use Rattle.gx_encode.proofs.GatherLemmas.{part_whole, part_alone}
use Rattle.gx_encode.proofs.mapping.EncodeMapping.gather_one.Goals as goal

pub record_of-requires : goal.record_of-requires
record_of-requires c =
    let m = c.args.self.now in
    part_alone m.form m.field m.code m.sound c.args.part.rec.key c.args.part c.requires

pub returns : goal.returns
returns c =
    let m = c.args.self.now in
    let p = c.args.part in
    subst (λ (q : Part). IfOk c.record_of.result (IsGathered (rule_of m) p.rec.key (q ∷ [])))
    (part_whole m.form m.field m.code m.sound p.rec.key p c.requires) c.record_of.ensures
