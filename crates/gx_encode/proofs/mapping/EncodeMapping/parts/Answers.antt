use Rattle.std.proofs.Common.{◌≡◌, sym, subst}
use Rattle.std.specs.Prelude.{IfOk}
use Rattle.gx_values.specs.declared.records.Rec.{Rec}
use Rattle.gx_mapping.specs.Rule.{IsOf}
use Rattle.gx_encode.specs.Rules.{rule_of}
use Rattle.gx_encode.proofs.mapping.EncodeMapping.parts.Goals as goal

pub part_of-requires : goal.part_of-requires
part_of-requires c =
    subst (IsOf c.args.self.now.form) (sym c.in_ok-rec.ensures) c.requires

pub returns : goal.returns
returns c =
    let m = c.args.self.now in
    subst (λ (q : Rec). IfOk c.part_of.result (λ parts. parts ≡ (rule_of m).parts q))
    c.in_ok-rec.ensures c.part_of.ensures
