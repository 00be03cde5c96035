use Rattle.std.proofs.Common.{rules, ℤ, Some, ◌∙◌, ap}
use Rattle.std.specs.Int.{w64}
use Rattle.std.specs.Int.RustNames.{FitsSigned}
use Rattle.std.proofs.Math.Facts.{to_z-of_z}
use Rattle.gx_values.specs.declared.values.Value.TheVariants as value
use Rattle.gx_encode.specs.PackLaws.{same_pack}
use Rattle.gx_codec.proofs.fronts.unpacked.Goals as goal

pub returns-clause-read : goal.returns-clause-read
returns-clause-read c = λ n fits same.
    let mine : FitsSigned w64 c.in_ok-int.int = search rules in
    let one = same_pack c.in_ok-int.int n mine fits (c.in_ok-int.ensures ∙ same) in
    ap (λ (z : ℤ). Some (value.Int z)) (to_z-of_z {w = w64} mine ∙ one)
