use Rattle.std.proofs.Common.{◌≡◌, sym, subst, arith}
use Rattle.std.specs.Prelude.{ℤ}
use Rattle.std.specs.Int.{w64}
use Rattle.std.specs.Int.RustNames.{FitsSigned}
use Rattle.std.proofs.Math.Facts.{to_z-of_z}
use Rattle.gx_encode.specs.Packs.{pack}
use Rattle.gx_encode.proofs.PackSteps.{unpacked}
use Rattle.gx_encode.proofs.packs.unpack.Goals as goal

pub returns : goal.returns
returns c =
    let fits : FitsSigned w64 c.cast_signed.result = record { sfits = c.cast_signed.type_inv } in
    subst (λ (z : ℤ). pack z ≡ c.args.bytes.now) (sym (to_z-of_z {w = w64} fits))
    (unpacked c.args.bytes.now c.extended.result c.cast_signed.result c.from_be_bytes.result
    (omega (arith, c.if-bytes-gt8.false)) (c.is_shortest.ensures.yes c.if-not-is_shortest.false)
    c.extended.ensures (λ i. (c.type_inv.bytes i).fits) c.from_be_bytes.type_inv
    c.from_be_bytes.ensures c.cast_signed.ensures)
