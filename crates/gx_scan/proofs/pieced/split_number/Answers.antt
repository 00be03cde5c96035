use Rattle.std.proofs.Common.{◌≡◌, ◌+◌, ◌%◌, ◌^◌, ◌∙◌, ap}
use Rattle.std.specs.Int.{w64, from_be_bytes, cast_unsigned}
use Rattle.std.specs.Int.RustNames.{FitsSigned}
use Rattle.std.proofs.Math.Facts.{to_z-of_z}
use Rattle.gx_values.specs.Keys.{rank_of}
use Rattle.gx_values.proofs.IntLemmas.{number_of_rank}
use Rattle.gx_scan.proofs.NumberLemmas.{number_behind, bytes_wrap}
use Rattle.gx_scan.proofs.pieced.split_number.Goals as goal

pub returns : goal.returns
returns c = λ key number small same.
    let fits : FitsSigned w64 c.unrank.result = record { sfits = c.unrank.type_inv } in
    let ends = c.in_ok-key.ensures.cases in
    let parts = number_behind c.args.piece_key.now key c.in_ok-key.key.now c.in_ok-key.number.now
    (2 ^ 63 + number) same ends.0 ends.1 in
    let rank : rank_of c.unrank.result ≡ (2 ^ 63 + number) % 2 ^ 64 =
    c.unrank.ensures ∙ c.from_be_bytes.ensures ∙ ap (from_be_bytes w64) parts.1
    ∙ bytes_wrap (2 ^ 63 + number) in (
      parts.0,
      c.cast_unsigned.ensures ∙ ap (cast_unsigned w64) (to_z-of_z {w = w64} fits)
          ∙ number_of_rank c.unrank.result number fits small rank,
    )
