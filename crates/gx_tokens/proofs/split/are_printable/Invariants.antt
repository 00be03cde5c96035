use Rattle.std.proofs.Common.{◌≡◌, drop}
use Rattle.std.specs.Prelude.{◌&&◌}
use Rattle.std.specs.List.{list_all}
use Rattle.gx_tokens.specs.Lexemes.{is_printable}
use Rattle.gx_tokens.proofs.split.are_printable.Given as goal

abbrev pub invariant-loop-byte : goal.invariant-loop-byte
invariant-loop-byte l =
    (l.are && list_all is_printable (drop l.byte-index l.bytes)) ≡ list_all is_printable l.bytes
