use Rattle.std.proofs.Common.{◌≡◌, drop}
use Rattle.std.specs.Prelude.{◌&&◌}
use Rattle.std.specs.List.{list_all}
use Rattle.gx_commands.specs.Words.{is_character}
use Rattle.gx_commands.proofs.words.are_characters.Given as goal

abbrev pub invariant-loop-byte : goal.invariant-loop-byte
invariant-loop-byte l =
    (l.are && list_all is_character (drop l.byte-index l.line)) ≡ list_all is_character l.line
