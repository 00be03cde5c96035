use Rattle.std.proofs.Common.{◌≡◌, ◌++◌, drop}
use Rattle.gx_tokens.specs.Quotes.{doubled}
use Rattle.gx_tokens.proofs.quoted.push_pairs.Given as goal

abbrev pub invariant-loop-byte : goal.invariant-loop-byte
invariant-loop-byte l = l.out.items ++ doubled (drop l.byte-index l.text) ≡ l.initial.out.items
    ++ doubled l.text
