use Rattle.std.proofs.Common.{◌≡◌, length}
use Rattle.gx_codec.proofs.StoredLemmas.{IsSame}
use Rattle.gx_codec.proofs.codes.Codes.with_code.Given as goal

abbrev pub invariant-loop : goal.invariant-loop
invariant-loop l = record {
  same : IsSame l.self l.codes.items;
  long : length l.codes.items ≡ l.counter;
}
