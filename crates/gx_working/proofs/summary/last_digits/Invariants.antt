use Rattle.std.proofs.Common.{ℕ, ◌≡◌, ◌≤◌, ◌<◌, true, get_or}
use Rattle.gx_tokens.specs.Lexemes.{is_digit}
use Rattle.gx_working.proofs.summary.last_digits.Given as goal

abbrev pub invariant-loop-start : goal.invariant-loop-start
invariant-loop-start l = record {
  within : l.start ≤ l.end;
  each : (k : ℕ) → l.start ≤ k → k < l.end → is_digit (get_or l.answer k 0) ≡ true;
}

abbrev pub decreases-loop-start : goal.decreases-loop-start
decreases-loop-start l = l.start
