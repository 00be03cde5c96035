use Rattle.std.proofs.Common.{rules, ◌≡◌, ◌∙◌, true, false, ap}
use Rattle.std.specs.Ordering.{nat_cmp, is_le}
use Rattle.std.specs.Cmp.Lexicographic.{slice_cmp}
use Rattle.gx_finds.specs.Spans.{is_from}
use Rattle.gx_finds.proofs.SpanLemmas.{first_low, second_low}
use Rattle.gx_finds.proofs.spans.raise_low.Goals as goal

pub returns-then-is_le-clause-both : goal.returns-then-is_le-clause-both
returns-then-is_le-clause-both c = λ key.
    let low = c.args.low.now in
    let other = c.args.other.now in
    let le : is_le (slice_cmp nat_cmp low other) ≡ true = search rules in
    ap (λ b. is_from b key) c.set_key.ensures ∙ second_low low other key le

pub returns-else-is_le-clause-both : goal.returns-else-is_le-clause-both
returns-else-is_le-clause-both c = λ key.
    let low = c.args.low.now in
    let other = c.args.other.now in
    let above : is_le (slice_cmp nat_cmp low other) ≡ false = search rules in
    first_low low other key above
