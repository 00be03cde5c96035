use Rattle.std.proofs.Common.{rules, ◌≡◌, []}
use Rattle.gx_stack.proofs.Selects.{ends_empty}
use Rattle.gx_stack.proofs.held.whole_span.Goals as goal

pub returns-clause-keys : goal.returns-clause-keys
returns-clause-keys c = λ form.
    let lo : c.from_slice.result ≡ [] = search rules in
    let hi : c.from_slice-2.result ≡ [] = search rules in
    ends_empty form (record { lo = c.from_slice.result; hi = c.from_slice-2.result }) lo hi
