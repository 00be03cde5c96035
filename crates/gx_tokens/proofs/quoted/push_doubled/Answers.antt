use Rattle.std.proofs.Common.{◌++◌, ◌∙◌, List, ℕ, sym, ap}
use Rattle.gx_tokens.proofs.QuoteLaws.{doubled_without}
use Rattle.gx_tokens.proofs.quoted.push_doubled.Goals as goal

pub returns-in_ok-extend_from_slice-in-None : goal.returns-in_ok-extend_from_slice-in-None
returns-in_ok-extend_from_slice-in-None c =
    let plain = doubled_without c.args.text.now c.memchr-quote.result c.memchr-quote.ensures
    c.in-None.is in
    c.in_ok-extend_from_slice-in-None.ensures.items
    ∙ ap (λ (more : List ℕ). c.args.out.now.items ++ more) (sym plain)
