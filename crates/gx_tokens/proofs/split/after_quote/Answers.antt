use Rattle.std.proofs.Common.{sym, ◌∙◌}
use Rattle.gx_tokens.proofs.QuoteLaws.{behind_printable, behind_others, no_quote_found}
use Rattle.gx_tokens.proofs.split.after_quote.Goals as goal

pub returns-in-None-clause-value : goal.returns-in-None-clause-value
returns-in-None-clause-value c =
    sym (no_quote_found c.args.bytes.now c.memchr.result c.memchr.ensures c.in-None.is)

pub returns-then-are_printable-clause-value : goal.returns-then-are_printable-clause-value
returns-then-are_printable-clause-value c =
    behind_printable c.args.bytes.now c.memchr.result c.in-Some.at c.memchr.ensures c.in-Some.is
    (sym c.if-are_printable.true ∙ c.are_printable.ensures)

pub returns-else-are_printable-clause-value : goal.returns-else-are_printable-clause-value
returns-else-are_printable-clause-value c =
    behind_others c.args.bytes.now c.memchr.result c.in-Some.at c.memchr.ensures c.in-Some.is
    (sym c.if-are_printable.false ∙ c.are_printable.ensures)
