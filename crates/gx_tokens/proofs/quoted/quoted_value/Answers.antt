use Rattle.std.proofs.Common.{◌≡◌, false, sym, ap, ◌∙◌}
use Rattle.gx_laws.proofs.ResultLemmas.{if_ok}
use Rattle.gx_tokens.specs.Quotes.{doubled, unquoted}
use Rattle.gx_tokens.proofs.QuoteLaws.{doubled-unquoted, unquoted_without}
use Rattle.gx_tokens.proofs.quoted.quoted_value.Goals as goal

pub returns-in-None-clause-meant : goal.returns-in-None-clause-meant
returns-in-None-clause-meant c =
    let plain : unquoted false c.args.text.now ≡ c.args.text.now =
    unquoted_without c.args.text.now c.memchr.result c.memchr.ensures c.in-None.is in
    if_ok c.to_vec.result (λ value is quoted. ap doubled (is (λ x y h. h)) ∙ ap doubled (sym plain)
    ∙ doubled-unquoted c.args.text.now quoted) c.to_vec.ensures.items_if_clones_equal

pub returns-in-None-clause-value : goal.returns-in-None-clause-value
returns-in-None-clause-value c =
    if_ok c.to_vec.result (λ value is. is (λ x y h. h)
    ∙ sym (unquoted_without c.args.text.now c.memchr.result c.memchr.ensures c.in-None.is))
    c.to_vec.ensures.items_if_clones_equal

pub returns-in-Some-clause-meant : goal.returns-in-Some-clause-meant
returns-in-Some-clause-meant c =
    if_ok c.paired_value.result (λ value is quoted. ap doubled is
    ∙ doubled-unquoted c.args.text.now quoted) c.paired_value.ensures
