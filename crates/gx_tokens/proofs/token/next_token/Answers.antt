use Rattle.gx_tokens.proofs.TokenFound.{is_found}
use Rattle.gx_tokens.proofs.TokenAgain.{first_again}
use Rattle.std.proofs.Common.{◌∙◌}
use Rattle.gx_tokens.specs.Lexemes.{lexeme_of}
use Rattle.gx_tokens.proofs.token.next_token.Goals as goal

pub returns-clause-found : goal.returns-clause-found
returns-clause-found c =
    is_found (λ x. (lexeme_of x.0, x.1.now)) c.args.bytes.now c.token_at.result c.token_at.ensures

pub returns-clause-only : goal.returns-clause-only
returns-clause-only c token rest first = c.token_at.ensures
    ∙ first_again c.args.bytes.now token rest first
