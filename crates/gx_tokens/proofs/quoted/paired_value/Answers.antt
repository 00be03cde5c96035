use Rattle.std.proofs.Common.{false}
use Rattle.gx_tokens.specs.Quotes.{unquoted}
use Rattle.gx_tokens.proofs.QuoteLaws.{unquoted_whole}
use Rattle.gx_tokens.proofs.quoted.paired_value.Goals as goal

pub returns : goal.returns
returns c = unquoted_whole c.loop-rest.second c.loop-rest.rest.now c.loop-rest.value.items
    (unquoted false c.args.text.now) c.in_default.len_below c.loop-rest.invariant
