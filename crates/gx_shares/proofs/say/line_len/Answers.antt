use Rattle.std.proofs.Common.{◌<◌, length, subst, arith}
use Rattle.std.proofs.lemmas.List.{take_all}
use Rattle.memchr.specs.Find.{IsFirstByte, is_byte}
use Rattle.gx_commands.proofs.LineLaws.{NoLf, ended_at, not_ended}
use Rattle.gx_shares.proofs.SayLemmas.{line_of, no_line}
use Rattle.gx_shares.proofs.say.line_len.Goals as goal

pub returns-in-Some : goal.returns-in-Some
returns-in-Some c =
    let text = c.args.text.now in
    let at = c.in-Some.at in
    let found = ended_at 10 text c.memchr.result at c.memchr.ensures c.in-Some.is in
    let high : at < length text =
    (subst (λ o. IsFirstByte (is_byte 10) text o) c.in-Some.is c.memchr.ensures).0.high in
    (omega arith, omega (arith, high), λ n. line_of text at high found.0 found.1.1 n)

pub returns-in-None : goal.returns-in-None
returns-in-None c =
    let text = c.args.text.now in
    no_line text (subst NoLf (take_all (length text) text (omega arith))
    (not_ended 10 text c.memchr.result (length text) c.memchr.ensures c.in-None.is))
