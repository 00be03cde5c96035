use Rattle.std.proofs.Common.{IfSome, ◌≡◌, subst, arith}
use Rattle.genesis.proofs.TextLemmas.{whole_text}
use Rattle.genesis.proofs.files.read_text.Goals as goal

pub returns-in-Ok-clause-whole : goal.returns-in-Ok-clause-whole
returns-in-Ok-clause-whole g c =
    let remaining = g.F.Read.remaining in
    let text = c.read_to_end.new.buf.items in
    subst (λ file. IfSome (remaining file) (λ bytes. text ≡ bytes)) c.take-front.ensures.inner
    (whole_text (remaining c.take-front.result.inner) c.take-front.result.limit
    c.new-text.result.items text c.new-text.ensures.items c.in-Ok.ensures.bytes
    (omega (arith, c.take-front.ensures.limit)))
