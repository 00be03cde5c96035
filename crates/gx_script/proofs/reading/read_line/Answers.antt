use Rattle.std.proofs.Common.{sym, ◌∙◌}
use Rattle.gx_script.proofs.ReadingLaws.{words_read}
use Rattle.gx_script.proofs.reading.read_line.Goals as goal

pub returns : goal.returns
returns c =
    words_read c.args.schema.now c.args.line.now c.read_words.result
    (sym c.is_comment.ensures ∙ c.if-is_comment.false)
    (sym c.are_characters.ensures ∙ c.if-not-are_characters.false)
    (c.are_words.ensures.0 c.if-not-are_words.false)
    c.read_words.ensures
