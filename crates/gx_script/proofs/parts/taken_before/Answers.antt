-- The words behind the place are those of the rest.
use Rattle.gx_script.proofs.TakenLaws.{taken_words}
use Rattle.gx_script.proofs.parts.taken_before.Goals as goal

-- src/parts.rt:186:1
pub returns-clause-words : goal.returns-clause-words
returns-clause-words c =
    taken_words c.args.bytes.now c.args.rest.now c.without_blanks.result c.requires
    c.without_blanks.ensures.within c.without_blanks.ensures.blanks
