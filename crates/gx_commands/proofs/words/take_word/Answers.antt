use Rattle.std.proofs.Common.{sym, None, Some}
use Rattle.gx_commands.specs.Cutting.{word_of}
use Rattle.gx_commands.proofs.CuttingLaws.{words_step}
use Rattle.gx_commands.proofs.WordLaws.{first_found}
use Rattle.gx_commands.proofs.TurnLaws.{word_rest}
use Rattle.gx_commands.proofs.words.take_word.Goals as goal

pub returns-in-None-clause-word : goal.returns-in-None-clause-word
returns-in-None-clause-word c = rw (words_step c.args.line.now None (sym c.in-None.ensures))

pub returns-in-Some-clause-word : goal.returns-in-Some-clause-word
returns-in-Some-clause-word c = rw (words_step c.args.line.now
    (Some (word_of c.in-Some.word.0, c.in-Some.word.1.now)) (sym c.in-Some.ensures))

pub returns-in-Some-clause-left : goal.returns-in-Some-clause-left
returns-in-Some-clause-left c =
    word_rest c.args.line.now (word_of c.in-Some.word.0) c.in-Some.word.1.now
    (first_found c.args.line.now (word_of c.in-Some.word.0, c.in-Some.word.1.now)
    (sym c.in-Some.ensures))
