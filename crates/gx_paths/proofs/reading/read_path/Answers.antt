use Rattle.std.proofs.Common.{sym, ◌∙◌}
use Rattle.std.specs.Prelude.{IfOk}
use Rattle.gx_script.specs.Reading.{AnswersUnlessNoMemory}
use Rattle.gx_script.specs.Paths.{IsPathLine, IsPathReading}
use Rattle.gx_script.proofs.PathLaws.{path_line_found, path_line_again, one_path_reading}
use Rattle.gx_paths.proofs.FewLemmas.{has_at_most}
use Rattle.gx_paths.proofs.LineLemmas.{words_read, is_found, is_of_schema}
use Rattle.gx_paths.proofs.reading.read_path.Goals as goal

read : (c : goal.After-read_words)
    → AnswersUnlessNoMemory c.read_words.result (IsPathReading c.args.schema.now c.args.line.now)
read c =
    words_read c.args.schema.now c.args.line.now c.read_words.result
    (sym c.are_characters.ensures ∙ c.if-not-are_characters.false)
    (c.are_words.ensures.0 c.if-not-are_words.false) c.read_words.ensures

found : (c : goal.After-read_words)
    → IfOk c.read_words.result (λ q. IsPathLine c.args.schema.now c.args.line.now q)
found c =
    is_found c.args.schema.now c.args.line.now c.read_words.result c.requires (read c)

pub returns-clause-found : goal.returns-clause-found
returns-clause-found c = found c

pub returns-clause-exact : goal.returns-clause-exact
returns-clause-exact c = read c

pub returns-clause-of_schema : goal.returns-clause-of_schema
returns-clause-of_schema c =
    is_of_schema c.args.schema.now c.args.line.now c.read_words.result (found c)

pub returns-clause-few : goal.returns-clause-few
returns-clause-few c =
    has_at_most c.args.schema.now c.args.line.now c.read_words.result (found c)

pub returns-clause-means : goal.returns-clause-means
returns-clause-means c q = (
  path_line_found c.args.schema.now c.args.line.now q c.requires,
  path_line_again c.args.schema.now c.args.line.now q,
)

pub returns-clause-one : goal.returns-clause-one
returns-clause-one c given other a b =
    one_path_reading c.args.schema.now c.args.line.now given other a b
