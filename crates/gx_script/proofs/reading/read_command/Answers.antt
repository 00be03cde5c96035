use Rattle.gx_script.proofs.ReadingLaws.{is_found, is_only, line_found, reading_of_line, one_reading, is_of_schema}
use Rattle.gx_script.proofs.FewConds.{few_conds}
use Rattle.gx_script.proofs.LocalClauses.{is_bad}
use Rattle.gx_script.proofs.reading.read_command.Goals as goal

pub returns-clause-found : goal.returns-clause-found
returns-clause-found c =
    is_found c.args.schema.now c.args.line.now c.read_line.result c.requires c.read_line.ensures

pub returns-clause-only : goal.returns-clause-only
returns-clause-only c d l =
    is_only c.args.schema.now c.args.line.now c.read_line.result c.read_line.ensures d l

pub returns-clause-means : goal.returns-clause-means
returns-clause-means c d = (
  line_found c.args.schema.now c.args.line.now d c.requires,
  reading_of_line c.args.schema.now c.args.line.now d,
)

pub returns-clause-one : goal.returns-clause-one
returns-clause-one c given other a b = one_reading c.args.schema.now c.args.line.now given other a b

pub returns-clause-of_schema : goal.returns-clause-of_schema
returns-clause-of_schema c =
    is_of_schema c.args.schema.now c.args.line.now c.read_line.result
    (is_found c.args.schema.now c.args.line.now c.read_line.result c.requires
    c.read_line.ensures)

pub returns-clause-fault : goal.returns-clause-fault
returns-clause-fault c =
    is_bad c.args.schema.now c.args.line.now c.read_line.result c.requires c.read_line.ensures

pub returns-clause-few : goal.returns-clause-few
returns-clause-few c = few_conds c.args.schema.now c.args.line.now c.read_line.result
    (is_found c.args.schema.now c.args.line.now c.read_line.result c.requires c.read_line.ensures)
