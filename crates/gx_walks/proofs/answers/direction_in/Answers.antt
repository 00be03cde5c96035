use Rattle.std.proofs.Common.{◌<◌, length, sym, subst}
use Rattle.gx_commands.specs.declared.command.Find.{Find}
use Rattle.gx_walks.proofs.LegLemmas.{last_by_key}
use Rattle.gx_walks.proofs.answers.direction_in.Goals as goal

pub indexed_fields-requires-2-clause-file : goal.indexed_fields-requires-2-clause-file
indexed_fields-requires-2-clause-file g c =
    let schema = g.R.LinkReader.schema c.args.reader.now in
    let path = c.requires.due.of_schema in
    subst (λ (q : Find). q.file < length schema.files) (sym c.last_find_of.ensures)
    (last_by_key schema c.args.query.now.first c.args.query.now.legs path.first path.legs).of_schema.file
