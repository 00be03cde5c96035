use Rattle.std.proofs.Common.{◌≡◌, ◌<◌, length, sym, subst, IfOk}
use Rattle.gx_schema.specs.declared.schema.FileDef.{FileDef}
use Rattle.gx_schema.specs.Lookups.{file_at}
use Rattle.gx_commands.specs.declared.command.Find.{Find}
use Rattle.gx_model.specs.Texts.{rows_text}
use Rattle.gx_walks.proofs.LegLemmas.{last_by_key}
use Rattle.gx_walks.proofs.answers.text_of.Goals as goal

pub file_of-file-requires : goal.file_of-file-requires
file_of-file-requires c =
    let schema = c.args.schema.now in
    let path = c.requires.of_schema in
    subst (λ (q : Find). q.file < length schema.files) (sym c.last_find_of.ensures)
    (last_by_key schema c.args.query.now.first c.args.query.now.legs path.first path.legs).of_schema.file

pub returns : goal.returns
returns c =
    let given = c.records_text.result in
    let rows = c.args.rows.now in
    subst (λ (q : Find). IfOk given (λ text. text ≡ rows_text (file_at c.args.schema.now q.file) rows))
    c.last_find_of.ensures
    (subst (λ (f : FileDef). IfOk given (λ text. text ≡ rows_text f rows)) c.file_of-file.ensures
    c.records_text.ensures)
