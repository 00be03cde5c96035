use Rattle.std.proofs.Common.{◌<◌, length, sym, ap, subst, ◌∙◌}
use Rattle.std.specs.List.{AllByRecursion}
use Rattle.gx_commands.specs.declared.command.Find.{Find}
use Rattle.gx_commands.specs.declared.path.PathQuery.{PathQuery}
use Rattle.gx_model.specs.Paths.{last_find}
use Rattle.gx_plain.specs.Plain.{IsLegIn}
use Rattle.gx_plain.proofs.PathLemmas.{legs_in, last_within}
use Rattle.gx_plain.proofs.paths.path_text.Goals as goal

pub after_legs-requires : goal.after_legs-requires
after_legs-requires c =
    let path = c.requires.of_schema in
    let query = c.args.query.now in
    subst (AllByRecursion (IsLegIn c.args.state.now))
    (sym (c.deref.ensures.value ∙ ap (λ (q : PathQuery). q.legs) c.query.view_is))
    (legs_in c.args.schema.now c.args.state.now query.first.file query.legs c.requires.parts
    path.legs)

pub file_def-requires : goal.file_def-requires
file_def-requires c =
    let schema = c.args.schema.now in
    let path = c.requires.of_schema in
    let query = c.args.query.now in
    subst (λ (q : Find). q.file < length schema.files)
    (sym (c.last_find-last.ensures ∙ (λ i. last_find (c.query.view_is i).first
    ((c.deref-2.ensures.value ∙ ap (λ (q : PathQuery). q.legs) c.query.view_is) i))))
    (last_within schema query.first query.legs path.first.of_schema.file path.legs)
