use Rattle.std.proofs.Common.{◌++◌, ◌∙◌, List, ap, subst}
use Rattle.gx_commands.specs.declared.command.Find.{Find}
use Rattle.gx_commands.specs.declared.command.OrderBy.{OrderBy}
use Rattle.gx_model.specs.States.{State, Row, file_in}
use Rattle.gx_model.specs.Found.{IsListed, meets_conds}
use Rattle.gx_model.specs.Paths.{chosen}
use Rattle.gx_model.specs.Play.{seen_state}
use Rattle.gx_engine.proofs.RecordLemmas.{by_key, listed_by_key}
use Rattle.gx_walks.proofs.EngineLemmas.{rows_appended}
use Rattle.gx_walks.proofs.reading.read_found.Goals as goal

pub returns-clause-found : goal.returns-clause-found
returns-clause-found g c = λ s shows.
    let q = c.args.find.now in
    let f = file_in (seen_state shows.0) q.file in
    let made = c.in_ok-records.ensures.found shows.0 shows.1 in
    let listed : IsListed f (meets_conds q.conds) by_key made.0 =
    subst (λ (o : OrderBy). IsListed f (meets_conds q.conds) o made.0)
    (ap (λ (x : Find). x.order) c.requires.find.plain) made.1 in
    rows_appended c.new-rows.result.items c.add_rows.new.out.items c.new-found.result
    c.records.new.out made.0 c.new-found.ensures made.2 c.in_ok-add_rows.ensures.added
    ∙ ap (λ (rows : List Row). rows ++ made.0) c.new-rows.ensures.items
    ∙ listed_by_key f (meets_conds q.conds) made.0 listed
    ∙ ap (λ (x : State). chosen x q) shows.2
