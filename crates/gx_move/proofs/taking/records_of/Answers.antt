use Rattle.std.proofs.Common.{ap, subst, ◌∙◌, ◌++◌, List, [], map}
use Rattle.gx_values.specs.declared.records.Rec.{Rec}
use Rattle.gx_commands.specs.declared.command.Find.{Find}
use Rattle.gx_model.specs.States.{Row, file_in}
use Rattle.gx_model.specs.Found.{IsListed, meets_conds}
use Rattle.gx_model.specs.Play.{seen_state}
use Rattle.gx_scan.specs.Files.{rec_of}
use Rattle.gx_engine.proofs.RecordLemmas.{listed_by_key}
use Rattle.gx_move.proofs.StockLemmas.{all_chosen}
use Rattle.gx_move.proofs.taking.records_of.Goals as goal

pub returns-clause-records : goal.returns-clause-records
returns-clause-records g c = λ p at.
    let found = c.in_ok-records.ensures.found p at in
    let s = seen_state p in
    let listed = subst (λ (q : Find). IsListed (file_in s q.file) (meets_conds q.conds) q.order
    found.0) c.all_of.ensures found.1 in
    found.2 ∙ ap (λ (l : List Rec). l ++ map rec_of found.0) c.new-records.ensures
    ∙ ap (λ (rows : List Row). map rec_of rows)
    (listed_by_key (file_in s c.args.file) (meets_conds []) found.0 listed ∙ all_chosen _)
