use Rattle.std.proofs.Common.{◌≡◌, ◌++◌, ◌∙◌, List, filter, sym, subst, rules}
use Rattle.std.specs.FinMap as fin
use Rattle.gx_commands.specs.declared.command.Cond.{Cond}
use Rattle.gx_model.specs.States.{Row, file_in}
use Rattle.gx_model.specs.Found.{meets_conds}
use Rattle.gx_model.specs.Paths.{is_led}
use Rattle.gx_walks.specs.Walks.{all_linked, AreThose}
use Rattle.gx_walks.proofs.SetLemmas.{linked_those}
use Rattle.gx_walks.proofs.StepLemmas.{given_ok}
use Rattle.gx_walks.proofs.walking.follow.Goals as goal

pub returns-clause-set : goal.returns-clause-set
returns-clause-set g c = λ s holds.
    let way = c.args.way in
    let file = c.args.find.now.file in
    let rows : List Row = c.args.rows.now in
    let test : Row → _ = is_led s way rows in
    let found : c.add_all.new.out.items ≡ all_linked s file way rows =
    c.in_ok-add_all.ensures.found s holds
    ∙ (λ k. c.new-found.ensures.items k ++ all_linked s (c.requires.leg.behind k) way rows) in
    let conds : c.deref.result.now ≡ c.args.find.now.conds = search rules in
    subst (λ (cs : List Cond). c.settle.new.rows.items
    ≡ filter test (filter (meets_conds cs) (fin.entries (file_in s file)))) conds
    (given_ok c.settle.result _ c.in_ok-or_stop.ensures.same
    (c.settle.ensures (file_in s file) test
    (subst (AreThose (file_in s file) test) (sym found) (linked_those s file way rows))))

pub or_stop-requires-clause-serving : goal.or_stop-requires-clause-serving
or_stop-requires-clause-serving g c = g.met.R.LinkReader.at_rest _ _ c.in_ok-add_all.ensures.calls
