use Rattle.std.proofs.Common.{◌≡◌, List, Bor, Option, None, Some, sym, ap, subst, ◌∙◌}
use Rattle.std.specs.Prelude.{MatchOption}
use Rattle.std.specs.FinMap.{get}
use Rattle.std.specs.Option.{option_map, option_copied}
use Rattle.gx_memory_machine.specs.Names.{by_name}
use Rattle.gx_memory_machine.proofs.NameLemmas.{get_named}
use Rattle.gx_memory_machine.proofs.names.find.Goals as goal

pub returns-in_err-items : goal.returns-in_err-items
returns-in_err-items g c =
    subst (λ (r : Option (Bor (List _))). MatchOption r
    (get (by_name c.args.map.now.entries) c.args.name.now ≡ None)
    (λ items. get (by_name c.args.map.now.entries) c.args.name.now ≡ Some items.now))
    (sym c.from_residual.ensures)
    (get_named c.args.map.now.entries c.args.name.now ∙ ap (option_map (λ v. v.items))
    (sym c.get.ensures.value ∙ ap option_copied c.in_err-items.was))

pub returns : goal.returns
returns g c =
    get_named c.args.map.now.entries c.args.name.now
    ∙ ap (option_map (λ v. v.items)) (sym c.get.ensures.value ∙ ap option_copied c.in_ok-items.was)
    ∙ ap Some (sym c.as_slice.ensures.value)
