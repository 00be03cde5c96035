use Rattle.std.proofs.Common.{◌∷◌, [], ap, Some}
use Rattle.std.specs.Option.{option_map}
use Rattle.gx_access.specs.Access.{fragment_of, Only}
use Rattle.gx_access.proofs.CompileSteps.{layer_first}
use Rattle.gx_access.proofs.compile.cut_access.Goals as goal

pub returns-in-Layer : goal.returns-in-Layer
returns-in-Layer g c = λ own.
    ap (option_map (λ n. Only (fragment_of c.args.fields.now n (Some c.args.size) c.args.view.now ∷ [])))
    (layer_first g.M.Mapping.rule g.M.Arranged.arranged c.args.fields.now c.args.kids.now
    c.first-item.result c.in-Layer.field-0 c.in-len1-up.len_at_least c.first-item.is c.in-Layer.is)
