use Rattle.std.proofs.Common.{rules, ◌≡◌, ◌∙◌, ◌++◌, ◌∷◌, List, inl, refl, sym, ap, subst}
use Rattle.std.specs.Vec.Iter.{into_iter_items}
use Rattle.gx_values.specs.declared.records.Rec.{Rec}
use Rattle.gx_mapping.specs.Rule.{In}
use Rattle.gx_gather.proofs.Lists.{in_right}
use Rattle.gx_audit.proofs.files.keys_of.Goals as goal

pub into_row-requires-clause-fits : goal.into_row-requires-clause-fits
into_row-requires-clause-fits c =
    let at = c.loop-record in
    let r = c.in-Some.record in
    let rest = into_iter_items c.next.new.self in
    let given : into_iter_items c.into_iter-record-iterator.result ≡ c.args.records =
    search rules in
    let steps : into_iter_items at.record-iterator ≡ r ∷ rest = c.in-Some.ensures.steps.0 in
    let all : at.yielded ++ (r ∷ rest) ≡ c.args.records =
    ap (λ (l : List Rec). at.yielded ++ l) (sym steps) ∙ at.invariant.left ∙ given in
    c.requires.fit r (subst (In r) all (in_right r at.yielded (r ∷ rest) (inl refl)))
