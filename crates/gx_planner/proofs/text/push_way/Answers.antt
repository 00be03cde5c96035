use Rattle.std.proofs.Common.{rules, ◌≡◌, ◌++◌, ◌∙◌, List, ℕ, ap, sym, subst}
use Rattle.std.specs.Prelude.{OnOk, codes}
use Rattle.std.specs.List.{slice_get}
use Rattle.gx_planner.specs.Texts.{field_name, way_text}
use Rattle.gx_planner.proofs.text.push_way.Goals as goal

pub returns-in-IndexRange : goal.returns-in-IndexRange
returns-in-IndexRange c =
    let conds : c.as_slice-conds.result.now ≡ c.args.find.now.conds = search rules in
    let file = c.file_of-file.ensures in
    let way : way_text c.args.schema.now c.args.find.now c.args.plan ≡ codes "index range "
    ++ field_name c.file_of-file.result.now
    (slice_get c.as_slice-conds.result.now c.in-IndexRange.number) =
    ap (way_text c.args.schema.now c.args.find.now) c.in-IndexRange.is
    ∙ (λ i. codes "index range " ++ field_name (sym file i)
    (slice_get (sym conds i) c.in-IndexRange.number)) in
    subst (λ (w : List ℕ). OnOk c.push_field-in-IndexRange.result
    (c.push_field-in-IndexRange.new.text.items ≡ c.args.text.now.items ++ w))
    (sym way) c.push_field-in-IndexRange.ensures
