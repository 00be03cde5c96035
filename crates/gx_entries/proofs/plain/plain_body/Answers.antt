use Rattle.std.proofs.Common.{◌≡◌, ◌+◌, ◌∙◌, length, sym, subst, arith}
use Rattle.std.specs.Prelude.{IfOk}
use Rattle.std.specs.List.{AllByRecursion}
use Rattle.gx_actual.specs.Bodies.{body_of, HasLength}
use Rattle.gx_codec.specs.Layouts.{of_group}
use Rattle.gx_codec.proofs.LayoutLemmas.{marked_laid, marked_have, of_group_long}
use Rattle.gx_entries.proofs.plain.plain_body.Goals as goal

pub write_body-requires-clause-have : goal.write_body-requires-clause-have
write_body-requires-clause-have c =
    marked_have (of_group c.args.is_first c.args.mask.now) 0 c.args.values.now

pub write_body-requires-clause-lengths : goal.write_body-requires-clause-lengths
write_body-requires-clause-lengths c =
    let of = of_group c.args.is_first c.args.mask.now in
    subst (AllByRecursion HasLength) (sym (marked_laid of 0 c.args.values.now
    (omega (arith, c.requires.long, of_group_long c.args.is_first c.args.mask.now))))
    c.requires.lengths

pub returns : goal.returns
returns c =
    let of = of_group c.args.is_first c.args.mask.now in
    subst (λ ws. IfOk c.write_body.result (λ body. body ≡ body_of ws))
    (marked_laid of 0 c.args.values.now
    (omega (arith, c.requires.long, of_group_long c.args.is_first c.args.mask.now)))
    c.write_body.ensures
