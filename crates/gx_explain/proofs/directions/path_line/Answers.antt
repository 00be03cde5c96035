use Rattle.std.proofs.Common.{◌≡◌, ◌<◌, ◌∙◌, IfOk, length, sym, ap, subst}
use Rattle.gx_model.specs.Paths.{last_find}
use Rattle.gx_walks.specs.declared.directions.Direction.{Direction}
use Rattle.gx_explain.specs.Explained.{direction_line, direction_of}
use Rattle.gx_explain.specs.Explaining.{fields_in}
use Rattle.gx_explain.proofs.DirectionLemmas.{one_direction, last_within}
use Rattle.gx_explain.proofs.directions.path_line.Goals as goal

pub fields_of-requires-2-clause-file : goal.fields_of-requires-2-clause-file
fields_of-requires-2-clause-file c =
    let schema = c.args.schema.now in
    let path = c.requires.due.of_schema in
    subst (λ n. n < length schema.files) (sym c.last_file.ensures)
    (last_within schema c.args.query.now.first c.args.query.now.legs path.first path.legs)

pub returns : goal.returns
returns c =
    let indexed = fields_in c.args.schema.now c.args.built.now.files in
    let q = c.args.query.now in
    let first : c.deref.result.now ≡ indexed q.first.file =
    c.deref.ensures.value ∙ c.in_ok-first.ensures in
    let last : c.deref-2.result.now ≡ indexed (last_find q.first q.legs).file =
    c.deref-2.ensures.value ∙ c.in_ok-last.ensures ∙ ap indexed c.last_file.ensures in
    subst (λ (d : Direction). IfOk c.direction_line.result
    (λ text. text ≡ direction_line c.args.number d))
    (one_direction q c.deref.result.now c.deref-2.result.now c.direction.result c.direction.ensures
    ∙ (λ i. direction_of q (first i) (last i)))
    c.direction_line.ensures
