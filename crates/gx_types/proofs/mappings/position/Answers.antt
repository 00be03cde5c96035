use Rattle.std.proofs.Common.{sym, ◌∙◌}
use Rattle.gx_types.proofs.NodeSteps.{first_here, first_behind, kind_behind}
use Rattle.gx_types.proofs.mappings.position.Goals as goal

pub returns-then-eq-clause-some : goal.returns-then-eq-clause-some
returns-then-eq-clause-some c =
    first_here c.args.fields.now c.args.name.now c.as_slice.result.now c.loop-i.i
    c.index-fields-i.result c.loop-i-test.true c.index-fields-i.is c.as_slice.ensures.value
    (sym c.eq.ensures ∙ c.if-eq.true) c.loop-i.invariant.place

pub loop-i-preserved : goal.loop-i-preserved
loop-i-preserved c =
    let other = sym c.eq.ensures ∙ c.if-eq.false in
    record {
      place = first_behind c.args.fields.now c.args.name.now c.as_slice.result.now c.loop-i.i
          c.index-fields-i.result c.loop-i-test.true c.index-fields-i.is c.as_slice.ensures.value
          other c.loop-i.invariant.place;
      kind = kind_behind c.args.fields.now c.args.name.now c.as_slice.result.now c.loop-i.i
          c.index-fields-i.result c.loop-i-test.true c.index-fields-i.is c.as_slice.ensures.value _
          other c.loop-i.invariant.kind;
    }
