use Rattle.gx_typing.proofs.PlaceLaws.{first_fault}
use Rattle.gx_typing.proofs.TypedLaws.{ok_typed, ok_leaves, ok_few, only_memory}
use Rattle.gx_typing.proofs.whole.typed.Goals as goal

pub returns-clause-typed : goal.returns-clause-typed
returns-clause-typed c =
    ok_typed c.args.schema.now _ _ c.typed_exactly.result c.typed_exactly.ensures

pub returns-clause-leaves : goal.returns-clause-leaves
returns-clause-leaves c =
    ok_leaves c.args.schema.now _ _ c.typed_exactly.result c.typed_exactly.ensures

pub returns-clause-few : goal.returns-clause-few
returns-clause-few c = ok_few c.args.schema.now _ _ c.typed_exactly.result c.typed_exactly.ensures

pub returns-clause-only : goal.returns-clause-only
returns-clause-only c =
    only_memory c.args.schema.now _ _ c.typed_exactly.result c.typed_exactly.ensures

pub returns-clause-first : goal.returns-clause-first
returns-clause-first c =
    first_fault c.args.schema.now _ _ c.typed_exactly.result c.typed_exactly.ensures
