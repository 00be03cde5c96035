use Rattle.std.proofs.Common.{[]}
use Rattle.std.proofs.lemmas.Bool.{false≢true}
use Rattle.gx_chain.proofs.write.add_last.Goals as goal

pub returns-in-Some-clause-room : goal.returns-in-Some-clause-room
returns-in-Some-clause-room c =
    let found = c.in-Some.ensures.found in (
      λ t. absurd (false≢true t),
      λ has. absurd (has.other c.in-Some.field-0 (record { key = []; body = [] }) found.0
          (found.1 (record { key = []; body = [] }))),
    )
