use Rattle.std.proofs.Common.{◌<◌, ◌∙◌, Some, None, ap, length, arith}
use Rattle.std.proofs.lemmas.Option.{slice_get-get_or}
use Rattle.gx_audit.proofs.texts.entry_count.Goals as goal

pub returns-in-Some-clause-count : goal.returns-in-Some-clause-count
returns-in-Some-clause-count g c = λ w are.
    let entries = c.args.entries.now in
    let there : c.args.leaf < length entries = omega (arith, c.requires.leaf, c.requires.places) in
    are c.args.leaf c.in-Some.count (slice_get-get_or entries c.args.leaf None there
    ∙ ap Some c.in-Some.is)
