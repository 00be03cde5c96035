use Rattle.std.proofs.Common.{◌≡◌, Bool, true, rules, subst}
use Rattle.std.specs.Prelude.{IsSomeAnd}
use Rattle.gx_frames.specs.Pool.{find_page}
use Rattle.gx_journal.proofs.CallLemmas.{front_residents}
use Rattle.gx_journal.proofs.room.settle.Goals as goal

pub spill-requires-clause-changed : goal.spill-requires-clause-changed
spill-requires-clause-changed g c =
    let on : c.args.changed ≡ true = search rules in
    let found = find_page c.args.p c.args.working.now.frames.resident in
    subst (λ (b : Bool). IsSomeAnd found (λ r. r.changed ≡ b)) on c.requires.resident

pub returns-clause-frames : goal.returns-clause-frames
returns-clause-frames g c =
    front_residents c.args.p c.args.working.now.frames _ c.spill.ensures.frames
