use Rattle.std.proofs.Common.{ap, sym, ◌∙◌}
use Rattle.gx_frames.specs.Pool.{Pool, find_page}
use Rattle.gx_journal.proofs.ForgetLemmas.{find_unchanged}
use Rattle.gx_journal.proofs.forget.forget_changed.Goals as goal

pub returns-clause-kept : goal.returns-clause-kept
returns-clause-kept c q r is =
    (find_unchanged q c.args.frames.now.resident r c.victim-victim.ensures.pool.once
    (sym (ap (λ (x : Pool). find_page q x.resident) c.forget_changes.ensures) ∙ is)).0

pub returns-clause-unchanged : goal.returns-clause-unchanged
returns-clause-unchanged c q r is =
    (find_unchanged q c.args.frames.now.resident r c.victim-victim.ensures.pool.once
    (sym (ap (λ (x : Pool). find_page q x.resident) c.forget_changes.ensures) ∙ is)).1
