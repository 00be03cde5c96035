use Rattle.std.proofs.Common.{ap, ◌∙◌}
use Rattle.gx_frames.specs.Pool.{Pool, find_page}
use Rattle.gx_journal.proofs.SourceLemmas.{find_without_same, find_without_other}
use Rattle.gx_journal.proofs.forget.leave.Goals as goal

pub returns-then-is_resident-clause-gone : goal.returns-then-is_resident-clause-gone
returns-then-is_resident-clause-gone c =
    ap (λ (x : Pool). find_page c.args.p x.resident) c.evict.ensures
    ∙ find_without_same c.args.p c.args.frames.now.resident

pub returns-then-is_resident-clause-others : goal.returns-then-is_resident-clause-others
returns-then-is_resident-clause-others c q ne =
    ap (λ (x : Pool). find_page q x.resident) c.evict.ensures
    ∙ find_without_other c.args.p q c.args.frames.now.resident ne
