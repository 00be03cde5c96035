use Rattle.std.proofs.Common.{rules, ◌≡◌, ℕ, Some, None, Option}
use Rattle.gx_lists.proofs.PieceLemmas.{front_none, front_some}
use Rattle.gx_lists.proofs.pieces.front_width.Goals as goal

pub returns-in_err-end-in-Text : goal.returns-in_err-end-in-Text
returns-in_err-end-in-Text c =
    let none : ◌≡◌ {A = Option ℕ} c.zero_at.result None = search rules in
    let gives : ◌≡◌ {A = Option ℕ} c.from_residual.result None = search rules in
    front_none c.args.kind _ c.args.bytes.now c.zero_at.result c.from_residual.result c.in-Text.is
    c.zero_at.ensures none gives

pub returns-in_ok-end-in-Text : goal.returns-in_ok-end-in-Text
returns-in_ok-end-in-Text c =
    let some : ◌≡◌ {A = Option ℕ} c.zero_at.result (Some c.in_ok-end-in-Text.end) = search rules in
    front_some c.args.kind _ c.in_ok-end-in-Text.end c.args.bytes.now c.zero_at.result c.in-Text.is
    c.zero_at.ensures some
