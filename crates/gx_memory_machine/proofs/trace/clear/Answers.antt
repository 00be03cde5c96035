use Rattle.std.proofs.Common.{◌≡◌, ◌∙◌, ◌++◌, ap, arith, ℕ, false, Bool, List, length, drop, set, replicate}
use Rattle.std.proofs.lemmas.List.{append-nil, drop_all}
use Rattle.gx_memory_machine.proofs.LogLemmas.{set_fill}
use Rattle.gx_memory_machine.proofs.trace.clear.Goals as goal

pub loop-i-preserved : goal.loop-i-preserved
loop-i-preserved c =
    ap (λ (l : List Bool). set l c.loop-i.i false) c.loop-i.invariant
    ∙ set_fill c.loop-i.i c.args.flags.now.items (omega arith)

pub returns : goal.returns
returns c =
    let all : c.loop-i.i ≡ length c.args.flags.now.items = omega arith in
    c.loop-i.invariant
    ∙ ap (λ (k : ℕ). replicate k false ++ drop k c.args.flags.now.items) all
    ∙ ap (λ (l : List Bool). replicate (length c.args.flags.now.items) false ++ l)
    (drop_all (length c.args.flags.now.items) c.args.flags.now.items (omega arith))
    ∙ append-nil (replicate (length c.args.flags.now.items) false)
