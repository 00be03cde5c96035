use Rattle.std.proofs.Common.{◌∙◌, ◌++◌, List, ℕ, sym, ap, append-nil}
use Rattle.gx_encode.specs.Runs.{rle, runs_of}
use Rattle.gx_encode.specs.RunLaws.{are_runs}
use Rattle.gx_encode.proofs.RunSteps.{none_left}
use Rattle.gx_encode.proofs.runs.rle_into.Goals as goal

pub returns-clause-runs : goal.returns-clause-runs
returns-clause-runs c =
    let none = none_left c.loop-rest.rest.now (sym c.loop-rest-test.false ∙ c.is_empty.ensures) in
    record {
      runs = runs_of c.args.text.now;
      are = are_runs c.args.text.now;
      pairs = sym (append-nil c.loop-rest.code.items)
          ∙ ap (λ (l : List ℕ). c.loop-rest.code.items ++ rle l) (sym none)
          ∙ c.loop-rest.invariant.so_far;
    }
