use Rattle.std.proofs.Common.{◌≡◌, ◌≤◌, ◌+◌, ◌*◌, ◌++◌, length, Ok}
use Rattle.std.specs.Prelude.{filter}
use Rattle.std.specs.Vec.Iter.{into_iter_items, into_iter_len}
use Rattle.gx_model.specs.States.{State}
use Rattle.gx_walks.specs.Walks.{back_legs, comes_back, all_met}
use Rattle.gx_walks.specs.Readers.{Costs, AreFound}
use Rattle.gx_walks.proofs.back.keep_led.Given as goal

abbrev pub invariant-loop-row : goal.invariant-loop-row
invariant-loop-row g l =
    let r = g.R.LinkReader in
    let rest = into_iter_items l.row-iterator in
    let back = back_legs l.first l.legs in record {
      many : into_iter_len l.row-iterator ≡ length rest;
      set : (s : State) → r.holds l.fn.reader s
          → l.kept.items ++ filter (comes_back s l.first l.legs) rest
          ≡ filter (comes_back s l.first l.legs) l.fn.rows.items;
      steps : (s : State) (c : Costs) → r.holds l.fn.reader s → r.costs l.fn.reader s c
          → AreFound c.finds back → r.work l.reader + 2 * all_met s back rest * c.look_up
          ≤ r.work l.fn.reader + 2 * all_met s back l.fn.rows.items * c.look_up;
      calls : r.calls l.fn.reader l.reader (Ok tt);
    }
