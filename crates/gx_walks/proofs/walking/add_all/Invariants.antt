use Rattle.std.proofs.Common.{◌≡◌, ◌≤◌, ◌+◌, ◌*◌, ◌++◌, length, take, Ok}
use Rattle.gx_commands.specs.Paths.{file_behind}
use Rattle.gx_model.specs.States.{State}
use Rattle.gx_walks.specs.Walks.{all_linked}
use Rattle.gx_walks.specs.Readers.{Costs, IsFound}
use Rattle.gx_walks.proofs.walking.add_all.Given as goal

abbrev pub invariant-loop-row : goal.invariant-loop-row
invariant-loop-row g l =
    let r = g.R.LinkReader in
    let file = file_behind (r.schema l.fn.reader) l.way in
    let front = take l.row-index l.rows in record {
      found : (s : State) → r.holds l.fn.reader s
          → l.out.items ≡ l.fn.out.items ++ all_linked s file l.way front;
      steps : (s : State) (c : Costs) → r.holds l.fn.reader s → r.costs l.fn.reader s c
          → IsFound c.finds l.way → r.work l.reader ≤ r.work l.fn.reader
          + 2 * (length front + length (all_linked s file l.way front)) * c.look_up;
      calls : r.calls l.fn.reader l.reader (Ok tt);
    }
