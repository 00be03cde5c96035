use Rattle.std.proofs.Common.{◌≡◌, IsTrue}
use Rattle.gx_commands.specs.Lines.{script_lines}
use Rattle.gx_reader.specs.Reader.{meant, number_of, left_of, IsOpen}
use Rattle.gx_play.specs.Say.{SameDevices}
use Rattle.gx_explain.specs.Explaining.{fields_in, IsSoFar}
use Rattle.gx_explain.proofs.script.explain_heard.Given as goal

abbrev pub invariant-loop-count : goal.invariant-loop-count
invariant-loop-count g l =
    let content = g.M.Device.content in
    record {
      stays_open : IsOpen l.reader;
      so_far : IsTrue g.M.Device.tells
          → IsSoFar l.schema (fields_in l.schema l.built.files)
          (script_lines (content l.fn.machine).script)
          (meant l.reader (content l.machine).script) (number_of l.reader) l.inside
          (content l.fn.machine) (content l.machine);
      devices : SameDevices (content l.fn.machine) (content l.machine);
      aside : (content l.machine).aside ≡ (content l.fn.machine).aside;
      counted : g.M.Device.faults l.machine ≡ g.M.Device.faults l.fn.machine;
    }

abbrev pub decreases-loop-count : goal.decreases-loop-count
decreases-loop-count g l = left_of l.reader
