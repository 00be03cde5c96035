use Rattle.std.proofs.Common.{◌≡◌, None, false, IsTrue}
use Rattle.gx_device.specs.Content.{Content}
use Rattle.gx_commands.specs.Lines.{script_lines}
use Rattle.gx_reader.specs.Reader.{meant, number_of, left_of, IsOpen}
use Rattle.gx_model.specs.Play.{Playing}
use Rattle.gx_engine.specs.Steps.{IsAt, schema_of, built_of, is_open, stop_of, leaves_of}
use Rattle.gx_play.specs.declared.play.Answers.TheVariants as answers
use Rattle.gx_play.specs.Answering.{beside, with_answers}
use Rattle.gx_play.specs.Images.{LeavesPlay}
use Rattle.gx_play.specs.Readings.{IsReadTo}
use Rattle.gx_play.specs.Pieces.{IsGoing, GoesOn, KeepsHeard}
use Rattle.gx_play.proofs.play.play_heard.Given as goal

abbrev pub invariant-loop-count : goal.invariant-loop-count
invariant-loop-count g l =
    let content = g.B.View.content in
    record {
      keeps : KeepsHeard g.B.View l.fn.engine l.engine;
      going : stop_of l.engine ≡ None;
      stays_open : IsOpen l.reader;
      played : IsTrue g.B.View.tells → (p : Playing) → IsAt g.B.View p l.fn.engine
          → IsGoing (beside g.B.View answers.Said) p
          (script_lines (content (leaves_of l.fn.engine)).script)
          (meant l.reader (content (leaves_of l.engine)).script) (number_of l.reader)
          (with_answers l.fn.engine l.fn.out) (with_answers l.engine l.out);
      leaves : IsTrue g.B.View.tells → (p : Playing) → IsAt g.B.View p l.fn.engine
          → (begin : Content) → g.B.View.calm (leaves_of l.fn.engine) begin
          → LeavesPlay g.B.View (schema_of l.fn.engine) (built_of l.fn.engine) answers.Said p
          (script_lines (content (leaves_of l.fn.engine)).script).lines false
          (leaves_of l.fn.engine) (leaves_of l.engine);
      reads : IsTrue g.B.View.tells
          → IsReadTo (schema_of l.fn.engine) (is_open l.fn.engine)
          (script_lines (content (leaves_of l.fn.engine)).script)
          (meant l.reader (content (leaves_of l.engine)).script) (number_of l.reader)
          (is_open l.engine);
      stands : GoesOn g.B.View l.fn.engine l.engine;
      counted : g.B.View.faults (leaves_of l.engine) ≡ g.B.View.faults (leaves_of l.fn.engine);
    }

abbrev pub decreases-loop-count : goal.decreases-loop-count
decreases-loop-count g l = left_of l.reader
