use Rattle.std.proofs.Common.{◌≡◌, ◌+◌, ◌++◌, List, ℕ, length, IsTrue}
use Rattle.gx_device.specs.Content.{Content}
use Rattle.gx_commands.specs.Lines.{Lines}
use Rattle.gx_reader.specs.Reader.{meant, number_of, left_of, IsOpen}
use Rattle.gx_play.specs.Say.{OnlySays, SameDevices}
use Rattle.gx_explain.specs.Explaining.{fields_in, IsSoFar}
use Rattle.gx_explain.proofs.explanation.explain_piece.Given as goal

abbrev pub invariant-loop-count : goal.invariant-loop-count
invariant-loop-count g l =
    let content = g.D.Device.content in
    record {
      stays_open : IsOpen l.reader;
      taken : left_of l.reader + length l.fn.piece ≡ left_of l.fn.reader + length l.rest;
      so_far : IsTrue g.D.Device.tells → (all : Lines) (rest : List ℕ) (start : Content)
          → IsSoFar l.schema (fields_in l.schema l.built.files) all
          (meant l.fn.reader (l.fn.piece ++ rest)) (number_of l.fn.reader) l.fn.inside start
          (content l.fn.device)
          → IsSoFar l.schema (fields_in l.schema l.built.files) all
          (meant l.reader (l.rest ++ rest)) (number_of l.reader) l.open start (content l.device);
      rest_is : OnlySays (content l.fn.device) (content l.device);
      devices : SameDevices (content l.fn.device) (content l.device);
      counted : g.D.Device.faults l.device ≡ g.D.Device.faults l.fn.device;
    }

abbrev pub decreases-loop-count : goal.decreases-loop-count
decreases-loop-count g l = length l.rest
