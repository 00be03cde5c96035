use Rattle.std.proofs.Common.{◌≡◌, length, map, take, Ok}
use Rattle.gx_model.specs.Play.{Playing, seen_state}
use Rattle.gx_engine.specs.Steps.{schema_of, IsAt}
use Rattle.gx_engine.specs.Parts.{EndsReading}
use Rattle.gx_move.specs.Stocks.{pairs_in}
use Rattle.gx_move.proofs.taking.take_links.Given as goal

abbrev pub invariant-loop-link : goal.invariant-loop-link
invariant-loop-link g l = let b = g.B.View in record {
  count : l.count ≡ length (schema_of l.fn.engine).links;
  taken : (p : Playing) → IsAt b p l.fn.engine
      → l.links.items ≡ map pairs_in (take l.link (seen_state p).links);
  ends : EndsReading b l.fn.engine l.engine (Ok tt);
}
