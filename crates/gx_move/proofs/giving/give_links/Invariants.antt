use Rattle.std.proofs.Common.{take, Ok}
use Rattle.gx_move.specs.Giving.{connects_of, each_from, CarriesOn}
use Rattle.gx_move.proofs.giving.give_links.Given as goal

abbrev pub invariant-loop-link : goal.invariant-loop-link
invariant-loop-link g l = record {
  carried : CarriesOn g.B.View (each_from connects_of 0 (take l.link l.links)) l.fn.engine
      l.engine (Ok tt);
}
