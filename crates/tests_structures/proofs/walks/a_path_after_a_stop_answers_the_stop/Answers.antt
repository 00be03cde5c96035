use Rattle.std.proofs.Common.{sym, subst}
use Rattle.gx_schema.specs.WellFormed.{IsWellFormed}
use Rattle.tests_structures.proofs.walks.a_path_after_a_stop_answers_the_stop.Goals as goal

pub answered-requires-clause-well_formed : goal.answered-requires-clause-well_formed
answered-requires-clause-well_formed g c =
    subst IsWellFormed (sym c.no_memory.ensures.ends.keeps.schema)
    c.in_ok-engine.ensures.well_formed
