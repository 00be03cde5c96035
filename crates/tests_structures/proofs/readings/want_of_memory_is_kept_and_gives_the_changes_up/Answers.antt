use Rattle.std.proofs.Common.{sym, subst, ◌∙◌}
use Rattle.gx_schema.specs.WellFormed.{IsWellFormed}
use Rattle.tests_structures.proofs.readings.want_of_memory_is_kept_and_gives_the_changes_up.Goals as goal

pub ask-requires-clause-well_formed : goal.ask-requires-clause-well_formed
ask-requires-clause-well_formed g c =
    subst IsWellFormed
    (sym (c.no_memory-2.ensures.ends.keeps.schema ∙ c.no_memory.ensures.ends.keeps.schema
    ∙ c.played.ensures.schema))
    c.in_ok-engine.ensures.well_formed
