-- Where the pages are enough, no play is full.
use Rattle.std.proofs.Common.{ℕ, ◌+◌, ◌*◌, ◌<◌, ◌≤◌, List, Some, arith}
use Rattle.gx_ports.specs.LeafMaps.{Limits}
use Rattle.gx_schema.specs.declared.schema.Schema.{Schema}
use Rattle.gx_equation.specs.Trees.{DefinitionTree}
use Rattle.gx_model.specs.Play.{Playing, seen_state, after_command}
use Rattle.gx_model.specs.States.{State}
use Rattle.gx_play.specs.Played.{AreFirst, MayBeFull}
use Rattle.gx_states.specs.Terms.{state_size}
use Rattle.gx_top.specs.Needs.{need, AreEnough}

-- no moment of it
pub never_full : (schema : Schema) (ds : List DefinitionTree) (l : Limits) (start : State)
    (script answers : List ℕ) (final : Playing) → AreEnough schema ds l start script
    → ¬ MayBeFull schema ds (Some l) start script answers final
never_full schema ds l start script answers final enough full =
    let at = full.short in
    let first : AreFirst schema start script
    answers = record {
      ran = full.ran;
      later = full.later;
      parts = full.parts;
      final = final;
      runs = full.runs;
    } in
    let behind = seen_state (after_command schema final at.command) in
    let fits : need l schema ds (seen_state final) behind ≤ l.pages =
    enough answers first at.line at.later at.command at.lines_are at.means at.placed at.wants in
    let short : l.pages < l.fixed + 2 *
    (state_size schema ds (seen_state final) + state_size schema ds behind) + 2 =
    at.short in
    omega (arith, fits, short)
