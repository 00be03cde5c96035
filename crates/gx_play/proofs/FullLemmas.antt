-- A play that may be full by the entries of leaves may be full by those of the states.
use Rattle.std.proofs.Common.{ℕ, ◌+◌, List, Option, arith}
use Rattle.gx_ports.specs.LeafMaps.{Limits, entry_count}
use Rattle.gx_schema.specs.declared.schema.Schema.{Schema}
use Rattle.gx_equation.specs.Trees.{DefinitionTree}
use Rattle.gx_types.specs.declared.built.Built.{Built}
use Rattle.gx_model.specs.Play.{Playing, seen_state, after_command}
use Rattle.gx_model.specs.States.{State}
use Rattle.gx_states.specs.Built.{IsBuiltOf}
use Rattle.gx_states.specs.Internal.{state_entries}
use Rattle.gx_states.specs.Terms.{state_size}
use Rattle.gx_states.proofs.CountLemmas.{crowded_more}
use Rattle.gx_states.proofs.SizeLemmas.{same_size, few_entries}
use Rattle.gx_play.specs.Played.{MayBeFullAt, MayBeFull}

-- over nodes that the definitions mean
pub full_by_state : (schema : Schema) (ds : List DefinitionTree) (built : Built)
    (limit : Option Limits) (start : State) (script answers : List ℕ) (final : Playing)
    → IsBuiltOf schema ds built → MayBeFullAt schema built limit start script answers final
    → MayBeFull schema ds limit start script answers final
full_by_state schema ds built limit start script answers final trees full =
    let at = full.short in
    let behind = seen_state (after_command schema final at.short.command) in
    let few = few_entries schema ds built at.maps (seen_state final) trees at.many at.before in
    let same = same_size schema ds built behind trees in
    record {
      ran = full.ran;
      later = full.later;
      parts = full.parts;
      runs = full.runs;
      short = record {
        line = at.short.line;
        later = at.short.later;
        lines_are = at.short.lines_are;
        command = at.short.command;
        means = at.short.means;
        placed = at.short.placed;
        wants = at.short.wants;
        short = crowded_more limit (entry_count at.maps + state_entries built behind)
            (state_size schema ds (seen_state final) + state_size schema ds behind)
            (omega (arith, few, same)) at.short.short;
      };
    }
