-- A play of turns that may be full by the entries of leaves may be full by those of the states.
use Rattle.std.proofs.Common.{ℕ, ◌+◌, List, Option, arith}
use Rattle.gx_ports.specs.LeafMaps.{Limits, entry_count}
use Rattle.gx_schema.specs.declared.schema.Schema.{Schema}
use Rattle.gx_commands.specs.declared.command.Command.{Command}
use Rattle.gx_equation.specs.Trees.{DefinitionTree}
use Rattle.gx_types.specs.declared.built.Built.{Built}
use Rattle.gx_model.specs.States.{State}
use Rattle.gx_model.specs.Commands.{next_state}
use Rattle.gx_states.specs.Built.{IsBuiltOf}
use Rattle.gx_states.specs.Internal.{state_entries}
use Rattle.gx_states.specs.Terms.{state_size}
use Rattle.gx_states.proofs.CountLemmas.{crowded_more}
use Rattle.gx_states.proofs.SizeLemmas.{same_size, few_entries}
use Rattle.gx_sharing.specs.Sharing.{Sharing, played}
use Rattle.gx_sessions.specs.Shared.{IsShortAmong}
use Rattle.gx_shares.specs.Player.{IsShortIn, share_play, share_over_play}

-- over nodes that the definitions mean
module _ (schema : Schema) (ds : List DefinitionTree) (built : Built) (limit : Option Limits)
    (trees : IsBuiltOf schema ds built) where
  short_by_state : (p : Sharing) (cs : List Command) → IsShortAmong schema built limit p cs
      → IsShortIn schema ds limit p cs
  short_by_state p cs short =
      let seen = played schema p.kept short.before in
      let behind = next_state schema seen short.command in
      let few = few_entries schema ds built short.maps seen trees short.many short.stands in
      let same = same_size schema ds built behind trees in
      record {
        before = short.before;
        command = short.command;
        later = short.later;
        parts = short.parts;
        wants = short.wants;
        short = crowded_more limit (entry_count short.maps + state_entries built behind)
            (state_size schema ds seen + state_size schema ds behind)
            (omega (arith, few, same)) short.short;
      }

  pub share_full_by_state : (start : State) (script answers : List ℕ) (final : Sharing)
      → (share_over_play schema built limit start script).Full answers final
      → (share_play schema ds limit start script).Full answers final
  share_full_by_state start script answers final full =
      let n = full.next in
      let line = n.3 in
      record {
        ts = full.ts;
        first = full.first;
        answers_are = full.answers_are;
        next = (
          n.0,
          n.1,
          n.2,
          record {
            session = line.session;
            rest = line.rest;
            is_turn = line.is_turn;
            command = line.command;
            means = line.means;
            placed = line.placed;
            is_answered = line.is_answered;
            short = short_by_state final _ line.short;
          },
        );
      }
