-- What contracts see of an engine whose records and links a walk reads.
use Rattle.std.specs.Prelude.{◌≡◌, ℕ, ◌+◌, List, length, Bool}
use Rattle.gx_schema.specs.declared.schema.Schema.{Schema}
use Rattle.gx_schema.specs.WellFormed.{IsWellFormed}
use Rattle.gx_schema.specs.Lookups.{file_at}
use Rattle.gx_commands.specs.declared.path.PathQuery.{PathQuery}
use Rattle.gx_ports.specs.declared.view.View.{Ghosts}
use Rattle.gx_types.specs.declared.built.Built.{Built}
use Rattle.gx_types.specs.Links.{linkset_at}
use Rattle.gx_types.specs.Nodes.{tree_at}
use Rattle.gx_model.specs.States.{State}
use Rattle.gx_model.specs.Play.{Playing, seen_state}
use Rattle.gx_model.specs.Paths.{last_find}
use Rattle.gx_finds.specs.Planned.{fields_indexed}
use Rattle.gx_linksets.specs.Stored.{finds_owner}
use Rattle.gx_answers.specs.Work.{candidates}
use Rattle.gx_engine.specs.declared.engine.Engine.{Engine}
use Rattle.gx_engine.specs.Steps.{schema_of, built_of, leaves_of, IsReady, IsAt}
use Rattle.gx_engine.specs.Records.{most_in}
use Rattle.gx_walks.specs.declared.directions.Direction.{Direction}
use Rattle.gx_walks.specs.Directions.{IsDirectionOf}
use Rattle.gx_walks.specs.Readers.{Costs}

-- a walk can ask it: it is ready, and each file, link and field of its schema has a number
pub record CanWalk {S : Type 0} (g : Ghosts S) (e : Engine S) : Type 0 where
  pub ready : IsReady g e
  pub well_formed : IsWellFormed (schema_of e)

-- it stands for a moment of the play at which this state is seen
abbrev pub Shows : {S : Type 0} → Ghosts S → Engine S → State → Type 0
Shows g e s = (p : Playing) × IsAt g p e × (seen_state p ≡ s)

-- which fields of a file are indexed
abbrev pub indexed_in : {S : Type 0} → Engine S → ℕ → List Bool
indexed_in e file = fields_indexed (tree_at (built_of e).files file) (file_at (schema_of e) file)

-- whether the owner of a member of a link is found without reading all of the link
abbrev pub finds_in : {S : Type 0} → Engine S → ℕ → Bool
finds_in e link = finds_owner (linkset_at (built_of e).links link)

-- what the steps of a walk are counted by, over so many leaves
abbrev pub costs_of : Schema → Built → ℕ → State → Costs
costs_of schema built leaves s =
    record {
      look_up = most_in built s + leaves;
      candidates = λ q. length (candidates schema built s q);
      finds = λ link. finds_owner (linkset_at built.links link);
    }

abbrev pub costs_in : {S : Type 0} → Ghosts S → Engine S → State → Costs
costs_in g e s = costs_of (schema_of e) (built_of e) (length (g.working (leaves_of e))) s

-- the direction in which a path is walked there
abbrev pub IsDirectionIn : {S : Type 0} → Engine S → PathQuery → Direction → Type 0
IsDirectionIn e q direction =
    IsDirectionOf q (indexed_in e q.first.file) (indexed_in e (last_find q.first q.legs).file)
    direction
