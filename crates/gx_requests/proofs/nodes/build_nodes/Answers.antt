use Rattle.std.proofs.Common.{refl}
use Rattle.gx_equation.specs.Seen.{definitions_of}
use Rattle.gx_states.proofs.StartLemmas.{are_storable}
use Rattle.gx_requests.proofs.LeafLemmas.{all_owned}
use Rattle.gx_requests.proofs.nodes.build_nodes.Goals as goal

pub returns-clause-built : goal.returns-clause-built
returns-clause-built c = (
  refl,
  record {
    files = c.in_ok-built.ensures.trees;
    links = c.in_ok-built.ensures.link_trees;
    owned =
        all_owned c.args.checked.schema (definitions_of c.args.checked.equation.definitions)
        c.args.checked.typing c.in_ok-built.built.specs c.in_ok-built.built.owners
        c.requires.typed c.requires.leaves_are c.in_ok-built.ensures.leaves
        c.in_ok-built.ensures.owned.each;
  },
)

pub returns-clause-can_play : goal.returns-clause-can_play
returns-clause-can_play c = (
  record {
    storable = are_storable c.args.checked.schema c.requires.rules;
    nodes = c.in_ok-built.ensures.nodes;
    link_nodes = c.in_ok-built.ensures.link_nodes;
    owned = c.in_ok-built.ensures.owned;
    few = c.in_ok-built.ensures.few;
  },
  c.requires.well_formed,
)
