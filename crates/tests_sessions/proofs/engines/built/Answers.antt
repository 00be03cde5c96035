use Rattle.gx_states.proofs.StartLemmas.{are_storable}
use Rattle.tests_sessions.proofs.engines.built.Goals as goal

pub returns-clause-stored : goal.returns-clause-stored
returns-clause-stored c = record {
  storable = are_storable c.in_ok-schema.schema c.in_ok-schema.ensures.valid;
  nodes = c.in_ok-built.ensures.nodes;
  link_nodes = c.in_ok-built.ensures.link_nodes;
  owned = c.in_ok-built.ensures.owned;
  few = c.in_ok-built.ensures.few;
}
