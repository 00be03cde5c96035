use Rattle.std.proofs.Common.{rules, None, length, sym, subst}
use Rattle.gx_schema.specs.declared.schema.FileDef.{FileDef}
use Rattle.gx_stack.specs.Seen.{tree_of}
use Rattle.gx_scan.specs.Files.{IsTreeFor}
use Rattle.gx_model.specs.Play.{seen_state}
use Rattle.gx_scan.proofs.StepLemmas.{leaves_few}
use Rattle.gx_states.proofs.StoredLemmas.{internal_at}
use Rattle.gx_answers.specs.Work.{most_entries}
use Rattle.gx_answers.proofs.WorkLemmas.{have_most}
use Rattle.gx_engine.proofs.StepLemmas.{file_cause}
use Rattle.gx_engine.proofs.WorkLemmas.{record_within}
use Rattle.gx_engine.proofs.engine.Engine.get.Goals as goal

pub find_values-requires-clause-tree : goal.find_values-requires-clause-tree
find_values-requires-clause-tree g c =
    subst (λ (file : FileDef). IsTreeFor file (tree_of c.file_node-node.result.now)
    (length (g.B.View.working c.args.self.now.leaves))) (sym c.file_def-def.ensures)
    (c.file_node-node.ensures.fit c.args.self.now.schema _ c.requires.ready.nodes)

pub returns-in_err-found-clause-step : goal.returns-in_err-found-clause-step
returns-in_err-found-clause-step g c =
    let e = c.args.self.now in
    record {
      carried = search rules;
      full = search rules;
      ends = record {
        keeps = search rules;
        stopped = search rules;
        fresh = search rules;
        unsaid = search rules;
        kept = search rules;
        cause = file_cause g.B.View e _ c.args.file c.file_def-def.result.now
            (tree_of c.file_node-node.result.now) _ c.from_residual.result
            c.requires.due.of_schema.0 c.file_def-def.ensures c.file_node-node.ensures.tree
            c.in_err-found.ensures.reads.ends c.from_residual.ensures.1;
        block = search rules;
      };
    }

pub returns-clause-few_steps : goal.returns-clause-few_steps
returns-clause-few_steps g c = λ p at.
    let e = c.args.self.now in
    let i = c.args.file in
    let s = seen_state p in
    let t = tree_of c.file_node-node.result.now in
    let maps = g.B.View.working e.leaves in
    let fit = c.file_node-node.ensures.fit e.schema _ c.requires.ready.nodes in
    let is = internal_at e.schema e.built i c.file_def-def.result.now t maps s
    c.file_def-def.ensures c.file_node-node.ensures.tree c.requires.due.of_schema.0
    at.stands.working_is in
    let few = have_most e.schema e.built _ s i t None c.requires.ready.nodes
    at.stands.working_is.valid.files_many c.requires.due.of_schema.0
    c.file_node-node.ensures.tree in
    record_within _ (most_entries e.built.files s.files) _ (length maps) _ _
    (leaves_few t (length maps) fit.valid fit.below)
    (c.in_ok-found.ensures.steps _ (most_entries e.built.files s.files) at.whole_is is few)

pub returns-in_default-clause-few_steps : goal.returns-in_default-clause-few_steps
returns-in_default-clause-few_steps g c = λ p at.
    let e = c.args.self.now in
    let i = c.args.file in
    let s = seen_state p in
    let t = tree_of c.file_node-node.result.now in
    let maps = g.B.View.working e.leaves in
    let fit = c.file_node-node.ensures.fit e.schema _ c.requires.ready.nodes in
    let is = internal_at e.schema e.built i c.file_def-def.result.now t maps s
    c.file_def-def.ensures c.file_node-node.ensures.tree c.requires.due.of_schema.0
    at.stands.working_is in
    let few = have_most e.schema e.built _ s i t None c.requires.ready.nodes
    at.stands.working_is.valid.files_many c.requires.due.of_schema.0
    c.file_node-node.ensures.tree in
    record_within _ (most_entries e.built.files s.files) _ (length maps) _ _
    (leaves_few t (length maps) fit.valid fit.below)
    (c.in_ok-found.ensures.steps _ (most_entries e.built.files s.files) at.whole_is is few)
