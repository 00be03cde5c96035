use Rattle.std.proofs.Common.{rules, ◌∙◌, ◌++◌, ℕ, List, length, sym, ap, subst}
use Rattle.gx_schema.specs.declared.schema.FileDef.{FileDef}
use Rattle.std.specs.List.{AllByRecursion}
use Rattle.gx_commands.specs.Commands.{IsCondOf}
use Rattle.gx_stack.specs.Seen.{tree_of}
use Rattle.gx_scan.specs.Files.{IsTreeFor}
use Rattle.gx_scan.specs.Where.{AreNamed}
use Rattle.gx_model.specs.Play.{seen_state}
use Rattle.gx_scan.proofs.StepLemmas.{leaves_few}
use Rattle.gx_states.proofs.StoredLemmas.{internal_at}
use Rattle.gx_answers.specs.Work.{most_with}
use Rattle.gx_answers.proofs.WorkLemmas.{have_most}
use Rattle.gx_engine.proofs.StepLemmas.{find_carried, file_cause}
use Rattle.gx_engine.proofs.WorkLemmas.{find_within}
use Rattle.gx_engine.proofs.engine.Engine.find.Goals as goal

pub found_text-requires-clause-tree : goal.found_text-requires-clause-tree
found_text-requires-clause-tree g c =
    subst (λ (file : FileDef). IsTreeFor file (tree_of c.file_node-node.result.now)
    (length (g.B.View.working c.args.self.now.leaves))) (sym c.file_def-def.ensures)
    (c.file_node-node.ensures.fit c.args.self.now.schema _ c.requires.ready.nodes)

pub found_text-requires-clause-conds : goal.found_text-requires-clause-conds
found_text-requires-clause-conds g c =
    subst (λ (file : FileDef). AllByRecursion (IsCondOf file) c.args.find.now.conds)
    (sym c.file_def-def.ensures) c.requires.due.of_schema.conds

pub found_text-requires-clause-named : goal.found_text-requires-clause-named
found_text-requires-clause-named g c = subst AreNamed (sym c.file_def-def.ensures)
    (c.requires.ready.storable.named c.args.find.now.file c.requires.due.of_schema.file)

pub returns-clause-step : goal.returns-clause-step
returns-clause-step g c =
    let e = c.args.self.now in
    record {
      carried = λ p at.
          find_carried e.schema e.built e.inside e.commits _ _ _ _ p c.args.find.now
          c.file_def-def.result.now c.args.out.now _ c.in_ok-text.text
          c.requires.alone at.stands c.found_text.ensures.reads.reads.working
          c.found_text.ensures.reads.reads.kept c.file_def-def.ensures
          (c.in_ok-text.ensures.listed _ at.whole_is
          (internal_at e.schema e.built c.args.find.now.file c.file_def-def.result.now
          (tree_of c.file_node-node.result.now) (g.B.View.working e.leaves)
          (seen_state p) c.file_def-def.ensures c.file_node-node.ensures.tree
          c.requires.due.of_schema.file at.stands.working_is))
          (c.in_ok-append.ensures.ok ∙ ap
          (λ (text : List ℕ). c.args.out.now ++ text) c.as_slice.ensures);
      full = search rules;
      ends = record {
        keeps = search rules;
        stopped = search rules;
        fresh = search rules;
        unsaid = search rules;
        kept = search rules;
        cause = search rules;
        block = search rules;
      };
    }

pub returns-in_err-text-clause-step : goal.returns-in_err-text-clause-step
returns-in_err-text-clause-step g c =
    let e = c.args.self.now in
    record {
      carried = search rules;
      full = search rules;
      ends = record {
        keeps = search rules;
        stopped = search rules;
        fresh = search rules;
        unsaid = search rules;
        kept = search rules;
        cause = file_cause g.B.View e _ c.args.find.now.file c.file_def-def.result.now
            (tree_of c.file_node-node.result.now) _ c.from_residual.result
            c.requires.due.of_schema.file c.file_def-def.ensures c.file_node-node.ensures.tree
            c.in_err-text.ensures.reads.ends c.from_residual.ensures.1;
        block = search rules;
      };
    }

pub returns-clause-few_steps : goal.returns-clause-few_steps
returns-clause-few_steps g c = λ p at.
    let e = c.args.self.now in
    let q = c.args.find.now in
    let s = seen_state p in
    let t = tree_of c.file_node-node.result.now in
    let maps = g.B.View.working e.leaves in
    let fit = c.file_node-node.ensures.fit e.schema _ c.requires.ready.nodes in
    let is = internal_at e.schema e.built q.file c.file_def-def.result.now t maps s
    c.file_def-def.ensures c.file_node-node.ensures.tree c.requires.due.of_schema.file
    at.stands.working_is in
    let few = have_most e.schema e.built _ s q.file t q.of c.requires.ready.nodes
    at.stands.working_is.valid.files_many c.requires.due.of_schema.file
    c.file_node-node.ensures.tree in
    find_within e.schema e.built (length maps) s q c.file_def-def.result.now t _ _ _
    c.file_def-def.ensures c.file_node-node.ensures.tree c.requires.alone
    (leaves_few t (length maps) fit.valid fit.below)
    (c.in_ok-text.ensures.steps _ (most_with e.built s q.of) at.whole_is is few)
