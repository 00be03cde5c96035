use Rattle.std.proofs.Common.{subst, sym, length}
use Rattle.std.specs.List.{AllByRecursion}
use Rattle.gx_schema.specs.declared.schema.FileDef.{FileDef}
use Rattle.gx_commands.specs.Commands.{IsCondOf}
use Rattle.gx_stack.specs.Seen.{tree_of}
use Rattle.gx_model.specs.States.{file_in}
use Rattle.gx_scan.specs.Files.{IsTreeFor}
use Rattle.gx_scan.specs.Where.{AreNamed}
use Rattle.gx_scan.proofs.StepLemmas.{leaves_few}
use Rattle.gx_states.proofs.StoredLemmas.{internal_at, has_file}
use Rattle.gx_answers.specs.Work.{most_with}
use Rattle.gx_answers.proofs.WorkLemmas.{have_most}
use Rattle.gx_engine.proofs.WorkLemmas.{find_within}
use Rattle.gx_engine.proofs.RecordLemmas.{most_within, looks_within, appends_stopped, appends_ok}
use Rattle.gx_engine.specs.Records.{most_in}
use Rattle.gx_engine.proofs.records.append_found.Goals as goal

pub found_rows-requires-clause-tree : goal.found_rows-requires-clause-tree
found_rows-requires-clause-tree g c =
    subst (λ (file : FileDef). IsTreeFor file (tree_of c.file_node-node.result.now)
    (length (g.B.View.working c.args.leaves.now))) (sym c.file_def-def.ensures)
    (c.file_node-node.ensures.fit c.args.schema.now _ c.requires.ready.nodes)

pub found_rows-requires-clause-conds : goal.found_rows-requires-clause-conds
found_rows-requires-clause-conds g c =
    subst (λ (file : FileDef). AllByRecursion (IsCondOf file) c.args.find.now.conds)
    (sym c.file_def-def.ensures) c.requires.of_schema.conds

pub found_rows-requires-clause-named : goal.found_rows-requires-clause-named
found_rows-requires-clause-named g c = subst AreNamed (sym c.file_def-def.ensures)
    (c.requires.ready.storable.named c.args.find.now.file c.requires.of_schema.file)

pub returns-in_err-rows : goal.returns-in_err-rows
returns-in_err-rows g c =
    appends_stopped g.B.View c.args.schema.now c.args.built.now c.args.leaves.now _ _ _ _ _ _
    c.from_residual.result c.from_residual.ensures.1 (λ i. c.args.out.now)
    (λ sound. (
      sound.0,
      has_file c.args.schema.now c.args.built.now c.args.find.now.file
          c.file_def-def.result.now (tree_of c.file_node-node.result.now)
          (g.B.View.working c.args.leaves.now) c.file_def-def.ensures c.file_node-node.ensures.tree
          c.requires.of_schema.file sound.1,
    ))
    c.in_err-rows.ensures.reads

pub returns : goal.returns
returns g c =
    let schema = c.args.schema.now in
    let built = c.args.built.now in
    let q = c.args.find.now in
    let t = tree_of c.file_node-node.result.now in
    let maps = g.B.View.working c.args.leaves.now in
    let fit = c.file_node-node.ensures.fit schema _ c.requires.ready.nodes in
    appends_ok g.B.View schema built c.args.leaves.now _ c.args.out.now _ _ _ _
    c.in_ok-rows.ensures.reads
    (λ s whole are. (
      c.in_ok-rows.rows.items,
      c.in_ok-rows.ensures.listed (file_in s q.file) whole (internal_at schema built q.file
          c.file_def-def.result.now t maps s c.file_def-def.ensures c.file_node-node.ensures.tree
          c.requires.of_schema.file are),
      c.in_ok-append_rows.ensures.ok,
    ))
    (λ yes s whole are.
    looks_within _ (most_with built s q.of) (most_in built s) (length maps) _ _
    (most_within built s q.of)
    (find_within schema built (length maps) s q c.file_def-def.result.now t _ _ _
    c.file_def-def.ensures c.file_node-node.ensures.tree c.requires.alone
    (leaves_few t (length maps) fit.valid fit.below)
    (c.in_ok-rows.ensures.steps _ (most_with built s q.of) whole (internal_at schema built q.file
    c.file_def-def.result.now t maps s c.file_def-def.ensures c.file_node-node.ensures.tree
    c.requires.of_schema.file are)
    (have_most schema built _ s q.file t q.of c.requires.ready.nodes are.valid.files_many
    c.requires.of_schema.file c.file_node-node.ensures.tree))))
