use Rattle.std.proofs.Common.{rules, length, sym, subst, refl}
use Rattle.gx_schema.specs.declared.schema.FileDef.{FileDef}
use Rattle.gx_stack.specs.Seen.{tree_of}
use Rattle.gx_scan.specs.Files.{IsTreeFor}
use Rattle.gx_scan.proofs.CallLemmas.{ok_one, ends_so}
use Rattle.gx_states.proofs.StoredLemmas.{internal_at, has_file}
use Rattle.gx_edits.proofs.EditLemmas.{insert_edited, insert_accepted, short_insert}
use Rattle.gx_edits.proofs.edits.insert.Goals as goal

pub insert_into_file-requires-clause-can : goal.insert_into_file-requires-clause-can
insert_into_file-requires-clause-can g c =
    let t = tree_of c.file_node-node.result.now in
    let leaves = length (g.B.View.working c.args.leaves.now) in
    record {
      tree = subst (λ (file : FileDef). IsTreeFor file t leaves) (sym c.file_def-def.ensures)
          (c.file_node-node.ensures.fit c.args.schema.now _ c.requires.ready.nodes);
      storable = search rules;
      key_fits = search rules;
    }

pub returns : goal.returns
returns g c =
    let schema = c.args.schema.now in
    let built = c.args.built.now in
    let i = c.args.file in
    let def = c.file_def-def.result.now in
    let t = tree_of c.file_node-node.result.now in
    let old = g.B.View.working c.args.leaves.now in
    let new = g.B.View.working c.insert_into_file.new.leaves in
    let lt = c.requires.of_schema.0 in
    let def_is = c.file_def-def.ensures in
    let tree_is = c.file_node-node.ensures.tree in
    record {
      edit = λ s known whole are.
          ok_one c.insert_into_file.result _ _
          (c.insert_into_file.ensures.inserted _ whole
          (internal_at schema built i def t old s def_is tree_is lt are))
          (λ why is. insert_edited schema built _ old new s i def t why c.requires.ready are lt
          def_is tree_is c.key_and_values-key.result.0 c.args.values c.key_and_values-key.result.1
          c.key_and_values-key.ensures.parts is);
      full = λ s known whole are stops.
          let short = c.insert_into_file.ensures.full _ whole
          (internal_at schema built i def t old s def_is tree_is lt are) stops in
          short_insert (g.B.View.limit c.args.leaves.now) schema built _ _ old s i t
          c.requires.ready are lt tree_is c.key_and_values-key.result.0 c.args.values
          c.key_and_values-key.result.1 c.key_and_values-key.ensures.parts short.0 short.1;
      bringing = λ stops. refl;
      accepted = λ s known whole are stops.
          let short = c.insert_into_file.ensures.full _ whole
          (internal_at schema built i def t old s def_is tree_is lt are) stops in
          insert_accepted schema s i c.key_and_values-key.result.0 c.args.values
          c.key_and_values-key.result.1 c.key_and_values-key.ensures.parts short.0;
      keeps = c.insert_into_file.ensures.keeps;
      ends = ends_so g.B.View _ _ _ _ _
          (λ found. (found.0, has_file schema built i def t old def_is tree_is lt found.1))
          c.insert_into_file.ensures.ends;
      block = c.insert_into_file.ensures.block;
    }
