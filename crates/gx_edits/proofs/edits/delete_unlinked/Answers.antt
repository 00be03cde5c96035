use Rattle.std.proofs.Common.{rules, length, sym, subst}
use Rattle.gx_schema.specs.declared.schema.FileDef.{FileDef}
use Rattle.gx_stack.specs.Seen.{tree_of}
use Rattle.gx_scan.specs.Files.{IsTreeFor}
use Rattle.gx_scan.proofs.CallLemmas.{ok_one, ends_so}
use Rattle.gx_states.proofs.StoredLemmas.{internal_at, has_file}
use Rattle.gx_edits.proofs.EditLemmas.{delete_edited}
use Rattle.gx_edits.proofs.edits.delete_unlinked.Goals as goal

pub delete_from_file-requires : goal.delete_from_file-requires
delete_from_file-requires g c =
    let t = tree_of c.file_node-node.result.now in
    let leaves = length (g.B.View.working c.args.leaves.now) in
    record {
      can = record {
        tree = subst (λ (file : FileDef). IsTreeFor file t leaves) (sym c.file_def-def.ensures)
            (c.file_node-node.ensures.fit c.args.schema.now _ c.requires.ready.nodes);
        storable = search rules;
        key_fits = search rules;
      };
    }

pub returns : goal.returns
returns g c =
    let schema = c.args.schema.now in
    let built = c.args.built.now in
    let i = c.args.file in
    let def = c.file_def-def.result.now in
    let t = tree_of c.file_node-node.result.now in
    let old = g.B.View.working c.args.leaves.now in
    let new = g.B.View.working c.delete_from_file.new.leaves in
    let lt = c.requires.of_schema.0 in
    let def_is = c.file_def-def.ensures in
    let tree_is = c.file_node-node.ensures.tree in
    record {
      edit = λ s free whole are.
          ok_one c.delete_from_file.result _ _
          (c.delete_from_file.ensures.deleted _ whole
          (internal_at schema built i def t old s def_is tree_is lt are))
          (λ why is. delete_edited schema built _ old new s i def t why c.requires.ready are lt
          def_is tree_is c.args.key free is);
      full = λ s free whole are stops. absurd (c.delete_from_file.ensures.not_full stops);
      bringing = λ stops. absurd (c.delete_from_file.ensures.not_full stops);
      accepted = λ s free whole are stops. absurd (c.delete_from_file.ensures.not_full stops);
      keeps = c.delete_from_file.ensures.keeps;
      ends = ends_so g.B.View _ _ _ _ _
          (λ found. (found.0, has_file schema built i def t old def_is tree_is lt found.1))
          c.delete_from_file.ensures.ends;
      block = c.delete_from_file.ensures.block;
    }
