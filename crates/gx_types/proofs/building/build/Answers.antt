use Rattle.std.proofs.Common.{◌≡◌, ℕ, List, length, sym, ap, subst, ◌∙◌, arith}
use Rattle.std.proofs.lemmas.List.{length-map}
use Rattle.gx_schema.specs.declared.schema.FileDef.{FileDef}
use Rattle.gx_schema.specs.declared.schema.LinkDef.{LinkDef}
use Rattle.gx_equation.specs.declared.equation.Definition.{Definition}
use Rattle.gx_equation.specs.declared.equation.Equation.{Equation}
use Rattle.gx_equation.specs.Seen.{definition_of, definitions_of}
use Rattle.gx_equation.specs.Trees.{DefinitionTree}
use Rattle.gx_typing.specs.declared.typing.Typing.{Typing}
use Rattle.gx_typing.specs.Typed.{leaves, spec_of}
use Rattle.gx_types.specs.Build.{AreTreesOfFiles, AreTreesOfLinks, AreReadyFiles, AreReadyLinks}
use Rattle.gx_types.specs.Nodes.{AreOwned}
use Rattle.gx_types.proofs.FileLaws.{files_ready, many_definitions, are_nodes}
use Rattle.gx_types.proofs.LinkLaws.{links_ready, are_link_nodes}
use Rattle.gx_types.proofs.LinkSteps.{passed_on, taken_back}
use Rattle.gx_types.proofs.OwnerLaws.{are_owned}
use Rattle.gx_types.proofs.building.build.Goals as goal

pub nodes_of_files-requires : goal.nodes_of_files-requires
nodes_of_files-requires c =
    let given = c.as_slice-definitions.result.now in
    let same : given ≡ c.args.equation.now.definitions = c.as_slice-definitions.ensures.value
    ∙ ap (λ (e : Equation). e.definitions) c.equation.view_is in
    subst (λ (files : List FileDef). AreReadyFiles 0 files (definitions_of given))
    (sym c.as_slice-of_files.ensures)
    (subst (λ (ds : List Definition). AreReadyFiles 0 c.args.schema.now.files (definitions_of ds))
    (sym same)
    (files_ready c.args.schema.now (definitions_of c.args.equation.now.definitions)
    c.requires.schema c.requires.written c.requires.typed))

pub split_at-requires : goal.split_at-requires
split_at-requires c =
    let given = c.as_slice-definitions.result.now in
    let whole = c.args.equation.now.definitions in
    let same : given ≡ whole = c.as_slice-definitions.ensures.value
    ∙ ap (λ (e : Equation). e.definitions) c.equation.view_is in
    let many = many_definitions 0 c.args.schema.now.files (definitions_of whole)
    (files_ready c.args.schema.now (definitions_of whole) c.requires.schema c.requires.written
    c.requires.typed) in
    let each : length (definitions_of whole) ≡ length whole = length-map whole definition_of in
    let as_many : length given ≡ length whole = ap (λ (ds : List Definition). length ds) same in
    let files : length c.as_slice-of_files.result.now ≡ length c.args.schema.now.files =
    ap (λ (fs : List FileDef). length fs) c.as_slice-of_files.ensures in
    omega (arith, many, each, as_many, files)

pub trees_of_links-requires : goal.trees_of_links-requires
trees_of_links-requires c =
    let whole = c.args.equation.now.definitions in
    let same : c.as_slice-definitions.result.now ≡ whole = c.as_slice-definitions.ensures.value
    ∙ ap (λ (e : Equation). e.definitions) c.equation.view_is in
    passed_on AreReadyLinks c.args.schema.now.files c.as_slice-of_files.result.now
    c.args.schema.now.links c.as_slice-of_links.result.now whole
    c.as_slice-definitions.result.now c.split_at.result.1.now c.nodes_of_files.new.next
    c.as_slice-of_files.ensures c.as_slice-of_links.ensures same c.split_at.ensures.back
    c.in_ok-files.ensures.next
    (links_ready c.args.schema.now (definitions_of whole) c.requires.schema c.requires.written
    c.requires.typed)

pub returns-clause-link_trees : goal.returns-clause-link_trees
returns-clause-link_trees c =
    let whole = c.args.equation.now.definitions in
    let same : c.as_slice-definitions.result.now ≡ whole = c.as_slice-definitions.ensures.value
    ∙ ap (λ (e : Equation). e.definitions) c.equation.view_is in
    taken_back (λ (files : List FileDef) (n : ℕ) (links : List LinkDef) (ds : List DefinitionTree).
    AreTreesOfLinks files n links ds c.in_ok-links.links.items) c.args.schema.now.files
    c.as_slice-of_files.result.now c.args.schema.now.links c.as_slice-of_links.result.now
    whole c.as_slice-definitions.result.now c.split_at.result.1.now
    c.nodes_of_files.new.next
    c.as_slice-of_files.ensures c.as_slice-of_links.ensures same c.split_at.ensures.back
    c.in_ok-files.ensures.next c.in_ok-links.ensures

pub returns-clause-nodes : goal.returns-clause-nodes
returns-clause-nodes c =
    let ds = definitions_of c.args.equation.now.definitions in
    let same : c.as_slice-definitions.result.now ≡ c.args.equation.now.definitions =
    c.as_slice-definitions.ensures.value
    ∙ ap (λ (e : Equation). e.definitions) c.equation.view_is in
    let total : length c.args.typing.specs ≡ length (leaves c.args.schema.now ds) =
    ap (λ (t : Typing). length t.specs) c.requires.leaves
    ∙ length-map (leaves c.args.schema.now ds) spec_of in
    let trees = subst (λ (files : List FileDef). AreTreesOfFiles 0 files ds
    c.in_ok-files.files.items) c.as_slice-of_files.ensures
    (subst (λ (given : List Definition). AreTreesOfFiles 0 c.as_slice-of_files.result.now
    (definitions_of given) c.in_ok-files.files.items) same c.in_ok-files.ensures.trees) in
    are_nodes c.args.schema.now ds c.in_ok-files.files.items (length c.args.typing.specs)
    c.requires.schema c.requires.written c.requires.typed trees total

pub returns-clause-link_nodes : goal.returns-clause-link_nodes
returns-clause-link_nodes c =
    let whole = c.args.equation.now.definitions in
    let ds = definitions_of whole in
    let same : c.as_slice-definitions.result.now ≡ whole = c.as_slice-definitions.ensures.value
    ∙ ap (λ (e : Equation). e.definitions) c.equation.view_is in
    let total : length c.args.typing.specs ≡ length (leaves c.args.schema.now ds) =
    ap (λ (t : Typing). length t.specs) c.requires.leaves
    ∙ length-map (leaves c.args.schema.now ds) spec_of in
    let trees = subst (λ (files : List FileDef). AreTreesOfFiles 0 files ds
    c.in_ok-files.files.items) c.as_slice-of_files.ensures
    (subst (λ (given : List Definition). AreTreesOfFiles 0 c.as_slice-of_files.result.now
    (definitions_of given) c.in_ok-files.files.items) same c.in_ok-files.ensures.trees) in
    let links = taken_back
    (λ (files : List FileDef) (n : ℕ) (links : List LinkDef) (given : List DefinitionTree).
    AreTreesOfLinks files n links given c.in_ok-links.links.items) c.args.schema.now.files
    c.as_slice-of_files.result.now c.args.schema.now.links c.as_slice-of_links.result.now whole
    c.as_slice-definitions.result.now c.split_at.result.1.now c.nodes_of_files.new.next
    c.as_slice-of_files.ensures c.as_slice-of_links.ensures same c.split_at.ensures.back
    c.in_ok-files.ensures.next c.in_ok-links.ensures in
    are_link_nodes c.args.schema.now ds c.in_ok-files.files.items c.in_ok-links.links.items
    (length c.args.typing.specs) c.requires.schema c.requires.written c.requires.typed trees
    links total

pub returns-clause-owned : goal.returns-clause-owned
returns-clause-owned c =
    let schema = c.args.schema.now in
    let whole = c.args.equation.now.definitions in
    let ds = definitions_of whole in
    let same : c.as_slice-definitions.result.now ≡ whole = c.as_slice-definitions.ensures.value
    ∙ ap (λ (e : Equation). e.definitions) c.equation.view_is in
    let total : length c.args.typing.specs ≡ length (leaves schema ds) =
    ap (λ (t : Typing). length t.specs) c.requires.leaves
    ∙ length-map (leaves schema ds) spec_of in
    let trees = subst (λ (files : List FileDef). AreTreesOfFiles 0 files ds
    c.in_ok-files.files.items) c.as_slice-of_files.ensures
    (subst (λ (given : List Definition). AreTreesOfFiles 0 c.as_slice-of_files.result.now
    (definitions_of given) c.in_ok-files.files.items) same c.in_ok-files.ensures.trees) in
    let links = taken_back
    (λ (files : List FileDef) (n : ℕ) (links : List LinkDef) (given : List DefinitionTree).
    AreTreesOfLinks files n links given c.in_ok-links.links.items) schema.files
    c.as_slice-of_files.result.now schema.links
    c.as_slice-of_links.result.now whole c.as_slice-definitions.result.now c.split_at.result.1.now
    c.nodes_of_files.new.next
    c.as_slice-of_files.ensures c.as_slice-of_links.ensures same c.split_at.ensures.back
    c.in_ok-files.ensures.next c.in_ok-links.ensures in
    subst (λ (owners : List ℕ). AreOwned schema c.in_ok-files.files.items c.in_ok-links.links.items
    owners (length c.args.typing.specs)) (ap (λ (t : Typing). t.owners) (sym c.requires.leaves))
    (are_owned schema ds c.in_ok-files.files.items c.in_ok-links.links.items c.requires.typed trees
    links (length c.args.typing.specs) total)
