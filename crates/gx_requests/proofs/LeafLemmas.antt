-- There are files of the kind of each leaf of an equation that some text means, and one leaf at
-- least.
use Rattle.std.proofs.Common.{◌≡◌, ℕ, zero, suc, ◌+◌, ◌<◌, ◌≤◌, List, [], ◌∷◌, ◌++◌, length, map, Bool, true, refl, ap, subst, sym, ◌∙◌, arith}
use Rattle.std.specs.Prelude.{nat_lt, nat_le, ◌&&◌}
use Rattle.std.specs.List.{list_all, AllByRecursion}
use Rattle.std.proofs.lemmas.Bool.Decides.{nat_tests}
use Rattle.std.proofs.lemmas.List.{length-map}
use Rattle.std.proofs.lemmas.List.Folds.{list_all-append, list_all-map}
use Rattle.gx_values.specs.declared.records.Form.{Form}
use Rattle.gx_ports.specs.declared.kinds.LeafKind.TheVariants as leaf
use Rattle.gx_ports.specs.declared.kinds.LeafSpec.{LeafSpec}
use Rattle.gx_schema.specs.declared.schema.FileDef.{FileDef}
use Rattle.gx_schema.specs.declared.schema.Schema.{Schema}
use Rattle.gx_schema.specs.Rules.{IsSchema}
use Rattle.gx_equation.specs.declared.heads.Head.{Head}
use Rattle.gx_equation.specs.declared.heads.Head.TheVariants as heads
use Rattle.gx_equation.specs.Printing.{IsHead, IsTerm, IsSide, IsDefinition, AreWritten}
use Rattle.gx_equation.specs.Trees.{TermTree, Trees, node, none, kid, kids_from, list_of, SideTree, file_side, link_side, DefinitionTree}
use Rattle.gx_equation.proofs.TermsFound.{list_from}
use Rattle.gx_forms.specs.Forms.{kid_form, link_form}
use Rattle.gx_typing.specs.declared.dues.Due.{Due}
use Rattle.gx_typing.specs.declared.dues.Stored.{Stored}
use Rattle.gx_typing.specs.declared.dues.Stored.TheVariants as stored
use Rattle.gx_typing.specs.declared.typing.Typing.{Typing}
use Rattle.gx_typing.specs.Dues.{dues, file_form, file_due, link_due}
use Rattle.gx_typing.specs.Typed.{Leaf, spec_of, leaf_here, leaves_of, leaves_of_kids, leaves_of_side, leaves_of_all, leaves, typing_with, IsTypedSide, AreTyped, IsTyped}
use Rattle.gx_types.specs.Build.{side_leaf_count, all_leaf_count, file_leaf_count, link_definitions}
use Rattle.gx_types.proofs.FileLaws.{split_count, total_count}
use Rattle.gx_types.proofs.MakerLaws.{some_leaf}
use Rattle.gx_leaves.specs.Kinds.{is_built, are_built}

-- there are files of the kind of the leaf
abbrev has_files : Leaf → Bool
has_files l = is_built l.spec.kind

abbrev HaveFiles : List Leaf → Type 0
HaveFiles ls = list_all has_files ls ≡ true

both : (xs ys : List Leaf) → HaveFiles xs → HaveFiles ys → HaveFiles (xs ++ ys)
both xs ys p q = list_all-append has_files xs ys ∙ (λ i. p i && q i)

some_chains : (buckets : ℕ) → (0 < buckets) × (buckets ≤ 64)
    → ((nat_lt 0 buckets && nat_le buckets 64) && true) ≡ true
some_chains buckets many =
    let least = many.0 in
    let most = many.1 in
    let low : nat_lt 0 buckets ≡ true = grind (arith, nat_tests) in
    let high : nat_le buckets 64 ≡ true = grind (arith, nat_tests) in
    λ i. (low i && high i) && true

at_head : (owner : ℕ) (top : Head) (form : Form) → IsHead top → HaveFiles (leaf_here owner top form)
at_head owner (heads.Leaf leaf.Heap) form is = refl
at_head owner (heads.Leaf (leaf.Hash buckets)) form is = some_chains buckets is
at_head owner (heads.Leaf leaf.Isam) form is = refl
at_head owner (heads.Leaf leaf.Bplus) form is = refl
at_head owner heads.Actual form is = refl
at_head owner (heads.Encode name code) form is = refl
at_head owner (heads.Segment names) form is = refl
at_head owner heads.Transpose form is = refl
at_head owner (heads.Partition name bounds) form is = refl
at_head owner (heads.Divide size) form is = refl
at_head owner (heads.Index name) form is = refl

mutual
  in_term : (levels owner : ℕ) (form : Form) (t : TermTree) → IsTerm levels t
      → HaveFiles (leaves_of owner form t)
  in_term zero owner form t is = absurd is
  in_term (suc levels) owner form (node top kids) is =
      both (leaf_here owner top form) (leaves_of_kids owner (kid_form top form) 0 kids)
      (at_head owner top form is.0) (in_terms levels owner (kid_form top form) 0 kids is.2)

  in_terms : (levels owner : ℕ) (forms : ℕ → Form) (i : ℕ) (ts : Trees)
      → AllByRecursion (IsTerm levels) (list_of ts) → HaveFiles (leaves_of_kids owner forms i ts)
  in_terms levels owner forms i none are = refl
  in_terms levels owner forms i (kid t ts) are =
      both (leaves_of owner (forms i) t) (leaves_of_kids owner forms (suc i) ts)
      (in_term levels owner (forms i) t are.0) (in_terms levels owner forms (suc i) ts are.1)

in_side : (owner : ℕ) (due : Stored) (side : SideTree) → IsSide side
    → HaveFiles (leaves_of_side owner due side)
in_side owner (stored.File form) (file_side t) is = in_term 16 owner form t is
in_side owner (stored.File form) (link_side linkset ts) is = refl
in_side owner (stored.Link o m) (file_side t) is = refl
in_side owner (stored.Link o m) (link_side linkset ts) is =
    in_terms 15 owner (link_form linkset o m) 0 (kids_from ts)
    (subst (AllByRecursion (IsTerm 15)) (sym (list_from ts)) is.1)

in_definitions : (owner : ℕ) (ms : List Due) (ds : List DefinitionTree)
    → AllByRecursion IsDefinition ds
    → HaveFiles (leaves_of_all owner ms ds)
in_definitions owner [] ds are = refl
in_definitions owner (due ∷ ms) [] are = refl
in_definitions owner (due ∷ ms) (d ∷ ds) are =
    both (leaves_of_side owner due.stored d.side) (leaves_of_all (suc owner) ms ds)
    (in_side owner due.stored d.side are.0.side) (in_definitions (suc owner) ms ds are.1)

-- ---- how many there are

some_in_side : (form : Form) (side : SideTree) → IsSide side → IsTypedSide (stored.File form) side
    → 1 ≤ side_leaf_count side
some_in_side form (file_side t) is typed = some_leaf 16 form t is
some_in_side form (link_side linkset ts) is typed = absurd typed

some_in : (files : List FileDef) (more : List Due) (ds : List DefinitionTree) → 0 < length files
    → AllByRecursion IsDefinition ds → AreTyped (map file_due files ++ more) ds
    → 1 ≤ all_leaf_count ds
some_in [] more ds some each typed = absurd (omega (arith, some))
some_in (file ∷ files) more [] some each typed = absurd typed
some_in (file ∷ files) more (d ∷ ds) some each typed =
    omega (arith, some_in_side (file_form file) d.side each.0.side typed.1)

-- a file has a leaf
pub some_leaves : (schema : Schema) (ds : List DefinitionTree) → IsSchema schema → AreWritten ds
    → IsTyped schema ds → 0 < length (map spec_of (leaves schema ds))
some_leaves schema ds is written typed =
    let total = split_count schema.files ds
    ∙ total_count schema ds (length (leaves schema ds)) typed refl in
    omega (
      arith,
      length-map (leaves schema ds) spec_of,
      total,
      some_in schema.files
          (map (link_due schema.files) schema.links) ds is.some written.each typed.definitions,
    )

-- ---- their kinds

pub leaves_built : (schema : Schema) (ds : List DefinitionTree) → AreWritten ds
    → are_built (map spec_of (leaves schema ds)) ≡ true
leaves_built schema ds written =
    list_all-map (λ (spec : LeafSpec). is_built spec.kind) spec_of (leaves schema ds)
    ∙ in_definitions 0 (dues schema) ds written.each

-- each leaf that the definitions mean has an owner
pub all_owned : (schema : Schema) (ds : List DefinitionTree) (typing : Typing)
    (specs : List LeafSpec)
    (owners : List ℕ) → IsTyped schema ds → typing ≡ typing_with (leaves schema ds)
    → typing ≡ record { specs = specs; owners = owners }
    → length owners ≡ length specs
    → length owners ≡ file_leaf_count schema.files ds + all_leaf_count
    (link_definitions schema.files ds)
all_owned schema ds typing specs owners typed leaves_are given owned =
    let total : length specs ≡ length (leaves schema ds) = ap (λ (t : Typing). length t.specs)
    (sym given ∙ leaves_are) ∙ length-map (leaves schema ds) spec_of in
    owned ∙ sym (total_count schema ds (length specs) typed total)
