use Rattle.std.proofs.Common.{rules, ◌≡◌, ◌≤◌, ℕ, List, [], ◌∷◌, length, get_or, sym, subst, arith}
use Rattle.gx_schema.specs.declared.schema.Schema.{Schema}
use Rattle.gx_stack.specs.declared.node.Node.{Node}
use Rattle.gx_stack.specs.Seen.{tree_of}
use Rattle.gx_stack.specs.Tree.{IsValid}
use Rattle.gx_types.specs.declared.any.AnyMapping.{AnyMapping}
use Rattle.gx_types.specs.Any.{any_rule}
use Rattle.gx_types.specs.Nodes.{AreNodes}
use Rattle.tests_access.proofs.texts.access_text.Goals as goal

first_valid : (schema : Schema) (ns : List (Node AnyMapping)) (leaves : ℕ) (n : Node AnyMapping)
    → AreNodes schema ns leaves → 1 ≤ length ns → n ≡ get_or ns 0 n
    → IsValid any_rule (tree_of n)
first_valid schema [] leaves n nodes some is = absurd (omega arith)
first_valid schema (m ∷ ns) leaves n nodes some is =
    subst (λ (x : Node AnyMapping). IsValid any_rule (tree_of x)) (sym is)
    (nodes.valid 0 (omega (arith, nodes.many)))

pub node_text-requires : goal.node_text-requires
node_text-requires c =
    let schema = c.in_ok-schema.schema in
    let leaves = length c.in_ok-built.built.specs in
    let same : c.as_slice.result.now ≡ c.in_ok-built.built.files = search rules in
    first_valid schema c.as_slice.result.now leaves c.node-item.result
    (subst (λ (ns : List (Node AnyMapping)). AreNodes schema ns leaves) (sym same) c.in_ok-built.ensures)
    c.in-len1-up.len_at_least c.node-item.is
