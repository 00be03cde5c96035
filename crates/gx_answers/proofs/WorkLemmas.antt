-- The greatest number of leaf entries of a record, and of an owner.
use Rattle.gx_commands.specs.declared.command.Of.{Of}
use Rattle.gx_links.specs.Links.{owners_of}
use Rattle.gx_mapping.specs.Rule.{In}
use Rattle.gx_model.specs.States.{File, Link, State, Row, file_in}
use Rattle.gx_scan.specs.Files.{rec_of}
use Rattle.gx_scan.specs.Steps.{HaveAtMost}
use Rattle.gx_schema.specs.declared.schema.Schema.{Schema}
use Rattle.gx_stack.specs.Seen.{tree_of}
use Rattle.gx_stack.specs.Tree.{Tree, entries_of}
use Rattle.gx_stack.specs.declared.node.Node.{Node}
use Rattle.gx_types.specs.Any.{any_rule}
use Rattle.gx_types.specs.Nodes.{tree_at, AreNodes}
use Rattle.gx_types.specs.declared.any.AnyMapping.{AnyMapping}
use Rattle.gx_types.specs.declared.built.Built.{Built}
use Rattle.gx_types.specs.declared.built.LinkTree.{LinkTree}
use Rattle.gx_values.specs.declared.values.Value.{Value}
use Rattle.std.proofs.Common.{[], ◌≡◌, ℕ, zero, suc, ◌<◌, ◌≤◌, List, ◌∷◌, length, get_or, Option, Some, None, inl, inr, sym, ap, subst, arith}
use Rattle.std.specs.FinMap as fin
use Rattle.gx_states.specs.Internal.{owner_count}
use Rattle.gx_states.proofs.CountLemmas.{owner_cases, entries_at}
use Rattle.gx_answers.specs.Work.{most_of, most_entries, most_of_owners, most_owned, most_with}

-- ---- of records

among_most : (t : Tree AnyMapping) (rs : List Row) (r : Row) → In r rs
    → length (entries_of any_rule t (rec_of r)) ≤ most_of t rs
among_most t [] r h = absurd h
among_most t (x ∷ rs) r (inl is) =
    omega (arith, ap (λ (y : Row). length (entries_of any_rule t (rec_of y))) is)
among_most t (x ∷ rs) r (inr h) = omega (arith, among_most t rs r h)

pub file_most : (nodes : List (Node AnyMapping)) (fs : List File) (i : ℕ) (r : Row)
    → i < length nodes
    → i < length fs → In r (fin.entries (get_or fs i fin.empty))
    → length (entries_of any_rule (tree_at nodes i) (rec_of r)) ≤ most_entries nodes fs
file_most [] fs i r l m h = absurd (omega arith)
file_most (n ∷ ns) [] i r l m h = absurd (omega arith)
file_most (n ∷ ns) (f ∷ fs) zero r l m h = omega (arith, among_most (tree_of n) (fin.entries f) r h)
file_most (n ∷ ns) (f ∷ fs) (suc i) r l m h =
    omega (arith, file_most ns fs i r (omega arith) (omega arith) h)

most_least : (built : Built) (s : State) (o : Option Of)
    → most_entries built.files s.files ≤ most_with built s o
most_least built s None = omega arith
most_least built s (Some of) = omega arith

pub have_most : (schema : Schema) (built : Built) (leaves : ℕ) (s : State) (i : ℕ)
    (t : Tree AnyMapping)
    (o : Option Of) → AreNodes schema built.files leaves → length s.files ≡ length schema.files
    → i < length schema.files → t ≡ tree_at built.files i
    → HaveAtMost (most_with built s o) t (file_in s i)
have_most schema built leaves s i t o of many lt is = λ r h.
    let one : length (entries_of any_rule t (rec_of r)) ≤ most_entries built.files s.files =
    subst (λ (x : Tree AnyMapping). length (entries_of any_rule x (rec_of r))
    ≤ most_entries built.files s.files) (sym is)
    (file_most built.files s.files i r (omega (arith, of.many)) (omega (arith, many)) h) in
    omega (arith, one, most_least built s o)

-- ---- of owners

owner_most : (x : LinkTree) (l : Link) (os : List Value) (o : Value) → In o os
    → owner_count x l o ≤ most_of_owners x l os
owner_most x l [] o h = absurd h
owner_most x l (p ∷ os) o (inl e) = omega (arith, ap (owner_count x l) e)
owner_most x l (p ∷ os) o (inr h) = omega (arith, owner_most x l os o h)

pub owned_most : (xs : List LinkTree) (ls : List Link) (i : ℕ) (o : Value) → i < length xs
    → i < length ls
    → entries_at xs i (get_or ls i fin.empty) o ≤ most_owned xs ls i
owned_most [] ls i o h k = absurd (omega arith)
owned_most (x ∷ xs) [] i o h k = absurd (omega arith)
owned_most (x ∷ xs) (l ∷ ls) zero o h k = elim (owner_cases x l o) [
  | inl none ↦ omega (arith, none)
  | inr there ↦ owner_most x l (owners_of l) o there
]
owned_most (x ∷ xs) (l ∷ ls) (suc i) o h k = owned_most xs ls i o (omega arith) (omega arith)
