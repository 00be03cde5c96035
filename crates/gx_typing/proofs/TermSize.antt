-- How large terms are.
use Rattle.std.proofs.Common.{◌≡◌, ℕ, zero, suc, ◌+◌, ◌<◌, List, [], ◌∷◌, length, get_or, sym, subst, arith}
use Rattle.gx_equation.specs.declared.equation.Term.{Term}
use Rattle.gx_equation.specs.Seen.{tree_of, trees_of}
use Rattle.gx_equation.specs.Trees.{TermTree, Trees, node, none, kid, kids_from}

abbrev mutual
  pub tree_size : TermTree → ℕ
  tree_size (node top kids) = suc (trees_size kids)

  pub trees_size : Trees → ℕ
  trees_size none = 0
  trees_size (kid t ts) = suc (tree_size t + trees_size ts)

size_at : (ts : List Term) (i : ℕ) (t : Term) → i < length ts
    → tree_size (tree_of (get_or ts i t)) < trees_size (kids_from (trees_of ts))
size_at [] i t lt = absurd (omega arith)
size_at (x ∷ ts) zero t lt = omega arith
size_at (x ∷ ts) (suc i) t lt = omega (arith, size_at ts i t (omega arith))

-- one of some terms is smaller than they are
pub one_smaller : (ts : List Term) (i : ℕ) (t : Term) → i < length ts → t ≡ get_or ts i t
    → tree_size (tree_of t) < trees_size (kids_from (trees_of ts))
one_smaller ts i t lt read =
    subst (λ (x : Term). tree_size (tree_of x) < trees_size (kids_from (trees_of ts))) (sym read)
    (size_at ts i t lt)
