-- How many leaf entries a state has, against those of one record or one owner.
use Rattle.gx_equation.specs.declared.heads.Linkset.TheVariants as linksets
use Rattle.gx_equation.specs.declared.heads.Linkset.{Linkset}
-- those who count the entries of a state find it here
pub use Rattle.gx_links.proofs.JoinLemmas.{crowded_more}
use Rattle.gx_links.proofs.MemberLemmas as member
use Rattle.gx_links.proofs.MemberLemmas.{from_members}
use Rattle.gx_links.specs.Links.{members_of, owners_of}
use Rattle.gx_links.specs.Rows.{owner_entries}
use Rattle.gx_linksets.specs.Stored.{rows_of}
use Rattle.gx_mapping.specs.Rule.{In}
use Rattle.gx_model.specs.States.{File, Link}
use Rattle.gx_scan.specs.Files.{file_records}
use Rattle.gx_stack.specs.Tree.{Tree, entries_of, entry_total, kid_entries}
use Rattle.gx_stack.specs.declared.node.Node.{Node}
use Rattle.gx_types.specs.Any.{any_rule}
use Rattle.gx_types.specs.Links.{linkset_at, linkset_of, link_kids, link_kids_at}
use Rattle.gx_types.specs.Nodes.{tree_at}
use Rattle.gx_types.specs.declared.any.AnyMapping.{AnyMapping}
use Rattle.gx_types.specs.declared.built.LinkTree.{LinkTree}
use Rattle.gx_values.specs.declared.records.Rec.{Rec}
use Rattle.gx_values.specs.declared.values.Value.{Value}
use Rattle.std.proofs.Common.{[], ◌≡◌, ℕ, zero, suc, ◌<◌, ◌≤◌, List, ◌∷◌, length, get_or, refl, sym, ap, subst, ◌∙◌, arith, inl, inr}
use Rattle.std.proofs.lemmas.List.Sums.{sum_by-cons}
use Rattle.std.specs.FinMap as fin
use Rattle.std.specs.List.{sum_by, flat_map}
use Rattle.std.specs.Prelude.{◌⊎◌}
use Rattle.gx_states.specs.Internal.{entries_from, owner_count, link_entries_from}

-- ---- of files

pub one_total : (t : Tree AnyMapping) (rs : List Rec) (r : Rec) → In r rs
    → length (entries_of any_rule t r) ≤ entry_total any_rule t rs
one_total t [] r h = absurd h
one_total t (q ∷ rs) r (inl is) = omega (
  arith,
  ap (λ (x : Rec). length (entries_of any_rule t x)) is,
  sum_by-cons (λ (x : Rec). length (entries_of any_rule t x)) q rs,
)
one_total t (q ∷ rs) r (inr h) = omega (
  arith,
  one_total t rs r h,
  sum_by-cons (λ (x : Rec). length (entries_of any_rule t x)) q rs,
)

pub one_file : (nodes : List (Node AnyMapping)) (fs : List File) (i : ℕ) → i < length nodes
    → i < length fs → entry_total any_rule (tree_at nodes i) (file_records (get_or fs i fin.empty))
    ≤ entries_from nodes fs
one_file [] fs i l m = absurd (omega arith)
one_file (n ∷ ns) [] i l m = absurd (omega arith)
one_file (n ∷ ns) (f ∷ fs) zero l m = omega arith
one_file (n ∷ ns) (f ∷ fs) (suc i) l m = omega (arith, one_file ns fs i (omega arith) (omega arith))

-- ---- of links

no_rows : (x : Linkset) (o : Value) → rows_of x o [] ≡ []
no_rows linksets.Array o = refl
no_rows linksets.Ring o = refl
no_rows linksets.Inverted o = refl

one_of_sum : (f : Value → ℕ) (os : List Value) (o : Value) → In o os → f o ≤ sum_by f os
one_of_sum f [] o h = absurd h
one_of_sum f (x ∷ os) o (inl e) = omega (arith, ap f e, sum_by-cons f x os)
one_of_sum f (x ∷ os) o (inr h) = omega (arith, one_of_sum f os o h, sum_by-cons f x os)

-- an owner without members has no entry; another one is among the owners
pub owner_cases : (x : LinkTree) (l : Link) (o : Value)
    → (owner_count x l o ≡ 0) ⊎ In o (owners_of l)
owner_cases x l o = go (members_of l o) refl
  where
    go : (ms : List Value) → members_of l o ≡ ms → (owner_count x l o ≡ 0) ⊎ In o (owners_of l)
    go [] e = inl (ap (λ (ms : List Value). length
        (owner_entries any_rule (link_kids x) (rows_of (linkset_of x)) o ms)) e
        ∙ ap (λ parts. length (flat_map
        (λ p. kid_entries any_rule (link_kids x) p.child p.rec) parts)) (no_rows (linkset_of x) o))
    go (m ∷ ms) e = inr (member.owner_there l o m
        (from_members l o m (subst (In m) (sym e) (inl refl))))

among_owners : (x : LinkTree) (l : Link) (o : Value)
    → owner_count x l o ≤ sum_by (owner_count x l) (owners_of l)
among_owners x l o = elim (owner_cases x l o) [
  | inl none ↦ omega (arith, none)
  | inr there ↦ one_of_sum (owner_count x l) (owners_of l) o there
]

-- the entries of an owner of the link with this number
abbrev pub entries_at : List LinkTree → ℕ → Link → Value → ℕ
entries_at xs i l o = length (owner_entries any_rule (link_kids_at xs i)
    (rows_of (linkset_at xs i)) o (members_of l o))

pub among_links : (xs : List LinkTree) (ls : List Link) (i : ℕ) (o : Value) → i < length xs
    → i < length ls → entries_at xs i (get_or ls i fin.empty) o ≤ link_entries_from xs ls
among_links [] ls i o h k = absurd (omega arith)
among_links (x ∷ xs) [] i o h k = absurd (omega arith)
among_links (x ∷ xs) (l ∷ ls) zero o h k = omega (arith, among_owners x l o)
among_links (x ∷ xs) (l ∷ ls) (suc i) o h k =
    omega (arith, among_links xs ls i o (omega arith) (omega arith))
