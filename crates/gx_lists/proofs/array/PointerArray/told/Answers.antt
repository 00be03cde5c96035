use Rattle.std.proofs.Common.{rules, ◌≡◌, true, false, sym, subst}
use Rattle.std.specs.List.Sorted.{IsStrictlySortedBy}
use Rattle.gx_stack.specs.Seen.{tree_of}
use Rattle.gx_links.specs.Owners.{member_cmp}
use Rattle.gx_lists.specs.Arrays.{AreCutOwners}
use Rattle.gx_lists.specs.ArrayLaws.{key_kind}
use Rattle.gx_lists.proofs.ArrayLemmas.{key_long}
use Rattle.gx_lists.proofs.ArrayPairs.{told_uncut, told_each_once, told_twice}
use Rattle.gx_lists.proofs.array.PointerArray.told.Goals as goal

pub cut_owners-requires-clause-kind : goal.cut_owners-requires-clause-kind
cut_owners-requires-clause-kind g c = key_kind c.args.self.now.member c.requires.valid.member_kind

pub cut_owners-requires-clause-some : goal.cut_owners-requires-clause-some
cut_owners-requires-clause-some g c = λ r h.
    (key_long g.M.Mapping.rule (tree_of c.args.self.now.tree.now) c.args.self.now.member
    c.requires.valid r (c.requires.found r h)).0

pub returns-in_default : goal.returns-in_default
returns-in_default g c =
    let found = c.args.found.now in
    let none = subst (AreCutOwners c.args.self.now.member found) c.in_default.is
    c.in_ok-owners.ensures in
    told_uncut g.M.Mapping.rule (tree_of c.args.self.now.tree.now) c.args.self.now.member
    c.requires.valid found c.requires.found none.0
    none.1 none.2

pub returns-then-is_each_once : goal.returns-then-is_each_once
returns-then-is_each_once g c =
    let found = c.args.found.now in
    let cut = subst (AreCutOwners c.args.self.now.member found) c.in-Some.is c.in_ok-owners.ensures
    in
    let pairs : c.deref.result.now ≡ c.in_ok-pairs.pairs = search rules in
    let once : c.is_each_once.result ≡ true = search rules in
    told_each_once g.M.Mapping.rule (tree_of c.args.self.now.tree.now) c.args.self.now.member
    c.requires.valid found c.requires.found
    c.in-Some.owners cut c.in_ok-pairs.pairs c.in_ok-pairs.ensures.those
    (subst (IsStrictlySortedBy member_cmp) pairs (c.is_each_once.ensures.yes once))

pub returns-else-is_each_once : goal.returns-else-is_each_once
returns-else-is_each_once g c =
    let found = c.args.found.now in
    let cut = subst (AreCutOwners c.args.self.now.member found) c.in-Some.is c.in_ok-owners.ensures
    in
    let pairs : c.deref.result.now ≡ c.in_ok-pairs.pairs = search rules in
    let twice : c.is_each_once.result ≡ false = search rules in
    told_twice g.M.Mapping.rule (tree_of c.args.self.now.tree.now) c.args.self.now.member
    c.requires.valid found c.requires.found
    c.in-Some.owners cut c.in_ok-pairs.pairs c.in_ok-pairs.ensures.those
    c.in_ok-pairs.ensures.in_order
    (λ up. c.is_each_once.ensures.no twice (subst (IsStrictlySortedBy member_cmp) (sym pairs) up))
