-- The owners of a link, made from its pairs.
use Rattle.std.proofs.Common.{◌≡◌, ◌<◌, ◌+◌, ℕ, zero, suc, List, [], ◌∷◌, ◌++◌, ◌⊎◌, length, cond, get_or, Bool, true, false, Some, inl, inr, refl, sym, ap, subst, ◌∙◌, arith, append_assoc, append-nil}
use Rattle.std.specs.Prelude.{T, ◌≢◌, map, slice_set}
use Rattle.std.specs.List.{AllByRecursion}
use Rattle.std.specs.List.Sorted.{IsPermutation, IsSortedBy}
use Rattle.std.specs.Ordering.{is_lt, eq_by_cmp, ordering_then}
use Rattle.std.specs.declared.cmp.Ordering.{Ordering}
use Rattle.std.specs.declared.cmp.Ordering.TheVariants.{Less, Equal, Greater}
use Rattle.std.specs.Cmp.{IsTotalOrder, tied_itself, eq_by_cmp_equiv}
use Rattle.std.specs.FinMap as fin
use Rattle.std.specs.FinMap.Entries.{below_all}
use Rattle.std.proofs.lemmas.Bool.{true≢false}
use Rattle.std.proofs.lemmas.Cmp.{on_total, then_total}
use Rattle.std.proofs.lemmas.Map.Keys.{IsDistinct-from_sorted, IsDistinct-IsPermutation}
use Rattle.gx_laws.proofs.BoolLemmas.{both_true, first_of_both, second_of_both}
use Rattle.gx_laws.proofs.OrderingLemmas.{less_is, second_equal}
use Rattle.gx_values.specs.declared.values.Value.{Value}
use Rattle.gx_values.specs.Values.{value_cmp}
use Rattle.gx_values.proofs.OrderLemmas.{value_cmp_total, value_cmp_same, same_value, value_itself}
use Rattle.gx_mapping.specs.Rule.{In}
use Rattle.gx_mapping.proofs.RuleLemmas.{all_in}
use Rattle.gx_gather.proofs.Lists.{in_left, in_right, in_each, from_each, in_map, from_map, all_of}
use Rattle.gx_gather.proofs.Orders.{Ascends, sorted, rises, rises_ascends, not_before_itself, not_both_before}
use Rattle.gx_gather.proofs.Made.{permuted_in, permuted_back}
use Rattle.gx_gather.proofs.Entries.{below_in}
use Rattle.gx_links.specs.declared.pairs.Owned.{Owned}
use Rattle.gx_links.specs.Links.{Link, is_same}
use Rattle.gx_links.specs.Owners.{owner_cmp, member_cmp, pair_with, pairs_under, pairs_of, first_of, with_member_last, is_last, with_pair, AreOwners, IsGroupOf}
use Rattle.gx_links.proofs.MemberLemmas.{pair_in, in_pair, members_are}

-- ---- one pair more

pub set_last : (gs : List Owned) (i : ℕ) (g : Owned) (p : Value × Value) → i + 1 ≡ length gs
    → g ≡ get_or gs i g → is_last gs p.1 ≡ true
    → slice_set gs i (with_member_last g p.0) ≡ with_pair gs p
set_last [] i g p l e same = absurd (omega arith)
set_last (h ∷ []) zero g p l e same =
    ap (λ (x : Owned). with_member_last x p.0 ∷ []) e
    ∙ sym (ap (λ b. cond b (with_member_last h p.0 ∷ []) (h ∷ first_of p ∷ [])) same)
set_last (h ∷ []) (suc i) g p l e same = absurd (omega arith)
set_last (h ∷ k ∷ gs) zero g p l e same = absurd (omega arith)
set_last (h ∷ k ∷ gs) (suc i) g p l e same =
    ap (λ zs. h ∷ zs) (set_last (k ∷ gs) i g p (omega arith) e same)

pub push_behind : (gs : List Owned) (p : Value × Value) → is_last gs p.1 ≡ false
    → gs ++ first_of p ∷ [] ≡ with_pair gs p
push_behind [] p other = refl
push_behind (h ∷ []) p other =
    sym (ap (λ b. cond b (with_member_last h p.0 ∷ []) (h ∷ first_of p ∷ [])) other)
push_behind (h ∷ k ∷ gs) p other = ap (λ zs. h ∷ zs) (push_behind (k ∷ gs) p other)

pub last_some : (gs : List Owned) (o : Value) → is_last gs o ≡ true → 0 < length gs
last_some [] o e = absurd (true≢false (sym e))
last_some (g ∷ gs) o e = omega arith

pub last_at : (gs : List Owned) (i : ℕ) (g : Owned) (o : Value) → i + 1 ≡ length gs
    → g ≡ get_or gs i g → is_last gs o ≡ is_same g.owner o
last_at [] i g o l e = absurd (omega arith)
last_at (h ∷ []) zero g o l e = ap (λ (x : Owned). is_same x.owner o) (sym e)
last_at (h ∷ []) (suc i) g o l e = absurd (omega arith)
last_at (h ∷ k ∷ gs) zero g o l e = absurd (omega arith)
last_at (h ∷ k ∷ gs) (suc i) g o l e = last_at (k ∷ gs) i g o (omega arith) e

pub last_none : (gs : List Owned) (o : Value) → length gs ≡ 0 → is_last gs o ≡ false
last_none [] o e = refl
last_none (g ∷ gs) o e = absurd (omega arith)

-- ---- groups and their pairs

abbrev pub with_pairs : List Owned → List (Value × Value) → List Owned
with_pairs gs [] = gs
with_pairs gs (p ∷ ps) = with_pairs (with_pair gs p) ps

abbrev pub Differs : Owned → List Owned → Type 0
Differs g [] = Unit {0}
Differs g (h ∷ gs) = g.owner ≢ h.owner

-- each has a member, and neighbours have different owners
abbrev pub AreRuns : List Owned → Type 0
AreRuns [] = Unit {0}
AreRuns (g ∷ gs) = (0 < length g.members) × Differs g gs × AreRuns gs

map_last : (o : Value) (ms : List Value) (m : Value)
    → map (pair_with o) (ms ++ m ∷ []) ≡ map (pair_with o) ms ++ pair_with o m ∷ []
map_last o [] m = refl
map_last o (x ∷ ms) m = ap (λ zs. pair_with o x ∷ zs) (map_last o ms m)

pub pairs_more : (gs : List Owned) (p : Value × Value)
    → pairs_of (with_pair gs p) ≡ pairs_of gs ++ p ∷ []
pairs_more [] p = refl
pairs_more (g ∷ []) p = go (is_same g.owner p.1) refl
  where
    go : (b : Bool) → is_same g.owner p.1 ≡ b
        → pairs_of (cond b (with_member_last g p.0 ∷ []) (g ∷ first_of p ∷ [])) ≡ pairs_of (g ∷ [])
        ++ p ∷ []
    go true e =
        let one : pair_with g.owner p.0 ≡ p = λ i. (p.0, same_value g.owner p.1 e i) in
        append-nil (map (pair_with g.owner) (g.members ++ p.0 ∷ []))
        ∙ map_last g.owner g.members p.0
        ∙ ap (λ q. map (pair_with g.owner) g.members ++ q ∷ []) one
        ∙ ap (λ zs. zs ++ p ∷ []) (sym (append-nil (map (pair_with g.owner) g.members)))
    go false e = ap (λ zs. zs ++ p ∷ []) (sym (append-nil (map (pair_with g.owner) g.members)))
pairs_more (g ∷ h ∷ gs) p = ap (λ zs. pairs_under g ++ zs) (pairs_more (h ∷ gs) p)
    ∙ sym (append_assoc (pairs_under g) (pairs_of (h ∷ gs)) (p ∷ []))

not_same : (a b : Value) → is_same a b ≡ false → a ≢ b
not_same a b e is = true≢false (sym (value_itself a) ∙ ap (is_same a) is ∙ e)

some_last : (ms : List Value) (m : Value) → 0 < length (ms ++ m ∷ [])
some_last [] m = omega arith
some_last (x ∷ ms) m = omega arith

differs_more : (g h : Owned) (gs : List Owned) (p : Value × Value) → g.owner ≢ h.owner
    → Differs g (with_pair (h ∷ gs) p)
differs_more g h [] p ne = go (is_same h.owner p.1)
  where
    go : (b : Bool) → Differs g (cond b (with_member_last h p.0 ∷ []) (h ∷ first_of p ∷ []))
    go true = ne
    go false = ne
differs_more g h (k ∷ gs) p ne = ne

pub runs_more : (gs : List Owned) (p : Value × Value) → AreRuns gs → AreRuns (with_pair gs p)
runs_more [] p runs = (omega arith, tt, tt)
runs_more (g ∷ []) p runs = go (is_same g.owner p.1) refl
  where
    go : (b : Bool) → is_same g.owner p.1 ≡ b
        → AreRuns (cond b (with_member_last g p.0 ∷ []) (g ∷ first_of p ∷ []))
    go true e = (some_last g.members p.0, tt, tt)
    go false e = (runs.0, not_same g.owner p.1 e, (omega arith, tt, tt))
runs_more (g ∷ h ∷ gs) p runs = (runs.0, differs_more g h gs p runs.1, runs_more (h ∷ gs) p runs.2)

pub all_pairs : (gs : List Owned) (ps : List (Value × Value))
    → pairs_of (with_pairs gs ps) ≡ pairs_of gs ++ ps
all_pairs gs [] = sym (append-nil (pairs_of gs))
all_pairs gs (p ∷ ps) = all_pairs (with_pair gs p) ps ∙ ap (λ zs. zs ++ ps) (pairs_more gs p)
    ∙ append_assoc (pairs_of gs) (p ∷ []) ps

pub all_runs : (gs : List Owned) (ps : List (Value × Value)) → AreRuns gs
    → AreRuns (with_pairs gs ps)
all_runs gs [] runs = runs
all_runs gs (p ∷ ps) runs = all_runs (with_pair gs p) ps (runs_more gs p runs)

-- ---- orders of pairs

pub member_total : IsTotalOrder member_cmp
member_total = on_total (λ (p : Value × Value). p.0) value_cmp_total

pub owner_total : IsTotalOrder owner_cmp
owner_total = then_total (on_total (λ (p : Value × Value). p.1) value_cmp_total)
    (on_total (λ (p : Value × Value). p.0) value_cmp_total)

pub pairs_ascend : (es : List (Value × Value)) → T (fin.is_sorted value_cmp es)
    → Ascends member_cmp es
pairs_ascend [] h = tt
pairs_ascend (e ∷ es) h = (
  all_of (λ q. member_cmp e q ≡ Less) es
      (λ q k. below_in value_cmp e.0 es q (first_of_both _ _ h) k),
  pairs_ascend es (second_of_both _ _ h),
)

pub pairs_sorted : (es : List (Value × Value)) → Ascends member_cmp es
    → T (fin.is_sorted value_cmp es)
pairs_sorted [] h = tt
pairs_sorted (e ∷ es) h =
    both_true (below_all value_cmp e.0 es) (fin.is_sorted value_cmp es) (below es h.0)
    (pairs_sorted es h.1)
  where
    below : (xs : List (Value × Value)) → AllByRecursion (λ q. member_cmp e q ≡ Less) xs
        → T (below_all value_cmp e.0 xs)
    below [] all = tt
    below (x ∷ xs) all = both_true (is_lt (value_cmp e.0 x.0)) (below_all value_cmp e.0 xs)
        (less_is _ all.0) (below xs all.1)

-- pairs by member are ascending by owner once they are sorted so
pub by_owner : (es ps : List (Value × Value)) → IsPermutation es ps
    → IsSortedBy (λ a b. is_lt (owner_cmp a b)) ps → Ascends member_cmp es → Ascends owner_cmp ps
by_owner es ps perm up order =
    rises_ascends owner_total (λ x y e. second_equal (value_cmp x.1 y.1) (value_cmp x.0 y.0) e) ps
    (rises owner_total ps up)
    (IsDistinct-IsPermutation (eq_by_cmp member_cmp)
    (λ x y. (eq_by_cmp_equiv member_total).symm x y) es ps perm
    (IsDistinct-from_sorted member_cmp es (sorted member_cmp es order)))

-- ---- the groups of ascending pairs

across : {A : Type 0} (R : A → A → Ordering) (xs ys : List A) (x y : A) → Ascends R (xs ++ ys)
    → In x xs → In y ys → R x y ≡ Less
across R [] ys x y a i k = absurd i
across R (z ∷ xs) ys x y a (inl e) k =
    subst (λ w. R w y ≡ Less) (sym e)
    (all_in (λ w. R z w ≡ Less) (xs ++ ys) y a.0 (in_right y xs ys k))
across R (z ∷ xs) ys x y a (inr i) k = across R xs ys x y a.1 i k

behind : {A : Type 0} (R : A → A → Ordering) (xs ys : List A) → Ascends R (xs ++ ys) → Ascends R ys
behind R [] ys a = a
behind R (x ∷ xs) ys a = behind R xs ys a.1

-- the first member of a group
member_in : (g : Owned) → 0 < length g.members → (m : Value) × In m g.members
member_in g some = go g.members some
  where
    go : (ms : List Value) → 0 < length ms → (m : Value) × In m ms
    go [] l = absurd (omega arith)
    go (m ∷ ms) l = (m, inl refl)

each_some : (gs : List Owned) (g : Owned) → AreRuns gs → In g gs → 0 < length g.members
each_some [] g runs h = absurd h
each_some (k ∷ gs) g runs (inl e) = subst (λ (x : Owned). 0 < length x.members) (sym e) runs.0
each_some (k ∷ gs) g runs (inr h) = each_some gs g runs.2 h

under : (g : Owned) (m : Value) → In m g.members → In (m, g.owner) (pairs_under g)
under g m h = in_map (pair_with g.owner) m g.members h

less_or_same : (a b : Value) (r : Ordering) → ordering_then (value_cmp a b) r ≡ Less
    → (value_cmp a b ≡ Less) ⊎ (a ≡ b)
less_or_same a b r e = go (value_cmp a b) refl e
  where
    go : (o : Ordering) → value_cmp a b ≡ o → ordering_then o r ≡ Less
        → (value_cmp a b ≡ Less) ⊎ (a ≡ b)
    go Less is f = inl is
    go Equal is f = inr (value_cmp_same a b is)
    go Greater is f = absurd (let x : Greater ≡ Less = f in cc)

abbrev pub owners_in : List Owned → List Value
owners_in = map (λ g. g.owner)

pub owners_ascend : (gs : List Owned) → AreRuns gs → Ascends owner_cmp (pairs_of gs)
    → Ascends value_cmp (owners_in gs)
owners_ascend [] runs up = tt
owners_ascend (g ∷ gs) runs up =
    let rest = owners_ascend gs runs.2 (behind owner_cmp (pairs_under g) (pairs_of gs) up) in (
      all_of (λ y. value_cmp g.owner y ≡ Less) (owners_in gs) (λ y i.
          let h = from_map (λ (x : Owned). x.owner) y gs i in
          subst (λ z. value_cmp g.owner z ≡ Less) (sym h.2)
          (below gs rest runs.1 (λ k j. order k j) h.0 h.1)),
      rest,
    )
  where
    order : (k : Owned) → In k gs → (value_cmp g.owner k.owner ≡ Less) ⊎ (g.owner ≡ k.owner)
    order k j =
        let m = member_in g runs.0 in
        let n = member_in k (each_some gs k runs.2 j) in
        less_or_same g.owner k.owner (value_cmp m.0 n.0)
        (across owner_cmp (pairs_under g) (pairs_of gs) (m.0, g.owner) (n.0, k.owner) up
        (under g m.0 m.1) (in_each pairs_under k (n.0, k.owner) gs j (under k n.0 n.1)))

    below : (ks : List Owned) → Ascends value_cmp (owners_in ks) → Differs g ks
        → ((k : Owned) → In k ks → (value_cmp g.owner k.owner ≡ Less) ⊎ (g.owner ≡ k.owner))
        → (k : Owned) → In k ks → value_cmp g.owner k.owner ≡ Less
    below [] rest ne order k j = absurd j
    below (f ∷ ks) rest ne order k (inl e) =
        subst (λ (x : Owned). value_cmp g.owner x.owner ≡ Less) (sym e)
        (elim (order f (inl refl)) [ inl l ↦ l | inr is ↦ absurd (ne is) ])
    below (f ∷ ks) rest ne order k (inr j) = elim (order k (inr j)) [
      | inl l ↦ l
      | inr is ↦ absurd (
          let first : value_cmp g.owner f.owner ≡ Less =
          elim (order f (inl refl)) [ inl l ↦ l | inr e ↦ absurd (ne e) ] in
          not_both_before value_cmp_total f.owner k.owner
          (all_in (λ y. value_cmp f.owner y ≡ Less) (owners_in ks) k.owner rest.0
          (in_map (λ (x : Owned). x.owner) k ks j))
          (subst (λ z. value_cmp z f.owner ≡ Less) is first))
    ]

members_up : (o : Value) (ms : List Value) (rest : List (Value × Value))
    → Ascends owner_cmp (map (pair_with o) ms ++ rest) → Ascends value_cmp ms
members_up o [] rest up = tt
members_up o (m ∷ ms) rest up = (
  all_of (λ y. value_cmp m y ≡ Less) ms (λ y i.
      ap (λ r. ordering_then r (value_cmp m y)) (sym (tied_itself value_cmp_total o))
      ∙ all_in (λ q. owner_cmp (m, o) q ≡ Less) (map (pair_with o) ms ++ rest) (y, o) up.0
      (in_left (y, o) (map (pair_with o) ms) rest (in_map (pair_with o) y ms i))),
  members_up o ms rest up.1,
)

pub group_ascends : (gs : List Owned) (g : Owned) → Ascends owner_cmp (pairs_of gs) → In g gs
    → Ascends value_cmp g.members
group_ascends [] g up h = absurd h
group_ascends (k ∷ gs) g up (inl e) =
    subst (λ (x : Owned). Ascends value_cmp x.members) (sym e)
    (members_up k.owner k.members (pairs_of gs) up)
group_ascends (k ∷ gs) g up (inr h) =
    group_ascends gs g (behind owner_cmp (pairs_under k) (pairs_of gs) up) h

-- one group for each owner
pub one_group : (gs : List Owned) (g h : Owned) → Ascends value_cmp (owners_in gs) → In g gs
    → In h gs → g.owner ≡ h.owner → g ≡ h
one_group [] g h up i k e = absurd i
one_group (x ∷ gs) g h up (inl i) (inl k) e = i ∙ sym k
one_group (x ∷ gs) g h up (inl i) (inr k) e =
    absurd (not_before_itself value_cmp_total h.owner
    (subst (λ z. value_cmp z h.owner ≡ Less) (ap (λ (y : Owned). y.owner) (sym i) ∙ e)
    (all_in (λ y. value_cmp x.owner y ≡ Less) (owners_in gs) h.owner up.0
    (in_map (λ (y : Owned). y.owner) h gs k))))
one_group (x ∷ gs) g h up (inr i) (inl k) e =
    absurd (not_before_itself value_cmp_total g.owner
    (subst (λ z. value_cmp z g.owner ≡ Less) (ap (λ (y : Owned). y.owner) (sym k) ∙ sym e)
    (all_in (λ y. value_cmp x.owner y ≡ Less) (owners_in gs) g.owner up.0
    (in_map (λ (y : Owned). y.owner) g gs i))))
one_group (x ∷ gs) g h up (inr i) (inr k) e = one_group gs g h up.1 i k e

pub are_owners : (link : Link) (ps : List (Value × Value)) (gs : List Owned) → Ascends owner_cmp ps
    → ((q : Value × Value) → In q ps → In q (fin.entries link))
    → ((q : Value × Value) → In q (fin.entries link) → In q ps) → pairs_of gs ≡ ps → AreRuns gs
    → AreOwners link gs
are_owners link ps gs up to from is runs =
    let rise : Ascends owner_cmp (pairs_of gs) = subst (Ascends owner_cmp) (sym is) up in
    let order = owners_ascend gs runs rise in
    record {
      in_order = sorted value_cmp (owners_in gs) order;
      each = λ g h. members_are link g.owner g.members (group_ascends gs g rise h)
          (λ z k. in_pair link (z, g.owner)
          (to (z, g.owner) (subst (In (z, g.owner)) is
          (in_each pairs_under g (z, g.owner) gs h (under g z k)))))
          (λ z e.
          let x = group z g.owner e in
          subst (λ (y : Owned). In z y.members) (one_group gs x.0 g order x.1.0 h x.1.1) x.1.2);
      all = λ m o e. let x = group m o e in (x.0, x.1.0, x.1.1);
    }
  where
    group : (m o : Value) → fin.get link m ≡ Some o
        → (g : Owned) × (In g gs × (g.owner ≡ o) × In m g.members)
    group m o e =
        let g = from_each pairs_under (m, o) gs
        (subst (In (m, o)) (sym is) (from (m, o) (pair_in link m o e))) in
        let x = from_map (pair_with g.0.owner) (m, o) g.0.members g.2 in (
          g.0,
          (
            g.1,
            ap (λ (q : Value × Value). q.1) (sym x.2),
            subst (λ y. In y g.0.members) (ap (λ (q : Value × Value). q.0) (sym x.2)) x.1,
          ),
        )

pub owners_from : (link : Link) (es ps : List (Value × Value)) → fin.entries link ≡ es
    → IsPermutation es ps → IsSortedBy (λ a b. is_lt (owner_cmp a b)) ps
    → AreOwners link (with_pairs [] ps)
owners_from link es ps is perm up =
    let order : Ascends member_cmp es =
    subst (Ascends member_cmp) is (pairs_ascend (fin.entries link) (fin.entries_sorted link)) in
    are_owners link ps (with_pairs [] ps) (by_owner es ps perm up order)
    (λ q h. subst (In q) (sym is) (permuted_back es ps q perm h))
    (λ q h. permuted_in es ps q perm (subst (In q) is h))
    (all_pairs [] ps) (all_runs [] ps tt)

pub groups_from : (es ps : List (Value × Value)) (g : Owned) → IsPermutation es ps
    → In g (with_pairs [] ps) → IsGroupOf es g
groups_from es ps g perm h = record {
  some = each_some (with_pairs [] ps) g (all_runs [] ps tt) h;
  each = λ m k. permuted_back es ps (m, g.owner) perm
      (subst (In (m, g.owner)) (all_pairs [] ps)
      (in_each pairs_under g (m, g.owner) (with_pairs [] ps) h (under g m k)));
}
