-- What every kind of file proves, of B+ trees.
use Rattle.std.proofs.Common.{◌≡◌, ◌⊎◌, inl, inr, ℕ, zero, suc, ◌<◌, ◌≤◌, true, false, cond, List, [], ◌∷◌, ◌++◌, length, get_or, map, Option, Some, None, refl, sym, ap, subst, ◌∙◌, arith}
use Rattle.std.specs.Prelude.{◌==◌, slice_get, slice_index_or}
use Rattle.std.specs.Option.{unwrap_or}
use Rattle.std.specs.Ordering.{eq_by_cmp}
use Rattle.std.specs.Cmp.Lexicographic.{nat_list_cmp_total}
use Rattle.std.specs.FinMap as fin
use Rattle.std.proofs.lemmas.Bool.{cases_eq, eqb-true, and_from}
use Rattle.std.proofs.lemmas.Option.{unwrap_or-slice_get}
use Rattle.std.specs.Cmp.{first_so, second_so}
use Rattle.gx_laws.proofs.NumberLemmas.{number_itself}
use Rattle.gx_bytes.specs.declared.page.TheConstants.{NONE}
use Rattle.gx_ports.specs.declared.kinds.LeafKind.TheVariants as kinds
use Rattle.gx_ports.specs.declared.pages.Place.{Place}
use Rattle.gx_ports.specs.Files.{IsPlace, SameFor, AreFileLaws}
use Rattle.gx_ports.specs.LeafMaps.{LeafMap}
use Rattle.gx_ports.specs.Roots.{roots_of, roots_of_kind}
use Rattle.gx_ports.specs.Sheets.{Sheets, Ground, bytes_at}
use Rattle.gx_ports.proofs.KeyLemmas.{only_equal, tied}
use Rattle.gx_ports.proofs.PageLemmas.{bytes_same}
use Rattle.gx_slots.specs.Entries.{Entry}
use Rattle.gx_slots.specs.Page.{entries_of}
use Rattle.gx_slots.proofs.PageLemmas.{entries_of-page}
use Rattle.gx_bnode.specs.Branches.{Branch}
use Rattle.gx_btree.specs.Bplus.{IsBplus, IsOwned}
use Rattle.gx_btree.specs.Map.{has_entries, tree_entries_on, tree_entries_below, bplus_map}
use Rattle.gx_btree.specs.Tree.{In, BplusTree, BplusKids, leaf, node, last, more, first_of, branches_of, entries, kids_entries, pages, kids_pages, Stands, AllStand, ShowsEntries, ShowsInner}
use Rattle.gx_btree.proofs.KidLemmas.{stands_same}
use Rattle.gx_btree.proofs.MemberLemmas.{in_left, in_right, in_cases}
use Rattle.gx_btree.proofs.PageCountLemmas.{file_few}
use Rattle.gx_btree.proofs.SelectLemmas.{key_cmp, pair, at, found_in, same_option}
use Rattle.gx_btree.proofs.SheetLemmas.{get_below}

-- ---- it depends on its own pages alone

file_same : (ground : Ground) (place : Place) (s t : Sheets) (m : LeafMap)
    → SameFor ground place.owner s t
    → IsBplus ground place s m → IsBplus ground place t m
file_same ground place s t m same b = record {
  tree = b.tree;
  whole = record {
    root_is = b.whole.root_is;
    stands =
        stands_same (bytes_at s) (bytes_at t) b.tree
        (λ q i. bytes_same s t q (same.bytes q (b.past q i).past ((b.owned q).1 i))) b.whole.stands;
    ordered = b.whole.ordered;
    apart = b.whole.apart;
  };
  past = b.past;
  owned =
      λ q. ((λ o. (b.owned q).0 ((same.owned q).1 o)), (λ i. (same.owned q).0 ((b.owned q).1 i)));
  map_is = b.map_is;
}

-- ---- the map that is read is the one of the tree

-- a page of a tree is an entry page, whose entries are in the tree, or an inner page
abbrev IsSeen : (ℕ → List ℕ) → List Entry → ℕ → Type 0
IsSeen p all q =
    ((es : List Entry) × ShowsEntries (p q) es × ((x : Entry) → In x es → In x all))
    ⊎ ((first : ℕ) × (bs : List Branch) × ShowsInner (p q) first bs)

wider : (p : ℕ → List ℕ) (some all : List Entry) (q : ℕ) → ((x : Entry) → In x some → In x all)
    → IsSeen p some q → IsSeen p all q
wider p some all q f (inl a) = inl (a.0, a.1, λ x i. f x (a.2 x i))
wider p some all q f (inr b) = inr b

mutual
  page_seen : (p : ℕ → List ℕ) (t : BplusTree) (q : ℕ) → Stands p t → In q (pages t)
      → IsSeen p (entries t) q
  page_seen p (leaf r es) q stands i =
      elim i [
        | inl e ↦ inl (es, subst (λ n. ShowsEntries (p n) es) (sym e) stands, λ x j. j)
        | inr n ↦ absurd n
      ]
  page_seen p (node r kids) q stands i = elim i [
    | inl e ↦ inr (
      first_of kids,
      branches_of kids,
      subst (λ n. ShowsInner (p n) (first_of kids) (branches_of kids)) (sym e) stands.0,
    )
    | inr j ↦ kids_seen p kids q stands.1 j
  ]

  kids_seen : (p : ℕ → List ℕ) (kids : BplusKids) (q : ℕ) → AllStand p kids → In q (kids_pages kids)
      → IsSeen p (kids_entries kids) q
  kids_seen p (last t) q stand i = page_seen p t q stand i
  kids_seen p (more t s kids) q stand i = elim (in_cases q (pages t) (kids_pages kids) i) [
    | inl a ↦ wider p (entries t) (entries t ++ kids_entries kids) q
        (λ x j. in_left x (entries t) (kids_entries kids) j) (page_seen p t q stand.0 a)
    | inr b ↦ wider p (kids_entries kids) (entries t ++ kids_entries kids) q
        (λ x j. in_right x (entries t) (kids_entries kids) j) (kids_seen p kids q stand.1 b)
  ]

-- an entry of a tree stands on one of its entry pages
abbrev IsOnPage : (ℕ → List ℕ) → List ℕ → Entry → Type 0
IsOnPage p qs x = (q : ℕ) × In q qs × ((es : List Entry) × ShowsEntries (p q) es × In x es)

mutual
  on_page : (p : ℕ → List ℕ) (t : BplusTree) (x : Entry) → Stands p t → In x (entries t)
      → IsOnPage p (pages t) x
  on_page p (leaf r es) x stands i = (r, inl refl, (es, stands, i))
  on_page p (node r kids) x stands i = let f = on_kids p kids x stands.1 i in (f.0, inr f.1, f.2)

  on_kids : (p : ℕ → List ℕ) (kids : BplusKids) (x : Entry) → AllStand p kids
      → In x (kids_entries kids)
      → IsOnPage p (kids_pages kids) x
  on_kids p (last t) x stand i = on_page p t x stand i
  on_kids p (more t s kids) x stand i = elim (in_cases x (entries t) (kids_entries kids) i) [
    | inl a ↦ (let f = on_page p t x stand.0 a in
        (f.0, in_left f.0 (pages t) (kids_pages kids) f.1, f.2))
    | inr b ↦ (let f = on_kids p kids x stand.1 b in
        (f.0, in_right f.0 (pages t) (kids_pages kids) f.1, f.2))
  ]

-- where there is an entry, one is found
found_some : (es : List Entry) (k b : List ℕ) → In (at k b) es
    → (c : List ℕ) × (fin.find key_cmp k (map pair es) ≡ Some c)
found_some [] k b i = absurd i
found_some (e ∷ es) k b i =
    elim (eq_by_cmp key_cmp k e.key) as
    (λ t. eq_by_cmp key_cmp k e.key ≡ t
    → (c : List ℕ) × (cond t (Some e.body) (fin.find key_cmp k (map pair es)) ≡ Some c)) [
      | true ↦ λ _. (e.body, refl)
      | false ↦ λ other. elim i [
        | inl same ↦ (let is : true ≡ false = sym (tied e.key)
            ∙ ap (λ z. eq_by_cmp key_cmp z e.key) (sym (ap (λ (x : Entry). x.key) same))
            ∙ other in let no : ⊥ = cc in absurd no)
        | inr later ↦ found_some es k b later
      ]
    ] refl

-- an entry page of the owner has the entry
pub record IsOwnedEntry (owner : ℕ) (s : Sheets) (e : Entry) : Type 0 where
  pub page : ℕ
  pub owned : has_entries owner s page ≡ true
  pub here : In e (entries_of (bytes_at s page))

owned_from : (owner : ℕ) (s : Sheets) (n : ℕ) (e : Entry) → In e (tree_entries_below owner s n)
    → IsOwnedEntry owner s e
owned_from owner s zero e i = absurd i
owned_from owner s (suc n) e i =
    elim (in_cases e (tree_entries_on owner s n) (tree_entries_below owner s n) i) [
      | inl here ↦ elim (has_entries owner s n) as
          (λ b. has_entries owner s n ≡ b → In e (cond b (entries_of (bytes_at s n)) [])
          → IsOwnedEntry owner s e) [
            | true ↦ λ is j. record { page = n; owned = is; here = j }
            | false ↦ λ _ j. absurd j
          ] refl here
      | inr later ↦ owned_from owner s n e later
    ]

owned_to : (owner : ℕ) (s : Sheets) (n q : ℕ) (e : Entry) → q < n → has_entries owner s q ≡ true
    → In e (entries_of (bytes_at s q)) → In e (tree_entries_below owner s n)
owned_to owner s zero q e less is i = absurd (omega (arith, less))
owned_to owner s (suc n) q e less is i = elim (cases_eq q n) [
  | inl same ↦ in_left e (tree_entries_on owner s n) (tree_entries_below owner s n)
      (subst (λ b. In e (cond b (entries_of (bytes_at s n)) []))
      (sym (ap (has_entries owner s) (sym same) ∙ is))
      (subst (λ r. In e (entries_of (bytes_at s r))) same i))
  | inr other ↦ in_right e (tree_entries_on owner s n) (tree_entries_below owner s n)
      (owned_to owner s n q e (omega (arith, less, other)) is i)
]

module _ (ground : Ground) (place : Place) (s : Sheets) (m : LeafMap) (some : 1 ≤ place.owner)
    (b : IsBplus ground place s m) where
  shown : (o : Option ℕ) → unwrap_or o 0 ≡ place.owner → o ≡ Some place.owner
  shown None is = absurd (omega (arith, is, some))
  shown (Some n) is = ap Some is

  owner_at : (q : ℕ) → has_entries place.owner s q ≡ true → IsOwned place.owner s q
  owner_at q is =
      let here : slice_index_or s.owners q 0 ≡ place.owner =
      eqb-true (slice_index_or s.owners q 0) place.owner
      (first_so (slice_index_or s.owners q 0 == place.owner)
      (slice_index_or (bytes_at s q) 0 0 == 68) is) in
      shown (slice_get s.owners q) (unwrap_or-slice_get s.owners q 0 ∙ here)

  -- what is read stands in the tree
  read_in : (e : Entry) → In e (tree_entries_below place.owner s (length s.owners))
      → In e (entries b.tree)
  read_in e i =
      let o = owned_from place.owner s (length s.owners) e i in
      let kind : slice_index_or (bytes_at s o.page) 0 0 ≡ 68 =
      eqb-true (slice_index_or (bytes_at s o.page) 0 0) 68
      (second_so (slice_index_or s.owners o.page 0 == place.owner)
      (slice_index_or (bytes_at s o.page) 0 0 == 68) o.owned) in
      elim (page_seen (bytes_at s) b.tree o.page b.whole.stands
      ((b.owned o.page).0 (owner_at o.page o.owned))) [
        | inl a ↦ a.2 e (subst (In e) (entries_of-page a.0 NONE (bytes_at s o.page) a.1) o.here)
        | inr a ↦ (let other : slice_index_or (bytes_at s o.page) 0 0 ≡ 73 = ap
            (λ (xs : List ℕ). get_or xs 0 0) a.2.page.is in absurd (omega (arith, kind, other)))
      ]

  -- what stands in the tree is read
  in_read : (e : Entry) → In e (entries b.tree)
      → In e (tree_entries_below place.owner s (length s.owners))
  in_read e i =
      let o = on_page (bytes_at s) b.tree e b.whole.stands i in
      let mine : IsOwned place.owner s o.0 = (b.owned o.0).1 o.1 in
      let first : (slice_index_or s.owners o.0 0 == place.owner) ≡ true =
      ap (λ n. n == place.owner)
      (sym (unwrap_or-slice_get s.owners o.0 0) ∙ ap (λ x. unwrap_or x 0) mine)
      ∙ number_itself place.owner in
      let kind : slice_index_or (bytes_at s o.0) 0 0 ≡ 68 =
      ap (λ (xs : List ℕ). get_or xs 0 0) o.2.1.page.is in
      let second : (slice_index_or (bytes_at s o.0) 0 0 == 68) ≡ true =
      ap (λ n. n == 68) kind ∙ number_itself 68 in
      owned_to place.owner s (length s.owners) o.0 e (get_below s.owners o.0 place.owner mine)
      (and_from (slice_index_or s.owners o.0 0 == place.owner)
      (slice_index_or (bytes_at s o.0) 0 0 == 68) first second)
      (subst (In e) (sym (entries_of-page o.2.0 NONE (bytes_at s o.0) o.2.1)) o.2.2)

  found_at : (k : List ℕ) → fin.get (bplus_map ground place s) k ≡ fin.find key_cmp k
      (map pair (tree_entries_below place.owner s (length s.owners)))
  found_at k =
      fin.get-from_entries nat_list_cmp_total
      (map pair (tree_entries_below place.owner s (length s.owners))) k

  read_to : (k v : List ℕ) → fin.get (bplus_map ground place s) k ≡ Some v → fin.get m k ≡ Some v
  read_to k v is =
      (b.map_is k v).1 (read_in (at k v)
      (found_in (tree_entries_below place.owner s (length s.owners)) k v (sym (found_at k) ∙ is)))

  to_read : (k v : List ℕ) → fin.get m k ≡ Some v → fin.get (bplus_map ground place s) k ≡ Some v
  to_read k v is =
      let f = found_some (tree_entries_below place.owner s (length s.owners)) k v
      (in_read (at k v) ((b.map_is k v).0 is)) in
      let found : fin.get (bplus_map ground place s) k ≡ Some f.0 = found_at k ∙ f.1 in
      found ∙ sym (read_to k f.0 found) ∙ is

  one_map : bplus_map ground place s ≡ m
  one_map =
      fin.same_map nat_list_cmp_total only_equal (bplus_map ground place s) m
      (λ k. same_option (fin.get (bplus_map ground place s) k) (fin.get m k) (read_to k)
      (to_read k))

pub bplus_laws : (ground : Ground) (place : Place) → place.spec.kind ≡ kinds.Bplus
    → IsPlace ground place
    → AreFileLaws ground place (IsBplus ground place) (bplus_map ground place)
bplus_laws ground place kind is = record {
  one = λ s m b. one_map ground place s m is.least b;
  same = λ old new m same b. file_same ground place old new m same b;
  few = λ s m b.
      let roots : roots_of place.spec ≡ 1 = ap roots_of_kind kind in
      let few = file_few ground place s m b in
      omega (arith, roots, few);
}
