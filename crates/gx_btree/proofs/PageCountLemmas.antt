-- A tree has few pages beside its entries.
use Rattle.std.proofs.Common.{◌≡◌, ℕ, ◌+◌, ◌*◌, ◌≤◌, List, [], ◌∷◌, length, subst, ap, ◌∙◌, arith}
use Rattle.std.specs.List.{Contains}
use Rattle.std.specs.FinMap as fin
use Rattle.std.proofs.lemmas.List.{length-append, length-map}
use Rattle.gx_ports.specs.declared.pages.Place.{Place}
use Rattle.gx_ports.specs.Files.{page_count}
use Rattle.gx_ports.specs.LeafMaps.{LeafMap}
use Rattle.gx_ports.specs.Sheets.{Sheets, Ground, bytes_at}
use Rattle.gx_ports.proofs.CountLemmas.{count_listed}
use Rattle.gx_slots.specs.Entries.{Entry}
use Rattle.gx_btree.specs.Bplus.{IsBplus}
use Rattle.gx_btree.specs.Tree.{In, BplusTree, BplusKids, leaf, node, last, more, entries, kids_entries, pages, kids_pages, Stands, AllStand, Ordered, AreOrdered, IsFilled}
use Rattle.gx_btree.proofs.EntryLemmas.{place_in}
use Rattle.gx_btree.proofs.KidLemmas.{some_key}
use Rattle.gx_btree.proofs.SelectLemmas.{pair, tree_up, map_entries}

some_entry : (es : List Entry) (x : Entry) → In x es → 1 ≤ length es
some_entry [] x i = absurd i
some_entry (e ∷ es) x i = omega arith

mutual
  -- twice the entries are more than the pages
  few_pages : (p : ℕ → List ℕ) (t : BplusTree) → Stands p t → Ordered t → IsFilled t
      → length (pages t) + 1 ≤ 2 * length (entries t)
  few_pages p (leaf q es) stands ordered filled = let o = some_entry es filled.0 filled.1 in
      omega (arith, o)
  few_pages p (node q (last t)) stands ordered filled = let s = stands.0.some in
      absurd (omega (arith, s))
  few_pages p (node q (more t s kids)) stands ordered filled =
      let a = few_pages p t stands.1.0 ordered.0 ordered.1 in
      let b = few_below p kids stands.1.1 ordered.4 in
      let k = length-append (entries t) (kids_entries kids) in
      let n = length-append (pages t) (kids_pages kids) in
      omega (arith, a, b, k, n)

  few_below : (p : ℕ → List ℕ) (kids : BplusKids) → AllStand p kids → AreOrdered kids
      → length (kids_pages kids) + 1 ≤ 2 * length (kids_entries kids)
  few_below p (last t) stand ordered = few_pages p t stand ordered.0 ordered.1
  few_below p (more t s kids) stand ordered =
      let a = few_pages p t stand.0 ordered.0 ordered.1 in
      let b = few_below p kids stand.1 ordered.4 in
      let k = length-append (entries t) (kids_entries kids) in
      let n = length-append (pages t) (kids_pages kids) in
      omega (arith, a, b, k, n)

pub tree_few : (p : ℕ → List ℕ) (t : BplusTree) → Stands p t → Ordered t
    → length (pages t) ≤ 1 + 2 * length (entries t)
tree_few p (leaf q es) stands ordered = omega arith
tree_few p (node q kids) stands ordered = let f =
    few_pages p (node q kids) stands ordered (some_key kids ordered) in omega (arith, f)

pub contains_of : (x : ℕ) (xs : List ℕ) → In x xs → Contains xs x
contains_of x xs i = let p = place_in x xs i in (p.place, p.below, p.is x)

pub map_many : (ground : Ground) (place : Place) (s : Sheets) (m : LeafMap)
    (b : IsBplus ground place s m)
    → fin.len m ≡ length (entries b.tree)
map_many ground place s m b =
    fin.len-entries m
    ∙ ap length (map_entries m (entries b.tree) (tree_up b.tree b.whole.ordered) b.map_is)
    ∙ length-map (entries b.tree) pair

pub file_few : (ground : Ground) (place : Place) (s : Sheets) (m : LeafMap)
    → IsBplus ground place s m
    → page_count place.owner s ≤ 1 + 2 * fin.len m
file_few ground place s m b =
    let listed =
    count_listed s.owners place.owner 0 (pages b.tree)
    (λ q o. subst (Contains (pages b.tree)) (let z : q ≡ 0 + q = omega arith in z)
    (contains_of q (pages b.tree) ((b.owned q).0 o))) in
    let few = tree_few (bytes_at s) b.tree b.whole.stands b.whole.ordered in
    let many = map_many ground place s m b in
    omega (arith, listed, few, many)
